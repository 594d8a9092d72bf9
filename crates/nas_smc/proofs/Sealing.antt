-- The messages of the code below are those of the written machine.
use Rattle.std.proofs.Common.{◌≡◌, ◌≢◌, ℕ, Bool, true, false, cond, List, refl, ap, sym, ◌∙◌}
use Rattle.std.specs.Str.{bytes_eq}
use Rattle.std.proofs.lemmas.Slice.Eq.{bytes_eq-Decides}
use Rattle.nas_guard.specs.Open.{mac_in, covered_in, sent_in}
use Rattle.lte_machine.specs.Opening.{Opening, OpensNas, Opened, Differs, open_octets, by_macs}
use Rattle.rec_base.specs.declared.uses.Dir.{Dir}
use Rattle.nas_guard.specs.{Cipher.ciphered, Cipher.mac_of, Keys.Keys}
use Rattle.nas_guard.specs.Seal.{is_ciphered, nas_bearer, sealed, sent_text}
use Rattle.lte_machine.specs.Ciphers.{annex_b, ciphered_by, nas_octets}
use Rattle.lte_machine.specs.Wire.{ciphering_if, nas_use, nas_ciphering}

by_test : (b : Bool) (keys : Keys (List ℕ)) (count : ℕ) (dir : Dir) (text : List ℕ)
    → cond b (ciphered keys.algs.eea keys.enc count nas_bearer dir text) text ≡ ciphered_by annex_b (ciphering_if b (nas_ciphering dir keys count)) text
by_test true keys count dir text = refl
by_test false keys count dir text = refl

-- the text as sent
pub sent_text_is : (keys : Keys (List ℕ)) (header count : ℕ) (dir : Dir) (text : List ℕ)
    → sent_text keys header count dir text ≡ ciphered_by annex_b (ciphering_if (is_ciphered header) (nas_ciphering dir keys count)) text
unfolding sent_text
sent_text_is keys header count dir text = by_test (is_ciphered header) keys count dir text

-- a message
pub sealed_is : (keys : Keys (List ℕ)) (header count : ℕ) (dir : Dir) (text : List ℕ)
    → sealed keys header count dir text
    ≡ nas_octets annex_b header (nas_use dir keys.int count)
    (ciphering_if (is_ciphered header) (nas_ciphering dir keys count)) text
unfolding sealed nas_octets
sealed_is keys header count dir text = rw (sent_text_is keys header count dir text) refl

differs : (wanted got text : List ℕ) → wanted ≢ got → (b : Bool) → bytes_eq wanted got ≡ b → by_macs b wanted got text ≡ Differs wanted got
differs wanted got text h true e = absurd (h ((bytes_eq-Decides wanted got).0 e))
differs wanted got text h false e = refl

module _ (keys : Keys (List ℕ)) (header count : ℕ) (dir : Dir) (pdu : List ℕ) where
  -- the opening of a message
  abbrev pub opening : Opening (List ℕ)
  opening = OpensNas (nas_use dir keys.int count) (ciphering_if (is_ciphered header) (nas_ciphering dir keys count))

  -- a message whose MAC is right
  pub opens_so : (text : List ℕ) → mac_of keys.int count nas_bearer dir (covered_in pdu) ≡ mac_in pdu
      → text ≡ sent_text keys header count dir (sent_in pdu) → open_octets annex_b opening pdu ≡ Opened text
  unfolding open_octets
  opens_so text mac is =
      let wanted = mac_of keys.int count nas_bearer dir (covered_in pdu) in
      let plain = ciphered_by annex_b (ciphering_if (is_ciphered header) (nas_ciphering dir keys count)) (sent_in pdu) in
      ap (λ b. by_macs b wanted (mac_in pdu) plain) ((bytes_eq-Decides wanted (mac_in pdu)).1 mac)
      ∙ ap Opened (sym (is ∙ sent_text_is keys header count dir (sent_in pdu)))

  -- and one whose MAC is wrong
  pub fails_so : (wanted got : List ℕ) → wanted ≡ mac_of keys.int count nas_bearer dir (covered_in pdu) → got ≡ mac_in pdu → wanted ≢ got
      → open_octets annex_b opening pdu ≡ Differs wanted got
  unfolding open_octets
  fails_so wanted got w g h = rw (← w, ← g) (differs wanted got _ h (bytes_eq wanted got) refl)
