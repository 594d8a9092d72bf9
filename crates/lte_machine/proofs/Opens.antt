-- A sealed record opens by the uses of its sender as it opens by its octets, unless that is a coincidence.
use Rattle.std.proofs.Common.{◌≡◌, ℕ, ◌+◌, ◌-◌, ◌%◌, Bool, true, false, List, [], ◌∷◌, ◌++◌, length, take, drop, Option, Some, None, refl, ap, sym, ◌∙◌, arith}
use Rattle.std.specs.Str.{bytes_eq}
use Rattle.std.proofs.lemmas.Slice.Eq.{bytes_eq-Decides}
use Rattle.std.proofs.lemmas.List.{take_at, drop_at, length-append}
use Rattle.nas_guard.specs.{Seal.first_octet, Open.mac_in, Open.sent_in}
use Rattle.lte_machine.specs.Wire.{KeyUse, Ciphering, Outgoing, SealedNas, PlainNas, SealedRrc, UserPacket, Between, integrity_of}
use Rattle.lte_machine.specs.Ciphers.{Ciphers, ciphered_by, nas_octets, srb_octets, drb_octets, octets_of}
use Rattle.key_model.specs.HandoverTable.{NumberedKey}
use Rattle.s1x2_rec.specs.Fields.{Fields}
use Rattle.lte_machine.specs.Opening.{Opening, OpensNothing, OpensNas, OpensSrb, OpensDrb, Opened, Differs, accepted_of, by_macs, decided, open_octets, open_foreign, open_by_uses, open_case, judged, same_uses, same_ciphering, nas_wanted, srb_wanted, srb_got, srb_text}
use Rattle.lte_machine.specs.Tuples.{Tuples, tuple_coincidence, same_sender, tuples_unless}
use Rattle.lte_machine.proofs.CipherLaws.{AreCiphers}

-- uses and cipherings that are one by the test have one MAC and one keystream
pub record Respects {K : Type 0} (same : K → K → Bool) (c : Ciphers K) : Type 0 where
  pub macs : (u v : KeyUse K) → same_uses same u v ≡ true → c.mac u ≡ c.mac v
  pub crypts : (e f : Option (Ciphering K)) → same_ciphering same e f ≡ true → ciphered_by c e ≡ ciphered_by c f

-- a text ciphered twice is the text, and as long
twice : {K : Type 0} (c : Ciphers K) → AreCiphers c → (e : Option (Ciphering K)) (text : List ℕ) → ciphered_by c e (ciphered_by c e text) ≡ text
twice c good None text = refl
twice c good (Some e) text = good.crypt_twice e text

as_long : {K : Type 0} (c : Ciphers K) → AreCiphers c → (e : Option (Ciphering K)) (text : List ℕ) → length (ciphered_by c e text) ≡ length text
as_long c good None text = refl
as_long c good (Some e) text = good.crypt_length e text

-- equal MACs let the text pass
passes : (wanted got text : List ℕ) → wanted ≡ got → decided wanted got text ≡ Opened text
passes wanted got text e = ap (λ b. by_macs b wanted got text) ((bytes_eq-Decides wanted got).1 e)

-- a NAS message opens to its text under its own uses
pub nas_opens : {K : Type 0} (c : Ciphers K) → AreCiphers c → (header : ℕ) (i u : KeyUse K) (f e : Option (Ciphering K)) (text : List ℕ)
    → c.mac u ≡ c.mac i → ciphered_by c e ≡ ciphered_by c f
    → open_octets c (OpensNas u e) (nas_octets c header i f text) ≡ Opened text
unfolding open_octets nas_octets
nas_opens c good header i u f e text macs crypts =
    let covered = i.count % 256 ∷ ciphered_by c f text in
    let mac = c.mac i covered in
    let four = good.mac_length i covered in
    let pdu = first_octet header ∷ mac ++ covered in
    let tail : drop 4 (mac ++ covered) ≡ covered = drop_at mac covered 4 four in
    let got : mac_in pdu ≡ mac = take_at mac covered 4 four in
    let text_is : ciphered_by c e (sent_in pdu) ≡ text =
    ap (ciphered_by c e) (after_mac mac covered four) ∙ (λ j. crypts j (ciphered_by c f text)) ∙ twice c good f text in
    let wanted : nas_wanted c u pdu ≡ mac = ap (c.mac u) tail ∙ (λ j. macs j covered) in
    passes (nas_wanted c u pdu) (mac_in pdu) (ciphered_by c e (sent_in pdu)) (wanted ∙ sym got) ∙ ap Opened text_is
  where
    after_mac : (mac covered : List ℕ) → length mac ≡ 4 → drop 5 (mac ++ covered) ≡ drop 1 covered
    after_mac [] covered h = absurd (omega arith)
    after_mac (a ∷ []) covered h = absurd (omega arith)
    after_mac (a ∷ b ∷ []) covered h = absurd (omega arith)
    after_mac (a ∷ b ∷ d ∷ []) covered h = absurd (omega arith)
    after_mac (a ∷ b ∷ d ∷ g ∷ []) covered h = refl
    after_mac (a ∷ b ∷ d ∷ g ∷ x ∷ mac) covered h = absurd (omega arith)

-- a PDU of an SRB opens to its text under its own uses
pub srb_opens : {K : Type 0} (c : Ciphers K) → AreCiphers c → (i u : KeyUse K) (f e : Option (Ciphering K)) (text : List ℕ)
    → c.mac u ≡ c.mac i → ciphered_by c e ≡ ciphered_by c f
    → open_octets c (OpensSrb u e) (srb_octets c i f text) ≡ Opened text
unfolding open_octets srb_octets
srb_opens c good i u f e text macs crypts =
    let header = i.count % 32 in
    let mac = c.mac i (header ∷ text) in
    let four = good.mac_length i (header ∷ text) in
    let sent = ciphered_by c f (text ++ mac) in
    let pdu = header ∷ sent in
    let long : length pdu - 5 ≡ length text =
    let l : length sent ≡ length text + length mac = as_long c good f (text ++ mac) ∙ length-append text mac in omega arith in
    let plain : ciphered_by c e sent ≡ text ++ mac = (λ j. crypts j sent) ∙ twice c good f (text ++ mac) in
    let text_is : srb_text c e pdu ≡ text =
    (λ j. take (long j) (plain j)) ∙ take_at text mac (length text) refl in
    let got : srb_got c e pdu ≡ mac =
    (λ j. drop (long j) (plain j)) ∙ drop_at text mac (length text) refl in
    let wanted : srb_wanted c u e pdu ≡ mac = (λ j. macs j (header ∷ text_is j)) in
    passes (srb_wanted c u e pdu) (srb_got c e pdu) (srb_text c e pdu) (wanted ∙ sym got) ∙ ap Opened text_is

-- a packet on a DRB opens to its text under its own use
pub drb_opens : {K : Type 0} (c : Ciphers K) → AreCiphers c → (f e : Ciphering K) (text : List ℕ)
    → c.crypt e ≡ c.crypt f → open_octets c (OpensDrb e) (drb_octets c f text) ≡ Opened text
unfolding open_octets drb_octets
drb_opens c good f e text crypts = ap Opened ((λ j. crypts j (c.crypt f text)) ∙ good.crypt_twice f text)

-- octets that are not accepted show both MACs
module _ {K : Type 0} (c : Ciphers K) (same : K → K → Bool) where
  not_accepted : (b : Bool) (u : KeyUse K) (sender : Option (KeyUse K)) (wanted got text : List ℕ) → same_sender same sender u ≡ false
      → tuple_coincidence same sender (accepted_of (OpensNas u None) (by_macs b wanted got text)) ≡ None → by_macs b wanted got text ≡ Differs wanted got
  not_accepted false u sender wanted got text other calm = refl
  not_accepted true u sender wanted got text other calm =
      let coincidence : tuple_coincidence same sender (Some u) ≡ Some (Tuples sender u) = ap (λ b. tuples_unless b sender u) other in
      cc

  pub nas_foreign : (u : KeyUse K) (e : Option (Ciphering K)) (pdu : List ℕ) (sender : Option (KeyUse K)) → same_sender same sender u ≡ false
      → tuple_coincidence same sender (accepted_of (OpensNas u e) (open_octets c (OpensNas u e) pdu)) ≡ None
      → open_foreign c (OpensNas u e) pdu ≡ open_octets c (OpensNas u e) pdu
  unfolding open_octets open_foreign
  nas_foreign u e pdu sender other calm =
      sym (by_test (bytes_eq (nas_wanted c u pdu) (mac_in pdu)) calm)
    where
      by_test : (b : Bool)
          → tuple_coincidence same sender
          (accepted_of (OpensNas u e) (by_macs b (nas_wanted c u pdu) (mac_in pdu) (ciphered_by c e (sent_in pdu))))
          ≡ None
          → by_macs b (nas_wanted c u pdu) (mac_in pdu) (ciphered_by c e (sent_in pdu)) ≡ Differs (nas_wanted c u pdu) (mac_in pdu)
      by_test true h = not_accepted true u sender (nas_wanted c u pdu) (mac_in pdu) (ciphered_by c e (sent_in pdu)) other h
      by_test false h = refl

  pub srb_foreign : (u : KeyUse K) (e : Option (Ciphering K)) (pdu : List ℕ) (sender : Option (KeyUse K)) → same_sender same sender u ≡ false
      → tuple_coincidence same sender (accepted_of (OpensSrb u e) (open_octets c (OpensSrb u e) pdu)) ≡ None
      → open_foreign c (OpensSrb u e) pdu ≡ open_octets c (OpensSrb u e) pdu
  unfolding open_octets open_foreign
  srb_foreign u e pdu sender other calm =
      sym (by_test (bytes_eq (srb_wanted c u e pdu) (srb_got c e pdu)) calm)
    where
      by_test : (b : Bool)
          → tuple_coincidence same sender
          (accepted_of (OpensSrb u e) (by_macs b (srb_wanted c u e pdu) (srb_got c e pdu) (srb_text c e pdu)))
          ≡ None
          → by_macs b (srb_wanted c u e pdu) (srb_got c e pdu) (srb_text c e pdu) ≡ Differs (srb_wanted c u e pdu) (srb_got c e pdu)
      by_test true h = not_accepted true u sender (srb_wanted c u e pdu) (srb_got c e pdu) (srb_text c e pdu) other h
      by_test false h = refl

-- a record opens alike by the uses of its sender and by its octets, where that is no coincidence
module _ {K C : Type 0} (c : Ciphers K) (good : AreCiphers c) (same : K → K → Bool) (respects : Respects same c)
    (between : Fields → Option (NumberedKey K C) → List ℕ) where
  pub nas_alike : (u : KeyUse K) (e : Option (Ciphering K)) (x : Outgoing K C)
      → tuple_coincidence same (integrity_of x) (accepted_of (OpensNas u e) (open_octets c (OpensNas u e) (octets_of c between x))) ≡ None
      → open_by_uses same c (OpensNas u e) (octets_of c between x) (Some x) ≡ open_octets c (OpensNas u e) (octets_of c between x)
  nas_alike u e (SealedNas dir header i f text) calm = by_tests (same_uses same u i) (same_ciphering same e f) refl refl
    where
      by_tests : (a b : Bool) → same_uses same u i ≡ a → same_ciphering same e f ≡ b
          → open_case c (OpensNas u e) (nas_octets c header i f text) (judged a b text) ≡ open_octets c (OpensNas u e) (nas_octets c header i f text)
      by_tests true true one two = sym (nas_opens c good header i u f e text (respects.macs u i one) (respects.crypts e f two))
      by_tests true false one two = refl
      by_tests false b one two = nas_foreign c same u e (nas_octets c header i f text) (Some i) one calm
  nas_alike u e (SealedRrc dir station air srb i f text) calm = by_test (same_uses same u i) refl
    where
      by_test : (a : Bool) → same_uses same u i ≡ a
          → open_case c (OpensNas u e) (srb_octets c i f text) (judged a false text) ≡ open_octets c (OpensNas u e) (srb_octets c i f text)
      by_test true one = refl
      by_test false one = nas_foreign c same u e (srb_octets c i f text) (Some i) one calm
  nas_alike u e (PlainNas octets) calm = nas_foreign c same u e octets None refl calm
  nas_alike u e (UserPacket dir station air drb f text) calm = nas_foreign c same u e (drb_octets c f text) None refl calm
  nas_alike u e (Between to fields key) calm = nas_foreign c same u e (between fields key) None refl calm

  pub srb_alike : (u : KeyUse K) (e : Option (Ciphering K)) (x : Outgoing K C)
      → tuple_coincidence same (integrity_of x) (accepted_of (OpensSrb u e) (open_octets c (OpensSrb u e) (octets_of c between x))) ≡ None
      → open_by_uses same c (OpensSrb u e) (octets_of c between x) (Some x) ≡ open_octets c (OpensSrb u e) (octets_of c between x)
  srb_alike u e (SealedRrc dir station air srb i f text) calm = by_tests (same_uses same u i) (same_ciphering same e f) refl refl
    where
      by_tests : (a b : Bool) → same_uses same u i ≡ a → same_ciphering same e f ≡ b
          → open_case c (OpensSrb u e) (srb_octets c i f text) (judged a b text) ≡ open_octets c (OpensSrb u e) (srb_octets c i f text)
      by_tests true true one two = sym (srb_opens c good i u f e text (respects.macs u i one) (respects.crypts e f two))
      by_tests true false one two = refl
      by_tests false b one two = srb_foreign c same u e (srb_octets c i f text) (Some i) one calm
  srb_alike u e (SealedNas dir header i f text) calm = by_test (same_uses same u i) refl
    where
      by_test : (a : Bool) → same_uses same u i ≡ a
          → open_case c (OpensSrb u e) (nas_octets c header i f text) (judged a false text) ≡ open_octets c (OpensSrb u e) (nas_octets c header i f text)
      by_test true one = refl
      by_test false one = srb_foreign c same u e (nas_octets c header i f text) (Some i) one calm
  srb_alike u e (PlainNas octets) calm = srb_foreign c same u e octets None refl calm
  srb_alike u e (UserPacket dir station air drb f text) calm = srb_foreign c same u e (drb_octets c f text) None refl calm
  srb_alike u e (Between to fields key) calm = srb_foreign c same u e (between fields key) None refl calm

  -- and so does what nobody sent
  pub unsent_alike : (p : Opening K) (pdu : List ℕ) → tuple_coincidence same None (accepted_of p (open_octets c p pdu)) ≡ None
      → open_by_uses {C = C} same c p pdu None ≡ open_octets c p pdu
  unsent_alike OpensNothing pdu calm = refl
  unsent_alike (OpensNas u e) pdu calm = nas_foreign c same u e pdu None refl calm
  unsent_alike (OpensSrb u e) pdu calm = srb_foreign c same u e pdu None refl calm
  unsent_alike (OpensDrb e) pdu calm = refl

  pub sent_alike : (p : Opening K) (x : Outgoing K C)
      → tuple_coincidence same (integrity_of x) (accepted_of p (open_octets c p (octets_of c between x))) ≡ None
      → open_by_uses same c p (octets_of c between x) (Some x) ≡ open_octets c p (octets_of c between x)
  sent_alike OpensNothing x calm = refl
  sent_alike (OpensNas u e) x calm = nas_alike u e x calm
  sent_alike (OpensSrb u e) x calm = srb_alike u e x calm
  sent_alike (OpensDrb e) x calm = refl
