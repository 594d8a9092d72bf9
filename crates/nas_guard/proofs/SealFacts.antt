-- What was sealed opens, and what opens was sealed.
use Rattle.std.proofs.Common.{◌≡◌, ℕ, suc, ◌-◌, ◌*◌, ◌/◌, ◌%◌, ◌<◌, ◌≤◌, nat_lt, Bool, true, false, if◌then◌else◌, List, [], ◌∷◌, ◌++◌, length, drop, Result, Ok, Err, refl, ap, sym, ◌∙◌, subst, arith}
use Rattle.std.specs.{Str.bytes_eq, List.range_with_len, Prelude.fold, Prelude.map}
use Rattle.std.proofs.{lemmas.Slice.Eq.bytes_eq-Decides, lemmas.List.length-take-le, lemmas.Bool.Decides.nat_tests, lemmas.List.Sums.fold-append}
use Rattle.aes_core.proofs.AesLemmas.{length-aes}
use Rattle.rec_base.specs.{Header.header_of, declared.uses.Dir.Dir}
use Rattle.cmac_eia2.specs.Cmac.{cmac_of, block_at, blocks_before, chained, masked_last, xor_blocks, zero_block}
use Rattle.nas_count.specs.{declared.sending.CountSpent.CountSpent, Estimate.nas_count_limit, Estimate.estimate_of}
use Rattle.alg_choice.specs.declared.algs.Eea.{Eea}
use Rattle.alg_choice.specs.declared.algs.Eea.TheVariants.{Eea0, Eea2}
use Rattle.ctr_eea2.proofs.CombinedLemmas.{eea2_of-eea2_of}
use Rattle.cmac_eia2.specs.Eia2.{eia2_of}
use Rattle.key_model.specs.Least.{least}
use Rattle.key_model.proofs.LeastFacts.{least_in_window, least_is}
use Rattle.nas_guard.specs.{declared.opening.Opened.Opened, Cipher.ciphered, Cipher.mac_of, Keys.Keys, declared.opening.OpenFault.OpenFault}
use Rattle.nas_guard.specs.Seal.{is_ciphered, nas_bearer, sent_text, first_octet, sealed}
use Rattle.nas_guard.specs.Open.{opened, opened_by, opened_at, is_protected, mac_at, mac_in, sent_in, sn_in, first_in, header_in, IsProtected, Opens}
use Rattle.nas_guard.specs.declared.opening.OpenFault.TheVariants.{Short, BadHeader, MacFails}

-- to cipher twice gives the text back
pub ciphered-ciphered : (eea : Eea) (key : List ℕ) (count bearer : ℕ) (dir : Dir) (text : List ℕ)
    → ciphered eea key count bearer dir (ciphered eea key count bearer dir text) ≡ text
unfolding ciphered
ciphered-ciphered Eea0 key count bearer dir text = refl
ciphered-ciphered Eea2 key count bearer dir text = eea2_of-eea2_of (drop 16 key) count bearer dir text

-- the text of the text as sent is the text
pub sent_text-sent_text : (keys : Keys (List ℕ)) (header count : ℕ) (dir : Dir) (text : List ℕ)
    → sent_text keys header count dir (sent_text keys header count dir text) ≡ text
unfolding sent_text
sent_text-sent_text keys header count dir text = by_type (is_ciphered header)
  where
    by_type : (b : Bool)
        → (if b then
        ciphered keys.algs.eea keys.enc count nas_bearer dir
        (if b then ciphered keys.algs.eea keys.enc count nas_bearer dir text else text)
        else (if b then ciphered keys.algs.eea keys.enc count nas_bearer dir text else text))
        ≡ text
    by_type true = ciphered-ciphered keys.algs.eea keys.enc count nas_bearer dir text
    by_type false = refl

-- a first octet holds its header type
pub header-first_octet : (header : ℕ) → first_octet header / 16 ≡ header
header-first_octet header = omega arith

pub discriminator-first_octet : (header : ℕ) → first_octet header % 16 ≡ 7
discriminator-first_octet header = omega arith

-- a CMAC has 16 octets
length-cmac_of : (key message : List ℕ) → length (cmac_of key message) ≡ 16
unfolding cmac_of
length-cmac_of key message =
    let before = blocks_before message in
    let blocks = map (block_at message) (range_with_len 0 before) in
    let last = masked_last key (drop (16 * before) message) in
    ap length (fold-append (chained key) zero_block blocks (last ∷ []))
    ∙ length-aes key (xor_blocks (fold (chained key) zero_block blocks) last)

-- a MAC has four octets
pub length-mac_of : (key : List ℕ) (count bearer : ℕ) (dir : Dir) (text : List ℕ) → length (mac_of key count bearer dir text) ≡ 4
unfolding mac_of eia2_of
length-mac_of key count bearer dir text =
    let long = length-cmac_of (drop 16 key) (header_of count bearer dir ++ text) in
    length-take-le 4 (cmac_of (drop 16 key) (header_of count bearer dir ++ text)) (omega arith)

-- the first octet of a header type 1 to 4 is that of a protected message
pub is_protected-first_octet : (header : ℕ) → 1 ≤ header → header ≤ 4 → is_protected (first_octet header) ≡ true
is_protected-first_octet header low high =
    rw (discriminator-first_octet header, header-first_octet header) (grind (arith, nat_tests))

-- a COUNT below 2^24 that is the least with its sequence number is estimated
pub estimate_of-is : (next sn count : ℕ) → least next sn 256 ≡ count → count < nas_count_limit → estimate_of next sn ≡ Ok count
unfolding estimate_of
estimate_of-is next sn count is_least below =
    let test : nat_lt count nas_count_limit ≡ true = grind (arith, nat_tests) in
    rw (is_least, test) refl

not_short : (n : ℕ) → nat_lt (suc (suc (suc (suc (suc (suc n)))))) 6 ≡ false
not_short n = grind (arith, nat_tests)

-- what six octets and more open to, where the MAC is right
opened-octets : (keys : Keys (List ℕ)) (header count next : ℕ) (dir : Dir) (mac : List ℕ) (sn : ℕ) (sent : List ℕ) → length mac ≡ 4
    → is_protected (first_octet header) ≡ true → estimate_of next sn ≡ Ok count → mac_of keys.int count nas_bearer dir (sn ∷ sent) ≡ mac
    → opened keys next dir (first_octet header ∷ mac ++ sn ∷ sent) ≡ Ok (record { header = header; count = count; text = sent_text keys header count dir sent })
unfolding opened
opened-octets keys header count next dir [] sn sent long protected estimate same = absurd (omega arith)
opened-octets keys header count next dir (a ∷ []) sn sent long protected estimate same = absurd (omega arith)
opened-octets keys header count next dir (a ∷ b ∷ []) sn sent long protected estimate same = absurd (omega arith)
opened-octets keys header count next dir (a ∷ b ∷ c ∷ []) sn sent long protected estimate same = absurd (omega arith)
opened-octets keys header count next dir (a ∷ b ∷ c ∷ d ∷ []) sn sent long protected estimate same =
    let same_mac = (bytes_eq-Decides (a ∷ b ∷ c ∷ d ∷ []) (a ∷ b ∷ c ∷ d ∷ [])).1 refl in
    rw (not_short (length sent), protected, estimate, same, same_mac, header-first_octet header) refl
opened-octets keys header count next dir (a ∷ b ∷ c ∷ d ∷ e ∷ mac) sn sent long protected estimate same = absurd (omega arith)

-- what was sealed opens
pub opened-sealed : (keys : Keys (List ℕ)) (header count next : ℕ) (dir : Dir) (text : List ℕ)
    → 1 ≤ header → header ≤ 4 → count < nas_count_limit → least next (count % 256) 256 ≡ count
    → opened keys next dir (sealed keys header count dir text) ≡ Ok (record { header = header; count = count; text = text })
unfolding sealed
opened-sealed keys header count next dir text low high below is_least =
    let sent = sent_text keys header count dir text in
    opened-octets keys header count next dir (mac_of keys.int count nas_bearer dir (count % 256 ∷ sent)) (count % 256)
    sent (length-mac_of _ _ _ _ _) (is_protected-first_octet header low high)
    (estimate_of-is next (count % 256) count is_least below) refl
    ∙ rw (sent_text-sent_text keys header count dir text) refl

-- a COUNT fewer than 256 above the next one is the least with its sequence number
pub expected-is_least : (next count : ℕ) → next ≤ count → count - next < 256 → least next (count % 256) 256 ≡ count
expected-is_least next count above few = (least_in_window next count 256 (omega arith) above).1 few

-- what opens was sealed, octet by octet
was_sealed : (keys : Keys (List ℕ)) (next : ℕ) (dir : Dir) (pdu : List ℕ) (count : ℕ) → 6 ≤ length pdu → first_in pdu % 16 ≡ 7
    → count % 256 ≡ sn_in pdu → mac_at keys dir pdu count ≡ mac_in pdu
    → pdu ≡ sealed keys (header_in pdu) count dir (sent_text keys (header_in pdu) count dir (sent_in pdu))
unfolding sealed
was_sealed keys next dir [] count long seven sn mac = absurd (omega arith)
was_sealed keys next dir (f ∷ []) count long seven sn mac = absurd (omega arith)
was_sealed keys next dir (f ∷ a ∷ []) count long seven sn mac = absurd (omega arith)
was_sealed keys next dir (f ∷ a ∷ b ∷ []) count long seven sn mac = absurd (omega arith)
was_sealed keys next dir (f ∷ a ∷ b ∷ c ∷ []) count long seven sn mac = absurd (omega arith)
was_sealed keys next dir (f ∷ a ∷ b ∷ c ∷ d ∷ []) count long seven sn mac = absurd (omega arith)
was_sealed keys next dir (f ∷ a ∷ b ∷ c ∷ d ∷ e ∷ sent) count long seven sn mac =
    let first : first_octet (f / 16) ≡ f = omega arith in
    rw (sent_text-sent_text keys (f / 16) count dir sent, sn, mac, first) refl

pub sealed-opened : (keys : Keys (List ℕ)) (next : ℕ) (dir : Dir) (pdu : List ℕ) (o : Opened) → sn_in pdu < 256 → Opens keys next dir pdu o
    → pdu ≡ sealed keys o.header o.count dir o.text
sealed-opened keys next dir pdu o octet h =
    let remainder : o.count % 256 ≡ sn_in pdu = ap (λ n. n % 256) h.count ∙ (least_is next (sn_in pdu) 256 octet).remainder in
    was_sealed keys next dir pdu o.count h.long h.protected.0 remainder h.mac
    ∙ rw (h.text, h.header) refl

-- a first octet that passes the test is that of a protected message
is_protected-true : (octet : ℕ) → is_protected octet ≡ true → IsProtected octet
is_protected-true octet h = (grind (arith, nat_tests), grind (arith, nat_tests), grind (arith, nat_tests))

-- an estimate is the least COUNT with the sequence number, of 24 bits
estimated : (next sn count : ℕ) → estimate_of next sn ≡ Ok count → (count ≡ least next sn 256) × (count < nas_count_limit)
unfolding estimate_of
estimated next sn count h = by_test (nat_lt (least next sn 256) nas_count_limit) refl h
  where
    by_test : (b : Bool) → nat_lt (least next sn 256) nas_count_limit ≡ b
        → (let spent : Result ℕ CountSpent = Err (record {}) in if b then Ok (least next sn 256) else spent) ≡ Ok count
        → (count ≡ least next sn 256) × (count < nas_count_limit)
    by_test true e found =
        let same : least next sn 256 ≡ count = cc in
        let below : least next sn 256 < nas_count_limit = grind (arith, nat_tests) in
        (sym same, omega arith)
    by_test false e found = absurd (cc)

abbrev opened_to : Keys (List ℕ) → Dir → List ℕ → ℕ → Opened
opened_to keys dir pdu count = record { header = header_in pdu; count = count; text = sent_text keys (header_in pdu) count dir (sent_in pdu) }

abbrev failed_at : Keys (List ℕ) → Dir → List ℕ → ℕ → OpenFault
failed_at keys dir pdu count = MacFails count (mac_at keys dir pdu count) (mac_in pdu)

opened_at-Opens : (keys : Keys (List ℕ)) (next : ℕ) (dir : Dir) (pdu : List ℕ) (o : Opened) (count : ℕ) → 6 ≤ length pdu → IsProtected (first_in pdu)
    → count ≡ least next (sn_in pdu) 256 → count < nas_count_limit → opened_at keys dir pdu count ≡ Ok o → Opens keys next dir pdu o
opened_at-Opens keys next dir pdu o count long protected is_least below found = by_mac (bytes_eq (mac_at keys dir pdu count) (mac_in pdu)) refl found
  where
    by_mac : (b : Bool) → bytes_eq (mac_at keys dir pdu count) (mac_in pdu) ≡ b
        → (if b then Ok (opened_to keys dir pdu count) else Err (failed_at keys dir pdu count)) ≡ Ok o → Opens keys next dir pdu o
    by_mac true e h =
        let same : opened_to keys dir pdu count ≡ o = cc in
        let mac : mac_at keys dir pdu count ≡ mac_in pdu = (bytes_eq-Decides (mac_at keys dir pdu count) (mac_in pdu)).0 e in
        subst (Opens keys next dir pdu) same (record {
          long = long;
          protected = protected;
          header = refl;
          count = is_least;
          below = below;
          mac = mac;
          text = refl;
        })
    by_mac false e h = absurd (cc)

opened_by-Opens : (keys : Keys (List ℕ)) (next : ℕ) (dir : Dir) (pdu : List ℕ) (o : Opened) (r : Result ℕ CountSpent)
    → 6 ≤ length pdu
    → IsProtected (first_in pdu)
    → estimate_of next (sn_in pdu) ≡ r → opened_by keys dir pdu r ≡ Ok o → Opens keys next dir pdu o
opened_by-Opens keys next dir pdu o (Ok count) long protected e found =
    let is = estimated next (sn_in pdu) count e in
    opened_at-Opens keys next dir pdu o count long protected is.0 is.1 found
opened_by-Opens keys next dir pdu o (Err spent) long protected e found = absurd (cc)

-- octets open to nothing else than the definition says
pub opened-Opens : (keys : Keys (List ℕ)) (next : ℕ) (dir : Dir) (pdu : List ℕ) (o : Opened) → opened keys next dir pdu ≡ Ok o → Opens keys next dir pdu o
unfolding opened
opened-Opens keys next dir pdu o found = by_length (nat_lt (length pdu) 6) refl found
  where
    by_first : (b : Bool)
        → 6 ≤ length pdu
        → is_protected (first_in pdu) ≡ b
        → (if b then opened_by keys dir pdu (estimate_of next (sn_in pdu)) else Err (BadHeader (first_in pdu))) ≡ Ok o
        → Opens keys next dir pdu o
    by_first true long e h = opened_by-Opens keys next dir pdu o (estimate_of next (sn_in pdu)) long (is_protected-true (first_in pdu) e) refl h
    by_first false long e h = absurd (cc)

    by_length : (b : Bool) → nat_lt (length pdu) 6 ≡ b
        → (if b then Err Short
        else (if is_protected (first_in pdu) then opened_by keys dir pdu (estimate_of next (sn_in pdu))
        else Err (BadHeader (first_in pdu))))
        ≡ Ok o
        → Opens keys next dir pdu o
    by_length true e h = absurd (cc)
    by_length false e h =
        let long : 6 ≤ length pdu = grind (arith, nat_tests) in
        by_first (is_protected (first_in pdu)) long refl h
