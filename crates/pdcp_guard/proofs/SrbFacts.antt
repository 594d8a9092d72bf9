-- On signalling radio bearers what was sealed opens, and what opens was sealed.
use Rattle.std.proofs.Common.{◌≡◌, ◌≢◌, ℕ, suc, ◌+◌, ◌-◌, ◌%◌, ◌<◌, ◌≤◌, nat_lt, Bool, true, false, if◌then◌else◌, List, [], ◌∷◌, ◌++◌, length, Result, Ok, Err, IfOk, IfErr, refl, ap, ◌∙◌, arith, length-append, cond}
use Rattle.std.specs.Str.{bytes_eq}
use Rattle.std.proofs.{lemmas.Slice.Eq.bytes_eq-Decides, lemmas.List.take-append-drop, lemmas.Bool.Decides.nat_tests, Math.Nat.mod-mod, Math.Seq.take-append_seam, Math.Seq.drop-append_seam}
use Rattle.rec_base.specs.{Bearer.bearer5_of, declared.bearers.Bearer.Bearer, declared.uses.Dir.Dir}
use Rattle.key_model.specs.Least.{least}
use Rattle.key_model.proofs.LeastFacts.{least_is}
use Rattle.nas_guard.specs.Open.{first_in}
use Rattle.nas_guard.proofs.SealFacts.{ciphered-ciphered, length-mac_of}
use Rattle.pdcp_guard.specs.{declared.pdus.PdcpOpened.PdcpOpened, declared.pdus.PdcpFault.PdcpFault, AsKeys.AsKeys, Counts.count_limit}
use Rattle.pdcp_guard.specs.declared.pdus.PdcpFault.TheVariants.{Short, MacFails}
use Rattle.pdcp_guard.specs.Srb.{SrbOpens, SrbRefuses, srb_ciphered, srb_count, srb_got, srb_header, srb_mac, srb_opened, srb_opened_by, srb_opened_at, srb_sealed, srb_sn, srb_text, srb_wanted}
use Rattle.pdcp_guard.proofs.CountFacts.{expected-is_least, in_32_bits-below, length-ciphered}

-- a PDU that has a COUNT has a first octet
pub long_enough : (next : ℕ) (pdu : List ℕ) (count : ℕ) → srb_count next pdu ≡ Ok count → 1 ≤ length pdu
unfolding srb_count
long_enough next pdu count e = by_test (nat_lt (length pdu) 5) _ refl e
  where
    by_test : (b : Bool) (x : Result ℕ PdcpFault) → nat_lt (length pdu) 5 ≡ b → cond b (Err Short) x ≡ Ok count → 1 ≤ length pdu
    by_test true x h e = cc
    by_test false x h e = let ge : 5 ≤ length pdu = grind (arith, nat_tests) in omega (arith, ge)

-- to cipher twice gives the octets back
srb_ciphered-srb_ciphered : (keys : AsKeys (List ℕ)) (cipher : Bool) (bearer : Bearer) (count : ℕ) (dir : Dir) (octets : List ℕ)
    → srb_ciphered keys cipher bearer count dir (srb_ciphered keys cipher bearer count dir octets) ≡ octets
unfolding srb_ciphered
srb_ciphered-srb_ciphered keys true bearer count dir octets =
    ciphered-ciphered keys.algs.eea keys.rrc_enc count (bearer5_of bearer) dir octets
srb_ciphered-srb_ciphered keys false bearer count dir octets = refl

-- the length is kept
length-srb_ciphered : (keys : AsKeys (List ℕ)) (cipher : Bool) (bearer : Bearer) (count : ℕ) (dir : Dir) (octets : List ℕ)
    → length (srb_ciphered keys cipher bearer count dir octets) ≡ length octets
unfolding srb_ciphered
length-srb_ciphered keys true bearer count dir octets =
    length-ciphered keys.algs.eea keys.rrc_enc count (bearer5_of bearer) dir octets
length-srb_ciphered keys false bearer count dir octets = refl

-- what a PDU opens to at a COUNT where its MAC-I is right
opened_at-plain : (keys : AsKeys (List ℕ)) (cipher : Bool) (bearer : Bearer) (count : ℕ) (dir : Dir) (header : ℕ) (sent text mac : List ℕ)
    → srb_ciphered keys cipher bearer count dir sent ≡ text ++ mac → length sent ≡ length text + 4
    → srb_mac keys bearer count dir (header ∷ text) ≡ mac
    → srb_opened_at keys cipher bearer count dir (header ∷ sent) ≡ Ok (record { count = count; text = text })
unfolding srb_opened_at
opened_at-plain keys cipher bearer count dir header sent text mac plain long right =
    let few : suc (length sent) - 5 ≡ length text = omega arith in
    let same = (bytes_eq-Decides mac mac).1 refl in
    rw (few, plain, take-append_seam text mac, drop-append_seam text mac, right, same) refl

-- the COUNT of a PDU with at least five octets
count-octets : (next header count : ℕ) (sent : List ℕ) → 4 ≤ length sent → header < 32
    → least next (header % 32) 32 ≡ count → count < count_limit → srb_count next (header ∷ sent) ≡ Ok count
unfolding srb_count
count-octets next header count sent long reserved is_least below =
    let not_short : nat_lt (suc (length sent)) 5 ≡ false = grind (arith, nat_tests) in
    let good : nat_lt header 32 ≡ true = grind (arith, nat_tests) in
    rw (not_short, good, is_least) (in_32_bits-below count below)

-- MAC-I has four octets
length-srb_mac : (keys : AsKeys (List ℕ)) (bearer : Bearer) (count : ℕ) (dir : Dir) (covered : List ℕ)
    → length (srb_mac keys bearer count dir covered) ≡ 4
length-srb_mac keys bearer count dir covered = length-mac_of keys.rrc_int count (bearer5_of bearer) dir covered

-- what is sent behind the header octet is four octets longer than the text
length-sent : (keys : AsKeys (List ℕ)) (cipher : Bool) (bearer : Bearer) (count : ℕ) (dir : Dir) (text covered : List ℕ)
    → length (srb_ciphered keys cipher bearer count dir (text ++ srb_mac keys bearer count dir covered)) ≡ length text + 4
length-sent keys cipher bearer count dir text covered =
    let mac = srb_mac keys bearer count dir covered in
    length-srb_ciphered keys cipher bearer count dir (text ++ mac)
    ∙ length-append text mac
    ∙ ap (λ n. length text + n) (length-srb_mac keys bearer count dir covered)

pub length-srb_sealed : (keys : AsKeys (List ℕ)) (cipher : Bool) (bearer : Bearer) (count : ℕ) (dir : Dir) (text : List ℕ)
    → length (srb_sealed keys cipher bearer count dir text) ≡ length text + 5
unfolding srb_sealed
length-srb_sealed keys cipher bearer count dir text =
    let sent = length-sent keys cipher bearer count dir text (srb_header count ∷ text) in
    omega arith

-- what was sealed opens at its COUNT
pub srb_opened_at-srb_sealed : (keys : AsKeys (List ℕ)) (cipher : Bool) (bearer : Bearer) (count : ℕ) (dir : Dir) (text : List ℕ)
    → srb_opened_at keys cipher bearer count dir (srb_sealed keys cipher bearer count dir text) ≡ Ok (record { count = count; text = text })
unfolding srb_sealed
srb_opened_at-srb_sealed keys cipher bearer count dir text =
    let covered = srb_header count ∷ text in
    let mac = srb_mac keys bearer count dir covered in
    opened_at-plain keys cipher bearer count dir (srb_header count)
    (srb_ciphered keys cipher bearer count dir (text ++ mac)) text mac
    (srb_ciphered-srb_ciphered keys cipher bearer count dir (text ++ mac))
    (length-sent keys cipher bearer count dir text covered) refl

-- and its COUNT is found where it is the one expected
srb_count-srb_sealed : (keys : AsKeys (List ℕ)) (cipher : Bool) (bearer : Bearer) (count next : ℕ) (dir : Dir) (text : List ℕ)
    → count < count_limit → least next (count % 32) 32 ≡ count → srb_count next (srb_sealed keys cipher bearer count dir text) ≡ Ok count
unfolding srb_sealed
srb_count-srb_sealed keys cipher bearer count next dir text below is_least =
    let long = length-sent keys cipher bearer count dir text (srb_header count ∷ text) in
    count-octets next (srb_header count) count _ (omega arith) (omega arith) (rw (mod-mod count 32) is_least) below

-- what was sealed opens
pub srb_opened-srb_sealed : (keys : AsKeys (List ℕ)) (cipher : Bool) (bearer : Bearer) (count next : ℕ) (dir : Dir) (text : List ℕ)
    → count < count_limit → least next (count % 32) 32 ≡ count
    → srb_opened keys cipher bearer next dir (srb_sealed keys cipher bearer count dir text) ≡ Ok (record { count = count; text = text })
srb_opened-srb_sealed keys cipher bearer count next dir text below is_least =
    let pdu = srb_sealed keys cipher bearer count dir text in
    ap (srb_opened_by keys cipher bearer dir pdu) (srb_count-srb_sealed keys cipher bearer count next dir text below is_least)
    ∙ srb_opened_at-srb_sealed keys cipher bearer count dir text

pub srb_opened-near : (keys : AsKeys (List ℕ)) (cipher : Bool) (bearer : Bearer) (count next : ℕ) (dir : Dir) (text : List ℕ)
    → count < count_limit → next ≤ count → count - next < 32
    → srb_opened keys cipher bearer next dir (srb_sealed keys cipher bearer count dir text) ≡ Ok (record { count = count; text = text })
srb_opened-near keys cipher bearer count next dir text below above few =
    srb_opened-srb_sealed keys cipher bearer count next dir text below (expected-is_least 32 next count (omega arith) above few)

-- what was sealed is answered with its text
pub srb_intact : (keys : AsKeys (List ℕ)) (cipher : Bool) (bearer : Bearer) (next : ℕ) (dir : Dir) (pdu : List ℕ) (r : Result PdcpOpened PdcpFault)
    → r ≡ srb_opened keys cipher bearer next dir pdu → (count : ℕ) (text : List ℕ) → pdu ≡ srb_sealed keys cipher bearer count dir text
    → count < count_limit → least next (count % 32) 32 ≡ count → r ≡ Ok (record { count = count; text = text })
srb_intact keys cipher bearer next dir pdu r is count text made below is_least =
    is
    ∙ ap (srb_opened keys cipher bearer next dir) made
    ∙ srb_opened-srb_sealed keys cipher bearer count next dir text below is_least

-- what opens was sealed, octet by octet
was_sealed : (keys : AsKeys (List ℕ)) (cipher : Bool) (bearer : Bearer) (count : ℕ) (dir : Dir) (pdu : List ℕ)
    → 5 ≤ length pdu → count % 32 ≡ first_in pdu → srb_wanted keys cipher bearer count dir pdu ≡ srb_got keys cipher bearer count dir pdu
    → pdu ≡ srb_sealed keys cipher bearer count dir (srb_text keys cipher bearer count dir pdu)
unfolding srb_sealed
was_sealed keys cipher bearer count dir [] long header mac = absurd (omega arith)
was_sealed keys cipher bearer count dir (first ∷ sent) long header mac =
    let plain = srb_ciphered keys cipher bearer count dir sent in
    rw (header, mac, take-append-drop (suc (length sent) - 5) plain, srb_ciphered-srb_ciphered keys cipher bearer count dir sent) refl

pub srb_sealed-opened : (keys : AsKeys (List ℕ)) (cipher : Bool) (bearer : Bearer) (next : ℕ) (dir : Dir) (pdu : List ℕ) (o : PdcpOpened)
    → SrbOpens keys cipher bearer next dir pdu o → pdu ≡ srb_sealed keys cipher bearer o.count dir o.text
srb_sealed-opened keys cipher bearer next dir pdu o h =
    let reserved = h.reserved in
    let small : srb_sn pdu ≡ first_in pdu = omega arith in
    let remainder : o.count % 32 ≡ first_in pdu = ap (λ n. n % 32) h.count ∙ (least_is next (srb_sn pdu) 32 (omega arith)).remainder ∙ small in
    was_sealed keys cipher bearer o.count dir pdu h.long remainder h.mac
    ∙ rw h.text refl

-- what is so of an answer at a COUNT
pub record Answered (keys : AsKeys (List ℕ)) (cipher : Bool) (bearer : Bearer) (next : ℕ) (dir : Dir) (pdu : List ℕ)
    (r : Result PdcpOpened PdcpFault) : Type 0 where
  pub opens : IfOk r (SrbOpens keys cipher bearer next dir pdu)
  pub refused : IfErr r (SrbRefuses keys cipher bearer next dir pdu)
  pub was_sealed : IfOk r (λ o. pdu ≡ srb_sealed keys cipher bearer o.count dir o.text)
  pub at_or_above : IfOk r (λ o. next ≤ o.count)

abbrev answer_by : AsKeys (List ℕ) → Bool → Bearer → ℕ → Dir → List ℕ → Bool → Result PdcpOpened PdcpFault
answer_by keys cipher bearer count dir pdu b =
    if b then Ok (record { count = count; text = srb_text keys cipher bearer count dir pdu })
    else Err (MacFails count (srb_wanted keys cipher bearer count dir pdu) (srb_got keys cipher bearer count dir pdu))

pub srb_answered : (keys : AsKeys (List ℕ)) (cipher : Bool) (bearer : Bearer) (next : ℕ) (dir : Dir) (pdu : List ℕ) (count : ℕ)
    → 5 ≤ length pdu → first_in pdu < 32 → count ≡ least next (srb_sn pdu) 32 → count < count_limit → next ≤ count
    → Answered keys cipher bearer next dir pdu (srb_opened_at keys cipher bearer count dir pdu)
unfolding srb_opened_at
srb_answered keys cipher bearer next dir pdu count long reserved is_least below above =
    by_mac (bytes_eq wanted got) refl
  where
    wanted : List ℕ
    wanted = srb_wanted keys cipher bearer count dir pdu

    got : List ℕ
    got = srb_got keys cipher bearer count dir pdu

    by_mac : (b : Bool) → bytes_eq (srb_wanted keys cipher bearer count dir pdu) (srb_got keys cipher bearer count dir pdu) ≡ b
        → Answered keys cipher bearer next dir pdu (answer_by keys cipher bearer count dir pdu b)
    by_mac true e =
        let mac = (bytes_eq-Decides (srb_wanted keys cipher bearer count dir pdu) (srb_got keys cipher bearer count dir pdu)).0 e in
        let opens : SrbOpens keys cipher bearer next dir pdu (record { count = count; text = srb_text keys cipher bearer count dir pdu }) =
        record { long = long; reserved = reserved; count = is_least; below = below; mac = mac; text = refl } in
        record { opens = opens; refused = tt; was_sealed = srb_sealed-opened keys cipher bearer next dir pdu _ opens; at_or_above = above }
    by_mac false e =
        let differs : srb_wanted keys cipher bearer count dir pdu ≢ srb_got keys cipher bearer count dir pdu =
        λ same. let test = (bytes_eq-Decides (srb_wanted keys cipher bearer count dir pdu) (srb_got keys cipher bearer count dir pdu)).1 same in absurd (cc) in
        record { opens = tt; refused = (long, reserved, is_least, below, refl, refl, differs); was_sealed = tt; at_or_above = tt }
