-- On data radio bearers what was sealed opens, and what opens was sealed.
use Rattle.std.proofs.Common.{◌≡◌, ℕ, suc, ◌+◌, ◌-◌, ◌*◌, ◌/◌, ◌%◌, ◌<◌, ◌≤◌, ◌==◌, nat_lt, true, false, List, [], ◌∷◌, length, drop, slice_index, Result, Ok, refl, ap, ◌∙◌, arith, eq-eqb}
use Rattle.std.proofs.lemmas.Bool.Decides.{nat_tests}
use Rattle.rec_base.specs.{Bearer.bearer5_of, declared.bearers.Bearer.Bearer, declared.uses.Dir.Dir}
use Rattle.key_model.specs.Least.{least}
use Rattle.key_model.proofs.LeastFacts.{least_is}
use Rattle.nas_guard.specs.Open.{first_in}
use Rattle.nas_guard.proofs.SealFacts.{ciphered-ciphered}
use Rattle.pdcp_guard.specs.{declared.pdus.PdcpOpened.PdcpOpened, declared.pdus.PdcpFault.PdcpFault, AsKeys.AsKeys, Counts.count_limit}
use Rattle.pdcp_guard.specs.Drb.{DrbOpens, drb_ciphered, drb_count, drb_first_octet, drb_opened, drb_opened_at, drb_opened_by, drb_sealed, drb_second_octet, drb_sn}
use Rattle.pdcp_guard.proofs.CountFacts.{expected-is_least, in_32_bits-below, length-ciphered}

-- to cipher twice gives the text back
drb_ciphered-drb_ciphered : (keys : AsKeys (List ℕ)) (bearer : Bearer) (count : ℕ) (dir : Dir) (text : List ℕ)
    → drb_ciphered keys bearer count dir (drb_ciphered keys bearer count dir text) ≡ text
unfolding drb_ciphered
drb_ciphered-drb_ciphered keys bearer count dir text =
    ciphered-ciphered keys.algs.eea keys.up_enc count (bearer5_of bearer) dir text

-- the two header octets hold the sequence number
first_octet-data : (count : ℕ) → drb_first_octet count / 16 ≡ 8
first_octet-data count = omega arith

sn-octets : (count : ℕ) → 256 * (drb_first_octet count % 16) + drb_second_octet count ≡ count % 4096
sn-octets count = omega arith

-- the COUNT of a PDU with at least two octets
count-octets : (next first second count : ℕ) (sent : List ℕ) → first / 16 ≡ 8
    → least next (256 * (first % 16) + second) 4096 ≡ count → count < count_limit → drb_count next (first ∷ second ∷ sent) ≡ Ok count
unfolding drb_count
count-octets next first second count sent good is_least below =
    let not_short : nat_lt (suc (suc (length sent))) 2 ≡ false = grind (arith, nat_tests) in
    let test : (first / 16 == 8) ≡ true = eq-eqb (first / 16) 8 good in
    rw (not_short, test, is_least) (in_32_bits-below count below)

-- what was sealed opens at its COUNT
pub drb_opened_at-drb_sealed : (keys : AsKeys (List ℕ)) (bearer : Bearer) (count : ℕ) (dir : Dir) (text : List ℕ)
    → drb_opened_at keys bearer count dir (drb_sealed keys bearer count dir text) ≡ record { count = count; text = text }
unfolding drb_sealed drb_opened_at
drb_opened_at-drb_sealed keys bearer count dir text = rw (drb_ciphered-drb_ciphered keys bearer count dir text) refl

-- and its COUNT is found where it is the one expected
drb_count-drb_sealed : (keys : AsKeys (List ℕ)) (bearer : Bearer) (count next : ℕ) (dir : Dir) (text : List ℕ)
    → count < count_limit → least next (count % 4096) 4096 ≡ count → drb_count next (drb_sealed keys bearer count dir text) ≡ Ok count
unfolding drb_sealed
drb_count-drb_sealed keys bearer count next dir text below is_least =
    count-octets next (drb_first_octet count) (drb_second_octet count) count _ (first_octet-data count) (rw (sn-octets count) is_least) below

-- what was sealed opens
pub drb_opened-drb_sealed : (keys : AsKeys (List ℕ)) (bearer : Bearer) (count next : ℕ) (dir : Dir) (text : List ℕ)
    → count < count_limit → least next (count % 4096) 4096 ≡ count
    → drb_opened keys bearer next dir (drb_sealed keys bearer count dir text) ≡ Ok (record { count = count; text = text })
drb_opened-drb_sealed keys bearer count next dir text below is_least =
    let pdu = drb_sealed keys bearer count dir text in
    ap (drb_opened_by keys bearer dir pdu) (drb_count-drb_sealed keys bearer count next dir text below is_least)
    ∙ ap Ok (drb_opened_at-drb_sealed keys bearer count dir text)

-- it is two octets longer than the text
pub length-drb_sealed : (keys : AsKeys (List ℕ)) (bearer : Bearer) (count : ℕ) (dir : Dir) (text : List ℕ)
    → length (drb_sealed keys bearer count dir text) ≡ length text + 2
unfolding drb_sealed drb_ciphered
length-drb_sealed keys bearer count dir text =
    let same = length-ciphered keys.algs.eea keys.up_enc count (bearer5_of bearer) dir text in
    omega arith

pub drb_opened-near : (keys : AsKeys (List ℕ)) (bearer : Bearer) (count next : ℕ) (dir : Dir) (text : List ℕ)
    → count < count_limit → next ≤ count → count - next < 4096
    → drb_opened keys bearer next dir (drb_sealed keys bearer count dir text) ≡ Ok (record { count = count; text = text })
drb_opened-near keys bearer count next dir text below above few =
    drb_opened-drb_sealed keys bearer count next dir text below (expected-is_least 4096 next count (omega arith) above few)

-- what was sealed is answered with its text
pub drb_intact : (keys : AsKeys (List ℕ)) (bearer : Bearer) (next : ℕ) (dir : Dir) (pdu : List ℕ) (r : Result PdcpOpened PdcpFault)
    → r ≡ drb_opened keys bearer next dir pdu → (count : ℕ) (text : List ℕ) → pdu ≡ drb_sealed keys bearer count dir text
    → count < count_limit → least next (count % 4096) 4096 ≡ count → r ≡ Ok (record { count = count; text = text })
drb_intact keys bearer next dir pdu r is count text made below is_least =
    is
    ∙ ap (drb_opened keys bearer next dir) made
    ∙ drb_opened-drb_sealed keys bearer count next dir text below is_least

-- what opens was sealed, octet by octet
was_sealed : (keys : AsKeys (List ℕ)) (bearer : Bearer) (count : ℕ) (dir : Dir) (pdu : List ℕ)
    → 2 ≤ length pdu → first_in pdu / 16 ≡ 8 → slice_index pdu 1 < 256 → count % 4096 ≡ drb_sn pdu
    → (text : List ℕ) → text ≡ drb_ciphered keys bearer count dir (drop 2 pdu) → pdu ≡ drb_sealed keys bearer count dir text
unfolding drb_sealed
was_sealed keys bearer count dir [] long good octet sn text is = absurd (omega arith)
was_sealed keys bearer count dir (first ∷ []) long good octet sn text is = absurd (omega arith)
was_sealed keys bearer count dir (first ∷ second ∷ sent) long good octet sn text is =
    let same_first : drb_first_octet count ≡ first = omega arith in
    let same_second : drb_second_octet count ≡ second = omega arith in
    rw (same_first, same_second, is, drb_ciphered-drb_ciphered keys bearer count dir sent) refl

pub drb_sealed-opened : (keys : AsKeys (List ℕ)) (bearer : Bearer) (next : ℕ) (dir : Dir) (pdu : List ℕ) (o : PdcpOpened)
    → slice_index pdu 1 < 256 → DrbOpens keys bearer next dir pdu o → pdu ≡ drb_sealed keys bearer o.count dir o.text
drb_sealed-opened keys bearer next dir pdu o octet h =
    let small : drb_sn pdu < 4096 = omega arith in
    let remainder : o.count % 4096 ≡ drb_sn pdu = ap (λ n. n % 4096) h.count ∙ (least_is next (drb_sn pdu) 4096 small).remainder in
    was_sealed keys bearer o.count dir pdu h.long h.first octet remainder o.text h.text
