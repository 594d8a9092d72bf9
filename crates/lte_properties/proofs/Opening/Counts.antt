-- The COUNT that a receiver takes of what was sent in its window is the COUNT that was sent.
use Rattle.std.proofs.Common.{◌≡◌, ℕ, ◌+◌, ◌*◌, ◌/◌, ◌%◌, ◌<◌, ◌≤◌, nat_lt, true, false, List, [], ◌∷◌, ◌++◌, length, Option, Some, None, Result, Ok, Err, refl, ap, ◌∙◌, arith, mod-lt}
use Rattle.std.specs.Prelude.{◌==◌}
use Rattle.std.proofs.{lemmas.Bool.Decides.nat_tests, lemmas.List.length-append, Math.Nat.mod-mod}
use Rattle.key_model.specs.{Least.least, Term.Term}
use Rattle.key_model.proofs.LeastFacts.{least_in_window}
use Rattle.nas_count.specs.Estimate.{estimate_of, nas_count_limit}
use Rattle.nas_guard.specs.Seal.{first_octet}
use Rattle.nas_guard.specs.Open.{sn_in, sent_in, first_in}
use Rattle.pdcp_guard.specs.{Counts.count_limit, Counts.in_32_bits, Srb.srb_count}
use Rattle.pdcp_guard.specs.Drb.{drb_count, drb_first_octet, drb_second_octet}
use Rattle.pdcp_guard.proofs.CountFacts.{in_32_bits-below}
use Rattle.lte_events.specs.{declared.answers.Answer.Answer, declared.answers.Answer.TheVariants.BadHeader}
use Rattle.lte_machine.specs.{Wire.KeyUse, Wire.Ciphering, PhoneChoice.header_for_phone, PhoneChoice.is_for_phone, CoreChoice.core_header, CoreChoice.core_takes}
use Rattle.lte_machine.specs.Ciphers.{Ciphers, ciphered_by, nas_octets, srb_octets, drb_octets}
use Rattle.lte_properties.specs.Packets.{InWindow}
use Rattle.lte_machine.proofs.CipherLaws.{AreCiphers}

-- a COUNT in the window is the least with its lowest part
least_of : (next count w : ℕ) → 0 < w → InWindow next count w → least next (count % w) w ≡ count
least_of next count w some h = (least_in_window next count w some h.0).1 (omega arith)

-- NAS MESSAGES: EIGHT BITS (TS 24.301 4.4.3.1)

-- the COUNT that is estimated of the lowest octet of a COUNT in the window
pub estimated : (next sn count : ℕ) → InWindow next count 256 → sn ≡ count % 256 → count < nas_count_limit → estimate_of next sn ≡ Ok count
unfolding estimate_of
estimated next sn count h is below =
    let one : least next sn 256 ≡ count = ap (λ n. least next n 256) is ∙ least_of next count 256 (omega arith) h in
    let test : nat_lt (least next sn 256) nas_count_limit ≡ true = grind (arith, nat_tests) in
    rw test (ap Ok one)

-- the parts of a message as it is sent: first octet, sequence number, text, and at least six octets
abbrev pub HasParts : List ℕ → ℕ → ℕ → List ℕ → Type 0
HasParts pdu first sn rest = (first_in pdu ≡ first) × (sn_in pdu ≡ sn) × (sent_in pdu ≡ rest) × (6 ≤ length pdu)

parts_of : (first sn : ℕ) (mac rest : List ℕ) → length mac ≡ 4 → HasParts (first ∷ mac ++ sn ∷ rest) first sn rest
parts_of first sn (a ∷ b ∷ d ∷ g ∷ []) rest h = (refl, refl, refl, omega arith)
parts_of first sn other rest h = absurd (omega arith)

pub nas_parts : (c : Ciphers Term) → AreCiphers c → (header : ℕ) (u : KeyUse Term) (e : Option (Ciphering Term)) (text : List ℕ)
    → HasParts (nas_octets c header u e text) (first_octet header) (u.count % 256) (ciphered_by c e text)
unfolding nas_octets
nas_parts c good header u e text =
    let covered = u.count % 256 ∷ ciphered_by c e text in
    parts_of (first_octet header) (u.count % 256) (c.mac u covered) (ciphered_by c e text) (good.mac_length u covered)

-- the header type of a message for the phone, and of one for the core
pub header_down : (pdu : List ℕ) (first : ℕ) → 6 ≤ length pdu → first_in pdu ≡ first → is_for_phone first ≡ true → header_for_phone pdu ≡ Ok (first / 16)
unfolding header_for_phone
header_down pdu first long is takes =
    let some : (length pdu == 0) ≡ false = grind (arith, nat_tests) in
    let enough : nat_lt (length pdu) 6 ≡ false = grind (arith, nat_tests) in
    let taken : is_for_phone (first_in pdu) ≡ true = ap is_for_phone is ∙ takes in
    rw some (rw taken (rw enough (ap (λ n. Ok (n / 16)) is)))

pub header_up : (pdu : List ℕ) (first : ℕ) → 6 ≤ length pdu → first_in pdu ≡ first → core_takes first ≡ true → core_header pdu ≡ Ok (first / 16)
unfolding core_header
header_up pdu first long is takes =
    let some : (length pdu == 0) ≡ false = grind (arith, nat_tests) in
    let taken : core_takes (first_in pdu) ≡ true = ap core_takes is ∙ takes in
    rw some (rw taken (ap (λ n. Ok (n / 16)) is))

-- PDUS OF AN SRB: FIVE BITS (TS 36.323 6.2.2)

pub srb_counted : (c : Ciphers Term) → AreCiphers c → (next : ℕ) (u : KeyUse Term) (e : Option (Ciphering Term)) (text : List ℕ)
    → InWindow next u.count 32 → u.count < count_limit → srb_count next (srb_octets c u e text) ≡ Ok u.count
unfolding srb_count srb_octets
srb_counted c good next u e text h below =
    let header = u.count % 32 in
    let mac = c.mac u (header ∷ text) in
    let four = good.mac_length u (header ∷ text) in
    let sent = ciphered_by c e (text ++ mac) in
    let long : length sent ≡ length text + 4 = as_long e (text ++ mac) ∙ length-append text mac ∙ ap (λ n. length text + n) four in
    let low : header < 32 = mod-lt u.count (omega arith) in
    let enough : nat_lt (length (header ∷ sent)) 5 ≡ false = let l : 5 ≤ length (header ∷ sent) = omega arith in grind (arith, nat_tests) in
    let plain : nat_lt header 32 ≡ true = grind (arith, nat_tests) in
    let one : least next (header % 32) 32 ≡ u.count = ap (λ n. least next n 32) (mod-mod u.count 32) ∙ least_of next u.count 32 (omega arith) h in
    rw enough (rw plain (ap in_32_bits one ∙ in_32_bits-below u.count below))
  where
    as_long : (e : Option (Ciphering Term)) (t : List ℕ) → length (ciphered_by c e t) ≡ length t
    as_long None t = refl
    as_long (Some e) t = good.crypt_length e t

-- PDUS OF A DRB: TWELVE BITS (TS 36.323 6.2.3)

first_of : (count : ℕ) → drb_first_octet count / 16 ≡ 8
first_of count = let l : count / 256 % 16 < 16 = mod-lt (count / 256) (omega arith) in omega arith

number_of : (count : ℕ) → 256 * (drb_first_octet count % 16) + count % 256 ≡ count % 4096
number_of count = omega arith

pub drb_counted : (c : Ciphers Term) (next : ℕ) (e : Ciphering Term) (text : List ℕ)
    → InWindow next e.under.count 4096 → e.under.count < count_limit → drb_count next (drb_octets c e text) ≡ Ok e.under.count
unfolding drb_count drb_octets
drb_counted c next e text h below =
    let count = e.under.count in
    let first = drb_first_octet count in
    let rest = c.crypt e text in
    let enough : nat_lt (length (first ∷ drb_second_octet count ∷ rest)) 2 ≡ false =
    let l : 2 ≤ length (first ∷ drb_second_octet count ∷ rest) = omega arith in grind (arith, nat_tests) in
    let is : (first / 16 == 8) ≡ true = let f = first_of count in grind (arith, nat_tests) in
    let one : least next (256 * (first % 16) + count % 256) 4096 ≡ count =
    ap (λ n. least next n 4096) (number_of count) ∙ least_of next count 4096 (omega arith) h in
    rw enough (rw is (ap in_32_bits one ∙ in_32_bits-below count below))

-- a message of a first octet that the phone does not take has no header type for it
pub header_other : (pdu : List ℕ) (first header : ℕ) → 6 ≤ length pdu → first_in pdu ≡ first → is_for_phone first ≡ false → header_for_phone pdu ≡ Ok header → ⊥
unfolding header_for_phone
header_other pdu first header long is takes ok =
    let some : (length pdu == 0) ≡ false = grind (arith, nat_tests) in
    let taken : is_for_phone (first_in pdu) ≡ false = ap is_for_phone is ∙ takes in
    let refused : header_for_phone pdu ≡ Err (BadHeader (first_in pdu)) = rw some (rw taken refl) in
    not_both (header_for_phone pdu) (BadHeader (first_in pdu)) header refused ok
  where
    not_both : (x : Result ℕ Answer) (a : Answer) (h : ℕ) → x ≡ Err a → x ≡ Ok h → ⊥
    not_both x a h e f = cc
