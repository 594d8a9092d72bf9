-- Laws of the fields of a record: what is read is spelled so, and what is spelled so is read.
use Rattle.std.proofs.Common.{◌≡◌, ℕ, ◌+◌, ◌<◌, ◌≤◌, Bool, true, false, cond, ltb, eqb, List, [], ◌∷◌, ◌++◌, length, get_or, take, drop, Result, Ok, Err, refl, sym, ap, ◌∙◌, append_assoc, add-zero, arith, length-drop, drop-drop, drop-cons, add-one, subst, inl, inr, ◌*◌}
use Rattle.std.specs.Prelude.{nat_lt, ◌||◌}
use Rattle.std.proofs.lemmas.Bool.{cases_lt, ltb-false, le-ltb, eqb-true}
use Rattle.std.proofs.lemmas.List.{take-append-drop, get_or-drop, get_or-take, length-take, nil_from_length, get_or_past}
use Rattle.rec_base.specs.BigEndian.{number_of, octets_of, field_at, number_at}
use Rattle.rec_base.specs.declared.faults.RecFault.{RecFault}
use Rattle.rec_base.specs.declared.faults.RecFault.TheVariants.{Short, Long, BadField}
use Rattle.rec_base.proofs.Numbers.{AreOctets, number_of-one, octets_of-number_of}
use Rattle.alg_choice.specs.{declared.algs.Algs.Algs, Algs.identity_of, Algs.eia2_identity, declared.algs.Eea.Eea, declared.caps.Caps.Caps}
use Rattle.alg_choice.specs.declared.algs.Eea.TheVariants.{Eea0, Eea2}
use Rattle.annex_a_keys.specs.Cell.{Place, greatest_pci, greatest_earfcn, IsCell}
use Rattle.rec_fields.specs.Field.{◌>>=◌, of_size, number_in, algs_at, caps_at, cell_at, rest_at}
use Rattle.rec_fields.specs.Spelled.{algs_octet, cell_octets}

-- the value of a step that did not fail
pub bind_ok : {F A B : Type 0} (r : Result A F) (f : A → Result B F) (y : B) → (r >>= f) ≡ Ok y → (x : A) × (r ≡ Ok x) × (f x ≡ Ok y)
bind_ok (Ok x) f y e = (x, refl, e)
bind_ok (Err d) f y e = absurd cc

abbrev done : {F A : Type 0} → A → Result A F
done x = Ok x

pub ok_is : {F A : Type 0} (x y : A) → done {F = F} x ≡ done {F = F} y → x ≡ y
ok_is x y e = cc

-- a test that refuses
pub passes : {F A : Type 0} (b : Bool) (d : F) (r : Result A F) (y : A) → cond b (Err d) r ≡ Ok y → (b ≡ false) × (r ≡ Ok y)
passes true d r y e = absurd cc
passes false d r y e = (refl, e)

-- two tests, each of which refuses
pub tests_ok : {F A : Type 0} (b c : Bool) (d : F) (x y : A) → cond (b || c) (Err d) (Ok x) ≡ Ok y → (b ≡ false) × (c ≡ false) × (x ≡ y)
tests_ok true c d x y e = absurd cc
tests_ok false true d x y e = absurd cc
tests_ok false false d x y e = (refl, refl, cc)

-- a size that was not refused
size_ok : (b c : Bool) (x : Unit {0}) → cond b (Err Short) (cond c (Err Long) (Ok tt)) ≡ Ok x → (b ≡ false) × (c ≡ false)
size_ok true c x e = absurd cc
size_ok false true x e = absurd cc
size_ok false false x e = (refl, refl)

-- the record has the size of its layout
pub size_is : (size : ℕ) (octets : List ℕ) (x : Unit {0}) → of_size size octets ≡ Ok x → length octets ≡ size
unfolding of_size
size_is size octets x e =
    let tests = size_ok (nat_lt (length octets) size) (nat_lt size (length octets)) x e in
    let low : size ≤ length octets = ltb-false _ _ tests.0 in
    let high : length octets ≤ size = ltb-false _ _ tests.1 in
    omega arith

pub octets_rest : (n : ℕ) (octets : List ℕ) → AreOctets octets → AreOctets (drop n octets)
octets_rest n octets h i = rw get_or-drop (h (n + i))

pub octets_front : (n : ℕ) (octets : List ℕ) → AreOctets octets → AreOctets (take n octets)
octets_front n octets h i =
    elim (cases_lt i n) [
      | inl lt ↦ rw (get_or-take n octets i 0 lt) (h i)
      | inr le ↦ rw (get_or_past (take n octets) i 0 (omega (arith, length-take n octets))) (omega arith)
    ]

-- nothing stands behind the layout
pub ends : (octets : List ℕ) (size : ℕ) → length octets ≡ size → drop size octets ≡ []
ends octets size h = nil_from_length (drop size octets) (omega (arith, length-drop size octets))

-- the number in a field of one octet is that octet
pub octet_is : (octets : List ℕ) (place : ℕ) → place < length octets → number_at octets place 1 ≡ get_or octets place 0
unfolding number_at field_at
octet_is octets place h =
    let field = drop place octets in
    let within : 1 ≤ length field = omega (arith, length-drop place octets) in
    let read = rw add-zero at (get_or-drop place octets 0 0) in
    number_of-one field within ∙ read

-- the octets from a place on begin with the number of the field there
pub octet_takes : (octets : List ℕ) (place : ℕ) → place < length octets → drop place octets ≡ number_at octets place 1 ∷ drop (place + 1) octets
unfolding number_at field_at
octet_takes octets place h =
    let value = octet_is octets place h in
    rw (value, add-one) (drop-cons octets place 0 h)

-- the kind, and what stands behind it
pub kind_takes : (octets : List ℕ) (kind : ℕ) → 0 < length octets → number_at octets 0 1 ≡ kind → octets ≡ kind ∷ drop 1 octets
kind_takes octets kind h e = octet_takes octets 0 h ∙ ap (λ n. n ∷ drop 1 octets) e

pub number_takes : (width : ℕ) (octets : List ℕ) (place : ℕ) → AreOctets octets → place + width ≤ length octets
    → drop place octets ≡ octets_of width (number_at octets place width) ++ drop (place + width) octets
unfolding number_at field_at
number_takes width octets place fit h =
    let rest = drop place octets in
    let size : length (take width rest) ≡ width = omega (arith, length-take width rest, length-drop place octets) in
    let written = octets_of-number_of (take width rest) (octets_front width rest (octets_rest place octets fit)) in
    let spelled : octets_of width (number_of (take width rest)) ≡ take width rest = ap (λ w. octets_of w (number_of (take width rest))) (sym size) ∙ written in
    sym (take-append-drop width rest) ∙ (λ j. sym spelled j ++ drop-drop width place octets j)

-- a number in its range
pub in_range_is : (low high : ℕ) (octets : List ℕ) (place width n : ℕ) → number_in low high octets place width ≡ Ok n
    → (number_at octets place width ≡ n) × (low ≤ n) × (n ≤ high)
unfolding number_in
in_range_is low high octets place width n e =
    let m = number_at octets place width in
    let tests = tests_ok (nat_lt m low) (nat_lt high m) (BadField place) m n e in
    let above : low ≤ m = ltb-false _ _ tests.0 in
    let below : m ≤ high = ltb-false _ _ tests.1 in
    let same = tests.2 in
    (tests.2, omega arith, omega arith)

pub in_range_read : (low high : ℕ) (octets : List ℕ) (place width n : ℕ) → number_at octets place width ≡ n → low ≤ n → n ≤ high
    → number_in low high octets place width ≡ Ok n
unfolding number_in
in_range_read low high octets place width n e above below =
    let a : ltb n low ≡ false = le-ltb _ _ above in
    let b : ltb high n ≡ false = le-ltb _ _ below in
    rw (e, a, b) refl

-- a field in its range is spelled where it was read
pub number_in_takes : (low high : ℕ) (octets : List ℕ) (place width n : ℕ) → AreOctets octets → place + width ≤ length octets
    → number_in low high octets place width ≡ Ok n
    → (drop place octets ≡ octets_of width n ++ drop (place + width) octets) × (low ≤ n) × (n ≤ high)
number_in_takes low high octets place width n fit h e =
    let is = in_range_is low high octets place width n e in
    (number_takes width octets place fit h ∙ ap (λ m. octets_of width m ++ drop (place + width) octets) is.0, is.1, is.2)

pub octet_in_takes : (low high : ℕ) (octets : List ℕ) (place n : ℕ) → place < length octets
    → number_in low high octets place 1 ≡ Ok n
    → (drop place octets ≡ n ∷ drop (place + 1) octets) × (low ≤ n) × (n ≤ high)
octet_in_takes low high octets place n h e =
    let is = in_range_is low high octets place 1 n e in
    (octet_takes octets place h ∙ ap (λ m. m ∷ drop (place + 1) octets) is.0, is.1, is.2)

-- the algorithms of an octet
algs_by : (b c : Bool) (octet place : ℕ) (algs : Algs) → (b ≡ true → octet ≡ 0x02) → (c ≡ true → octet ≡ 0x22)
    → cond b (done (record { eea = Eea0 })) (cond c (done (record { eea = Eea2 })) (Err (BadField place))) ≡ Ok algs → octet ≡ algs_octet algs
algs_by true c octet place algs p q e = p refl ∙ ap algs_octet (ok_is (record { eea = Eea0 }) algs e)
algs_by false true octet place algs p q e = q refl ∙ ap algs_octet (ok_is (record { eea = Eea2 }) algs e)
algs_by false false octet place algs p q e = absurd cc

algs_is : (octets : List ℕ) (place : ℕ) (algs : Algs) → algs_at octets place ≡ Ok algs → number_at octets place 1 ≡ algs_octet algs
unfolding algs_at
algs_is octets place algs e =
    let n = number_at octets place 1 in
    algs_by (eqb n 0x02) (eqb n 0x22) n place algs (λ h. eqb-true n 0x02 h) (λ h. eqb-true n 0x22 h) e

pub algs_takes : (octets : List ℕ) (place : ℕ) (algs : Algs) → place < length octets → algs_at octets place ≡ Ok algs
    → drop place octets ≡ algs_octet algs ∷ drop (place + 1) octets
algs_takes octets place algs h e = octet_takes octets place h ∙ ap (λ m. m ∷ drop (place + 1) octets) (algs_is octets place algs e)

abbrev algs_choice : ℕ → ℕ → Result Algs RecFault
algs_choice n place = cond (eqb n 0x02) (Ok (record { eea = Eea0 })) (cond (eqb n 0x22) (Ok (record { eea = Eea2 })) (Err (BadField place)))

algs_from : (octets : List ℕ) (place octet : ℕ) → number_at octets place 1 ≡ octet → algs_at octets place ≡ algs_choice octet place
unfolding algs_at
algs_from octets place octet e = ap (λ n. algs_choice n place) e

algs_read_eea : (octets : List ℕ) (place : ℕ) (eea : Eea)
    → number_at octets place 1 ≡ 16 * identity_of eea + eia2_identity
    → algs_at octets place ≡ Ok (record { eea = eea })
algs_read_eea octets place Eea0 e = algs_from octets place 0x02 e
algs_read_eea octets place Eea2 e = algs_from octets place 0x22 e

pub algs_read : (octets : List ℕ) (place : ℕ) (algs : Algs) → number_at octets place 1 ≡ algs_octet algs → algs_at octets place ≡ Ok algs
algs_read octets place algs e = algs_read_eea octets place algs.eea e

-- the capabilities
pub caps_takes : (octets : List ℕ) (place : ℕ) → place + 2 ≤ length octets
    → drop place octets ≡ (caps_at octets place).eea ∷ (caps_at octets place).eia ∷ drop (place + 2) octets
unfolding caps_at
caps_takes octets place h =
    let two : place + 1 + 1 ≡ place + 2 = omega arith in
    let second = octet_takes octets (place + 1) (omega arith) in
    octet_takes octets place (omega arith)
    ∙ ap (λ rest. number_at octets place 1 ∷ rest) (second ∙ ap (λ n. number_at octets (place + 1) 1 ∷ drop n octets) two)

pub caps_read : (octets : List ℕ) (place : ℕ) (caps : Caps) → number_at octets place 1 ≡ caps.eea → number_at octets (place + 1) 1 ≡ caps.eia
    → caps_at octets place ≡ caps
unfolding caps_at
caps_read octets place caps e f = λ j. record { eea = e j; eia = f j }

-- a cell
pub cell_takes : (octets : List ℕ) (place : ℕ) (cell : Place) → AreOctets octets → place + 6 ≤ length octets → cell_at octets place ≡ Ok cell
    → (drop place octets ≡ cell_octets cell ++ drop (place + 6) octets) × IsCell cell
unfolding cell_at
cell_takes octets place cell fit h e =
    let a = bind_ok (number_in 0 greatest_pci octets place 2)
    (λ pci.
    number_in 0 greatest_earfcn octets (place + 2) 4 >>= λ earfcn. Ok (record { pci = pci; earfcn = earfcn }))
    cell e in
    let b = bind_ok (number_in 0 greatest_earfcn octets (place + 2) 4) (λ earfcn. Ok (record { pci = a.0; earfcn = earfcn })) cell a.2 in
    let p = number_in_takes 0 greatest_pci octets place 2 a.0 fit (omega arith) a.1 in
    let q = number_in_takes 0 greatest_earfcn octets (place + 2) 4 b.0 fit (omega arith) b.1 in
    let six : place + 2 + 4 ≡ place + 6 = omega arith in
    let made : Place = record { pci = a.0; earfcn = b.0 } in
    let parts : drop place octets ≡ cell_octets made ++ drop (place + 6) octets =
    p.0 ∙ ap (λ rest. octets_of 2 a.0 ++ rest) (q.0 ∙ ap (λ n. octets_of 4 b.0 ++ drop n octets) six)
    ∙ sym (append_assoc (octets_of 2 a.0) (octets_of 4 b.0) (drop (place + 6) octets)) in
    subst (λ (c : Place). (drop place octets ≡ cell_octets c ++ drop (place + 6) octets) × IsCell c) (ok_is made cell b.2) (parts, (p.2, q.2))

pub cell_read : (octets : List ℕ) (place : ℕ) (cell : Place) → number_at octets place 2 ≡ cell.pci → number_at octets (place + 2) 4 ≡ cell.earfcn
    → IsCell cell → cell_at octets place ≡ Ok cell
unfolding cell_at
cell_read octets place cell e f in_range =
    let pci = in_range_read 0 greatest_pci octets place 2 cell.pci e (omega arith) in_range.0 in
    let earfcn = in_range_read 0 greatest_earfcn octets (place + 2) 4 cell.earfcn f (omega arith) in_range.1 in
    λ j. pci j >>= λ pci. earfcn j >>= λ earfcn. Ok (record { pci = pci; earfcn = earfcn })

-- what stands to the end
pub rest_takes : (most : ℕ) (octets : List ℕ) (place : ℕ) (x : List ℕ) → rest_at most octets place ≡ Ok x → (drop place octets ≡ x) × (length x ≤ most)
unfolding rest_at
rest_takes most octets place x e =
    let room = passes (nat_lt (place + most) (length octets)) Long (Ok (drop place octets)) x e in
    let within : length octets ≤ place + most = ltb-false _ _ room.0 in
    let is = ok_is (drop place octets) x room.1 in
    let size : length (drop place octets) ≡ length x = ap length is in
    (is, omega (arith, length-drop place octets))

pub rest_read : (most : ℕ) (octets : List ℕ) (place : ℕ) (x : List ℕ) → length x ≤ most → drop place octets ≡ x → rest_at most octets place ≡ Ok x
unfolding rest_at
rest_read most octets place x h e =
    let size : length (drop place octets) ≡ length x = ap length e in
    let room : ltb (place + most) (length octets) ≡ false = le-ltb _ _ (omega (arith, length-drop place octets)) in
    rw (room, e) refl

-- a size that is that of the layout
pub size_read : (size : ℕ) (octets : List ℕ) → length octets ≡ size → of_size size octets ≡ Ok tt
unfolding of_size
size_read size octets h =
    let a : ltb (length octets) size ≡ false = le-ltb _ _ (omega arith) in
    let b : ltb size (length octets) ≡ false = le-ltb _ _ (omega arith) in
    rw (a, b) refl
