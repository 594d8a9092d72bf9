-- Laws of fields: what is read at a place is spelled there, and what is spelled there is read.
use Rattle.std.proofs.Common.{◌≡◌, ℕ, ◌+◌, ◌-◌, ◌<◌, ◌≤◌, ◌^◌, Bool, true, false, cond, ltb, eqb, List, [], ◌∷◌, ◌++◌, length, take, drop, Option, Some, None, Ok, Err, refl, sym, ap, subst, ◌∙◌, append_assoc, arith, length-drop, length-append, drop-drop, lit<}
use Rattle.std.specs.{Prelude.nat_lt, Prelude.◌||◌, Option.ok_or}
use Rattle.std.proofs.lemmas.Bool.{ltb-false, le-ltb, eqb-true}
use Rattle.std.proofs.lemmas.List.{take-append-drop, nil_from_length}
use Rattle.rec_base.specs.BigEndian.{octets_of, field_at, number_at}
use Rattle.rec_base.proofs.Numbers.{AreOctets, length-octets_of}
use Rattle.rec_fields.specs.{Field.◌>>=◌, Spelled.cell_octets}
use Rattle.rec_fields.proofs.Fields.{bind_ok, ok_is, passes, tests_ok, octet_takes, octet_is, number_takes}
use Rattle.rec_fields.proofs.Layouts.{IsField, IsEnding, stands, behind, field_is, number_is, octet_there}
use Rattle.alg_choice.specs.{Caps.IsCaps, declared.caps.Caps.Caps}
use Rattle.annex_a_keys.specs.Cell.{Place, greatest_pci, greatest_earfcn, IsCell}
use Rattle.role_wire.specs.Codes.{Codes, coded}
use Rattle.role_wire.specs.Field.{number_in, coded_at, key_at, caps_at, cell_at, rest_at, ends_at, small, word, code, key, caps, cell, ending}

-- A field of a body finds itself whether octets are wanting.
abbrev pub Anywhere : List ℕ → ℕ → Type 0
Anywhere octets place = Unit {0}

-- a number in its range
pub number_takes_in : (low high width : ℕ) (octets : List ℕ) (place n : ℕ) → number_in low high octets place width ≡ Ok n
    → (place + width ≤ length octets) × (number_at octets place width ≡ n) × (low ≤ n) × (n ≤ high)
unfolding number_in
number_takes_in low high width octets place n e =
    let m = number_at octets place width in
    let room = passes (nat_lt (length octets) (place + width)) (length octets) (cond (nat_lt m low || nat_lt high m) (Err place) (Ok m)) n e in
    let tests = tests_ok (nat_lt m low) (nat_lt high m) place m n room.1 in
    let within : place + width ≤ length octets = ltb-false _ _ room.0 in
    let above : low ≤ m = ltb-false _ _ tests.0 in
    let below : m ≤ high = ltb-false _ _ tests.1 in
    let same : m ≡ n = tests.2 in
    (within, same, omega arith, omega arith)

pub number_reads : (low high width : ℕ) (octets : List ℕ) (place n : ℕ) → place + width ≤ length octets → number_at octets place width ≡ n
    → low ≤ n → n ≤ high → number_in low high octets place width ≡ Ok n
unfolding number_in
number_reads low high width octets place n h e above below =
    let room : ltb (length octets) (place + width) ≡ false = le-ltb _ _ h in
    let a : ltb n low ≡ false = le-ltb _ _ above in
    let b : ltb high n ≡ false = le-ltb _ _ below in
    rw (room, e, a, b) refl

-- an octet, at most this
pub small_takes : (high : ℕ) (octets : List ℕ) (place n : ℕ) → AreOctets octets → number_in 0 high octets place 1 ≡ Ok n
    → (drop place octets ≡ n ∷ drop (place + 1) octets) × (place + 1 ≤ length octets) × (n ≤ high)
small_takes high octets place n fit e =
    let is = number_takes_in 0 high 1 octets place n e in
    (octet_takes octets place (omega arith) ∙ ap (λ m. m ∷ drop (place + 1) octets) is.1, is.0, is.3)

pub small_again : (high : ℕ) (octets rest : List ℕ) (place n : ℕ) → n ≤ high → drop place octets ≡ n ∷ rest
    → (number_in 0 high octets place 1 ≡ Ok n) × (drop (place + 1) octets ≡ rest)
small_again high octets rest place n h e = (
  number_reads 0 high 1 octets place n (stands octets (n ∷ []) rest place (lit< tt) e) (octet_there octets rest place n e) (omega arith) h,
  behind octets (n ∷ []) rest place 1 refl e,
)

pub small_is_field : (high : ℕ) → IsField Anywhere (small high)
small_is_field high = record {
  takes = λ octets place n fit within e. let t = small_takes high octets place n fit e in (t.0, t.2);
  again = λ octets rest place n fits e. (small_again high octets rest place n fits e).0;
  size = λ n fits. refl;
}

-- a number of four octets, at least this
pub word_takes : (low : ℕ) (octets : List ℕ) (place n : ℕ) → AreOctets octets → number_in low (2 ^ 32 - 1) octets place 4 ≡ Ok n
    → (drop place octets ≡ octets_of 4 n ++ drop (place + 4) octets) × (place + 4 ≤ length octets) × ((low ≤ n) × (n < 2 ^ 32))
word_takes low octets place n fit e =
    let is = number_takes_in low (2 ^ 32 - 1) 4 octets place n e in
    (number_takes 4 octets place fit is.0 ∙ ap (λ m. octets_of 4 m ++ drop (place + 4) octets) is.1, is.0, (is.2, omega arith))

pub word_again : (low : ℕ) (octets rest : List ℕ) (place n : ℕ) → (low ≤ n) × (n < 2 ^ 32) → drop place octets ≡ octets_of 4 n ++ rest
    → (number_in low (2 ^ 32 - 1) octets place 4 ≡ Ok n) × (drop (place + 4) octets ≡ rest)
word_again low octets rest place n h e =
    let size = length-octets_of 4 n in
    let within = stands octets (octets_of 4 n) rest place (omega arith) e in (
      number_reads low (2 ^ 32 - 1) 4 octets place n (omega arith) (number_is octets rest place 4 n (omega arith) e) h.0 (omega arith),
      behind octets (octets_of 4 n) rest place 4 size e,
    )

pub word_is_field : (low : ℕ) → IsField Anywhere (word low)
word_is_field low = record {
  takes = λ octets place n fit within e. let t = word_takes low octets place n fit e in (t.0, t.2);
  again = λ octets rest place n fits e. (word_again low octets rest place n fits e).0;
  size = λ n fits. length-octets_of 4 n;
}

-- what an octet stands for, each with the octet that it is spelled by
abbrev pub AreCodes : {A : Type 0} → (A → ℕ) → (A → Type 0) → Codes A → Type 0
AreCodes octet Fits [] = Unit {0}
AreCodes octet Fits (row ∷ rows) = (octet row.1 ≡ row.0) × Fits row.1 × AreCodes octet Fits rows

coded_by : {A : Type 0} (octet : A → ℕ) (Fits : A → Type 0) (b : Bool) (n k : ℕ) (x y : A) (r : Option A)
    → (b ≡ true → n ≡ k) → octet x ≡ k → Fits x → (r ≡ Some y → (octet y ≡ n) × Fits y)
    → cond b (Some x) r ≡ Some y → (octet y ≡ n) × Fits y
coded_by octet Fits true n k x y r same is fits rest e =
    let here : x ≡ y = cc in
    subst (λ z. (octet z ≡ n) × Fits z) here (is ∙ sym (same refl), fits)
coded_by octet Fits false n k x y r same is fits rest e = rest e

pub coded_is : {A : Type 0} (octet : A → ℕ) (Fits : A → Type 0) (codes : Codes A) (n : ℕ) (x : A) → AreCodes octet Fits codes
    → coded codes n ≡ Some x → (octet x ≡ n) × Fits x
coded_is octet Fits [] n x are e = absurd cc
coded_is octet Fits (row ∷ rows) n x are e =
    coded_by octet Fits (eqb n row.0) n row.0 row.1 x (coded rows n) (λ h. eqb-true n row.0 h) are.0 are.1 (λ later. coded_is octet Fits rows n x are.2 later) e

ok_or_is : {A : Type 0} (o : Option A) (place : ℕ) (x : A) → ok_or o place ≡ Ok x → o ≡ Some x
ok_or_is (Some y) place x e = cc
ok_or_is None place x e = absurd cc

-- the laws of a table
pub record IsCoding {A : Type 0} (octet : A → ℕ) (Fits : A → Type 0) (codes : Codes A) : Type 0 where
  pub are : AreCodes octet Fits codes
  pub again : (x : A) → Fits x → coded codes (octet x) ≡ Some x

pub code_takes : {A : Type 0} (octet : A → ℕ) (Fits : A → Type 0) (codes : Codes A) → IsCoding octet Fits codes
    → (octets : List ℕ) (place : ℕ) (x : A) → AreOctets octets → coded_at codes octets place ≡ Ok x
    → (drop place octets ≡ octet x ∷ drop (place + 1) octets) × (place + 1 ≤ length octets) × Fits x
unfolding coded_at
code_takes octet Fits codes is octets place x fit e =
    let n = number_at octets place 1 in
    let room = passes (nat_lt (length octets) (place + 1)) (length octets) (ok_or (coded codes n) place) x e in
    let within : place + 1 ≤ length octets = ltb-false _ _ room.0 in
    let t = coded_is octet Fits codes n x is.are (ok_or_is (coded codes n) place x room.1) in
    (octet_takes octets place (omega arith) ∙ ap (λ m. m ∷ drop (place + 1) octets) (sym t.0), within, t.1)

pub code_again : {A : Type 0} (octet : A → ℕ) (Fits : A → Type 0) (codes : Codes A) → IsCoding octet Fits codes
    → (octets rest : List ℕ) (place : ℕ) (x : A) → Fits x → drop place octets ≡ octet x ∷ rest
    → (coded_at codes octets place ≡ Ok x) × (drop (place + 1) octets ≡ rest)
unfolding coded_at
code_again octet Fits codes is octets rest place x fits e =
    let within = stands octets (octet x ∷ []) rest place (lit< tt) e in
    let room : ltb (length octets) (place + 1) ≡ false = le-ltb _ _ (omega arith) in
    let there = octet_there octets rest place (octet x) e in
    (rw (room, there, is.again x fits) refl, behind octets (octet x ∷ []) rest place 1 refl e)

pub code_is_field : {A : Type 0} (octet : A → ℕ) (Fits : A → Type 0) (codes : Codes A) → IsCoding octet Fits codes → IsField Anywhere (code octet Fits codes)
code_is_field octet Fits codes is = record {
  takes = λ octets place x fit within e. let t = code_takes octet Fits codes is octets place x fit e in (t.0, t.2);
  again = λ octets rest place x fits e. (code_again octet Fits codes is octets rest place x fits e).0;
  size = λ x fits. refl;
}

-- a key
pub key_takes : (octets : List ℕ) (place : ℕ) (x : List ℕ) → AreOctets octets → key_at octets place ≡ Ok x
    → (drop place octets ≡ x ++ drop (place + 32) octets) × (place + 32 ≤ length octets) × (length x ≡ 32)
unfolding key_at field_at
key_takes octets place x fit e =
    let rest = drop place octets in
    let room = passes (nat_lt (length octets) (place + 32)) (length octets) (Ok (take 32 rest)) x e in
    let within : place + 32 ≤ length octets = ltb-false _ _ room.0 in
    let is : take 32 rest ≡ x = ok_is (take 32 rest) x room.1 in
    let parts : rest ≡ x ++ drop (place + 32) octets =
    sym (take-append-drop 32 rest) ∙ (λ j. is j ++ drop-drop 32 place octets j) in
    let size : length rest ≡ length x + length (drop (place + 32) octets) = ap length parts ∙ length-append x (drop (place + 32) octets) in
    (parts, within, omega (arith, length-drop place octets, length-drop (place + 32) octets))

pub key_again : (octets rest : List ℕ) (place : ℕ) (x : List ℕ) → length x ≡ 32 → drop place octets ≡ x ++ rest
    → (key_at octets place ≡ Ok x) × (drop (place + 32) octets ≡ rest)
unfolding key_at
key_again octets rest place x size e =
    let within = stands octets x rest place (omega arith) e in
    let room : ltb (length octets) (place + 32) ≡ false = le-ltb _ _ (omega arith) in
    (rw (room, field_is octets x rest place 32 size e) refl, behind octets x rest place 32 size e)

pub key_is_field : IsField Anywhere key
key_is_field = record {
  takes = λ octets place x fit within e. let t = key_takes octets place x fit e in (t.0, t.2);
  again = λ octets rest place x fits e. (key_again octets rest place x fits e).0;
  size = λ x fits. fits;
}

-- the capabilities
pub caps_takes : (octets : List ℕ) (place : ℕ) (x : Caps) → AreOctets octets → caps_at octets place ≡ Ok x
    → (drop place octets ≡ x.eea ∷ x.eia ∷ drop (place + 2) octets) × (place + 2 ≤ length octets) × (IsCaps x)
unfolding caps_at
caps_takes octets place x fit e =
    let made : Caps = record { eea = number_at octets place 1; eia = number_at octets (place + 1) 1 } in
    let room = passes (nat_lt (length octets) (place + 2)) (length octets) (Ok made) x e in
    let within : place + 2 ≤ length octets = ltb-false _ _ room.0 in
    let two : place + 1 + 1 ≡ place + 2 = omega arith in
    let first = octet_is octets place (omega arith) in
    let second = octet_is octets (place + 1) (omega arith) in
    let parts : drop place octets ≡ made.eea ∷ made.eia ∷ drop (place + 2) octets =
    octet_takes octets place (omega arith)
    ∙ ap (λ t. made.eea ∷ t) (octet_takes octets (place + 1) (omega arith) ∙ ap (λ n. made.eia ∷ drop n octets) two) in
    subst (λ (c : Caps). (drop place octets ≡ c.eea ∷ c.eia ∷ drop (place + 2) octets) × (place + 2 ≤ length octets) × (IsCaps c))
    (ok_is made x room.1) (parts, within, (rw first (fit place), rw second (fit (place + 1))))

pub caps_again : (octets rest : List ℕ) (place : ℕ) (x : Caps) → IsCaps x → drop place octets ≡ x.eea ∷ x.eia ∷ rest
    → (caps_at octets place ≡ Ok x) × (drop (place + 2) octets ≡ rest)
unfolding caps_at
caps_again octets rest place x fits e =
    let within = stands octets (x.eea ∷ x.eia ∷ []) rest place (lit< tt) e in
    let room : ltb (length octets) (place + 2) ≡ false = le-ltb _ _ (omega arith) in
    let first = octet_there octets (x.eia ∷ rest) place x.eea e in
    let next = behind octets (x.eea ∷ []) (x.eia ∷ rest) place 1 refl e in
    let second = octet_there octets rest (place + 1) x.eia next in
    (rw (room, first, second) refl, behind octets (x.eea ∷ x.eia ∷ []) rest place 2 refl e)

pub caps_is_field : IsField Anywhere caps
caps_is_field = record {
  takes = λ octets place x fit within e. let t = caps_takes octets place x fit e in (t.0, t.2);
  again = λ octets rest place x fits e. (caps_again octets rest place x fits e).0;
  size = λ x fits. refl;
}

-- a cell
pub cell_takes : (octets : List ℕ) (place : ℕ) (x : Place) → AreOctets octets → cell_at octets place ≡ Ok x
    → (drop place octets ≡ cell_octets x ++ drop (place + 6) octets) × (place + 6 ≤ length octets) × IsCell x
unfolding cell_at
cell_takes octets place x fit e =
    let a = bind_ok (number_in 0 greatest_pci octets place 2)
    (λ pci.
    number_in 0 greatest_earfcn octets (place + 2) 4 >>= λ earfcn. Ok (record { pci = pci; earfcn = earfcn }))
    x e in
    let b = bind_ok (number_in 0 greatest_earfcn octets (place + 2) 4) (λ earfcn. Ok (record { pci = a.0; earfcn = earfcn })) x a.2 in
    let p = number_takes_in 0 greatest_pci 2 octets place a.0 a.1 in
    let q = number_takes_in 0 greatest_earfcn 4 octets (place + 2) b.0 b.1 in
    let six : place + 2 + 4 ≡ place + 6 = omega arith in
    let made : Place = record { pci = a.0; earfcn = b.0 } in
    let front : drop place octets ≡ octets_of 2 a.0 ++ drop (place + 2) octets =
    number_takes 2 octets place fit p.0 ∙ ap (λ m. octets_of 2 m ++ drop (place + 2) octets) p.1 in
    let back : drop (place + 2) octets ≡ octets_of 4 b.0 ++ drop (place + 6) octets =
    number_takes 4 octets (place + 2) fit q.0 ∙ (λ j. octets_of 4 (q.1 j) ++ drop (six j) octets) in
    let parts : drop place octets ≡ cell_octets made ++ drop (place + 6) octets =
    front ∙ ap (λ t. octets_of 2 a.0 ++ t) back ∙ sym (append_assoc (octets_of 2 a.0) (octets_of 4 b.0) (drop (place + 6) octets)) in
    subst (λ (c : Place). (drop place octets ≡ cell_octets c ++ drop (place + 6) octets) × (place + 6 ≤ length octets) × IsCell c)
    (ok_is made x b.2) (parts, omega arith, (p.3, q.3))

pub cell_again : (octets rest : List ℕ) (place : ℕ) (x : Place) → IsCell x → drop place octets ≡ cell_octets x ++ rest
    → (cell_at octets place ≡ Ok x) × (drop (place + 6) octets ≡ rest)
unfolding cell_at
cell_again octets rest place x fits e =
    let small_pci : x.pci < 256 ^ 2 = omega arith in
    let small_earfcn : x.earfcn < 256 ^ 4 = omega arith in
    let split : drop place octets ≡ octets_of 2 x.pci ++ (octets_of 4 x.earfcn ++ rest) =
    e ∙ append_assoc (octets_of 2 x.pci) (octets_of 4 x.earfcn) rest in
    let next = behind octets (octets_of 2 x.pci) (octets_of 4 x.earfcn ++ rest) place 2 (length-octets_of 2 x.pci) split in
    let size = length-octets_of 4 x.earfcn in
    let within = stands octets (octets_of 4 x.earfcn) rest (place + 2) (omega arith) next in
    let six : place + 2 + 4 ≡ place + 6 = omega arith in
    let pci = number_reads 0 greatest_pci 2 octets place x.pci (omega arith)
    (number_is octets (octets_of 4 x.earfcn ++ rest) place 2 x.pci small_pci split) (omega arith) fits.0 in
    let earfcn = number_reads 0 greatest_earfcn 4 octets (place + 2) x.earfcn (omega arith)
    (number_is octets rest (place + 2) 4 x.earfcn small_earfcn next) (omega arith) fits.1 in (
      λ j. pci j >>= λ pci. earfcn j >>= λ earfcn. Ok (record { pci = pci; earfcn = earfcn }),
      ap (λ n. drop n octets) (sym six) ∙ behind octets (octets_of 4 x.earfcn) rest (place + 2) 4 size next,
    )

pub cell_is_field : IsField Anywhere cell
cell_is_field = record {
  takes = λ octets place x fit within e. let t = cell_takes octets place x fit e in (t.0, t.2);
  again = λ octets rest place x fits e. (cell_again octets rest place x fits e).0;
  size = λ x fits. omega (arith, length-append (octets_of 2 x.pci) (octets_of 4 x.earfcn), length-octets_of 2 x.pci, length-octets_of 4 x.earfcn);
}

-- what stands to the end
pub rest_takes : (most : ℕ) (octets : List ℕ) (place : ℕ) (x : List ℕ) → rest_at most octets place ≡ Ok x → (drop place octets ≡ x) × (length x ≤ most)
unfolding rest_at
rest_takes most octets place x e =
    let room = passes (nat_lt (place + most) (length octets)) (place + most) (Ok (drop place octets)) x e in
    let within : length octets ≤ place + most = ltb-false _ _ room.0 in
    let is = ok_is (drop place octets) x room.1 in
    let size : length (drop place octets) ≡ length x = ap length is in
    (is, omega (arith, length-drop place octets))

pub rest_again : (most : ℕ) (octets : List ℕ) (place : ℕ) (x : List ℕ) → length x ≤ most → drop place octets ≡ x → rest_at most octets place ≡ Ok x
unfolding rest_at
rest_again most octets place x h e =
    let size : length (drop place octets) ≡ length x = ap length e in
    let room : ltb (place + most) (length octets) ≡ false = le-ltb _ _ (omega (arith, length-drop place octets)) in
    rw (room, e) refl

-- the end
pub end_takes : (octets : List ℕ) (place : ℕ) (x : Unit {0}) → ends_at octets place ≡ Ok x → drop place octets ≡ []
unfolding ends_at
end_takes octets place x e =
    let room = passes (nat_lt place (length octets)) place (Ok tt) x e in
    let within : length octets ≤ place = ltb-false _ _ room.0 in
    nil_from_length (drop place octets) (omega (arith, length-drop place octets))

pub end_again : (octets : List ℕ) (place : ℕ) → drop place octets ≡ [] → ends_at octets place ≡ Ok tt
unfolding ends_at
end_again octets place e =
    let size : length (drop place octets) ≡ 0 = ap length e in
    let room : ltb place (length octets) ≡ false = le-ltb _ _ (omega (arith, length-drop place octets)) in
    rw room refl

pub ending_is : IsEnding Anywhere Anywhere ending
ending_is = record {
  enough = λ octets n m h whole. tt;
  none_takes = λ octets place x whole e. end_takes octets place x e;
  none_again = end_again;
  rest_takes = rest_takes;
  rest_again = rest_again;
}
