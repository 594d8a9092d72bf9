-- The fields of records, and records of one layout: what is read is spelled so, and what is spelled so is read.
use Rattle.std.proofs.Common.{◌≡◌, ℕ, ◌+◌, ◌-◌, ◌<◌, ◌≤◌, ◌^◌, List, [], ◌∷◌, ◌++◌, length, take, drop, Ok, refl, sym, ap, subst, ◌∙◌, append_assoc, drop-drop, length-drop, length-append, arith}
use Rattle.std.proofs.lemmas.List.{take-append-drop, length-take}
use Rattle.rec_base.specs.{BigEndian.octets_of, BigEndian.field_at, declared.faults.RecFault.RecFault}
use Rattle.rec_base.proofs.Numbers.{AreOctets, length-octets_of}
use Rattle.alg_choice.specs.declared.caps.Caps.{Caps}
use Rattle.annex_a_keys.specs.Cell.{Place, IsCell}
use Rattle.rec_fields.specs.Field.{◌>>=◌, of_size, caps_at, rest_at}
use Rattle.rec_fields.specs.Spelled.{algs_octet, cell_octets}
use Rattle.rec_fields.specs.Layout.{Layout, Empty, Last, Rest, Then, Values, read_by, spelled_by, width_of}
use Rattle.rec_fields.specs.Record.{octet, octet_to, number, cell, algorithms, capabilities, key, sized, read_layout}
use Rattle.rec_fields.proofs.Fields.{bind_ok, ok_is, size_is, size_read, ends, octets_rest, octets_front, octet_is, octet_in_takes, number_in_takes, in_range_read, algs_takes, algs_read, caps_takes, caps_read, cell_takes, cell_read, rest_takes, rest_read}
use Rattle.rec_fields.proofs.Layouts.{IsField, AreFields, IsEnding, IsSized, IsRow, Spelled, found, again, spelled_width, behind, number_is, octet_there, field_is, FitBy}

-- octets that reach to a place, and octets that end there
abbrev pub Reach : List ℕ → ℕ → Type 0
Reach octets place = place ≤ length octets

abbrev EndAt : List ℕ → ℕ → Type 0
EndAt octets place = length octets ≡ place

pub octet_is_field : (low high : ℕ) → IsField Reach (octet low high)
octet_is_field low high = record {
  takes = λ octets place n fit within e. let t = octet_in_takes low high octets place n (omega arith) e in (t.0, (t.1, t.2));
  again = λ octets rest place n fit e. in_range_read low high octets place 1 n (octet_there octets rest place n e) fit.0 fit.1;
  size = λ n fit. refl;
}

pub octet_to_is_field : (high : ℕ) → IsField Reach (octet_to high)
octet_to_is_field high = let law = octet_is_field 0 high in record {
  takes = λ octets place n fit within e. let t = law.takes octets place n fit within e in (t.0, t.1.1);
  again = λ octets rest place n fit e. law.again octets rest place n (omega arith, fit) e;
  size = λ n fit. refl;
}

pub number_is_field : IsField Reach number
number_is_field = record {
  takes = λ octets place n fit within e. let t = number_in_takes 1 (2 ^ 32 - 1) octets place 4 n fit within e in (t.0, (t.1, omega arith));
  again = λ octets rest place n fit e. in_range_read 1 (2 ^ 32 - 1) octets place 4 n (number_is octets rest place 4 n fit.1 e) fit.0 (omega arith);
  size = λ n fit. length-octets_of 4 n;
}

cell_again : (octets rest : List ℕ) (place : ℕ) (x : Place) → IsCell x → drop place octets ≡ cell_octets x ++ rest → cell.read octets place ≡ Ok x
cell_again octets rest place x fit e =
    let small : x.pci < 256 ^ 2 = omega (arith, fit.0) in
    let wide : x.earfcn < 256 ^ 4 = omega (arith, fit.1) in
    let split : drop place octets ≡ octets_of 2 x.pci ++ (octets_of 4 x.earfcn ++ rest) = e ∙ append_assoc (octets_of 2 x.pci) (octets_of 4 x.earfcn) rest in
    let next = behind octets (octets_of 2 x.pci) (octets_of 4 x.earfcn ++ rest) place 2 (length-octets_of 2 x.pci) split in
    cell_read octets place x (number_is octets (octets_of 4 x.earfcn ++ rest) place 2 x.pci small split)
    (number_is octets rest (place + 2) 4 x.earfcn wide next) fit

pub cell_is_field : IsField Reach cell
cell_is_field = record {
  takes = λ octets place x fit within e. cell_takes octets place x fit within e;
  again = cell_again;
  size = λ x fit. omega (arith, length-append (octets_of 2 x.pci) (octets_of 4 x.earfcn), length-octets_of 2 x.pci, length-octets_of 4 x.earfcn);
}

pub algorithms_is_field : IsField Reach algorithms
algorithms_is_field = record {
  takes = λ octets place x fit within e. (algs_takes octets place x (omega arith) e, tt);
  again = λ octets rest place x fit e. algs_read octets place x (octet_there octets rest place (algs_octet x) e);
  size = λ x fit. refl;
}

caps_taken : (octets : List ℕ) (place : ℕ) (x : Caps) → AreOctets octets → place + 2 ≤ length octets → capabilities.read octets place ≡ Ok x
    → (drop place octets ≡ x.eea ∷ x.eia ∷ drop (place + 2) octets) × ((x.eea < 256) × (x.eia < 256))
unfolding caps_at
caps_taken octets place x fit within e =
    let a = octet_is octets place (omega arith) in
    let b = octet_is octets (place + 1) (omega arith) in
    subst (λ (c : Caps). (drop place octets ≡ c.eea ∷ c.eia ∷ drop (place + 2) octets) × ((c.eea < 256) × (c.eia < 256))) (ok_is (caps_at octets place) x e)
    (caps_takes octets place within, (rw a (fit place), rw b (fit (place + 1))))

pub caps_again : (octets rest : List ℕ) (place : ℕ) (x : Caps) → drop place octets ≡ x.eea ∷ x.eia ∷ rest → capabilities.read octets place ≡ Ok x
caps_again octets rest place x e =
    let next = behind octets (x.eea ∷ []) (x.eia ∷ rest) place 1 refl e in
    ap Ok (caps_read octets place x (octet_there octets (x.eia ∷ rest) place x.eea e) (octet_there octets rest (place + 1) x.eia next))

pub capabilities_is_field : IsField Reach capabilities
capabilities_is_field = record {
  takes = caps_taken;
  again = λ octets rest place x fit e. caps_again octets rest place x e;
  size = λ x fit. refl;
}

key_taken : (octets : List ℕ) (place : ℕ) (x : List ℕ) → AreOctets octets → place + 32 ≤ length octets → key.read octets place ≡ Ok x
    → (drop place octets ≡ x ++ drop (place + 32) octets) × ((length x ≡ 32) × AreOctets x)
unfolding field_at
key_taken octets place x fit within e =
    let rest = drop place octets in
    let size : length (take 32 rest) ≡ 32 = omega (arith, length-take 32 rest, length-drop place octets) in
    subst (λ (k : List ℕ). (rest ≡ k ++ drop (place + 32) octets) × ((length k ≡ 32) × AreOctets k)) (ok_is (take 32 rest) x e)
    (sym (take-append-drop 32 rest) ∙ ap (λ r. take 32 rest ++ r) (drop-drop 32 place octets), (size, octets_front 32 rest (octets_rest place octets fit)))

pub key_is_field : IsField Reach key
key_is_field = record {
  takes = key_taken;
  again = λ octets rest place x fit e. ap Ok (field_is octets x rest place 32 fit.0 e);
  size = λ x fit. fit.0;
}

sized_is : IsEnding Reach EndAt sized
sized_is = record {
  enough = λ octets n m h whole. omega arith;
  none_takes = λ octets place x whole e. ends octets place whole;
  none_again = λ octets place e. refl;
  rest_takes = rest_takes;
  rest_again = rest_read;
}

-- a record has a size, or octets to its end and no other field
abbrev pub IsRecord : Layout RecFault → Type 0
IsRecord (Rest most) = Unit {0}
IsRecord l = IsSized l

-- what a record was read from
abbrev Taken : {A : Type 0} (l : Layout RecFault) → (Values l → A) → List ℕ → A → Type 0
Taken l make octets y = (vs : Values l) × (make vs ≡ y) × (drop 1 octets ≡ spelled_by l vs) × FitBy l vs

sized_taken : {A : Type 0} (l : Layout RecFault) → AreFields Reach l → (make : Values l → A) (octets : List ℕ) (y : A) → AreOctets octets
    → (of_size (1 + width_of l) octets >>= λ size. read_by sized l octets 1 (λ vs. Ok (make vs))) ≡ Ok y → Taken l make octets y
sized_taken l law make octets y fit e =
    let s = bind_ok (of_size (1 + width_of l) octets) (λ size. read_by sized l octets 1 (λ vs. Ok (make vs))) y e in
    let size = size_is (1 + width_of l) octets s.0 s.1 in
    let t = found sized_is l law octets 1 (λ vs. Ok (make vs)) y fit size s.2 in
    (t.0, ok_is (make t.0) y t.1, t.2, t.3)

taken : {A : Type 0} (l : Layout RecFault) → AreFields Reach l → (make : Values l → A) (octets : List ℕ) (y : A) → AreOctets octets
    → read_layout l make octets ≡ Ok y → Taken l make octets y
taken Empty law make octets y fit e = sized_taken Empty law make octets y fit e
taken (Last f) law make octets y fit e = sized_taken (Last f) law make octets y fit e
taken (Rest most) law make octets y fit e =
    let a = bind_ok (rest_at most octets 1) (λ x. Ok (make x)) y e in
    let t = rest_takes most octets 1 a.0 a.1 in
    (a.0, ok_is (make a.0) y a.2, t.0, t.1)
taken (Then f l) law make octets y fit e = sized_taken (Then f l) law make octets y fit e

-- a row that reads by a layout
pub record_row : {A : Type 0} (spell : A → List ℕ) (Fits : A → Type 0) (kind : ℕ) (l : Layout RecFault) (make : Values l → A) → AreFields Reach l
    → ((vs : Values l) → kind ∷ spelled_by l vs ≡ spell (make vs)) → ((vs : Values l) → FitBy l vs → Fits (make vs))
    → IsRow spell Fits (kind, λ octets. read_layout l make octets)
record_row spell Fits kind l make law same fits octets x fit front e =
    let t = taken l law make octets x fit e in
    subst (Spelled spell Fits octets) t.1 (front ∙ ap (λ r. kind ∷ r) t.2 ∙ same t.0, fits t.0 t.3)

sized_again : {A : Type 0} (l : Layout RecFault) → AreFields Reach l → IsSized l → (make : Values l → A) (kind : ℕ) (vs : Values l) → FitBy l vs
    → (of_size (1 + width_of l) (kind ∷ spelled_by l vs) >>= λ size. read_by sized l (kind ∷ spelled_by l vs) 1 (λ vs. Ok (make vs))) ≡ Ok (make vs)
sized_again l law is make kind vs fit =
    let octets : List ℕ = kind ∷ spelled_by l vs in
    let size = size_read (1 + width_of l) octets (omega (arith, spelled_width Reach l law is vs fit)) in
    ap (λ r. r >>= λ size. read_by sized l octets 1 (λ vs. Ok (make vs))) size ∙ again sized_is l law octets 1 (λ vs. Ok (make vs)) vs fit refl

-- what is spelled of values in range is read as the record made of them
pub read_again : {A : Type 0} (l : Layout RecFault) → AreFields Reach l → IsRecord l → (make : Values l → A) (kind : ℕ) (vs : Values l) → FitBy l vs
    → read_layout l make (kind ∷ spelled_by l vs) ≡ Ok (make vs)
read_again Empty law is make kind vs fit = sized_again Empty law is make kind vs fit
read_again (Last f) law is make kind vs fit = sized_again (Last f) law is make kind vs fit
read_again (Rest most) law is make kind vs fit = ap (λ r. r >>= λ x. Ok (make x)) (rest_read most (kind ∷ vs) 1 vs fit refl)
read_again (Then f l) law is make kind vs fit = sized_again (Then f l) law is make kind vs fit
