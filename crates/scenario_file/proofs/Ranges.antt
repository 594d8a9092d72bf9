-- What was read is in the range of its type.
use Rattle.std.proofs.Common.{◌≡◌, ℕ, ◌/◌, true, false, ◌&&◌, List, [], ◌∷◌, length, sym, ◌∙◌, subst, Option, Some, None, Result, Ok, Err, arith, ⊎_elim}
use Rattle.std.specs.Prelude.{IfOk, nat_le, if◌then◌else◌, option_and_then}
use Rattle.std.specs.Result.{result_ok}
use Rattle.std.proofs.lemmas.Bool.{cases_Bool, and_parts, leb-true}
use Rattle.std.proofs.lemmas.List.{get_or_default}
use Rattle.hex.specs.Hex.{decode_of, decode_sized, IsBytes}
use Rattle.hex.specs.declared.error.FromHexError.{FromHexError}
use Rattle.hex.proofs.HexLemmas.{decode_of-ok, decode_sized-ok, decode_sized-twice}
use Rattle.toml.specs.Data.{Data, Items, no_items, item, Members, as_array, as_integer}
use Rattle.alg_choice.specs.{declared.caps.Caps.Caps, Caps.IsCaps}
use Rattle.annex_a_keys.specs.Cell.{Place, greatest_pci, greatest_earfcn, IsCell}
use Rattle.rec_base.specs.Ranges.{AreOctets, IsText, IsKey}
use Rattle.scenario_file.specs.{declared.fields.Field.Field, declared.faults.Refusal.Refusal}
use Rattle.scenario_file.specs.Words.{caps_from, caps_of, key_of, octets_of, natural, place_of}
use Rattle.scenario_file.specs.Values.{value_in, word_in, by_word, octets_in, key_in, caps_in, cell_of_items, cell_of, cell_in}
use Rattle.scenario_file.proofs.FirstFault.{then_ok, then_some, ok_or_ok}

-- what is read by words is what the words read
by_word_ok : {A : Type 0} (P : A → Type 0) (reading : List ℕ → Option A) (field : Field) (table : Members) (r : Result A Refusal)
    → ((word : List ℕ) (a : A) → reading word ≡ Some a → P a) → r ≡ by_word reading field table → IfOk r P
by_word_ok P reading field table (Ok a) holds read =
    then_ok (P a) (word_in field table) _ a (λ word e more. holds word a (ok_or_ok _ _ a more)) (sym read)
by_word_ok P reading field table (Err fault) holds read = tt

decoded : {A : Type 0} (r : Result A FromHexError) (a : A) → result_ok r ≡ Some a → r ≡ Ok a
decoded (Ok x) a e = cc
decoded (Err fault) a e = absurd cc

pub bytes_are_octets : (octets : List ℕ) → IsBytes octets → AreOctets octets
bytes_are_octets octets bytes k d below = rw (← get_or_default octets k 0 d below) (bytes k)

sized_are_octets : (word : List ℕ) (n : ℕ) (octets : List ℕ) → decode_sized word n ≡ Ok octets → AreOctets octets × (length octets ≡ n)
sized_are_octets word n octets read =
    let twice = decode_sized-ok word n octets read in
    let parts = decode_of-ok word octets (sym (decode_sized-twice word n twice) ∙ read) in
    (bytes_are_octets octets parts.3, omega (arith, twice, parts.2))

octets_text : (most : ℕ) (word text : List ℕ) → octets_of most word ≡ Some text → IsText most text
unfolding octets_of
octets_text most word text = ⊎_elim
    (λ (yes : nat_le (length word / 2) most ≡ true). λ (read : (if nat_le (length word / 2) most then result_ok (decode_of word) else None) ≡ Some text).
    let parts = decode_of-ok word text (decoded _ text (rw yes at read)) in
    (bytes_are_octets text parts.3, omega (arith, leb-true _ _ yes, parts.2)))
    (λ (no : nat_le (length word / 2) most ≡ false). λ (read : (if nat_le (length word / 2) most then result_ok (decode_of word) else None) ≡ Some text).
    let lost : None ≡ Some text = rw no at read in absurd cc)
    (cases_Bool (nat_le (length word / 2) most))

pub octets_fit : (most : ℕ) (field : Field) (table : Members) (r : Result (List ℕ) Refusal) → r ≡ octets_in most field table → IfOk r (IsText most)
unfolding octets_in
octets_fit most field table r = by_word_ok (IsText most) (octets_of most) field table r (octets_text most)

key_is : (word key : List ℕ) → key_of word ≡ Some key → IsKey key
unfolding key_of
key_is word key read = sized_are_octets word 32 key (decoded _ key read)

pub key_fits : (field : Field) (table : Members) (r : Result (List ℕ) Refusal) → r ≡ key_in field table → IfOk r IsKey
unfolding key_in
key_fits field table r = by_word_ok IsKey key_of field table r key_is

both_octets : (octets : List ℕ) (caps : Caps) → AreOctets octets → caps_from octets ≡ Some caps → IsCaps caps
both_octets (eea ∷ eia ∷ []) caps octets read =
    let same : record { eea = eea; eia = eia } ≡ caps = cc in
    subst IsCaps same (octets 0 0 (omega arith), octets 1 0 (omega arith))
both_octets [] caps octets read = absurd cc
both_octets (a ∷ []) caps octets read = absurd cc
both_octets (a ∷ b ∷ c ∷ more) caps octets read = absurd cc

caps_are : (word : List ℕ) (caps : Caps) → caps_of word ≡ Some caps → IsCaps caps
unfolding caps_of
caps_are word caps = then_some (IsCaps caps) (result_ok (decode_sized word 2)) caps_from caps (λ octets read from.
    both_octets octets caps (sized_are_octets word 2 octets (decoded _ octets read)).0 from)

pub caps_fit : (field : Field) (table : Members) (r : Result Caps Refusal) → r ≡ caps_in field table → IfOk r IsCaps
unfolding caps_in
caps_fit field table r = by_word_ok IsCaps caps_of field table r caps_are

place_is : (pci earfcn : ℕ) (cell : Place) → place_of pci earfcn ≡ Some cell → IsCell cell
place_is pci earfcn cell = ⊎_elim
    (λ (yes : (nat_le pci greatest_pci && nat_le earfcn greatest_earfcn) ≡ true). λ (read : place_of pci earfcn ≡ Some cell).
    let kept : Some (record { pci = pci; earfcn = earfcn }) ≡ Some cell = rw yes at read in
    let same : record { pci = pci; earfcn = earfcn } ≡ cell = cc in
    let both = and_parts _ _ yes in
    subst IsCell same (leb-true _ _ both.0, leb-true _ _ both.1))
    (λ (no : (nat_le pci greatest_pci && nat_le earfcn greatest_earfcn) ≡ false). λ (read : place_of pci earfcn ≡ Some cell).
    let lost : None ≡ Some cell = rw no at read in absurd cc)
    (cases_Bool (nat_le pci greatest_pci && nat_le earfcn greatest_earfcn))

items_place : (values : Items) (cell : Place) → cell_of_items values ≡ Some cell → IsCell cell
items_place (item pci (item earfcn no_items)) cell =
    then_some (IsCell cell) (option_and_then natural (as_integer pci)) _ cell (λ p e more.
    then_some (IsCell cell) (option_and_then natural (as_integer earfcn)) _ cell (λ q e last. place_is p q cell last) more)
items_place no_items cell = λ (read : None ≡ Some cell). absurd cc
items_place (item pci no_items) cell = λ (read : None ≡ Some cell). absurd cc
items_place (item pci (item earfcn (item more values))) cell = λ (read : None ≡ Some cell). absurd cc

pub cell_of_place : (value : Data) (cell : Place) → cell_of value ≡ Some cell → IsCell cell
cell_of_place value cell = then_some (IsCell cell) (as_array value) cell_of_items cell (λ values e read. items_place values cell read)

pub cell_fits : (field : Field) (table : Members) (r : Result Place Refusal) → r ≡ cell_in field table → IfOk r IsCell
unfolding cell_in
cell_fits field table (Ok cell) read =
    then_ok (IsCell cell) (value_in field table) _ cell (λ value e more. cell_of_place value cell (ok_or_ok _ _ cell more)) (sym read)
cell_fits field table (Err fault) read = tt
