-- What a field of a table holds, each kind of value once.
use Rattle.std.specs.Prelude.{ℕ, suc, ◌^◌, ◌-◌, ◌&&◌, if◌then◌else◌, Bool, true, ℤ, List, [], ◌∷◌, Option, Some, None, is_some, option_and_then, Result, Ok, Err}
use Rattle.std.specs.Option.{ok_or, option_map}
use Rattle.toml.specs.Data.{Data, Items, no_items, item, Members, get_member, as_str, as_integer, as_array, as_table}
use Rattle.alg_choice.specs.{declared.caps.Caps.Caps, declared.algs.Eea.Eea}
use Rattle.alg_choice.specs.declared.algs.Eea.TheVariants.{Eea0, Eea2}
use Rattle.annex_a_keys.specs.Cell.{Place}
use Rattle.rec_base.specs.declared.bearers.Bearer.{Bearer}
use Rattle.lte_events.specs.{declared.setups.FirstNcc.FirstNcc, declared.setups.Setup.Setup, Ranges.has_station}
use Rattle.scenario_file.specs.{declared.fields.Field.Field, declared.faults.Refusal.Refusal, declared.words.Act.Act, declared.words.Actor.Actor, declared.words.RadioEnd.RadioEnd, declared.words.NasEnd.NasEnd, Field.name_of}
use Rattle.scenario_file.specs.declared.fields.Field.TheVariants as field
use Rattle.scenario_file.specs.declared.faults.Refusal.TheVariants.{Missing, Wrong}
use Rattle.scenario_file.specs.Words.{act_of, actor_of, radio_end_of, nas_end_of, srb_of, drb_of, bearer_of, nas_of, path_of, caps_of, key_of, octets_of, natural, in_range, eea_of, first_ncc_of, place_of}

-- the first fault, in the order in which the parts stand
infixl 10 ◌>>=◌
abbrev pub ◌>>=◌ : {A B E : Type 0} → Result A E → (A → Result B E) → Result B E
(Ok x) >>= f = f x
(Err e) >>= f = Err e

-- what a reader gives, seen through what its values stand for
abbrev pub result_map : {A B E : Type 0} → (A → B) → Result A E → Result B E
result_map f (Ok x) = Ok (f x)
result_map f (Err e) = Err e

-- what is read into a place: what stands there then, or a fault
abbrev pub read_in : {A E : Type 0} → Result (Unit {0}) E → A → Result A E
read_in (Ok done) place = Ok place
read_in (Err fault) place = Err fault

-- a value that must stand
abbrev pub value_in : Field → Members → Result Data Refusal
value_in field table = ok_or (get_member (name_of field) table) (Missing field)

-- a value that may be left out
abbrev pub or_default : {A : Type 0} → A → (Field → Members → Result A Refusal) → Field → Members → Result A Refusal
or_default value reader field table =
    if is_some (get_member (name_of field) table) then reader field table else Ok value

-- a text; an integer; an array; a table
unfoldable pub word_in : Field → Members → Result (List ℕ) Refusal
word_in field table = do
  value ← value_in field table
  ok_or (as_str value) (Wrong field)

unfoldable pub integer_in : Field → Members → Result ℤ Refusal
integer_in field table = do
  value ← value_in field table
  ok_or (as_integer value) (Wrong field)

unfoldable pub array_in : Field → Members → Result Items Refusal
array_in field table = do
  value ← value_in field table
  ok_or (as_array value) (Wrong field)

unfoldable pub table_in : Field → Members → Result Members Refusal
table_in field table = do
  value ← value_in field table
  ok_or (as_table value) (Wrong field)

-- an array of tables
abbrev pub are_tables : Items → Bool
are_tables no_items = true
are_tables (item value values) = is_some (as_table value) && are_tables values

unfoldable pub tables_in : Field → Members → Result Items Refusal
tables_in field table = do
  values ← array_in field table
  if are_tables values then Ok values else Err (Wrong field)

-- how many there are
abbrev pub count_of : Items → ℕ
count_of no_items = 0
count_of (item value values) = suc (count_of values)

-- a number from `low` to `high`
unfoldable pub number_in : ℕ → ℕ → Field → Members → Result ℕ Refusal
number_in low high field table = do
  integer ← integer_in field table
  ok_or (option_and_then (in_range low high) (natural integer)) (Wrong field)

-- a number of 32 bits
abbrev pub any_number_in : Field → Members → Result ℕ Refusal
any_number_in = number_in 0 (2 ^ 32 - 1)

-- the first number that is drawn
abbrev pub first_in : Field → Members → Result ℕ Refusal
first_in = number_in 1 (2 ^ 32 - 1)

-- the NCC of the first pair that the core sends
unfoldable pub first_ncc_in : Field → Members → Result FirstNcc Refusal
first_ncc_in field table = do
  integer ← integer_in field table
  ok_or (first_ncc_of integer) (Wrong field)

-- one of the stations, by its number
unfoldable pub station_in : Setup → Members → Result ℕ Refusal
station_in setup table = do
  id ← number_in 0 7 field.Station table
  if has_station setup.stations id then Ok id else Err (Wrong field.Station)

-- a text that is one of some words, or hex
abbrev pub by_word : {A : Type 0} → (List ℕ → Option A) → Field → Members → Result A Refusal
by_word reading field table = do
  word ← word_in field table
  ok_or (reading word) (Wrong field)

unfoldable pub act_in : Field → Members → Result Act Refusal
act_in = by_word act_of

unfoldable pub actor_in : Field → Members → Result Actor Refusal
actor_in = by_word actor_of

unfoldable pub radio_end_in : Field → Members → Result RadioEnd Refusal
radio_end_in = by_word radio_end_of

unfoldable pub nas_end_in : Field → Members → Result NasEnd Refusal
nas_end_in = by_word nas_end_of

unfoldable pub srb_in : Field → Members → Result Bearer Refusal
srb_in = by_word srb_of

unfoldable pub drb_in : Field → Members → Result Bearer Refusal
drb_in = by_word drb_of

unfoldable pub bearer_in : Field → Members → Result Bearer Refusal
bearer_in = by_word bearer_of

unfoldable pub nas_in : Field → Members → Result (Unit {0}) Refusal
nas_in = by_word nas_of

unfoldable pub path_in : Field → Members → Result (Option Bearer) Refusal
path_in = by_word path_of

unfoldable pub caps_in : Field → Members → Result Caps Refusal
caps_in = by_word caps_of

unfoldable pub key_in : Field → Members → Result (List ℕ) Refusal
key_in = by_word key_of

unfoldable pub octets_in : ℕ → Field → Members → Result (List ℕ) Refusal
octets_in most = by_word (octets_of most)

-- a cell as [PCI, EARFCN-DL]
abbrev pub cell_of_items : Items → Option Place
cell_of_items (item pci (item earfcn no_items)) =
    option_and_then (λ p. option_and_then (λ e. place_of p e) (option_and_then natural (as_integer earfcn))) (option_and_then natural (as_integer pci))
cell_of_items other = None

abbrev pub cell_of : Data → Option Place
cell_of value = option_and_then cell_of_items (as_array value)

unfoldable pub cell_in : Field → Members → Result Place Refusal
cell_in field table = do
  value ← value_in field table
  ok_or (cell_of value) (Wrong field)

-- one or two different encryption algorithms, by their identities
abbrev pub eea_at : Data → Option Eea
eea_at value = option_and_then eea_of (as_integer value)

abbrev pub both_of : Eea → Eea → Option (List Eea)
both_of Eea0 Eea0 = None
both_of Eea2 Eea2 = None
both_of first second = Some (first ∷ second ∷ [])

abbrev pub priority_of_items : Items → Option (List Eea)
priority_of_items (item first no_items) = option_map (λ eea. eea ∷ []) (eea_at first)
priority_of_items (item first (item second no_items)) =
    option_and_then (λ a. option_and_then (λ b. both_of a b) (eea_at second)) (eea_at first)
priority_of_items other = None

unfoldable pub priority_in : Field → Members → Result (List Eea) Refusal
priority_in field table = do
  values ← array_in field table
  ok_or (priority_of_items values) (Wrong field)
