-- Which key a message may carry, by where it goes: its kind, the NCC beside it, and the cell that it is for.
use Rattle.std.specs.Prelude.{◌≡◌, ℕ, Bool, true, false, ◌&&◌, not, nat_eq, Option, None, Some, List, [], ◌∷◌}
use Rattle.std.specs.Option.{is_none}
use Rattle.std.specs.List.{list_any}
use Rattle.annex_a_keys.specs.Cell.{Place}
use Rattle.key_model.specs.{Term.Term, Term.Star, Chain.ncc_of, Number.chain_number, Value.value_of, HandoverTable.NumberedKey}
use Rattle.trace_keys.specs.declared.{moves.Where.Where, moves.Move.Move}
use Rattle.trace_keys.specs.declared.moves.Where.TheVariants.{Setup, Change, Took, Answer, Asked, Request, Over}
use Rattle.trace_keys.specs.declared.moves.Move.TheVariants.{Prepare}
use Rattle.trace_keys.specs.Net.{Sight}
use Rattle.trace_order.specs.Base.{IsOf}
use Rattle.trace_order.specs.declared.{clues.Shape.Shape, clues.Made.Made, clues.Placed.Placed}

-- which key of the ladder a key is
abbrev pub shape_of : Term → Shape
shape_of (Star key pci earfcn) = record { number = chain_number key; last = Some (record { pci = pci; earfcn = earfcn }) }
shape_of key = record { number = chain_number key; last = None }

-- a handover over X2 to this station for this cell
abbrev pub is_for : ℕ → Place → Move → Bool
is_for station cell (Prepare target at goes) = nat_eq target station && (nat_eq at.pci cell.pci && nat_eq at.earfcn cell.earfcn)
is_for station cell other = false

-- is among these moves
abbrev pub has_cell : List Move → ℕ → Option Place → Bool
has_cell family station None = false
has_cell family station (Some cell) = list_any (is_for station cell) family

-- NCC is the number of the key, of three bits; beside a KeNB there is none (TS 33.401 7.2.8.1.1)
abbrev pub is_kenb : Shape → ℕ → Bool
is_kenb key ncc = nat_eq key.number 0 && (is_none key.last && nat_eq ncc 0)

abbrev pub is_nh : Shape → ℕ → Bool
is_nh key ncc = not (nat_eq key.number 0) && (is_none key.last && nat_eq ncc (ncc_of key.number))

-- KeNB goes to a station where a context is set up or a key is changed, NH from the core, and KeNB* for a cell of the target over X2
abbrev pub may_carry : List Move → Where → Shape → ℕ → Bool
may_carry family (Setup station) key ncc = is_kenb key ncc
may_carry family (Change station) key ncc = is_kenb key ncc
may_carry family (Answer station) key ncc = is_nh key ncc
may_carry family (Request station) key ncc = is_nh key ncc
may_carry family (Over source target) key ncc = has_cell family target key.last && nat_eq ncc (ncc_of key.number)
may_carry family (Took station) key ncc = false
may_carry family (Asked station) key ncc = false

-- what a message carries is the value of a key that may go there, unless it is not looked at
pub record IsCarried (family : List Move) (at : Where) (pair : NumberedKey (List ℕ) ℕ) : Type 0 where
  pub key : Term
  pub value : value_of key ≡ pair.key
  pub may : may_carry family at (shape_of key) pair.number ≡ true

abbrev pub CarriesAt : List Move → Where → Option (NumberedKey (List ℕ) ℕ) → Type 0
CarriesAt family at None = Unit {0}
CarriesAt family at (Some pair) = IsCarried family at pair

-- so of each message
abbrev pub AllCarry : List Move → List (Sight (List ℕ)) → Type 0
AllCarry family [] = Unit {0}
AllCarry family (sight ∷ capture) = CarriesAt family sight.at sight.pair × AllCarry family capture

-- these octets are those of a key of this shape, and of this chain
pub record IsMade (made : Made) : Type 0 where
  pub term : Term
  pub value : value_of term ≡ made.key
  pub shape : shape_of term ≡ made.shape
  pub base : IsOf made.base term

-- so are those of a message, with this NCC
pub record IsPlaced (pair : NumberedKey (List ℕ) ℕ) (placed : Placed) : Type 0 where
  pub term : Term
  pub value : value_of term ≡ pair.key
  pub shape : shape_of term ≡ placed.shape
  pub base : IsOf placed.base term
  pub ncc : pair.number ≡ placed.ncc
