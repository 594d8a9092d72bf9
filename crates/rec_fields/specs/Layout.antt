-- The grammar of a record: its fields in order. How it is read, how it is spelled, how long it is and which values it has all come of it.
use Rattle.std.specs.Prelude.{ℕ, ◌+◌, ◌==◌, if◌then◌else◌, List, [], ◌∷◌, ◌++◌, length, Result, Err}
use Rattle.rec_base.specs.BigEndian.{number_at}
use Rattle.rec_fields.specs.Field.{◌>>=◌}

-- A field: what it reads as at a place, or the fault; how a value is spelled; its width in octets; and which values it has.
pub record Field (F A : Type 0) : Type 1 where
  pub read : List ℕ → ℕ → Result A F
  pub spell : A → List ℕ
  pub width : ℕ
  pub Fits : A → Type 0

-- How a layout ends: no octet stands at a place, or at most so many to the end.
pub record Ending (F : Type 0) : Type 0 where
  pub none : List ℕ → ℕ → Result (Unit {0}) F
  pub rest : ℕ → List ℕ → ℕ → Result (List ℕ) F

-- the fields behind the kind, from left to right
pub data Layout (F : Type 0) : Type 1 where
  -- none
  Empty : Layout F
  -- one field, and no more
  Last : {A : Type 0} → Field F A → Layout F
  -- octets to the end, at most so many
  Rest : ℕ → Layout F
  -- a field, and more
  Then : {A : Type 0} → Field F A → Layout F → Layout F

-- the values of the fields
abbrev pub Values : {F : Type 0} → Layout F → Type 0
Values Empty = Unit {0}
Values (Last {A} f) = A
Values (Rest most) = List ℕ
Values (Then {A} f l) = A × Values l

-- what takes the values one by one
abbrev pub Curried : {F : Type 0} → Layout F → Type 0 → Type 0
Curried Empty B = B
Curried (Last {A} f) B = A → B
Curried (Rest most) B = List ℕ → B
Curried (Then {A} f l) B = A → Curried l B

-- what it makes of them
abbrev pub made_of : {F B : Type 0} → (l : Layout F) → Curried l B → Values l → B
made_of Empty make vs = make
made_of (Last f) make x = make x
made_of (Rest most) make x = make x
made_of (Then f l) make vs = made_of l (make vs.0) vs.1

-- the values that stand at a place, handed on; or the first fault, from left to right
abbrev pub read_by : {F B : Type 0} → Ending F → (l : Layout F) → List ℕ → ℕ → (Values l → Result B F) → Result B F
read_by e Empty octets place k = e.none octets place >>= k
read_by e (Last f) octets place k = f.read octets place >>= λ x. e.none octets (place + f.width) >>= λ end. k x
read_by e (Rest most) octets place k = e.rest most octets place >>= k
read_by e (Then f l) octets place k = f.read octets place >>= λ x. read_by e l octets (place + f.width) (λ vs. k (x, vs))

-- values as octets
abbrev pub spelled_by : {F : Type 0} → (l : Layout F) → Values l → List ℕ
spelled_by Empty vs = []
spelled_by (Last f) x = f.spell x
spelled_by (Rest most) x = x
spelled_by (Then f l) vs = f.spell vs.0 ++ spelled_by l vs.1

-- the octets of the fields, but for those to the end
abbrev pub width_of : {F : Type 0} → Layout F → ℕ
width_of Empty = 0
width_of (Last f) = f.width
width_of (Rest most) = 0
width_of (Then f l) = f.width + width_of l

-- kinds, each with how a record of the kind is read
abbrev pub Readers : Type 0 → Type 0 → Type 0
Readers F A = List (ℕ × (List ℕ → Result A F))

-- by the kind; another kind has this fault
abbrev pub by_kind : {F A : Type 0} → F → Readers F A → ℕ → List ℕ → Result A F
by_kind unknown [] kind octets = Err unknown
by_kind unknown (row ∷ rows) kind octets = if kind == row.0 then row.1 octets else by_kind unknown rows kind octets

-- the same of octets that begin with their kind; no octet has a fault of its own
abbrev pub read_rows : {F A : Type 0} → F → F → Readers F A → List ℕ → Result A F
read_rows none unknown rows octets = if length octets == 0 then Err none else by_kind unknown rows (number_at octets 0 1) octets
