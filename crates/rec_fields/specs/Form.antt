-- The form of a kind of record: how it is read, how it is spelled and what it says come of it.
use Rattle.std.specs.Prelude.{ℕ, ◌≤◌, if◌then◌else◌, List, [], ◌∷◌, ◌++◌, length, Result}
use Rattle.rec_base.specs.declared.faults.RecFault.{RecFault}
use Rattle.rec_fields.specs.Layout.{Layout, Empty, Last, Rest, Then, Values, Curried, made_of, Readers}
use Rattle.rec_fields.specs.Record.{read_layout, read_kinds}
use Rattle.rec_fields.specs.Name.{Name, field, has_any, Entry}

-- what stands behind the kind
pub data Body : Type 0 where
  -- the fields of these names, in this order
  Of : List Name → Body
  -- a text to the end, of at most so many octets
  Text : ℕ → Body

abbrev pub layout_of : List Name → Layout RecFault
layout_of [] = Empty
layout_of (name ∷ []) = Last (field name)
layout_of (name ∷ next ∷ names) = Then (field name) (layout_of (next ∷ names))

abbrev pub layout : Body → Layout RecFault
layout (Of names) = layout_of names
layout (Text most) = Rest most

-- A kind of record: its first octet, what stands after it, and what is made of the values there.
pub record Form (A : Type 0) : Type 0 where
  pub kind : ℕ
  pub body : Body
  pub make : Values (layout body) → A

-- a form of fields, whose values are taken one by one
abbrev pub form : {A : Type 0} → ℕ → (names : List Name) → Curried (layout_of names) A → Form A
form kind names make = record { kind = kind; body = Of names; make = λ vs. made_of (layout_of names) make vs }

-- a form of one text
abbrev pub text_form : {A : Type 0} → ℕ → ℕ → (List ℕ → A) → Form A
text_form kind most make = record { kind = kind; body = Text most; make = λ text. make text }

-- what a record says: values under the names of their fields, or a text
pub data Said : Type 0 where
  Listed : List Entry → Said
  ToEnd : List ℕ → Said

abbrev pub entries : (names : List Name) → Values (layout_of names) → List Entry
entries [] vs = []
entries (name ∷ []) x = (name, x) ∷ []
entries (name ∷ next ∷ names) vs = (name, vs.0) ∷ entries (next ∷ names) vs.1

abbrev pub said : (body : Body) → Values (layout body) → Said
said (Of names) vs = Listed (entries names vs)
said (Text most) text = ToEnd text

-- the values in order
abbrev pub entries_octets : List Entry → List ℕ
entries_octets [] = []
entries_octets (e ∷ []) = (field e.0).spell e.1
entries_octets (e ∷ next ∷ es) = (field e.0).spell e.1 ++ entries_octets (next ∷ es)

abbrev pub said_octets : Said → List ℕ
said_octets (Listed es) = entries_octets es
said_octets (ToEnd text) = text

-- the kind, and then what is said
abbrev pub spelled : {A : Type 0} → Form A → Said → List ℕ
spelled form says = form.kind ∷ said_octets says

-- the values whose field has a range
abbrev pub ranged : List Entry → List Entry
ranged [] = []
ranged (e ∷ es) = if has_any e.0 then ranged es else e ∷ ranged es

-- each is in the range of its field
abbrev pub AllInRange : List Entry → Type 0
AllInRange [] = Unit {0}
AllInRange (e ∷ []) = (field e.0).Fits e.1
AllInRange (e ∷ next ∷ es) = (field e.0).Fits e.1 × AllInRange (next ∷ es)

abbrev pub EntriesInRange : List Entry → Type 0
EntriesInRange es = AllInRange (ranged es)

-- the most octets of a text to the end
abbrev pub most_of : Body → ℕ
most_of (Of names) = 0
most_of (Text most) = most

-- what a record says is in range
abbrev pub SaidInRange : Body → Said → Type 0
SaidInRange body (Listed es) = EntriesInRange es
SaidInRange body (ToEnd text) = length text ≤ most_of body

-- the record of what stands behind the kind, or the first fault
unfoldable pub read_as : {A : Type 0} → (body : Body) → (Values (layout body) → A) → List ℕ → Result A RecFault
read_as body make octets = read_layout (layout body) make octets

abbrev pub record_by : {A : Type 0} → Form A → List ℕ → Result A RecFault
record_by form octets = read_as form.body form.make octets

-- the record of one of these forms, or the first fault
abbrev pub readers : {A : Type 0} → List (Form A) → Readers RecFault A
readers [] = []
readers (form ∷ forms) = (form.kind, λ octets. record_by form octets) ∷ readers forms

abbrev pub read_forms : {A : Type 0} → List (Form A) → List ℕ → Result A RecFault
read_forms forms octets = read_kinds (readers forms) octets
