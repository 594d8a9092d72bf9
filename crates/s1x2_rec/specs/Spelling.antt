-- The records of S1 and X2, each with its one spelling.
use Rattle.std.specs.Prelude.{◌≡◌, ℕ, ◌<◌, ◌≤◌, List, [], ◌∷◌, ◌++◌, length, get_or, Option, Some, None}
use Rattle.key_model.specs.HandoverTable.{NumberedKey}
use Rattle.rec_fields.specs.Name.{Entry, Ncc, Kenb, Nh, Star}
use Rattle.rec_fields.specs.Form.{entries_octets, EntriesInRange}
use Rattle.s1x2_rec.specs.Fields.{Fields, KeyPlace, NoKey, KenbAlone, NumberedNh, NumberedStar, by_form, kind_of}
use Rattle.s1x2_rec.specs.Content.{Content}

-- the octets of a key
abbrev pub key_octets : Option (NumberedKey (List ℕ) ℕ) → List ℕ
key_octets None = []
key_octets (Some k) = k.key

-- its NCC
abbrev pub key_ncc : Option (NumberedKey (List ℕ) ℕ) → ℕ
key_ncc None = 0
key_ncc (Some k) = k.number

-- what is written of a key
abbrev pub key_entries : KeyPlace → Option (NumberedKey (List ℕ) ℕ) → List Entry
key_entries NoKey key = []
key_entries KenbAlone key = (Kenb, key_octets key) ∷ []
key_entries NumberedNh key = (Ncc, key_ncc key) ∷ (Nh, key_octets key) ∷ []
key_entries NumberedStar key = (Ncc, key_ncc key) ∷ (Star, key_octets key) ∷ []

-- the fields in order
abbrev pub fields_octets : Fields → Option (NumberedKey (List ℕ) ℕ) → List ℕ
fields_octets fields key = by_form (λ form plain place. entries_octets (plain ++ key_entries place key)) fields

-- the kind, and then the fields
unfoldable pub spelling_of : Content (List ℕ) ℕ → List ℕ
spelling_of content = kind_of content.fields ∷ fields_octets content.fields content.key

-- each plain field is in its range
abbrev pub FieldsInRange : Fields → Type 0
FieldsInRange fields = EntriesInRange (by_form (λ form plain place. plain) fields)

-- a key of 32 octets, whose NCC is at most this
abbrev pub IsKey : ℕ → Option (NumberedKey (List ℕ) ℕ) → Type 0
IsKey greatest None = ⊥
IsKey greatest (Some k) = (length k.key ≡ 32) × ((i : ℕ) → get_or k.key i 0 < 256) × (k.number ≤ greatest)

abbrev pub IsNoKey : Option (NumberedKey (List ℕ) ℕ) → Type 0
IsNoKey None = Unit {0}
IsNoKey (Some k) = ⊥

abbrev pub KeyAt : KeyPlace → Option (NumberedKey (List ℕ) ℕ) → Type 0
KeyAt NoKey key = IsNoKey key
KeyAt KenbAlone key = IsKey 0 key
KeyAt NumberedNh key = IsKey 7 key
KeyAt NumberedStar key = IsKey 7 key

-- a key stands exactly in the records that carry one
abbrev pub KeyInRange : Fields → Option (NumberedKey (List ℕ) ℕ) → Type 0
KeyInRange fields key = KeyAt (by_form (λ form plain place. place) fields) key

-- each field is in its range
pub record InRange (content : Content (List ℕ) ℕ) : Type 0 where
  pub fields : FieldsInRange content.fields
  pub key : KeyInRange content.fields content.key
