-- The RRC texts, each with its one spelling.
use Rattle.std.specs.Prelude.{ℕ, List, [], ◌∷◌}
use Rattle.rec_fields.specs.Name.{Air, Station, Ncc, Cell, Algorithms}
use Rattle.rec_fields.specs.Form.{Form, Said, Listed, ToEnd, spelled, SaidInRange}
use Rattle.rrc_rec.specs.declared.records.RrcRecord.{RrcRecord}
use Rattle.rrc_rec.specs.declared.records.RrcRecord.TheVariants.{SecurityModeCommand, SecurityModeComplete, Reconfiguration, ReconfigurationComplete, RrcData, KeyChange}
use Rattle.rrc_rec.specs.Forms.{command, complete, reconfiguration, reconfigured, any_text, key_change}

-- what is made of the form of a record and of what it says
abbrev pub by_form : {B : Type 0} → (Form RrcRecord → Said → B) → RrcRecord → B
by_form f (SecurityModeCommand algs station air) =
    f command (Listed ((Algorithms, algs) ∷ (Station, station) ∷ (Air, air) ∷ []))
by_form f SecurityModeComplete = f complete (Listed [])
by_form f (Reconfiguration cell ncc algs station air) =
    f reconfiguration (Listed ((Cell, cell) ∷ (Ncc, ncc) ∷ (Algorithms, algs) ∷ (Station, station) ∷ (Air, air) ∷ []))
by_form f ReconfigurationComplete = f reconfigured (Listed [])
by_form f (RrcData text) = f any_text (ToEnd text)
by_form f (KeyChange cell algs station air) =
    f key_change (Listed ((Cell, cell) ∷ (Algorithms, algs) ∷ (Station, station) ∷ (Air, air) ∷ []))

-- the kind
abbrev pub kind_of : RrcRecord → ℕ
kind_of r = by_form (λ form says. form.kind) r

-- the kind, and then the fields in order
unfoldable pub spelling_of : RrcRecord → List ℕ
spelling_of r = by_form spelled r

-- each field is in its range
abbrev pub InRange : RrcRecord → Type 0
InRange r = SaidInRange (by_form (λ form says. form.body) r) (by_form (λ form says. says) r)
