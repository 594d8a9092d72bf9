-- The NAS texts, each with its one spelling.
use Rattle.std.specs.Prelude.{ℕ, List, [], ◌∷◌}
use Rattle.rec_fields.specs.Name.{Algorithms, Replayed, Ksi, Cause}
use Rattle.rec_fields.specs.Form.{Form, Said, Listed, ToEnd, spelled, SaidInRange}
use Rattle.nas_rec.specs.declared.records.NasRecord.{NasRecord}
use Rattle.nas_rec.specs.declared.records.NasRecord.TheVariants.{SecurityModeCommand, SecurityModeComplete, SecurityModeReject, ServiceRequest, NasData}
use Rattle.nas_rec.specs.Forms.{command, complete, reject, service_request, any_text}

-- what is made of the form of a record and of what it says
abbrev pub by_form : {B : Type 0} → (Form NasRecord → Said → B) → NasRecord → B
by_form f (SecurityModeCommand ksi algs caps) = f command (Listed ((Ksi, ksi) ∷ (Algorithms, algs) ∷ (Replayed, caps) ∷ []))
by_form f SecurityModeComplete = f complete (Listed [])
by_form f (SecurityModeReject cause) = f reject (Listed ((Cause, cause) ∷ []))
by_form f ServiceRequest = f service_request (Listed [])
by_form f (NasData text) = f any_text (ToEnd text)

-- the kind
abbrev pub kind_of : NasRecord → ℕ
kind_of r = by_form (λ form says. form.kind) r

-- the kind, and then the fields in order
unfoldable pub spelling_of : NasRecord → List ℕ
spelling_of r = by_form spelled r

-- each field is in its range
abbrev pub InRange : NasRecord → Type 0
InRange r = SaidInRange (by_form (λ form says. form.body) r) (by_form (λ form says. says) r)
