-- What is read is spelled so, and what is spelled so is read.
use Rattle.std.proofs.Common.{◌≡◌, ℕ, List, Result, Ok, refl}
use Rattle.std.specs.Prelude.{IfOk}
use Rattle.rec_base.specs.declared.faults.RecFault.{RecFault}
use Rattle.rec_base.proofs.Numbers.{AreOctets}
use Rattle.rec_fields.specs.Form.{Form, Said}
use Rattle.rec_fields.proofs.Forms.{Shown, AreShown, IsMade, found_by, read_back}
use Rattle.nas_rec.specs.declared.records.NasRecord.{NasRecord}
use Rattle.nas_rec.specs.declared.records.NasRecord.TheVariants.{SecurityModeCommand, SecurityModeComplete, SecurityModeReject, ServiceRequest, NasData}
use Rattle.nas_rec.specs.Forms.{nas_forms, command, complete, reject, service_request, any_text}
use Rattle.nas_rec.specs.{Spelling.by_form, Spelling.spelling_of, Spelling.InRange, Reading.read_nas}

-- the form of a record, and the values that it is made of
abbrev shown : NasRecord → Shown NasRecord
shown (SecurityModeCommand ksi algs caps) = (command, (ksi, (algs, caps)))
shown SecurityModeComplete = (complete, tt)
shown (SecurityModeReject cause) = (reject, cause)
shown ServiceRequest = (service_request, tt)
shown (NasData text) = (any_text, text)

-- what it says under the names of its fields
abbrev says : NasRecord → Form NasRecord × Said
says r = by_form (λ form says. (form, says)) r

are_shown : AreShown shown nas_forms
are_shown = (λ vs. refl, (λ vs. refl, (λ vs. refl, (λ vs. refl, (λ vs. refl, tt)))))

is_made : (r : NasRecord) → IsMade nas_forms shown says spelling_of InRange r
unfolding spelling_of
is_made (SecurityModeCommand ksi algs caps) = record { made = refl; named = refl; same = refl; listed = λ octets. refl; within = λ h. h; back = λ h. h }
is_made other = record { made = refl; named = refl; same = refl; listed = λ octets. refl; within = λ h. h; back = λ h. h }

-- what is spelled so is read
pub spelled_is_read : (r : NasRecord) → InRange r → read_nas (spelling_of r) ≡ Ok r
unfolding read_nas
spelled_is_read r h = read_back nas_forms shown says spelling_of InRange is_made r h

-- what is read is spelled so
pub found_in : (octets : List ℕ) (answer : Result NasRecord RecFault) → AreOctets octets → answer ≡ read_nas octets
    → IfOk answer (λ r. InRange r × (octets ≡ spelling_of r))
unfolding read_nas
found_in octets answer fit e = found_by nas_forms shown says spelling_of InRange is_made are_shown octets answer fit e
