-- What is read is spelled so, and what is spelled so is read.
use Rattle.std.proofs.Common.{◌≡◌, ℕ, List, Result, Ok, refl}
use Rattle.std.specs.Prelude.{IfOk}
use Rattle.rec_base.specs.declared.faults.RecFault.{RecFault}
use Rattle.rec_base.proofs.Numbers.{AreOctets}
use Rattle.rec_fields.specs.Form.{Form, Said}
use Rattle.rec_fields.proofs.Forms.{Shown, AreShown, IsMade, found_by, read_back}
use Rattle.rrc_rec.specs.declared.records.RrcRecord.{RrcRecord}
use Rattle.rrc_rec.specs.declared.records.RrcRecord.TheVariants.{SecurityModeCommand, SecurityModeComplete, Reconfiguration, ReconfigurationComplete, RrcData, KeyChange}
use Rattle.rrc_rec.specs.Forms.{rrc_forms, command, complete, reconfiguration, reconfigured, any_text, key_change}
use Rattle.rrc_rec.specs.{Spelling.by_form, Spelling.spelling_of, Spelling.InRange, Reading.read_rrc}

-- the form of a record, and the values that it is made of
abbrev shown : RrcRecord → Shown RrcRecord
shown (SecurityModeCommand algs station air) = (command, (algs, (station, air)))
shown SecurityModeComplete = (complete, tt)
shown (Reconfiguration cell ncc algs station air) = (reconfiguration, (cell, (ncc, (algs, (station, air)))))
shown ReconfigurationComplete = (reconfigured, tt)
shown (RrcData text) = (any_text, text)
shown (KeyChange cell algs station air) = (key_change, (cell, (algs, (station, air))))

-- what it says under the names of its fields
abbrev says : RrcRecord → Form RrcRecord × Said
says r = by_form (λ form says. (form, says)) r

are_shown : AreShown shown rrc_forms
are_shown = (λ vs. refl, (λ vs. refl, (λ vs. refl, (λ vs. refl, (λ vs. refl, (λ vs. refl, tt))))))

is_made : (r : RrcRecord) → IsMade rrc_forms shown says spelling_of InRange r
unfolding spelling_of
is_made (SecurityModeCommand algs station air) = record { made = refl; named = refl; same = refl; listed = λ octets. refl; within = λ h. h; back = λ h. h }
is_made other = record { made = refl; named = refl; same = refl; listed = λ octets. refl; within = λ h. h; back = λ h. h }

-- what is spelled so is read
pub spelled_is_read : (r : RrcRecord) → InRange r → read_rrc (spelling_of r) ≡ Ok r
unfolding read_rrc
spelled_is_read r h = read_back rrc_forms shown says spelling_of InRange is_made r h

-- what is read is spelled so
pub found_in : (octets : List ℕ) (answer : Result RrcRecord RecFault) → AreOctets octets → answer ≡ read_rrc octets
    → IfOk answer (λ r. InRange r × (octets ≡ spelling_of r))
unfolding read_rrc
found_in octets answer fit e = found_by rrc_forms shown says spelling_of InRange is_made are_shown octets answer fit e
