-- The forms of the NAS texts (TS 24.301 8.2.20 to 8.2.22 and 8.2.25, in short form).
use Rattle.std.specs.Prelude.{List, [], ◌∷◌}
use Rattle.rec_fields.specs.Name.{Algorithms, Replayed, Ksi, Cause}
use Rattle.rec_fields.specs.Form.{Form, form, text_form}
use Rattle.nas_rec.specs.declared.records.NasRecord.{NasRecord}
use Rattle.nas_rec.specs.declared.records.NasRecord.TheVariants.{SecurityModeCommand, SecurityModeComplete, SecurityModeReject, ServiceRequest, NasData}

abbrev pub command : Form NasRecord
command = form 0x01 (Ksi ∷ Algorithms ∷ Replayed ∷ []) SecurityModeCommand

abbrev pub complete : Form NasRecord
complete = form 0x02 [] SecurityModeComplete

abbrev pub reject : Form NasRecord
reject = form 0x03 (Cause ∷ []) SecurityModeReject

abbrev pub service_request : Form NasRecord
service_request = form 0x04 [] ServiceRequest

abbrev pub any_text : Form NasRecord
any_text = text_form 0x05 200 NasData

-- all of them
abbrev pub nas_forms : List (Form NasRecord)
nas_forms = command ∷ complete ∷ reject ∷ service_request ∷ any_text ∷ []
