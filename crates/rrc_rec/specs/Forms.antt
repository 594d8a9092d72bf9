-- The forms of the RRC texts (TS 36.331 6.2.2, in short form).
use Rattle.std.specs.Prelude.{List, [], ◌∷◌}
use Rattle.rec_fields.specs.Name.{Air, Station, Ncc, Cell, Algorithms}
use Rattle.rec_fields.specs.Form.{Form, form, text_form}
use Rattle.rrc_rec.specs.declared.records.RrcRecord.{RrcRecord}
use Rattle.rrc_rec.specs.declared.records.RrcRecord.TheVariants.{SecurityModeCommand, SecurityModeComplete, Reconfiguration, ReconfigurationComplete, RrcData, KeyChange}

abbrev pub command : Form RrcRecord
command = form 0x01 (Algorithms ∷ Station ∷ Air ∷ []) SecurityModeCommand

abbrev pub complete : Form RrcRecord
complete = form 0x02 [] SecurityModeComplete

abbrev pub reconfiguration : Form RrcRecord
reconfiguration = form 0x03 (Cell ∷ Ncc ∷ Algorithms ∷ Station ∷ Air ∷ []) Reconfiguration

abbrev pub reconfigured : Form RrcRecord
reconfigured = form 0x04 [] ReconfigurationComplete

abbrev pub any_text : Form RrcRecord
any_text = text_form 0x05 200 RrcData

abbrev pub key_change : Form RrcRecord
key_change = form 0x06 (Cell ∷ Algorithms ∷ Station ∷ Air ∷ []) KeyChange

-- all of them
abbrev pub rrc_forms : List (Form RrcRecord)
rrc_forms = command ∷ complete ∷ reconfiguration ∷ reconfigured ∷ any_text ∷ key_change ∷ []
