-- Reading an RRC text: no octet, unknown kind, size, and then the fields from left to right.
use Rattle.std.specs.Prelude.{ℕ, List, Result}
use Rattle.rec_base.specs.declared.faults.RecFault.{RecFault}
use Rattle.rec_fields.specs.Form.{read_forms}
use Rattle.rrc_rec.specs.{declared.records.RrcRecord.RrcRecord, Forms.rrc_forms}

-- the record, or the first fault
unfoldable pub read_rrc : List ℕ → Result RrcRecord RecFault
read_rrc octets = read_forms rrc_forms octets
