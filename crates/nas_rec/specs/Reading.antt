-- Reading a NAS text: no octet, unknown kind, size, and then the fields from left to right.
use Rattle.std.specs.Prelude.{ℕ, List, Result}
use Rattle.rec_base.specs.declared.faults.RecFault.{RecFault}
use Rattle.rec_fields.specs.Form.{read_forms}
use Rattle.nas_rec.specs.{declared.records.NasRecord.NasRecord, Forms.nas_forms}

-- the record, or the first fault
unfoldable pub read_nas : List ℕ → Result NasRecord RecFault
read_nas octets = read_forms nas_forms octets
