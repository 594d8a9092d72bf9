-- Reading a record of S1 or X2: no octet, unknown kind, size, and then the fields from left to right.
use Rattle.std.specs.Prelude.{ℕ, List, Result, Ok, Err}
use Rattle.rec_base.specs.declared.faults.RecFault.{RecFault}
use Rattle.rec_fields.specs.Form.{read_forms}
use Rattle.s1x2_rec.specs.{declared.records.CoreRecord.CoreRecord, Content.Content, Content.content_of, Forms.core_forms}

-- the record, or the first fault
unfoldable pub read_record : List ℕ → Result CoreRecord RecFault
read_record octets = read_forms core_forms octets

-- what a reader answered, by its content
abbrev pub content_read : Result CoreRecord RecFault → Result (Content (List ℕ) ℕ) RecFault
content_read (Ok r) = Ok (content_of r)
content_read (Err fault) = Err fault

-- the content of the record, or the first fault
unfoldable pub read_core : List ℕ → Result (Content (List ℕ) ℕ) RecFault
read_core octets = content_read (read_record octets)
