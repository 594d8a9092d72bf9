-- Records, by the lines that tell them. Line k is of step k.
use Rattle.std.specs.Prelude.{ℕ, ◌-◌, ◌==◌, nat_lt, Bool, false, ℤ, pos, negsuc, List, length, Option, Some, None, if◌then◌else◌, position}
use Rattle.std.specs.{List.filter, Option.is_some}
use Rattle.lte_events.specs.declared.classes.Class.{Class}
use Rattle.item_lines.specs.declared.lines.Told.{Told}

-- how many records were sent
abbrev pub records_in : List Told → ℕ
records_in told = length (filter (λ t. is_some t.line.sent) told)

-- the number of a record, of so many that were sent: from 0 on, or, where it is negative, from the last one back, which is -1
abbrev pub counted_back : ℕ → ℕ → Option ℕ
counted_back sent n = (if nat_lt n sent then Some (sent - 1 - n) else None)

abbrev pub number_of : ℕ → ℤ → Option ℕ
number_of sent (pos n) = Some n
number_of sent (negsuc n) = counted_back sent n

-- whether a line says that its step sent the record of this number
abbrev pub is_record : ℕ → Option (ℕ × Class) → Bool
is_record number None = false
is_record number (Some sent) = sent.0 == number

abbrev pub says_sent : ℕ → Told → Bool
says_sent number t = is_record number t.line.sent

-- THE STEP THAT SENT A RECORD: the first whose line says so
abbrev pub sender_of : List Told → Option ℕ → Option ℕ
sender_of told None = None
sender_of told (Some number) = position (says_sent number) told
