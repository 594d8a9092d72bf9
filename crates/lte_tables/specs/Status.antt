-- The exit status of the program, with the codes of `lte_sec_app`.
use Rattle.std.specs.Prelude.{ℕ}
use Rattle.lte_tables.specs.declared.status.Status.{Status}
use Rattle.lte_tables.specs.declared.status.Status.TheVariants.{Done, Memory, WriteFault}

abbrev pub code_of : Status → ℕ
code_of Done = 0
code_of Memory = 1
code_of WriteFault = 5
