-- The written machine, where a PDU of an SRB opens by its sender's use as a term.
use Rattle.std.specs.Prelude.{ℕ, List, Option}
use Rattle.key_model.specs.{HandoverTable.NumberedKey, Term.Term, Term.same_term, Value.same_value}
use Rattle.s1x2_rec.specs.Fields.{Fields}
use Rattle.lte_machine.specs.{Wire.Outgoing, Ciphers.Ciphers, World.Machine, Machines.machine_over}
use Rattle.lte_machine.specs.Opening.{Opening, OpensSrb, Outcome, open_by_uses}
pub use Rattle.lte_machine.specs.Run.{run}

-- on an SRB two uses are one where their keys are one term, and elsewhere where their keys have one value
abbrev pub by_terms : Ciphers Term → Opening Term → List ℕ → Option (Outgoing Term ℕ) → Outcome
by_terms c (OpensSrb u e) pdu came = open_by_uses same_term c (OpensSrb u e) pdu came
by_terms c other pdu came = open_by_uses same_value c other pdu came

-- the machine whose keys are one where their values are, with this opener
abbrev pub written_with : Ciphers Term
    → (Fields → Option (NumberedKey Term ℕ) → List ℕ)
    → (Opening Term → List ℕ → Option (Outgoing Term ℕ) → Outcome)
    → Machine Term ℕ (Outgoing Term ℕ)
written_with c between opener = record (machine_over same_value c between) { opener = opener }

abbrev pub mixed : Ciphers Term → (Fields → Option (NumberedKey Term ℕ) → List ℕ) → Machine Term ℕ (Outgoing Term ℕ)
mixed c between = written_with c between (by_terms c)
