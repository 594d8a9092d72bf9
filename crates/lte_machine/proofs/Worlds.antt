-- The world of a run over terms, with the records as they were sent.
use Rattle.std.proofs.Common.{ℕ}
use Rattle.key_model.specs.Term.{Term}
use Rattle.lte_machine.specs.{Wire.Outgoing, World.World}

abbrev pub TheWorld : Type 0
TheWorld = World Term ℕ (Outgoing Term ℕ)
