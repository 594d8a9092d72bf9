-- The phone sends nothing on S1 or X2.
use Rattle.std.proofs.Common.{Bool, ℕ, Option, Some}
use Rattle.key_model.specs.{Reading.term_reading_by, Term.Term}
use Rattle.lte_machine.specs.{PhoneKeys.phone_does, PhoneRows.PhoneRow, PhoneState.Phone, Wire.Outgoing, Wire.Between}
use Rattle.lte_machine.proofs.{PhoneGives.NotBetween, PhoneGives.phone_gives, RangeHolds.SentRanged}

nothing_ranged : (o : Option (Outgoing Term ℕ)) → NotBetween o → SentRanged o
nothing_ranged (Some (Between to fields key)) h = absurd h
nothing_ranged other h = tt

pub phone_does_sends : (same : Term → Term → Bool) (row : PhoneRow) (root : Option Term) (s : Phone Term ℕ)
    → SentRanged (phone_does (term_reading_by same) row root s).1.sent
phone_does_sends same row root s = nothing_ranged (phone_does (term_reading_by same) row root s).1.sent (phone_gives same row root s).0
