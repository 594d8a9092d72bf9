use Rattle.std.proofs.Common.{◌≡◌, ℕ}
use Rattle.key_model.specs.{Term.Term, Term.Kenb, Chain.nh, Value.value_of}
use Rattle.trace_order.proofs.clues.nh_at.Given as goal

abbrev pub invariant-loop-step : goal.invariant-loop-step
invariant-loop-step l = (r : Term) (count : ℕ) → value_of r ≡ l.root → value_of (Kenb r count) ≡ l.kenb → value_of (nh r count l._step) ≡ l.sync
