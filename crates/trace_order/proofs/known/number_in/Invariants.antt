use Rattle.std.proofs.Common.{◌≡◌, ℕ}
use Rattle.key_model.specs.{Term.Term, Term.Kenb, Chain.nh, Value.value_of}
use Rattle.trace_order.proofs.known.number_in.Given as goal

abbrev pub invariant-loop-number : goal.invariant-loop-number
invariant-loop-number l = (r : Term) (count : ℕ) → value_of r ≡ l.root → value_of (Kenb r count) ≡ l.kenb → value_of (nh r count l.number) ≡ l.sync
