use Rattle.std.proofs.Common.{◌≡◌, drop}
use Rattle.std.specs.List.{list_any}
use Rattle.trace_order.specs.Kinds.{is_for}
use Rattle.trace_order.proofs.kinds.has_this.Given as goal

abbrev pub invariant-loop-by_move : goal.invariant-loop-by_move
invariant-loop-by_move l = list_any (is_for l.station l.cell) (drop l.by_move-index l.family) ≡ list_any (is_for l.station l.cell) l.family
