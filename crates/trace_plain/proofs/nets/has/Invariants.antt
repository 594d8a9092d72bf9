use Rattle.std.proofs.Common.{◌≡◌, drop}
use Rattle.std.specs.List.{list_any}
use Rattle.trace_keys.specs.Same.{same_net as same_net_by}
use Rattle.trace_plain.proofs.nets.has.Given as goal

abbrev pub invariant-loop-place : goal.invariant-loop-place
invariant-loop-place l =
    list_any (λ other. same_net_by other l.net) (drop l.place l.nets) ≡ list_any (λ other. same_net_by other l.net) l.nets
