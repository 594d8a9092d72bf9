use Rattle.std.proofs.Common.{◌≡◌, None}
use Rattle.pdu_guard.specs.Search.{first_true, service_right}
use Rattle.pdu_guard.proofs.searching.find_service_request.Given as goal

abbrev pub invariant-loop-overflow : goal.invariant-loop-overflow
invariant-loop-overflow l = first_true (service_right l.eia l.int l.request) l.overflow ≡ None
