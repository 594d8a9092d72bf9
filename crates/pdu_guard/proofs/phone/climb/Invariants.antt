use Rattle.std.proofs.Common.{◌≡◌}
use Rattle.key_model.specs.{Reading.octet_reading, HandoverLines.nh_after}
use Rattle.pdu_guard.proofs.phone.climb.Given as goal

abbrev pub invariant-loop : goal.invariant-loop
invariant-loop l = l.nh ≡ nh_after octet_reading l.kasme l.fn.sync l.counter
