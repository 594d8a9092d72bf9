use Rattle.std.proofs.Common.{◌≡◌, [], drop}
use Rattle.item_faults.specs.Faults.{of_messages}
use Rattle.item_faults.proofs.faults.of_all.Given as goal

abbrev pub invariant-loop-message : goal.invariant-loop-message
invariant-loop-message l =
    of_messages l.entries [] l.messages ≡ of_messages l.entries l.faults.items (drop l.message-index l.messages)
