use Rattle.std.proofs.Common.{subst}
use Rattle.item_runs.specs.Course.{seen, Promises}
use Rattle.item_runs.proofs.OneMore.{promised}
use Rattle.item_runs.proofs.courses.Course.promises.Goals as goal

pub returns : goal.returns
returns c =
    subst Promises c.self.view_is
    (promised (seen c.self.inside.world c.self.inside.told.items c.self.inside.sent.items c.self.inside.over) c.self.invariant.0)
