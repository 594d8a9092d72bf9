use Rattle.std.proofs.Common.{sym, subst}
use Rattle.fleet_world.specs.Fleets.{Stands}
use Rattle.fleet_world.proofs.BeginsAndGoesOn.{stands_first}
use Rattle.fleet_world.proofs.fleet.Fleet.new.Goals as goal

pub invariant_of-result : goal.invariant_of-result
invariant_of-result c =
    let begins = stands_first c.args.setup.now c.args.phones c.in_ok-worlds.worlds.items c.requires.begins c.requires.few c.in_ok-worlds.ensures.begin in
    subst (λ s. Stands s c.in_ok-worlds.worlds.items c.new.result.items) (sym c.copied_setup.ensures)
    (subst (Stands c.args.setup.now c.in_ok-worlds.worlds.items) (sym c.new.ensures.items) begins)
