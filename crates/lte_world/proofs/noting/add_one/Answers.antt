use Rattle.std.proofs.Common.{refl, sym, subst, [], ◌∷◌}
use Rattle.lte_world.specs.Networks.{AddsAll}
use Rattle.lte_world.proofs.Deriving.{awaits_can, one_added, kdf_input_is, by_add, never_repeated}
use Rattle.lte_world.proofs.noting.add_one.Goals as goal

pub add-added-requires-clause-input : goal.add-added-requires-clause-input
add-added-requires-clause-input c =
    kdf_input_is c.args.made.now.input c.has_range.ensures
    (awaits_can c.args.ladder.now.rows c.args.made.now c.requires.awaits).input

pub add-added-requires-clause-out : goal.add-added-requires-clause-out
add-added-requires-clause-out c = (awaits_can c.args.ladder.now.rows c.args.made.now c.requires.awaits).out

pub add-added-requires-clause-key : goal.add-added-requires-clause-key
add-added-requires-clause-key c = (awaits_can c.args.ladder.now.rows c.args.made.now c.requires.awaits).key

pub add-added-requires-clause-root : goal.add-added-requires-clause-root
add-added-requires-clause-root c = (awaits_can c.args.ladder.now.rows c.args.made.now c.requires.awaits).root

pub add-added-requires-clause-sync : goal.add-added-requires-clause-sync
add-added-requires-clause-sync c = (awaits_can c.args.ladder.now.rows c.args.made.now c.requires.awaits).sync

pub told-requires-clause-derived : goal.told-requires-clause-derived
told-requires-clause-derived c = never_repeated c.args.ladder.now.rows c.args.made.now c.add-added.result c.add-added.ensures.cause

pub returns-clause-added : goal.returns-clause-added
returns-clause-added c =
    subst (AddsAll c.args.ladder.now.rows c.add-added.new.self.rows (c.args.made.now ∷ [])) (sym c.told.ensures)
    (one_added c.args.ladder.now.rows c.add-added.new.self.rows c.args.made.now c.add-added.result
    (by_add c.args.ladder.now.rows c.add-added.new.self c.args.ladder.now c.args.made.now c.add-added.result refl
    c.add-added.ensures.new c.add-added.ensures.again c.add-added.ensures.coincidence))
