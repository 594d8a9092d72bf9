use Rattle.std.proofs.Common.{sym, ◌∙◌}
use Rattle.ho_prep.specs.Prep.{is_at}
use Rattle.ho_prep.proofs.PlaceFacts.{find_placed, find_unplaced}
use Rattle.ho_prep.proofs.preps.Preps.take_air.Goals as goal

pub returns-in-Some-clause-value : goal.returns-in-Some-clause-value
returns-in-Some-clause-value c =
    sym (find_placed (is_at c.args.air) c.args.self.now c.in-Some.place c.remove.result
    (sym c.place_at.ensures ∙ c.in-Some.is) (rw (← c.self.view_is) c.remove.ensures.value))

pub returns-in-None-clause-value : goal.returns-in-None-clause-value
returns-in-None-clause-value c =
    sym (find_unplaced (is_at c.args.air) c.args.self.now (sym c.place_at.ensures ∙ c.in-None.is))
