use Rattle.std.proofs.Common.{◌==◌, sym, ap, ◌∙◌, position}
use Rattle.lte_world.specs.Settling.{told_in}
use Rattle.lte_world.proofs.Replying.{told_nowhere, told_there, first_steps}
use Rattle.lte_world.proofs.Stations.{number_within}
use Rattle.lte_world.proofs.Turning.{no_turn_from, station_settles_from, station_turns_from, ids_after}
use Rattle.lte_world.proofs.system.System.station_turn.Goals as goal

pub returns-in_default-clause-turns : goal.returns-in_default-clause-turns
returns-in_default-clause-turns c =
    no_turn_from _ c.args.self.now c.self.view_is c.args.id c.self.inside.ids.items c.self.invariant.0 c.args.input
    (ap (position (λ x. x == c.args.id)) (sym c.as_slice.ensures.value) ∙ sym c.place_of.ensures.place ∙ c.in_default.is)
    c.args.sender c.args.step c.refused.new.line c.refused.ensures

pub settle-requires-clause-holder : goal.settle-requires-clause-holder
settle-requires-clause-holder c =
    number_within c.self.inside.stations.items c.self.inside.ids.items c.self.invariant.0 c.args.id c.in-Some.place c.self.invariant.2
    (ap (position (λ x. x == c.args.id)) (sym c.as_slice.ensures.value) ∙ sym c.place_of.ensures.place ∙ c.in-Some.is)

pub settle-requires-clause-awaits : goal.settle-requires-clause-awaits
settle-requires-clause-awaits c =
    station_settles_from _ c.args.self.now c.self.view_is c.args.id c.self.inside.ids.items c.self.invariant.0 c.args.input c.in-Some.place
    (ap (position (λ x. x == c.args.id)) (sym c.as_slice.ensures.value) ∙ sym c.place_of.ensures.place ∙ c.in-Some.is)
    c.station.new.stations.items c.first.result.now (first_steps _ _ c.station.ensures c.first.ensures) c.requires.can

pub invariant_of-self : goal.invariant_of-self
invariant_of-self c = (
  ids_after c.self.inside.stations.items c.station.new.stations.items c.in-Some.place c.args.input c.station.ensures.out
      c.station.ensures.steps
      ∙ c.self.invariant.0,
  c.self.invariant.1,
  c.self.invariant.2,
)

pub returns-clause-turns : goal.returns-clause-turns
returns-clause-turns c =
    station_turns_from _ c.args.self.now c.self.view_is c.args.id c.self.inside.ids.items c.self.invariant.0 c.args.input c.in-Some.place
    (ap (position (λ x. x == c.args.id)) (sym c.as_slice.ensures.value) ∙ sym c.place_of.ensures.place ∙ c.in-Some.is)
    c.station.new.stations.items c.first.result.now (first_steps _ _ c.station.ensures c.first.ensures)
    c.self.invariant.1 c.args.sender c.args.step (told_in c.settle.result c.settle.new.line) _ c.settle.ensures.settled

pub returns-in_default-clause-told : goal.returns-in_default-clause-told
returns-in_default-clause-told c =
    told_nowhere _ c.args.self.now c.self.view_is c.self.inside.ids.items c.self.invariant.0 c.args.id c.args.input _
    (ap (position (λ x. x == c.args.id)) (sym c.as_slice.ensures.value) ∙ sym c.place_of.ensures.place ∙ c.in_default.is) c.clear.ensures

pub returns-clause-told : goal.returns-clause-told
returns-clause-told c =
    told_there _ c.args.self.now c.self.view_is c.self.inside.ids.items c.self.invariant.0 c.args.id c.args.input _ c.in-Some.place
    (ap (position (λ x. x == c.args.id)) (sym c.as_slice.ensures.value) ∙ sym c.place_of.ensures.place ∙ c.in-Some.is)
    c.station.new.stations.items c.station.ensures.out c.station.ensures.steps c.station.ensures.is
