use Rattle.std.proofs.Common.{sym, ap, subst, ◌∙◌, arith, ◌≤◌, length, All}
use Rattle.lte_events.specs.Ranges.{IsStation}
use Rattle.item_faults.specs.{Laws.IsStep, Steps.entries_of, Steps.senders_of}
use Rattle.variant_runs.proofs.OwnItems.{first_low}
use Rattle.variant_runs.proofs.studies.Study.of.Goals as goal

pub standing_of-requires-clause-station : goal.standing_of-requires-clause-station
standing_of-requires-clause-station c =
    subst (λ station. station ≤ 7) (sym c.first_station-first.ensures)
    (first_low c.as_slice.result.now (subst (All IsStation) (sym c.as_slice.ensures.value) c.requires.scenario.can_start.stations))

pub invariant_of-result : goal.invariant_of-result
invariant_of-result c =
    let acts = c.in_ok-acts.ensures in
    let steps = c.in-Ok.ensures in
    let items = c.in_ok-entries.ensures in
    let same = ap length c.as_slice-2.ensures.value in
    let are = subst (λ n. All (IsStep n) c.in-Ok.listed.items) (sym steps.as_many) steps.are_steps in
    let each = subst (λ list. All (IsStep (length list)) list) (sym c.as_slice-2.ensures.value) are in
    record {
      is_setup = c.requires.scenario.can_start;
      can_happen = acts.can_happen c.requires.scenario.can_start c.requires.scenario.can_happen;
      few = omega (arith, steps.as_many, c.requires.few);
      room = omega (arith, steps.as_many, acts.as_many);
      as_many = omega (arith, items.as_many, same, steps.as_many, c.requires.few);
      is_items = items.entries ∙ ap (λ list. entries_of (length list) list) c.as_slice-2.ensures.value;
      are_entries =
          items.are_entries (length c.in_ok-acts.acts.items) (omega (arith, same, steps.as_many, acts.as_many)) each;
      is_sending = c.in_ok-senders.ensures.senders ∙ ap senders_of c.as_slice-3.ensures.value;
      station = c.in_ok-usual.ensures.station;
    }
