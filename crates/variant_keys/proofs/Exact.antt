-- What is told of keys that differ, of a scenario and of its variants, is exact.
use Rattle.std.proofs.Common.{◌≡◌, refl, sym, ap, ◌∙◌, subst, arith, ℕ, ◌+◌, ◌*◌, ◌≤◌, ◌&&◌, Bool, true, false, not, if◌then◌else◌, List, [], length, All, Option, Some, None, IfSome}
use Rattle.std.specs.Option.{is_some, option_and_then}
use Rattle.std.proofs.lemmas.List.{length-map}
use Rattle.key_terms.specs.declared.proof.Proof.{Proof}
use Rattle.lte_events.specs.{Scenario.CanHappen, Scenario.IsScenario, Scenario.most_events}
use Rattle.lte_events.specs.{declared.events.Event.Event, declared.setups.Setup.Setup}
use Rattle.items.specs.Items.{IsItemOf}
use Rattle.item_faults.specs.{AtOnce.item_of, AtOnce.items_of, Changes.variant, Entries.most_steps, Laws.AreEntries, Laws.CanRun, Laws.most_items}
use Rattle.item_faults.specs.{Laws.IsStep, Steps.entry_of, Steps.senders_of, declared.changes.Fault.Fault, declared.entries.Entry.Entry}
use Rattle.item_faults.proofs.{Answered.are_entries, Answered.are_items, Keeps.variant_can_run}
use Rattle.item_keys.specs.{Few.FewSteps, Items.DifferFar, Items.FarHere, Items.PartsFar, Items.TakesOne}
use Rattle.item_keys.proofs.{AtItems.differ_far, AtItems.parts_far, AtItems.takes_made, FewKeep.few_keep}
use Rattle.item_outcomes.specs.{Heals.heals_of, Heals.reconnects, Heals.restarts, Heals.serves_again, Heals.takes_one, Keys.keys_differ, Keys.parted, Outcomes.Verdict, Outcomes.verdict_of}
use Rattle.item_outcomes.specs.{Packets.arrives, Packets.fate_of, Probe.anew_arrives, Probe.is_among, Probe.secured, Probe.secured_anew, Probe.text_anew}
use Rattle.item_outcomes.specs.{declared.heals.Heals.Heals, declared.judging.Outcome.Outcome}
use Rattle.item_outcomes.specs.declared.heals.Heals.TheVariants as heals
use Rattle.item_probe.specs.{Acts.acts_of, Places.more_acts}
use Rattle.item_probe.proofs.Happens.{acts_can, length-acts}
use Rattle.item_runs.specs.{Coming.nothing, Course.Promises, Course.Seen, Course.Stands}
use Rattle.item_runs.proofs.OneMore.{promised}
use Rattle.item_standing.specs.Standing.{after_first}
use Rattle.item_steps.proofs.EachIsAStep.{are_steps, length-steps}
use Rattle.item_steps.specs.Steps.{steps_of}
use Rattle.variant_runs.specs.Judged.{can_all_be, entries, judged, judged_beside, judged_with, own_names, run_with, standing_with}
use Rattle.variant_runs.specs.Original.{Original, first_station, original_of, own_items, own_lines, own_run}
use Rattle.variant_runs.proofs.OwnItems.{are_items as own_are_items, as_many, first_low}
use Rattle.variant_keys.specs.{Probed.own_probed, Probed.variant_probed, Told.HealsTold, Told.KeysAreTold, Told.ToldExactly, Told.tells_keys}
use Rattle.variant_keys.proofs.{Kept.begins, Kept.going_goes, Outcomes.tells_so, Probing.probed_stands, Probing.serving_low}

-- TESTS

both_so : (a b : Bool) → (not a && b) ≡ true → (a ≡ false) × (b ≡ true)
both_so false b e = (refl, e)
both_so true b e = absurd cc

so_both : (a b : Bool) → a ≡ false → b ≡ true → (not a && b) ≡ true
so_both false b e f = f
so_both true b e f = absurd cc

no_proof : (o : Option Proof) → is_some o ≡ false → o ≡ None
no_proof None e = refl
no_proof (Some proof) e = absurd cc

is_none : (o : Option Proof) → o ≡ None → is_some o ≡ false
is_none None e = refl
is_none (Some proof) e = absurd cc

-- WHAT IS TOLD

exactly : (told : List Outcome) (usual here : Seen)
    → tells_keys told ≡ (not (is_some here.coming.over) && keys_differ usual.coming.told here.coming.told)
    → DifferFar usual here
    → ToldExactly usual here told
exactly told usual here so differ = (only, each)
  where
    only : tells_keys told ≡ true → (here.coming.over ≡ None) × FarHere usual here
    only e =
        let both = both_so (is_some here.coming.over) (keys_differ usual.coming.told here.coming.told) (sym so ∙ e) in
        (no_proof here.coming.over both.0, differ.0 both.1)

    each : (here.coming.over ≡ None) × FarHere usual here → tells_keys told ≡ true
    each h =
        so
        ∙ so_both (is_some here.coming.over) (keys_differ usual.coming.told here.coming.told) (is_none here.coming.over h.0)
        (differ.1 h.1)

-- where no key parts nothing is told
none_told : (told : List Outcome) (usual here : Seen) → ToldExactly usual here told → PartsFar here → parted here.coming.told ≡ [] → tells_keys told ≡ false
none_told told usual here exact parts none = by (tells_keys told) refl
  where
    by : (b : Bool) → tells_keys told ≡ b → tells_keys told ≡ false
    by false e = e
    by true e =
        let f = (exact.0 e).1 in
        let among = (parts f.name).1 f.far in
        let bad : false ≡ true = sym (ap (λ names. is_among names f.name) none) ∙ among in absurd cc

-- of items that go together, what is told is that of its run beside the scenario
told_beside : (o : Original) (faults : List Fault) (list : List Entry) (told : Verdict) → judged_with o faults list ≡ Some told
    → told ≡ verdict_of (own_names faults list) o.usual (standing_with o list)
told_beside o faults list told is = by (can_all_be o faults (standing_with o list)) is
  where
    by : (b : Bool) → (if b then Some (verdict_of (own_names faults list) o.usual (standing_with o list)) else None) ≡ Some told
        → told ≡ verdict_of (own_names faults list) o.usual (standing_with o list)
    by true e = cc
    by false e = absurd cc

pub told_of : (o : Original) (faults : List Fault) (list : List Entry) (told : Verdict)
    → variant faults (entries o) ≡ Some list
    → judged o faults ≡ Some told
    → told ≡ verdict_of (own_names faults list) o.usual (standing_with o list)
told_of o faults list told new is =
    told_beside o faults list told (ap (option_and_then (judged_with o faults)) (sym new) ∙ is)

-- WHAT HEALS

first_so : (a b : Bool) → (a && b) ≡ true → a ≡ true
first_so true b e = refl
first_so false b e = absurd cc

heals_told : (s : Seen) → TakesOne s → HealsTold s (heals_of s.coming.told)
heals_told s one = by (reconnects s.coming.told) refl (restarts s.coming.told) refl
  where
    by : (b : Bool) → reconnects s.coming.told ≡ b → (c : Bool) → restarts s.coming.told ≡ c
        → HealsTold s (if b then heals.Reconnection else (if c then heals.Authentication else heals.Nothing))
    by true e c f = one secured (first_so (takes_one s.coming.told secured) (serves_again s.coming.told) e)
    by false e true f =
        one secured_anew (first_so (takes_one s.coming.told secured_anew) (arrives (fate_of s.coming.told anew_arrives text_anew)) f)
    by false e false f = tt

-- where no coincidence ended it
heals_if : (over : Bool) (h : Heals) (P : Heals → Type 0) → P h → IfSome (if over then None else Some h) P
heals_if true h P p = tt
heals_if false h P p = p

-- OF A SCENARIO
module _ (setup : Setup) (events : List Event) (is : IsScenario setup events) (few : length events ≤ most_steps)
    (whole : length (own_lines setup events) ≡ length events) (eight : length setup.stations ≤ 8) where
  abbrev acts : List Event
  acts = acts_of setup events

  abbrev o : Original
  o = original_of setup events

  can : All (CanHappen setup) acts
  can = acts_can setup events is.can_start is.can_happen

  many : length acts ≡ length events + more_acts
  many = length-acts setup events

  steps_many : length o.steps ≡ length events
  steps_many = length-steps events (own_lines setup events) whole

  -- THE SCENARIO ITSELF

  own_goes : Stands setup (own_run setup events).coming.events (own_run setup events).coming.told
      × (length (own_run setup events).coming.events ≤ 18000)
  own_goes =
      let number = as_many (length events) in
      let one = going_goes setup acts (own_items (length events)) nothing can (own_are_items (length acts) (length events) (omega (arith, many)))
      (omega (arith, number, few)) (begins setup is.can_start) in
      let up = one.1 in (one.0, omega (arith, up, number, few))

  first : first_station setup.stations ≤ 7
  first = first_low setup.stations is.can_start.stations

  own_promises : Promises (own_probed setup events)
  own_promises =
      let short = own_goes.1 in
      promised (own_probed setup events)
      (probed_stands acts (length events) (first_station setup.stations) (own_run setup events) is.can_start eight can
      (omega (arith, many)) first (omega (arith, short)) own_goes.0)

  -- A VARIANT

  own_entries : AreEntries (length acts) (entries o)
  own_entries =
      are_entries (length o.steps) (length acts) o.steps (omega (arith, many, steps_many))
      (subst (λ n. All (IsStep n) o.steps) (sym steps_many) (are_steps events (own_lines setup events)))

  few_entries : length (entries o) ≤ most_steps
  few_entries = let items = length-map o.steps (entry_of (length o.steps) o.steps) in omega (arith, items, steps_many, few)

  module _ (faults : List Fault) (list : List Entry) (so_few : length faults ≤ 8) (new : variant faults (entries o) ≡ Some list) where
    runs : CanRun (length acts) list
    runs = subst (λ v. IfSome v (CanRun (length acts))) new (variant_can_run (length acts) faults (entries o) so_few own_entries few_entries)

    variant_goes : Stands setup (run_with o list).coming.events (run_with o list).coming.told
        × (length (run_with o list).coming.events ≤ most_items * 9)
    variant_goes =
        let items = items_of (senders_of o.steps) list in
        let number = length-map list (item_of (senders_of o.steps) list) in
        let up = runs.few in
        let one = going_goes setup acts items nothing can (are_items (length acts) (senders_of o.steps) list runs.entries)
        (omega (arith, number, up)) (begins setup is.can_start) in
        let more = one.1 in (one.0, omega (arith, more, number, up))

    serves : o.usual.serving ≤ 7
    serves = serving_low setup (first_station setup.stations) (after_first acts (length events) (own_run setup events)).told is.can_start first

    variant_promises : Promises (variant_probed o list)
    variant_promises =
        let short = variant_goes.1 in
        promised (variant_probed o list)
        (probed_stands acts (length o.steps) o.usual.serving (run_with o list) is.can_start eight can
        (omega (arith, many, steps_many)) serves (omega (arith, short)) variant_goes.0)

    exact : (told : Verdict) → judged o faults ≡ Some told → ToldExactly (own_probed setup events) (variant_probed o list) told.outcomes
    exact told judges =
        exactly told.outcomes (own_probed setup events) (variant_probed o list)
        (ap (λ (v : Verdict). tells_keys v.outcomes) (told_of o faults list told new judges)
        ∙ tells_so (own_names faults list) o.usual (standing_with o list))
        (differ_far (own_probed setup events) (variant_probed o list) (parts_far (own_probed setup events) own_promises)
        (parts_far (variant_probed o list) variant_promises))

    healed : (told : Verdict) → judged o faults ≡ Some told → IfSome told.heals (HealsTold (variant_probed o list))
    healed told judges =
        subst (λ (v : Verdict). IfSome v.heals (HealsTold (variant_probed o list))) (sym (told_of o faults list told new judges))
        (heals_if (standing_with o list).over (heals_of (standing_with o list).told) (HealsTold (variant_probed o list))
        (heals_told (variant_probed o list) (takes_made (variant_probed o list) variant_promises)))

    few_told : (told : Verdict) → judged o faults ≡ Some told → FewSteps (variant_probed o list) → tells_keys told.outcomes ≡ false
    few_told told judges few =
        none_told told.outcomes (own_probed setup events) (variant_probed o list) (exact told judges) (parts_far (variant_probed o list) variant_promises)
        (few_keep (variant_probed o list) variant_promises few)

  pub keys_told : KeysAreTold setup events
  keys_told = record {
    own = parts_far (own_probed setup events) own_promises;
    own_heals = heals_told (own_probed setup events) (takes_made (own_probed setup events) own_promises);
    variants = λ faults list told three new judges. (exact faults list three new told judges, healed faults list three new told judges);
    few = few_keep (own_probed setup events) own_promises;
    few_told = λ faults list told three new judges. few_told faults list three new told judges;
  }
