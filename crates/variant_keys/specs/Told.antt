-- What is told of keys: where they differ, and what leads back to one.
use Rattle.std.specs.Prelude.{◌≡◌, ◌↔◌, ℕ, ◌≤◌, Bool, true, false, List, length, Some, None, IfSome, ⊤}
use Rattle.std.specs.List.{list_any}
use Rattle.lte_events.specs.{declared.events.Event.Event, declared.setups.Setup.Setup}
use Rattle.item_faults.specs.{Changes.variant, declared.changes.Fault.Fault, declared.entries.Entry.Entry}
use Rattle.item_keys.specs.{Few.FewKeep, Few.FewSteps, Items.FarHere, Items.MadeAt, Items.PartsFar}
use Rattle.item_outcomes.specs.{Heals.heals_of, Outcomes.Verdict, Probe.secured, Probe.secured_anew, declared.heals.Heals.Heals, declared.judging.Outcome.Outcome}
use Rattle.item_outcomes.specs.declared.heals.Heals.TheVariants as heals
use Rattle.item_outcomes.specs.declared.judging.Outcome.TheVariants as outcome
use Rattle.item_runs.specs.Course.{Seen}
use Rattle.variant_runs.specs.{Judged.entries, Judged.judged, Original.original_of}
use Rattle.variant_keys.specs.Probed.{own_probed, variant_probed}

abbrev pub is_keys_differ : Outcome → Bool
is_keys_differ outcome.KeysDiffer = true
is_keys_differ other = false

-- whether it is among these outcomes
abbrev pub tells_keys : List Outcome → Bool
tells_keys outcomes = list_any is_keys_differ outcomes

-- KEYS DIFFER is told of a variant exactly where the phone takes, at an item, a key that was made eight or more steps ahead, and in the
-- scenario does not at that item; at a coincidence nothing else is told
abbrev pub ToldExactly : Seen → Seen → List Outcome → Type 0
ToldExactly usual here outcomes = (tells_keys outcomes ≡ true) ↔ ((here.coming.over ≡ None) × FarHere usual here)

-- WHAT HEALS: where it is told, the phone takes at the connection behind it the key, chain number and algorithms that the station made
abbrev pub HealsTold : Seen → Heals → Type 0
HealsTold s heals.Reconnection = MadeAt s secured
HealsTold s heals.Authentication = MadeAt s secured_anew
HealsTold s heals.Nothing = ⊤

-- WHAT IS TOLD IS EXACT
pub record KeysAreTold (setup : Setup) (events : List Event) : Type 0 where
  -- of the scenario itself: the items that are told are those at which the phone takes such a key
  pub own : PartsFar (own_probed setup events)
  -- and what heals it leads to one key
  pub own_heals : HealsTold (own_probed setup events) (heals_of (original_of setup events).usual.told)
  -- and of each variant of up to eight faults
  pub variants : (faults : List Fault) (list : List Entry) (verdict : Verdict)
      → length faults ≤ 8
      → variant faults (entries (original_of setup events)) ≡ Some list
      → judged (original_of setup events) faults ≡ Some verdict
      → ToldExactly (own_probed setup events) (variant_probed (original_of setup events) list) verdict.outcomes
      × IfSome verdict.heals (HealsTold (variant_probed (original_of setup events) list))
  -- FEW STEPS KEEP KEYS: where the run of the scenario has one authentication, and no chain of the core comes to number 8, nothing of
  -- the sort is told of it
  pub few : FewKeep (own_probed setup events)
  -- and of a variant, by its own run
  pub few_told : (faults : List Fault) (list : List Entry) (verdict : Verdict)
      → length faults ≤ 8
      → variant faults (entries (original_of setup events)) ≡ Some list
      → judged (original_of setup events) faults ≡ Some verdict
      → FewSteps (variant_probed (original_of setup events) list)
      → tells_keys verdict.outcomes ≡ false
