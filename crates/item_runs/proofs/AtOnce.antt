-- An event of an item, and what is delivered at once.
use Rattle.std.proofs.Common.{◌≡◌, refl, sym, ap, ◌∙◌, arith, ℕ, zero, suc, ◌+◌, ◌≤◌, List, [], ◌∷◌, ◌++◌, length, length-append, pos, Option, Some, None, Result, Ok, Err, OnOk}
use Rattle.lte_events.specs.{declared.events.Event.Event, declared.lines.Line.Line, declared.lines.Who.Who}
use Rattle.lte_world.specs.declared.faults.WorldFault.{WorldFault}
use Rattle.lte_world.specs.declared.faults.WorldFault.TheVariants as fault
use Rattle.item_runs.specs.Coming.{Coming, after_told, and_then, happening, kept, number_told}

pub on_ok : {A E P Q : Type 0} (r : Result A E) → OnOk r P → (P → Q) → OnOk r Q
on_ok (Ok x) p f = f p
on_ok (Err e) p f = tt

-- where a record was sent, no coincidence came
pub number_goes : (at : List Event → Who → Option (ℕ × ℕ)) (name : ℕ) (e : Event) (c : Coming) (told : Result Line WorldFault) (number : ℕ)
    → number_told told ≡ Some number
    → (after_told at name e c told).over ≡ c.over
number_goes at name e c (Ok line) number is = refl
number_goes at name e c (Err f) number is = cc

pub longer_by : (at : List Event → Who → Option (ℕ × ℕ)) (name : ℕ) (e : Event) (c : Coming) (told : Result Line WorldFault) → length (after_told at name e c told).events ≤ length c.events + 1
longer_by at name e c (Ok line) = let more = length-append c.events (e ∷ []) in omega (arith, more)
longer_by at name e c (Err (fault.Chance proof)) = omega arith
longer_by at name e c (Err fault.Memory) = omega arith

module _ (told : List Event → Event → Result Line WorldFault) (at : List Event → Who → Option (ℕ × ℕ)) (name : ℕ) (e : Event) (c d : Coming) (after : d ≡ after_told at name e c (told c.events e)) where
  -- no record was sent
  pub stops : (times : ℕ) → number_told (told c.events e) ≡ None → d ≡ happening told at times name e c
  unfolding happening
  stops zero none = after ∙ ap (λ o. kept name o (after_told at name e c (told c.events e))) (sym none)
  stops (suc times) none =
      after ∙ ap (λ o. and_then (λ number x. happening told at times name (Event.Deliver (pos number)) x) o (after_told at name e c (told c.events e))) (sym none)

  -- it is kept
  pub keeps : (times number : ℕ) → times ≡ 0 → number_told (told c.events e) ≡ Some number → kept name (Some number) d ≡ happening told at times name e c
  unfolding happening
  keeps times number none is = (λ j. kept name (sym is j) (after j)) ∙ ap (λ t. happening told at t name e c) (sym none)

  -- it is delivered at once
  pub goes_on : (times k number : ℕ) → times ≡ suc k → number_told (told c.events e) ≡ Some number
      → happening told at k name (Event.Deliver (pos number)) d ≡ happening told at times name e c
  unfolding happening
  goes_on times k number more is =
      (λ j. and_then (λ n x. happening told at k name (Event.Deliver (pos n)) x) (sym is j) (after j)) ∙ ap (λ t. happening told at t name e c) (sym more)
