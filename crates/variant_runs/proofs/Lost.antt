-- The texts that nobody opens, of one step more.
use Rattle.std.proofs.Common.{◌≡◌, refl, ap, arith, ℕ, zero, suc, ◌+◌, List}
use Rattle.lte_events.specs.declared.events.Event.{Event}
use Rattle.item_faults.specs.declared.steps.Step.{Step}
use Rattle.item_lines.specs.declared.lines.Told.{Told}
use Rattle.item_outcomes.specs.declared.troubles.Trouble.{Trouble}
use Rattle.item_outcomes.specs.declared.troubles.Trouble.TheVariants as trouble
use Rattle.variant_runs.specs.Troubles.{is_lost, lost_before, with_if}

module _ (told : List Told) (acts : List Event) (steps : List Step) (found : List Trouble) where
  pub none : found ≡ lost_before told acts steps found 0
  unfolding lost_before
  none = refl

  pub one_more : (total number : ℕ) → total ≡ number + 1
      → lost_before told acts steps found total
      ≡ with_if (is_lost told acts steps number) (trouble.PacketLost number) (lost_before told acts steps found number)
  unfolding lost_before
  one_more zero number is = absurd (omega (arith, is))
  one_more (suc before) number is =
      let same : before ≡ number = omega (arith, is) in
      ap (λ k. with_if (is_lost told acts steps k) (trouble.PacketLost k) (lost_before told acts steps found k)) same
