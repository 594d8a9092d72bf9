-- A call of the NAS part is the step of the whole core.
use Rattle.std.proofs.Common.{◌≡◌, ℕ, List, ◌∙◌, ap, sym}
use Rattle.lte_events.specs.declared.replies.ActorOut.{ActorOut}
use Rattle.lte_machine.specs.CoreState.{Core, CoreInput}
use Rattle.nas_smc.specs.CoreNas.{CoreRest}
use Rattle.mme_context.specs.{declared.mme.Core.TheInside.Inside, Step.answered}

-- what the core has beside its NAS part
abbrev pub rest_in : Inside → CoreRest
rest_in c = record {
  cells = c.cells;
  first_ncc = c.first_ncc;
  latest = c.latest;
  trigger = c.trigger;
  next = c.next;
  link = c.link;
  attempts = c.attempts;
  requests = c.requests;
}

pub whole : (s t : Core (List ℕ) ℕ) (i : CoreInput (List ℕ) ℕ) (d after : Core (List ℕ) ℕ × ActorOut)
    → s ≡ t → d ≡ after → answered s i ≡ after → d ≡ answered t i
whole s t i d after view e h = e ∙ sym h ∙ ap (λ x. answered x i) view
