-- Two cores in which nothing has happened.
use Rattle.std.proofs.Common.{◌≡◌, refl, sym, ap, ◌∙◌, subst, ℕ, List, [], length, arith}
use Rattle.std.specs.List.{AllByRecursion as AllOf}
use Rattle.lte_events.specs.{Site.Site, Ranges.IsEvent, Ranges.IsSetup, declared.events.Event.Event, declared.setups.Setup.Setup}
use Rattle.lte_machine.specs.{Ciphers.annex_b, Run.Running, Run.first_world}
use Rattle.lte_machine.proofs.WholeRun.{first_value}
use Rattle.lte_world.specs.Whole.{Whole, begun, run_of}
use Rattle.core_relocation.specs.{declared.senders.Sender.Sender, Whole.Keeps}
use Rattle.core_relocation.specs.Run.{first_state, run_after, two_state}

none_yet : (setup : Setup) (core_of : List ℕ) → first_state ≡ two_state setup core_of []
unfolding two_state
none_yet setup core_of = refl

pub keeps_first : (setup : Setup)
    → IsSetup setup
    → (w : Whole)
    → w ≡ begun setup
    → run_of w ≡ Running (first_world setup)
    → (core_of : List ℕ) (cells : List Site)
    → cells ≡ setup.cells
    → (events : List Event)
    → events ≡ []
    → (senders : List Sender)
    → senders ≡ []
    → Keeps (record { world = w; cores = record { core_of = core_of; cells = cells; held = first_state.held }; events = events; senders = senders })
keeps_first setup begins w is runs core_of cells same events none senders nobody = record {
  set = subst (λ v. IsSetup v.setup) (sym is) begins;
  are = subst (λ v. AllOf IsEvent v.journal) (sym is) tt;
  cells = same ∙ ap (λ v. v.setup.cells) (sym is);
  heard = omega (arith, ap (λ v. length v.journal) is);
  sent = omega (arith, ap length nobody);
  run = λ goes. runs ∙ sym (first_value annex_b setup) ∙ ap (λ v. run_after v.setup core_of v.journal) (sym is);
  state = λ goes.
      (λ j. record { steps = length (none j); heard = (is j).journal; held = first_state.held; senders = nobody j })
      ∙ none_yet setup core_of
      ∙ ap (λ es. two_state setup core_of es) (sym none)
      ∙ ap (λ v. two_state v.setup core_of events) (sym is);
}
