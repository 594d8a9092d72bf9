-- Recovery of a setup and its events, sentence by sentence: what leads back to one key behind any number of them.
use Rattle.std.specs.Prelude.{ℕ, List, take}
use Rattle.lte_events.specs.{declared.events.Event.Event, declared.setups.Setup.Setup}
use Rattle.lte_recovery.specs.{InRuns.Reconnects, InRuns.Restarts, Octets.ReconnectsInOctets, Octets.RestartsInOctets}

pub record Recovery (setup : Setup) (events : List Event) : Type 0 where
  -- a reconnection of seven events, where phone and core use one KASME with a COUNT in the window
  pub reconnects : (n : ℕ) → Reconnects setup (take n events)
  pub octets : (n : ℕ) → ReconnectsInOctets setup (take n events)
  -- else a new authentication and the reconnection, eleven events
  pub restarts : (n : ℕ) → Restarts setup (take n events)
  pub octets_anew : (n : ℕ) → RestartsInOctets setup (take n events)
