-- The laws over runs that go on: the premises in a run are those in any world.
use Rattle.std.proofs.Common.{◌≡◌, ap, ◌∙◌, subst, ℕ, List, ◌++◌, Ok}
use Rattle.std.specs.List.{AllByRecursion as AllOf}
use Rattle.alg_choice.specs.Choice.{choice_of}
use Rattle.annex_a_keys.specs.Cell.{Place}
use Rattle.lte_events.specs.{Ranges.IsEvent, Ranges.IsSetup, Site.station_of, declared.events.Event.Event, declared.setups.Setup.Setup}
use Rattle.lte_machine.specs.{Ciphers.annex_b, Machines.written_machine, Standing.RunsTo}
use Rattle.lte_recovery.specs.InRuns.{InTouch, RecoversIn, CanStartAnew, RecoversAnewIn}
use Rattle.lte_recovery.specs.Reconnection.{TheWorld, reconnect, CanReconnect}
use Rattle.lte_recovery.specs.Renewal.{restart, CanRestart}
use Rattle.lte_recovery.proofs.Chosen.{chosen_held}
use Rattle.lte_recovery.proofs.OverRuns.{recovers_in_runs, recovers_anew_in_runs}
use Rattle.lte_recovery.proofs.OwnCaps.{core_has_own}
use Rattle.lte_recovery.proofs.Reached.{core_cells, same_keys, in_order, station_ok, newer_than}

module _ (setup : Setup) (events : List Event) (set : IsSetup setup) (are : AllOf IsEvent events) (w : TheWorld) (is : RunsTo annex_b setup events w) where
  in_touch : (cell : Place) → InTouch setup w cell → CanReconnect w cell
  in_touch cell h =
      let ok = station_ok setup events set are w is h.station.id h.station h.there in
      record {
        phone = h.phone;
        core = h.core;
        at_phone = h.at_phone;
        at_core = h.at_core;
        root = h.root;
        keys = same_keys setup events set are w is h.phone h.core h.at_phone h.at_core h.root;
        window = (in_order setup events set are w is h.phone h.core h.at_phone h.at_core h.root, h.window);
        left = h.left;
        station = h.station;
        there = h.there;
        serves = ap (station_of cell) (core_cells setup events set are w is) ∙ h.serves;
        own = ap (station_of cell) ok.0 ∙ h.serves;
        few = ok.1;
        numbers = h.numbers;
        newer = newer_than setup events set are w is h.station.id h.station h.there;
        draws = h.draws;
        from_one = ok.2;
        algs = h.algs;
        chosen = h.chosen;
        supported =
            chosen_held h.station.priority w.phone.caps h.algs
            (subst (λ caps. choice_of h.station.priority caps ≡ Ok h.algs)
            (core_has_own setup events are w is h.phone h.core h.at_phone h.at_core h.root) h.chosen);
      }

  -- and where a new authentication comes first
  can_restart : (cell : Place) (ksi : ℕ) (octets : List ℕ) → CanStartAnew setup w cell ksi octets → CanRestart (written_machine annex_b) w cell ksi octets
  can_restart cell ksi octets h =
      let ok = station_ok setup events set are w is h.station.id h.station h.there in
      record {
        fresh = h.fresh;
        key_set = h.key_set;
        nas_algs = h.nas_algs;
        nas_chosen = h.nas_chosen;
        nas_supported = chosen_held w.core.priority w.phone.caps h.nas_algs h.nas_chosen;
        station = h.station;
        there = h.there;
        serves = ap (station_of cell) (core_cells setup events set are w is) ∙ h.serves;
        own = ap (station_of cell) ok.0 ∙ h.serves;
        few = ok.1;
        numbers = h.numbers;
        newer = newer_than setup events set are w is h.station.id h.station h.there;
        draws = h.draws;
        from_one = ok.2;
        algs = h.algs;
        chosen = h.chosen;
        supported = chosen_held h.station.priority w.phone.caps h.algs h.chosen;
      }

  pub recovers_in : (u : TheWorld) (cell : Place) → RunsTo annex_b setup (events ++ reconnect cell) u → (h : InTouch setup w cell) → RecoversIn setup w cell h u
  unfolding in_touch
  recovers_in u cell heals h = recovers_in_runs setup events w u cell is heals (in_touch cell h)

  pub recovers_anew_in : (u : TheWorld) (cell : Place) (ksi : ℕ) (octets : List ℕ)
      → RunsTo annex_b setup (events ++ restart w cell ksi octets) u
      → (h : CanStartAnew setup w cell ksi octets) → RecoversAnewIn setup w cell ksi octets h u
  unfolding can_restart
  recovers_anew_in u cell ksi octets heals h = recovers_anew_in_runs setup events w u cell ksi octets is heals (can_restart cell ksi octets h)
