-- The seven events after a run of the written machine.
use Rattle.std.proofs.Common.{◌≡◌, refl, sym, ap, ◌∙◌, subst, List, ◌++◌}
use Rattle.annex_a_keys.specs.Cell.{Place}
use Rattle.key_model.specs.{Term.Root, Value.value_of, Value.same_value}
use Rattle.lte_events.specs.{declared.events.Event.Event, declared.setups.Setup.Setup}
use Rattle.lte_machine.specs.{Ciphers.annex_b, Opening.open_octets, Opening.open_by_uses, Standing.RunsTo, BothRuns.annex_b_terms, World.Machine, Run.RunState, Run.turn, Opening.Opening, Opening.Outcome}
use Rattle.lte_machine.specs.Machines.{sender_of, written_machine, written_in_values}
use Rattle.lte_machine.specs.Run.{Running, run, replay, first_world}
use Rattle.lte_machine.proofs.{AnnexB.annex_b_ciphers, AnnexB.under_keys_ciphers, StillRun.still_is_run}
use Rattle.lte_properties.proofs.{Opening.Opens.by_uses_open, SameKeys.reflexive}
use Rattle.std.proofs.Common.{ℕ, [], ◌∷◌}
use Rattle.lte_recovery.specs.Reconnection.{TheWorld, reconnect, CanReconnect, Recovers}
use Rattle.lte_recovery.specs.Renewal.{restart, CanRestart, RecoversAnew}
use Rattle.lte_recovery.proofs.{ElevenEvents.recovers_anew, SevenEvents.recovers}

parts : {K C S : Type 0} (by_octets : Opening K → List ℕ → Outcome) (m : Machine K C S) (r : RunState K C S) (es fs : List Event)
    → replay by_octets m r (es ++ fs) ≡ replay by_octets m (replay by_octets m r es) fs
parts by_octets m r [] fs = refl
parts by_octets m r (e ∷ es) fs = parts by_octets m (turn by_octets m r e) es fs

-- over the written machine, from any world
pub recovers_written : (w : TheWorld) (cell : Place) (can : CanReconnect w cell) → Recovers w cell can (run (written_machine annex_b) w (reconnect cell))
recovers_written w cell can =
    let good = under_keys_ciphers value_of annex_b annex_b_ciphers in
    recovers same_value Root sender_of (open_by_uses same_value annex_b_terms) annex_b_terms good (by_uses_open same_value reflexive annex_b_terms good)
    written_in_values w cell can

-- a run of more events is a run from the world that it was in
more : (setup : Setup) (events rest : List Event) (w u : TheWorld)
    → RunsTo annex_b setup events w
    → RunsTo annex_b setup (events ++ rest) u
    → u ≡ run (written_machine annex_b) w rest
more setup events rest w u runs goes_on =
    let by_octets = open_octets annex_b_terms in
    let m = written_machine annex_b in
    still_is_run by_octets m w rest u
    (ap (λ r. replay by_octets m r rest) (sym runs) ∙ sym (parts by_octets m (Running (first_world setup)) events rest) ∙ goes_on)

pub recovers_anew_in_runs : (setup : Setup) (events : List Event) (w u : TheWorld) (cell : Place) (ksi : ℕ) (octets : List ℕ)
    → RunsTo annex_b setup events w
    → RunsTo annex_b setup (events ++ restart w cell ksi octets) u
    → (can : CanRestart (written_machine annex_b) w cell ksi octets) → RecoversAnew (written_machine annex_b) w cell ksi octets can u
recovers_anew_in_runs setup events w u cell ksi octets runs heals can =
    let good = under_keys_ciphers value_of annex_b annex_b_ciphers in
    subst (RecoversAnew (written_machine annex_b) w cell ksi octets can)
    (sym (more setup events (restart w cell ksi octets) w u runs heals))
    (recovers_anew same_value Root sender_of (open_by_uses same_value annex_b_terms) annex_b_terms good (by_uses_open same_value reflexive annex_b_terms good)
    written_in_values w cell ksi octets can)

pub recovers_in_runs : (setup : Setup) (events : List Event) (w u : TheWorld) (cell : Place)
    → RunsTo annex_b setup events w
    → RunsTo annex_b setup (events ++ reconnect cell) u
    → (can : CanReconnect w cell) → Recovers w cell can u
recovers_in_runs setup events w u cell runs heals can =
    subst (Recovers w cell can) (sym (more setup events (reconnect cell) w u runs heals)) (recovers_written w cell can)
