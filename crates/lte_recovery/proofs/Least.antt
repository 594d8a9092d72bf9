-- In a run that goes on: where phone and core use one KASME, the COUNT that the core expects is not above the phone's next one.
use Rattle.std.proofs.Common.{◌≡◌, refl, sym, subst, ◌+◌, ◌<◌, ◌≤◌, arith, List, [], ◌∷◌, Some}
use Rattle.std.specs.{Prelude.IfSome, List.flat_map, List.AllByRecursion as AllOf}
use Rattle.alg_choice.specs.Algs.{eia2_identity}
use Rattle.rec_base.specs.declared.uses.Dir.TheVariants.{Up}
use Rattle.key_model.specs.Term.{Term, Root, Alg}
use Rattle.key_model.specs.Value.{same_value}
use Rattle.lte_events.specs.{declared.events.Event.Event, declared.setups.Setup.Setup}
use Rattle.lte_machine.specs.{BothRuns.annex_b_terms, Ciphers.annex_b, Ciphers.octets_of, CoreState.CoreContext, Opening.open_octets, Opening.open_by_uses, PhoneState.NasContext, Run.first_world, Standing.RunsTo, World.happens}
use Rattle.lte_machine.specs.Machines.{sender_of, written_machine, written_in_values}
use Rattle.lte_machine.specs.Wire.{nas_use, uses_of}
use Rattle.lte_machine.proofs.{KnownWorld.first_grounds, Mixed.by_terms, Mixed.mixed, MixedRun.run_by_terms, StillRun.still_is_run}
use Rattle.lte_properties.specs.Accounts.{UsesAreThoseSent}
use Rattle.lte_properties.proofs.{AccountsHold.uses_are_sent, Freshness.Premises.AllSentUnder, Freshness.Run.run_fresh, Freshness.Stands.Fresh, Freshness.Whole.first_fresh, Freshness.Whole.sent_under, SameKeys.reflexive}
use Rattle.lte_properties.proofs.Freshness.Uses.{UpUse}
use Rattle.lte_recovery.specs.Reconnection.{TheWorld}
use Rattle.lte_recovery.proofs.Heard.{Heard, HeardIn, heard_along, sent_use}

all_sent : (w : TheWorld) (es : List Event) → AllSentUnder (mixed annex_b_terms written_in_values) w es
all_sent w [] = tt
all_sent w (e ∷ es) = (
  sent_under annex_b_terms same_value reflexive (octets_of annex_b_terms written_in_values) sender_of (by_terms annex_b_terms) (λ v e pdu came. refl) w e,
  all_sent (happens (mixed annex_b_terms written_in_values) w e).0 es,
)

module _ (setup : Setup) (events : List Event) (w : TheWorld) (is : RunsTo annex_b setup events w) where
  heard : Heard w
  heard = heard_along annex_b_terms written_in_values (open_octets annex_b_terms) (first_world setup) events w (first_grounds setup) refl tt is

  fresh : Fresh w
  fresh =
      subst Fresh (sym (run_by_terms annex_b_terms written_in_values (open_octets annex_b_terms) setup events w is))
      (run_fresh same_value reflexive (octets_of annex_b_terms written_in_values) sender_of (by_terms annex_b_terms) (first_world setup) events
      (all_sent (first_world setup) events) (first_fresh setup))

  uses : w.uses ≡ flat_map uses_of w.sent
  uses =
      subst (λ (v : TheWorld). UsesAreThoseSent v) (sym (still_is_run (open_octets annex_b_terms) (written_machine annex_b) (first_world setup) events w is))
      (uses_are_sent same_value Root (octets_of annex_b_terms written_in_values) sender_of (open_by_uses same_value annex_b_terms) (first_world setup) events refl)

  pub least : (p : NasContext Term) (k : CoreContext Term) → w.phone.context ≡ Some p → w.core.context ≡ Some k → k.nas.root ≡ p.root
      → k.nas.keys.int ≡ Alg p.root 2 eia2_identity
      → k.nas.receive ≤ p.send
  least p k at_phone at_core root int =
      let h : HeardIn w.sent (Some k) = subst (HeardIn w.sent) at_core heard in
      let f = fresh in
      let up : UpUse f.roots f.taken w.phone (nas_use Up k.nas.keys.int h.0) =
      sent_use (λ u. u.dir ≡ Up → UpUse f.roots f.taken w.phone u) (nas_use Up k.nas.keys.int h.0) w.sent
      (subst (λ us. AllOf (λ u. u.dir ≡ Up → UpUse f.roots f.taken w.phone u) us) uses f.up) h.2 refl in
      let on = subst (λ t. UpUse f.roots f.taken w.phone (nas_use Up t h.0)) int up in
      let below : h.0 < p.send = subst (λ o. IfSome o (λ c. p.root ≡ c.root → h.0 < c.send)) at_phone (on.0 (omega arith)).2 refl in
      let one : k.nas.receive ≡ h.0 + 1 = h.1 in
      omega arith
