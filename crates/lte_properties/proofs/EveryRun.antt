-- What holds of every run of the written machine that has met no coincidence: the machine whose SRBs open by terms comes to
-- the same worlds.
use Rattle.std.proofs.Common.{◌≡◌, ℕ, zero, suc, List, [], ◌∷◌, map, take, refl, ap, sym, ◌∙◌, subst}
use Rattle.std.specs.List.{AllByRecursion as AllOf}
use Rattle.lte_events.specs.{Ranges.IsEvent, Ranges.IsSetup, declared.events.Event.Event, declared.setups.Setup.Setup}
use Rattle.key_model.specs.{Term.Term, Use.map_use, Value.value_of, Value.same_value}
use Rattle.lte_machine.specs.{Wire.Outgoing, Standing.RunsTo}
use Rattle.lte_machine.specs.Ciphers.{Ciphers, under_keys, octets_of}
use Rattle.lte_machine.specs.Opening.{Opening, Outcome, open_octets, open_by_uses}
use Rattle.lte_machine.specs.World.{Machine, World, happens}
use Rattle.lte_machine.specs.Machines.{sender_of, written_machine, written_in_values}
use Rattle.lte_machine.specs.Run.{Running, replay, run, first_world}
use Rattle.lte_machine.proofs.{Mixed.by_terms, Mixed.mixed, AnnexB.under_keys_ciphers, LadderRun.uses_apart, MixedRun.run_by_terms, KnownWorld.first_grounds, CipherLaws.AreCiphers}
use Rattle.lte_machine.proofs.StillRun.{goes_on, still_is_run, turns_to}
use Rattle.lte_properties.specs.{ChainHolds.core_numbers, ChainHolds.noted, Chains.AreChains, Chains.ChainsHold, Freshness.NoUseTwice, SharedKeys.SharedApart, Packets.OpensToSent, SecondCase.SecondAtStarting, Reach.AllReach}
use Rattle.lte_properties.specs.Agreement.{Agrees, NoneThere, NoneEver}
use Rattle.lte_properties.proofs.{Freshness.Premises.ValuesApart, Opening.Opens.by_uses_open, Opening.Sender.roots_along, Freshness.Whole.no_use_twice_by_terms, Freshness.Whole.no_value_twice_by_terms, KeySeparation.Ever.sharing_holds_by, Agreement.Openings.OpensByTerms, SameKeys.reflexive}
use Rattle.lte_properties.proofs.Opening.Whole.{second_case, all_reach, packets_open}
use Rattle.lte_properties.proofs.Agreement.Whole.{agreement_over, chains_over, AgreementHolds}

-- each world on the way of a run that meets no coincidence is one of such a run
on_the_way : {K C S : Type 0} (by_octets : Opening K → List ℕ → Outcome) (m : Machine K C S) (w : World K C S) (es : List Event) (u : World K C S)
    → replay by_octets m (Running w) es ≡ Running u → (n : ℕ) → replay by_octets m (Running w) (take n es) ≡ Running (run m w (take n es))
on_the_way by_octets m w [] u is zero = refl
on_the_way by_octets m w [] u is (suc n) = refl
on_the_way by_octets m w (e ∷ es) u is zero = refl
on_the_way by_octets m w (e ∷ es) u is (suc n) =
    ap (λ r. replay by_octets m r (take n es)) (turns_to by_octets m w e es u is)
    ∙ on_the_way by_octets m (happens m w e).0 es u (goes_on by_octets m w e es u is).1 n

-- machines that come to the same worlds on the way have the same core's numbers
same_numbers : (m n : Machine Term ℕ (Outgoing Term ℕ)) (w : World Term ℕ (Outgoing Term ℕ)) (top : ℕ → ℕ) (es : List Event)
    → ((i : ℕ) → run m w (take i es) ≡ run n w (take i es)) → core_numbers m w top es ≡ core_numbers n w top es
same_numbers m n w top [] f = refl
same_numbers m n w top (e ∷ es) f =
    let u = (happens m w e).0 in
    let one : u ≡ (happens n w e).0 = f 1 in
    same_numbers m n u (noted u.core.link top) es (λ i. f (suc i) ∙ ap (λ v. run n v (take i es)) (sym one))
    ∙ (λ j. core_numbers n (one j) (noted (one j).core.link top) es)

module _ (c : Ciphers (List ℕ)) (good : AreCiphers c) (setup : Setup) (events : List Event)
    (w : World Term ℕ (Outgoing Term ℕ)) (is : RunsTo c setup events w) where
  abbrev terms : Ciphers Term
  terms = under_keys value_of c

  -- the world is that of the machine whose SRBs open by terms
  abbrev in_mixed : w ≡ run (mixed terms written_in_values) (first_world setup) events
  in_mixed = run_by_terms terms written_in_values (open_octets terms) setup events w is

  pub uses_differ : NoUseTwice w.uses
  uses_differ =
      subst (λ (u : World Term ℕ (Outgoing Term ℕ)). NoUseTwice u.uses) (sym in_mixed)
      (no_use_twice_by_terms terms same_value reflexive (octets_of terms written_in_values) sender_of (by_terms terms) (λ v e pdu came. refl) setup events)

  -- and in octets
  pub values_differ : NoUseTwice (map (map_use value_of) w.uses)
  values_differ =
      subst (λ (u : World Term ℕ (Outgoing Term ℕ)). NoUseTwice (map (map_use value_of) u.uses)) (sym in_mixed)
      (no_value_twice_by_terms terms same_value reflexive (octets_of terms written_in_values) sender_of (by_terms terms) (λ v e pdu came. refl) setup events
      (subst (λ (u : World Term ℕ (Outgoing Term ℕ)). ValuesApart u.uses) in_mixed
      (uses_apart terms written_in_values (written_machine c).opener (open_octets terms) setup events w is)))

  -- each world on the way is that of the machine whose SRBs open by terms
  pub way_is : (n : ℕ) → run (written_machine c) (first_world setup) (take n events) ≡ run (mixed terms written_in_values) (first_world setup) (take n events)
  way_is n = run_by_terms terms written_in_values (open_octets terms) setup (take n events) (run (written_machine c) (first_world setup) (take n events))
      (on_the_way (open_octets terms) (written_machine c) (first_world setup) events w is n)

  -- its opener compares uses on SRBs as terms, and others by values
  abbrev by_values : OpensByTerms terms (by_terms terms)
  by_values = ((λ u e pdu came. refl), (same_value, λ u e pdu came. refl))

  module _ (set : IsSetup setup) (are : AllOf IsEvent events) where
    abbrev both : AgreementHolds (mixed terms written_in_values) setup events
    both = agreement_over same_value reflexive terms (under_keys_ciphers value_of c good) written_in_values (by_terms terms) by_values setup set events are

    -- agreement
    pub agrees : Agrees w
    agrees = subst Agrees (sym in_mixed) both.0

    -- and far keys
    pub none_ever : NoneEver (written_machine c) (first_world setup) events
    none_ever n =
        let last : run (written_machine c) (first_world setup) events ≡ run (mixed terms written_in_values) (first_world setup) events =
        sym (still_is_run (open_octets terms) (written_machine c) (first_world setup) events w is) ∙ in_mixed in
        subst (λ (v : World Term ℕ (Outgoing Term ℕ)). NoneThere v (run (written_machine c) (first_world setup) events)) (sym (way_is n))
        (subst (λ (u : World Term ℕ (Outgoing Term ℕ)).
        NoneThere (run (mixed terms written_in_values) (first_world setup) (take n events)) u)
        (sym last) (both.1 n))

    -- and one chain for each connection number
    pub chains : ChainsHold (written_machine c) setup events
    chains =
        let h = chains_over same_value reflexive terms (under_keys_ciphers value_of c good) written_in_values
        (by_terms terms) ((λ u e pdu came. refl), (same_value, λ u e pdu came. refl)) setup set events are in
        let last : run (written_machine c) (first_world setup) events ≡ run (mixed terms written_in_values) (first_world setup) events =
        sym (still_is_run (open_octets terms) (written_machine c) (first_world setup) events w is) ∙ in_mixed in
        let numbers : core_numbers (written_machine c) (first_world setup) (λ conn. 0) events
        ≡ core_numbers (mixed terms written_in_values) (first_world setup) (λ conn. 0) events =
        same_numbers (written_machine c) (mixed terms written_in_values) (first_world setup) (λ conn. 0) events way_is in (
          h.0,
          h.1,
          subst (λ v. AreChains (record {
            root = h.0;
            count = h.1;
            top = core_numbers (written_machine c) (first_world setup) (λ conn. 0) events;
          })
              v)
              (sym last)
              (subst (λ top. AreChains (record { root = h.0; count = h.1; top = top })
              (run (mixed terms written_in_values) (first_world setup) events))
              (sym numbers) h.2),
        )

    -- and who can derive the key
    pub shared : SharedApart setup.cells w
    shared =
        subst (λ (u : World Term ℕ (Outgoing Term ℕ)). SharedApart setup.cells u) (sym in_mixed)
        (sharing_holds_by same_value (octets_of terms written_in_values) sender_of (by_terms terms) setup events both.0.obeyed)

    -- and packets
    pub packets : OpensToSent (written_machine c) w
    packets =
        let one = roots_along terms written_in_values (open_octets terms) (first_world setup) events w (first_grounds setup) refl is in
        subst (OpensToSent (written_machine c)) (sym in_mixed)
        (packets_open same_value reflexive terms (under_keys_ciphers value_of c good) written_in_values (by_terms terms) by_values setup set events are one
        (open_by_uses same_value terms) (by_uses_open same_value reflexive terms (under_keys_ciphers value_of c good)))

    -- and the second case of opening comes at a starting station alone
    pub second : SecondAtStarting (written_machine c) w
    second =
        let one = roots_along terms written_in_values (open_octets terms) (first_world setup) events w (first_grounds setup) refl is in
        subst (SecondAtStarting (written_machine c)) (sym in_mixed)
        (second_case same_value reflexive terms (under_keys_ciphers value_of c good) written_in_values (by_terms terms) by_values setup set events are one
        (open_by_uses same_value terms))

    -- and each record goes to a station of the setup, if it goes to a station
    pub reach : AllReach setup w
    reach =
        let one = roots_along terms written_in_values (open_octets terms) (first_world setup) events w (first_grounds setup) refl is in
        subst (AllReach setup) (sym in_mixed)
        (all_reach same_value reflexive terms (under_keys_ciphers value_of c good) written_in_values (by_terms terms) by_values setup set events are one)
