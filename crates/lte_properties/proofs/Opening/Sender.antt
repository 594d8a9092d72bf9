-- In a run that has met no coincidence a NAS message that the phone accepts was sealed under the key that it expected.
use Rattle.std.proofs.Common.{◌≡◌, refl, sym, ap, subst, ℕ, Bool, true, false, List, [], ◌∷◌, Option, Some, None}
use Rattle.lte_events.specs.declared.events.Event.{Event}
use Rattle.key_model.specs.{HandoverTable.NumberedKey, Term.Term, Term.Root, Value.same_value}
use Rattle.s1x2_rec.specs.Fields.{Fields}
use Rattle.lte_machine.specs.Wire.{KeyUse, Ciphering, Outgoing, SealedNas, PlainNas, SealedRrc, UserPacket, Between}
use Rattle.lte_machine.specs.{Ciphers.Ciphers, Ciphers.octets_of, Ladder.ladder_of, Step.attempted, Machines.machine_over, Machines.sender_of, Run.Running, Run.replay, Known.SentKnown, Known.IsReported}
use Rattle.lte_machine.specs.Opening.{Opening, OpensNas, Outcome, Opened, Differs, same_uses, same_ciphering, judged, nas_wanted, open_case, open_foreign}
use Rattle.nas_guard.specs.Open.{mac_in}
use Rattle.lte_machine.specs.PhoneState.{PhoneInput, PhoneAuth, PhoneActs, PhoneNasPdu, PhoneAirPdu}
use Rattle.lte_machine.specs.World.{Machine, World, Line, happens}
use Rattle.lte_machine.specs.Distinct.{keys_of, Member, OneValueOneTerm}
use Rattle.lte_machine.proofs.{Mixed.by_terms, Mixed.mixed, History.one_value_one_term, KnownLadder.still_in, KnownWorld.Grounds, KnownWorld.happens_grounds, LadderRun.one_use, MixedRun.happens_same, StillRun.goes_on, Worlds.TheWorld}
use Rattle.lte_machine.proofs.KnownLists.{OfSome, all_each, sent_more}
use Rattle.lte_machine.proofs.Routing.{IsTurn, PhoneGets, Turns, happens_by, happens_each}
use Rattle.lte_properties.proofs.{Agreement.Openings.Along, Opening.Openings.SenderIs, Opening.Openings.SameRoot}

-- WHAT IS REPORTED STAYS SO

module _ (m : Machine Term ℕ (Outgoing Term ℕ)) (w : World Term ℕ (Outgoing Term ℕ)) where
  abbrev ReportsStay : World Term ℕ (Outgoing Term ℕ) × Line Term → Type 0
  ReportsStay h = (t : Term) → IsReported w t → IsReported h.0 t

  happens_grows : (e : Event) → ReportsStay (happens m w e)
  happens_grows =
      happens_each m w (λ done a. ReportsStay done) (λ ksi octets caps t h. still_in w.history _ t h)
      (λ input came turn t h. still_in w.history _ t h) (λ input came t h. still_in w.history _ t h)
      (λ id input came s there own t h. still_in w.history _ t h) (λ answer t h. h)

  -- WHAT COMES WAS SENT UNDER REPORTED KEYS

  abbrev CameKnown : Option (Outgoing Term ℕ) → Type 0
  CameKnown came = OfSome (SentKnown (IsReported w)) came

  phone_came : (input : PhoneInput Term) (came : Option (Outgoing Term ℕ))
      → IsTurn input
      → PhoneGets (λ e. Unit {0}) (λ to pdu o. CameKnown o) input came
      → CameKnown came
  phone_came (PhoneAuth ksi root) came turn is = absurd turn
  phone_came (PhoneActs act) None turn is = tt
  phone_came (PhoneActs act) (Some x) turn is = absurd is
  phone_came (PhoneNasPdu pdu) came turn is = is
  phone_came (PhoneAirPdu station air bearer pdu) came turn is = is

  turns : Turns m w (λ e. Unit {0}) (λ to pdu came. CameKnown came) (λ s. Unit {0}) (λ done a. CameKnown a.came)
  turns = record {
    auth = λ ksi octets caps is new. tt;
    phone = phone_came;
    core_acts = λ act is. tt;
    core_nas = λ pdu came is. is;
    core_record = λ pdu came is. is;
    station_acts = λ id act is s f. tt;
    station_air = λ id air bearer pdu came is s f. is;
    station_record = λ on id pdu came is s f. is;
    none = λ answer. tt;
  }

  event_came : Grounds w → (e : Event) → CameKnown (attempted m w e).came
  event_came g e = happens_by turns (λ to pdu. tt) g.keys.sent (all_each (λ s. Unit {0}) (λ s. tt) w.stations) e tt

came_more : (P Q : Term → Type 0) → ((t : Term) → P t → Q t) → (o : Option (Outgoing Term ℕ)) → OfSome (SentKnown P) o → OfSome (SentKnown Q) o
came_more P Q f None h = tt
came_more P Q f (Some x) h = sent_more P Q f x h

-- WHO SEALED WHAT OPENED

module _ (c : Ciphers Term) (ts : List Term) (own : OneValueOneTerm ts) where
  abbrev InTs : Term → Type 0
  InTs t = Member t ts

  under_one_key : (u i : KeyUse Term) (e : Option (Ciphering Term)) (o : Outcome) → (InTs u.key → i.key ≡ u.key) → SenderIs ts (OpensNas u e) (Some i) o
  under_one_key u i e (Opened text) f = λ down here. f here
  under_one_key u i e (Differs wanted got) f = tt

  foreign_differs : (u : KeyUse Term) (e : Option (Ciphering Term)) (pdu : List ℕ)
      → open_foreign c (OpensNas u e) pdu ≡ Differs (nas_wanted c u pdu) (mac_in pdu)
  unfolding open_foreign
  foreign_differs u e pdu = refl

  foreign : (u : KeyUse Term) (e : Option (Ciphering Term)) (pdu : List ℕ) (sender : Option (KeyUse Term))
      → SenderIs ts (OpensNas u e) sender (open_foreign c (OpensNas u e) pdu)
  foreign u e pdu sender = subst (SenderIs ts (OpensNas u e) sender) (sym (foreign_differs u e pdu)) tt

  judged_so : (u i : KeyUse Term) (e : Option (Ciphering Term)) (pdu : List ℕ) (a b : Bool) (text : List ℕ) → same_uses same_value u i ≡ a → InTs i.key
      → SenderIs ts (OpensNas u e) (Some i) (open_case c (OpensNas u e) pdu (judged a b text))
  judged_so u i e pdu false b text is here = foreign u e pdu (Some i)
  judged_so u i e pdu true b text is here =
      under_one_key u i e (open_case c (OpensNas u e) pdu (judged true b text)) (λ there. ap (λ x. x.key) (sym (one_use ts own u i there here is)))

  nas_sender_is : (u : KeyUse Term) (e : Option (Ciphering Term)) (pdu : List ℕ) (came : Option (Outgoing Term ℕ)) → OfSome (SentKnown InTs) came
      → SenderIs ts (OpensNas u e) (sender_of came) (by_terms c (OpensNas u e) pdu came)
  nas_sender_is u e pdu None h = foreign u e pdu None
  nas_sender_is u e pdu (Some (SealedNas dir header i f text)) h =
      judged_so u i e pdu (same_uses same_value u i) (same_ciphering same_value e f) text refl h.0
  nas_sender_is u e pdu (Some (PlainNas octets)) h = foreign u e pdu None
  nas_sender_is u e pdu (Some (SealedRrc dir station air srb i f text)) h = judged_so u i e pdu (same_uses same_value u i) false text refl h.0
  nas_sender_is u e pdu (Some (UserPacket dir station air drb f text)) h = foreign u e pdu None
  nas_sender_is u e pdu (Some (Between to fields key)) h = foreign u e pdu None

  sender_is : (o : Opening Term) (pdu : List ℕ) (came : Option (Outgoing Term ℕ))
      → OfSome (SentKnown InTs) came
      → SenderIs ts o (sender_of came) (by_terms c o pdu came)
  sender_is (OpensNas u e) pdu came h = nas_sender_is u e pdu came h
  sender_is other pdu came h = tt

-- ALONG A RUN

module _ (c : Ciphers Term) (between : Fields → Option (NumberedKey Term ℕ) → List ℕ) where
  abbrev written : Machine Term ℕ (Outgoing Term ℕ)
  written = machine_over same_value c between

  abbrev no_clash : TheWorld → Type 0
  no_clash w = (ladder_of same_value w.history).clash ≡ None

  one_root : (w : TheWorld) (e : Event)
      → Grounds w
      → Grounds (happens (mixed c between) w e).0
      → no_clash (happens (mixed c between) w e).0
      → SameRoot (mixed c between) w e
  one_root w e g h calm done =
      let u = (happens (mixed c between) w e).0 in
      let a = attempted (mixed c between) w e in
      sender_is c (keys_of u.history) (one_value_one_term u.history h.ladder calm) a.opening a.octets a.came
      (came_more (IsReported w) (IsReported u) (happens_grows (mixed c between) w e) a.came (event_came (mixed c between) w g e))

  pub roots_along : (by_octets : Opening Term → List ℕ → Outcome) (w : TheWorld) (es : List Event) (u : TheWorld) → Grounds w → no_clash w
      → replay by_octets written (Running w) es ≡ Running u → Along (SameRoot (mixed c between)) (mixed c between) w es
  roots_along by_octets w [] u g calm is = tt
  roots_along by_octets w (e ∷ es) u g calm is =
      let on = goes_on by_octets written w e es u is in
      let next : (happens written w e).0 ≡ (happens (mixed c between) w e).0 = happens_same c between w g calm e on.0 in
      let grounds : Grounds (happens (mixed c between) w e).0 = happens_grounds Root (octets_of c between) sender_of (by_terms c) w e g in (
        one_root w e g grounds (subst no_clash next on.0),
        subst (λ v. Along (SameRoot (mixed c between)) (mixed c between) v es) next
            (roots_along by_octets (happens written w e).0 es u (subst Grounds (sym next) grounds) on.0 on.1),
      )
