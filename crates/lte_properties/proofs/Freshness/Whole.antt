-- No key is used twice with one COUNT, BEARER and DIRECTION, in any run from any setup.
use Rattle.std.proofs.Common.{◌≡◌, refl, sym, ap, ◌∙◌, ℕ, ◌==◌, ◌&&◌, Bool, true, false, List, [], ◌∷◌, map, Option, Some, None}
use Rattle.rec_base.specs.declared.uses.Dir.{Dir}
use Rattle.rec_base.specs.declared.uses.Dir.TheVariants.{Up, Down}
use Rattle.lte_events.specs.{declared.events.Event.Event, declared.setups.Setup.Setup, declared.setups.StationSetup.StationSetup, Site.Site}
use Rattle.key_model.specs.Term.{Term, Root, same_term}
use Rattle.key_model.specs.{Value.value_of, Use.map_use}
use Rattle.key_model.proofs.TermFacts.{same_term-Decides}
use Rattle.lte_machine.specs.Wire.{KeyUse, Ciphering, Outgoing, SealedNas, SealedRrc}
use Rattle.lte_machine.specs.{Ciphers.Ciphers, Machines.sender_of, Step.attempted, Run.stations_of, Run.first_world}
use Rattle.lte_machine.specs.Opening.{Opening, OpensSrb, Outcome, Opened, Differs, open_by_uses, open_octets, open_foreign, open_case, judged, same_uses, same_ciphering, same_dir}
use Rattle.lte_machine.specs.World.{Machine, World, happens}
use Rattle.lte_properties.specs.{ChainBelow.AllOf, ChainHolds.machine_by, ChainHolds.run, Freshness.NoUseTwice}
use Rattle.lte_properties.proofs.Freshness.Premises.{ValuesApart, srb_accepted, SentUnder, AllSentUnder}
use Rattle.lte_properties.proofs.{Freshness.Uses.StationUse, Freshness.Stands.StationStands, Freshness.Stands.Fresh, Freshness.Lists.no_use_twice, Freshness.Lists.no_value_twice, Freshness.Run.run_fresh, SameKeys.IsReflexive}
use Rattle.lte_machine.proofs.Tests.{by_some, none_some, same_of, both_true}

-- THE FIRST WORLD

-- stations that have served nobody stand
stations_stand : (sites : List Site) (ss : List StationSetup) → AllOf (StationStands (λ t. None) (λ t. None)) (stations_of sites ss)
stations_stand sites [] = tt
stations_stand sites (s ∷ ss) = ((tt, tt), stations_stand sites ss)

-- and have used no key
no_uses : (sites : List Site) (ss : List StationSetup) →
    AllOf (λ s. AllOf (λ u. u.dir ≡ Down → StationUse (λ t. None) (λ t. None) s u) []) (stations_of sites ss)
no_uses sites [] = tt
no_uses sites (s ∷ ss) = (tt, no_uses sites ss)

-- nothing was used, taken or given
pub first_fresh : (setup : Setup) → Fresh (first_world setup)
first_fresh setup = record {
  roots = 0;
  taken = λ t. None;
  given = λ t. None;
  counted = refl;
  phone = record { kasmes = (tt, tt); keys = tt; past = λ t k e. absurd (none_some e); radio = tt; older = tt; sent = tt };
  core = record { kasmes = (tt, tt); keys = tt; procedure = tt; trigger = tt; past = λ t k e. absurd (none_some e) };
  stations = stations_stand setup.cells setup.stations;
  up = tt;
  nas = tt;
  down = no_uses setup.cells setup.stations;
  sent = tt;
  took = tt;
  apart = tt;
}

-- COMPARISON OF TERMS

-- directions that the test says are one
dirs_are_one : (d e : Dir) → same_dir d e ≡ true → d ≡ e
dirs_are_one Up Up h = refl
dirs_are_one Down Down h = refl
dirs_are_one Up Down h = absurd (cc)
dirs_are_one Down Up h = absurd (cc)

-- uses of one term, COUNT, BEARER and DIRECTION are one
pub same_term_is_one : (u v : KeyUse Term) → same_uses same_term u v ≡ true → u ≡ v
same_term_is_one u v h =
    let d = both_true ((same_term u.key v.key && (u.count == v.count)) && (u.bearer == v.bearer)) (same_dir u.dir v.dir) h in
    let b = both_true (same_term u.key v.key && (u.count == v.count)) (u.bearer == v.bearer) d.0 in
    let c = both_true (same_term u.key v.key) (u.count == v.count) b.0 in
    let key : u.key ≡ v.key = (same_term-Decides u.key v.key).0 c.0 in
    let count : u.count ≡ v.count = same_of u.count v.count c.1 in
    let bearer : u.bearer ≡ v.bearer = same_of u.bearer v.bearer b.1 in
    let dir : u.dir ≡ v.dir = dirs_are_one u.dir v.dir d.1 in
    λ j. record { key = key j; count = count j; bearer = bearer j; dir = dir j }

module _ (c : Ciphers Term) where
  -- nothing that was sealed under another use is accepted
  none_foreign : (v : KeyUse Term) (e : Option (Ciphering Term)) (pdu : List ℕ) (u : KeyUse Term) →
      srb_accepted (OpensSrb v e) (open_foreign c (OpensSrb v e) pdu) ≡ Some u → ⊥
  unfolding open_foreign
  none_foreign v e pdu u h = none_some h

  -- it is the use expected
  as_expected : (v : KeyUse Term) (e : Option (Ciphering Term)) (outcome : Outcome) (u : KeyUse Term) → srb_accepted (OpensSrb v e) outcome ≡ Some u → v ≡ u
  as_expected v e (Opened text) u h = by_some h
  as_expected v e (Differs wanted got) u h = absurd (none_some h)

  -- so its sender's use is that one
  judged_so : (v : KeyUse Term) (e : Option (Ciphering Term)) (pdu text : List ℕ) (i u : KeyUse Term) (a b : Bool) → same_uses same_term v i ≡ a →
      srb_accepted (OpensSrb v e) (open_case c (OpensSrb v e) pdu (judged a b text)) ≡ Some u → i ≡ u
  judged_so v e pdu text i u true true g h = sym (same_term_is_one v i g) ∙ by_some h
  judged_so v e pdu text i u true false g h = sym (same_term_is_one v i g) ∙ as_expected v e (open_octets c (OpensSrb v e) pdu) u h
  judged_so v e pdu text i u false b g h = absurd (none_foreign v e pdu u h)

  -- what opens by terms was sealed under the use by which it is accepted
  sealed_so : (v : KeyUse Term) (e : Option (Ciphering Term)) (pdu : List ℕ) (came : Option (Outgoing Term ℕ)) (u : KeyUse Term) →
      srb_accepted (OpensSrb v e) (open_by_uses same_term c (OpensSrb v e) pdu came) ≡ Some u → sender_of came ≡ Some u
  sealed_so v e pdu (Some (SealedRrc dir station air srb i f text)) u h =
      ap Some (judged_so v e pdu text i u (same_uses same_term v i) (same_ciphering same_term e f) refl h)
  sealed_so v e pdu (Some (SealedNas dir header i f text)) u h = ap Some (judged_so v e pdu text i u (same_uses same_term v i) false refl h)
  sealed_so v e pdu other u h = absurd (none_foreign v e pdu u h)

  -- a machine that opens PDUs of SRBs by the terms of their uses; how it opens anything else is open
  module _ (same : Term → Term → Bool) (itself : IsReflexive same) (octets : Outgoing Term ℕ → List ℕ)
      (sender : Option (Outgoing Term ℕ) → Option (KeyUse Term))
      (opener : Opening Term → List ℕ → Option (Outgoing Term ℕ) → Outcome)
      (by_terms : (v : KeyUse Term) (e : Option (Ciphering Term)) (pdu : List ℕ) (came : Option (Outgoing Term ℕ)) →
      opener (OpensSrb v e) pdu came ≡ open_by_uses same_term c (OpensSrb v e) pdu came) where
    -- the machine
    abbrev m : Machine Term ℕ (Outgoing Term ℕ)
    m = machine_by same Root octets sender opener

    -- whatever is opened
    attempt_sealed : (opening : Opening Term) (pdu : List ℕ) (came : Option (Outgoing Term ℕ)) (u : KeyUse Term) →
        srb_accepted opening (opener opening pdu came) ≡ Some u → sender_of came ≡ Some u
    attempt_sealed (OpensSrb v e) pdu came u h = sealed_so v e pdu came u (ap (srb_accepted (OpensSrb v e)) (sym (by_terms v e pdu came)) ∙ h)
    attempt_sealed other pdu came u h = absurd (none_some h)

    -- so it is in each event
    pub sent_under : (w : World Term ℕ (Outgoing Term ℕ)) (e : Event) → SentUnder m w e
    sent_under w e u up h = let a = attempted m w e in attempt_sealed a.opening a.octets a.came u h

    -- and in each run
    all_sent_under : (w : World Term ℕ (Outgoing Term ℕ)) (es : List Event) → AllSentUnder m w es
    all_sent_under w [] = tt
    all_sent_under w (e ∷ es) = (sent_under w e, all_sent_under (happens m w e).0 es)

    -- no use is made twice in any run from any setup
    pub no_use_twice_by_terms : (setup : Setup) (es : List Event) → NoUseTwice (run m (first_world setup) es).uses
    no_use_twice_by_terms setup es =
        no_use_twice _ (run_fresh same itself octets sender opener (first_world setup) es (all_sent_under (first_world setup) es) (first_fresh setup)).apart

    -- and in octets, where distinct keys of the run have distinct values
    pub no_value_twice_by_terms : (setup : Setup) (es : List Event) → ValuesApart (run m (first_world setup) es).uses →
        NoUseTwice (map (map_use value_of) (run m (first_world setup) es).uses)
    no_value_twice_by_terms setup es apart = no_value_twice _ (no_use_twice_by_terms setup es) apart
