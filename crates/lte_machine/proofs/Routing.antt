-- An event is an authentication, the turn of one actor, or reaches nobody: what holds of each of these holds of every event.
use Rattle.std.proofs.Common.{◌≡◌, refl, subst, ℕ, ◌==◌, Bool, true, false, cond, List, [], ◌∷◌, Option, Some, None}
use Rattle.std.specs.List.{position_from, AllByRecursion as AllOf}
use Rattle.std.proofs.lemmas.Bool.{eqb-true}
use Rattle.alg_choice.specs.declared.caps.Caps.{Caps}
use Rattle.rec_base.specs.declared.bearers.Bearer.{Bearer}
use Rattle.lte_events.specs.{declared.acts.CoreAct.CoreAct, declared.acts.StationAct.StationAct, declared.addresses.Address.Address, declared.answers.Answer.Answer, declared.events.Event.Event, Class.class_of}
use Rattle.lte_events.specs.declared.answers.Answer.TheVariants.{NoUe, NoRecord, Sent, RepeatedRoot}
use Rattle.lte_machine.specs.PhoneState.{PhoneInput, PhoneAuth, PhoneActs, PhoneNasPdu, PhoneAirPdu}
use Rattle.lte_machine.specs.PhoneStep.{phone_root}
use Rattle.lte_machine.specs.StationState.{Station, StationInput, StationActs, AirPdu, StationRecord, Interface, OnS1, OnX2}
use Rattle.lte_machine.specs.CoreState.{CoreInput, CoreActs, CoreNasPdu, CoreRecord}
use Rattle.lte_machine.specs.World.{Machine, World, Line, by_world, phone_turn, core_turn, station_of_id, turn_of, authenticated, auth_unless, known_root, next_root, content_in, arrives, record_at, delivery, is_sent, injected, happens}
use Rattle.lte_machine.specs.Step.{Attempted, opens_none, phone_attempts, core_attempts, attempts_at, arrival_attempts, delivery_attempts, injection_attempts, attempted}
use Rattle.lte_machine.proofs.KnownLists.{OfSome, all_find, all_chosen, all_each}

-- where records on S1 or X2 come to a station
abbrev pub address_on : Interface → ℕ → Address
address_on OnS1 id = Address.StationS1 id
address_on OnX2 id = Address.StationX2 id

-- the station of a number, of which this holds
pub record Found {K C S : Type 0} (w : World K C S) (Q : Station K C → Type 0) (id : ℕ) (s : Station K C) : Type 0 where
  pub there : station_of_id id w.stations ≡ Some s
  pub own : s.id ≡ id
  pub holds : Q s

-- an input of the phone that an event gives it: no authentication
abbrev pub IsTurn : {K : Type 0} → PhoneInput K → Type 0
IsTurn (PhoneAuth ksi root) = ⊥
IsTurn (PhoneActs act) = Unit {0}
IsTurn (PhoneNasPdu pdu) = Unit {0}
IsTurn (PhoneAirPdu station air bearer pdu) = Unit {0}

-- so it has no root
pub no_root : {K : Type 0} (P : K → Type 0) (input : PhoneInput K) → IsTurn input → OfSome P (phone_root input)
no_root P (PhoneAuth ksi root) turn = absurd turn
no_root other rest turn = tt

-- what is so of its event, or of what came
abbrev pub PhoneGets : {K S : Type 0} → (Event → Type 0) → (Address → List ℕ → Option S → Type 0) → PhoneInput K → Option S → Type 0
PhoneGets E T (PhoneAuth ksi root) came = Unit {0}
PhoneGets E T (PhoneActs act) None = E (Event.Phone act)
PhoneGets E T (PhoneActs act) (Some x) = ⊥
PhoneGets E T (PhoneNasPdu pdu) came = T Address.PhoneNas pdu came
PhoneGets E T (PhoneAirPdu station air bearer pdu) came = T (Address.Phone station air bearer) pdu came

-- P holds of each turn and of what it opens, where E holds of the event, T of what comes to an address and Q of the station
pub record Turns {K C S : Type 0} (m : Machine K C S) (w : World K C S) (E : Event → Type 0)
    (T : Address → List ℕ → Option S → Type 0) (Q : Station K C → Type 0)
    (P : World K C S × Line K → Attempted K S → Type 0) : Type 0 where
  pub auth : (ksi : ℕ) (octets : List ℕ) (caps : Caps) → E (Event.Auth ksi octets caps) → known_root m w (m.root (next_root w) octets) ≡ None
      → P (authenticated m w ksi (m.root (next_root w) octets) caps) opens_none
  pub phone : (input : PhoneInput K) (came : Option S) → IsTurn input → PhoneGets E T input came → P (phone_turn m w input came) (phone_attempts m w input came)
  pub core_acts : (act : CoreAct) → E (Event.Core act) → P (core_turn m w (CoreActs act) None) (core_attempts m w (CoreActs act) None)
  pub core_nas : (pdu : List ℕ) (came : Option S)
      → T Address.CoreNas pdu came
      → P (core_turn m w (CoreNasPdu pdu) came) (core_attempts m w (CoreNasPdu pdu) came)
  pub core_record : (pdu : List ℕ) (came : Option S) → T Address.CoreS1 pdu came
      → P (core_turn m w (CoreRecord (content_in m came)) came) (core_attempts m w (CoreRecord (content_in m came)) came)
  pub station_acts : (id : ℕ) (act : StationAct) → E (Event.Station id act) → (s : Station K C) → Found w Q id s
      → P (turn_of m w id (StationActs act) None (Some s)) (attempts_at m (StationActs act) None (Some s))
  pub station_air : (id air : ℕ) (bearer : Bearer) (pdu : List ℕ) (came : Option S)
      → T (Address.StationAir id air bearer) pdu came
      → (s : Station K C)
      → Found w Q id s
      → P (turn_of m w id (AirPdu air bearer pdu) came (Some s)) (attempts_at m (AirPdu air bearer pdu) came (Some s))
  pub station_record : (on : Interface) (id : ℕ) (pdu : List ℕ) (came : Option S) → T (address_on on id) pdu came → (s : Station K C) → Found w Q id s
      → P (turn_of m w id (StationRecord on (content_in m came)) came (Some s)) (attempts_at m (StationRecord on (content_in m came)) came (Some s))
  pub none : (answer : Answer) → P (by_world m w answer) opens_none

-- the station of a number has it
pub found_id : {K C : Type 0} (id : ℕ) (ss : List (Station K C)) (s : Station K C) → station_of_id id ss ≡ Some s → s.id ≡ id
found_id id [] s e = absurd cc
found_id id (t ∷ ts) s e = by (t.id == id) refl e (found_id id ts s)
  where
    by : (b : Bool) → (t.id == id) ≡ b → cond b (Some t) (station_of_id id ts) ≡ Some s → (station_of_id id ts ≡ Some s → s.id ≡ id) → s.id ≡ id
    by true is f rest = let same : t ≡ s = cc in subst (λ x. x.id ≡ id) same (eqb-true t.id id is)
    by false is f rest = rest f

-- and what each station has
pub found_in : {K C : Type 0} (Q : Station K C → Type 0) (id : ℕ) (ss : List (Station K C)) (s : Station K C) → AllOf Q ss → station_of_id id ss ≡ Some s → Q s
found_in Q id ss s h e = subst (OfSome Q) e (all_find Q (λ t. t.id == id) ss h)

module _ {K C S : Type 0} {m : Machine K C S} {w : World K C S} {E : Event → Type 0} {T : Address → List ℕ → Option S → Type 0} {Q : Station K C → Type 0}
    {P : World K C S × Line K → Attempted K S → Type 0}
    (t : Turns m w E T Q P) (foreign : (to : Address) (pdu : List ℕ) → T to pdu None)
    (sent : AllOf (λ x. T (m.address x) (m.octets x) (Some x)) w.sent) (stations : AllOf Q w.stations) where
  auth_by : (ksi : ℕ) (octets : List ℕ) (caps : Caps) → E (Event.Auth ksi octets caps) → (o : Option ℕ) → known_root m w (m.root (next_root w) octets) ≡ o
      → P (auth_unless m w ksi (m.root (next_root w) octets) caps o) opens_none
  auth_by ksi octets caps is None new = t.auth ksi octets caps is new
  auth_by ksi octets caps is (Some row) new = t.none (RepeatedRoot row)

  station_by : (id : ℕ) (input : StationInput K C) (came : Option S)
      → ((s : Station K C)
      → Found w Q id s
      → P (turn_of m w id input came (Some s)) (attempts_at m input came (Some s)))
      → (o : Option (Station K C)) → station_of_id id w.stations ≡ o → P (turn_of m w id input came o) (attempts_at m input came o)
  station_by id input came turn None e = t.none NoUe
  station_by id input came turn (Some s) e = turn s (record { there = e; own = found_id id w.stations s e; holds = found_in Q id w.stations s stations e })

  arrives_by : (to : Address) (pdu : List ℕ) (came : Option S) → T to pdu came → P (arrives m w to pdu came) (arrival_attempts m w to pdu came)
  arrives_by Address.PhoneNas pdu came is = t.phone (PhoneNasPdu pdu) came tt is
  arrives_by (Address.Phone station air bearer) pdu came is = t.phone (PhoneAirPdu station air bearer pdu) came tt is
  arrives_by Address.CoreNas pdu came is = t.core_nas pdu came is
  arrives_by Address.CoreS1 pdu came is = t.core_record pdu came is
  arrives_by (Address.StationAir id air bearer) pdu came is =
      station_by id (AirPdu air bearer pdu) came (t.station_air id air bearer pdu came is) (station_of_id id w.stations) refl
  arrives_by (Address.StationS1 id) pdu came is =
      station_by id (StationRecord OnS1 (content_in m came)) came (t.station_record OnS1 id pdu came is) (station_of_id id w.stations) refl
  arrives_by (Address.StationX2 id) pdu came is =
      station_by id (StationRecord OnX2 (content_in m came)) came (t.station_record OnX2 id pdu came is) (station_of_id id w.stations) refl

  delivery_by : (o : Option S) → OfSome (λ x. T (m.address x) (m.octets x) (Some x)) o → P (delivery m w o) (delivery_attempts m w o)
  delivery_by None is = t.none NoRecord
  delivery_by (Some x) is = arrives_by (m.address x) (m.octets x) (Some x) is

  injection_by : (to : Address) (pdu : List ℕ) (o : Option ℕ) → P (injected m w to pdu o) (injection_attempts m w to pdu o)
  injection_by to pdu None = arrives_by to pdu None (foreign to pdu)
  injection_by to pdu (Some number) = t.none (Sent number)

  pub happens_by : (e : Event) → E e → P (happens m w e) (attempted m w e)
  happens_by (Event.Auth ksi octets caps) is = auth_by ksi octets caps is (known_root m w (m.root (next_root w) octets)) refl
  happens_by (Event.Phone act) is = t.phone (PhoneActs act) None tt is
  happens_by (Event.Station id act) is = station_by id (StationActs act) None (t.station_acts id act is) (station_of_id id w.stations) refl
  happens_by (Event.Core act) is = t.core_acts act is
  happens_by (Event.Deliver i) is = delivery_by (record_at i w.sent) (all_chosen (λ x. T (m.address x) (m.octets x) (Some x)) i w.sent sent)
  happens_by (Event.Inject to pdu) is = injection_by to pdu (position_from (is_sent m (class_of to) pdu) 0 w.sent)

-- four turns that ask nothing of what comes
module _ {K C S : Type 0} (m : Machine K C S) (w : World K C S) (P : World K C S × Line K → Attempted K S → Type 0)
    (auth : (ksi : ℕ) (octets : List ℕ) (caps : Caps) → P (authenticated m w ksi (m.root (next_root w) octets) caps) opens_none)
    (phone : (input : PhoneInput K) (came : Option S) → IsTurn input → P (phone_turn m w input came) (phone_attempts m w input came))
    (core : (input : CoreInput K C) (came : Option S) → P (core_turn m w input came) (core_attempts m w input came))
    (station : (id : ℕ) (input : StationInput K C) (came : Option S) (s : Station K C) → station_of_id id w.stations ≡ Some s → s.id ≡ id
    → P (turn_of m w id input came (Some s)) (attempts_at m input came (Some s)))
    (none : (answer : Answer) → P (by_world m w answer) opens_none) where
  each_turn : Turns m w (λ e. Unit {0}) (λ to pdu came. Unit {0}) (λ s. Unit {0}) P
  each_turn = record {
    auth = λ ksi octets caps is new. auth ksi octets caps;
    phone = λ input came turn is. phone input came turn;
    core_acts = λ act is. core (CoreActs act) None;
    core_nas = λ pdu came is. core (CoreNasPdu pdu) came;
    core_record = λ pdu came is. core (CoreRecord (content_in m came)) came;
    station_acts = λ id act is s f. station id (StationActs act) None s f.there f.own;
    station_air = λ id air bearer pdu came is s f. station id (AirPdu air bearer pdu) came s f.there f.own;
    station_record = λ on id pdu came is s f. station id (StationRecord on (content_in m came)) came s f.there f.own;
    none = none;
  }

  pub happens_each : (e : Event) → P (happens m w e) (attempted m w e)
  happens_each e = happens_by each_turn (λ to pdu. tt) (all_each (λ x. Unit {0}) (λ x. tt) w.sent) (all_each (λ s. Unit {0}) (λ s. tt) w.stations) e tt
