-- Openings are calm: a phone that waits for the security of its connection opens no ciphered record, since it never took
-- its KeNB before; and a connected one no unciphered record, since it took the one of its air address before.
use Rattle.std.proofs.Common.{◌≡◌, refl, sym, ap, ◌∙◌, subst, ℕ, ◌≤◌, nat_lt, Bool, true, false, List, length, Option, Some, None, Result, Ok, Err, arith}
use Rattle.std.specs.Prelude.{⊤, if◌then◌else◌}
use Rattle.rec_base.specs.declared.uses.Dir.TheVariants.{Up, Down}
use Rattle.lte_events.specs.{declared.events.Event.Event, Site.Site}
use Rattle.key_model.specs.{Term.Term, Reading.term_reading_by, Reading.Reading, Least.least}
use Rattle.lte_machine.specs.Bearers.{Srb, Signalling1, Which, OnSrb, which, srb_counts}
use Rattle.lte_machine.specs.Wire.{KeyUse, Ciphering, Outgoing, SealedRrc, srb_ciphering, address_of, srb_use}
use Rattle.lte_machine.specs.Opening.{Opening, Outcome, Opened, Differs, OpensSrb}
use Rattle.lte_machine.specs.{Reply.BySetup, Reply.Took, PhoneStep.plain_phone, CoreStep.core_front_of, World.Machine, World.content_in, StationStep.station_front_of, Distinct.Member}
use Rattle.lte_machine.specs.PhoneState.{Phone, PhoneInput, PhoneAuth, PhoneActs, PhoneNasPdu, PhoneAirPdu, Waiting, Link, Radio, Connecting, NasContext, Partial}
use Rattle.lte_machine.specs.StationState.{Station, Context, StationInput, StationActs, AirPdu, StationRecord}
use Rattle.lte_machine.specs.CoreState.{Core, CoreInput, CoreActs, CoreNasPdu, CoreRecord, CoreContext}
use Rattle.lte_machine.specs.Step.{Attempted, phone_attempts, core_attempts, attempts_at}
use Rattle.ho_prep.specs.Prep.{at_air, Prep}
use Rattle.lte_machine.proofs.Routing.{IsTurn, PhoneGets, Turns, happens_by}
use Rattle.lte_properties.proofs.Agreement.Came.{CameTo, none_came, sent_came}
use Rattle.lte_properties.specs.{ChainHolds.machine_by, Agreement.made_at}
use Rattle.lte_properties.proofs.Agreement.Openings.{IsHonest, IsCalm, outcome_of, Honest, Calm, WasSealed, CipheredAs}
use Rattle.lte_properties.proofs.{ChainNumbers.Lists.all_map, ChainNumbers.Lists.all_each, Agreement.Later.same_found}
use Rattle.lte_properties.proofs.Agreement.Ghost.{Ghost, RadioOk, SentOk, keys_of, LinkIs}
use Rattle.lte_properties.proofs.Agreement.PhoneWalk.{CameDown, by_test, one_key}
use Rattle.alg_choice.specs.declared.algs.Algs.{Algs}
use Rattle.nas_guard.specs.{Open.first_in, Keys.Keys}
use Rattle.pdcp_guard.specs.{declared.pdus.PdcpFault.PdcpFault, Counts.in_32_bits, Counts.count_limit, Srb.srb_sn, Srb.srb_count}
use Rattle.lte_machine.specs.PhoneChoice.{NasFront, NasSettled, AtCommand, AtMessage, AirFront, AirSettled, AtStart, AtSignalling, AtPacket, nas_by_header, header_for_phone}
use Rattle.lte_machine.specs.PhoneKeys.{nas_expects, air_expects, start_expects, signalling_expects, packet_expects, command_expects, message_expects}
use Rattle.lte_machine.specs.StationChoice as st
use Rattle.lte_machine.specs.StationKeys as stk
use Rattle.lte_machine.specs.CoreChoice.{CoreFront, Settled, FromNas, CoreNasFront, NasSettled as CoreSettled, OpensComplete, OpensProtected}
use Rattle.lte_machine.specs.CoreKeys.{core_expects, core_nas_expects, opens_by_procedure, opens_by_context}
use Rattle.lte_machine.proofs.PhoneAirFacts.{FrontHas, phone_air, front_has}
use Rattle.lte_machine.proofs.Worlds.{TheWorld}
use Rattle.lte_properties.proofs.Agreement.World.{Conns, ghost, WorldOk, OctetsTell}

-- a phone that waits for the security of its connection took its KeNB nowhere yet
abbrev pub NewKenb : List (Took Term ℕ) → Radio Term ℕ → Type 0
NewKenb took (Connecting w) = (x : Took Term ℕ) → Member x took → x.key ≡ w.kenb → ⊥
NewKenb took other = ⊤

-- the COUNT of a PDU is not below the next one
same_ok : (r : Result ℕ PdcpFault) (n count : ℕ) → r ≡ Ok n → r ≡ Ok count → n ≡ count
same_ok r n count e f = cc

no_fault : (r : Result ℕ PdcpFault) (fault : PdcpFault) (count : ℕ) → r ≡ Err fault → r ≡ Ok count → ⊥
no_fault r fault count e f = cc

ok_is : (b : Bool) (n count : ℕ) → (if b then Ok n else Err PdcpFault.CountSpent) ≡ Ok count → n ≡ count
ok_is true n count e = same_ok _ n count refl e
ok_is false n count e = absurd (no_fault _ PdcpFault.CountSpent count refl e)

pub count_low : (next : ℕ) (pdu : List ℕ) (count : ℕ) → srb_count next pdu ≡ Ok count → next ≤ count
unfolding srb_count in_32_bits least
count_low next pdu count e =
    by_test (λ r. r ≡ Ok count → next ≤ count) (nat_lt (length pdu) 5) _ _ (λ b f. absurd (no_fault _ PdcpFault.Short count refl f))
    (λ b. by_test (λ r. r ≡ Ok count → next ≤ count) (nat_lt (first_in pdu) 32) _ _
    (λ d f. low (ok_is (nat_lt (least next (srb_sn pdu) 32) count_limit) (least next (srb_sn pdu) 32) count f))
    (λ d f. absurd (no_fault _ (PdcpFault.BadHeader (first_in pdu)) count refl f))) e
  where
    low : least next (srb_sn pdu) 32 ≡ count → next ≤ count
    low f = omega arith

-- THE PHONE

module _ (same : Term → Term → Bool) (g : Ghost) (s : Phone Term ℕ) (station air : ℕ) (pdu : List ℕ) (on : Which)
    (came : Option (Outgoing Term ℕ)) (came_ok : CameDown g station air on pdu came) where
  -- a ciphered record of this address is under a key that the phone had taken
  pub plain_here : (w : Waiting Term) → NewKenb g.took (Connecting w) → (u : KeyUse Term) → (algs : Algs) → u.key ≡ (keys_of w.kenb algs).rrc_int
      → (text : List ℕ) (o : Option (Outgoing Term ℕ)) → CameDown g station air on pdu o → WasSealed u None text o → CipheredAs Down None o
  plain_here w never u algs key text (Some (SealedRrc Up st a srb i f sent)) h sealed = absurd h
  plain_here w never u algs key text (Some (SealedRrc Down st a srb i None sent)) h sealed = refl
  plain_here w never u algs key text (Some (SealedRrc Down st a srb i (Some f) sent)) h sealed =
      let d = h.down in
      let (x, taken, _, _, is) = d.ciphered.1 in
      let kenb : d.made.key ≡ w.kenb =
      sym (one_key w.kenb d.made.key _ _ _ _ (sym key ∙ ap (λ v. v.key) sealed.0 ∙ ap (λ v. v.key) d.integrity)) in
      absurd (never x taken (is ∙ kenb))
  plain_here w never u algs key text other h sealed = tt

  -- an unciphered record of this address is the first, which the phone took before
  pub ciphered_here : (l : Link Term ℕ) → LinkIs g l → l.station ≡ station → l.air ≡ air → (srb : Srb) (count : ℕ) → on ≡ OnSrb srb
      → (srb_counts srb l.bearers).receive ≤ count
      → (text : List ℕ) (o : Option (Outgoing Term ℕ)) → CameDown g station air on pdu o
      → WasSealed (srb_use Down l.keys.rrc_int srb count) (Some (srb_ciphering Down l.keys srb count)) text o
      → CipheredAs Down (Some (srb_ciphering Down l.keys srb count)) o
  ciphered_here l h is_s is_a srb count is_on low text (Some (SealedRrc Up st a sr i f sent)) k sealed = absurd k
  ciphered_here l h is_s is_a srb count is_on low text (Some (SealedRrc Down st a sr i (Some f) sent)) k sealed = refl
  ciphered_here l h is_s is_a srb count is_on low text (Some (SealedRrc Down st a sr i None sent)) k sealed =
      let d = k.down in
      let there : made_at g.made station air ≡ Some h.made = (λ j. made_at g.made (sym is_s j) (sym is_a j)) ∙ h.found in
      let from : h.made.from ≡ BySetup = ap (λ x. x.from) (same_found _ h.made d.made there d.found) ∙ d.ciphered.0 in
      let heard : 1 ≤ l.bearers.srb1.receive = h.heard from in
      let first : srb ≡ Signalling1 = one_srb srb sr (sym is_on ∙ k.is_on) ∙ d.ciphered.2 in
      let none : count ≡ 0 = ap (λ v. v.count) sealed.0 ∙ d.ciphered.1 in
      let low_first : l.bearers.srb1.receive ≤ count = subst (λ x. (srb_counts x l.bearers).receive ≤ count) first low in
      absurd (too_low heard low_first none)
    where
      one_srb : (a b : Srb) → OnSrb a ≡ OnSrb b → a ≡ b
      one_srb a b e = cc

      too_low : {a b : ℕ} → 1 ≤ a → a ≤ b → b ≡ 0 → ⊥
      too_low x y z = omega arith
  ciphered_here l h is_s is_a srb count is_on low text other k sealed = tt

  abbrev q : Reading Term ℕ
  q = term_reading_by same

  abbrev Calmly : Outcome → AirFront → Type 0
  Calmly outcome front = IsHonest (air_expects q front s) came outcome → IsCalm (air_expects q front s) came outcome

  front_calm : RadioOk g s.radio
      → NewKenb g.took s.radio
      → (front : AirFront)
      → FrontHas q s station air on pdu front
      → (outcome : Outcome)
      → Calmly outcome front
  front_calm ok never (AirSettled row) f outcome honest = tt
  front_calm ok never (AtStart count algs named st a) f (Differs wanted got) honest =
      subst (λ radio. IsCalm (start_expects q count algs radio) came (Differs wanted got)) (sym f.waits) tt
  front_calm ok never (AtStart count algs named st a) f (Opened text) honest =
      let w = f.waiting in
      subst (λ radio. IsCalm (start_expects q count algs radio) came (Opened text)) (sym f.waits)
      (plain_here w (subst (NewKenb g.took) f.waits never) (srb_use Down (keys_of w.kenb algs).rrc_int Signalling1 count) algs refl text came came_ok
      (subst (λ radio. IsHonest (start_expects q count algs radio) came (Opened text)) f.waits honest))
  front_calm ok never (AtSignalling srb count own) f (Differs wanted got) honest =
      subst (λ radio. IsCalm (signalling_expects {C = ℕ} srb count radio) came (Differs wanted got)) (sym f.here.connected) tt
  front_calm ok never (AtSignalling srb count own) f (Opened text) honest =
      let here = f.here in
      let l = here.link in
      subst (λ radio. IsCalm (signalling_expects {C = ℕ} srb count radio) came (Opened text)) (sym here.connected)
      (ciphered_here l (subst (RadioOk g) here.connected ok) here.station_is here.air_is srb count f.bearer
      (count_low (srb_counts srb l.bearers).receive pdu count f.counted) text came came_ok
      (subst (λ radio. IsHonest (signalling_expects {C = ℕ} srb count radio) came (Opened text)) here.connected honest))
  front_calm ok never (AtPacket drb count) f outcome honest =
      subst (λ radio. IsCalm (packet_expects {C = ℕ} drb count radio) came outcome) (sym f.here.connected) tt

  -- a PDU at an air address
  pub air_calm : RadioOk g s.radio → NewKenb g.took s.radio → (outcome : Outcome) → Calmly outcome (phone_air q s station air on pdu)
  air_calm ok never outcome = front_calm ok never (phone_air q s station air on pdu) (front_has q s station air on pdu) outcome

-- OTHER OPENINGS: nothing is asked of NAS messages, nor of what goes up

command_calm : (same : Term → Term → Bool) (count : ℕ) (algs : Algs) (o : Option (Partial Term)) (came : Option (Outgoing Term ℕ)) (outcome : Outcome)
    → IsCalm (command_expects (term_reading_by same) count algs o) came outcome
command_calm same count algs None came outcome = tt
command_calm same count algs (Some p) came outcome = tt

message_calm : (count header : ℕ) (o : Option (NasContext Term)) (came : Option (Outgoing Term ℕ)) (outcome : Outcome)
    → IsCalm (message_expects count header o) came outcome
message_calm count header None came outcome = tt
message_calm count header (Some c) came outcome = tt

nas_calm : (same : Term → Term → Bool) (front : NasFront) (s : Phone Term ℕ) (came : Option (Outgoing Term ℕ)) (outcome : Outcome)
    → IsCalm (nas_expects (term_reading_by same) front s) came outcome
nas_calm same (NasSettled row) s came outcome = tt
nas_calm same (AtCommand count algs caps) s came outcome = command_calm same count algs s.partial came outcome
nas_calm same (AtMessage count header) s came outcome = message_calm count header s.context came outcome

core_calm : (front : CoreFront) (s : Core Term ℕ) (came : Option (Outgoing Term ℕ)) (outcome : Outcome) → IsCalm (core_expects front s) came outcome
core_calm (Settled row) s came outcome = tt
core_calm (FromNas front) s came outcome = by_front front
  where
    by_procedure : (o : Option (Keys Term)) (count : ℕ) → IsCalm (opens_by_procedure o count) came outcome
    by_procedure None count = tt
    by_procedure (Some keys) count = tt

    by_context : (o : Option (CoreContext Term)) (header count : ℕ) → IsCalm (opens_by_context o header count) came outcome
    by_context None header count = tt
    by_context (Some c) header count = tt

    by_front : (front : CoreNasFront) → IsCalm (core_nas_expects front s) came outcome
    by_front (CoreSettled row) = tt
    by_front (OpensComplete count) = by_procedure s.procedure count
    by_front (OpensProtected header count) = by_context s.context header count

-- an opening on an SRB of what goes up
up_calm : (u : KeyUse Term) (e : Option (Ciphering Term)) (came : Option (Outgoing Term ℕ)) (outcome : Outcome)
    → u.dir ≡ Up
    → IsCalm (OpensSrb u e) came outcome
up_calm u e came (Opened text) up = subst (λ d. CipheredAs d e came) (sym up) tt
up_calm u e came (Differs wanted got) up = tt

station_calm : (front : st.StationFront) (s : Station Term ℕ) (came : Option (Outgoing Term ℕ)) (outcome : Outcome)
    → IsCalm (stk.station_expects front s) came outcome
station_calm (st.Settled row) s came outcome = tt
station_calm (st.FromAir (st.AirSettled row)) s came outcome = tt
station_calm (st.FromAir (st.OnStarting count)) s came outcome = by_context s.context
  where
    by_context : (o : Option (Context Term ℕ)) → IsCalm (stk.starting_expects count o) came outcome
    by_context None = tt
    by_context (Some c) = up_calm (srb_use Up c.keys.rrc_int Signalling1 count) None came outcome refl
station_calm (st.FromAir (st.OnSignalling srb count)) s came outcome = by_context s.context
  where
    by_context : (o : Option (Context Term ℕ)) → IsCalm (stk.signalling_expects srb count o) came outcome
    by_context None = tt
    by_context (Some c) = up_calm (srb_use Up c.keys.rrc_int srb count) (Some (srb_ciphering Up c.keys srb count)) came outcome refl
station_calm (st.FromAir (st.OnUser drb count)) s came outcome = by_context s.context
  where
    by_context : (o : Option (Context Term ℕ)) → IsCalm (stk.user_expects drb count o) came outcome
    by_context None = tt
    by_context (Some c) = tt
station_calm (st.FromAir (st.OnPrepared air by count)) s came outcome = by_prep (at_air air s.preps)
  where
    by_prep : (o : Option (Prep Term ℕ)) → IsCalm (stk.prepared_expects {C = ℕ} count o) came outcome
    by_prep None = tt
    by_prep (Some p) = up_calm (srb_use Up p.keys.rrc_int Signalling1 count) (Some (srb_ciphering Up p.keys Signalling1 count)) came outcome refl

-- AN EVENT

module _ (same : Term → Term → Bool) (root : ℕ → List ℕ → Term) (octets : Outgoing Term ℕ → List ℕ)
    (sender : Option (Outgoing Term ℕ) → Option (KeyUse Term))
    (opener : Opening Term → List ℕ → Option (Outgoing Term ℕ) → Outcome) (tell : OctetsTell octets)
    (cells : List Site) where
  abbrev m : Machine Term ℕ (Outgoing Term ℕ)
  m = machine_by same root octets sender opener

  abbrev IsHonestAt : Attempted Term (Outgoing Term ℕ) → Type 0
  IsHonestAt a = IsHonest a.opening a.came (outcome_of m a)

  abbrev IsCalmAt : Attempted Term (Outgoing Term ℕ) → Type 0
  IsCalmAt a = IsCalm a.opening a.came (outcome_of m a)

  core_calm_at : (w : TheWorld) (input : CoreInput Term ℕ) (came : Option (Outgoing Term ℕ)) → IsCalmAt (core_attempts m w input came)
  core_calm_at w input came = core_calm (core_front_of (term_reading_by same) w.core input) w.core came (outcome_of m (core_attempts m w input came))

  module _ (c : Conns) (w : TheWorld) (h : WorldOk cells c w) (never : NewKenb w.took w.phone.radio) where
    phone_calm_at : (input : PhoneInput Term) (came : Option (Outgoing Term ℕ)) → IsTurn input → PhoneGets (λ e. ⊤) (CameTo (ghost c w)) input came
        → IsHonestAt (phone_attempts m w input came) → IsCalmAt (phone_attempts m w input came)
    phone_calm_at (PhoneAuth ksi key) came turn k honest = absurd turn
    phone_calm_at (PhoneActs act) came turn k honest = tt
    phone_calm_at (PhoneNasPdu pdu) came turn k honest =
        let p = plain_phone (term_reading_by same) w.phone in
        nas_calm same (nas_by_header p.caps p.partial p.context pdu (header_for_phone pdu)) w.phone came
        (outcome_of m (phone_attempts m w (PhoneNasPdu pdu) came))
    phone_calm_at (PhoneAirPdu station air bearer pdu) came turn k honest =
        air_calm same (ghost c w) w.phone station air pdu (which bearer) came k h.radio never
        (outcome_of m (phone_attempts m w (PhoneAirPdu station air bearer pdu) came)) honest

    station_calm_at : (input : StationInput Term ℕ) (came : Option (Outgoing Term ℕ)) (s : Station Term ℕ) → IsCalmAt (attempts_at m input came (Some s))
    station_calm_at input came s = station_calm (station_front_of (term_reading_by same) s input) s came (outcome_of m (attempts_at m input came (Some s)))

    turns : Turns m w (λ e. ⊤) (CameTo (ghost c w)) (λ s. ⊤) (λ done a. IsHonestAt a → IsCalmAt a)
    turns = record {
      auth = λ ksi key caps is new honest. tt;
      phone = phone_calm_at;
      core_acts = λ act is honest. core_calm_at w (CoreActs act) None;
      core_nas = λ pdu came k honest. core_calm_at w (CoreNasPdu pdu) came;
      core_record = λ pdu came k honest. core_calm_at w (CoreRecord (content_in m came)) came;
      station_acts = λ id act is s f honest. station_calm_at (StationActs act) None s;
      station_air = λ id air bearer pdu came k s f honest. station_calm_at (AirPdu air bearer pdu) came s;
      station_record = λ on id pdu came k s f honest. station_calm_at (StationRecord on (content_in m came)) came s;
      none = λ answer honest. tt;
    }

  -- an honest event is calm, where the phone took the KeNB that it waits with nowhere yet
  pub calm_at : (c : Conns) (w : TheWorld) (e : Event) → WorldOk cells c w → NewKenb w.took w.phone.radio → Honest m w e → Calm m w e
  calm_at c w e h never honest =
      happens_by (turns c w h never) (none_came (ghost c w))
      (all_map (SentOk (ghost c w)) (λ x. CameTo (ghost c w) (address_of x) (octets x) (Some x))
      (sent_came octets tell (ghost c w)) w.sent h.sent)
      (all_each (λ s. ⊤) (λ s. tt) w.stations) e tt honest
