-- A run that has met no coincidence is that of the machine where a use on an SRB is one with its sender's as a term.
use Rattle.std.proofs.Common.{◌≡◌, refl, sym, ap, ◌∙◌, ℕ, ◌==◌, Bool, true, false, List, [], ◌∷◌, ◌++◌, map, Option, Some, None, inl, inr}
use Rattle.std.specs.{Prelude.◌⊎◌, Prelude.◌&&◌, List.position_from}
use Rattle.alg_choice.specs.{declared.algs.Algs.Algs, Algs.identity_of, declared.caps.Caps.Caps}
use Rattle.rec_base.specs.declared.uses.Dir.TheVariants.{Down}
use Rattle.lte_events.specs.{declared.addresses.Address.Address, declared.events.Event.Event, declared.setups.Setup.Setup, Class.class_of}
use Rattle.lte_events.specs.declared.answers.Answer.TheVariants.{MacFails, NotAddressed}
use Rattle.key_model.specs.{Derivation.Derivation, HandoverTable.NumberedKey, Reading.Reading, Reading.term_reading_by, Value.value_of, Value.same_value}
use Rattle.key_model.specs.Term.{Term, Root, same_term}
use Rattle.key_model.proofs.TermFacts.{same_term-Decides, same_value-Decides}
use Rattle.pdcp_guard.specs.AsKeys.{as_keys_of, as_derivations}
use Rattle.s1x2_rec.specs.Fields.{Fields}
use Rattle.lte_machine.specs.{Bearers.Signalling1, Bearers.Drb, Ciphers.Ciphers, Ciphers.octets_of, Machines.sender_of, Machines.machine_over}
use Rattle.lte_machine.specs.Wire.{KeyUse, Ciphering, Outgoing, SealedNas, SealedRrc, srb_use, address_of}
use Rattle.lte_machine.specs.Opening.{Opening, OpensSrb, Outcome, Opened, Differs, same_dir, same_uses, same_ciphering, judged, srb_sender, open_case, open_foreign, open_by_uses, srb_wanted, srb_got}
use Rattle.lte_machine.specs.Reply.{Reply, only, finished}
use Rattle.lte_machine.specs.Ladder.{RowOrigin, Of, ladder_of}
use Rattle.lte_machine.specs.PhoneState.{Partial, NasContext, Waiting, Radio, Idle, Connecting, Connected, Phone, PhoneInput, PhoneActs, PhoneNasPdu, PhoneAirPdu}
use Rattle.lte_machine.specs.PhoneChoice.{PlainPhone, AtCommand, AtMessage, AtStart, AtSignalling, AtPacket, PhoneFront, FromNas, FromAir, start_row, phone_row}
use Rattle.lte_machine.specs.PhoneKeys.{link_secured, command_expects, message_expects, start_expects, signalling_expects, packet_expects, phone_expects, air_does, phone_does}
use Rattle.lte_machine.specs.PhoneStep.{plain_phone, front_of, phone_root, phone_pdu_in}
use Rattle.lte_machine.specs.StationState.{Station, StationInput, StationActs, AirPdu, StationRecord, OnS1, OnX2}
use Rattle.lte_machine.specs.StationStep.{station_front_of, station_opens, station_pdu_in, station_step}
use Rattle.lte_machine.specs.CoreState.{CoreInput, CoreActs, CoreNasPdu, CoreRecord}
use Rattle.lte_machine.specs.CoreStep.{core_front_of, core_opens, core_pdu_in, core_step}
use Rattle.lte_machine.specs.World.{Machine, phone_after, core_after, station_after, phone_turn, core_turn, station_of_id, turn_of, station_turn, auth_unless, known_root, next_root, content_in, arrives, record_at, delivery, is_sent, injected, happens}
use Rattle.lte_machine.specs.Run.{Running, replay, first_world}
use Rattle.lte_machine.specs.Distinct.{keys_of, Member, OneValueOneTerm}
use Rattle.lte_machine.proofs.Mixed.{run, by_terms, mixed}
use Rattle.lte_machine.specs.Known.{RadioKnown, StationKnown, CipheringKnown, SentKnown, IsReported}
use Rattle.lte_machine.proofs.{History.one_value_one_term, StillRun.goes_on, StillRun.still_one, Worlds.TheWorld}
use Rattle.lte_machine.proofs.KnownLists.{OfSome, all_find, all_chosen, as_chain}
use Rattle.lte_machine.proofs.KnownLadder.{still_in, new_in, laddered_chain}
use Rattle.lte_machine.proofs.KnownWorld.{Grounds, happens_grounds, first_grounds}
use Rattle.lte_machine.proofs.LadderRun.{OpeningKnown, core_opens_known, station_opens_known, link_opens_known}

-- TWO KEYS BY VALUE AND BY TERM

-- the two tests say the same of them
abbrev Agree : Term → Term → Type 0
Agree k l = same_value k l ≡ same_term k l

-- or they have one value and are two terms
abbrev Apart : Term → Term → Type 0
Apart k l = (same_value k l ≡ true) × (same_term k l ≡ false)

agree_or_apart : (k l : Term) → Agree k l ⊎ Apart k l
agree_or_apart k l = by_test (same_value k l) (same_term k l) refl refl
  where
    by_test : (a b : Bool) → same_value k l ≡ a → same_term k l ≡ b → Agree k l ⊎ Apart k l
    by_test true true e f = inl (e ∙ sym f)
    by_test true false e f = inr (e, f)
    by_test false false e f = inl (e ∙ sym f)
    by_test false true e f =
        let is : k ≡ l = (same_term-Decides k l).0 f in
        let bad : false ≡ true = sym e ∙ (same_value-Decides k l).1 (ap value_of is) in
        cc

not_apart : (ts : List Term) → OneValueOneTerm ts → (k l : Term) → Member k ts → Member l ts → Apart k l → ⊥
not_apart ts own k l m n a =
    let is : k ≡ l = own k l m n ((same_value-Decides k l).0 a.0) in
    let bad : false ≡ true = sym a.1 ∙ (same_term-Decides k l).1 is in
    cc

-- where each of the keys has a value of its own the tests agree
agree_here : (ts : List Term) → OneValueOneTerm ts → (k l : Term) → Member k ts → Member l ts → Agree k l
agree_here ts own k l m n = by_case (agree_or_apart k l)
  where
    by_case : Agree k l ⊎ Apart k l → Agree k l
    by_case (inl e) = e
    by_case (inr a) = absurd (not_apart ts own k l m n a)

-- USES AND SENDERS

use_agrees : (u v : KeyUse Term) → Agree u.key v.key → same_uses same_value u v ≡ same_uses same_term u v
use_agrees u v e = ap (λ b. b && (u.count == v.count) && (u.bearer == v.bearer) && same_dir u.dir v.dir) e

-- the ciphering expected, and that of a sender
abbrev CipheringAgrees : Option (Ciphering Term) → Option (Ciphering Term) → Type 0
CipheringAgrees (Some e) (Some f) = Agree e.under.key f.under.key
CipheringAgrees e f = Unit {0}

ciphering_agrees : (e f : Option (Ciphering Term)) → CipheringAgrees e f → same_ciphering same_value e f ≡ same_ciphering same_term e f
ciphering_agrees (Some e) (Some f) h = ap (λ b. b && (identity_of e.eea == identity_of f.eea)) (use_agrees e.under f.under h)
ciphering_agrees other rest h = refl

-- of a record that came under protection
abbrev SenderAgrees : KeyUse Term → Option (Ciphering Term) → Option (Outgoing Term ℕ) → Type 0
SenderAgrees u e (Some (SealedRrc dir station air srb i f text)) = Agree u.key i.key × CipheringAgrees e f
SenderAgrees u e (Some (SealedNas dir header i f text)) = Agree u.key i.key
SenderAgrees u e other = Unit {0}

sender_agrees : (u : KeyUse Term) (e : Option (Ciphering Term)) (came : Option (Outgoing Term ℕ))
    → SenderAgrees u e came
    → srb_sender same_value u e came ≡ srb_sender same_term u e came
sender_agrees u e (Some (SealedNas dir header i f text)) h = λ j. judged (use_agrees u i h j) false text
sender_agrees u e (Some (SealedRrc dir station air srb i f text)) h = λ j. judged (use_agrees u i h.0 j) (ciphering_agrees e f h.1 j) text
sender_agrees u e other h = refl

module _ (ts : List Term) (own : OneValueOneTerm ts) where
  abbrev InTs : Term → Type 0
  InTs t = Member t ts

  ciphering_in : (e f : Option (Ciphering Term)) → CipheringKnown InTs e → CipheringKnown InTs f → CipheringAgrees e f
  ciphering_in (Some e) (Some f) h k = agree_here ts own e.under.key f.under.key h k
  ciphering_in other rest h k = tt

  sender_in : (u : KeyUse Term) (e : Option (Ciphering Term)) (came : Option (Outgoing Term ℕ))
      → InTs u.key
      → CipheringKnown InTs e
      → OfSome (SentKnown InTs) came
      → SenderAgrees u e came
  sender_in u e (Some (SealedNas dir header i f text)) h k c = agree_here ts own u.key i.key h c.0
  sender_in u e (Some (SealedRrc dir station air srb i f text)) h k c = (agree_here ts own u.key i.key h c.0, ciphering_in e f k c.1)
  sender_in u e other h k c = tt

  -- an opening by such keys of what came under such keys
  opens_same : (c : Ciphers Term) (o : Opening Term) (pdu : List ℕ) (came : Option (Outgoing Term ℕ)) → OpeningKnown InTs o → OfSome (SentKnown InTs) came →
      open_by_uses same_value c o pdu came ≡ by_terms c o pdu came
  opens_same c (OpensSrb u e) pdu came h k = ap (open_case c (OpensSrb u e) pdu) (sender_agrees u e came (sender_in u e came h.0 h.1 k))
  opens_same c other pdu came h k = refl

-- NAS MESSAGES OPEN BY VALUES IN BOTH

command_same : (c : Ciphers Term) (count : ℕ) (algs : Algs) (o : Option (Partial Term)) (pdu : List ℕ) (came : Option (Outgoing Term ℕ)) →
    open_by_uses same_value c (command_expects (term_reading_by same_value) count algs o) pdu came
    ≡ by_terms c (command_expects (term_reading_by same_value) count algs o) pdu came
command_same c count algs None pdu came = refl
command_same c count algs (Some p) pdu came = refl

message_same : (c : Ciphers Term) (count header : ℕ) (o : Option (NasContext Term)) (pdu : List ℕ) (came : Option (Outgoing Term ℕ)) →
    open_by_uses same_value c (message_expects count header o) pdu came ≡ by_terms c (message_expects count header o) pdu came
message_same c count header None pdu came = refl
message_same c count header (Some x) pdu came = refl

packet_same : (c : Ciphers Term) (drb : Drb) (count : ℕ) (radio : Radio Term ℕ) (pdu : List ℕ) (came : Option (Outgoing Term ℕ)) →
    open_by_uses same_value c (packet_expects drb count radio) pdu came ≡ by_terms c (packet_expects drb count radio) pdu came
packet_same c drb count (Connected l) pdu came = refl
packet_same c drb count other pdu came = refl

-- ONE EVENT

module _ (c : Ciphers Term) (between : Fields → Option (NumberedKey Term ℕ) → List ℕ) where
  abbrev m : Machine Term ℕ (Outgoing Term ℕ)
  m = machine_over same_value c between

  abbrev r : Reading Term ℕ
  r = term_reading_by same_value

  abbrev Calm : TheWorld → Type 0
  Calm w = (ladder_of same_value w.history).clash ≡ None

  -- both machines' outcomes of an opening
  abbrev by_value : Opening Term → List ℕ → Option (Outgoing Term ℕ) → Outcome
  by_value o pdu came = open_by_uses same_value c o pdu came

  -- by the first one's sender a record is a foreign one where its key is another
  foreign_differs : (u : KeyUse Term) (e : Option (Ciphering Term)) (pdu : List ℕ)
      → open_foreign c (OpensSrb u e) pdu ≡ Differs (srb_wanted c u e pdu) (srb_got c e pdu)
  unfolding open_foreign
  foreign_differs u e pdu = refl

  foreign : (u i : KeyUse Term) (e : Option (Ciphering Term)) (pdu : List ℕ) (b : Bool) (text : List ℕ) → same_term u.key i.key ≡ false →
      open_case c (OpensSrb u e) pdu (judged (same_uses same_term u i) b text) ≡ Differs (srb_wanted c u e pdu) (srb_got c e pdu)
  foreign u i e pdu b text n =
      ap (λ x. open_case c (OpensSrb u e) pdu
      (judged (x && (u.count == i.count) && (u.bearer == i.bearer) && same_dir u.dir i.dir) b text))
      n
      ∙ foreign_differs u e pdu

  module _ (w : TheWorld) (g : Grounds w) (calm : Calm w) where
    own : OneValueOneTerm (keys_of w.history)
    own = one_value_one_term w.history g.ladder calm

    abbrev CameKnown : Option (Outgoing Term ℕ) → Type 0
    CameKnown came = OfSome (SentKnown (IsReported w)) came

    -- the world after a step of the phone
    abbrev phone_world : Phone Term ℕ × Reply Term ℕ → TheWorld
    phone_world d = (phone_after m w (d.0, finished None None d.1)).0

    -- THE RECORD THAT STARTS A CONNECTION'S SECURITY

    abbrev start_does : Radio Term ℕ → Bool → ℕ → Algs → ℕ → ℕ → Outcome → Phone Term ℕ × Reply Term ℕ
    start_does radio named count algs station air (Differs wanted got) = (w.phone, only (MacFails count wanted got))
    start_does radio true count algs station air (Opened text) = link_secured r station air algs count w.phone radio
    start_does radio false count algs station air (Opened text) = (w.phone, only NotAddressed)

    start_is : (named : Bool) (count : ℕ) (algs : Algs) (station air : ℕ) (o : Outcome)
        → start_does w.phone.radio named count algs station air o
        ≡ air_does r (start_row count algs named station air o) w.phone
    start_is named count algs station air (Differs wanted got) = refl
    start_is true count algs station air (Opened text) = refl
    start_is false count algs station air (Opened text) = refl

    abbrev StartSame : Radio Term ℕ → Bool → ℕ → Algs → ℕ → ℕ → Outcome → Outcome → Type 0
    StartSame radio named count algs station air o p =
        Calm (phone_world (start_does radio named count algs station air o)) →
        phone_world (start_does radio named count algs station air o) ≡ phone_world (start_does radio named count algs station air p)

    module _ (x : Waiting Term) (h : RadioKnown (IsReported w) (Connecting x)) (count : ℕ) (algs : Algs) (station air : ℕ) where
      -- the key under which the record's MAC is checked
      abbrev int : Term
      int = (as_keys_of r x.kenb algs).rrc_int

      -- a link that is secured reports its keys, so that no row has the value of one of them and is another term
      secured_apart : (l : Term) → IsReported w l → Apart int l → Calm (phone_world (link_secured r station air algs count w.phone (Connecting x))) → ⊥
      secured_apart l k a later =
          let ds : List (Derivation Term) = as_derivations r x.kenb algs in
          let after : List (RowOrigin Term) = w.history ++ map Of ds in
          let ladder = laddered_chain w.history ds g.ladder (as_chain same_value (IsReported w) x.kenb algs h.1) in
          not_apart (keys_of after) (one_value_one_term after ladder later) int l
          (new_in w.history (map Of ds) int (inr (inl refl))) (still_in w.history (map Of ds) l k) a

      -- where the two machines take a record for different ones, both refuse it
      start_by : (l : Term) → IsReported w l → (o : Outcome) (named : Bool) (p : Outcome) (wanted got : List ℕ) → (Agree int l → o ≡ p) →
          (same_term int l ≡ false → p ≡ Differs wanted got) → Agree int l ⊎ Apart int l → StartSame (Connecting x) named count algs station air o p
      start_by l k o named p wanted got alike other (inl e) later =
          ap (λ y. phone_world (start_does (Connecting x) named count algs station air y)) (alike e)
      start_by l k (Opened text) true p wanted got alike other (inr a) later = absurd (secured_apart l k a later)
      start_by l k o named p wanted got alike other (inr a) later =
          ap (λ y. phone_world (start_does (Connecting x) named count algs station air y)) (sym (other a.1))

      start_came : (named : Bool) (pdu : List ℕ) (came : Option (Outgoing Term ℕ)) → CameKnown came →
          StartSame (Connecting x) named count algs station air
          (by_value (start_expects r count algs (Connecting x)) pdu came)
          (by_terms c (start_expects r count algs (Connecting x)) pdu came)
      start_came named pdu (Some (SealedNas dir header i f text)) k later =
          let u : KeyUse Term = srb_use Down int Signalling1 count in
          start_by i.key k.0 _ named _ (srb_wanted c u None pdu) (srb_got c None pdu)
          (λ e. ap (open_case c (OpensSrb u None) pdu) (sender_agrees u None (Some (SealedNas dir header i f text)) e))
          (λ n. foreign u i None pdu false text n)
          (agree_or_apart u.key i.key) later
      start_came named pdu (Some (SealedRrc dir st a srb i f text)) k later =
          let u : KeyUse Term = srb_use Down int Signalling1 count in
          start_by i.key k.0 _ named _ (srb_wanted c u None pdu) (srb_got c None pdu)
          (λ e. ap (open_case c (OpensSrb u None) pdu) (sender_agrees u None (Some (SealedRrc dir st a srb i f text)) (e, none_agrees f)))
          (λ n. foreign u i None pdu (same_ciphering same_term None f) text n)
          (agree_or_apart u.key i.key) later
        where
          none_agrees : (f : Option (Ciphering Term)) → CipheringAgrees None f
          none_agrees None = tt
          none_agrees (Some f) = tt
      start_came named pdu other k later = refl

    start_same : (radio : Radio Term ℕ) (named : Bool) (count : ℕ) (algs : Algs) (station air : ℕ) (pdu : List ℕ) (came : Option (Outgoing Term ℕ)) →
        RadioKnown (IsReported w) radio → CameKnown came →
        StartSame radio named count algs station air (by_value (start_expects r count algs radio) pdu came)
        (by_terms c (start_expects r count algs radio) pdu came)
    start_same Idle named count algs station air pdu came h k later = refl
    start_same (Connecting x) named count algs station air pdu came h k later = start_came x h count algs station air named pdu came k later
    start_same (Connected l) named count algs station air pdu came h k later = refl

    -- A STEP OF THE PHONE

    abbrev phone_done : PlainPhone → PhoneFront → Option Term → Outcome → Phone Term ℕ × Reply Term ℕ
    phone_done plain front root outcome = phone_does r (phone_row plain front outcome) root w.phone

    abbrev PhoneSame : PlainPhone → Option Term → PhoneFront → List ℕ → Option (Outgoing Term ℕ) → Type 0
    PhoneSame plain root front pdu came =
        Calm (phone_world (phone_done plain front root (by_value (phone_expects r front w.phone) pdu came))) →
        phone_world (phone_done plain front root (by_value (phone_expects r front w.phone) pdu came))
        ≡ phone_world (phone_done plain front root (by_terms c (phone_expects r front w.phone) pdu came))

    phone_by : (plain : PlainPhone) (root : Option Term) (front : PhoneFront) (o p : Outcome)
        → o ≡ p
        → phone_world (phone_done plain front root o) ≡ phone_world (phone_done plain front root p)
    phone_by plain root front o p e = ap (λ x. phone_world (phone_done plain front root x)) e

    phone_same : (plain : PlainPhone) (root : Option Term) (front : PhoneFront) (pdu : List ℕ)
        (came : Option (Outgoing Term ℕ))
        → CameKnown came
        → PhoneSame plain root front pdu came
    phone_same plain root (FromNas (AtCommand count algs caps)) pdu came k later =
        phone_by plain root (FromNas (AtCommand count algs caps)) _ _ (command_same c count algs w.phone.partial pdu came)
    phone_same plain root (FromNas (AtMessage count header)) pdu came k later =
        phone_by plain root (FromNas (AtMessage count header)) _ _ (message_same c count header w.phone.context pdu came)
    phone_same plain root (FromAir (AtPacket drb count)) pdu came k later =
        phone_by plain root (FromAir (AtPacket drb count)) _ _ (packet_same c drb count w.phone.radio pdu came)
    phone_same plain root (FromAir (AtSignalling srb count ncc)) pdu came k later =
        phone_by plain root (FromAir (AtSignalling srb count ncc)) _ _
        (opens_same (keys_of w.history) own c (signalling_expects srb count w.phone.radio) pdu came
        (link_opens_known (IsReported w) srb count w.phone.radio g.keys.phone.2) k)
    phone_same plain root (FromAir (AtStart count algs named station air)) pdu came k later =
        let o : Outcome = by_value (start_expects r count algs w.phone.radio) pdu came in
        let p : Outcome = by_terms c (start_expects r count algs w.phone.radio) pdu came in
        let is = start_is named count algs station air in
        sym (ap phone_world (is o))
        ∙ start_same w.phone.radio named count algs station air pdu came g.keys.phone.2 k
        (ap (λ d. (ladder_of same_value (phone_world d).history).clash) (is o) ∙ later)
        ∙ ap phone_world (is p)
    phone_same plain root other pdu came k later = refl

    phone_turn_same : (input : PhoneInput Term) (came : Option (Outgoing Term ℕ)) → CameKnown came → Calm (phone_turn m w input came).0 →
        (phone_turn m w input came).0 ≡ (phone_turn (mixed c between) w input came).0
    phone_turn_same input came k later = phone_same (plain_phone r w.phone) (phone_root input) (front_of r w.phone input) (phone_pdu_in input) came k later

    -- A STEP OF THE CORE, AND OF A STATION

    core_turn_same : (input : CoreInput Term ℕ) (came : Option (Outgoing Term ℕ))
        → CameKnown came
        → (core_turn m w input came).0 ≡ (core_turn (mixed c between) w input came).0
    core_turn_same input came k =
        ap (λ x. (core_after m w (core_step r w.core input x)).0)
        (opens_same (keys_of w.history) own c (core_opens r w.core input) (core_pdu_in input) came
        (core_opens_known (IsReported w) (core_front_of r w.core input) w.core g.keys.core) k)

    turn_of_same : (id : ℕ) (input : StationInput Term ℕ) (came : Option (Outgoing Term ℕ))
        (o : Option (Station Term ℕ)) → OfSome (StationKnown (IsReported w)) o → CameKnown came →
        (turn_of m w id input came o).0 ≡ (turn_of (mixed c between) w id input came o).0
    turn_of_same id input came None h k = refl
    turn_of_same id input came (Some s) h k =
        ap (λ x. (station_after m w id (station_step r s input x)).0)
        (opens_same (keys_of w.history) own c (station_opens r s input) (station_pdu_in input) came
        (station_opens_known (IsReported w) (station_front_of r s input) s h) k)

    station_turn_same : (id : ℕ) (input : StationInput Term ℕ) (came : Option (Outgoing Term ℕ))
        → CameKnown came
        → (station_turn m w id input came).0 ≡ (station_turn (mixed c between) w id input came).0
    station_turn_same id input came k =
        turn_of_same id input came (station_of_id id w.stations) (all_find (StationKnown (IsReported w)) (λ s. s.id == id) w.stations g.keys.stations) k

    -- AN EVENT

    arrives_same : (to : Address) (pdu : List ℕ) (came : Option (Outgoing Term ℕ)) → CameKnown came → Calm (arrives m w to pdu came).0 →
        (arrives m w to pdu came).0 ≡ (arrives (mixed c between) w to pdu came).0
    arrives_same Address.PhoneNas pdu came k later = phone_turn_same (PhoneNasPdu pdu) came k later
    arrives_same (Address.Phone station air bearer) pdu came k later = phone_turn_same (PhoneAirPdu station air bearer pdu) came k later
    arrives_same Address.CoreNas pdu came k later = core_turn_same (CoreNasPdu pdu) came k
    arrives_same Address.CoreS1 pdu came k later = core_turn_same (CoreRecord (content_in m came)) came k
    arrives_same (Address.StationAir station air bearer) pdu came k later = station_turn_same station (AirPdu air bearer pdu) came k
    arrives_same (Address.StationS1 station) pdu came k later = station_turn_same station (StationRecord OnS1 (content_in m came)) came k
    arrives_same (Address.StationX2 station) pdu came k later = station_turn_same station (StationRecord OnX2 (content_in m came)) came k

    auth_same : (ksi : ℕ) (key : Term) (caps : Caps) (o : Option ℕ) → (auth_unless m w ksi key caps o).0 ≡ (auth_unless (mixed c between) w ksi key caps o).0
    auth_same ksi key caps None = refl
    auth_same ksi key caps (Some row) = refl

    delivered_same : (o : Option (Outgoing Term ℕ)) → CameKnown o → Calm (delivery m w o).0 → (delivery m w o).0 ≡ (delivery (mixed c between) w o).0
    delivered_same None k later = refl
    delivered_same (Some x) k later = arrives_same (address_of x) (octets_of c between x) (Some x) k later

    injected_same : (to : Address) (pdu : List ℕ) (o : Option ℕ)
        → Calm (injected m w to pdu o).0
        → (injected m w to pdu o).0 ≡ (injected (mixed c between) w to pdu o).0
    injected_same to pdu None later = arrives_same to pdu None tt later
    injected_same to pdu (Some number) later = refl

    -- an event after which the run goes on
    pub happens_same : (e : Event) → Calm (happens m w e).0 → (happens m w e).0 ≡ (happens (mixed c between) w e).0
    happens_same (Event.Auth ksi key caps) later =
        let k : Term = Root (next_root w) key in auth_same ksi k caps (known_root m w k)
    happens_same (Event.Phone act) later = phone_turn_same (PhoneActs act) None tt later
    happens_same (Event.Station id act) later = station_turn_same id (StationActs act) None tt
    happens_same (Event.Core act) later = core_turn_same (CoreActs act) None tt
    happens_same (Event.Deliver i) later = delivered_same (record_at i w.sent) (all_chosen (SentKnown (IsReported w)) i w.sent g.keys.sent) later
    happens_same (Event.Inject to pdu) later = injected_same to pdu (position_from (is_sent m (class_of to) pdu) 0 w.sent) later

  -- EVERY RUN

  -- from any world whose keys were all reported
  pub goes_by_terms : (by_octets : Opening Term → List ℕ → Outcome) (w : TheWorld) (es : List Event) (u : TheWorld) → Grounds w → Calm w →
      replay by_octets m (Running w) es ≡ Running u → u ≡ run (mixed c between) w es
  goes_by_terms by_octets w [] u g calm is = sym (still_one is)
  goes_by_terms by_octets w (e ∷ es) u g calm is =
      let on = goes_on by_octets m w e es u is in
      goes_by_terms by_octets (happens m w e).0 es u (happens_grounds Root (octets_of c between) sender_of (open_by_uses same_value c) w e g) on.0 on.1
      ∙ ap (λ v. run (mixed c between) v es) (happens_same w g calm e on.0)

  -- the written machine's run that has met no coincidence
  pub run_by_terms : (by_octets : Opening Term → List ℕ → Outcome) (setup : Setup) (es : List Event) (u : TheWorld) →
      replay by_octets m (Running (first_world setup)) es ≡ Running u → u ≡ run (mixed c between) (first_world setup) es
  run_by_terms by_octets setup es u is = goes_by_terms by_octets (first_world setup) es u (first_grounds setup) refl is
