-- What a refused step leaves, what it gives out, and which refusals send a SECURITY MODE REJECT.
use Rattle.std.proofs.Common.{◌≡◌, ℕ, Bool, true, false, cond, List, Option, None, Some, Result, Ok, Err, refl, ap, sym, ◌∙◌}
use Rattle.std.specs.Prelude.{◌≢◌, ◌==◌, ◌&&◌, not, nat_le, option_map, is_some}
use Rattle.alg_choice.specs.{declared.algs.Algs.Algs, declared.caps.Caps.Caps, Choice.are_supported}
use Rattle.annex_a_keys.specs.Cell.{Place}
use Rattle.rec_base.specs.declared.faults.RecFault.{RecFault}
use Rattle.lte_events.specs.{declared.answers.Answer.Answer, declared.inputs.PhoneIn.PhoneIn, declared.replies.ActorOut.ActorOut}
use Rattle.lte_events.specs.declared.answers.Answer.TheVariants.{Done, WrongKsi, CapsMismatch, AlgUnsupported, MacFails}
use Rattle.lte_events.specs.declared.inputs.PhoneIn.TheVariants.{Auth, Act, Nas, Air}
use Rattle.key_model.specs.Reading.{octet_reading}
use Rattle.nas_count.specs.declared.sending.CountSpent as spent
use Rattle.nas_count.specs.Estimate.{nas_count_limit, estimate_of}
use Rattle.nas_guard.specs.Open.{sn_in, sent_in}
use Rattle.nas_rec.specs.{declared.records.NasRecord.NasRecord, Reading.read_nas}
use Rattle.nas_rec.specs.declared.records.NasRecord as nas
use Rattle.lte_machine.specs.Bearers.{Srb, Drb, Which, which}
use Rattle.lte_machine.specs.Calls.{phone_call, phone_input, actor_out, record_out, tuple_out}
use Rattle.lte_machine.specs.{Ciphers.annex_b, Reply.unseen}
use Rattle.lte_machine.specs.Opening.{Outcome, Opened, Differs, open_octets}
use Rattle.lte_machine.specs.PhoneChoice.{PlainPhone, NasFront, NasSettled, header_for_phone, rejected, rejected_unspecified, capabilities_mismatch, command_at, command_read, command_front, command_row, context_row, same_caps, message_at, message_front, message_read, message_row, nas_by_header, nas_row, act_row, air_front, air_row}
use Rattle.lte_machine.specs.PhoneKeys.{PhoneDone, nas_does, air_does, act_does, before_of, changed_unless, handed_over, key_changed, link_secured, rrc_opened, packet_opened, service_requested, complete_resent, packet_sent, rrc_sent, nas_sent, nas_skipped, bearer_skipped, context_taken, context_taken_connected, nas_opened}
use Rattle.lte_machine.specs.PhoneRows.{NasRow, NasRefused, RejectedUnder, AirRow, AirRefused, LinkSecured, HandedOver, KeyChanged, RrcOpened, PacketOpened, ActRow, ActRefused, ServiceRequested, CompleteResent, WentIdle, PacketSent, RrcSent, NasSent, NasSkipped, BearerSkipped}
use Rattle.lte_machine.specs.PhoneState.{Partial, NasContext, Radio, Idle, Connecting, Connected, Phone, map_context, map_radio}
use Rattle.lte_machine.specs.PhoneStep as steps
use Rattle.lte_machine.specs.PhoneStep.{phone_opens, phone_pdu_in, phone_step, plain_phone}
use Rattle.lte_machine.specs.Wire.{Outgoing, SealedNas, PlainNas, SealedRrc, UserPacket, Between}
use Rattle.lte_machine.proofs.PhoneRefused.{phone_refused, phone_refused_reply, phone_refused_sends}
use Rattle.ue_context.specs.Refusing.{after_refusal, refusal_of, is_third, is_told, may_tell, sends_reject}

abbrev State : Type 0
State = Phone (List ℕ) ℕ

-- what is sent at a refusal is a SECURITY MODE REJECT, and has a use of the integrity key only under the context in use
same_left : (sent : Option (Outgoing (List ℕ) ℕ)) (s : State) → steps.IsReject sent → steps.after_refusal sent s ≡ after_refusal (tuple_out sent) s
same_left None s h = refl
same_left (Some (PlainNas octets)) s h = refl
same_left (Some (SealedNas dir header u e text)) s h = refl
same_left (Some (SealedRrc dir station air srb u e text)) s h = absurd h
same_left (Some (UserPacket dir station air drb e text)) s h = absurd h
same_left (Some (Between to fields key)) s h = absurd h

-- a call that was refused
module _ (s t : State) (i : PhoneIn) (out : ActorOut) (e : (t, out) ≡ phone_call s i) (refused : out.answer ≢ Done) where
  opening_out : Outcome
  opening_out = open_octets annex_b (phone_opens octet_reading s (phone_input i)) (phone_pdu_in (phone_input i))

  in_machine : (phone_step octet_reading s (phone_input i) opening_out).1.answer ≢ Done
  unfolding opening_out
  in_machine done = refused (ap (λ d. d.1.answer) e ∙ done)

  pub leaves : t ≡ after_refusal out.tuple s
  unfolding opening_out
  leaves =
      let done = phone_step octet_reading s (phone_input i) opening_out in
      ap (λ d. d.0) e
      ∙ phone_refused octet_reading s (phone_input i) opening_out in_machine
      ∙ same_left done.1.sent s (phone_refused_sends octet_reading s (phone_input i) opening_out in_machine)
      ∙ ap (λ d. after_refusal d.1.tuple s) (sym e)

  pub gives : out ≡ refusal_of out
  unfolding opening_out
  gives =
      ap (λ d. d.1) e
      ∙ ap actor_out (phone_refused_reply octet_reading s (phone_input i) opening_out in_machine)
      ∙ ap (λ d. refusal_of d.1) (sym e)

-- rows of PDUs and acts send nothing where they refuse

abbrev Quiet : PhoneDone (List ℕ) ℕ → Type 0
Quiet done = done.1.answer ≢ Done → done.1.sent ≡ None

secured_quiet : (station air : ℕ) (algs : Algs) (count : ℕ) (s : State) (radio : Radio (List ℕ) ℕ)
    → Quiet (link_secured octet_reading station air algs count s radio)
secured_quiet station air algs count s Idle refused = absurd (refused refl)
secured_quiet station air algs count s (Connecting w) refused = absurd (refused refl)
secured_quiet station air algs count s (Connected l) refused = absurd (refused refl)

handed_quiet : (cell : Place) (steps : ℕ) (algs : Algs) (station air : ℕ) (s : State) (radio : Radio (List ℕ) ℕ)
    → Quiet (handed_over octet_reading cell steps algs station air s radio)
handed_quiet cell steps algs station air s Idle refused = absurd (refused refl)
handed_quiet cell steps algs station air s (Connecting w) refused = absurd (refused refl)
handed_quiet cell steps algs station air s (Connected l) refused = absurd (refused refl)

changed_quiet : (cell : Place) (algs : Algs) (station air : ℕ) (s : State) (radio : Radio (List ℕ) ℕ)
    (o : Option (NasContext (List ℕ)))
    → Quiet (key_changed octet_reading cell algs station air s radio o)
changed_quiet cell algs station air s Idle o refused = absurd (refused refl)
changed_quiet cell algs station air s (Connecting w) o refused = absurd (refused refl)
changed_quiet cell algs station air s (Connected l) None refused = absurd (refused refl)
changed_quiet cell algs station air s (Connected l) (Some c) refused = by_same (octet_reading.same c.root l.chain.root) refused
  where
    by_same : (same : Bool) → Quiet (changed_unless octet_reading cell algs station air s (before_of l) c.root same)
    by_same true refused = refl
    by_same false refused = absurd (refused refl)

rrc_quiet : (srb : Srb) (count : ℕ) (text : List ℕ) (s : State) (radio : Radio (List ℕ) ℕ) → Quiet (rrc_opened srb count text s radio)
rrc_quiet srb count text s Idle refused = absurd (refused refl)
rrc_quiet srb count text s (Connecting w) refused = absurd (refused refl)
rrc_quiet srb count text s (Connected l) refused = absurd (refused refl)

packet_quiet : (drb : Drb) (count : ℕ) (text : List ℕ) (s : State) (radio : Radio (List ℕ) ℕ) → Quiet (packet_opened drb count text s radio)
packet_quiet drb count text s Idle refused = absurd (refused refl)
packet_quiet drb count text s (Connecting w) refused = absurd (refused refl)
packet_quiet drb count text s (Connected l) refused = absurd (refused refl)

air_quiet : (row : AirRow) (s : State) → Quiet (air_does octet_reading row s)
air_quiet (AirRefused answer) s refused = refl
air_quiet (LinkSecured station air algs count) s refused = secured_quiet station air algs count s s.radio refused
air_quiet (HandedOver cell steps algs station air) s refused = handed_quiet cell steps algs station air s s.radio refused
air_quiet (KeyChanged cell algs station air) s refused = changed_quiet cell algs station air s s.radio s.context refused
air_quiet (RrcOpened srb count text) s refused = rrc_quiet srb count text s s.radio refused
air_quiet (PacketOpened drb count text) s refused = packet_quiet drb count text s s.radio refused

request_quiet : (s : State) (o : Option (NasContext (List ℕ))) → Quiet (service_requested octet_reading s o)
request_quiet s None refused = absurd (refused refl)
request_quiet s (Some c) refused = absurd (refused refl)

resent_quiet : (s : State) (radio : Radio (List ℕ) ℕ) → Quiet (complete_resent s radio)
resent_quiet s Idle refused = absurd (refused refl)
resent_quiet s (Connecting w) refused = absurd (refused refl)
resent_quiet s (Connected l) refused = absurd (refused refl)

packet_sent_quiet : (drb : Drb) (text : List ℕ) (s : State) (radio : Radio (List ℕ) ℕ) → Quiet (packet_sent drb text s radio)
packet_sent_quiet drb text s Idle refused = absurd (refused refl)
packet_sent_quiet drb text s (Connecting w) refused = absurd (refused refl)
packet_sent_quiet drb text s (Connected l) refused = absurd (refused refl)

rrc_sent_quiet : (srb : Srb) (text : List ℕ) (s : State) (radio : Radio (List ℕ) ℕ) → Quiet (rrc_sent srb text s radio)
rrc_sent_quiet srb text s Idle refused = absurd (refused refl)
rrc_sent_quiet srb text s (Connecting w) refused = absurd (refused refl)
rrc_sent_quiet srb text s (Connected l) refused = absurd (refused refl)

nas_sent_quiet : (text : List ℕ) (s : State) (o : Option (NasContext (List ℕ))) → Quiet (nas_sent text s o)
nas_sent_quiet text s None refused = absurd (refused refl)
nas_sent_quiet text s (Some c) refused = absurd (refused refl)

nas_skipped_quiet : (n : ℕ) (s : State) (o : Option (NasContext (List ℕ))) → Quiet (nas_skipped n s o)
nas_skipped_quiet n s None refused = absurd (refused refl)
nas_skipped_quiet n s (Some c) refused = absurd (refused refl)

skipped_quiet : (bearer : Which) (n : ℕ) (s : State) (radio : Radio (List ℕ) ℕ) → Quiet (bearer_skipped bearer n s radio)
skipped_quiet bearer n s Idle refused = absurd (refused refl)
skipped_quiet bearer n s (Connecting w) refused = absurd (refused refl)
skipped_quiet bearer n s (Connected l) refused = absurd (refused refl)

act_quiet : (row : ActRow) (s : State) → Quiet (act_does octet_reading row s)
act_quiet (ActRefused answer) s refused = refl
act_quiet ServiceRequested s refused = request_quiet s s.context refused
act_quiet CompleteResent s refused = resent_quiet s s.radio refused
act_quiet WentIdle s refused = absurd (refused refl)
act_quiet (PacketSent drb text) s refused = packet_sent_quiet drb text s s.radio refused
act_quiet (RrcSent srb text) s refused = rrc_sent_quiet srb text s s.radio refused
act_quiet (NasSent text) s refused = nas_sent_quiet text s s.context refused
act_quiet (NasSkipped n) s refused = nas_skipped_quiet n s s.context refused
act_quiet (BearerSkipped bearer n) s refused = skipped_quiet bearer n s s.radio refused

-- rows of NAS: a refusal sends one where a command may be told so

abbrev Told : State → Bool → NasRow → Type 0
Told s b row =
    let done = nas_does octet_reading row s in
    done.1.answer ≢ Done → is_some (actor_out done.1).sent ≡ (b && (is_told done.1.answer && may_tell s.context))

either : {X : Type 0} (P : X → Type 0) (b : Bool) (x y : X) → P x → P y → P (cond b x y)
either P true x y h k = h
either P false x y h k = k

taken_told : (algs : Algs) (count : ℕ) (s : State) (p : Option (Partial (List ℕ))) → (context_taken octet_reading algs count s p).1.answer ≡ Done
taken_told algs count s None = refl
taken_told algs count s (Some p) = refl

taken_connected_told : (algs : Algs) (count : ℕ) (s : State) (p : Option (Partial (List ℕ)))
    → (context_taken_connected octet_reading algs count s p).1.answer ≡ Done
taken_connected_told algs count s None = refl
taken_connected_told algs count s (Some p) = refl

context_told : (s : State) (b : Bool) (algs : Algs) (count : ℕ) (radio : Radio (Unit {0}) ℕ) → Told s b (context_row algs count radio)
context_told s b algs count Idle refused = absurd (refused (taken_told algs count s s.partial))
context_told s b algs count (Connecting w) refused = absurd (refused (taken_told algs count s s.partial))
context_told s b algs count (Connected l) refused = absurd (refused (taken_connected_told algs count s s.partial))

-- with this context in use
module _ (s : State) (o : Option (NasContext (List ℕ))) where
  abbrev here : State
  here = record s { context = o }

  abbrev seen : Option (NasContext (Unit {0}))
  seen = option_map (map_context unseen) o

rejected_told : (s : State) (answer : Answer) (cause : ℕ) (o : Option (NasContext (List ℕ)))
    → is_told answer ≡ true
    → Told (here s o) true (rejected answer cause (seen s o))
rejected_told s answer cause None told refused = rw told refl
rejected_told s answer cause (Some c) told refused = by_test (nat_le nas_count_limit c.send) refused
  where
    by_test : (b : Bool) → (let done = nas_does octet_reading (cond b (NasRefused answer) (RejectedUnder answer cause)) (here s (Some c)) in
        done.1.answer ≢ Done → is_some (actor_out done.1).sent ≡ (true && (is_told done.1.answer && not b)))
    by_test true refused = rw told refl
    by_test false refused = rw told refl

command_row_told : (s : State) (o : Option (NasContext (List ℕ))) (radio : Radio (Unit {0}) ℕ) (count : ℕ) (algs : Algs) (caps : Caps) (outcome : Outcome)
    → Told (here s o) true (command_row s.caps (seen s o) radio count algs caps outcome)
command_row_told s o radio count algs caps (Differs wanted got) refused =
    rejected_told s (MacFails count wanted got) rejected_unspecified o refl refused
command_row_told s o radio count algs caps (Opened text) refused =
    either (Told (here s o) true) (same_caps s.caps caps) (context_row algs count radio) (rejected (CapsMismatch s.caps caps) capabilities_mismatch (seen s o))
    (context_told (here s o) true algs count radio) (rejected_told s (CapsMismatch s.caps caps) capabilities_mismatch o refl) refused

-- a command, by its text
module _ (s : State) (o : Option (NasContext (List ℕ))) (radio : Radio (Unit {0}) ℕ) (outcome : Outcome) where
  abbrev CommandTold : NasFront → Type 0
  CommandTold front = Told (here s o) true (nas_row s.caps (seen s o) radio front outcome)

  at_told : (algs : Algs) (caps : Caps) (x : Result ℕ spent.CountSpent) → CommandTold (command_at algs caps x)
  at_told algs caps (Ok count) refused = command_row_told s o radio count algs caps outcome refused
  at_told algs caps (Err none_left) refused = refl

  read_told : (held : ℕ) (pdu : List ℕ) (x : Result NasRecord RecFault) → CommandTold (command_read s.caps (seen s o) held pdu x)
  read_told held pdu (Err fault) refused = refl
  read_told held pdu (Ok (nas.TheVariants.SecurityModeCommand ksi algs caps)) refused =
      either CommandTold (ksi == held)
      (cond (are_supported s.caps algs) (command_at algs caps (estimate_of 0 (sn_in pdu)))
      (NasSettled (rejected (AlgUnsupported algs) rejected_unspecified (seen s o))))
      (NasSettled (rejected (WrongKsi held ksi) rejected_unspecified (seen s o)))
      (either CommandTold (are_supported s.caps algs) (command_at algs caps (estimate_of 0 (sn_in pdu)))
      (NasSettled (rejected (AlgUnsupported algs) rejected_unspecified (seen s o)))
      (at_told algs caps (estimate_of 0 (sn_in pdu))) (rejected_told s (AlgUnsupported algs) rejected_unspecified o refl))
      (rejected_told s (WrongKsi held ksi) rejected_unspecified o refl) refused
  read_told held pdu (Ok nas.TheVariants.SecurityModeComplete) refused = refl
  read_told held pdu (Ok (nas.TheVariants.SecurityModeReject cause)) refused = refl
  read_told held pdu (Ok nas.TheVariants.ServiceRequest) refused = refl
  read_told held pdu (Ok (nas.TheVariants.NasData text)) refused = refl

  command_told : (pdu : List ℕ) (p : Option (Partial (Unit {0}))) → CommandTold (command_front s.caps (seen s o) pdu p)
  command_told pdu None refused = refl
  command_told pdu (Some p) refused = read_told p.ksi pdu (read_nas (sent_in pdu)) refused

-- another message

opened_done : (count : ℕ) (text : List ℕ) (s : State) (o : Option (NasContext (List ℕ))) → (nas_opened count text s o).1.answer ≡ Done
opened_done count text s None = refl
opened_done count text s (Some c) = refl

message_read_told : (s : State) (count : ℕ) (x : Result NasRecord RecFault) → Told s false (message_read count x)
message_read_told s count (Err fault) refused = refl
message_read_told s count (Ok (nas.TheVariants.NasData text)) refused = absurd (refused (opened_done count text s s.context))
message_read_told s count (Ok (nas.TheVariants.SecurityModeCommand ksi algs caps)) refused = refl
message_read_told s count (Ok nas.TheVariants.SecurityModeComplete) refused = refl
message_read_told s count (Ok (nas.TheVariants.SecurityModeReject cause)) refused = refl
message_read_told s count (Ok nas.TheVariants.ServiceRequest) refused = refl

message_row_told : (s : State) (count : ℕ) (outcome : Outcome) → Told s false (message_row count outcome)
message_row_told s count (Differs wanted got) refused = refl
message_row_told s count (Opened text) refused = message_read_told s count (read_nas text) refused

message_at_told : (s : State) (radio : Radio (Unit {0}) ℕ) (context : Option (NasContext (Unit {0})))
    (outcome : Outcome) (header : ℕ) (x : Result ℕ spent.CountSpent)
    → Told s false (nas_row s.caps context radio (message_at header x) outcome)
message_at_told s radio context outcome header (Ok count) refused = message_row_told s count outcome refused
message_at_told s radio context outcome header (Err none_left) refused = refl

message_told : (s : State) (radio : Radio (Unit {0}) ℕ) (outcome : Outcome) (header : ℕ) (pdu : List ℕ) (context : Option (NasContext (Unit {0})))
    → Told s false (nas_row s.caps context radio (message_front header pdu context) outcome)
message_told s radio outcome header pdu None refused = refl
message_told s radio outcome header pdu (Some c) refused = message_at_told s radio (Some c) outcome header (estimate_of c.receive (sn_in pdu)) refused

-- any NAS message, by its header type
module _ (s : State) (outcome : Outcome) (pdu : List ℕ) where
  abbrev plain : PlainPhone
  plain = plain_phone octet_reading s

  by_header : (h : Result ℕ Answer)
      → Told s (is_third h)
      (nas_row s.caps plain.context plain.radio (nas_by_header s.caps plain.partial plain.context pdu h) outcome)
  by_header (Err answer) refused = refl
  by_header (Ok header) refused = by_third (header == 3) refused
    where
      by_third : (t : Bool)
          → Told s t (nas_row s.caps plain.context plain.radio
          (cond t (command_front s.caps plain.context pdu plain.partial) (message_front header pdu plain.context))
          outcome)
      by_third true refused = command_told s s.context plain.radio outcome pdu plain.partial refused
      by_third false refused = message_told s plain.radio outcome header pdu plain.context refused

-- which refusals send one
pub tells : (s : State) (i : PhoneIn) → (phone_call s i).1.answer ≢ Done → is_some (phone_call s i).1.sent ≡ sends_reject s i (phone_call s i).1.answer
tells s (Auth ksi root) refused = absurd (refused refl)
tells s (Act act) refused = ap (λ x. is_some (option_map record_out x)) (act_quiet (act_row (plain_phone octet_reading s) act) s refused)
tells s (Nas pdu) refused =
    by_header s (open_octets annex_b (phone_opens octet_reading s (phone_input (Nas pdu))) pdu) pdu (header_for_phone pdu) refused
tells s (Air station air bearer pdu) refused =
    let front = air_front s.caps station air pdu (which bearer) (map_radio unseen octet_reading.ncc s.radio) in
    ap (λ x. is_some (option_map record_out x))
    (air_quiet (air_row s.caps front (open_octets annex_b (phone_opens octet_reading s (phone_input (Air station air bearer pdu))) pdu)) s refused)

pub tells_so : (s t : State) (i : PhoneIn) (out : ActorOut) → (t, out) ≡ phone_call s i → out.answer ≢ Done → is_some out.sent ≡ sends_reject s i out.answer
tells_so s t i out e refused =
    ap (λ d. is_some d.1.sent) e
    ∙ tells s i (λ done. refused (ap (λ d. d.1.answer) e ∙ done))
    ∙ ap (λ d. sends_reject s i d.1.answer) (sym e)
