-- What the core does with keys: each new key is derived from one that it holds, or is such a key moved (TS 33.401 6.2,
-- 7.2.8 and Annex A).
use Rattle.std.specs.Prelude.{ℕ, ◌+◌, Bool, false, List, [], ◌∷◌, slice_set, Option, Some, None}
use Rattle.alg_choice.specs.{Algs.eia2_identity, declared.algs.Algs.Algs, declared.caps.Caps.Caps}
use Rattle.annex_a_keys.specs.Cell.{Place}
use Rattle.rec_base.specs.declared.uses.Dir.TheVariants.{Up, Down}
use Rattle.rec_base.specs.declared.ways.Way.TheVariants.{Initial, Chained}
use Rattle.lte_events.specs.{declared.addresses.Address.TheVariants.StationS1, declared.answers.Answer.Answer, declared.answers.Answer.TheVariants.Done, declared.setups.FirstNcc.FirstNcc}
use Rattle.key_model.specs.Derivation.{Derivation, kenb_made, nh_made}
use Rattle.key_model.specs.{Reading.Reading, HandoverTable.NumberedKey}
use Rattle.nas_count.specs.Estimate.{nas_count_limit}
use Rattle.nas_guard.specs.{Keys.Keys, Seal.is_ciphered}
use Rattle.nas_rec.specs.Spelling.{spelling_of}
use Rattle.nas_rec.specs.declared.records.NasRecord.TheVariants.{SecurityModeCommand, NasData}
use Rattle.lte_events.specs.declared.setups.FirstNcc.TheVariants.{One, Two}
use Rattle.nh_chain.specs.Chain.{ChainState, stepped, present_pair}
use Rattle.s1x2_rec.specs.Fields.{Fields, InitialContext, ContextRelease, PathSwitchAnswer, HandoverRequest, HandoverCommand, HandoverCancel, ContextModification}
use Rattle.lte_machine.specs.{Bearers.skipped, PhoneState.nas_keys_of, PhoneState.nas_derivations}
use Rattle.lte_machine.specs.CoreChoice.{CoreFront, Settled, FromNas, CoreNasFront, NasSettled, OpensComplete, OpensProtected}
use Rattle.lte_machine.specs.CoreRows.{CoreNasRow, NasRefused, PlainReject, SmcComplete, SmcChange, ServiceAsked, NasOpened, SealedReject, CoreRecordRow, RecordRefused, PathSwitched, HandoverAsked, HandoverOrdered, HandoverNotified, HandoverCancelled, CoreActRow, ActRefused, SmcStarted, ContextSetUp, ContextReleased, NasSent, NasSkipped, CoreRow, OfNas, OfRecord, OfAct, OfAuth}
use Rattle.lte_machine.specs.CoreState.{Core, CorePartial, CoreContext, CoreLink}
use Rattle.lte_machine.specs.Opening.{Opening, OpensNothing, OpensNas}
use Rattle.lte_machine.specs.Reply.{Note, Reply, only}
use Rattle.lte_machine.specs.Wire.{Outgoing, SealedNas, Between, nas_use, nas_ciphering, ciphering_if}

-- which uses an opening needs

-- a Security Mode Complete is ciphered (TS 24.301 9.3.1, header type 4)
abbrev pub opens_by_procedure : {K : Type 0} → Option (Keys K) → ℕ → Opening K
opens_by_procedure None count = OpensNothing
opens_by_procedure (Some keys) count = OpensNas (nas_use Up keys.int count) (Some (nas_ciphering Up keys count))

-- another message, by its header type
abbrev pub opens_by_context : {K : Type 0} → Option (CoreContext K) → ℕ → ℕ → Opening K
opens_by_context None header count = OpensNothing
opens_by_context (Some context) header count =
    OpensNas (nas_use Up context.nas.keys.int count)
    (ciphering_if (is_ciphered header) (nas_ciphering Up context.nas.keys count))

abbrev pub core_nas_expects : {K C : Type 0} → CoreNasFront → Core K C → Opening K
core_nas_expects (NasSettled row) s = OpensNothing
core_nas_expects (OpensComplete count) s = opens_by_procedure s.procedure count
core_nas_expects (OpensProtected header count) s = opens_by_context s.context header count

abbrev pub core_expects : {K C : Type 0} → CoreFront → Core K C → Opening K
core_expects (Settled row) s = OpensNothing
core_expects (FromNas front) s = core_nas_expects front s

-- the core after a step, and what it gives out
abbrev pub CoreDone : Type 0 → Type 0 → Type 0
CoreDone K C = Core K C × Reply K C

-- a step that only changes the state
abbrev pub silent : {K C : Type 0} → Core K C → CoreDone K C
silent s = (s, only Done)

-- a refusal
abbrev pub refused : {K C : Type 0} → Answer → Core K C → CoreDone K C
refused answer s = (s, only answer)

-- a step that sends this and derives this
abbrev pub sending : {K C : Type 0} → Outgoing K C → List (Derivation K) → Core K C → CoreDone K C
sending out derived s = (s, record (only Done) { sent = Some out; derived = derived })

-- the same with a note
abbrev pub sending_noted : {K C : Type 0} → Outgoing K C → List (Derivation K) → Note K → Bool → Core K C → CoreDone K C
sending_noted out derived note alarm s = (s, record (only Done) { sent = Some out; derived = derived; note = Some note; alarm = alarm })

-- authentication and the Security Mode procedure

-- a new partial context in place of any other, whose COUNTs start at 0 (TS 24.301 4.4.3.1 and 5.4.2.4). This project's own
-- rule: it closes an open procedure
abbrev pub authenticated : {K C : Type 0} → ℕ → Caps → Option K → Core K C → CoreDone K C
authenticated ksi caps None s = silent s
authenticated ksi caps (Some root) s = silent (record s {
  latest = caps;
  partial = Some (record { ksi = ksi; root = root; caps = caps; send = 0 });
  procedure = None;
})

-- the Security Mode Command, under the new keys and not ciphered (TS 24.301 5.4.3.2, header type 3)
abbrev pub smc_command : {K C : Type 0} → K → ℕ → ℕ → Algs → Caps → Outgoing K C
smc_command int count ksi algs caps =
    SealedNas Down 3 (nas_use Down int count) None (spelling_of (SecurityModeCommand ksi algs caps))

abbrev pub smc_started : {K C : Type 0} → Reading K C → ℕ → Algs → Caps → ℕ → Option (CorePartial K) → Core K C → CoreDone K C
smc_started r ksi algs caps count None s = silent s
smc_started r ksi algs caps count (Some partial) s =
    sending (smc_command (r.alg partial.root 2 eia2_identity) count ksi algs caps)
    (nas_derivations r partial.root algs)
    (record s { partial = Some (record partial { send = count + 1 }); procedure = Some (nas_keys_of r partial.root algs) })

-- the new context in use: its uplink goes on behind the Complete, its downlink behind the Command (TS 24.301 4.4.3.1
-- and 5.4.3.4)
abbrev pub new_context : {K : Type 0} → CorePartial K → Keys K → ℕ → CoreContext K
new_context partial keys count = record {
  nas = record { root = partial.root; keys = keys; send = partial.send; receive = count + 1 };
  caps = partial.caps;
}

-- the new context is in use, and the Complete is the trigger for a connection (TS 33.401 7.2.6.2). A connection that stands
-- stays, with the keys that it has: no number is left for it
abbrev pub smc_complete : {K C : Type 0} → ℕ → Option (CorePartial K) → Option (Keys K) → Core K C → CoreDone K C
smc_complete count None procedure s = silent s
smc_complete count (Some partial) None s = silent s
smc_complete count (Some partial) (Some keys) s = silent (record s {
  context = Some (new_context partial keys count);
  trigger = Some count;
  partial = None;
  procedure = None;
})

-- a record on S1 to a station, with a key of its number or with none
abbrev pub to_station : {K C : Type 0} → ℕ → Fields → Option (NumberedKey K C) → Outgoing K C
to_station station fields key = Between (StationS1 station) fields key

-- a chain begins: with NH of chain number 1 the core goes one step on at once and keeps that pair, so that the first pair that
-- it sends has NCC 2 (TS 33.401 7.2.8.1.1). Without, it stands at KeNB, of chain number 0

abbrev pub sync_from : {K C : Type 0} → Reading K C → FirstNcc → K → K → K
sync_from r One root kenb = kenb
sync_from r Two root kenb = r.nh root kenb

abbrev pub number_from : {K C : Type 0} → Reading K C → FirstNcc → C
number_from r One = r.first
number_from r Two = r.plus r.first 1

abbrev pub chain_from : {K C : Type 0} → Reading K C → FirstNcc → K → K → ChainState K C
chain_from r first_ncc root kenb =
    record { root = root; sync = sync_from r first_ncc root kenb; number = number_from r first_ncc }

-- the derivation of the NH that is kept, which is sent to nobody
abbrev pub nh_kept : {K C : Type 0} → Reading K C → FirstNcc → K → K → List (Derivation K)
nh_kept r One root kenb = []
nh_kept r Two root kenb = nh_made r root kenb ∷ []

-- the new context is in use, and the key of the connection changes at once: its station gets the KeNB of the Complete's COUNT,
-- and the connection goes on under the next number with a chain that begins anew (TS 33.401 7.2.9.2 and A.3)
abbrev pub key_changed : {K C : Type 0} →
    Reading K C → ℕ → ℕ → ℕ → ℕ → Option (CorePartial K) → Option (Keys K) → Core K C → CoreDone K C
key_changed r count conn next station (Some partial) (Some keys) s =
    let kenb = r.kenb partial.root count in
    sending_noted (to_station station (ContextModification conn next) (Some (record { key = kenb; number = r.first })))
    (kenb_made r partial.root count ∷ nh_kept r s.first_ncc partial.root kenb)
    (record { ncc = r.ncc r.first; way = Initial; key = kenb })
    false
    (record s {
      context = Some (new_context partial keys count);
      trigger = None;
      partial = None;
      procedure = None;
      next = next + 1;
      link = Some (record { conn = next; chain = chain_from r s.first_ncc partial.root kenb; station = station });
    })
key_changed r count conn next station partial procedure s = silent s

-- messages under the context in use

-- a message of this COUNT was taken, or the next COUNT was sent with (TS 24.301 4.4.3.1)
abbrev pub nas_taken : {K : Type 0} → ℕ → CoreContext K → CoreContext K
nas_taken count c = record c { nas = record c.nas { receive = count + 1 } }

abbrev pub nas_sent_to : {K : Type 0} → ℕ → CoreContext K → CoreContext K
nas_sent_to next c = record c { nas = record c.nas { send = next } }

abbrev pub service_asked : {K C : Type 0} → ℕ → Option (CoreContext K) → Core K C → CoreDone K C
service_asked count None s = silent s
service_asked count (Some c) s = silent (record s { context = Some (nas_taken count c); trigger = Some count })

abbrev pub nas_opened : {K C : Type 0} → ℕ → List ℕ → Option (CoreContext K) → Core K C → CoreDone K C
nas_opened count text None s = silent s
nas_opened count text (Some c) s =
    (record s { context = Some (nas_taken count c) }, record (only Done) { opened = Some text })

abbrev pub sealed_reject : {K C : Type 0} → ℕ → Option (CoreContext K) → Core K C → CoreDone K C
sealed_reject count None s = silent s
sealed_reject count (Some c) s = silent (record s { context = Some (nas_taken count c); procedure = None })

-- a ciphered NAS text (TS 24.301 4.4.5, header type 2)
abbrev pub nas_text : {K C : Type 0} → Keys K → ℕ → List ℕ → Outgoing K C
nas_text keys count text =
    SealedNas Down 2 (nas_use Down keys.int count)
    (Some (nas_ciphering Down keys count))
    (spelling_of (NasData text))

abbrev pub nas_sent : {K C : Type 0} → ℕ → List ℕ → Option (CoreContext K) → Core K C → CoreDone K C
nas_sent count text None s = silent s
nas_sent count text (Some c) s =
    sending (nas_text c.nas.keys count text) [] (record s { context = Some (nas_sent_to (count + 1) c) })

abbrev pub nas_skipped : {K C : Type 0} → ℕ → Option (CoreContext K) → Core K C → CoreDone K C
nas_skipped n None s = silent s
nas_skipped n (Some c) s = silent (record s { context = Some (nas_sent_to (skipped n c.nas.send nas_count_limit) c) })

-- connections and their chains

-- the initial KeNB, of chain number 0, with no NH beside it (TS 33.401 7.2.8.1.1 and A.3). This project's own rule: a
-- connection that stands is replaced without a release
abbrev pub context_set_up : {K C : Type 0} → Reading K C → ℕ → Place → ℕ → Caps → ℕ → Option (CoreContext K) → Core K C → CoreDone K C
context_set_up r conn cell target caps count None s = silent s
context_set_up r conn cell target caps count (Some c) s =
    let kenb = r.kenb c.nas.root count in
    sending_noted (to_station target (InitialContext conn cell caps) (Some (record { key = kenb; number = r.first })))
    (kenb_made r c.nas.root count ∷ nh_kept r s.first_ncc c.nas.root kenb)
    (record { ncc = r.ncc r.first; way = Initial; key = kenb })
    false
    (record s {
      trigger = None;
      next = conn + 1;
      link = Some (record { conn = conn; chain = chain_from r s.first_ncc c.nas.root kenb; station = target });
    })

abbrev pub context_released : {K C : Type 0} → ℕ → ℕ → Core K C → CoreDone K C
context_released conn station s = sending (to_station station (ContextRelease conn) None) [] (record s { link = None })

-- the derivation of a chain step, and the note of it
abbrev pub nh_of : {K C : Type 0} → Reading K C → ChainState K C → List (Derivation K)
nh_of r chain = nh_made r chain.root chain.sync ∷ []

abbrev pub chained : {K C : Type 0} → Reading K C → ChainState K C → Note K
chained r chain = record { ncc = r.ncc chain.number; way = Chained; key = chain.sync }

-- the chain goes one step on, and the station that asked gets the pair (TS 33.401 7.2.8.4.2 and A.4)
abbrev pub path_switched : {K C : Type 0} → Reading K C → ℕ → ℕ → ℕ → Bool → Option (CoreLink K C) → Core K C → CoreDone K C
path_switched r conn station number alarm None s = silent s
path_switched r conn station number alarm (Some link) s =
    let chain = stepped r link.chain in
    sending_noted (to_station station (PathSwitchAnswer conn number) (Some (present_pair chain)))
    (nh_of r link.chain)
    (chained r chain)
    alarm
    (record s {
      link = Some (record { conn = link.conn; chain = chain; station = station });
      requests = slice_set s.requests station number;
    })

-- the chain goes one step on, and the target gets the pair, with the capabilities of the context in use (TS 33.401
-- 7.2.4.2.3, 7.2.8.4.3 and A.4)
abbrev pub handover_asked : {K C : Type 0} → Reading K C → ℕ → ℕ → ℕ → Place → ℕ → Caps → Option (CoreLink K C) → Core K C → CoreDone K C
handover_asked r conn source attempt cell target caps None s = silent s
handover_asked r conn source attempt cell target caps (Some link) s =
    let chain = stepped r link.chain in
    sending_noted (to_station target (HandoverRequest conn source attempt cell caps) (Some (present_pair chain)))
    (nh_of r link.chain)
    (chained r chain)
    false
    (record s {
      link = Some (record link { chain = chain });
      attempts = slice_set s.attempts source attempt;
    })

abbrev pub handover_ordered : {K C : Type 0} → ℕ → ℕ → ℕ → Place → ℕ → Algs → ℕ → Core K C → CoreDone K C
handover_ordered conn source attempt cell ncc algs air s =
    sending (to_station source (HandoverCommand conn attempt cell ncc algs air) None) [] s

abbrev pub handover_notified : {K C : Type 0} → ℕ → Option (CoreLink K C) → Core K C → CoreDone K C
handover_notified station None s = silent s
handover_notified station (Some link) s = silent (record s { link = Some (record link { station = station }) })

abbrev pub handover_cancelled : {K C : Type 0} → ℕ → ℕ → ℕ → Place → ℕ → Core K C → CoreDone K C
handover_cancelled conn source attempt cell target s =
    sending (to_station target (HandoverCancel conn source attempt cell) None) [] s

-- each row

abbrev pub core_does_nas : {K C : Type 0} → Reading K C → CoreNasRow → Core K C → CoreDone K C
core_does_nas r (NasRefused answer) s = refused answer s
core_does_nas r PlainReject s = silent (record s { procedure = None })
core_does_nas r (SmcComplete count) s = smc_complete count s.partial s.procedure s
core_does_nas r (SmcChange count conn next station) s = key_changed r count conn next station s.partial s.procedure s
core_does_nas r (ServiceAsked count) s = service_asked count s.context s
core_does_nas r (NasOpened count text) s = nas_opened count text s.context s
core_does_nas r (SealedReject count) s = sealed_reject count s.context s

abbrev pub core_does_record : {K C : Type 0} → Reading K C → CoreRecordRow → Core K C → CoreDone K C
core_does_record r (RecordRefused answer) s = refused answer s
core_does_record r (PathSwitched conn station number alarm) s = path_switched r conn station number alarm s.link s
core_does_record r (HandoverAsked conn source attempt cell target caps) s =
    handover_asked r conn source attempt cell target caps s.link s
core_does_record r (HandoverOrdered conn source attempt cell ncc algs air) s =
    handover_ordered conn source attempt cell ncc algs air s
core_does_record r (HandoverNotified station) s = handover_notified station s.link s
core_does_record r (HandoverCancelled conn source attempt cell target) s =
    handover_cancelled conn source attempt cell target s

abbrev pub core_does_act : {K C : Type 0} → Reading K C → CoreActRow → Core K C → CoreDone K C
core_does_act r (ActRefused answer) s = refused answer s
core_does_act r (SmcStarted ksi algs caps count) s = smc_started r ksi algs caps count s.partial s
core_does_act r (ContextSetUp conn cell target caps count) s = context_set_up r conn cell target caps count s.context s
core_does_act r (ContextReleased conn station) s = context_released conn station s
core_does_act r (NasSent count text) s = nas_sent count text s.context s
core_does_act r (NasSkipped n) s = nas_skipped n s.context s

-- a row; the key is the KASME of an authentication
abbrev pub core_does : {K C : Type 0} → Reading K C → CoreRow → Option K → Core K C → CoreDone K C
core_does r (OfNas row) root s = core_does_nas r row s
core_does r (OfRecord row) root s = core_does_record r row s
core_does r (OfAct row) root s = core_does_act r row s
core_does r (OfAuth ksi caps) root s = authenticated ksi caps root s
