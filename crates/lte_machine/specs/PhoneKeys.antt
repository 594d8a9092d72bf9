-- The phone's keys: which uses an opening needs, and what a row does, each new key a derivation of a key that the phone
-- holds (TS 33.401 6.2, 7.2.4.4, 7.2.4.5 and 7.2.8).
use Rattle.std.specs.Prelude.{ℕ, ◌+◌, Bool, true, false, List, [], ◌∷◌, ◌++◌, Option, Some, None}
use Rattle.alg_choice.specs.declared.algs.Algs.{Algs}
use Rattle.annex_a_keys.specs.Cell.{Place}
use Rattle.rec_base.specs.declared.uses.Dir.TheVariants.{Up, Down}
use Rattle.rec_base.specs.declared.ways.Way.TheVariants.{Initial}
use Rattle.lte_events.specs.declared.answers.Answer.{Answer}
use Rattle.lte_events.specs.declared.answers.Answer.TheVariants.{Done, NoTrigger}
use Rattle.key_model.specs.{Reading.Reading, Derivation.kenb_made, Derivation.star_made, HandoverLines.change_line}
use Rattle.nas_count.specs.Estimate.{nas_count_limit}
use Rattle.nas_guard.specs.{Keys.Keys, Seal.is_ciphered, Seal.first_octet}
use Rattle.nas_rec.specs.declared.records.NasRecord as nas
use Rattle.nas_rec.specs.{declared.records.NasRecord.NasRecord, Spelling.spelling_of as nas_spelling}
use Rattle.rrc_rec.specs.declared.records.RrcRecord as rrc
use Rattle.rrc_rec.specs.{declared.records.RrcRecord.RrcRecord, Spelling.spelling_of as rrc_spelling}
use Rattle.nh_chain.specs.{Chain.begun, Reach.Reached, Reach.reached_after}
use Rattle.pdcp_guard.specs.AsKeys.{AsKeys, as_keys_of, as_derivations}
use Rattle.lte_machine.specs.Bearers.{Srb, Signalling1, Drb, Which, Bearers, new_bearers, srb_counts, drb_counts, srb_sent, drb_sent, srb_taken, drb_taken, skipped_on, skipped}
use Rattle.lte_machine.specs.Wire.{nas_use, srb_use, nas_ciphering, srb_ciphering, drb_ciphering, Outgoing, SealedNas, PlainNas, SealedRrc, UserPacket, ciphering_if}
use Rattle.lte_machine.specs.Opening.{Opening, OpensNothing, OpensNas, OpensSrb, OpensDrb}
use Rattle.lte_machine.specs.Reply.{Reply, only, Before, Came, Secured, Commanded, Changed}
use Rattle.lte_machine.specs.PhoneState.{nas_keys_of, Partial, NasContext, Link, Radio, Idle, Connecting, Connected, Phone, nas_derivations}
use Rattle.lte_machine.specs.PhoneRows.{AuthRow, Authenticated, NasRow, NasRefused, RejectedPlain, RejectedUnder, ContextTaken, ContextTakenConnected, NasOpened, AirRow, AirRefused, LinkSecured, HandedOver, KeyChanged, RrcOpened, PacketOpened, ActRow, ActRefused, ServiceRequested, CompleteResent, WentIdle, PacketSent, RrcSent, NasSent, NasSkipped, BearerSkipped, PhoneRow, OfAuth, OfNas, OfAir, OfAct}
use Rattle.lte_machine.specs.PhoneChoice.{NasFront, NasSettled, AtCommand, AtMessage, AirFront, AirSettled, AtStart, AtSignalling, AtPacket, PhoneFront, Settled, FromNas, FromAir}

-- the phone after a step, and what it gives out
abbrev pub PhoneDone : Type 0 → Type 0 → Type 0
PhoneDone K C = Phone K C × Reply K C

-- the uses that an opening needs

-- a SECURITY MODE COMMAND, under KNASint of the partial context and not ciphered (TS 33.401 7.2.4.4)
abbrev pub command_expects : {K C : Type 0} → Reading K C → ℕ → Algs → Option (Partial K) → Opening K
command_expects r count algs None = OpensNothing
command_expects r count algs (Some p) = OpensNas (nas_use Down (nas_keys_of r p.root algs).int count) None

-- another NAS message, under the context in use
abbrev pub message_expects : {K : Type 0} → ℕ → ℕ → Option (NasContext K) → Opening K
message_expects count header None = OpensNothing
message_expects count header (Some c) =
    OpensNas (nas_use Down c.keys.int count) (ciphering_if (is_ciphered header) (nas_ciphering Down c.keys count))

abbrev pub nas_expects : {K C : Type 0} → Reading K C → NasFront → Phone K C → Opening K
nas_expects r (NasSettled row) s = OpensNothing
nas_expects r (AtCommand count algs caps) s = command_expects r count algs s.partial
nas_expects r (AtMessage count header) s = message_expects count header s.context

-- the record that starts a connection's security, under KRRCint of KeNB and not ciphered (TS 33.401 7.2.4.5)
abbrev pub start_expects : {K C : Type 0} → Reading K C → ℕ → Algs → Radio K C → Opening K
start_expects r count algs (Connecting w) =
    OpensSrb (srb_use Down (as_keys_of r w.kenb algs).rrc_int Signalling1 count) None
start_expects r count algs other = OpensNothing

-- a PDU of a connection, under its keys and ciphered (TS 36.331 5.3.1.2)
abbrev pub signalling_expects : {K C : Type 0} → Srb → ℕ → Radio K C → Opening K
signalling_expects srb count (Connected l) =
    OpensSrb (srb_use Down l.keys.rrc_int srb count) (Some (srb_ciphering Down l.keys srb count))
signalling_expects srb count other = OpensNothing

abbrev pub packet_expects : {K C : Type 0} → Drb → ℕ → Radio K C → Opening K
packet_expects drb count (Connected l) = OpensDrb (drb_ciphering Down l.keys drb count)
packet_expects drb count other = OpensNothing

abbrev pub air_expects : {K C : Type 0} → Reading K C → AirFront → Phone K C → Opening K
air_expects r (AirSettled row) s = OpensNothing
air_expects r (AtStart count algs named station air) s = start_expects r count algs s.radio
air_expects r (AtSignalling srb count own) s = signalling_expects srb count s.radio
air_expects r (AtPacket drb count) s = packet_expects drb count s.radio

abbrev pub phone_expects : {K C : Type 0} → Reading K C → PhoneFront → Phone K C → Opening K
phone_expects r (Settled row) s = OpensNothing
phone_expects r (FromNas front) s = nas_expects r front s
phone_expects r (FromAir front) s = air_expects r front s

-- what a row does

-- a NAS text under these keys, ciphered: header type 2, or 4 of a new context (TS 24.301 9.3.1)
abbrev pub nas_sealed : {K C : Type 0} → Keys K → ℕ → ℕ → NasRecord → Outgoing K C
nas_sealed keys header count record_sent =
    SealedNas Up header (nas_use Up keys.int count) (Some (nas_ciphering Up keys count)) (nas_spelling record_sent)

-- an RRC text of a connection, ciphered (TS 36.331 5.3.1.2)
abbrev pub rrc_sealed : {K C : Type 0} → AsKeys K → ℕ → ℕ → Srb → ℕ → RrcRecord → Outgoing K C
rrc_sealed keys station air srb count record_sent =
    SealedRrc Up station air srb (srb_use Up keys.rrc_int srb count) (Some (srb_ciphering Up keys srb count))
    (rrc_spelling record_sent)

-- the NAS context after its next uplink COUNT was taken
abbrev pub one_nas_sent : {K : Type 0} → NasContext K → NasContext K
one_nas_sent c = record c { send = c.send + 1 }

-- the connection with these COUNTs
abbrev pub with_bearers : {K C : Type 0} → Link K C → Bearers → Radio K C
with_bearers l bearers = Connected (record l { bearers = bearers })

-- done, and this is sent
abbrev pub sends : {K C : Type 0} → Outgoing K C → Reply K C
sends sent = record (only Done) { sent = Some sent }

-- done, and this text was opened
abbrev pub opens : {K C : Type 0} → List ℕ → Reply K C
opens text = record (only Done) { opened = Some text }

-- an authentication's KASME, in place of one that was not used yet (TS 24.301 4.4.2, TS 33.401 6.1.1)
abbrev pub authenticated : {K C : Type 0} → ℕ → Phone K C → Option K → PhoneDone K C
authenticated ksi s None = (s, only Done)
authenticated ksi s (Some root) = (record s { partial = Some (record { ksi = ksi; root = root }) }, only Done)

abbrev pub auth_does : {K C : Type 0} → AuthRow → Option K → Phone K C → PhoneDone K C
auth_does (Authenticated ksi) root s = authenticated ksi s root

-- a SECURITY MODE REJECT as it is, after an octet of security header type 0 (TS 24.301 4.4.4.3 and 9.3.1)
abbrev pub plain_reject : ℕ → List ℕ
plain_reject cause = first_octet 0 ∷ nas_spelling (nas.TheVariants.SecurityModeReject cause)

-- one under the context in use, ciphered (5.4.3.5)
abbrev pub rejected_under : {K C : Type 0} → Answer → ℕ → Phone K C → Option (NasContext K) → PhoneDone K C
rejected_under answer cause s None = (s, only answer)
rejected_under answer cause s (Some c) = (
  record s { context = Some (one_nas_sent c) },
  record (only answer) { sent = Some (nas_sealed c.keys 2 c.send (nas.TheVariants.SecurityModeReject cause)) },
)

-- the context of a command: its keys are of the partial context's KASME, the SECURITY MODE COMPLETE takes uplink COUNT 0,
-- and the command took its own downlink COUNT (TS 24.301 4.4.3.1 and 5.4.3.3)
abbrev pub context_of : {K C : Type 0} → Reading K C → Algs → ℕ → K → NasContext K
context_of r algs count root =
    record { root = root; keys = nas_keys_of r root algs; send = 1; receive = count + 1 }

-- SECURITY MODE COMPLETE under the new context: header type 4 (9.3.1)
abbrev pub complete_of : {K C : Type 0} → Reading K C → Algs → K → Outgoing K C
complete_of r algs root = nas_sealed (nas_keys_of r root algs) 4 0 nas.TheVariants.SecurityModeComplete

-- a phone that has no connection derives KeNB of the COUNT of its SECURITY MODE COMPLETE (TS 33.401 7.2.8.1.1 and A.3)
abbrev pub context_taken : {K C : Type 0} → Reading K C → Algs → ℕ → Phone K C → Option (Partial K) → PhoneDone K C
context_taken r algs count s None = (s, only Done)
context_taken r algs count s (Some p) = (
  record s {
    partial = None;
    context = Some (context_of r algs count p.root);
    radio = Connecting (record { root = p.root; kenb = r.kenb p.root 0 });
  },
  record (sends (complete_of r algs p.root)) {
    derived = kenb_made r p.root 0 ∷ nas_derivations r p.root algs;
  },
)

abbrev pub context_taken_connected : {K C : Type 0} → Reading K C → Algs → ℕ → Phone K C → Option (Partial K) → PhoneDone K C
context_taken_connected r algs count s None = (s, only Done)
context_taken_connected r algs count s (Some p) = (
  record s { partial = None; context = Some (context_of r algs count p.root) },
  record (sends (complete_of r algs p.root)) { derived = nas_derivations r p.root algs },
)

-- a NAS text was taken at a COUNT (TS 24.301 4.4.3.1)
abbrev pub nas_opened : {K C : Type 0} → ℕ → List ℕ → Phone K C → Option (NasContext K) → PhoneDone K C
nas_opened count text s None = (s, only Done)
nas_opened count text s (Some c) = (record s { context = Some (record c { receive = count + 1 }) }, opens text)

abbrev pub nas_does : {K C : Type 0} → Reading K C → NasRow → Phone K C → PhoneDone K C
nas_does r (NasRefused answer) s = (s, only answer)
nas_does r (RejectedPlain answer cause) s = (s, record (only answer) { sent = Some (PlainNas (plain_reject cause)) })
nas_does r (RejectedUnder answer cause) s = rejected_under answer cause s s.context
nas_does r (ContextTaken algs count) s = context_taken r algs count s s.partial
nas_does r (ContextTakenConnected algs count) s = context_taken_connected r algs count s s.partial
nas_does r (NasOpened count text) s = nas_opened count text s s.context

-- the security of a connection starts: the chain begins with KeNB, SecurityModeComplete goes unciphered, and all that
-- follows is ciphered (TS 33.401 7.2.4.5 and 7.2.8.1.1, TS 36.331 5.3.4.3)
abbrev pub link_secured : {K C : Type 0} → Reading K C → ℕ → ℕ → Algs → ℕ → Phone K C → Radio K C → PhoneDone K C
link_secured r station air algs count s (Connecting w) =
    let keys = as_keys_of r w.kenb algs in (
      record s {
        radio = Connected (record {
          station = station;
          air = air;
          chain = begun r w.root w.kenb;
          kenb = w.kenb;
          keys = keys;
          bearers = srb_sent Signalling1 (srb_taken Signalling1 count new_bearers);
          by_handover = false;
        });
      },
      record (only Done) {
        sent = Some (SealedRrc Up station air Signalling1 (srb_use Up keys.rrc_int Signalling1 0) None
            (rrc_spelling rrc.TheVariants.SecurityModeComplete));
        derived = as_derivations r w.kenb algs;
        note = Some (record { ncc = r.ncc r.first; way = Initial; key = w.kenb });
        took = Some (record {
          station = station;
          air = air;
          key = w.kenb;
          number = r.first;
          algs = algs;
          came = Secured;
        });
      },
    )
link_secured r station air algs count s other = (s, only Done)

-- a handover command is obeyed: KeNB* of what the chain reached, new keys, all bearers anew, and
-- RRCConnectionReconfigurationComplete to the target (TS 33.401 7.2.8.4.4, TS 36.331 5.3.5.4, TS 36.323 5.2)
abbrev pub arrived : {K C : Type 0} → Reading K C → Algs → ℕ → ℕ → Phone K C → Came K C → Reached K C → PhoneDone K C
arrived r algs station air s came reached =
    let keys = as_keys_of r reached.star.key algs in (
      record s {
        radio = Connected (record {
          station = station;
          air = air;
          chain = reached.chain;
          kenb = reached.star.key;
          keys = keys;
          bearers = srb_sent Signalling1 new_bearers;
          by_handover = true;
        });
      },
      record (only Done) {
        sent = Some (rrc_sealed keys station air Signalling1 0 rrc.TheVariants.ReconfigurationComplete);
        derived = reached.made ++ as_derivations r reached.star.key algs;
        note = Some (record { ncc = r.ncc reached.star.number; way = reached.way; key = reached.star.key });
        took = Some (record {
          station = station;
          air = air;
          key = reached.star.key;
          number = reached.star.number;
          algs = algs;
          came = came;
        });
      },
    )

-- a connection before an order
abbrev pub before_of : {K C : Type 0} → Link K C → Before K C
before_of l = record { station = l.station; key = l.kenb; number = l.chain.number }

abbrev pub handed_over : {K C : Type 0} → Reading K C → Place → ℕ → Algs → ℕ → ℕ → Phone K C → Radio K C → PhoneDone K C
handed_over r cell steps algs station air s (Connected l) =
    arrived r algs station air s (Commanded (before_of l)) (reached_after r l.chain l.kenb steps cell)
handed_over r cell steps algs station air s other = (s, only Done)

-- what a key change leads to: a new chain that begins with the KeNB of the KASME in use and COUNT 0, that of the SECURITY
-- MODE COMPLETE, and KeNB* of it for the cell (TS 33.401 7.2.9.2, A.3 and A.5)
abbrev pub reached_anew : {K C : Type 0} → Reading K C → K → Place → Reached K C
reached_anew r root cell = record {
  chain = begun r root (r.kenb root 0);
  star = change_line r (r.kenb root 0) cell.pci cell.earfcn;
  way = Initial;
  made = kenb_made r root 0 ∷ star_made r (r.kenb root 0) cell.pci cell.earfcn ∷ [];
}

-- a key change is refused where the KASME in use is that of the connection: nothing new was agreed
abbrev pub changed_unless : {K C : Type 0} →
    Reading K C → Place → Algs → ℕ → ℕ → Phone K C → Before K C → K → Bool → PhoneDone K C
changed_unless r cell algs station air s before root true = (s, only NoTrigger)
changed_unless r cell algs station air s before root false =
    arrived r algs station air s (Changed before root) (reached_anew r root cell)

-- this project's own rule: the key is changed by a command of its own, which names no NCC (TS 33.401 7.2.9.2 has an
-- intra-cell handover with a key change indicator)
abbrev pub key_changed : {K C : Type 0} →
    Reading K C → Place → Algs → ℕ → ℕ → Phone K C → Radio K C → Option (NasContext K) → PhoneDone K C
key_changed r cell algs station air s (Connected l) (Some c) =
    changed_unless r cell algs station air s (before_of l) c.root (r.same c.root l.chain.root)
key_changed r cell algs station air s radio context = (s, only Done)

-- a PDU was taken at a COUNT (TS 36.323 5.1.2)
abbrev pub rrc_opened : {K C : Type 0} → Srb → ℕ → List ℕ → Phone K C → Radio K C → PhoneDone K C
rrc_opened srb count text s (Connected l) = (record s { radio = with_bearers l (srb_taken srb count l.bearers) }, opens text)
rrc_opened srb count text s other = (s, only Done)

abbrev pub packet_opened : {K C : Type 0} → Drb → ℕ → List ℕ → Phone K C → Radio K C → PhoneDone K C
packet_opened drb count text s (Connected l) = (record s { radio = with_bearers l (drb_taken drb count l.bearers) }, opens text)
packet_opened drb count text s other = (s, only Done)

abbrev pub air_does : {K C : Type 0} → Reading K C → AirRow → Phone K C → PhoneDone K C
air_does r (AirRefused answer) s = (s, only answer)
air_does r (LinkSecured station air algs count) s = link_secured r station air algs count s s.radio
air_does r (HandedOver cell steps algs station air) s = handed_over r cell steps algs station air s s.radio
air_does r (KeyChanged cell algs station air) s = key_changed r cell algs station air s s.radio s.context
air_does r (RrcOpened srb count text) s = rrc_opened srb count text s s.radio
air_does r (PacketOpened drb count text) s = packet_opened drb count text s s.radio

-- SERVICE REQUEST, header type 1, and KeNB of its COUNT (TS 24.301 5.6.1.2, TS 33.401 7.2.6.2 and A.3). This project's own
-- rule: it has the form of any NAS message, and not the short one (TS 24.301 8.2.25)
abbrev pub service_requested : {K C : Type 0} → Reading K C → Phone K C → Option (NasContext K) → PhoneDone K C
service_requested r s None = (s, only Done)
service_requested r s (Some c) = (
  record s {
    context = Some (one_nas_sent c);
    radio = Connecting (record { root = c.root; kenb = r.kenb c.root c.send });
  },
  record (sends (SealedNas Up 1 (nas_use Up c.keys.int c.send) None (nas_spelling nas.TheVariants.ServiceRequest))) {
    derived = kenb_made r c.root c.send ∷ [];
  },
)

-- RRCConnectionReconfigurationComplete once more, under the next COUNT. This project's own rule: no layer below repeats it
abbrev pub complete_resent : {K C : Type 0} → Phone K C → Radio K C → PhoneDone K C
complete_resent s (Connected l) = (
  record s { radio = with_bearers l (srb_sent Signalling1 l.bearers) },
  sends (rrc_sealed l.keys l.station l.air Signalling1 l.bearers.srb1.send rrc.TheVariants.ReconfigurationComplete),
)
complete_resent s other = (s, only Done)

-- a user packet, an RRC text, a NAS text
abbrev pub packet_sent : {K C : Type 0} → Drb → List ℕ → Phone K C → Radio K C → PhoneDone K C
packet_sent drb text s (Connected l) = (
  record s { radio = with_bearers l (drb_sent drb l.bearers) },
  sends (UserPacket Up l.station l.air drb (drb_ciphering Up l.keys drb (drb_counts drb l.bearers).send) text),
)
packet_sent drb text s other = (s, only Done)

abbrev pub rrc_sent : {K C : Type 0} → Srb → List ℕ → Phone K C → Radio K C → PhoneDone K C
rrc_sent srb text s (Connected l) = (
  record s { radio = with_bearers l (srb_sent srb l.bearers) },
  sends (rrc_sealed l.keys l.station l.air srb (srb_counts srb l.bearers).send (rrc.TheVariants.RrcData text)),
)
rrc_sent srb text s other = (s, only Done)

abbrev pub nas_sent : {K C : Type 0} → List ℕ → Phone K C → Option (NasContext K) → PhoneDone K C
nas_sent text s None = (s, only Done)
nas_sent text s (Some c) =
    (record s { context = Some (one_nas_sent c) }, sends (nas_sealed c.keys 2 c.send (nas.TheVariants.NasData text)))

-- COUNTs left out, as if so many records were lost on the way
abbrev pub nas_skipped : {K C : Type 0} → ℕ → Phone K C → Option (NasContext K) → PhoneDone K C
nas_skipped n s None = (s, only Done)
nas_skipped n s (Some c) = (record s { context = Some (record c { send = skipped n c.send nas_count_limit }) }, only Done)

abbrev pub bearer_skipped : {K C : Type 0} → Which → ℕ → Phone K C → Radio K C → PhoneDone K C
bearer_skipped bearer n s (Connected l) = (record s { radio = with_bearers l (skipped_on bearer n l.bearers) }, only Done)
bearer_skipped bearer n s other = (s, only Done)

-- an idle phone keeps no key of its connection (TS 33.401 7.2.6.3)
abbrev pub act_does : {K C : Type 0} → Reading K C → ActRow → Phone K C → PhoneDone K C
act_does r (ActRefused answer) s = (s, only answer)
act_does r ServiceRequested s = service_requested r s s.context
act_does r CompleteResent s = complete_resent s s.radio
act_does r WentIdle s = (record s { radio = Idle }, only Done)
act_does r (PacketSent drb text) s = packet_sent drb text s s.radio
act_does r (RrcSent srb text) s = rrc_sent srb text s s.radio
act_does r (NasSent text) s = nas_sent text s s.context
act_does r (NasSkipped n) s = nas_skipped n s s.context
act_does r (BearerSkipped bearer n) s = bearer_skipped bearer n s s.radio

-- a row, with the KASME of an authentication
abbrev pub phone_does : {K C : Type 0} → Reading K C → PhoneRow → Option K → Phone K C → PhoneDone K C
phone_does r (OfAuth row) root s = auth_does row root s
phone_does r (OfNas row) root s = nas_does r row s
phone_does r (OfAir row) root s = air_does r row s
phone_does r (OfAct row) root s = act_does r row s
