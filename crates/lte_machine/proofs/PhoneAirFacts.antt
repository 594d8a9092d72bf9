-- What the phone's choice of a row on a PDU of a radio bearer established: the one walk through its refusals. For the front and the
-- row that were chosen, all that the passed tests say.
use Rattle.std.proofs.Common.{◌≡◌, refl, ap, ℕ, Bool, true, false, ◌==◌, ◌&&◌, List, take, Result, Ok, Err, arith}
use Rattle.std.proofs.lemmas.Bool.Decides.{nat_tests}
use Rattle.std.specs.Prelude.{⊤}
use Rattle.alg_choice.specs.{Choice.are_supported, declared.algs.Algs.Algs}
use Rattle.annex_a_keys.specs.Cell.{Place}
use Rattle.key_model.specs.{HandoverLines.steps_to, Reading.Reading}
use Rattle.pdcp_guard.specs.{Drb.drb_count, Srb.srb_count, declared.pdus.PdcpFault.PdcpFault}
use Rattle.rec_base.specs.{Lengths.longest_packet, declared.faults.RecFault.RecFault}
use Rattle.rrc_rec.specs.{Reading.read_rrc, declared.records.RrcRecord.RrcRecord}
use Rattle.rrc_rec.specs.declared.records.RrcRecord.TheVariants.{SecurityModeCommand, Reconfiguration, RrcData, KeyChange}
use Rattle.lte_machine.specs.Bearers.{Srb, Signalling1, Signalling2, Drb, Which, OnSrb, OnDrb, srb_counts, drb_counts}
use Rattle.lte_machine.specs.Opening.{Outcome, Opened, Differs}
use Rattle.lte_machine.specs.PhoneChoice.{unciphered_text, AirFront, AirSettled, AtStart, AtSignalling, AtPacket, start_read, start_at, waiting_front, signalling_at, packet_at, linked_front, air_front, command_taken, change_taken, signalling_read, air_row}
use Rattle.lte_machine.specs.PhoneRows.{AirRow, AirRefused, LinkSecured, HandedOver, KeyChanged, RrcOpened, PacketOpened}
use Rattle.lte_machine.specs.PhoneState.{Waiting, Link, Radio, Idle, Connecting, Connected, Phone, map_radio, map_link}
use Rattle.lte_machine.specs.{PhoneStep.plain_phone, Reply.unseen}
use Rattle.lte_machine.proofs.Tests.{by_test}

-- what a test on station and air address says
pub both_named : (a b c d : ℕ) → ((a == b) && (c == d)) ≡ true → (a ≡ b) × (c ≡ d)
both_named a b c d e = grind (arith, nat_tests)

-- what a PDU at an air address on a bearer comes to before it is opened
abbrev pub phone_air : {K C : Type 0} → Reading K C → Phone K C → ℕ → ℕ → Which → List ℕ → AirFront
phone_air r s station air on pdu = air_front s.caps station air pdu on (plain_phone r s).radio

-- a command that starts the security of a connection, to be opened by the KeNB that the phone waits with
pub record Waits {K C : Type 0} (s : Phone K C) (station air : ℕ) (on : Which) (pdu : List ℕ) (count : ℕ) (algs : Algs) (named : Bool) (st a : ℕ) : Type 0 where
  pub waiting : Waiting K
  pub waits : s.radio ≡ Connecting waiting
  pub bearer : on ≡ OnSrb Signalling1
  pub counted : srb_count 0 pdu ≡ Ok count
  pub named_station : ℕ
  pub named_air : ℕ
  pub reads : read_rrc (unciphered_text pdu) ≡ Ok (SecurityModeCommand algs named_station named_air)
  pub supported : are_supported s.caps algs ≡ true
  pub named_is : named ≡ ((named_station == station) && (named_air == air))
  pub station_is : st ≡ station
  pub air_is : a ≡ air

-- a PDU at the connection's own address
pub record Linked {K C : Type 0} (s : Phone K C) (station air : ℕ) : Type 0 where
  pub link : Link K C
  pub connected : s.radio ≡ Connected link
  pub station_is : link.station ≡ station
  pub air_is : link.air ≡ air

-- on an SRB, to be opened by the keys of the connection
pub record Hears {K C : Type 0} (r : Reading K C) (s : Phone K C) (station air : ℕ) (on : Which) (pdu : List ℕ) (srb : Srb) (count own : ℕ) : Type 0 where
  pub here : Linked s station air
  pub bearer : on ≡ OnSrb srb
  pub counted : srb_count (srb_counts srb here.link.bearers).receive pdu ≡ Ok count
  pub own_is : own ≡ r.ncc here.link.chain.number

-- on a DRB
pub record Takes {K C : Type 0} (s : Phone K C) (station air : ℕ) (on : Which) (pdu : List ℕ) (drb : Drb) (count : ℕ) : Type 0 where
  pub here : Linked s station air
  pub bearer : on ≡ OnDrb drb
  pub counted : drb_count (drb_counts drb here.link.bearers).receive pdu ≡ Ok count

-- an RRC text of the connection that opened
pub record Reads {K C : Type 0} (r : Reading K C) (s : Phone K C) (station air : ℕ) (on : Which) (pdu : List ℕ)
    (outcome : Outcome) (srb : Srb) (count : ℕ) (x : RrcRecord) : Type 0 where
  pub own : ℕ
  pub front : phone_air r s station air on pdu ≡ AtSignalling srb count own
  pub by : Hears r s station air on pdu srb count own
  pub text : List ℕ
  pub opened : outcome ≡ Opened text
  pub reads : read_rrc text ≡ Ok x

-- the security of the connection starts: the command opened, and names the phone's station and air address
pub record Secures {K C : Type 0} (r : Reading K C) (s : Phone K C) (station air : ℕ) (on : Which) (pdu : List ℕ)
    (outcome : Outcome) (st a : ℕ) (algs : Algs) (count : ℕ) : Type 0 where
  pub named : Bool
  pub front : phone_air r s station air on pdu ≡ AtStart count algs named st a
  pub by : Waits s station air on pdu count algs named st a
  pub is_named : named ≡ true
  pub text : List ℕ
  pub opened : outcome ≡ Opened text

-- a handover command with algorithms of the phone's own, and the steps of the chain from its number to the command's
pub record Orders {K C : Type 0} (r : Reading K C) (s : Phone K C) (station air : ℕ) (on : Which) (pdu : List ℕ)
    (outcome : Outcome) (cell : Place) (steps : ℕ) (algs : Algs) (st a : ℕ) : Type 0 where
  pub count : ℕ
  pub ncc : ℕ
  pub read : Reads r s station air on pdu outcome Signalling1 count (Reconfiguration cell ncc algs st a)
  pub supported : are_supported s.caps algs ≡ true
  pub steps_is : steps ≡ steps_to read.own ncc

-- what was established of a row, and of a front: what is settled is so however anything opens
module _ {K C : Type 0} (r : Reading K C) (s : Phone K C) (station air : ℕ) (on : Which) (pdu : List ℕ) where
  abbrev pub AirHas : Outcome → AirRow → Type 0
  AirHas outcome (AirRefused answer) = ⊤
  AirHas outcome (LinkSecured st a algs count) = Secures r s station air on pdu outcome st a algs count
  AirHas outcome (HandedOver cell steps algs st a) = Orders r s station air on pdu outcome cell steps algs st a
  AirHas outcome (KeyChanged cell algs st a) =
      (count : ℕ) × Reads r s station air on pdu outcome Signalling1 count (KeyChange cell algs st a) × (are_supported s.caps algs ≡ true)
  AirHas outcome (RrcOpened srb count text) = Reads r s station air on pdu outcome srb count (RrcData text)
  AirHas outcome (PacketOpened drb count text) =
      Takes s station air on pdu drb count × (whole : List ℕ) × (outcome ≡ Opened whole) × (text ≡ take longest_packet whole)

  abbrev pub FrontHas : AirFront → Type 0
  FrontHas (AirSettled row) = (outcome : Outcome) → AirHas outcome row
  FrontHas (AtStart count algs named st a) = Waits s station air on pdu count algs named st a
  FrontHas (AtSignalling srb count own) = Hears r s station air on pdu srb count own
  FrontHas (AtPacket drb count) = Takes s station air on pdu drb count

  -- a phone that waits for the security of its connection
  start_read_has : (w : Waiting K) → s.radio ≡ Connecting w → on ≡ OnSrb Signalling1 → (count : ℕ) → srb_count 0 pdu ≡ Ok count
      → (read : Result RrcRecord RecFault) → read_rrc (unciphered_text pdu) ≡ read → FrontHas (start_read s.caps station air count read)
  start_read_has w e b count c (Ok (SecurityModeCommand algs ns na)) f =
      by_test FrontHas (are_supported s.caps algs) _ _
      (λ k. record {
        waiting = w;
        waits = e;
        bearer = b;
        counted = c;
        named_station = ns;
        named_air = na;
        reads = f;
        supported = k;
        named_is = refl;
        station_is = refl;
        air_is = refl;
      })
      (λ k o. tt)
  start_read_has w e b count c other f = λ o. tt

  start_at_has : (w : Waiting K)
      → s.radio ≡ Connecting w
      → on ≡ OnSrb Signalling1
      → (count : Result ℕ PdcpFault)
      → srb_count 0 pdu ≡ count
      → FrontHas (start_at s.caps station air pdu count)
  start_at_has w e b (Err fault) c = λ o. tt
  start_at_has w e b (Ok count) c = start_read_has w e b count c (read_rrc (unciphered_text pdu)) refl

  waiting_has : (w : Waiting K) → s.radio ≡ Connecting w → (which : Which) → on ≡ which → FrontHas (waiting_front s.caps station air pdu which)
  waiting_has w e (OnSrb Signalling1) b = start_at_has w e b (srb_count 0 pdu) refl
  waiting_has w e (OnSrb Signalling2) b = λ o. tt
  waiting_has w e (OnDrb drb) b = λ o. tt

  -- a connected phone
  signalling_at_has : (here : Linked s station air) (srb : Srb)
      → on ≡ OnSrb srb
      → (count : Result ℕ PdcpFault)
      → srb_count (srb_counts srb here.link.bearers).receive pdu ≡ count
      → FrontHas (signalling_at srb (r.ncc here.link.chain.number) count)
  signalling_at_has here srb b (Err fault) c = λ o. tt
  signalling_at_has here srb b (Ok count) c = record { here = here; bearer = b; counted = c; own_is = refl }

  packet_at_has : (here : Linked s station air) (drb : Drb)
      → on ≡ OnDrb drb
      → (count : Result ℕ PdcpFault)
      → drb_count (drb_counts drb here.link.bearers).receive pdu ≡ count
      → FrontHas (packet_at drb count)
  packet_at_has here drb b (Err fault) c = λ o. tt
  packet_at_has here drb b (Ok count) c = record { here = here; bearer = b; counted = c }

  linked_has : (l : Link K C)
      → s.radio ≡ Connected l
      → l.station ≡ station
      → l.air ≡ air
      → (which : Which)
      → on ≡ which
      → FrontHas (linked_front (map_link unseen r.ncc l) pdu which)
  linked_has l e f g (OnSrb srb) b =
      signalling_at_has (record { link = l; connected = e; station_is = f; air_is = g }) srb b (srb_count (srb_counts srb l.bearers).receive pdu) refl
  linked_has l e f g (OnDrb drb) b =
      packet_at_has (record { link = l; connected = e; station_is = f; air_is = g }) drb b (drb_count (drb_counts drb l.bearers).receive pdu) refl

  radio_has : (radio : Radio K C) → s.radio ≡ radio → FrontHas (air_front s.caps station air pdu on (map_radio unseen r.ncc radio))
  radio_has Idle e = λ o. tt
  radio_has (Connecting w) e = waiting_has w e on refl
  radio_has (Connected l) e =
      by_test FrontHas ((l.station == station) && (l.air == air)) _ _
      (λ b. let here = both_named l.station station l.air air b in linked_has l e here.0 here.1 on refl) (λ b o. tt)

  -- the front of a PDU
  pub front_has : FrontHas (phone_air r s station air on pdu)
  front_has = radio_has s.radio refl

  -- a text of the connection
  command_has : (outcome : Outcome) (srb : Srb) (count own ncc : ℕ) (cell : Place) (algs : Algs) (st a : ℕ)
      → (x : Reads r s station air on pdu outcome srb count (Reconfiguration cell ncc algs st a))
      → own ≡ x.own → AirHas outcome (command_taken s.caps srb own cell ncc algs st a)
  command_has outcome Signalling1 count own ncc cell algs st a x e =
      by_test (AirHas outcome) (are_supported s.caps algs) _ _
      (λ b. record { count = count; ncc = ncc; read = x; supported = b; steps_is = ap (λ n. steps_to n ncc) e }) (λ b. tt)
  command_has outcome Signalling2 count own ncc cell algs st a x e = tt

  change_has : (outcome : Outcome) (srb : Srb) (count : ℕ) (cell : Place) (algs : Algs) (st a : ℕ)
      → Reads r s station air on pdu outcome srb count (KeyChange cell algs st a)
      → AirHas outcome (change_taken s.caps srb cell algs st a)
  change_has outcome Signalling1 count cell algs st a x = by_test (AirHas outcome) (are_supported s.caps algs) _ _ (λ b. (count, x, b)) (λ b. tt)
  change_has outcome Signalling2 count cell algs st a x = tt

  text_has : (srb : Srb) (count own : ℕ) (text : List ℕ)
      → phone_air r s station air on pdu ≡ AtSignalling srb count own
      → Hears r s station air on pdu srb count own
      → (read : Result RrcRecord RecFault) → read_rrc text ≡ read → AirHas (Opened text) (signalling_read s.caps srb count own read)
  text_has srb count own text e h (Ok (Reconfiguration cell ncc algs st a)) f =
      command_has (Opened text) srb count own ncc cell algs st a (record { own = own; front = e; by = h; text = text; opened = refl; reads = f }) refl
  text_has srb count own text e h (Ok (RrcData data_text)) f = record { own = own; front = e; by = h; text = text; opened = refl; reads = f }
  text_has srb count own text e h (Ok (KeyChange cell algs st a)) f =
      change_has (Opened text) srb count cell algs st a (record { own = own; front = e; by = h; text = text; opened = refl; reads = f })
  text_has srb count own text e h other f = tt

  row_has : (front : AirFront) → phone_air r s station air on pdu ≡ front → FrontHas front → (outcome : Outcome) → AirHas outcome (air_row s.caps front outcome)
  row_has (AirSettled row) e h outcome = h outcome
  row_has (AtStart count algs named st a) e h (Differs wanted got) = tt
  row_has (AtStart count algs true st a) e h (Opened text) = record { named = true; front = e; by = h; is_named = refl; text = text; opened = refl }
  row_has (AtStart count algs false st a) e h (Opened text) = tt
  row_has (AtSignalling srb count own) e h (Differs wanted got) = tt
  row_has (AtSignalling srb count own) e h (Opened text) = text_has srb count own text e h (read_rrc text) refl
  row_has (AtPacket drb count) e h (Differs wanted got) = tt
  row_has (AtPacket drb count) e h (Opened text) = (h, text, refl, refl)

  -- the row of a PDU
  pub air_has : (outcome : Outcome) → AirHas outcome (air_row s.caps (phone_air r s station air on pdu) outcome)
  air_has outcome = row_has (phone_air r s station air on pdu) refl front_has outcome
