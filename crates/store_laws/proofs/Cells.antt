-- Each KeNB* of a step is for a cell in range: of an act, a record, a context, or a command that was read.
use Rattle.std.specs.{Prelude.◌&&◌, List.AllByRecursion as AllOf}
use Rattle.std.proofs.Common.{◌≡◌, refl, ℕ, zero, suc, ◌≤◌, ◌+◌, Bool, true, false, cond, ◌==◌, List, [], ◌++◌, length, Option, Some, None, Result, Ok, Err, subst}
use Rattle.alg_choice.specs.{declared.algs.Algs.Algs, declared.caps.Caps.Caps, Choice.are_supported}
use Rattle.annex_a_keys.specs.Cell.{Place, IsCell, greatest_pci, greatest_earfcn}
use Rattle.rec_base.specs.{BigEndian.number_at, declared.faults.RecFault.RecFault, declared.faults.RecFault.TheVariants.BadKind}
use Rattle.rec_fields.specs.Field.{◌>>=◌, of_size, station_at, ncc_at, from_one_at, algs_at, cell_at, number_in}
use Rattle.rec_fields.specs.Layout.{by_kind}
use Rattle.rec_fields.specs.Form.{Of, read_as, record_by, readers}
use Rattle.rec_fields.proofs.Fields.{bind_ok, ok_is, in_range_is}
use Rattle.rrc_rec.specs.declared.records.RrcRecord.{RrcRecord}
use Rattle.rrc_rec.specs.declared.records.RrcRecord.TheVariants.{SecurityModeCommand, SecurityModeComplete, Reconfiguration, ReconfigurationComplete, RrcData, KeyChange}
use Rattle.rrc_rec.specs.Forms.{rrc_forms, command, reconfiguration, any_text, key_change}
use Rattle.rrc_rec.specs.Reading.{read_rrc}
use Rattle.key_model.specs.Derivation.{Input, FromCell, Derivation}
use Rattle.key_model.specs.{Reading.Reading, HandoverLines.key_after}
use Rattle.nh_chain.specs.{Chain.nhs_made, Reach.handover_made, Reach.phone_of}
use Rattle.pdcp_guard.specs.{AsKeys.as_derivations, declared.pdus.PdcpFault.PdcpFault, Srb.srb_count, Drb.drb_count}
use Rattle.lte_machine.specs.Bearers.{Srb, Signalling1, Signalling2, Drb, Which, OnSrb, OnDrb, which, srb_counts, drb_counts}
use Rattle.lte_machine.specs.Opening.{Outcome, Opened, Differs}
use Rattle.lte_machine.specs.PhoneState.{Link, Radio, Idle, Connecting, Connected, Phone, PhoneInput, PhoneAirPdu}
use Rattle.lte_machine.specs.PhoneRows.{Authenticated, AirRow, HandedOver, KeyChanged, PhoneRow, OfAuth, OfNas, OfAir, OfAct}
use Rattle.lte_machine.specs.PhoneChoice.{PlainPhone, PlainInput, unciphered_text, AirFront, AirSettled, AtStart, AtSignalling, AtPacket, start_row, command_taken, change_taken, signalling_read, signalling_row, packet_row, air_row, air_front, waiting_front, linked_front, start_at, start_read, signalling_at, packet_at, phone_row, phone_front}
use Rattle.lte_machine.specs.PhoneKeys.{PhoneDone, authenticated, phone_does}
use Rattle.lte_machine.specs.PhoneStep.{phone_step, plain_phone, plain_input, front_of, phone_root}
use Rattle.lte_machine.proofs.PhoneCases.{NasCases, nas_case, AirCases, air_case, ActCases, act_case}
use Rattle.lte_machine.proofs.{KnownLists.all_append, Tests.Anything, Tests.by_test}

-- the cell of an input, if it has one, is in range
abbrev pub InputIn : {K : Type 0} → Input K → Type 0
InputIn (FromCell pci earfcn) = (pci ≤ greatest_pci) × (earfcn ≤ greatest_earfcn)
InputIn other = Unit {0}

abbrev pub CellsIn : {K : Type 0} → List (Derivation K) → Type 0
CellsIn ds = AllOf (λ d. InputIn d.input) ds

-- A COMMAND THAT WAS READ

abbrev pub CellOf : RrcRecord → Type 0
CellOf (Reconfiguration cell ncc algs station air) = IsCell cell
CellOf (KeyChange cell algs station air) = IsCell cell
CellOf other = Unit {0}

cell_in : (octets : List ℕ) (place : ℕ) (cell : Place) → cell_at octets place ≡ Ok cell → IsCell cell
unfolding cell_at
cell_in octets place cell e =
    let a = bind_ok (number_in 0 greatest_pci octets place 2)
    (λ pci.
    number_in 0 greatest_earfcn octets (place + 2) 4 >>= λ earfcn. Ok (record { pci = pci; earfcn = earfcn }))
    cell e in
    let b = bind_ok (number_in 0 greatest_earfcn octets (place + 2) 4) (λ earfcn. Ok (record { pci = a.0; earfcn = earfcn })) cell a.2 in
    let p = in_range_is 0 greatest_pci octets place 2 a.0 a.1 in
    let q = in_range_is 0 greatest_earfcn octets (place + 2) 4 b.0 b.1 in
    subst IsCell (ok_is (record { pci = a.0; earfcn = b.0 }) cell b.2) (p.2, q.2)

command_cell : (octets : List ℕ) (r : RrcRecord) → record_by command octets ≡ Ok r → CellOf r
unfolding read_as
command_cell octets r e =
    let s = bind_ok (of_size 7 octets)
    (λ size. algs_at octets 1 >>= λ algs.
    station_at octets 2 >>= λ station. from_one_at octets 3 >>= λ air. Ok (SecurityModeCommand algs station air))
    r e in
    let a = bind_ok (algs_at octets 1)
    (λ algs.
    station_at octets 2 >>= λ station. from_one_at octets 3 >>= λ air. Ok (SecurityModeCommand algs station air))
    r s.2 in
    let b = bind_ok (station_at octets 2) (λ station. from_one_at octets 3 >>= λ air. Ok (SecurityModeCommand a.0 station air)) r a.2 in
    let c = bind_ok (from_one_at octets 3) (λ air. Ok (SecurityModeCommand a.0 b.0 air)) r b.2 in
    subst CellOf (ok_is (SecurityModeCommand a.0 b.0 c.0) r c.2) tt

bare_cell : (octets : List ℕ) (fixed r : RrcRecord) → CellOf fixed → read_as (Of []) (λ none. fixed) octets ≡ Ok r → CellOf r
unfolding read_as
bare_cell octets fixed r h e = let s = bind_ok (of_size 1 octets) (λ size. Ok fixed) r e in subst CellOf (ok_is fixed r s.2) h

reconfiguration_cell : (octets : List ℕ) (r : RrcRecord) → record_by reconfiguration octets ≡ Ok r → CellOf r
unfolding read_as
reconfiguration_cell octets r e =
    let s = bind_ok (of_size 14 octets)
    (λ size. cell_at octets 1 >>= λ cell. ncc_at octets 7 >>= λ ncc. algs_at octets 8 >>= λ algs.
    station_at octets 9 >>= λ station.
    from_one_at octets 10 >>= λ air. Ok (Reconfiguration cell ncc algs station air))
    r e in
    let p = bind_ok (cell_at octets 1)
    (λ cell. ncc_at octets 7 >>= λ ncc. algs_at octets 8 >>= λ algs. station_at octets 9 >>= λ station.
    from_one_at octets 10 >>= λ air. Ok (Reconfiguration cell ncc algs station air))
    r s.2 in
    let n = bind_ok (ncc_at octets 7)
    (λ ncc. algs_at octets 8 >>= λ algs. station_at octets 9 >>= λ station.
    from_one_at octets 10 >>= λ air. Ok (Reconfiguration p.0 ncc algs station air))
    r p.2 in
    let a = bind_ok (algs_at octets 8)
    (λ algs. station_at octets 9 >>= λ station.
    from_one_at octets 10 >>= λ air. Ok (Reconfiguration p.0 n.0 algs station air))
    r n.2 in
    let b = bind_ok (station_at octets 9) (λ station. from_one_at octets 10 >>= λ air. Ok (Reconfiguration p.0 n.0 a.0 station air)) r a.2 in
    let c = bind_ok (from_one_at octets 10) (λ air. Ok (Reconfiguration p.0 n.0 a.0 b.0 air)) r b.2 in
    subst CellOf (ok_is (Reconfiguration p.0 n.0 a.0 b.0 c.0) r c.2) (cell_in octets 1 p.0 p.1)

data_cell : (octets : List ℕ) (r : RrcRecord) → record_by any_text octets ≡ Ok r → CellOf r
unfolding read_as
data_cell octets r e = let a = bind_ok _ (λ text. Ok (RrcData text)) r e in subst CellOf (ok_is (RrcData a.0) r a.2) tt

change_cell : (octets : List ℕ) (r : RrcRecord) → record_by key_change octets ≡ Ok r → CellOf r
unfolding read_as
change_cell octets r e =
    let s = bind_ok (of_size 13 octets)
    (λ size. cell_at octets 1 >>= λ cell. algs_at octets 7 >>= λ algs.
    station_at octets 8 >>= λ station. from_one_at octets 9 >>= λ air. Ok (KeyChange cell algs station air))
    r e in
    let p = bind_ok (cell_at octets 1)
    (λ cell. algs_at octets 7 >>= λ algs.
    station_at octets 8 >>= λ station. from_one_at octets 9 >>= λ air. Ok (KeyChange cell algs station air))
    r s.2 in
    let a = bind_ok (algs_at octets 7) (λ algs. station_at octets 8 >>= λ station. from_one_at octets 9 >>= λ air. Ok (KeyChange p.0 algs station air)) r p.2 in
    let b = bind_ok (station_at octets 8) (λ station. from_one_at octets 9 >>= λ air. Ok (KeyChange p.0 a.0 station air)) r a.2 in
    let c = bind_ok (from_one_at octets 9) (λ air. Ok (KeyChange p.0 a.0 b.0 air)) r b.2 in
    subst CellOf (ok_is (KeyChange p.0 a.0 b.0 c.0) r c.2) (cell_in octets 1 p.0 p.1)

read_either : (b : Bool) (x y : Result RrcRecord RecFault) (r : RrcRecord) → (x ≡ Ok r → CellOf r) → (y ≡ Ok r → CellOf r) → cond b x y ≡ Ok r → CellOf r
read_either true x y r p q e = p e
read_either false x y r p q e = q e

kind_cell : (octets : List ℕ) (kind : ℕ) (r : RrcRecord) → by_kind BadKind (readers rrc_forms) kind octets ≡ Ok r → CellOf r
kind_cell octets kind r =
    read_either (kind == 0x01) _ _ r (command_cell octets r)
    (read_either (kind == 0x02) _ _ r (bare_cell octets SecurityModeComplete r tt)
    (read_either (kind == 0x03) _ _ r (reconfiguration_cell octets r)
    (read_either (kind == 0x04) _ _ r (bare_cell octets ReconfigurationComplete r tt)
    (read_either (kind == 0x05) _ _ r (data_cell octets r)
    (read_either (kind == 0x06) _ _ r (change_cell octets r) (λ e. absurd cc))))))

pub read_cell : (octets : List ℕ) (r : RrcRecord) → read_rrc octets ≡ Ok r → CellOf r
unfolding read_rrc
read_cell octets r = read_either (length octets == 0) _ _ r (λ e. absurd cc) (kind_cell octets (number_at octets 0 1) r)

-- THE PHONE'S ROWS

abbrev AirCell : AirRow → Type 0
AirCell (HandedOver cell steps algs station air) = IsCell cell
AirCell (KeyChanged cell algs station air) = IsCell cell
AirCell other = Unit {0}

abbrev RowCell : PhoneRow → Type 0
RowCell (OfAir row) = AirCell row
RowCell other = Unit {0}

taken_cell : (caps : Caps) (srb : Srb) (own : ℕ) (cell : Place) (ncc : ℕ) (algs : Algs) (station air : ℕ)
    → IsCell cell
    → AirCell (command_taken caps srb own cell ncc algs station air)
taken_cell caps Signalling1 own cell ncc algs station air h = by_test AirCell (are_supported caps algs) _ _ (λ e. h) (λ e. tt)
taken_cell caps Signalling2 own cell ncc algs station air h = tt

change_taken_cell : (caps : Caps) (srb : Srb) (cell : Place) (algs : Algs) (station air : ℕ)
    → IsCell cell
    → AirCell (change_taken caps srb cell algs station air)
change_taken_cell caps Signalling1 cell algs station air h = by_test AirCell (are_supported caps algs) _ _ (λ e. h) (λ e. tt)
change_taken_cell caps Signalling2 cell algs station air h = tt

read_row_cell : (caps : Caps) (srb : Srb) (count own : ℕ) (text : List ℕ) (x : Result RrcRecord RecFault)
    → read_rrc text ≡ x
    → AirCell (signalling_read caps srb count own x)
read_row_cell caps srb count own text (Ok (Reconfiguration cell ncc algs station air)) e =
    taken_cell caps srb own cell ncc algs station air (read_cell text (Reconfiguration cell ncc algs station air) e)
read_row_cell caps srb count own text (Ok (KeyChange cell algs station air)) e =
    change_taken_cell caps srb cell algs station air (read_cell text (KeyChange cell algs station air) e)
read_row_cell caps srb count own text other e = tt

signalling_cell : (caps : Caps) (srb : Srb) (count own : ℕ) (outcome : Outcome) → AirCell (signalling_row caps srb count own outcome)
signalling_cell caps srb count own (Differs wanted got) = tt
signalling_cell caps srb count own (Opened text) = read_row_cell caps srb count own text (read_rrc text) refl

start_cell : (count : ℕ) (algs : Algs) (named : Bool) (station air : ℕ) (outcome : Outcome) → AirCell (start_row count algs named station air outcome)
start_cell count algs named station air (Differs wanted got) = tt
start_cell count algs named station air (Opened text) = by_test AirCell named _ _ (λ e. tt) (λ e. tt)

packet_cell : (drb : Drb) (count : ℕ) (outcome : Outcome) → AirCell (packet_row drb count outcome)
packet_cell drb count (Differs wanted got) = tt
packet_cell drb count (Opened text) = tt

-- before an opening no cell is read
abbrev FrontCell : AirFront → Type 0
FrontCell (AirSettled row) = AirCell row
FrontCell other = Unit {0}

start_read_cell : (caps : Caps) (station air count : ℕ) (x : Result RrcRecord RecFault) → FrontCell (start_read caps station air count x)
start_read_cell caps station air count (Ok (SecurityModeCommand algs named_station named_air)) =
    by_test FrontCell (are_supported caps algs) _ _ (λ e. tt) (λ e. tt)
start_read_cell caps station air count other = tt

start_at_cell : (caps : Caps) (station air : ℕ) (pdu : List ℕ) (x : Result ℕ PdcpFault) → FrontCell (start_at caps station air pdu x)
start_at_cell caps station air pdu (Err fault) = tt
start_at_cell caps station air pdu (Ok count) = start_read_cell caps station air count (read_rrc (unciphered_text pdu))

waiting_cell : (caps : Caps) (station air : ℕ) (pdu : List ℕ) (on : Which) → FrontCell (waiting_front caps station air pdu on)
waiting_cell caps station air pdu (OnSrb Signalling1) = start_at_cell caps station air pdu (srb_count 0 pdu)
waiting_cell caps station air pdu (OnSrb Signalling2) = tt
waiting_cell caps station air pdu (OnDrb drb) = tt

signalling_at_cell : (srb : Srb) (own : ℕ) (x : Result ℕ PdcpFault) → FrontCell (signalling_at srb own x)
signalling_at_cell srb own (Err fault) = tt
signalling_at_cell srb own (Ok count) = tt

packet_at_cell : (drb : Drb) (x : Result ℕ PdcpFault) → FrontCell (packet_at drb x)
packet_at_cell drb (Err fault) = tt
packet_at_cell drb (Ok count) = tt

linked_cell : (l : Link (Unit {0}) ℕ) (pdu : List ℕ) (on : Which) → FrontCell (linked_front l pdu on)
linked_cell l pdu (OnSrb srb) = signalling_at_cell srb l.chain.number (srb_count (srb_counts srb l.bearers).receive pdu)
linked_cell l pdu (OnDrb drb) = packet_at_cell drb (drb_count (drb_counts drb l.bearers).receive pdu)

air_front_cell : (caps : Caps) (station air : ℕ) (pdu : List ℕ) (on : Which) (radio : Radio (Unit {0}) ℕ) → FrontCell (air_front caps station air pdu on radio)
air_front_cell caps station air pdu on Idle = tt
air_front_cell caps station air pdu on (Connecting w) = waiting_cell caps station air pdu on
air_front_cell caps station air pdu on (Connected l) =
    by_test FrontCell ((l.station == station) && (l.air == air)) _ _ (λ e. linked_cell l pdu on) (λ e. tt)

air_row_cell : (caps : Caps) (front : AirFront) (outcome : Outcome) → FrontCell front → AirCell (air_row caps front outcome)
air_row_cell caps (AirSettled row) outcome h = h
air_row_cell caps (AtStart count algs named station air) outcome h = start_cell count algs named station air outcome
air_row_cell caps (AtSignalling srb count own) outcome h = signalling_cell caps srb count own outcome
air_row_cell caps (AtPacket drb count) outcome h = packet_cell drb count outcome

phone_row_cell : (s : PlainPhone) (i : PlainInput) (outcome : Outcome) → RowCell (phone_row s (phone_front s i) outcome)
phone_row_cell s (PhoneAirPdu station air bearer pdu) outcome =
    air_row_cell s.caps (air_front s.caps station air pdu (which bearer) s.radio) outcome (air_front_cell s.caps station air pdu (which bearer) s.radio)
phone_row_cell s other outcome = tt

-- WHAT THEY DERIVE

nhs_cells : {K C : Type 0} (r : Reading K C) (root sync : K) (steps : ℕ) → CellsIn (nhs_made r root sync steps)
nhs_cells r root sync zero = tt
nhs_cells r root sync (suc steps) = all_append (λ d. InputIn d.input) (nhs_made r root sync steps) _ (nhs_cells r root sync steps) (tt, tt)

module _ {K C : Type 0} (r : Reading K C) (s : Phone K C) where
  abbrev Cells : Phone K C → PhoneDone K C → Type 0
  Cells t d = CellsIn d.1.derived

  handed_over_cells : (cell : Place) (steps : ℕ) (algs : Algs) (l : Link K C) → IsCell cell
      → CellsIn (handover_made r (phone_of l.chain l.kenb) steps cell
      ++ as_derivations r (key_after r (phone_of l.chain l.kenb) steps cell.pci cell.earfcn).key algs)
  handed_over_cells cell steps algs l h =
      let star = key_after r (phone_of l.chain l.kenb) steps cell.pci cell.earfcn in
      all_append (λ d. InputIn d.input) (handover_made r (phone_of l.chain l.kenb) steps cell) (as_derivations r star.key algs)
      (all_append (λ d. InputIn d.input) (nhs_made r l.chain.root l.chain.sync steps) _ (nhs_cells r l.chain.root l.chain.sync steps) (h, tt))
      (tt, (tt, (tt, tt)))

  authenticated_cells : (ksi : ℕ) (o : Option K) → CellsIn (authenticated ksi s o).1.derived
  authenticated_cells ksi None = tt
  authenticated_cells ksi (Some root) = tt

  nas_cells : NasCases r Anything Cells s
  nas_cells = record {
    nothing = λ t answer. tt;
    rejected = λ answer cause k. tt;
    rejected_under = λ answer cause c k. tt;
    taken = λ algs count p k. (tt, (tt, (tt, tt)));
    taken_connected = λ algs count p k. (tt, (tt, tt));
    opened = λ count text c k. tt;
  }

  air_cells : AirCases r (λ t row. AirCell row) Cells s
  air_cells = record {
    nothing = λ t answer. tt;
    secured = λ station air algs count w k. (tt, (tt, (tt, tt)));
    handed_over = λ cell steps algs station air l k. handed_over_cells cell steps algs l k;
    changed = λ cell algs station air l c e k. (tt, (k, (tt, (tt, (tt, tt)))));
    rrc = λ srb count text l k. tt;
    packet = λ drb count text l k. tt;
  }

  act_cells : ActCases r Anything Cells s
  act_cells = record {
    nothing = λ t answer. tt;
    requested = λ c k. (tt, tt);
    resent = λ l k. tt;
    idle = λ k. tt;
    packet = λ drb text l k. tt;
    rrc = λ srb text l k. tt;
    nas = λ text c k. tt;
    nas_skipped = λ n c k. tt;
    bearer_skipped = λ on n l k. tt;
  }

  phone_does_cells : (row : PhoneRow) (root : Option K) → RowCell row → CellsIn (phone_does r row root s).1.derived
  phone_does_cells (OfAuth (Authenticated ksi)) root h = authenticated_cells ksi root
  phone_does_cells (OfNas row) root h = nas_case r Anything Cells s nas_cells row tt
  phone_does_cells (OfAir row) root h = air_case r _ Cells s air_cells row h
  phone_does_cells (OfAct row) root h = act_case r Anything Cells s act_cells row tt

  pub phone_step_cells : (i : PhoneInput K) (outcome : Outcome) → CellsIn (phone_step r s i outcome).1.derived
  phone_step_cells i outcome =
      phone_does_cells (phone_row (plain_phone r s) (front_of r s i) outcome) (phone_root i) (phone_row_cell (plain_phone r s) (plain_input i) outcome)
