-- What a station's choice of a row on a PDU of a bearer established: the one walk through its refusals. For the row that was chosen, all
-- that the passed tests say.
use Rattle.std.proofs.Common.{◌≡◌, refl, sym, subst, ℕ, ◌<◌, Bool, true, false, ◌==◌, List, Option, Some, None, option_map, Result, Ok, Err}
use Rattle.std.specs.Prelude.{⊤}
use Rattle.rec_base.specs.declared.faults.RecFault.{RecFault}
use Rattle.key_model.specs.Reading.{Reading}
use Rattle.pdcp_guard.specs.{declared.pdus.PdcpFault.PdcpFault, Srb.srb_count, Drb.drb_count}
use Rattle.rrc_rec.specs.{declared.records.RrcRecord.RrcRecord, Reading.read_rrc}
use Rattle.rrc_rec.specs.declared.records.RrcRecord.TheVariants.{SecurityModeComplete, ReconfigurationComplete, RrcData}
use Rattle.ho_prep.specs.declared.origins.By.{By}
use Rattle.ho_prep.specs.Prep.{Prep, map_prep, at_air}
use Rattle.ho_prep.proofs.CarryFacts.{at_air-map}
use Rattle.lte_machine.specs.Bearers.{Srb, Signalling1, Signalling2, Drb, Which, OnSrb, OnDrb, srb_counts, drb_counts}
use Rattle.lte_machine.specs.{Opening.Outcome, Opening.Opened, Reply.unseen, StationStep.plain_station}
use Rattle.lte_machine.specs.StationState.{Station, Context, map_context}
use Rattle.lte_machine.specs.StationRows.{AirRow, AirRefused, SecurityStarted, RrcOpened, PacketOpened, CompletedByS1, CompletedWithin, CompletedByX2}
use Rattle.lte_machine.specs.StationChoice.{runs_out, AirFront, AirSettled, OnStarting, OnSignalling, OnUser, OnPrepared, counted, starting_front, active_front, context_front, prepared_front, air_front_by, air_front, starting_row, rrc_row, completed_row, prepared_row, user_text, air_row}
use Rattle.lte_machine.proofs.{Tests.by_test, Tests.same_of, RecordFacts.one_left}

-- the context at the air address, whose security starts
pub record AtStarting {K C : Type 0} (s : Station K C) (air : ℕ) (on : Which) (pdu : List ℕ) (count : ℕ) : Type 0 where
  pub context : Context K C
  pub serving : s.context ≡ Some context
  pub there : context.air ≡ air
  pub starting : context.starting ≡ true
  pub on_is : on ≡ OnSrb Signalling1
  pub counts : srb_count context.bearers.srb1.receive pdu ≡ Ok count

-- an SRB, and a DRB, of the active context at the air address
pub record AtSignalling {K C : Type 0} (s : Station K C) (air : ℕ) (on : Which) (pdu : List ℕ) (srb : Srb) (count : ℕ) : Type 0 where
  pub context : Context K C
  pub serving : s.context ≡ Some context
  pub there : context.air ≡ air
  pub active : context.starting ≡ false
  pub on_is : on ≡ OnSrb srb
  pub counts : srb_count (srb_counts srb context.bearers).receive pdu ≡ Ok count

pub record AtUser {K C : Type 0} (s : Station K C) (air : ℕ) (on : Which) (pdu : List ℕ) (drb : Drb) (count : ℕ) : Type 0 where
  pub context : Context K C
  pub serving : s.context ≡ Some context
  pub there : context.air ≡ air
  pub active : context.starting ≡ false
  pub on_is : on ≡ OnDrb drb
  pub counts : drb_count (drb_counts drb context.bearers).receive pdu ≡ Ok count

-- the preparation at the air address, which came so
pub record AtPrepared {K C : Type 0} (s : Station K C) (air : ℕ) (on : Which) (pdu : List ℕ) (at : ℕ) (by : By) (count : ℕ) : Type 0 where
  pub at_is : at ≡ air
  pub prep : Prep K C
  pub found : at_air air s.preps ≡ Some prep
  pub by_is : by ≡ prep.by
  pub on_is : on ≡ OnSrb Signalling1
  pub counts : srb_count 0 pdu ≡ Ok count

-- a PDU of this front was opened
pub record Opens {K C : Type 0} (r : Reading K C) (s : Station K C) (air : ℕ) (on : Which) (pdu : List ℕ) (outcome : Outcome) (front : AirFront) : Type 0 where
  pub front_is : air_front (plain_station r s) air on pdu ≡ front
  pub text : List ℕ
  pub opened : outcome ≡ Opened text

module _ {K C : Type 0} (r : Reading K C) (s : Station K C) (air : ℕ) (on : Which) (pdu : List ℕ) where
  -- with a text that reads so
  abbrev pub Reads : Outcome → AirFront → RrcRecord → Type 0
  Reads outcome front x = (o : Opens r s air on pdu outcome front) × (read_rrc o.text ≡ Ok x)

  -- a Reconfiguration Complete at the preparation
  abbrev pub Completes : Outcome → ℕ → ℕ → By → Type 0
  Completes outcome at count by = AtPrepared s air on pdu at by count × Reads outcome (OnPrepared at by count) ReconfigurationComplete

  -- what was established of a row
  abbrev pub AirHas : Outcome → AirRow → Type 0
  AirHas outcome (AirRefused answer) = ⊤
  AirHas outcome (SecurityStarted count) = AtStarting s air on pdu count × Reads outcome (OnStarting count) SecurityModeComplete
  AirHas outcome (RrcOpened srb count (Some text)) = AtSignalling s air on pdu srb count × Reads outcome (OnSignalling srb count) (RrcData text)
  AirHas outcome (RrcOpened srb count None) = AtSignalling s air on pdu srb count × Reads outcome (OnSignalling srb count) ReconfigurationComplete
  AirHas outcome (PacketOpened drb count text) =
      AtUser s air on pdu drb count × (o : Opens r s air on pdu outcome (OnUser drb count)) × (text ≡ user_text o.text)
  AirHas outcome (CompletedByS1 at count) = Completes outcome at count By.S1
  AirHas outcome (CompletedWithin at count origin) =
      (from : Option (ℕ × ℕ)) × (origin ≡ option_map (λ o. record { source = o.0; attempt = o.1 }) from) × Completes outcome at count (By.Intra from)
  AirHas outcome (CompletedByX2 at count number) = (number ≡ s.next) × (s.next < 4294967296) × Completes outcome at count By.X2

  -- and of a front: what is settled is so however anything opens
  abbrev pub FrontHas : AirFront → Type 0
  FrontHas (AirSettled row) = (outcome : Outcome) → AirHas outcome row
  FrontHas (OnStarting count) = AtStarting s air on pdu count
  FrontHas (OnSignalling srb count) = AtSignalling s air on pdu srb count
  FrontHas (OnUser drb count) = AtUser s air on pdu drb count
  FrontHas (OnPrepared at by count) = AtPrepared s air on pdu at by count

  counted_has : (front : ℕ → AirFront) (count : Result ℕ PdcpFault) → ((n : ℕ) → count ≡ Ok n → FrontHas (front n)) → FrontHas (counted front count)
  counted_has front (Err fault) h = λ o. tt
  counted_has front (Ok n) h = h n refl

  module _ (c : Context K C) (e : s.context ≡ Some c) (there : c.air ≡ air) where
    starting_has : c.starting ≡ true → (w : Which) → on ≡ w → FrontHas (starting_front c.bearers w pdu)
    starting_has f (OnSrb Signalling1) g =
        counted_has OnStarting (srb_count c.bearers.srb1.receive pdu)
        (λ n h. record { context = c; serving = e; there = there; starting = f; on_is = g; counts = h })
    starting_has f (OnSrb Signalling2) g = λ o. tt
    starting_has f (OnDrb drb) g = λ o. tt

    active_has : c.starting ≡ false → (w : Which) → on ≡ w → FrontHas (active_front c.bearers w pdu)
    active_has f (OnSrb srb) g =
        counted_has (OnSignalling srb) (srb_count (srb_counts srb c.bearers).receive pdu)
        (λ n h. record { context = c; serving = e; there = there; active = f; on_is = g; counts = h })
    active_has f (OnDrb drb) g =
        counted_has (OnUser drb) (drb_count (drb_counts drb c.bearers).receive pdu)
        (λ n h. record { context = c; serving = e; there = there; active = f; on_is = g; counts = h })

    context_has : (starting : Bool) → c.starting ≡ starting → FrontHas (context_front starting c.bearers on pdu)
    context_has true f = starting_has f on refl
    context_has false f = active_has f on refl

  prepared_has : (o : Option (Prep K C))
      → at_air air s.preps ≡ o
      → (w : Which)
      → on ≡ w
      → FrontHas (prepared_front (option_map (map_prep unseen r.ncc) o) air w pdu)
  prepared_has (Some p) e (OnSrb Signalling1) g =
      counted_has (OnPrepared air p.by) (srb_count 0 pdu) (λ n h. record { at_is = refl; prep = p; found = e; by_is = refl; on_is = g; counts = h })
  prepared_has other e rest g = λ o. tt

  front_by : (o : Option (Context K C))
      → s.context ≡ o
      → FrontHas (air_front_by (option_map (map_context unseen r.ncc) o)
      (option_map (map_prep unseen r.ncc) (at_air air s.preps)) air on pdu)
  front_by None e = prepared_has (at_air air s.preps) refl on refl
  front_by (Some c) e =
      by_test FrontHas (c.air == air) _ _ (λ f. context_has c e (same_of c.air air f) c.starting refl) (λ f. prepared_has (at_air air s.preps) refl on refl)

  -- the front of a PDU
  pub front_has : FrontHas (air_front (plain_station r s) air on pdu)
  front_has =
      subst (λ p. FrontHas (air_front_by (plain_station r s).context p air on pdu))
      (sym (at_air-map unseen r.ncc air s.preps)) (front_by s.context refl)

  module _ (text : List ℕ) where
    started_has : (count : ℕ) → AtStarting s air on pdu count → (read : Result RrcRecord RecFault)
        → ((x : RrcRecord) → read ≡ Ok x → Reads (Opened text) (OnStarting count) x) → AirHas (Opened text) (starting_row count read)
    started_has count h (Ok SecurityModeComplete) f = (h, f SecurityModeComplete refl)
    started_has count h other f = tt

    rrc_has : (srb : Srb) (count : ℕ) → AtSignalling s air on pdu srb count → (read : Result RrcRecord RecFault)
        → ((x : RrcRecord) → read ≡ Ok x → Reads (Opened text) (OnSignalling srb count) x) → AirHas (Opened text) (rrc_row srb count read)
    rrc_has srb count h (Ok ReconfigurationComplete) f = (h, f ReconfigurationComplete refl)
    rrc_has srb count h (Ok (RrcData data')) f = (h, f (RrcData data') refl)
    rrc_has srb count h other f = tt

    completed_has : (at count : ℕ) (by : By) → Completes (Opened text) at count by → AirHas (Opened text) (completed_row s.next at count by)
    completed_has at count By.X2 h = by_test (AirHas (Opened text)) (runs_out 1 s.next) _ _ (λ e. tt) (λ e. (refl, one_left s.next e, h))
    completed_has at count By.S1 h = h
    completed_has at count (By.Intra origin) h = (origin, refl, h)

    arrived_has : (at count : ℕ) (by : By) → AtPrepared s air on pdu at by count → (read : Result RrcRecord RecFault)
        → ((x : RrcRecord) → read ≡ Ok x → Reads (Opened text) (OnPrepared at by count) x) → AirHas (Opened text) (prepared_row s.next at count by read)
    arrived_has at count by h (Ok ReconfigurationComplete) f = completed_has at count by (h, f ReconfigurationComplete refl)
    arrived_has at count by h other f = tt

  row_has : (front : AirFront)
      → air_front (plain_station r s) air on pdu ≡ front
      → FrontHas front
      → (outcome : Outcome)
      → AirHas outcome (air_row (plain_station r s) front outcome)
  row_has (AirSettled row) e h outcome = h outcome
  row_has (OnStarting count) e h (Opened text) =
      started_has text count h (read_rrc text) (λ x f. (record { front_is = e; text = text; opened = refl }, f))
  row_has (OnSignalling srb count) e h (Opened text) =
      rrc_has text srb count h (read_rrc text) (λ x f. (record { front_is = e; text = text; opened = refl }, f))
  row_has (OnUser drb count) e h (Opened text) = (h, record { front_is = e; text = text; opened = refl }, refl)
  row_has (OnPrepared at by count) e h (Opened text) =
      arrived_has text at count by h (read_rrc text) (λ x f. (record { front_is = e; text = text; opened = refl }, f))
  row_has other e h rest = tt

  -- the row of a PDU
  pub air_has : (outcome : Outcome) → AirHas outcome (air_row (plain_station r s) (air_front (plain_station r s) air on pdu) outcome)
  air_has outcome = row_has (air_front (plain_station r s) air on pdu) refl front_has outcome
