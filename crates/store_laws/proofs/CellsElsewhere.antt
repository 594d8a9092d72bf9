-- The derivations of a station and of the core: each KeNB* is for a cell in range.
use Rattle.std.proofs.Common.{◌≡◌, subst, ℕ, Option, Some, None, Ok, Err}
use Rattle.alg_choice.specs.declared.caps.Caps.{Caps}
use Rattle.annex_a_keys.specs.Cell.{IsCell}
use Rattle.lte_events.specs.{Ranges.IsStationAct, declared.acts.StationAct.StationAct, declared.setups.FirstNcc.FirstNcc}
use Rattle.lte_events.specs.declared.setups.FirstNcc.TheVariants.{One, Two}
use Rattle.key_model.specs.Reading.{Reading}
use Rattle.s1x2_rec.specs.{Content.map_content, Fields.Fields, Fields.HandoverRequest, Spelling.FieldsInRange}
use Rattle.lte_machine.specs.{Bearers.which, Opening.Outcome, Reply.Reply, Reply.unseen, StationRows.Admitted, StationStep.plain_station, StationStep.station_step, CoreState.Core, CoreState.CoreInput, CoreRows.CoreRow, CoreChoice.core_row}
use Rattle.lte_machine.specs.StationState.{Station, Context, Interface, StationInput, StationActs, AirPdu, StationRecord}
use Rattle.lte_machine.specs.StationChoice.{record_row, air_front, air_row, act_row}
use Rattle.lte_machine.specs.CoreRows as rows
use Rattle.lte_machine.specs.CoreKeys as does
use Rattle.lte_machine.specs.CoreStep.{core_step, plain_core, core_front_of, core_root}
use Rattle.lte_machine.proofs.RecordFacts.{AdmitsOnS1, RecordHas, record_has}
use Rattle.lte_machine.proofs.CoreCases as at_core
use Rattle.lte_machine.proofs.{Tests.Anything, StationActFacts.StationActHas, StationActFacts.station_act_has}
use Rattle.lte_machine.proofs.StationCases.{Any, RecordCases, AirCases, ActCases, record_case, air_case, act_case}
use Rattle.lte_machine.proofs.RangeHolds.{ContextRanged, StationRanged, StationInputRanged}
use Rattle.store_laws.proofs.Cells.{CellsIn}

-- A STATION

module _ {K C : Type 0} (r : Reading K C) (s : Station K C) where
  -- the cell of a request that is admitted, and that of the context
  admitted_cell : (on : Interface) (fields : Fields) (w : Admitted) → AdmitsOnS1 r s on fields w → FieldsInRange fields → IsCell w.cell
  admitted_cell on fields w f i =
      let (_, (_, (_, (cell_is, _)))) : FieldsInRange (HandoverRequest w.conn w.from.source w.from.attempt w.cell w.caps) = subst FieldsInRange f.fields_is i in
      cell_is

  context_cell : ContextRanged s.context → (c : Context K C) → s.context ≡ Some c → IsCell c.cell
  context_cell h c e = let k : ContextRanged (Some c) = subst ContextRanged e h in k.1

  abbrev Cells : Station K C × Reply K C → Type 0
  Cells d = CellsIn d.1.derived

  record_cells : (on : Interface) (fields : Fields) → FieldsInRange fields → StationRanged s → RecordCases r s (λ row key. RecordHas r s on fields row) Cells
  record_cells on fields i h =
      record {
        nothing = λ answer. tt;
        given = λ conn cell caps algs air kenb k. (tt, (tt, (tt, tt)));
        released = λ key k. tt;
        taken = λ conn origin pair k. tt;
        by_s1 = λ w pair k. (admitted_cell on fields w k i, (tt, (tt, (tt, tt))));
        by_x2 = λ w star k. (tt, (tt, (tt, tt)));
        answered = λ order key k. tt;
        cancelled = λ from key k. tt;
        left = λ key k. tt;
        renewed = λ conn number air count c e kenb k. (context_cell h.2 c e, (tt, (tt, (tt, tt))));
      }

  air_cells : AirCases r s Any Cells
  air_cells =
      record {
        nothing = λ answer. tt;
        secured = λ count k. tt;
        opened = λ srb count text k. tt;
        packet = λ drb count text k. tt;
        by_s1 = λ at count k p e. tt;
        within = λ at count origin k p e. tt;
        by_x2 = λ at count number k p e. tt;
      }

  act_cells : (act : StationAct) → IsStationAct act → ActCases r s (StationActHas r s act) Cells
  act_cells act i =
      record {
        nothing = λ answer. tt;
        by_x2 = λ number target cell k c e. (subst IsStationAct k.act_is i, tt);
        by_s1 = λ number target cell k c e. tt;
        within = λ number air cell k c e. (subst IsStationAct k.starts.act_is i, (tt, (tt, (tt, tt))));
        commanded = λ via order count k c e. tt;
        cancelled_x2 = λ conn number target k. tt;
        cancelled_s1 = λ conn number cell k. tt;
        cancelled_within = λ number k. tt;
        asked = λ number k c e. tt;
        packet = λ drb count text k c e. tt;
        text = λ srb count text k c e. tt;
        skipped = λ on n k. tt;
      }

  pub station_step_cells : (i : StationInput K C) (outcome : Outcome) → StationRanged s → StationInputRanged i → CellsIn (station_step r s i outcome).1.derived
  station_step_cells (StationActs act) outcome h i =
      act_case r s Cells (StationActHas r s act) (act_cells act i) (act_row (plain_station r s) act) (station_act_has r s act)
  station_step_cells (AirPdu air bearer pdu) outcome h i =
      air_case r s Cells Any air_cells (air_row (plain_station r s) (air_front (plain_station r s) air (which bearer) pdu) outcome) tt
  station_step_cells (StationRecord on (Ok content)) outcome h i =
      record_case r s Cells (λ row key. RecordHas r s on content.fields row) (record_cells on content.fields i h)
      (record_row (plain_station r s) on (Ok (map_content unseen r.ncc content))) content.key (record_has r s on content)
  station_step_cells (StationRecord on (Err fault)) outcome h i = tt

-- THE CORE

-- the NH that a core keeps as a chain begins is of no cell
kept_cells : {K C : Type 0} (r : Reading K C) (first_ncc : FirstNcc) (root kenb : K) → CellsIn (does.nh_kept r first_ncc root kenb)
kept_cells r One root kenb = tt
kept_cells r Two root kenb = (tt, tt)

module _ {K C : Type 0} (r : Reading K C) (s : Core K C) where
  abbrev CoreCells : Core K C → does.CoreDone K C → Type 0
  CoreCells t d = CellsIn d.1.derived

  auth_cells : (ksi : ℕ) (caps : Caps) (o : Option K) → CellsIn (does.authenticated ksi caps o s).1.derived
  auth_cells ksi caps None = tt
  auth_cells ksi caps (Some root) = tt

  nas_cells : at_core.NasCases r Anything CoreCells s
  nas_cells = record {
    nothing = λ t answer. tt;
    closed = λ k. tt;
    completed = λ count p keys k. tt;
    changed = λ count conn next station p keys k. (tt, kept_cells r s.first_ncc p.root (r.kenb p.root count));
    asked = λ count c k. tt;
    opened = λ count text c k. tt;
    rejected = λ count c k. tt;
  }

  s1_cells : at_core.RecordCases r Anything CoreCells s
  s1_cells = record {
    nothing = λ t answer. tt;
    switched = λ conn station number alarm link k. (tt, tt);
    asked = λ conn source attempt cell target caps link k. (tt, tt);
    ordered = λ conn source attempt cell ncc algs air k. tt;
    notified = λ station link k. tt;
    cancelled = λ conn source attempt cell target k. tt;
  }

  core_act_cells : at_core.ActCases r Anything CoreCells s
  core_act_cells = record {
    nothing = λ t answer. tt;
    started = λ ksi algs caps count p k. (tt, (tt, tt));
    set_up = λ conn cell target caps count c k. (tt, kept_cells r s.first_ncc c.nas.root (r.kenb c.nas.root count));
    released = λ conn station k. tt;
    sent = λ count text c k. tt;
    skipped = λ n c k. tt;
  }

  core_cells : (row : CoreRow) (root : Option K) → CellsIn (does.core_does r row root s).1.derived
  core_cells (rows.OfNas row) root = at_core.nas_case r Anything CoreCells s nas_cells row tt
  core_cells (rows.OfRecord row) root = at_core.record_case r Anything CoreCells s s1_cells row tt
  core_cells (rows.OfAct row) root = at_core.act_case r Anything CoreCells s core_act_cells row tt
  core_cells (rows.OfAuth ksi caps) root = auth_cells ksi caps root

  pub core_step_cells : (i : CoreInput K C) (outcome : Outcome) → CellsIn (core_step r s i outcome).1.derived
  core_step_cells i outcome = core_cells (core_row (plain_core r s) (core_front_of r s i) outcome) (core_root i)
