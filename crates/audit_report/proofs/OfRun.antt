-- The ladder of a run, and the marks of its audit, are those of the written run.
use Rattle.std.proofs.Common.{◌≡◌, refl, sym, ap, subst, ◌∙◌, ℕ, Bool, true, false, Option, Some, None, List, [], ◌∷◌, ◌++◌, map}
use Rattle.std.specs.{Str.bytes_eq, List.AllByRecursion as AllOf}
use Rattle.key_model.specs.{Term.Term, Value.value_of, Value.same_value}
use Rattle.key_terms.specs.{declared.row.LadderRow.LadderRow, Ladder.IsLadder}
use Rattle.lte_events.specs.{declared.events.Event.Event, declared.setups.Setup.Setup, Scenario.IsScenario}
use Rattle.lte_machine.specs.BothRuns.{annex_b_terms, octet_run, written_run}
use Rattle.lte_machine.specs.{ByEvent.in_octets, Carried.map_holding, Carried.run_value, Ciphers.annex_b, Ciphers.under_keys, Opening.open_octets, Opening.open_by_uses, World.Holding}
use Rattle.lte_machine.specs.Distinct.{keys_of, Member, distinct_terms}
use Rattle.lte_machine.specs.Ladder.{RowOrigin, OfRoot, Of, row_key, Clash, Ladder, Hit, hit, same_origin, stands_or_not, added_at, added_unless, add_next, add_rows, no_rows, ladder_of}
use Rattle.lte_machine.specs.Machines.{Kept, written_machine, written_in_values}
use Rattle.lte_machine.specs.Run.{RunState, Running, run, first_world}
use Rattle.lte_machine.proofs.{AnnexB.annex_b_ciphers, History.Stand, History.among_distinct, KnownWorld.Grounds, LadderMap.rows-map, LadderRun.still_grounds, StillRun.still_calm, StillRun.still_is_run, WholeRun.run_is_value, Worlds.TheWorld}
use Rattle.lte_properties.specs.Accounts.{IsRowOf}
use Rattle.lte_properties.proofs.AccountsHold.{rows_are}
use Rattle.lte_world.specs.Whole.{InRun}
use Rattle.lte_events.proofs.InRange.{in_range}
use Rattle.store_laws.specs.Additions.{CanKeep}
use Rattle.store_laws.specs.Rows.{numbered, all_noted, world_rows}
use Rattle.store_laws.proofs.{Adding.valued, EveryRun.world_keeps}
use Rattle.audit_report.specs.OfRun.{AreOf, AuditIsOfRun}
use Rattle.audit_report.proofs.Rooted.{AllRooted, rows_rooted}
use Rattle.audit_report.proofs.RowKeys.{IsKasme, RunRows, rows_are_of}

-- WHAT IS SO OF A HISTORY IS SO OF ITS ROWS

module _ (P : RowOrigin Term → Type 0) where
  all_more : (os : List (RowOrigin Term)) (o : RowOrigin Term) → AllOf P os → P o → AllOf P (os ++ o ∷ [])
  all_more [] o all p = (p, tt)
  all_more (x ∷ os) o all p = (all.0, all_more os o all.1 p)

  all_added : (os : List (RowOrigin Term)) (o : RowOrigin Term) (h : Option (Hit Term)) → AllOf P os → P o → AllOf P (added_at same_value os o h).rows
  all_added os o None all p = all_more os o all p
  all_added os o (Some h) all p = by (same_origin same_value h.found o)
    where
      by : (b : Bool) → AllOf P (stands_or_not b os h.place o).rows
      by true = all
      by false = all

  all_next : (c : Option (Clash Term)) (os : List (RowOrigin Term)) (o : RowOrigin Term) → AllOf P os → P o → AllOf P (added_unless c same_value os o).rows
  all_next None os o all p = all_added os o (hit same_value (row_key o) os) all p
  all_next (Some c) os o all p = all

  all_rows : (l : Ladder Term) (history : List (RowOrigin Term)) → AllOf P l.rows → AllOf P history → AllOf P (add_rows same_value l history).rows
  all_rows l [] all more = all
  all_rows l (o ∷ os) all more = all_rows (add_next same_value l o) os (all_next l.clash l.rows o all more.0) more.1

-- a root of the written machine is a KASME
is_kasme : (o : RowOrigin Term) → IsRowOf (written_machine annex_b) o → IsKasme o
is_kasme (OfRoot key) is = is
is_kasme (Of d) is = tt

all_kasmes : (history : List (RowOrigin Term)) → AllOf (IsRowOf (written_machine annex_b)) history → AllOf IsKasme history
all_kasmes [] all = tt
all_kasmes (o ∷ history) all = (is_kasme o all.0, all_kasmes history all.1)

all_members : (ts us : List Term)
    → ((t : Term) → Member t ts → Member t us)
    → (held : List (Holding Term))
    → AllOf (λ h. Member h.key ts) held
    → AllOf (λ h. Member h.key us) held
all_members ts us more [] all = tt
all_members ts us more (h ∷ held) all = (more h.key all.0, all_members ts us more held all.1)

-- THE LADDER OF A RUN

module _ (setup : Setup) (events : List Event) (w : TheWorld) (runs : written_run setup events ≡ Running w) (rows : List LadderRow)
    (keeps : CanKeep (in_octets w)) (are : rows ≡ world_rows (in_octets w)) (ladder : IsLadder rows) where
  abbrev os : List (RowOrigin Term)
  os = (ladder_of same_value w.history).rows

  grounds : Grounds w
  grounds =
      still_grounds (under_keys value_of annex_b) written_in_values
      (open_by_uses same_value (under_keys value_of annex_b)) (open_octets annex_b_terms) setup events w runs

  stand : Stand os (distinct_terms w.history)
  stand = grounds.ladder (still_calm (open_octets annex_b_terms) (written_machine annex_b) (first_world setup) events w refl runs)

  in_values : (ladder_of bytes_eq (valued w.history)).rows ≡ valued os
  in_values = sym (rows-map same_value bytes_eq value_of (λ a b. refl) w.history)

  is_rows_of : AllOf (IsRowOf (written_machine annex_b)) w.history
  is_rows_of =
      subst (λ (v : TheWorld). AllOf (IsRowOf (written_machine annex_b)) v.history)
      (sym (still_is_run (open_octets annex_b_terms) (written_machine annex_b) (first_world setup) events w runs))
      (rows_are (written_machine annex_b) (first_world setup) events tt)

  run_rows : RunRows os w.held rows
  run_rows = record {
    are = are ∙ ap (λ vs. all_noted (numbered vs) (map (map_holding value_of) w.held)) in_values;
    ladder = ladder;
    rooted = subst (AllRooted []) in_values (rows_rooted no_rows (valued w.history) tt keeps.history);
    well = stand.well;
    roots = all_rows IsKasme no_rows w.history tt (all_kasmes w.history is_rows_of);
    among =
        all_members (keys_of w.history) (keys_of os)
        (λ t m. subst (Member t) (sym stand.keys) (among_distinct [] (keys_of w.history) t m)) w.held grounds.keys.held;
  }

  pub run_is_of : AreOf (distinct_terms w.history) w.held rows
  run_is_of = subst (λ ts. AreOf ts w.held rows) stand.keys (rows_are_of os w.held rows run_rows)

-- THE AUDIT OF A RUN

pub audit_of_run : (setup : Setup) (events : List Event) (run : RunState (List ℕ) ℕ Kept) (rows : List LadderRow)
    → IsScenario setup events
    → run ≡ octet_run setup events
    → InRun (λ w. rows ≡ world_rows w) run
    → IsLadder rows
    → AuditIsOfRun setup events
audit_of_run setup events run rows scenario state are ladder w runs =
    subst (AreOf (distinct_terms w.history) w.held) rows_is
    (run_is_of setup events w runs rows
    (world_keeps setup events (in_octets w) scenario.can_start (in_range setup events scenario.can_happen) octets)
    rows_is ladder)
  where
    octets : octet_run setup events ≡ Running (in_octets w)
    octets = run_is_value annex_b annex_b_ciphers setup scenario.can_start events (in_range setup events scenario.can_happen) ∙ ap (run_value annex_b) runs

    rows_is : rows ≡ world_rows (in_octets w)
    rows_is = subst (InRun (λ v. rows ≡ world_rows v)) (state ∙ octets) are
