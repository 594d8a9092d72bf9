-- The marks by which an audit of a run is written are exact.
use Rattle.std.specs.Prelude.{◌≡◌, ◌↔◌, ℕ, ◌<◌, List, Some, IsSome, length}
use Rattle.key_audit.specs.{Derives.CanDerive, Derives.IsNearest, Local.exact_mark}
use Rattle.key_terms.specs.declared.row.LadderRow.{LadderRow}
use Rattle.lte_events.specs.{declared.events.Event.Event, declared.setups.Setup.Setup}
use Rattle.lte_machine.specs.BothRuns.{octet_run}
use Rattle.lte_world.specs.Whole.{InRun}
use Rattle.store_laws.specs.Rows.{world_rows}

-- a station has a mark in a row exactly where it can derive the key of the row from the keys that it holds, and the mark is the
-- nearest of them on the way up
pub record IsExact (rows : List LadderRow) : Type 0 where
  pub can : (station k : ℕ) → k < length rows → IsSome (exact_mark rows station k) ↔ CanDerive rows station k
  pub from : (station k from : ℕ) → k < length rows → exact_mark rows station k ≡ Some from → IsNearest rows station k from

-- in the ladder of the run
abbrev pub AuditIsExact : Setup → List Event → Type 0
AuditIsExact setup events = InRun (λ w. IsExact (world_rows w)) (octet_run setup events)
