-- The audit of a run, by the keys of the written run: which key each row stands for, and who can derive it.
use Rattle.std.specs.Prelude.{◌≡◌, ◌↔◌, ℕ, ◌<◌, List, Some, IsSome, length, slice_get}
use Rattle.key_audit.specs.{Local.exact_mark, Terms.term_at}
use Rattle.key_model.specs.Derivable.{Derivable}
use Rattle.key_model.specs.Term.{Term, Root, Kenb, Nh, Star, Alg}
use Rattle.key_terms.specs.declared.row.LadderRow.{LadderRow}
use Rattle.lte_events.specs.{declared.events.Event.Event, declared.setups.Setup.Setup}
use Rattle.lte_machine.specs.{BothRuns.written_run, ByEvent.in_octets, Distinct.distinct_terms, Run.Running, Wire.Outgoing, World.World, World.Holding}
use Rattle.store_laws.specs.Rows.{world_rows}
use Rattle.audit_report.specs.Alone.{HeldAlone}

-- a key without the numbers of the roots in it: a root is told by its octets alone
abbrev pub unnumbered : Term → Term
unnumbered (Root number octets) = Root 0 octets
unnumbered (Kenb r count) = Kenb (unnumbered r) count
unnumbered (Nh r t) = Nh (unnumbered r) (unnumbered t)
unnumbered (Star t pci earfcn) = Star (unnumbered t) pci earfcn
unnumbered (Alg t type id) = Alg (unnumbered t) type id

-- these rows are those of a run in which these keys came, and these were held
pub record AreOf (keys : List Term) (held : List (Holding Term)) (rows : List LadderRow) : Type 0 where
  -- a row for each key, in order
  pub as_many : length rows ≡ length keys
  -- the key that is rebuilt from the rows is that of the run, but for the numbers of roots
  pub rebuilt : (k : ℕ) (t : Term) → slice_get keys k ≡ Some t → unnumbered (term_at rows k) ≡ unnumbered t
  -- and a mark stands at row and station exactly where the key of the row is derivable from what the station held
  pub marks : (station k : ℕ) (t : Term) → station < 8 → slice_get keys k ≡ Some t →
      IsSome (exact_mark rows station k) ↔ Derivable (HeldAlone station held) t

-- of the written run of these events, whose keys stand each once, in the order in which they came
abbrev pub AuditIsOfRun : Setup → List Event → Type 0
AuditIsOfRun setup events =
    (w : World Term ℕ (Outgoing Term ℕ)) → written_run setup events ≡ Running w →
    AreOf (distinct_terms w.history) w.held (world_rows (in_octets w))
