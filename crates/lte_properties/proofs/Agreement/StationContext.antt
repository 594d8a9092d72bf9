-- The context of a station in the invariant of agreement, where it changes alone.
use Rattle.std.proofs.Common.{◌≡◌, ℕ, ◌≤◌, sym, ◌∙◌, ap, subst, le_trans, Bool, true, false, List, Option, Some, None, option_map}
use Rattle.ho_prep.specs.Prep.{Prep}
use Rattle.std.specs.Prelude.{⊤}
use Rattle.annex_a_keys.specs.Cell.{IsCell}
use Rattle.lte_events.specs.Site.{Site}
use Rattle.key_model.specs.Term.{Term}
use Rattle.lte_machine.specs.StationState.{Station, Context, Attempt}
use Rattle.lte_machine.proofs.Tests.{by_some}
use Rattle.lte_properties.specs.{ChainBelow.AllOf, Agreement.HadTaken}
use Rattle.lte_properties.proofs.Agreement.Ghost.{Ghost, FreshFrom, AttemptOk, StartedOk, CtxOk, PrepOk, StationOk}

-- the cell of a context is a cell
abbrev pub CellFits : Option (Context Term ℕ) → Type 0
CellFits None = ⊤
CellFits (Some c) = IsCell c.cell

pub started_map : (g : Ghost) (id air : ℕ) (t : Term) (starting : Bool) (f : Attempt Term ℕ → Attempt Term ℕ) (o : Option (Attempt Term ℕ))
    → StartedOk g id air t starting o → StartedOk g id air t starting (option_map f o)
started_map g id air t true f o h = ap (option_map f) h
started_map g id air t false f o h = h

-- an active context's key was taken, so that it may have any attempt
pub started_any : (g : Ghost) (id air : ℕ) (t : Term) (starting : Bool) (o : Option (Attempt Term ℕ)) → starting ≡ false → HadTaken g.took id air t
    → StartedOk g id air t starting o
started_any g id air t true o e h = absurd cc
started_any g id air t false o e h = h

pub had_by : (g : Ghost) (id air : ℕ) (t : Term) (starting : Bool) (o : Option (Attempt Term ℕ)) → starting ≡ false → StartedOk g id air t starting o
    → HadTaken g.took id air t
had_by g id air t true o e h = absurd cc
had_by g id air t false o e h = h

-- a context with this attempt, or none
pub with_attempt_ok : (g : Ghost) (id : ℕ) (c : Context Term ℕ) → CtxOk g id (Some c) → (o : Option (Attempt Term ℕ)) → AttemptOk g id c.conn c.key.kenb o
    → StartedOk g id c.air c.key.kenb c.starting o → CtxOk g id (Some (record c { attempt = o }))
with_attempt_ok g id c h o attempt started = search

-- the context of a station
module _ (cells : List Site) (g : Ghost) (s : Station Term ℕ) (ok : StationOk cells g s) where
  -- where context and preparations alone change
  pub with_both : (o : Option (Context Term ℕ)) → CtxOk g s.id o → (ps : List (Prep Term ℕ)) → AllOf (PrepOk g s.id) ps
      → StationOk cells g (record s { context = o; preps = ps })
  with_both o k ps b = search

  -- and the next number, where one was drawn
  pub next_drawn : (next : ℕ) → s.next ≤ next → (o : Option (Context Term ℕ)) → CtxOk g s.id o → (ps : List (Prep Term ℕ)) → AllOf (PrepOk g s.id) ps
      → StationOk cells g (record s { next = next; context = o; preps = ps })
  next_drawn next up o k ps b =
      let first = ok.next in
      let fresh : FreshFrom g s.id next = λ n above. ok.fresh n (le_trans up above) in
      search (fresh, le_trans first up)

  pub with_ctx : (o : Option (Context Term ℕ)) → CtxOk g s.id o → StationOk cells g (record s { context = o })
  with_ctx o k = with_both o k s.preps ok.preps

  map_ctx : (f : Context Term ℕ → Context Term ℕ) → ((c : Context Term ℕ) → CtxOk g s.id (Some c) → CtxOk g s.id (Some (f c)))
      → (o : Option (Context Term ℕ)) → CtxOk g s.id o → CtxOk g s.id (option_map f o)
  map_ctx f keeps None h = tt
  map_ctx f keeps (Some c) h = keeps c h

  pub mapped : (f : Context Term ℕ → Context Term ℕ) → ((c : Context Term ℕ) → CtxOk g s.id (Some c) → CtxOk g s.id (Some (f c)))
      → StationOk cells g (record s { context = option_map f s.context })
  mapped f keeps = with_ctx (option_map f s.context) (map_ctx f keeps s.context ok.context)

  -- where it is this one
  pub ctx_at : (c : Context Term ℕ) → s.context ≡ Some c → CtxOk g s.id (Some c)
  ctx_at c e = subst (CtxOk g s.id) e ok.context

  pub mapped_at : (f : Context Term ℕ → Context Term ℕ) (c : Context Term ℕ) → s.context ≡ Some c → CtxOk g s.id (Some (f c))
      → StationOk cells g (record s { context = option_map f s.context })
  mapped_at f c e k = with_ctx (option_map f s.context) (subst (λ o. CtxOk g s.id (option_map f o)) (sym e) k)

  -- an active one is the one that a choice found, and the phone had taken its key
  pub had : (b c : Context Term ℕ) → s.context ≡ Some b → s.context ≡ Some c → b.starting ≡ false → HadTaken g.took s.id c.air c.key.kenb
  had b c e f active =
      let h = ctx_at c f in had_by g s.id c.air c.key.kenb c.starting c.attempt (subst (λ x. x.starting ≡ false) (by_some (sym e ∙ f)) active) h.started
