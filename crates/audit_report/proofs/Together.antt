-- From a set of keys with no KASME each key comes from one of them, which one station held.
use Rattle.std.proofs.Common.{◌≡◌, ℕ, inl, inr, Bool, List, [], ◌∷◌, refl, sym, subst, take}
use Rattle.std.specs.Prelude.{IsTrue}
use Rattle.key_model.specs.Derivable.{Derivable, in_set, by_kenb, by_nh, by_star, by_alg, ComesByStars, ComesFrom}
use Rattle.key_model.specs.Term.{Term, Root, Kenb, Nh, Star, Alg}
use Rattle.key_model.specs.Value.{same_value}
use Rattle.key_model.proofs.DerivableFacts.{from_set_derivable}
use Rattle.lte_events.specs.{declared.events.Event.Event, declared.setups.Setup.Setup}
use Rattle.lte_machine.specs.{BothRuns.annex_b_terms, Ciphers.annex_b, Opening.open_octets, Wire.Outgoing}
use Rattle.lte_machine.specs.Machines.{Kept, written_machine, written_in_values}
use Rattle.lte_machine.specs.Run.{RunState, Running, Stopped, run, first_world}
use Rattle.lte_machine.specs.World.{World, Holder, AtPhone, AtCore, AtStation, Holding}
use Rattle.lte_machine.proofs.StillRun.{still_is_run}
use Rattle.lte_properties.specs.Separation.{Those, HeldBy, IsStationOf, Separates}
use Rattle.lte_properties.proofs.KeySeparation.Ever.{separation_holds}
use Rattle.key_audit.specs.Local.{exact_mark}
use Rattle.key_audit.proofs.Exactness.{marks_right, marks_nearest, exact_marks_fit}
use Rattle.key_terms.specs.{declared.row.LadderRow.LadderRow, Ladder.IsLadder}
use Rattle.lte_world.specs.Whole.{InRun}
use Rattle.store_laws.specs.Rows.{world_rows}
use Rattle.audit_report.specs.Audited.{IsExact}
use Rattle.audit_report.specs.Alone.{HeldAlone, OneDerives, AloneAsTogether, EachAlone}

-- a key that the stations of a set held, one of them held
one_held : (test : ℕ → Bool) (t : Term) (held : List (Holding Term)) → HeldBy (Those test) held t → (id : ℕ) × IsTrue (test id) × HeldAlone id held t
one_held test t [] h = absurd h
one_held test t (x ∷ held) (inl h) = by x.holder h.0 refl
  where
    by : (who : Holder) → IsStationOf (Those test) who → x.holder ≡ who → (id : ℕ) × IsTrue (test id) × HeldAlone id (x ∷ held) t
    by AtPhone is same = absurd is
    by AtCore is same = absurd is
    by (AtStation id) is same = (id, is, inl (subst (IsStationOf (λ other. other ≡ id)) (sym same) refl, h.1))
one_held test t (x ∷ held) (inr later) = let one = one_held test t held later in (one.0, one.1, inr one.2)

-- and what one of them held, the set did
all_held : (test : ℕ → Bool) (id : ℕ) → IsTrue (test id) → (t : Term) (held : List (Holding Term)) → HeldAlone id held t → HeldBy (Those test) held t
all_held test id among t [] h = absurd h
all_held test id among t (x ∷ held) (inl h) = inl (by x.holder h.0, h.1)
  where
    by : (who : Holder) → IsStationOf (λ other. other ≡ id) who → IsStationOf (Those test) who
    by AtPhone is = absurd is
    by AtCore is = absurd is
    by (AtStation other) is = subst (λ i. IsTrue (test i)) (sym is) among
all_held test id among t (x ∷ held) (inr later) = inr (all_held test id among t held later)

-- more keys derive no less
more_derive : {P Q : Term → Type 0} → ((t : Term) → P t → Q t) → {t : Term} → Derivable P t → Derivable Q t
more_derive more (in_set {t = t} h) = in_set (more t h)
more_derive more (by_kenb d) = by_kenb (more_derive more d)
more_derive more (by_nh d e) = by_nh (more_derive more d) (more_derive more e)
more_derive more (by_star d) = by_star (more_derive more d)
more_derive more (by_alg d) = by_alg (more_derive more d)

-- a key that comes from a key of the set comes from one that one station held
abbrev OneBy : (ℕ → Bool) → List (Holding Term) → ((Term → Type 0) → Type 0) → Type 0
OneBy test held P = (id : ℕ) × IsTrue (test id) × P (HeldAlone id held)

one_by_stars : (test : ℕ → Bool) (held : List (Holding Term)) (t : Term) → ComesByStars (HeldBy (Those test) held) t → OneBy test held (λ H. ComesByStars H t)
one_by_stars test held t (s, cells, h, is) = let one = one_held test s held h in (one.0, one.1, (s, cells, one.2, is))

one_from : (test : ℕ → Bool) (held : List (Holding Term)) (t : Term) → ComesFrom (HeldBy (Those test) held) t → OneBy test held (λ H. ComesFrom H t)
one_from test held (Root r octets) c = one_by_stars test held (Root r octets) c
one_from test held (Kenb r n) c = one_by_stars test held (Kenb r n) c
one_from test held (Nh r t) c = one_by_stars test held (Nh r t) c
one_from test held (Star t pci earfcn) c = one_by_stars test held (Star t pci earfcn) c
one_from test held (Alg t type id) (inl c) = let one = one_by_stars test held (Alg t type id) c in (one.0, one.1, inl one.2)
one_from test held (Alg t type id) (inr c) = let one = one_by_stars test held t c in (one.0, one.1, inr one.2)

together : (sites : _) (w : World Term ℕ (Outgoing Term ℕ)) → Separates sites w → AloneAsTogether w
together sites w s test t is = (one, all)
  where
    one : Derivable (HeldBy (Those test) w.held) t → OneDerives test w.held t
    one d =
        let from = one_from test w.held t ((s.holding test t (s.all_held t is)).0 d) in
        (from.0, from.1, from_set_derivable (HeldAlone from.0 w.held) t from.2)

    all : OneDerives test w.held t → Derivable (HeldBy (Those test) w.held) t
    all (id, among, d) = more_derive (λ u h. all_held test id among u w.held h) d

pub each_alone : (setup : Setup) (events : List Event) → EachAlone setup events
each_alone setup events n w runs =
    together setup.cells w
    (subst (λ (v : World Term ℕ (Outgoing Term ℕ)). Separates setup.cells v)
    (sym
    (still_is_run (open_octets annex_b_terms) (written_machine annex_b) (first_world setup) (take n events) w runs))
    (separation_holds same_value annex_b_terms written_in_values setup (take n events)))

-- the marks of a ladder are exact
pub is_exact : (rows : List LadderRow) → IsLadder rows → IsExact rows
is_exact rows ladder = record {
  can = λ s k within. marks_right rows ladder (exact_mark rows s) s (exact_marks_fit rows ladder s) k within;
  from = λ s k from within is. marks_nearest rows ladder (exact_mark rows s) s (exact_marks_fit rows ladder s) k from within is;
}

-- and so in the run of which it is the ladder
pub exact_in : (rows : List LadderRow) (run run' : RunState (List ℕ) ℕ Kept)
    → run ≡ run'
    → InRun (λ w. rows ≡ world_rows w) run
    → IsExact rows
    → InRun (λ w. IsExact (world_rows w)) run'
exact_in rows run run' same are exact = subst (InRun (λ w. IsExact (world_rows w))) same (by run are)
  where
    by : (r : RunState (List ℕ) ℕ Kept) → InRun (λ w. rows ≡ world_rows w) r → InRun (λ w. IsExact (world_rows w)) r
    by (Running w) is = subst IsExact is exact
    by (Stopped coincidence) is = tt
