-- The roots of the keys of a run are roots of the run.
use Rattle.std.proofs.Common.{◌≡◌, refl, sym, subst, ℕ, Bool, true, false, List, [], ◌∷◌, ◌++◌, Option, Some, None, inl, inr}
use Rattle.lte_events.specs.{declared.events.Event.Event, declared.setups.Setup.Setup}
use Rattle.key_model.specs.Derivation.{Input, FromCount, FromSync, FromCell, FromAlg}
use Rattle.key_model.specs.Term.{Term, Root, Kenb, Nh, Star, Alg}
use Rattle.key_model.specs.Value.{value_of, same_value}
use Rattle.lte_machine.specs.{BothRuns.annex_b_terms, BothRuns.written_run, Ciphers.annex_b, Ciphers.under_keys, Distinct.keys_of, Distinct.Member, Machines.written_machine, Machines.written_in_values, Opening.open_octets, Opening.open_by_uses, Run.Running, Run.first_world, Standing.RowsStandForTerms}
use Rattle.lte_machine.specs.Ladder.{RowOrigin, OfRoot, Of, row_key, Hit, hit, Clash, Ladder, added_at, added_unless, stands_or_not, add_next, add_rows, no_rows, ladder_of, same_origin}
use Rattle.std.specs.List.{AllByRecursion as AllOf}
use Rattle.lte_machine.proofs.{LadderRun.ladder_always, StillRun.still_is_run, Worlds.TheWorld}
use Rattle.lte_machine.proofs.Rows.{made_of, SyncIn, From}
use Rattle.lte_properties.specs.Accounts.{IsRowOf}
use Rattle.lte_properties.proofs.AccountsHold.{rows_are}
use Rattle.fleet_world.specs.Apart.{ComesOfRoot}
use Rattle.fleet_world.proofs.Ladders.{grounds}

-- WHAT HOLDS OF A HISTORY HOLDS OF ITS LADDER

module _ (P : RowOrigin Term → Type 0) where
  all_one_more : (rows : List (RowOrigin Term)) (o : RowOrigin Term) → AllOf P rows → P o → AllOf P (rows ++ o ∷ [])
  all_one_more [] o all p = (p, tt)
  all_one_more (r ∷ rows) o all p = (all.0, all_one_more rows o all.1 p)

  all_stands : (b : Bool) (rows : List (RowOrigin Term)) (place : ℕ) (o : RowOrigin Term) → AllOf P rows → AllOf P (stands_or_not b rows place o).rows
  all_stands true rows place o all = all
  all_stands false rows place o all = all

  all_added : (rows : List (RowOrigin Term)) (o : RowOrigin Term) (h : Option (Hit Term)) → AllOf P rows → P o → AllOf P (added_at same_value rows o h).rows
  all_added rows o None all p = all_one_more rows o all p
  all_added rows o (Some h) all p = all_stands (same_origin same_value h.found o) rows h.place o all

  all_next : (clash : Option (Clash Term)) (rows : List (RowOrigin Term)) (o : RowOrigin Term)
      → AllOf P rows
      → P o
      → AllOf P (added_unless clash same_value rows o).rows
  all_next None rows o all p = all_added rows o (hit same_value (row_key o) rows) all p
  all_next (Some c) rows o all p = all

  all_rows : (l : Ladder Term) (history : List (RowOrigin Term)) → AllOf P l.rows → AllOf P history → AllOf P (add_rows same_value l history).rows
  all_rows l [] all are = all
  all_rows l (o ∷ os) all are = all_rows (add_next same_value l o) os (all_next l.clash l.rows o all are.0) are.1

-- PARENTS

-- the keys that a key was derived from are among these
abbrev ParentsIn : List Term → Term → Type 0
ParentsIn ts (Root r octets) = Unit {0}
ParentsIn ts (Kenb r n) = Member r ts
ParentsIn ts (Nh r t) = Member r ts × Member t ts
ParentsIn ts (Star t pci earfcn) = Member t ts
ParentsIn ts (Alg t type id) = Member t ts

made_parents : (ts : List Term) (key : Term) (input : Input Term) → Member key ts → SyncIn (λ t. Member t ts) input → ParentsIn ts (made_of key input)
made_parents ts key (FromCount n) m s = m
made_parents ts key (FromSync sync) m s = (m, s)
made_parents ts key (FromCell pci earfcn) m s = m
made_parents ts key (FromAlg type id) m s = m

-- a row is a derivation from keys of rows
abbrev MadeFrom : List Term → RowOrigin Term → Type 0
MadeFrom ts (OfRoot key) = Unit {0}
MadeFrom ts (Of d) = From (λ t. Member t ts) d

row_parents : (ts : List Term) (o : RowOrigin Term) → MadeFrom ts o → IsRowOf (written_machine annex_b) o → ParentsIn ts (row_key o)
row_parents ts (OfRoot key) made is = subst (ParentsIn ts) (sym is.2) tt
row_parents ts (Of d) made is = subst (ParentsIn ts) (sym made.2) (made_parents ts d.key d.input made.0 made.1)

member_parents : (ts : List Term) (rows : List (RowOrigin Term)) (t : Term)
    → AllOf (MadeFrom ts) rows
    → AllOf (IsRowOf (written_machine annex_b)) rows
    → Member t (keys_of rows)
    → ParentsIn ts t
member_parents ts [] t made is m = absurd m
member_parents ts (o ∷ os) t made is (inl e) = subst (ParentsIn ts) (sym e) (row_parents ts o made.0 is.0)
member_parents ts (o ∷ os) t made is (inr m) = member_parents ts os t made.1 is.1 m

-- ROOTS

module _ (setup : Setup) (own : List Event) (w : TheWorld) (runs : written_run setup own ≡ Running w) where
  stand : RowsStandForTerms w.history
  stand =
      ladder_always (under_keys value_of annex_b) written_in_values
      (open_by_uses same_value (under_keys value_of annex_b)) (open_octets annex_b_terms) setup own w runs

  abbrev rows : List (RowOrigin Term)
  rows = (ladder_of same_value w.history).rows

  parents : (t : Term) → Member t (keys_of rows) → ParentsIn (keys_of rows) t
  parents t m =
      let history : AllOf (IsRowOf (written_machine annex_b)) w.history =
      subst (λ (x : TheWorld). AllOf (IsRowOf (written_machine annex_b)) x.history)
      (sym (still_is_run (open_octets annex_b_terms) (written_machine annex_b) (first_world setup) own w runs))
      (rows_are (written_machine annex_b) (first_world setup) own tt) in
      member_parents (keys_of rows) rows t ((grounds setup own w runs).ladder stand.calm).well.made
      (all_rows (IsRowOf (written_machine annex_b)) no_rows w.history tt history) m

  -- the roots of a key of the run are among its keys
  roots_in : (root : List ℕ) (t : Term) → Member t (keys_of rows) → ComesOfRoot root t → (r : ℕ) × Member (Root r root) (keys_of rows)
  roots_in root (Root r octets) m c = (r, subst (λ o. Member (Root r o) (keys_of rows)) c m)
  roots_in root (Kenb r n) m c = roots_in root r (parents (Kenb r n) m) c
  roots_in root (Nh r t) m (inl c) = roots_in root r (parents (Nh r t) m).0 c
  roots_in root (Nh r t) m (inr c) = roots_in root t (parents (Nh r t) m).1 c
  roots_in root (Star t pci earfcn) m c = roots_in root t (parents (Star t pci earfcn) m) c
  roots_in root (Alg t type id) m c = roots_in root t (parents (Alg t type id) m) c

  pub roots_of : (root : List ℕ) (t : Term) → Member t (keys_of w.history) → ComesOfRoot root t → (r : ℕ) × Member (Root r root) (keys_of w.history)
  roots_of root t m c =
      let at = roots_in root t (stand.stand t m) c in
      (at.0, in_history w.history at.0 at.1)
    where
      in_history : (history : List (RowOrigin Term)) (r : ℕ)
          → Member (Root r root) (keys_of (ladder_of same_value history).rows)
          → Member (Root r root) (keys_of history)
      in_history history r k =
          member_of (ladder_of same_value history).rows k
          (all_rows (λ o. Member (row_key o) (keys_of history)) no_rows history tt (each history))
        where
          member_of : (os : List (RowOrigin Term))
              → Member (Root r root) (keys_of os)
              → AllOf (λ o. Member (row_key o) (keys_of history)) os
              → Member (Root r root) (keys_of history)
          member_of [] k all = absurd k
          member_of (o ∷ os) (inl e) all = subst (λ t. Member t (keys_of history)) (sym e) all.0
          member_of (o ∷ os) (inr k) all = member_of os k all.1

          weaken : (os : List (RowOrigin Term)) (P Q : RowOrigin Term → Type 0) → ((o : RowOrigin Term) → P o → Q o) → AllOf P os → AllOf Q os
          weaken [] P Q f all = tt
          weaken (o ∷ os) P Q f all = (f o all.0, weaken os P Q f all.1)

          each : (history : List (RowOrigin Term)) → AllOf (λ o. Member (row_key o) (keys_of history)) history
          each [] = tt
          each (o ∷ os) = (inl refl, weaken os (λ x. Member (row_key x) (keys_of os)) (λ x. Member (row_key x) (keys_of (o ∷ os))) (λ x m. inr m) (each os))
