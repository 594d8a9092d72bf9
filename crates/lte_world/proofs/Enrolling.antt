-- The KASME of an authentication.
use Rattle.std.proofs.Common.{◌≡◌, refl, sym, ap, subst, ◌∙◌, ℕ, List, [], ◌∷◌, ◌++◌, length, Option, Some, None, Result, Ok, Err, append_assoc}
use Rattle.std.specs.{Prelude.IsSome, Str.bytes_eq}
use Rattle.std.proofs.{lemmas.Option.none-some, lemmas.Slice.Eq.bytes_eq-Decides}
use Rattle.key_terms.proofs.Places.{position_at_end}
use Rattle.key_terms.specs.{declared.ladder.LadderFault.LadderFault, declared.proof.Proof.Proof, declared.row.Holder.Holder, declared.row.LadderRow.LadderRow, declared.row.Origin.Origin, declared.row.Row.Row}
use Rattle.key_terms.specs.Ladder.{Rows as LadderRows, unheld, row, row_of, origin_at, Coincides}
use Rattle.lte_machine.specs.Ladder.{RowOrigin, OfRoot, Clash, Ladder, add_row, ladder_of, root_row, no_rows, add_next}
use Rattle.lte_machine.specs.{Machines.Kept, World.World}
use Rattle.lte_machine.specs.World as world
use Rattle.store_laws.specs.Joins.{HasRow, Keeps, Roots, RootComesTo}
use Rattle.store_laws.specs.Proofs.{clash_proof}
use Rattle.store_laws.proofs.{Joining.roots, Keeping.rows_append}
use Rattle.lte_world.specs.declared.network.Enrolled.{Enrolled}
use Rattle.lte_world.specs.Enrolling.{with_root, EnrolledBy, EnrolledAs}
use Rattle.lte_world.specs.Networks.{HoldsOne, Stores, Fits}

-- the ladder's clauses on a root, by its rows
pub by_root : (before : List LadderRow) (later old : LadderRows) (octets : List ℕ) (r : Result Row LadderFault) → old.rows ≡ before →
    (row_of before octets ≡ None → (r ≡ Ok (row (length before))) × (later.rows ≡ before ++ unheld Origin.Root octets ∷ [])) →
    ((k : ℕ) → row_of before octets ≡ Some k → origin_at before k ≡ Some Origin.Root → r ≡ Err (LadderFault.RepeatedRoot (row k))) →
    ((k : ℕ) → Coincides before Origin.Root octets k → r ≡ Err (LadderFault.Coincidence (row k) Origin.Root)) →
    Roots before later.rows octets r
by_root before later old octets r is new repeated coincidence = record { new = new; repeated = repeated; coincidence = coincidence }

module _ (stores : Stores) (root : List ℕ) (later : List LadderRow) (r : Result Row LadderFault) (a : Roots stores.rows later root r) where
  module _ (w : World (List ℕ) ℕ Kept) (f : Fits w stores) where
    abbrev os : List (RowOrigin (List ℕ))
    os = (ladder_of bytes_eq w.history).rows

    ladder_is : ladder_of bytes_eq (with_root w root).history ≡ add_row bytes_eq os (OfRoot root)
    ladder_is = rows_append no_rows w.history (OfRoot root ∷ []) ∙ ap (λ l. add_next bytes_eq l (OfRoot root)) (λ j. record { rows = os; clash = f.calm j })

    comes : RootComesTo (root_row bytes_eq root os) (ladder_of bytes_eq (with_root w root).history).clash (OfRoot root)
        (ladder_of bytes_eq (with_root w root).history).rows w.held later r
    comes =
        subst (λ l. RootComesTo (root_row bytes_eq root os) l.clash (OfRoot root) l.rows w.held later r) (sym ladder_is)
        (roots os w.held stores.rows f.rows root later r a)

  ok_err : {row : Row} {fault : LadderFault} → ◌≡◌ {A = Result Row LadderFault} (Ok row) (Err fault) → ⊥
  ok_err e = cc

  repeated_is : {a b : Row} → ◌≡◌ {A = Result Row LadderFault} (Err (LadderFault.RepeatedRoot a)) (Err (LadderFault.RepeatedRoot b)) → a ≡ b
  repeated_is e = cc

  repeated_not : {a b : Row} {o : Origin} → ◌≡◌ {A = Result Row LadderFault} (Err (LadderFault.RepeatedRoot a)) (Err (LadderFault.Coincidence b o)) → ⊥
  repeated_not e = cc

  coincidence_is : {a b : Row} {o p : Origin} → ◌≡◌ {A = Result Row LadderFault} (Err (LadderFault.Coincidence a o)) (Err (LadderFault.Coincidence b p)) → a ≡ b
  coincidence_is e = cc

  -- it is a root already
  pub enrolled_before : (n : Row)
      → r ≡ Err (LadderFault.RepeatedRoot n)
      → (after : Stores)
      → after ≡ stores
      → EnrolledAs stores after root (Enrolled.Repeated n)
  unfolding EnrolledAs
  enrolled_before n e after same w f = by (root_row bytes_eq root (os w f)) (ladder_of bytes_eq (with_root w root).history).clash (comes w f)
    where
      by : (o : Option ℕ) (c : Option (Clash (List ℕ)))
          → RootComesTo o c (OfRoot root) (ladder_of bytes_eq (with_root w root).history).rows w.held later r
          → EnrolledBy o c w root after (Enrolled.Repeated n)
      by (Some k) c h = (ap Enrolled.Repeated (repeated_is (sym e ∙ h)), subst (Fits w) (sym same) f)
      by None None h = absurd (ok_err (sym h.0.1 ∙ e))
      by None (Some c) h = absurd (repeated_not (sym e ∙ h.0.1))

  -- a derived key has its octets
  pub enrolled_by_coincidence : (n : Row) (o : Origin)
      → r ≡ Err (LadderFault.Coincidence n o)
      → (after : Stores)
      → EnrolledAs stores after root (Enrolled.Coincidence (Proof.RootIsRow n root))
  unfolding EnrolledAs
  enrolled_by_coincidence n o e after w f = by (root_row bytes_eq root (os w f)) (ladder_of bytes_eq (with_root w root).history).clash (comes w f)
    where
      by : (x : Option ℕ) (c : Option (Clash (List ℕ)))
          → RootComesTo x c (OfRoot root) (ladder_of bytes_eq (with_root w root).history).rows w.held later r
          → EnrolledBy x c w root after (Enrolled.Coincidence (Proof.RootIsRow n root))
      by (Some k) c h = absurd (repeated_not (sym h ∙ e))
      by None None h = absurd (ok_err (sym h.0.1 ∙ e))
      by None (Some c) h =
          ap (λ m. Enrolled.Coincidence (Proof.RootIsRow m root)) (coincidence_is (sym e ∙ h.0.1))
          ∙ ap (λ x. Enrolled.Coincidence (clash_proof c.row x)) (sym h.1)

  -- it has a row then
  pub root_has_row : (k : Row) → r ≡ Ok k → HasRow later root
  root_has_row k e = by (row_of stores.rows root) refl
    where
      by : (o : Option ℕ) → row_of stores.rows root ≡ o → HasRow later root
      by None none =
          let put = (a.new none).1 in
          subst IsSome (sym (ap (λ rs. row_of rs root) put
          ∙ position_at_end (λ x. bytes_eq x.octets root) stores.rows (unheld Origin.Root root) none
          ((bytes_eq-Decides root root).1 refl)))
          refl
      by (Some n) found = at (origin_at stores.rows n) refl
        where
          other : (o : Option Origin) → origin_at stores.rows n ≡ o → (o ≡ Some Origin.Root → ⊥) → HasRow later root
          other o is differs =
              let coincidence = a.coincidence n (record { stands = found; other = λ root_is. differs (sym is ∙ root_is) }) in
              absurd (ok_err (sym e ∙ coincidence))

          at : (o : Option Origin) → origin_at stores.rows n ≡ o → HasRow later root
          at None is = other None is (λ bad. none-some Origin.Root bad)
          at (Some Origin.Root) is = absurd (ok_err (sym e ∙ a.repeated n found is))
          at (Some (Origin.From key input)) is = other (Some (Origin.From key input)) is (λ bad. from_root bad)
            where
              from_root : Some (Origin.From key input) ≡ Some Origin.Root → ⊥
              from_root bad = cc

  -- phone and core hold it
  pub enrolled_new : (k : Row) → r ≡ Ok k → (one two : List LadderRow) → HoldsOne Holder.Phone root later one →
      HoldsOne Holder.Core root one two → (after : Stores) → after.rows ≡ two → after.records ≡ stores.records →
      after.uses ≡ stores.uses →
      EnrolledAs stores after root Enrolled.New
  unfolding EnrolledAs
  enrolled_new k e one two phone core after rows records uses w f =
      by (root_row bytes_eq root (os w f)) (ladder_of bytes_eq (with_root w root).history).clash refl (comes w f)
    where
      by : (x : Option ℕ) (c : Option (Clash (List ℕ)))
          → (ladder_of bytes_eq (with_root w root).history).clash ≡ c
          → RootComesTo x c (OfRoot root) (ladder_of bytes_eq (with_root w root).history).rows w.held later r
          → EnrolledBy x c w root after Enrolled.New
      by (Some n) c is h = absurd (ok_err (sym e ∙ h))
      by None (Some c) is h = absurd (ok_err (sym e ∙ h.0.1))
      by None None is h =
          let l : Ladder (List ℕ) = ladder_of bytes_eq (with_root w root).history in
          let first = phone l.rows w.held world.AtPhone h.1 refl in
          let second = core l.rows (w.held ++ record { holder = world.AtPhone; key = root } ∷ []) world.AtCore first refl in (
            refl,
            record {
              records = records ∙ f.records;
              uses = uses ∙ f.uses;
              calm = is;
              rows = subst (λ rs. Keeps l.rows (with_root w root).held rs) (sym rows)
                  (subst (λ x. Keeps l.rows x two)
                  (append_assoc w.held (record { holder = world.AtPhone; key = root } ∷ [])
                  (record { holder = world.AtCore; key = root } ∷ []))
                  second);
            },
          )

pub enrolled_from : (a now after : Stores) → a ≡ now → (root : List ℕ) (e : Enrolled) → EnrolledAs a after root e → EnrolledAs now after root e
enrolled_from a now after is root e h = subst (λ x. EnrolledAs x after root e) is h
