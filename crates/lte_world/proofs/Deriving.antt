-- Derivations that are added one after the other.
use Rattle.std.proofs.Common.{◌≡◌, refl, sym, ap, subst, ◌∙◌, ℕ, List, [], ◌∷◌, ◌++◌, length, map, drop, zero, suc, ◌+◌, arith, add-one, Option, Some, None, Result, Ok, Err}
use Rattle.std.specs.Prelude.{◌<◌, ◌≤◌, IsSome, IfSome, IfErr, slice_index_or}
use Rattle.hmac_kdf.specs.{Kdf.IsKdfInput, declared.input.KdfInput.KdfInput}
use Rattle.std.specs.Str.{bytes_eq}
use Rattle.annex_a_keys.specs.declared.derived.Derived.{Derived}
use Rattle.key_model.specs.Derivation.{Derivation, derived_of}
use Rattle.key_terms.specs.{declared.ladder.LadderFault.LadderFault, declared.proof.Proof.Proof, declared.row.LadderRow.LadderRow, declared.row.Row.Row}
use Rattle.key_terms.specs.Ladder.{Rows as LadderRows, unheld, row, row_of, origin_at, origin_of, Coincides, HasRoot, HasSync, AddRefused}
use Rattle.key_terms.proofs.Holding.{root_same, sync_same}
use Rattle.lte_machine.specs.Ladder.{RowOrigin, Of, Clash, Ladder, add_row, add_rows}
use Rattle.lte_machine.specs.World.{Holding}
use Rattle.store_laws.specs.Additions.{IsInput, CanAdd, AllCanAdd}
use Rattle.store_laws.specs.Joins.{Keeps, Adds, ComesTo}
use Rattle.store_laws.specs.{Proofs.clash_proof, Rows.numbered, Rows.all_noted}
use Rattle.store_laws.proofs.{Joining.adds, Numbered.plain_noted, Numbered.row_noted}
use Rattle.lte_world.specs.Networks.{calm, told, Awaits, AddedBy, Added, AddsAll, CountIn}

pub nil_cons : {A : Type 0} {x : A} {xs : List A} → [] ≡ x ∷ xs → ⊥
nil_cons e = cc

pub cons_nil : {A : Type 0} {x : A} {xs : List A} → x ∷ xs ≡ [] → ⊥
cons_nil e = cc

-- ONE

by_clash : (c : Option (Clash (List ℕ))) (d : Derivation (List ℕ)) (os : List (RowOrigin (List ℕ)))
    (held : List (Holding (List ℕ))) (after : List LadderRow) (r : Result Row LadderFault) →
    ComesTo c (Of d) os held after r → AddedBy c os held after (told (derived_of d) r)
by_clash None d os held after r h = (ap (told (derived_of d)) h.0.1, h.1)
by_clash (Some c) d os held after r h = ap (told (derived_of d)) h.0.1 ∙ ap (λ o. Err (clash_proof c.row o)) (sym h.1)

pub by_add : (before : List LadderRow) (after old : LadderRows) (made : Derived) (r : Result Row LadderFault) → old.rows ≡ before →
    (row_of before made.out ≡ None → (r ≡ Ok (row (length before))) × (after.rows ≡ before ++ unheld (origin_of before made) made.out ∷ [])) →
    ((k : ℕ) → row_of before made.out ≡ Some k → origin_at before k ≡ Some (origin_of before made) → (r ≡ Ok (row k)) × (after ≡ old)) →
    ((k : ℕ) → Coincides before (origin_of before made) made.out k → r ≡ Err (LadderFault.Coincidence (row k) (origin_of before made))) →
    Adds before after.rows made r
by_add before after old made r is new again coincidence = record {
  new = new;
  again = λ k e f. let h = again k e f in (h.0, ap (λ l. l.rows) h.1 ∙ is);
  coincidence = coincidence;
}

pub one_added : (before after : List LadderRow) (made : Derived) (r : Result Row LadderFault)
    → Adds before after made r
    → AddsAll before after (made ∷ []) (told made r)
one_added before after made r a os held [] k are can = absurd (cons_nil are)
one_added before after made r a os held (d ∷ e ∷ ds) k are can = let bad : [] ≡ derived_of e ∷ map derived_of ds = cc in absurd (nil_cons bad)
one_added before after made r a os held (d ∷ []) k are can =
    let is : made ≡ derived_of d = cc in
    let added = adds os held before k d (can.0 refl).key after r (subst (λ m. Adds before after m r) is a) in
    subst (λ m. Added (add_row bytes_eq os (Of d)) held after (told m r)) (sym is)
    (by_clash (add_row bytes_eq os (Of d)).clash d (add_row bytes_eq os (Of d)).rows held after r added)

-- a derivation is never refused as a repeated root
pub never_repeated : (rows : List LadderRow) (made : Derived) (r : Result Row LadderFault)
    → IfErr r (AddRefused rows made)
    → IfErr r (λ fault. (row : Row) → fault ≡ LadderFault.RepeatedRoot row → ⊥)
never_repeated rows made (Ok row) is = tt
never_repeated rows made (Err LadderFault.Memory) is = absurd is
never_repeated rows made (Err (LadderFault.RepeatedRoot row)) is = absurd is
never_repeated rows made (Err (LadderFault.Coincidence row origin)) is = λ other same. cc

-- what it must have

can_noted : (os : List (RowOrigin (List ℕ))) (held : List (Holding (List ℕ))) (rows : List LadderRow) (made : Derived)
    → Keeps os held rows
    → CanAdd (numbered os) made
    → CanAdd rows made
can_noted os held rows made k can = record {
  input = can.input;
  out = can.out;
  key = subst IsSome (sym same_key) can.key;
  root = root_by (row_of (numbered os) made.key) refl;
  sync =
      subst (λ rs. HasSync rs made.input) (sym k.are)
      (sync_same (numbered os) (all_noted (numbered os) held) (plain_noted (numbered os) held) made.input can.sync);
}
  where
    same_key : row_of rows made.key ≡ row_of (numbered os) made.key
    same_key = ap (λ rs. row_of rs made.key) k.are ∙ row_noted (numbered os) held made.key

    root_by : (o : Option ℕ) → row_of (numbered os) made.key ≡ o → IfSome (row_of rows made.key) (λ n. HasRoot rows n made.input)
    root_by None e = subst (λ o. IfSome o (λ n. HasRoot rows n made.input)) (sym (same_key ∙ e)) tt
    root_by (Some n) e =
        let at : HasRoot (numbered os) n made.input = subst (λ o. IfSome o (λ n. HasRoot (numbered os) n made.input)) e can.root in
        subst (λ o. IfSome o (λ n. HasRoot rows n made.input)) (sym (same_key ∙ e))
        (subst (λ rs. HasRoot rs n made.input) (sym k.are)
        (root_same (numbered os) (all_noted (numbered os) held) (plain_noted (numbered os) held) n made.input at))

pub awaits_can : (rows : List LadderRow) (made : Derived) → Awaits rows (made ∷ []) → CanAdd rows made
awaits_can rows made a = by a.made a.are a.can
  where
    by : (ds : List (Derivation (List ℕ))) → made ∷ [] ≡ map derived_of ds → AllCanAdd (calm a.origins) (map Of ds) → CanAdd rows made
    by [] are can = absurd (cons_nil are)
    by (d ∷ ds) are can =
        let is : made ≡ derived_of d = cc in
        can_noted a.origins a.held rows made a.keeps (subst (CanAdd (numbered a.origins)) (sym is) (can.0 refl))

-- MORE

pub awaits_one : (rows : List LadderRow) (made : Derived) (rest : List Derived) → Awaits rows (made ∷ rest) → Awaits rows (made ∷ [])
awaits_one rows made rest a = by a.made a.are a.can
  where
    by : (ds : List (Derivation (List ℕ))) → made ∷ rest ≡ map derived_of ds → AllCanAdd (calm a.origins) (map Of ds) → Awaits rows (made ∷ [])
    by [] are can = absurd (cons_nil are)
    by (d ∷ ds) are can =
        let is : made ≡ derived_of d = cc in
        record { origins = a.origins; held = a.held; made = d ∷ []; keeps = a.keeps; are = ap (λ x. x ∷ []) is; can = (can.0, tt) }

pub clash_stays : (rows : List (RowOrigin (List ℕ))) (c : Clash (List ℕ)) (ms : List (RowOrigin (List ℕ)))
    → add_rows bytes_eq (record { rows = rows; clash = Some c }) ms ≡ record { rows = rows; clash = Some c }
clash_stays rows c [] = refl
clash_stays rows c (m ∷ ms) = clash_stays rows c ms

pub ok_is_no_err : {p : Proof} → ◌≡◌ {A = Result (Unit {0}) Proof} (Ok tt) (Err p) → ⊥
ok_is_no_err e = cc

-- some of them were added, and these are left
pub record Midway (os : List (RowOrigin (List ℕ))) (held : List (Holding (List ℕ))) (ds : List (Derivation (List ℕ)))
    (rows : List LadderRow) (left : List Derived) : Type 0 where
  pub origins : List (RowOrigin (List ℕ))
  pub made : List (Derivation (List ℕ))
  pub keeps : Keeps origins held rows
  pub are : left ≡ map derived_of made
  pub can : AllCanAdd (calm origins) (map Of made)
  pub same : add_rows bytes_eq (calm os) (map Of ds) ≡ add_rows bytes_eq (calm origins) (map Of made)

-- for every history that these rows keep
abbrev pub AddsUpTo : List LadderRow → List LadderRow → List Derived → List Derived → Type 0
AddsUpTo before rows derived left =
    (os : List (RowOrigin (List ℕ))) (held : List (Holding (List ℕ))) (ds : List (Derivation (List ℕ)))
    → Keeps os held before → derived ≡ map derived_of ds → AllCanAdd (calm os) (map Of ds)
    → Midway os held ds rows left

module _ (before : List LadderRow) (derived : List Derived) where
  -- the ladder can take those that are left
  pub awaits_left : (rows : List LadderRow) (left : List Derived) → Awaits before derived → AddsUpTo before rows derived left → Awaits rows left
  awaits_left rows left a up =
      let m = up a.origins a.held a.made a.keeps a.are a.can in
      record { origins = m.origins; held = a.held; made = m.made; keeps = m.keeps; are = m.are; can = m.can }

  -- at last none is
  pub none_left : (rows : List LadderRow) → AddsUpTo before rows derived [] → AddsAll before rows derived (Ok tt)
  none_left rows up os held ds k are can = let m = up os held ds k are can in by m.made m m.are m.same
    where
      by : (made : List (Derivation (List ℕ))) → (m : Midway os held ds rows []) → [] ≡ map derived_of made →
          add_rows bytes_eq (calm os) (map Of ds) ≡ add_rows bytes_eq (calm m.origins) (map Of made) →
          Added (add_rows bytes_eq (calm os) (map Of ds)) held rows (Ok tt)
      by [] m e same = subst (λ l. Added l held rows (Ok tt)) (sym same) (refl, m.keeps)
      by (d ∷ made) m e same = absurd (nil_cons e)

  module _ (mid : List LadderRow) (made : Derived) (rest : List Derived) (up : AddsUpTo before mid derived (made ∷ rest)) (after : List LadderRow) where
    -- one more was added
    pub one_less : AddsAll mid after (made ∷ []) (Ok tt) → AddsUpTo before after derived rest
    one_less one os held ds k are can = let m = up os held ds k are can in by m m.made m.are m.can m.same
      where
        by : (m : Midway os held ds mid (made ∷ rest)) (es : List (Derivation (List ℕ))) →
            made ∷ rest ≡ map derived_of es → AllCanAdd (calm m.origins) (map Of es) →
            add_rows bytes_eq (calm os) (map Of ds) ≡ add_rows bytes_eq (calm m.origins) (map Of es) → Midway os held ds after rest
        by m [] e c same = absurd (cons_nil e)
        by m (d ∷ es) e c same =
            let is : made ≡ derived_of d = cc in
            let tail : rest ≡ map derived_of es = cc in
            at tail (add_row bytes_eq m.origins (Of d)).clash refl (one m.origins held (d ∷ []) m.keeps (ap (λ x. x ∷ []) is) (c.0, tt))
          where
            at : rest ≡ map derived_of es
                → (o : Option (Clash (List ℕ)))
                → (add_row bytes_eq m.origins (Of d)).clash ≡ o
                → AddedBy o (add_row bytes_eq m.origins (Of d)).rows held after (Ok tt)
                → Midway os held ds after rest
            at tail None f h =
                let next : Ladder (List ℕ) = add_row bytes_eq m.origins (Of d) in
                let is : next ≡ calm next.rows = λ j. record { rows = next.rows; clash = f j } in
                record {
                  origins = next.rows;
                  made = es;
                  keeps = h.1;
                  are = tail;
                  can = subst (λ l. AllCanAdd l (map Of es)) is c.1;
                  same = same ∙ ap (λ l. add_rows bytes_eq l (map Of es)) is;
                }
            at tail (Some clash) f h = absurd (ok_is_no_err h)

    -- one clashes
    pub stops : (p : Proof) → AddsAll mid after (made ∷ []) (Err p) → AddsAll before after derived (Err p)
    stops p one os held ds k are can = let m = up os held ds k are can in by m m.made m.are m.can m.same
      where
        by : (m : Midway os held ds mid (made ∷ rest)) (es : List (Derivation (List ℕ))) →
            made ∷ rest ≡ map derived_of es → AllCanAdd (calm m.origins) (map Of es) →
            add_rows bytes_eq (calm os) (map Of ds) ≡ add_rows bytes_eq (calm m.origins) (map Of es) →
            Added (add_rows bytes_eq (calm os) (map Of ds)) held after (Err p)
        by m [] e c same = absurd (cons_nil e)
        by m (d ∷ es) e c same =
            let is : made ≡ derived_of d = cc in
            at (add_row bytes_eq m.origins (Of d)).clash refl (one m.origins held (d ∷ []) m.keeps (ap (λ x. x ∷ []) is) (c.0, tt))
          where
            at : (o : Option (Clash (List ℕ))) → (add_row bytes_eq m.origins (Of d)).clash ≡ o →
                AddedBy o (add_row bytes_eq m.origins (Of d)).rows held after (Err p) →
                Added (add_rows bytes_eq (calm os) (map Of ds)) held after (Err p)
            at None f h = absurd (ok_is_no_err (sym h.0))
            at (Some clash) f h =
                let next : Ladder (List ℕ) = add_row bytes_eq m.origins (Of d) in
                let is : next ≡ record { rows = next.rows; clash = Some clash } = λ j. record { rows = next.rows; clash = f j } in
                let whole = same ∙ ap (λ l. add_rows bytes_eq l (map Of es)) is ∙ clash_stays next.rows clash (map Of es) in
                subst (λ l. Added l held after (Err p)) (sym whole) h

pub kdf_input_is : (i : KdfInput) → CountIn i → IsInput i → IsKdfInput i
kdf_input_is (KdfInput.Kenb count) c h = c
kdf_input_is (KdfInput.Nh sync) c h = tt
kdf_input_is (KdfInput.Star pci earfcn) c h = h
kdf_input_is (KdfInput.Alg kind identity) c h = tt

-- THE PLACES OF A LIST

pub left_at : {A : Type 0} (xs : List A) (k : ℕ) (d : A) → k < length xs → drop k xs ≡ slice_index_or xs k d ∷ drop (suc k) xs
left_at [] k d lt = absurd (omega (arith, lt))
left_at (x ∷ xs) zero d lt = refl
left_at (x ∷ xs) (suc k) d lt = left_at xs k d (omega (arith, lt))

module _ (before rows : List LadderRow) (derived : List Derived) (k : ℕ) (d : Derived) (lt : k < length derived)
    (up : AddsUpTo before rows derived (drop k derived)) where
  pub awaits_at : Awaits before derived → Awaits rows (slice_index_or derived k d ∷ [])
  awaits_at a =
      awaits_one rows (slice_index_or derived k d) (drop (suc k) derived)
      (subst (Awaits rows) (left_at derived k d lt) (awaits_left before derived rows (drop k derived) a up))

  here : AddsUpTo before rows derived (slice_index_or derived k d ∷ drop (suc k) derived)
  here = subst (AddsUpTo before rows derived) (left_at derived k d lt) up

  pub goes_at : (after : List LadderRow) → AddsAll rows after (slice_index_or derived k d ∷ []) (Ok tt) → AddsUpTo before after derived (drop (k + 1) derived)
  goes_at after one =
      subst (λ n. AddsUpTo before after derived (drop n derived)) (sym (add-one k))
      (one_less before derived rows (slice_index_or derived k d) (drop (suc k) derived) here after one)

  pub stops_at : (after : List LadderRow) (p : Proof) → AddsAll rows after (slice_index_or derived k d ∷ []) (Err p) → AddsAll before after derived (Err p)
  stops_at after p one = stops before derived rows (slice_index_or derived k d) (drop (suc k) derived) here after p one

-- at the end
pub all_added : (before rows : List LadderRow) (derived : List Derived) (k : ℕ)
    → length derived ≤ k
    → AddsUpTo before rows derived (drop k derived)
    → AddsAll before rows derived (Ok tt)
all_added before rows derived k le up = none_left before derived rows (subst (AddsUpTo before rows derived) (drop_all derived k le) up)
  where
    drop_all : {A : Type 0} (xs : List A) (k : ℕ) → length xs ≤ k → drop k xs ≡ []
    drop_all [] zero le = refl
    drop_all [] (suc k) le = refl
    drop_all (x ∷ xs) zero le = absurd (omega (arith, le))
    drop_all (x ∷ xs) (suc k) le = drop_all xs k (omega (arith, le))
