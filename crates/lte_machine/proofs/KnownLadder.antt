-- A history that grows by derivations, each from keys that stand in it or that one before it made.
use Rattle.std.proofs.Common.{◌≡◌, Bool, true, false, List, [], ◌∷◌, ◌++◌, map, Option, Some, None, refl, ap, sym, ◌∙◌, subst, inl, inr}
use Rattle.std.proofs.lemmas.List.{map-append}
use Rattle.key_model.specs.{Derivation.Derivation, Term.Term, Value.same_value}
use Rattle.lte_machine.specs.Ladder.{RowOrigin, OfRoot, Of, row_key, Clash, Ladder, add_row, add_rows, no_rows, ladder_of, root_row}
use Rattle.lte_machine.specs.Distinct.{keys_of, Member, is_member, with_new}
use Rattle.lte_machine.proofs.Rows.{Well, add_row_grows, is_member_is, member_left, member_right}
use Rattle.lte_machine.proofs.History.{Addables, Laddered, add_rows_append, laddered_more, among_distinct}
use Rattle.lte_machine.proofs.KnownLists.{Plus, Chain, AllOut, chain_more}

-- KEYS OF A LONGER HISTORY

pub still_in : (history ms : List (RowOrigin Term)) (t : Term) → Member t (keys_of history) → Member t (keys_of (history ++ ms))
still_in history ms t h = subst (Member t) (sym (map-append row_key history ms)) (member_left t (keys_of history) (keys_of ms) h)

pub new_in : (history ms : List (RowOrigin Term)) (t : Term) → Member t (keys_of ms) → Member t (keys_of (history ++ ms))
new_in history ms t h = subst (Member t) (sym (map-append row_key history ms)) (member_right t (keys_of history) (keys_of ms) h)

pub outs_more : (P Q : Term → Type 0) → ((t : Term) → P t → Q t) → (ds : List (Derivation Term)) → AllOut P ds → AllOut Q ds
outs_more P Q f [] o = tt
outs_more P Q f (d ∷ ds) o = (f d.out o.0, outs_more P Q f ds o.1)

outs_here : (ds : List (Derivation Term)) → AllOut (λ t. Member t (keys_of (map Of ds))) ds
outs_here [] = tt
outs_here (d ∷ ds) = (inl refl, outs_more (λ t. Member t (keys_of (map Of ds))) (λ t. Member t (keys_of (map Of (d ∷ ds)))) (λ t m. inr m) ds (outs_here ds))

-- the keys that were derived stand in it
pub outs_in : (history : List (RowOrigin Term)) (ds : List (Derivation Term)) → AllOut (λ t. Member t (keys_of (history ++ map Of ds))) ds
outs_in history ds =
    outs_more (λ t. Member t (keys_of (map Of ds))) (λ t. Member t (keys_of (history ++ map Of ds))) (new_in history (map Of ds)) ds (outs_here ds)

-- EACH DERIVATION MAY BE ADDED

clash_stays : (rows : List (RowOrigin Term)) (c : Clash Term) (ms : List (RowOrigin Term))
    → (add_rows same_value (record { rows = rows; clash = Some c }) ms).clash ≡ Some c
clash_stays rows c [] = refl
clash_stays rows c (m ∷ ms) = clash_stays rows c ms

-- rows without a clash had none before
calm_so_far : (l : Ladder Term) (ms : List (RowOrigin Term)) → (add_rows same_value l ms).clash ≡ None → l.clash ≡ None
calm_so_far l ms calm = by_clash l.clash refl
  where
    by_clash : (o : Option (Clash Term)) → l.clash ≡ o → l.clash ≡ None
    by_clash None e = e
    by_clash (Some c) e =
        let is : l ≡ record { rows = l.rows; clash = Some c } = λ j. record { rows = l.rows; clash = e j } in
        let bad : None ≡ Some c = sym calm ∙ ap (λ x. (add_rows same_value x ms).clash) is ∙ clash_stays l.rows c ms in
        cc

seen_stays : (b : Bool) (t u : Term) (seen : List Term) → Member u seen → Member u (with_new b t seen)
seen_stays true t u seen m = m
seen_stays false t u seen m = member_left u seen (t ∷ []) m

new_stands : (t : Term) (seen : List Term) (b : Bool) → is_member t seen ≡ b → Member t (with_new b t seen)
new_stands t seen true is = is_member_is t seen is
new_stands t seen false is = member_right t seen (t ∷ []) (inl refl)

after_one : (t : Term) (seen after : List Term) → after ≡ with_new (is_member t seen) t seen → (u : Term) → Plus (λ x. Member x seen) t u → Member u after
after_one t seen after is u (inl m) = subst (Member u) (sym is) (seen_stays (is_member t seen) t u seen m)
after_one t seen after is u (inr e) = subst (λ x. Member x after) (sym e) (subst (Member t) (sym is) (new_stands t seen (is_member t seen) refl))

chain_addables : (rows : List (RowOrigin Term)) (ds : List (Derivation Term)) → Well rows → Chain (λ t. Member t (keys_of rows)) ds
    → (add_rows same_value (record { rows = rows; clash = None }) (map Of ds)).clash ≡ None → Addables rows (map Of ds)
chain_addables rows [] well c calm = tt
chain_addables rows (d ∷ ds) well c calm =
    let one : (add_row same_value rows (Of d)).clash ≡ None = calm_so_far (add_row same_value rows (Of d)) (map Of ds) calm in
    let grown = add_row_grows rows well (Of d) c.0 one in
    let after : List (RowOrigin Term) = (add_row same_value rows (Of d)).rows in
    let is : add_row same_value rows (Of d) ≡ record { rows = after; clash = None } = λ j. record { rows = after; clash = one j } in (
      c.0,
      chain_addables after ds grown.well
          (chain_more (Plus (λ t. Member t (keys_of rows)) d.out) (λ t. Member t (keys_of after))
          (after_one d.out (keys_of rows) (keys_of after) grown.keys) ds c.1)
          (ap (λ l. (add_rows same_value l (map Of ds)).clash) (sym is) ∙ calm),
    )

-- a history goes on by derivations from keys that stand in it
pub laddered_chain : (history : List (RowOrigin Term)) (ds : List (Derivation Term))
    → Laddered history
    → Chain (λ t. Member t (keys_of history)) ds
    → Laddered (history ++ map Of ds)
laddered_chain history ds ladder c calm = laddered_more history (map Of ds) ladder addables calm
  where
    addables : (ladder_of same_value history).clash ≡ None → Addables (ladder_of same_value history).rows (map Of ds)
    addables before =
        let stand = ladder before in
        let rows : List (RowOrigin Term) = (ladder_of same_value history).rows in
        let is : ladder_of same_value history ≡ record { rows = rows; clash = None } = λ j. record { rows = rows; clash = before j } in
        let whole : ladder_of same_value (history ++ map Of ds) ≡ add_rows same_value (record { rows = rows; clash = None }) (map Of ds) =
        add_rows_append same_value no_rows history (map Of ds) ∙ ap (λ l. add_rows same_value l (map Of ds)) is in
        chain_addables rows ds stand.well
        (chain_more (λ t. Member t (keys_of history)) (λ t. Member t (keys_of rows))
        (λ t m. subst (Member t) (sym stand.keys) (among_distinct [] (keys_of history) t m)) ds c)
        (ap (λ l. l.clash) (sym whole) ∙ calm)

-- and by a root that no row is
pub laddered_root : (history : List (RowOrigin Term)) (root : Term)
    → Laddered history
    → root_row same_value root (ladder_of same_value history).rows ≡ None
    → Laddered (history ++ OfRoot root ∷ [])
laddered_root history root ladder none = laddered_more history (OfRoot root ∷ []) ladder (λ calm. (none, tt))
