-- The ladder of a history that grows: without a clash its rows are the distinct terms.
use Rattle.std.proofs.Common.{◌≡◌, Bool, true, false, List, [], ◌∷◌, ◌++◌, Option, Some, None, refl, ap, sym, ◌∙◌, subst, inl, inr}
use Rattle.std.proofs.lemmas.List.{map-append}
use Rattle.key_model.specs.{Term.Term, Value.same_value}
use Rattle.lte_machine.specs.Ladder.{RowOrigin, row_key, Clash, Ladder, add_row, add_next, add_rows, no_rows, ladder_of}
use Rattle.lte_machine.specs.Distinct.{keys_of, Member, is_member, with_new, distinct_after, distinct_terms, OneValueOneTerm}
use Rattle.lte_machine.proofs.Rows.{Well, Addable, add_row_grows, is_member_is, member_left, member_right}

module _ (same : Term → Term → Bool) where
  -- the first clash stays
  clash_stays : (rows : List (RowOrigin Term)) (c : Clash Term) (ms : List (RowOrigin Term))
      → (add_rows same (record { rows = rows; clash = Some c }) ms).clash ≡ Some c
  clash_stays rows c [] = refl
  clash_stays rows c (m ∷ ms) = clash_stays rows c ms

  -- a ladder of two histories, one after the other
  pub add_rows_append : (l : Ladder Term) (ms ns : List (RowOrigin Term)) → add_rows same l (ms ++ ns) ≡ add_rows same (add_rows same l ms) ns
  add_rows_append l [] ns = refl
  add_rows_append l (m ∷ ms) ns = add_rows_append (add_next same l m) ms ns

  no_clash_before : (l : Ladder Term) (ms : List (RowOrigin Term)) → (add_rows same l ms).clash ≡ None → l.clash ≡ None
  no_clash_before l ms calm = by_clash l.clash refl
    where
      by_clash : (o : Option (Clash Term)) → l.clash ≡ o → l.clash ≡ None
      by_clash None e = e
      by_clash (Some c) e =
          let is : l ≡ record { rows = l.rows; clash = Some c } = λ j. record { rows = l.rows; clash = e j } in
          let bad : None ≡ Some c = sym calm ∙ ap (λ x. (add_rows same x ms).clash) is ∙ clash_stays l.rows c ms in
          cc

  -- a history without a clash had none before
  pub calm_before : (ms ns : List (RowOrigin Term)) → (ladder_of same (ms ++ ns)).clash ≡ None → (ladder_of same ms).clash ≡ None
  calm_before ms ns calm = no_clash_before (add_rows same no_rows ms) ns (ap (λ l. l.clash) (sym (add_rows_append no_rows ms ns)) ∙ calm)

-- each origin may be added to the rows of those before it
abbrev pub Addables : List (RowOrigin Term) → List (RowOrigin Term) → Type 0
Addables rows [] = Unit {0}
Addables rows (m ∷ ms) = Addable rows m × Addables (add_row same_value rows m).rows ms

-- rows that stand for these terms, each with a value of its own
pub record Stand (rows : List (RowOrigin Term)) (ts : List Term) : Type 0 where
  pub well : Well rows
  pub keys : keys_of rows ≡ ts

pub rows_grow : (rows : List (RowOrigin Term)) (ts : List Term) (ms : List (RowOrigin Term)) → Stand rows ts → Addables rows ms
    → (add_rows same_value (record { rows = rows; clash = None }) ms).clash ≡ None
    → Stand (add_rows same_value (record { rows = rows; clash = None }) ms).rows (distinct_after ts (keys_of ms))
rows_grow rows ts [] s add calm = s
rows_grow rows ts (m ∷ ms) s add calm =
    let one : (add_row same_value rows m).clash ≡ None = no_clash_before same_value (add_row same_value rows m) ms calm in
    let grown = add_row_grows rows s.well m add.0 one in
    let is : add_row same_value rows m ≡ record { rows = (add_row same_value rows m).rows; clash = None } =
    λ j. record { rows = (add_row same_value rows m).rows; clash = one j } in
    let keys : keys_of (add_row same_value rows m).rows ≡ with_new (is_member (row_key m) ts) (row_key m) ts =
    grown.keys ∙ ap (λ us. with_new (is_member (row_key m) us) (row_key m) us) s.keys in
    let later = rows_grow (add_row same_value rows m).rows (with_new (is_member (row_key m) ts) (row_key m) ts) ms
    (record { well = grown.well; keys = keys }) add.1
    (ap (λ l. (add_rows same_value l ms).clash) (sym is) ∙ calm) in
    subst (λ l. Stand (add_rows same_value l ms).rows (distinct_after (with_new (is_member (row_key m) ts) (row_key m) ts) (keys_of ms))) (sym is) later

-- a history's rows stand for its distinct terms, where it has no clash
abbrev pub Laddered : List (RowOrigin Term) → Type 0
Laddered history = (ladder_of same_value history).clash ≡ None → Stand (ladder_of same_value history).rows (distinct_terms history)

pub no_history : Laddered []
no_history calm = record { well = record { own = λ a b m n v. absurd m; made = tt }; keys = refl }

pub distinct_append : (seen ts us : List Term) → distinct_after seen (ts ++ us) ≡ distinct_after (distinct_after seen ts) us
distinct_append seen [] us = refl
distinct_append seen (t ∷ ts) us = distinct_append (with_new (is_member t seen) t seen) ts us

-- one step more
pub laddered_more : (history ms : List (RowOrigin Term))
    → Laddered history
    → ((ladder_of same_value history).clash ≡ None → Addables (ladder_of same_value history).rows ms)
    → Laddered (history ++ ms)
laddered_more history ms ladder add calm =
    let before = calm_before same_value history ms calm in
    let joined = add_rows_append same_value no_rows history ms in
    let is : ladder_of same_value history ≡ record { rows = (ladder_of same_value history).rows; clash = None } =
    λ j. record { rows = (ladder_of same_value history).rows; clash = before j } in
    let whole : ladder_of same_value (history ++ ms) ≡ add_rows same_value (record { rows = (ladder_of same_value history).rows; clash = None }) ms =
    joined ∙ ap (λ l. add_rows same_value l ms) is in
    let stand = rows_grow (ladder_of same_value history).rows (distinct_terms history) ms (ladder before) (add before) (ap (λ l. l.clash) (sym whole) ∙ calm) in
    let terms : distinct_after (distinct_terms history) (keys_of ms) ≡ distinct_terms (history ++ ms) =
    sym (distinct_append [] (keys_of history) (keys_of ms)) ∙ ap (distinct_after []) (sym (map-append row_key history ms)) in
    record {
      well = subst Well (sym (ap (λ l. l.rows) whole)) stand.well;
      keys = ap (λ l. keys_of l.rows) whole ∙ stand.keys ∙ terms;
    }

-- every term of a list stands among the distinct ones
with_new_seen : (b : Bool) (t u : Term) (seen : List Term) → Member u seen → Member u (with_new b t seen)
with_new_seen true t u seen m = m
with_new_seen false t u seen m = member_left u seen (t ∷ []) m

distinct_seen : (seen ts : List Term) (u : Term) → Member u seen → Member u (distinct_after seen ts)
distinct_seen seen [] u m = m
distinct_seen seen (t ∷ ts) u m = distinct_seen (with_new (is_member t seen) t seen) ts u (with_new_seen (is_member t seen) t u seen m)

pub among_distinct : (seen ts : List Term) (u : Term) → Member u ts → Member u (distinct_after seen ts)
among_distinct seen [] u m = absurd m
among_distinct seen (t ∷ ts) u (inr m) = among_distinct (with_new (is_member t seen) t seen) ts u m
among_distinct seen (t ∷ ts) u (inl e) =
    distinct_seen (with_new (is_member t seen) t seen) ts u (subst (λ x. Member x (with_new (is_member t seen) t seen)) (sym e) (here (is_member t seen) refl))
  where
    here : (b : Bool) → is_member t seen ≡ b → Member t (with_new (is_member t seen) t seen)
    here b is = subst (λ x. Member t (with_new x t seen)) (sym is) (stands b is)
      where
        stands : (b : Bool) → is_member t seen ≡ b → Member t (with_new b t seen)
        stands true is = is_member_is t seen is
        stands false is = member_right t seen (t ∷ []) (inl refl)

-- in a history without a clash two of its terms with one value are one
pub one_value_one_term : (history : List (RowOrigin Term)) → Laddered history → (ladder_of same_value history).clash ≡ None → OneValueOneTerm (keys_of history)
one_value_one_term history ladder calm a b m n v =
    let s = ladder calm in
    let stand : OneValueOneTerm (distinct_terms history) = subst OneValueOneTerm s.keys s.well.own in
    stand a b (among_distinct [] (keys_of history) a m) (among_distinct [] (keys_of history) b n) v
