-- The ladder of a run's derivations in another reading of keys.
use Rattle.std.proofs.Common.{◌≡◌, ℕ, ◌+◌, Bool, true, false, List, [], ◌∷◌, map, Option, Some, None, refl, ap, sym, ◌∙◌}
use Rattle.std.specs.Prelude.{option_map, ◌&&◌}
use Rattle.std.proofs.lemmas.List.{map-append}
use Rattle.key_model.specs.Derivation.{Input, FromSync, map_input}
use Rattle.lte_machine.specs.Carried.{map_clash}
use Rattle.lte_machine.specs.Ladder.{RowOrigin, OfRoot, Of, map_row, row_key, same_input, same_origin, Clash, Ladder, Hit, hit_if, hit_from, hit, stands_or_not, added_at, add_row, added_unless, add_next, add_rows, no_rows, ladder_of, root_place, root_if, root_row}

abbrev pub map_ladder : {K L : Type 0} → (K → L) → Ladder K → Ladder L
map_ladder f l = record { rows = map (map_row f) l.rows; clash = option_map (map_clash f) l.clash }

abbrev map_hit : {K L : Type 0} → (K → L) → Hit K → Hit L
map_hit f h = record { place = h.place; found = map_row f h.found }

module _ {K L : Type 0} (same : K → K → Bool) (same' : L → L → Bool) (f : K → L) (e : (a b : K) → same' (f a) (f b) ≡ same a b) where
  pub row_key-map : (row : RowOrigin K) → f (row_key row) ≡ row_key (map_row f row)
  row_key-map (OfRoot key) = refl
  row_key-map (Of d) = refl

  same_input-map : (a b : Input K) → same_input same a b ≡ same_input same' (map_input f a) (map_input f b)
  same_input-map (FromSync a) (FromSync b) = sym (e a b)
  same_input-map a (FromSync b) = refl
  same_input-map a b = refl

  same_origin-map : (a b : RowOrigin K) → same_origin same a b ≡ same_origin same' (map_row f a) (map_row f b)
  same_origin-map (OfRoot a) (OfRoot b) = sym (e a b)
  same_origin-map (OfRoot a) (Of d) = refl
  same_origin-map (Of d) (OfRoot b) = refl
  same_origin-map (Of a) (Of b) = λ j. sym (e a.key b.key) j && same_input-map a.input b.input j

  hit_if-map : (b : Bool) (h : Hit K) (o : Option (Hit K)) → option_map (map_hit f) (hit_if b h o) ≡ hit_if b (map_hit f h) (option_map (map_hit f) o)
  hit_if-map true h o = refl
  hit_if-map false h o = refl

  hit_from-map : (key : K) (i : ℕ) (rows : List (RowOrigin K))
      → option_map (map_hit f) (hit_from same key i rows) ≡ hit_from same' (f key) i (map (map_row f) rows)
  hit_from-map key i [] = refl
  hit_from-map key i (row ∷ rows) =
      hit_if-map (same (row_key row) key) (record { place = i; found = row }) (hit_from same key (i + 1) rows)
      ∙ (λ j. hit_if ((sym (e (row_key row) key) ∙ ap (λ k. same' k (f key)) (row_key-map row)) j)
      (record { place = i; found = map_row f row }) (hit_from-map key (i + 1) rows j))

  stands-map : (b : Bool) (rows : List (RowOrigin K)) (place : ℕ) (o : RowOrigin K)
      → map_ladder f (stands_or_not b rows place o) ≡ stands_or_not b (map (map_row f) rows) place (map_row f o)
  stands-map true rows place o = refl
  stands-map false rows place o = refl

  added_at-map : (rows : List (RowOrigin K)) (o : RowOrigin K) (h : Option (Hit K))
      → map_ladder f (added_at same rows o h)
      ≡ added_at same' (map (map_row f) rows) (map_row f o) (option_map (map_hit f) h)
  added_at-map rows o None = λ j. record { rows = map-append (map_row f) rows (o ∷ []) j; clash = None }
  added_at-map rows o (Some h) =
      stands-map (same_origin same h.found o) rows h.place o
      ∙ ap (λ b. stands_or_not b (map (map_row f) rows) h.place (map_row f o)) (same_origin-map h.found o)

  add_row-map : (rows : List (RowOrigin K)) (o : RowOrigin K) → map_ladder f (add_row same rows o) ≡ add_row same' (map (map_row f) rows) (map_row f o)
  add_row-map rows o =
      added_at-map rows o (hit same (row_key o) rows)
      ∙ ap (added_at same' (map (map_row f) rows) (map_row f o))
      (hit_from-map (row_key o) 0 rows ∙ ap (λ k. hit_from same' k 0 (map (map_row f) rows)) (row_key-map o))

  added_unless-map : (c : Option (Clash K)) (rows : List (RowOrigin K)) (o : RowOrigin K)
      → map_ladder f (added_unless c same rows o)
      ≡ added_unless (option_map (map_clash f) c) same' (map (map_row f) rows) (map_row f o)
  added_unless-map None rows o = add_row-map rows o
  added_unless-map (Some c) rows o = refl

  add_rows-map : (l : Ladder K) (os : List (RowOrigin K)) → map_ladder f (add_rows same l os) ≡ add_rows same' (map_ladder f l) (map (map_row f) os)
  add_rows-map l [] = refl
  add_rows-map l (o ∷ os) = add_rows-map (add_next same l o) os ∙ ap (λ x. add_rows same' x (map (map_row f) os)) (added_unless-map l.clash l.rows o)

  -- the ladder of a history is carried, rows and clash
  pub ladder_of-map : (history : List (RowOrigin K)) → map_ladder f (ladder_of same history) ≡ ladder_of same' (map (map_row f) history)
  ladder_of-map history = add_rows-map no_rows history

  pub rows-map : (history : List (RowOrigin K)) → map (map_row f) (ladder_of same history).rows ≡ (ladder_of same' (map (map_row f) history)).rows
  rows-map history = ap (λ l. l.rows) (ladder_of-map history)

  root_place-map : (place : ℕ) (row : RowOrigin K) → root_place place row ≡ root_place place (map_row f row)
  root_place-map place (OfRoot key) = refl
  root_place-map place (Of d) = refl

  root_if-map : (h : Option (Hit K)) → root_if h ≡ root_if (option_map (map_hit f) h)
  root_if-map None = refl
  root_if-map (Some h) = root_place-map h.place h.found

  -- the row of a root
  pub root_row-map : (key : K) (rows : List (RowOrigin K)) → root_row same key rows ≡ root_row same' (f key) (map (map_row f) rows)
  root_row-map key rows = root_if-map (hit same key rows) ∙ ap root_if (hit_from-map key 0 rows)
