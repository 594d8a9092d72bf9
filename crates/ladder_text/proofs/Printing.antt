-- The output, line after line.
use Rattle.std.proofs.Common.{length-append, ◌≡◌, ◌≢◌, ℕ, suc, ◌+◌, ◌<◌, ◌≤◌, ◌⊎◌, ◌||◌, Bool, true, false, cond, Some, None, Ok, Err, List, [], ◌∷◌, ◌++◌, map, length, get_or, drop, sym, refl, ap, subst, ◌∙◌, arith, inl, inr, append_assoc, append-nil}
use Rattle.std.proofs.lemmas.List.{length-map, get_or-map, map-append}
use Rattle.std.proofs.{lemmas.List.Folds.list_any_at, lemmas.List.Quantifiers.position-Some, lemmas.Option.none-some, Math.Seq.drop-cons}
use Rattle.std.specs.{List.position, List.list_any, Option.option_map_or, Str.bytes_eq}
use Rattle.edge_io.proofs.Known.{nothing_out, all_out, grows_twice, proper_prefix_on}
use Rattle.edge_io.specs.{Told.Told, Cause.NoCountFell}
use Rattle.edge_io.specs.Octets.{Grows, GrowsByPrefix, GrowsByProperPrefix}
use Rattle.key_terms.specs.declared.ladder.LadderFault.TheVariants as fault
use Rattle.key_terms.specs.{declared.row.LadderRow.LadderRow, declared.row.Origin.Origin, declared.row.Row.Row, Ladder.row}
use Rattle.key_terms.proofs.Places.{slice_get_at_end, position-None}
use Rattle.ladder_text.specs.{declared.line.LadderLine.LadderLine, declared.ending.Ending.Ending, Rows.StandsFor, Rows.answer_at}
use Rattle.ladder_text.specs.declared.ending.Ending.TheVariants.{Done, Memory, WriteFault, Coincidence}
use Rattle.ladder_text.specs.Text.{same, meets, with_row, AreGood}
use Rattle.ladder_text.specs.Report.{KeyRow, key_at, derived_in, octets_in, kind_of, row_text, coincidence_text, Place, Again, Anew, Taken, place_by_octets, place_in, rows_after, ends_at, text_at, Output, then_rest, output_from, TextAt, Writes}
use Rattle.text_lines.proofs.Ended.{none_passes}
use Rattle.ladder_text.proofs.{Rows.row_in, Placing.again_key, Placing.number_or_none}

-- the rows where one is the same derivation
place_again : (rows : List KeyRow) (line : LadderLine) (k : ℕ) → place_in rows line ≡ Again k → position (λ r. same r.line line) rows ≡ Some k
place_again rows line k place =
    elim (number_or_none (position (λ r. same r.line line) rows)) [
      | inl j ↦
          let there = sym (ap (λ p. option_map_or Again p (place_by_octets rows (octets_in rows line))) j.1) ∙ place in
          let one : j.0 ≡ k = cc in
          j.1 ∙ ap Some one
      | inr none ↦
          let there = sym (ap (λ p. option_map_or Again p (place_by_octets rows (octets_in rows line))) none) ∙ place in
          elim (number_or_none (position (λ r. bytes_eq r.octets (octets_in rows line)) rows)) [
            | inl j ↦ let taken = sym (ap (λ p. option_map_or Taken p Anew) j.1) ∙ there in cc
            | inr free ↦ let anew = sym (ap (λ p. option_map_or Taken p Anew) free) ∙ there in cc
          ]
    ]

-- the row that the ladder answers has the line's octets
place_key : (rows : List KeyRow) (ladder : List LadderRow) (line : LadderLine) (p : Place) (r : Row)
    → StandsFor rows ladder
    → place_in rows line ≡ p
    → Ok r ≡ answer_at p rows line
    → key_at (rows_after p rows line) r ≡ octets_in rows line
place_key rows ladder line (Again k) r stand place answer =
    let one : r ≡ row k = cc in
    ap (key_at rows) one ∙ again_key rows ladder line k stand (place_again rows line k place)
place_key rows ladder line Anew r stand place answer =
    let one : r ≡ row (length rows) = cc in
    let n : KeyRow = record { line = line; octets = octets_in rows line } in
    ap (key_at (rows ++ n ∷ [])) one ∙ ap (λ o. option_map_or (λ r'. r'.octets) o []) (slice_get_at_end rows n)
place_key rows ladder line (Taken k) r stand place answer = cc

-- what the answer's line says
row_text_at : (rows : List KeyRow) (line : LadderLine) (n : ℕ) (p : Place) (r : Row) (octets : List ℕ)
    → octets ≡ octets_in rows line
    → Ok r ≡ answer_at p rows line
    → row_text r.0 (kind_of line) octets ≡ text_at p rows n line
row_text_at rows line n (Again k) r octets same_octets answer =
    let one : r ≡ row k = cc in
    ap (λ r'. row_text r'.0 (kind_of line) octets) one ∙ ap (row_text k (kind_of line)) same_octets
row_text_at rows line n Anew r octets same_octets answer =
    let one : r ≡ row (length rows) = cc in
    ap (λ r'. row_text r'.0 (kind_of line) octets) one ∙ ap (row_text (length rows) (kind_of line)) same_octets
row_text_at rows line n (Taken k) r octets same_octets answer = cc

row_ends : (rows : List KeyRow) (line : LadderLine) (p : Place) (r : Row) → Ok r ≡ answer_at p rows line → ends_at p ≡ Done
row_ends rows line (Again k) r answer = refl
row_ends rows line Anew r answer = refl
row_ends rows line (Taken k) r answer = cc

-- a line that names a row
pub row_written : (rows : List KeyRow) (ladder : List LadderRow) (line : LadderLine) (n : ℕ) (r : Row) (octets : List ℕ)
    (ending : Ending) (out out' : Told)
    → StandsFor rows ladder
    → Ok r ≡ answer_at (place_in rows line) rows line
    → octets ≡ key_at (rows_after (place_in rows line) rows line) r
    → TextAt ending Done (row_text r.0 (kind_of line) octets) out out'
    → TextAt ending (ends_at (place_in rows line)) (text_at (place_in rows line) rows n line) out out'
row_written rows ladder line n r octets ending out out' stand answer key written =
    let p = place_in rows line in
    let same_octets : octets ≡ octets_in rows line = key ∙ place_key rows ladder line p r stand refl answer in
    subst (λ ends. TextAt ending ends (text_at p rows n line) out out') (sym (row_ends rows line p r answer))
    (subst (λ text. TextAt ending Done text out out') (row_text_at rows line n p r octets same_octets answer) written)

taken_text_at : (rows : List KeyRow) (line : LadderLine) (n : ℕ) (p : Place) (r : Row) (o : Origin)
    → Err (fault.Coincidence r o) ≡ answer_at p rows line
    → (coincidence_text n r.0 (derived_in rows line) ≡ text_at p rows n line)
    × (Coincidence ≡ ends_at p)
    × (rows_after p rows line ≡ rows)
taken_text_at rows line n (Again k) r o answer = cc
taken_text_at rows line n Anew r o answer = cc
taken_text_at rows line n (Taken k) r o answer = let one : r ≡ row k = cc in (ap (λ r'. coincidence_text n r'.0 (derived_in rows line)) one, refl, refl)

-- a line that is a coincidence
pub taken_written : (rows : List KeyRow) (line : LadderLine) (n : ℕ) (r : Row) (o : Origin) (ending : Ending)
    (out out' : Told)
    → Err (fault.Coincidence r o) ≡ answer_at (place_in rows line) rows line
    → TextAt ending Coincidence (coincidence_text n r.0 (derived_in rows line)) out out'
    → TextAt ending (ends_at (place_in rows line)) (text_at (place_in rows line) rows n line) out out'
taken_written rows line n r o ending out out' answer written =
    let p = place_in rows line in
    let t = taken_text_at rows line n p r o answer in
    subst (λ ends. TextAt ending ends (text_at p rows n line) out out') t.1 (subst (λ text. TextAt ending Coincidence text out out') t.0 written)

-- a text before an output
abbrev prefixed : List ℕ → Output → Output
prefixed text output = record { text = text ++ output.text; ends = output.ends }

-- so far, i of the lines are printed
pub record Printed (lines : List LadderLine) (i : ℕ) (first now : Told) (ladder : List LadderRow) : Type 0 where
  pub rows : List KeyRow
  pub text : List ℕ
  pub stand : StandsFor rows ladder
  pub good : AreGood (map (λ r. r.line) rows) (drop i lines)
  pub grown : Grows first.written now.written text
  pub whole : output_from [] 1 lines ≡ prefixed text (output_from rows (i + 1) (drop i lines))

pub none_printed : (lines : List LadderLine) (first : Told) (ladder : List LadderRow) → ladder ≡ [] → AreGood [] lines → Printed lines 0 first first ladder
none_printed lines first ladder none good = record {
  rows = [];
  text = [];
  stand = record { is = none; octets = λ k r found. absurd (none-some r found); refers = λ k r found. absurd (none-some r found) };
  good = good;
  grown = nothing_out first.written;
  whole = refl;
}

-- the lines that are left begin with the line at i
left_at : (lines : List LadderLine) (i : ℕ) (line : LadderLine) → i < length lines → line ≡ get_or lines i line → drop i lines ≡ line ∷ drop (i + 1) lines
left_at lines i line within is =
    let next : suc i ≡ i + 1 = omega arith in
    drop-cons lines i line within ∙ ap (λ l. l ∷ drop (suc i) lines) (sym is) ∙ ap (λ n. line ∷ drop n lines) next

pub line_met : (lines : List LadderLine) (i : ℕ) (first now : Told) (ladder : List LadderRow) (line : LadderLine)
    (p : Printed lines i first now ladder)
    → i < length lines
    → line ≡ get_or lines i line
    → meets (map (λ r. r.line) p.rows) line ≡ true
line_met lines i first now ladder line p within is = (subst (AreGood (map (λ r. r.line) p.rows)) (left_at lines i line within is) p.good).0

-- a row that is the same derivation passes the test of the lines, and no row fails it
line_stands : (rows : List KeyRow) (line : LadderLine) (k : ℕ)
    → position (λ r. same r.line line) rows ≡ Some k
    → list_any (λ earlier. same earlier line) (map (λ r. r.line) rows) ≡ true
line_stands rows line k found =
    let d : KeyRow = record { line = line; octets = [] } in
    let first = position-Some (λ (r : KeyRow). same r.line line) rows k d found in
    let at : get_or (map (λ r. r.line) rows) k line ≡ (get_or rows k d).line = get_or-map (λ r. r.line) rows k d line first.0 in
    list_any_at (λ earlier. same earlier line) (map (λ r. r.line) rows) k line
    (omega (arith, first.0, length-map rows (λ r. r.line))) (ap (λ l. same l line) at ∙ first.1)

any_mapped : {X Y : Type 0} (f : X → Y) (p : Y → Bool) (xs : List X) → list_any p (map f xs) ≡ list_any (λ x. p (f x)) xs
any_mapped f p [] = refl
any_mapped f p (x ∷ xs) = ap (λ b. p (f x) || b) (any_mapped f p xs)

no_line_stands : (rows : List KeyRow) (line : LadderLine)
    → position (λ r. same r.line line) rows ≡ None
    → list_any (λ earlier. same earlier line) (map (λ r. r.line) rows) ≡ false
no_line_stands rows line none =
    any_mapped (λ r. r.line) (λ earlier. same earlier line) rows
    ∙ none_passes (λ (r : KeyRow). same r.line line) rows
    (position-None (λ (r : KeyRow). same r.line line) rows none)

-- the rows that the text has so far are those of the lines
rows_of_line : (rows : List KeyRow) (line : LadderLine)
    → ends_at (place_in rows line) ≡ Done
    → with_row (map (λ r. r.line) rows) line ≡ map (λ r. r.line) (rows_after (place_in rows line) rows line)
rows_of_line rows line ends =
    let lines : List LadderLine = map (λ r. r.line) rows in
    let Same : Place → Type 0 = λ p. with_row lines line ≡ map (λ r. r.line) (rows_after p rows line) in
    elim (number_or_none (position (λ r. same r.line line) rows)) [
      | inl k ↦
          let place : place_in rows line ≡ Again k.0 = ap (λ p. option_map_or Again p (place_by_octets rows (octets_in rows line))) k.1 in
          subst Same (sym place) (ap (λ t. cond t lines (lines ++ line ∷ [])) (line_stands rows line k.0 k.1))
      | inr none ↦
          let by_octets = ap (λ p. option_map_or Again p (place_by_octets rows (octets_in rows line))) none in
          let Ends : Place → Type 0 = λ p. ends_at p ≡ Done in
          elim (number_or_none (position (λ r. bytes_eq r.octets (octets_in rows line)) rows)) [
            | inl k ↦
                let place : place_in rows line ≡ Taken k.0 = by_octets ∙ ap (λ p. option_map_or Taken p Anew) k.1 in
                let taken : Coincidence ≡ Done = subst Ends place ends in
                cc
            | inr free ↦
                let place : place_in rows line ≡ Anew = by_octets ∙ ap (λ p. option_map_or Taken p Anew) free in
                let n : KeyRow = record { line = line; octets = octets_in rows line } in
                subst Same (sym place) (ap (λ t. cond t lines (lines ++ line ∷ [])) (no_line_stands rows line none)
                ∙ sym (map-append (λ r. r.line) rows (n ∷ [])))
          ]
    ]

-- a text before a text before an output
then_is_prefixed : (p : Place) (text : List ℕ) (output : Output) → ends_at p ≡ Done → then_rest p text output ≡ prefixed text output
then_is_prefixed (Again k) text output ends = refl
then_is_prefixed Anew text output ends = refl
then_is_prefixed (Taken k) text output ends = cc

prefixed_twice : (front text : List ℕ) (output : Output) → prefixed front (prefixed text output) ≡ prefixed (front ++ text) output
prefixed_twice front text output = ap (λ t. record { text = t; ends = output.ends }) (sym (append_assoc front text output.text))

-- one line more is printed
pub next_printed : (lines : List LadderLine) (i : ℕ) (first mid now : Told) (ladder after : List LadderRow)
    (line : LadderLine) (p : Printed lines i first mid ladder)
    → i < length lines
    → line ≡ get_or lines i line
    → TextAt Done (ends_at (place_in p.rows line)) (text_at (place_in p.rows line) p.rows (i + 1) line) mid now
    → StandsFor (rows_after (place_in p.rows line) p.rows line) after → Printed lines (i + 1) first now after
next_printed lines i first mid now ladder after line p within is written stand =
    let place = place_in p.rows line in
    let text = text_at place p.rows (i + 1) line in
    let left = left_at lines i line within is in
    let good = (subst (AreGood (map (λ r. r.line) p.rows)) left p.good).1 in
    let ends = sym written.0 in
    record {
      rows = rows_after place p.rows line;
      text = p.text ++ text;
      stand = stand;
      good = subst (λ rows. AreGood rows (drop (i + 1) lines)) (rows_of_line p.rows line ends) good;
      grown = grows_twice first.written mid.written now.written p.text text p.grown written.1;
      whole = p.whole ∙ ap (λ ls. prefixed p.text (output_from p.rows (i + 1) ls)) left
          ∙ ap (prefixed p.text) (then_is_prefixed place text (output_from (rows_after place p.rows line) (i + 1 + 1) (drop (i + 1) lines)) ends)
          ∙ prefixed_twice p.text text (output_from (rows_after place p.rows line) (i + 1 + 1) (drop (i + 1) lines));
    }

-- want of memory before a line
pub memory_before : (lines : List LadderLine) (i : ℕ) (first now : Told) (ladder : List LadderRow)
    → Printed lines i first now ladder
    → Writes (output_from [] 1 lines) Memory first now
memory_before lines i first now ladder p =
    subst (λ t. GrowsByPrefix first.written now.written t) (sym (ap (λ o. o.text) p.whole))
    (all_out first.written now.written p.text (output_from p.rows (i + 1) (drop i lines)).text p.grown)

-- a line makes at most one row
one_row : (p : Place) (rows : List KeyRow) (line : LadderLine) → length (rows_after p rows line) ≤ length rows + 1
one_row (Again k) rows line = omega arith
one_row Anew rows line = omega (arith, length-append rows (record { line = line; octets = octets_in rows line } ∷ []))
one_row (Taken k) rows line = omega arith

pub one_row_more : (rows : List KeyRow) (ladder after : List LadderRow) (line : LadderLine) (i : ℕ)
    → StandsFor rows ladder
    → StandsFor (rows_after (place_in rows line) rows line) after
    → length ladder ≤ i
    → length after ≤ i + 1
one_row_more rows ladder after line i stand next few =
    let before = ap length stand.is ∙ length-map rows (row_in rows) in
    let now = rows_after (place_in rows line) rows line in
    let then = ap length next.is ∙ length-map now (row_in now) in
    omega (arith, before, then, one_row (place_in rows line) rows line, few)

end_is : (p : Place) → (ends_at p ≡ Done) ⊎ (ends_at p ≡ Coincidence)
end_is (Again k) = inl refl
end_is Anew = inl refl
end_is (Taken k) = inr refl

-- what a line's text is followed by
then_text : (p : Place) (text : List ℕ) (output : Output) → (more : List ℕ) × ((then_rest p text output).text ≡ text ++ more)
then_text (Again k) text output = (output.text, refl)
then_text Anew text output = (output.text, refl)
then_text (Taken k) text output = ([], sym (append-nil text))

taken_ends : (p : Place) (text : List ℕ) (output : Output) → Coincidence ≡ ends_at p → then_rest p text output ≡ record { text = text; ends = Coincidence }
taken_ends (Taken k) text output ends = refl
taken_ends (Again k) text output ends = cc
taken_ends Anew text output ends = cc

-- an output that begins with a text, of which no more was written, or a prefix of what follows
cut_after : (output rest : Output) (text : List ℕ) (first mid now : Told)
    → output ≡ prefixed text rest
    → Grows first.written mid.written text
    → Grows mid.written now.written []
    → GrowsByPrefix first.written now.written output.text
cut_after output rest text first mid now whole grown none =
    let grows = subst (λ t. Grows first.written now.written t) (append-nil text) (grows_twice first.written mid.written now.written text [] grown none) in
    subst (λ t. GrowsByPrefix first.written now.written t) (sym (ap (λ o. o.text) whole)) (all_out first.written now.written text rest.text grows)

cut_within : (output rest : Output) (text octets more : List ℕ) (first mid now : Told)
    → output ≡ prefixed text rest
    → rest.text ≡ octets ++ more
    → Grows first.written mid.written text
    → GrowsByProperPrefix mid.written now.written octets
    → GrowsByProperPrefix first.written now.written output.text
cut_within output rest text octets more first mid now whole follows grown prefix =
    let text_is = ap (λ o. o.text) whole ∙ ap (λ t. text ++ t) follows ∙ sym (append_assoc text octets more) in
    subst (λ t. GrowsByProperPrefix first.written now.written t) (sym text_is)
    (proper_prefix_on first.written mid.written now.written text octets more grown prefix)

-- an ending that ends the output, by what its line's text says
pub ended_at : (ending : Ending) (output rest : Output) (p : Place) (text line : List ℕ) (first mid now : Told)
    → output ≡ prefixed text (then_rest p line rest)
    → Grows first.written mid.written text
    → NoCountFell first mid
    → TextAt ending (ends_at p) line mid now
    → ending ≢ Done
    → Writes output ending first now
ended_at Done output rest p text line first mid now whole grown counts written other = absurd (other refl)
ended_at Memory output rest p text line first mid now whole grown counts written other =
    cut_after output (then_rest p line rest) text first mid now whole grown written
ended_at WriteFault output rest p text line first mid now whole grown counts written other =
    let follows = then_text p line rest in
    (omega (arith, counts.writes, written.0), cut_within output (then_rest p line rest) text line follows.0 first mid now whole follows.1 grown written.1)
ended_at Coincidence output rest p text line first mid now whole grown counts written other =
    let output_is = whole ∙ ap (prefixed text) (taken_ends p line rest written.0) in (
      ap (λ o. o.ends) output_is,
      subst (λ t. Grows first.written now.written t) (sym (ap (λ o. o.text) output_is))
          (grows_twice first.written mid.written now.written text line grown written.1),
    )
ended_at ending output rest p text line first mid now whole grown counts written other =
    elim (end_is p) [ inl e ↦ let no = written.0 ∙ e in cc | inr e ↦ let no = written.0 ∙ e in cc ]

-- a line that ends the output
pub ended : (lines : List LadderLine) (i : ℕ) (first mid now : Told) (ladder : List LadderRow) (line : LadderLine)
    (ending : Ending) (p : Printed lines i first mid ladder)
    → i < length lines
    → line ≡ get_or lines i line
    → NoCountFell first mid
    → TextAt ending (ends_at (place_in p.rows line)) (text_at (place_in p.rows line) p.rows (i + 1) line) mid now
    → ending ≢ Done
    → Writes (output_from [] 1 lines) ending first now
ended lines i first mid now ladder line ending p within is counts written other =
    let place = place_in p.rows line in
    let text = text_at place p.rows (i + 1) line in
    let rest = output_from (rows_after place p.rows line) (i + 1 + 1) (drop (i + 1) lines) in
    let whole = p.whole ∙ ap (λ ls. prefixed p.text (output_from p.rows (i + 1) ls)) (left_at lines i line within is) in
    ended_at ending (output_from [] 1 lines) rest place p.text text first mid now whole p.grown counts written other
