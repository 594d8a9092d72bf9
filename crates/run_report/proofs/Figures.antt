-- The lines of a summary.
use Rattle.std.proofs.Common.{◌≡◌, sym, ap, subst, ◌∙◌, arith, ℕ, suc, ◌+◌, ◌<◌, List, ◌∷◌, ◌++◌, drop, get_or}
use Rattle.std.proofs.{lemmas.List.get_or_default, Math.Seq.drop-cons}
use Rattle.std.specs.List.{flat_map}
use Rattle.report_text.specs.Summary.{Tallied, figures, figure_text}
use Rattle.run_report.proofs.Partly.{Begins}
use Rattle.report_text.specs.declared.summaries.Figure.{Figure}

-- those from the one at i on
abbrev pub figures_from : Tallied → ℕ → ℕ → List ℕ
figures_from tally rows i = flat_map (figure_text tally rows) (drop i figures)

figure_is : (fs : List Figure) (i : ℕ) (d : Figure) → fs ≡ figures → i < 6 → get_or figures i (get_or fs i d) ≡ get_or fs i d
figure_is fs i d same within =
    subst (λ xs. get_or figures i (get_or xs i d) ≡ get_or xs i d) (sym same)
    (sym (get_or_default figures i d (get_or figures i d) within))

-- they begin with its line
pub figure_more : (tally : Tallied) (rows i : ℕ) (fs : List Figure) (d : Figure) → fs ≡ figures → i < 6
    → Begins (figures_from tally rows i) (figure_text tally rows (get_or fs i d)) (figures_from tally rows (i + 1))
figure_more tally rows i fs d same within =
    let figure = get_or fs i d in
    let next : suc i ≡ i + 1 = omega arith in
    record {
      is = ap (flat_map (figure_text tally rows)) (drop-cons figures i figure within ∙ ap (λ f. f ∷ drop (suc i) figures) (figure_is fs i d same within))
          ∙ ap (λ k. figure_text tally rows figure ++ figures_from tally rows k) next;
    }
