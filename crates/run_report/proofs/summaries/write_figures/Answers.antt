use Rattle.std.proofs.{Common.ap, Common.drop_of_length-le, lemmas.Result.err_from_is_err_and}
use Rattle.std.specs.List.{flat_map}
use Rattle.report_text.specs.Summary.{figures, figure_text, figures_text}
use Rattle.run_report.proofs.{Figures.figure_more, Ends.figure_ends}
use Rattle.run_report.proofs.Partly.{none_written, more_written, cut_written, all_written}
use Rattle.edge_io.proofs.Ending.{is_lines, text_is}
use Rattle.run_report.proofs.summaries.write_figures.Goals as goal

pub loop-figure-init : goal.loop-figure-init
loop-figure-init g c = none_written (figures_text c.args.tally.now c.args.rows) (g.W.Edge.told c.args.out.now) c.requires

pub write_text-requires-clause-out_ready : goal.write_text-requires-clause-out_ready
write_text-requires-clause-out_ready g c = c.loop-figure.invariant.used.ready

pub write_text-requires-clause-lines : goal.write_text-requires-clause-lines
write_text-requires-clause-lines g c = text_is _ _ _ c.summary_line.ensures.text (is_lines _ (figure_ends _ _ _))

pub loop-figure-preserved : goal.loop-figure-preserved
loop-figure-preserved g c =
    more_written c.loop-figure.invariant
    (figure_more c.args.tally.now c.args.rows c.loop-figure.figure-index c.all-figures.result _ c.all-figures.ensures
    c.loop-figure-test.true)
    (c.in_ok-write_text.ensures _ c.summary_line.ensures.text)

pub returns-in_err-write_text : goal.returns-in_err-write_text
returns-in_err-write_text g c =
    let p = err_from_is_err_and c.from_residual.result c.from_residual.ensures.1 in
    rw (p.1, p.2)
    (cut_written c.loop-figure.invariant
    (figure_more c.args.tally.now c.args.rows c.loop-figure.figure-index c.all-figures.result _ c.all-figures.ensures
    c.loop-figure-test.true)
    (c.in_err-write_text.ensures _ c.summary_line.ensures.text))

pub returns : goal.returns
returns g c =
    all_written c.loop-figure.invariant
    (ap (flat_map (figure_text c.args.tally.now c.args.rows)) (drop_of_length-le figures c.loop-figure-test.false))
