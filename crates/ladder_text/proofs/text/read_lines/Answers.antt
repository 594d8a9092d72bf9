use Rattle.std.proofs.Common.{◌≡◌, [], ◌∷◌, ◌++◌, length, length-append, Some, sym, ◌∙◌, ap, subst, rules, arith}
use Rattle.text_lines.specs.Words.{words_of}
use Rattle.ladder_text.specs.Text.{with_row, next_line, rows_of, AreGood}
use Rattle.ladder_text.proofs.Reading.{reading_begins, reading_next, reading_ends, next_meets, rows_next, good_next}
use Rattle.ladder_text.proofs.text.read_lines.Goals as goal

pub loop-rest-init : goal.loop-rest-init
loop-rest-init c =
    let none = c.new-lines.ensures.items in
    record {
      reading = reading_begins c.args.text.now c.new-lines.result.items none;
      rows = c.new-rows.ensures ∙ ap rows_of (sym none);
      good = subst (AreGood []) (sym none) tt;
      few = omega (arith, ap length none);
    }

pub loop-rest-preserved : goal.loop-rest-preserved
loop-rest-preserved c =
    let lines = c.loop-rest.lines.items in
    let so_far = c.loop-rest.invariant in
    let line = c.in-Some.line in
    let words = words_of c.first_line.result.0.now in
    let next : next_line lines words ≡ Some line = sym (ap (λ ls. next_line ls words) c.deref.ensures.value) ∙ sym c.in_ok-line.ensures.line ∙ c.in-Some.is in
    let put : c.push.new.items.items ≡ lines ++ line ∷ [] = search rules in
    let row : c.add.new.self ≡ with_row c.loop-rest.rows line = search rules in
    let met = next_meets lines words line next in
    record {
      reading =
          reading_next c.args.text.now c.loop-rest.rest.now c.first_line.result.0.now c.first_line.result.1.now lines
          c.push.new.items.items line so_far.reading c.first_line.ensures.lines next put;
      rows = row ∙ ap (λ rows. with_row rows line) so_far.rows ∙ sym (rows_next [] lines line) ∙ ap rows_of (sym put);
      good = subst (AreGood []) (sym put) (good_next [] lines line so_far.good met.0);
      few = omega (arith, ap length put, length-append lines (line ∷ []), met.1);
    }

pub returns-clause-lines : goal.returns-clause-lines
returns-clause-lines c =
    let none : length c.loop-rest.rest.now ≡ 0 = search rules in
    reading_ends c.args.text.now c.loop-rest.rest.now c.loop-rest.lines.items c.loop-rest.invariant.reading none
