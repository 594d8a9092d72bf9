use Rattle.std.proofs.Common.{◌≡◌, ℕ, suc, ◌+◌, ◌*◌, [], length, length-set, slice_index_or, slice_set, refl, ap, ◌∙◌, arith}
use Rattle.std.proofs.{lemmas.List.Edits.fill_by_more, lemmas.List.FromFn.fill_by_all}
use Rattle.eia1.specs.{Polynomial.times_power, Polynomial.times_x, Rows.row_of, Rows.rows_of}
use Rattle.eia1.proofs.rows.rows_of.Goals as goal

pub loop-j-init : goal.loop-j-init
unfolding times_power
loop-j-init c = record { long = refl; power = refl; rows = λ k h. absurd (omega arith) }

pub loop-j-preserved : goal.loop-j-preserved
unfolding times_power
loop-j-preserved c =
    let p = c.args.p in
    let j = c.loop-j.j in
    let rows = c.loop-j.rows in
    let entry = λ (k : ℕ). row_of (times_power p (4 * k)) in
    let long : length rows ≡ 16 = c.loop-j.invariant.long in
    let next : suc (suc (suc (suc (4 * j)))) ≡ 4 * (j + 1) = omega arith in
    let row : c.row_of.result ≡ entry j = c.row_of.ensures ∙ ap row_of c.loop-j.invariant.power in
    record {
      long = length-set rows j c.row_of.result ∙ long;
      power = c.times_x-power.ensures
          ∙ ap times_x (c.times_x-in-loop-j-2.ensures
          ∙ ap times_x
          (c.times_x-in-loop-j.ensures ∙ ap times_x (c.times_x.ensures ∙ ap times_x c.loop-j.invariant.power)))
          ∙ ap (times_power p) next;
      rows = λ k h. ap (λ r. slice_index_or (slice_set rows j r) k []) row
          ∙ fill_by_more entry rows j [] (omega arith) c.loop-j.invariant.rows k h;
    }

pub returns : goal.returns
unfolding rows_of
returns c =
    fill_by_all (λ k. row_of (times_power c.args.p (4 * k))) c.loop-j.rows 16 [] c.loop-j.invariant.long
    (λ k h. c.loop-j.invariant.rows k (omega arith))
