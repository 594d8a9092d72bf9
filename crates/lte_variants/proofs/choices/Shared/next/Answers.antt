use Rattle.std.proofs.Common.{◌∙◌, sym}
use Rattle.lte_variants.proofs.Turns.{none, passed, taken}
use Rattle.lte_variants.proofs.choices.Shared.next.Goals as goal

pub returns-then-takes-clause-next : goal.returns-then-takes-clause-next
returns-then-takes-clause-next c =
    let now = c.choices.self-inside in
    sym c.self.view_is ∙ c.choices.invariant.left
    ∙ taken now.share now.place c.after-self-inside.result c.in-Some.choice now.sets c.next.new.self
    c.choices.invariant.low c.in-Some.ensures.next (sym c.takes.ensures ∙ c.if-takes.true) c.after-self-inside.ensures.next

pub choices-preserved : goal.choices-preserved
choices-preserved c =
    let now = c.choices.self-inside in
    record {
      left = c.choices.invariant.left
          ∙ passed now.share now.place c.after-self-inside.result c.in-Some.choice now.sets c.next.new.self
          c.choices.invariant.low c.in-Some.ensures.next (sym c.takes.ensures ∙ c.if-takes.false) c.after-self-inside.ensures.next;
      low = c.after-self-inside.ensures.within;
    }

pub returns-in-None-clause-none : goal.returns-in-None-clause-none
returns-in-None-clause-none c is =
    let now = c.choices.self-inside in
    sym c.self.view_is ∙ c.choices.invariant.left ∙ none now.share now.place now.sets (c.next.ensures.none c.in-None.is)
