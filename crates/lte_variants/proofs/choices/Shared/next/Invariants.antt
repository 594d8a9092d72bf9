use Rattle.std.proofs.Common.{◌≡◌, ◌<◌, length}
use Rattle.lte_variants.specs.Choices.{share_from}
use Rattle.lte_variants.proofs.choices.Shared.next.Given as goal

abbrev pub invariant-choices : goal.invariant-choices
invariant-choices l = record {
  left : share_from l.initial.self-inside.share l.initial.self-inside.place l.initial.self-inside.sets
      ≡ share_from l.self-inside.share l.self-inside.place l.self-inside.sets;
  low : l.self-inside.place < l.self-inside.share.parts;
}

abbrev pub decreases-choices : goal.decreases-choices
decreases-choices l = length l.self-inside.sets
