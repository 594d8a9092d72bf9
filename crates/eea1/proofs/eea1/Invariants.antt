use Rattle.std.proofs.Common.{◌≡◌, ◌*◌, ◌++◌, take, drop}
use Rattle.keystream.specs.Combined.{combined, octet_in}
use Rattle.snow3g.specs.State.{after, initialised}
use Rattle.eea1.specs.Eea1.{eea1_iv, eea1_word}
use Rattle.eea1.proofs.eea1.Given as goal

abbrev pub invariant-loop-number : goal.invariant-loop-number
invariant-loop-number l = record {
  state : l.snow ≡ after (initialised l.key (eea1_iv l.count l.bearer l.fn.dir)) (16 * l.number);
  text : l.text
      ≡ combined (octet_in (eea1_word l.key l.count l.bearer l.fn.dir)) 0 (take (64 * l.number) l.initial.text)
      ++ drop (64 * l.number) l.initial.text;
}
