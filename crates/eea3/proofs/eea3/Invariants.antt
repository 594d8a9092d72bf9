use Rattle.std.proofs.Common.{◌≡◌, ◌*◌, ◌++◌, take, drop}
use Rattle.keystream.specs.Combined.{combined, octet_in}
use Rattle.zuc.specs.State.{after, initialised}
use Rattle.eea3.specs.Eea3.{eea3_iv, eea3_word}
use Rattle.eea3.proofs.eea3.Given as goal

abbrev pub invariant-loop-number : goal.invariant-loop-number
invariant-loop-number l = record {
  state : l.zuc ≡ after (initialised l.key (eea3_iv l.count l.bearer l.fn.dir)) (16 * l.number);
  text : l.text
      ≡ combined (octet_in (eea3_word l.key l.count l.bearer l.fn.dir)) 0 (take (64 * l.number) l.initial.text)
      ++ drop (64 * l.number) l.initial.text;
}
