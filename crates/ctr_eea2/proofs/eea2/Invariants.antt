use Rattle.std.proofs.Common.{◌≡◌, ◌*◌, ◌++◌, take, drop}
use Rattle.keystream.specs.Combined.{combined}
use Rattle.ctr_eea2.specs.Eea2.{keystream_octet}
use Rattle.ctr_eea2.proofs.eea2.Given as goal

abbrev pub invariant-loop-number : goal.invariant-loop-number
invariant-loop-number l =
    l.text
    ≡ combined (keystream_octet l.key l.count l.bearer l.fn.dir) 0 (take (16 * l.number) l.initial.text)
    ++ drop (16 * l.number) l.initial.text
