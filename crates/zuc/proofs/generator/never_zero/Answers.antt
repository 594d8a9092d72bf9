use Rattle.std.proofs.Common.{◌≡◌, ◌+◌, ◌*◌, ◌/◌, ◌%◌, ◌^◌, sym, arith}
use Rattle.zuc.specs.State.{prime}
use Rattle.zuc.proofs.StateLemmas.{never_zero-rest, never_zero-zero}
use Rattle.zuc.proofs.generator.never_zero.Goals as goal

pub returns-then-twice-eq0 : goal.returns-then-twice-eq0
returns-then-twice-eq0 c = sym (never_zero-zero c.args.n (omega arith))

pub returns-else-twice-eq0 : goal.returns-else-twice-eq0
returns-else-twice-eq0 c =
    let n = c.args.n in
    let once = n % 2 ^ 31 + n / 2 ^ 31 in
    let twice = once % 2 ^ 31 + once / 2 ^ 31 in
    let sum : n ≡ (n / 2 ^ 31 + once / 2 ^ 31) * prime + twice = omega arith in
    sym (never_zero-rest n (n / 2 ^ 31 + once / 2 ^ 31) twice sum (omega arith) (omega arith))
