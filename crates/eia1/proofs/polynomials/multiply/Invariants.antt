use Rattle.std.proofs.Common.{◌≡◌}
use Rattle.eia1.specs.Polynomial.{terms, times_power}
use Rattle.eia1.proofs.polynomials.multiply.Given as goal

abbrev pub invariant-loop-i : goal.invariant-loop-i
invariant-loop-i l = record { power : l.power ≡ times_power l.v l.i; sum : l.sum ≡ terms l.v l.p l.i }
