-- COUNTs left out, in two spellings.
use Rattle.std.proofs.Common.{◌≡◌, ℕ, ◌+◌, ◌≤◌, arith}
use Rattle.std.specs.Prelude.{min}
use Rattle.lte_machine.specs.Bearers.{skipped}

pub skipped_is : (n count end : ℕ) → count ≤ end → min (count + n) end ≡ skipped n count end
skipped_is n count end h = omega (arith, h)
