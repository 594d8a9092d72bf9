-- The 32 octets of a key as four words of eight octets, the lowest octet of each first.
use Rattle.std.specs.Prelude.{ℕ, ◌<◌, ◌^◌, List, ◌++◌}
use Rattle.std.specs.Int.{w64, to_le_bytes}
use Rattle.key_terms.specs.declared.words.Words.{Words}

-- the octets of the words, in order
unfoldable pub octets_of : Words → List ℕ
octets_of w = to_le_bytes w64 w.first ++ (to_le_bytes w64 w.second ++ (to_le_bytes w64 w.third ++ to_le_bytes w64 w.fourth))

-- each has 64 bits
pub record AreWords (w : Words) : Type 0 where
  pub first : w.first < 2 ^ 64
  pub second : w.second < 2 ^ 64
  pub third : w.third < 2 ^ 64
  pub fourth : w.fourth < 2 ^ 64
