-- Pieces that are whole lines.
use Rattle.std.specs.Prelude.{◌≡◌, ℕ, Bool, true, false, ◌==◌, ◌&&◌, Option, Some, None, List, [], ◌∷◌}
use Rattle.std.specs.{List.last_or, Option.option_map, Option.option_map_or}

-- the last of some octets is LF
pub record EndsLine (octets : List ℕ) : Type 0 where
  pub last : last_or None octets ≡ Some 10

-- octets are whole lines, or none
abbrev pub are_lines : List ℕ → Bool
are_lines octets = option_map_or (λ octet. octet == 10) (last_or None octets) true

-- octets are whole lines, and not none
abbrev pub ends_line : List ℕ → Bool
ends_line octets = option_map_or (λ octet. octet == 10) (last_or None octets) false

-- whether each piece was whole lines, and none was empty, this one among them
abbrev pub with_piece : List ℕ → Option Bool → Option Bool
with_piece piece lines = option_map (λ all. all && ends_line piece) lines

-- there are octets
abbrev pub has_octets : List ℕ → Bool
has_octets [] = false
has_octets (x ∷ octets) = true

-- whether no piece was empty, this one among them
abbrev pub with_octets : List ℕ → Option Bool → Option Bool
with_octets piece pieces = option_map (λ all. all && has_octets piece) pieces
