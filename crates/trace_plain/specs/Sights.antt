-- What a tap has, and which message it is.
use Rattle.std.specs.Prelude.{ℕ, Bool, true, false, ◌&&◌, not, nat_eq, Option, None, Some, List, [], ◌∷◌}
use Rattle.std.specs.List.{list_any}
use Rattle.key_model.specs.HandoverTable.{NumberedKey}
use Rattle.trace_keys.specs.declared.moves.Where.{Where}
use Rattle.trace_keys.specs.declared.moves.Where.TheVariants.{Setup, Change, Took, Answer, Asked, Request, Over}
use Rattle.trace_keys.specs.{Net.Net, Net.Sight, Outlook.outlook_by, Outlook.may_show, Same.same_numbered}

abbrev pub same_where : Where → Where → Bool
same_where (Setup a) (Setup b) = nat_eq a b
same_where (Change a) (Change b) = nat_eq a b
same_where (Took a) (Took b) = nat_eq a b
same_where (Answer a) (Answer b) = nat_eq a b
same_where (Asked a) (Asked b) = nat_eq a b
same_where (Request a) (Request b) = nat_eq a b
same_where (Over a b) (Over c d) = nat_eq a c && nat_eq b d
same_where a b = false

-- the key that was sent is the one that was captured, if that is looked at
abbrev pub fits_pair : Option (NumberedKey (List ℕ) ℕ) → Option (NumberedKey (List ℕ) ℕ) → Bool
fits_pair sent None = true
fits_pair None (Some seen) = false
fits_pair (Some sent) (Some seen) = same_numbered sent seen

-- what was sent is what was captured
abbrev pub fits : Sight (List ℕ) → Sight (List ℕ) → Bool
fits sent seen = same_where sent.at seen.at && fits_pair sent.pair seen.pair

-- a tap is there
abbrev pub has_tap : List Where → Where → Bool
has_tap covered at = list_any (λ other. same_where other at) covered

abbrev pub is_covered : List Where → Sight (List ℕ) → Bool
is_covered covered sight = has_tap covered sight.at

-- what goes there goes unseen
abbrev pub is_dark : List Where → Option Where → Bool
is_dark covered None = true
is_dark covered (Some at) = not (has_tap covered at)

-- what goes there may be this
abbrev pub is_there : Sight (List ℕ) → Option Where → Bool
is_there sight None = false
is_there sight (Some at) = same_where at sight.at

-- what goes there may be the next of these
abbrev pub may_be_next : List (Sight (List ℕ)) → Option Where → Bool
may_be_next [] at = false
may_be_next (sight ∷ rest) at = is_there sight at

-- a net may show this, as far as stations and NCCs tell
abbrev pub leads : Sight (List ℕ) → Net (List ℕ) ℕ → Bool
leads sight net = may_show (outlook_by net.serving) sight
