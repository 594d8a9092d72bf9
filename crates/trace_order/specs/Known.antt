-- NHs whose terms are known, and what no history shows of them.
use Rattle.std.specs.Prelude.{◌≡◌, ℕ, Bool, true, ◌&&◌, nat_eq, nat_lt, None, Some, List, [], ◌∷◌, ◌++◌, get_or}
use Rattle.key_model.specs.{Term.Term, Term.Root, Chain.nh, Value.value_of, Reading.octet_reading, HandoverTable.NumberedKey}
use Rattle.trace_rules.specs.{Rules.AreIn, History.History}
use Rattle.trace_keys.specs.declared.{moves.Where.Where, moves.Move.Move}
use Rattle.trace_keys.specs.declared.moves.Where.TheVariants.{Setup, Took}
use Rattle.trace_keys.specs.declared.moves.Move.TheVariants.{Renew, Prepare, Require}
use Rattle.trace_keys.specs.{Net.Sight, Moved.moved}
use Rattle.trace_plain.specs.Sights.{fits, has_tap, is_covered}
use Rattle.trace_order.specs.Order.{Follows, Coincidence, last_nh, nh_of}
use Rattle.trace_order.specs.declared.known.Known.{Known}

-- its term: the KASME by its place and octets, the COUNT of the KeNB, and the number
abbrev pub term_of : List (List ℕ) → Known → Term
term_of kasmes key = nh (Root key.kasme (get_or kasmes key.kasme [])) key.count key.number

-- of one chain, and further on
abbrev pub is_further : Known → Known → Bool
is_further before after = nat_eq before.kasme after.kasme && nat_eq before.count after.count && nat_lt before.number after.number

-- the NH of a message and the last one before it are known, and it is not further on
pub record IsOutOfOrder (kasmes : List (List ℕ)) (capture : List (Sight (List ℕ))) (sight : Sight (List ℕ)) : Type 0 where
  pub last : NumberedKey (List ℕ) ℕ
  pub next : NumberedKey (List ℕ) ℕ
  pub before : Known
  pub after : Known
  pub is_last : last_nh None capture ≡ Some last
  pub is_next : nh_of sight.at sight.pair ≡ Some next
  pub first : value_of (term_of kasmes before) ≡ last.key
  pub second : value_of (term_of kasmes after) ≡ next.key
  pub apart : ¬ Follows (term_of kasmes before) (term_of kasmes after)

-- a move with which a chain begins, or a phone comes to a station: taps see it begin, and each key change that is taken there
abbrev pub begins_seen : List Where → Move → Bool
begins_seen covered (Renew kasme count station cell early taken) = has_tap covered (Setup station) && has_tap covered (Took station)
begins_seen covered (Prepare station cell goes) = has_tap covered (Took station)
begins_seen covered (Require station cell goes) = has_tap covered (Took station)
begins_seen covered other = true

abbrev pub all_seen : List Where → List Move → Bool
all_seen covered [] = true
all_seen covered (move ∷ moves) = begins_seen covered move && all_seen covered moves

-- no history of these moves, of however many, shows a message behind a capture, but where two terms have one value
abbrev pub IsNever : List (List ℕ) → List Where → List Move → List (Sight (List ℕ)) → Sight (List ℕ) → Type 0
IsNever kasmes covered family capture sight = (bound left kasme count : ℕ) (moves : List Move)
    → AreIn moves family
    → History (moved octet_reading kasmes) fits (is_covered covered) bound left (record { kasme = kasme; count = count; serving = None }) moves (capture ++ sight ∷ [])
    → Coincidence
