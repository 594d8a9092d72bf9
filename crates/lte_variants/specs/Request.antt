-- The words of the program: how many faults a variant has, and behind it a share of the variants, as `2/3`, kinds of faults, messages by
-- their steps, `sent`, and `--packets`.
use Rattle.std.specs.Prelude.{◌≡◌, ℕ, ◌+◌, ◌≤◌, ◌==◌, ◌&&◌, ◌||◌, nat_lt, not, Bool, true, false, String, Option, Some, None, List, [], ◌∷◌, codes, take, drop, position, if◌then◌else◌}
use Rattle.std.specs.{declared.alloc.Global.Global, Option.option_map, Option.option_and_then, Option.is_some, Str.bytes_eq, String.string_bytes}
use Rattle.text_lines.specs.Words.{number_of}
use Rattle.item_faults.specs.declared.changes.Kind.{Kind}
use Rattle.item_faults.specs.declared.changes.Kind.TheVariants as kind
use Rattle.lte_variants.specs.{Kinds.no_kinds, Kinds.with_kind, Named.one_more, declared.request.Request.Request, declared.request.Share.Share}

-- HOW MANY FAULTS A VARIANT HAS: `one`, `pairs` or `triples`, or `sets` with a number behind it
abbrev pub most_faults : ℕ
most_faults = 8

abbrev pub together_of : List ℕ → Option ℕ
together_of word =
    if bytes_eq word (codes "one") then Some 1
    else if bytes_eq word (codes "pairs") then Some 2
    else if bytes_eq word (codes "triples") then Some 3
    else None

abbrev pub are_sets : List ℕ → Bool
are_sets word = bytes_eq word (codes "sets")

abbrev pub a_size : ℕ → Option ℕ
a_size faults = if nat_lt faults 1 || nat_lt most_faults faults then None else Some faults

abbrev pub size_of : List ℕ → Option ℕ
size_of word = option_and_then a_size (number_of word)

-- A SHARE: all variants, or one of so many shares, of which the first is 1
abbrev pub all : Share
all = record { number = 1; parts = 1 }

abbrev pub a_share : ℕ → ℕ → Option Share
a_share number parts = if nat_lt number 1 || nat_lt parts number then None else Some (record { number = number; parts = parts })

abbrev pub share_by : Option ℕ → Option ℕ → Option Share
share_by number parts = option_and_then (λ n. option_and_then (a_share n) parts) number

-- before and behind its first `/`
abbrev pub is_slash : ℕ → Bool
is_slash octet = octet == 47

abbrev pub share_of : List ℕ → Option Share
share_of word = option_and_then (λ at. share_by (number_of (take at word)) (number_of (drop (at + 1) word))) (position is_slash word)

-- OTHER WORDS: whether faults happen to user packets too, whether it is told which lines of a variant sent, whether faults happen only to
-- messages that are named, and the kind of faults that a word names
abbrev pub is_packets : List ℕ → Bool
is_packets word = bytes_eq word (codes "--packets")

abbrev pub is_sent : List ℕ → Bool
is_sent word = bytes_eq word (codes "sent")

abbrev pub is_of : List ℕ → Bool
is_of word = bytes_eq word (codes "of")

abbrev pub kind_of : List ℕ → Option Kind
kind_of word =
    if bytes_eq word (codes "lost") then Some kind.Lost
    else if bytes_eq word (codes "late") then Some kind.Late
    else if bytes_eq word (codes "twice") then Some kind.Twice
    else if bytes_eq word (codes "again") then Some kind.Again
    else None

-- WHAT EACH WORD SAYS behind how many faults a variant has. The steps of messages stand behind `of`
abbrev pub unlimited : ℕ → Request
unlimited faults = record { faults = faults; share = all; kinds = no_kinds; named = None; packets = false; sent = false }

abbrev pub with_share : Request → Option Share → Option Request
with_share r None = None
with_share r (Some share) = Some (record r { share = share })

abbrev pub with_named : Request → Option (List ℕ) → Option Request
with_named r None = None
with_named r (Some named) = Some (record r { named = Some named })

abbrev pub with_step_or_share : List ℕ → Request → Option ℕ → Option Request
with_step_or_share word r None = with_share r (share_of word)
with_step_or_share word r (Some step) = with_named r (option_and_then (one_more step) r.named)

abbrev pub with_kind_or_other : List ℕ → Request → Option Kind → Option Request
with_kind_or_other word r None = with_step_or_share word r (number_of word)
with_kind_or_other word r (Some kind) = Some (record r { kinds = with_kind kind r.kinds })

abbrev pub with_word : List ℕ → Request → Option Request
with_word word r =
    if is_packets word then Some (record r { packets = true })
    else if is_sent word then Some (record r { sent = true })
    else if is_of word then Some (record r { named = Some [] })
    else with_kind_or_other word r (kind_of word)

unfoldable pub with_words : List (String Global) → Option Request → Option Request
with_words words None = None
with_words [] (Some r) = Some r
with_words (word ∷ words) (Some r) = with_words words (with_word (string_bytes word) r)

-- more than five faults are taken only of messages that are named: else there may be 2^128 choices
abbrev pub fitting : Request → Option Request
fitting r = if nat_lt 5 r.faults && not (is_some r.named) then None else Some r

-- the request that these words are, if they are one
abbrev pub size_with : List (String Global) → Option Request
size_with [] = None
size_with (word ∷ words) = with_words words (option_map unlimited (size_of (string_bytes word)))

abbrev pub words_with : List ℕ → List (String Global) → Option Request
words_with word words = if are_sets word then size_with words else with_words words (option_map unlimited (together_of word))

abbrev pub request_of : List (String Global) → Option Request
request_of [] = None
request_of (word ∷ words) = option_and_then fitting (words_with (string_bytes word) words)

-- a share is one of those that there are
abbrev pub IsShare : Share → Type 0
IsShare share = (1 ≤ share.number) × (share.number ≤ share.parts)

-- and a variant has up to eight faults, up to five where no messages are named
pub record IsRequest (r : Request) : Type 0 where
  pub share : IsShare r.share
  pub few : r.faults ≤ most_faults
  pub fewer : r.named ≡ None → r.faults ≤ 5
