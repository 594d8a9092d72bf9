-- Octets that are whole lines.
use Rattle.std.proofs.Common.{◌≡◌, ℕ, zero, suc, ◌-◌, ◌<◌, ◌==◌, ◌&&◌, Bool, true, false, Option, Some, None, Result, Ok, Err, List, [], ◌∷◌, ◌++◌, take, drop, length, slice_get, refl, ap, ◌∙◌, append-nil, arith}
use Rattle.std.proofs.lemmas.List.{take_rest}
use Rattle.std.specs.{Prelude.IfOk, List.last_or, Option.option_map_or, Fmt.decimal}
use Rattle.edge_io.specs.Lines.{EndsLine, are_lines, ends_line, has_octets, with_octets, with_piece}
use Rattle.edge_io.specs.PortLine.{port_line}

last-append : (o : Option ℕ) (front : List ℕ) (x : ℕ) (more : List ℕ) → last_or o (front ++ x ∷ more) ≡ last_or None (x ∷ more)
last-append o [] x more = refl
last-append o (y ∷ front) x more = last-append (Some y) front x more

-- the last octet tells whether octets end with a line
pub last_found : (octets : List ℕ) (x : ℕ) → Some x ≡ slice_get octets (length octets - 1) → ends_line octets ≡ (x == 10)
last_found [] x is = cc
last_found (y ∷ []) x is =
    let same : y ≡ x = cc in ap (λ octet. octet == 10) same
last_found (y ∷ z ∷ octets) x is =
    let n : ℕ = length octets in
    let two : suc (suc n) - 1 ≡ suc n = omega arith in
    let one : n ≡ suc n - 1 = omega arith in
    last_found (z ∷ octets) x (is ∙ ap (slice_get (y ∷ z ∷ octets)) two ∙ ap (slice_get (z ∷ octets)) one)

-- some octets more end as the last of them do
pub lines_behind : (front : List ℕ) (x : ℕ) (more : List ℕ) → are_lines (x ∷ more) ≡ true → are_lines (front ++ x ∷ more) ≡ true
lines_behind front x more ends = ap (λ o. option_map_or (λ octet. octet == 10) o true) (last-append None front x more) ∙ ends

-- and where all of them may be none
pub lines_both : (front more : List ℕ) → are_lines front ≡ true → are_lines more ≡ true → are_lines (front ++ more) ≡ true
lines_both front [] first second = ap are_lines (append-nil front) ∙ first
lines_both front (x ∷ more) first second = lines_behind front x more second

-- LF alone is a line
pub feed : EndsLine (10 ∷ [])
feed = record { last = refl }

last_on : (front octets : List ℕ) → last_or None octets ≡ Some 10 → last_or None (front ++ octets) ≡ Some 10
last_on front [] ends = cc
last_on front (x ∷ octets) ends = last-append None front x octets ∙ ends

-- some octets and then a line are a line
pub on : (front octets : List ℕ) → EndsLine octets → EndsLine (front ++ octets)
on front octets ends = record { last = last_on front octets ends.last }

-- a line is whole lines
pub is_lines : (octets : List ℕ) → EndsLine octets → are_lines octets ≡ true
is_lines octets ends = ap (λ o. option_map_or (λ octet. octet == 10) o true) ends.last

-- the line of a port is whole lines
pub port_lines : (number : ℕ) → are_lines (port_line number) ≡ true
port_lines number = is_lines (port_line number) (on (decimal number) (10 ∷ []) feed)

-- what is left of them ends so too
rest_lines : (sent : ℕ) (octets : List ℕ) → sent < length octets → are_lines octets ≡ true → are_lines (drop sent octets) ≡ true
rest_lines sent [] below ends = absurd (omega (arith, below))
rest_lines zero (x ∷ octets) below ends = ends
rest_lines (suc sent) (x ∷ []) below ends = absurd (omega (arith, below))
rest_lines (suc sent) (x ∷ y ∷ octets) below ends = rest_lines sent (y ∷ octets) (omega (arith, below)) ends

still : (all : Bool) (piece : Bool) → piece ≡ true → (all && piece) ≡ all
still true piece is = is
still false piece is = refl

-- octets that are not none are the same to both
some_last : (x : ℕ) (octets : List ℕ)
    → option_map_or (λ octet. octet == 10) (last_or (Some x) octets) false
    ≡ option_map_or (λ octet. octet == 10) (last_or (Some x) octets) true
some_last x [] = refl
some_last x (y ∷ octets) = some_last y octets

line_of : (octets : List ℕ) → 0 < length octets → are_lines octets ≡ true → ends_line octets ≡ true
line_of [] below ends = absurd (omega (arith, below))
line_of (x ∷ octets) below ends = some_last x octets ∙ ends

-- what is left of octets is not none
some_left : (sent : ℕ) (octets : List ℕ) → sent < length octets → 0 < length (drop sent octets)
some_left sent [] below = absurd (omega (arith, below))
some_left zero (x ∷ octets) below = omega arith
some_left (suc sent) (x ∷ octets) below = some_left sent octets (omega (arith, below))

has_some : (octets : List ℕ) → 0 < length octets → has_octets octets ≡ true
has_some [] below = absurd (omega (arith, below))
has_some (x ∷ octets) below = refl

kept : (lines : Option Bool) (piece : List ℕ) → ends_line piece ≡ true → with_piece piece lines ≡ lines
kept None piece ends = refl
kept (Some all) piece ends = ap Some (still all (ends_line piece) ends)

stays : (pieces : Option Bool) (piece : List ℕ) → has_octets piece ≡ true → with_octets piece pieces ≡ pieces
stays None piece some = refl
stays (Some all) piece some = ap Some (still all (has_octets piece) some)

-- the rest of a piece that ends with a line, as `octets[sent..]` is written, ends with it
pub lines_kept : (lines : Option Bool) (sent : ℕ) (octets : List ℕ)
    → sent < length octets
    → are_lines octets ≡ true
    → with_piece (take (length octets - sent) (drop sent octets)) lines ≡ lines
lines_kept lines sent octets below ends =
    let rest = drop sent octets in
    kept lines (take (length octets - sent) rest)
    (ap ends_line (take_rest octets sent)
    ∙ line_of rest (some_left sent octets below) (rest_lines sent octets below ends))

-- and is not none
pub pieces_kept : (pieces : Option Bool) (sent : ℕ) (octets : List ℕ)
    → sent < length octets
    → with_octets (take (length octets - sent) (drop sent octets)) pieces ≡ pieces
pieces_kept pieces sent octets below =
    let rest = drop sent octets in
    stays pieces (take (length octets - sent) rest) (ap has_octets (take_rest octets sent) ∙ has_some rest (some_left sent octets below))

-- a text for which there was memory is whole lines where its octets are
pub text_is : {T E : Type 0} (view : T → List ℕ) (text : Result T E) (octets : List ℕ)
    → IfOk text (λ t. view t ≡ octets)
    → are_lines octets ≡ true
    → IfOk text (λ t. are_lines (view t) ≡ true)
text_is view (Ok t) octets is lines = ap are_lines is ∙ lines
text_is view (Err e) octets is lines = tt
