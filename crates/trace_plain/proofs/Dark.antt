-- A move that goes to a tap leaves nothing unseen, and one that goes elsewhere shows nothing here.
use Rattle.std.proofs.Common.{◌≡◌, Bool, true, false, ℕ, Option, None, Some, List, [], ◌∷◌, refl, sym, ap, ◌∙◌}
use Rattle.std.specs.Prelude.{IsTrue, ◌&&◌, if◌then◌else◌, nat_eq}
use Rattle.trace_rules.specs.{Rules.Done, Rules.is_unseen, Search.if_unseen, Search.if_sent, Search.if_shown}
use Rattle.trace_keys.specs.declared.moves.Where.{Where}
use Rattle.trace_keys.specs.declared.moves.Where.TheVariants.{Setup, Change, Took, Answer, Asked, Request, Over}
use Rattle.trace_keys.specs.Net.{Sight}
use Rattle.trace_keys.proofs.{Placing.where_of, Placing.Placed, OneNet.clash, OneNet.parts, OneNet.num}
use Rattle.trace_plain.specs.Sights.{same_where, fits_pair, fits, has_tap, is_covered, is_dark, is_there}

dark_is : (covered : List Where) (sent : Option (Sight (List ℕ))) → is_unseen (is_covered covered) sent ≡ is_dark covered (where_of sent)
dark_is covered None = refl
dark_is covered (Some sight) = refl

if_none : {N : Type 0} (b : Bool) (net : N) → b ≡ false → (if b then net ∷ [] else []) ≡ []
if_none true net e = clash (sym e)
if_none false net e = refl

pub none_unseen : {N : Type 0} (covered : List Where) (o : Option (Done N (Sight (List ℕ)))) (at : Option Where)
    → Placed o at
    → is_dark covered at ≡ false
    → if_unseen (is_covered covered) o ≡ []
none_unseen covered None at is e = refl
none_unseen covered (Some done) at is e = if_none (is_unseen (is_covered covered) done.sent) done.net (dark_is covered done.sent ∙ ap (is_dark covered) is ∙ e)

elsewhere : (a b c : Bool) → a ≡ false → ((a && b) && c) ≡ false
elsewhere true b c e = clash (sym e)
elsewhere false b c e = refl

none_sent : {N : Type 0} (covered : List Where) (sight : Sight (List ℕ)) (net : N) (sent : Option (Sight (List ℕ)))
    → is_there sight (where_of sent) ≡ false
    → if_sent fits (is_covered covered) sight net sent ≡ []
none_sent covered sight net None e = refl
none_sent covered sight net (Some sent) e =
    if_none (fits sent sight && is_covered covered sight) net
    (elsewhere (same_where sent.at sight.at) (fits_pair sent.pair sight.pair) (is_covered covered sight) e)

pub none_shown : {N : Type 0} (covered : List Where) (sight : Sight (List ℕ)) (o : Option (Done N (Sight (List ℕ)))) (at : Option Where)
    → Placed o at
    → is_there sight at ≡ false
    → if_shown fits (is_covered covered) sight o ≡ []
none_shown covered sight None at is e = refl
none_shown covered sight (Some done) at is e = none_sent covered sight done.net done.sent (ap (is_there sight) is ∙ e)

pub one_where : (a b : Where) → same_where a b ≡ true → a ≡ b
one_where (Setup a) (Setup b) e = ap (λ n. Setup n) (num a b e)
one_where (Change a) (Change b) e = ap (λ n. Change n) (num a b e)
one_where (Took a) (Took b) e = ap (λ n. Took n) (num a b e)
one_where (Answer a) (Answer b) e = ap (λ n. Answer n) (num a b e)
one_where (Asked a) (Asked b) e = ap (λ n. Asked n) (num a b e)
one_where (Request a) (Request b) e = ap (λ n. Request n) (num a b e)
one_where (Over a b) (Over c d) e =
    let p = parts (nat_eq a c) (nat_eq b d) e in
    ap (λ n. Over n b) (num a c p.0) ∙ ap (λ n. Over c n) (num b d p.1)
one_where a b e = clash e

-- what fits is covered by the same taps
pub covered_alike : (covered : List Where) (x y : Sight (List ℕ)) → IsTrue (fits x y) → is_covered covered x ≡ is_covered covered y
covered_alike covered x y e = ap (has_tap covered) (one_where x.at y.at (parts (same_where x.at y.at) (fits_pair x.pair y.pair) e).0)
