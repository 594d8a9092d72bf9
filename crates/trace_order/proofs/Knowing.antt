-- What is known of terms, and the taps and keys of a question, as the laws want them.
use Rattle.std.proofs.Common.{◌≡◌, ℕ, zero, suc, Bool, true, false, Option, None, Some, List, [], ◌∷◌, ◌++◌, map, get_or, ◌⊎◌, inl, inr, refl, sym, ap, subst, ◌∙◌, arith}
use Rattle.std.specs.{Prelude.◌&&◌, Prelude.nat_eq, Prelude.nat_lt, Str.bytes_eq}
use Rattle.std.proofs.{lemmas.Slice.Eq.bytes_eq-Decides, lemmas.Bool.Decides.Decides-eqb, lemmas.Bool.lt-ltb}
use Rattle.key_model.specs.{Term.Term, Term.Root, Term.Kenb, Term.Nh, Term.Star, Term.Alg, Chain.nh, Chain.ncc_of, Number.chain_number, Value.value_of, Reading.term_reading, Reading.octet_reading, HandoverTable.NumberedKey}
use Rattle.key_model.proofs.{TermFacts.chain_number_nh, ReadingFacts.values_carry}
use Rattle.trace_rules.specs.{Rules.AreIn, History.History}
use Rattle.trace_keys.specs.declared.{moves.Where.Where, moves.Move.Move}
use Rattle.trace_keys.specs.declared.moves.Where.TheVariants.{Setup, Took}
use Rattle.trace_keys.specs.declared.moves.Move.TheVariants.{Renew, Offer, Take, Switch, Ask, Prepare, Require, Arrive, Cancel, Refresh, Leave}
use Rattle.trace_keys.specs.{Net.Net, Net.Sight, Moved.moved}
use Rattle.trace_keys.proofs.OneNet.{clash, parts, num}
use Rattle.trace_terms.{specs.Carried.valued, proofs.Histories.to_here}
use Rattle.trace_plain.specs.Sights.{same_where, fits_pair, fits, has_tap, is_covered}
use Rattle.trace_plain.proofs.Dark.{one_where}
use Rattle.trace_order.specs.Order.{Coincidence, Follows, IsExact, IsTapped, BeginsSeen, AllBeginsSeen}
use Rattle.trace_order.specs.Known.{term_of, is_further, IsOutOfOrder, begins_seen, all_seen, IsNever}
use Rattle.trace_order.specs.declared.known.Known.{Known}
use Rattle.trace_order.proofs.Watching.{in_order, two_keys, never}

-- which chain a key is of
root_of : Term → Term
root_of (Kenb r n) = r
root_of (Nh r t) = r
root_of (Root r octets) = Root r octets
root_of (Star t pci earfcn) = t
root_of (Alg t type id) = t

count_of : Term → ℕ
count_of (Kenb r n) = n
count_of (Nh r t) = count_of t
count_of (Root r octets) = 0
count_of (Star t pci earfcn) = 0
count_of (Alg t type id) = 0

root_nh : (r : Term) (n i : ℕ) → root_of (nh r n i) ≡ r
unfolding root_of
root_nh r n zero = refl
root_nh r n (suc i) = refl

count_nh : (r : Term) (n i : ℕ) → count_of (nh r n i) ≡ n
unfolding count_of
count_nh r n zero = refl
count_nh r n (suc i) = count_nh r n i

all_three : (a b c : Bool) → a ≡ true → b ≡ true → c ≡ true → (a && b && c) ≡ true
all_three true b c e f g = both b c f g
  where
    both : (b c : Bool) → b ≡ true → c ≡ true → (b && c) ≡ true
    both true c f g = g
    both false c f g = clash f
all_three false b c e f g = clash e

-- a key that follows is further on
pub follows_further : (kasmes : List (List ℕ)) (before after : Known) → Follows (term_of kasmes before) (term_of kasmes after) → is_further before after ≡ true
follows_further kasmes before after f =
    let root_a = Root before.kasme (get_or kasmes before.kasme []) in
    let root_b = Root after.kasme (get_or kasmes after.kasme []) in
    let roots : root_a ≡ root_b =
    sym (root_nh root_a before.count before.number) ∙ ap root_of f.first ∙ root_nh f.root f.count f.low
    ∙ sym (root_nh f.root f.count f.high) ∙ ap root_of (sym f.next) ∙ root_nh root_b after.count after.number in
    let places : before.kasme ≡ after.kasme = place_same before.kasme after.kasme _ _ roots in
    let counts : before.count ≡ after.count =
    sym (count_nh root_a before.count before.number) ∙ ap count_of f.first ∙ count_nh f.root f.count f.low
    ∙ sym (count_nh f.root f.count f.high) ∙ ap count_of (sym f.next) ∙ count_nh root_b after.count after.number in
    let low : before.number ≡ f.low = sym (chain_number_nh root_a before.count before.number) ∙ ap chain_number f.first ∙ chain_number_nh f.root f.count f.low in
    let high : after.number ≡ f.high = sym (chain_number_nh root_b after.count after.number) ∙ ap chain_number f.next ∙ chain_number_nh f.root f.count f.high in
    all_three (nat_eq before.kasme after.kasme) (nat_eq before.count after.count) (nat_lt before.number after.number)
    ((Decides-eqb before.kasme after.kasme).1 places) ((Decides-eqb before.count after.count).1 counts)
    (lt-ltb before.number after.number (omega (arith, low, high, f.up)))
  where
    place_same : (a b : ℕ) (x y : List ℕ) → Root a x ≡ Root b y → a ≡ b
    place_same a b x y e = cc

-- what is captured is what was sent
exact_pair : (sent seen : Option (NumberedKey (List ℕ) ℕ)) → fits_pair sent seen ≡ true → (seen ≡ None) ⊎ (seen ≡ sent)
exact_pair sent None e = inl refl
exact_pair None (Some seen) e = clash e
exact_pair (Some sent) (Some seen) e =
    let p = parts (nat_eq sent.number seen.number) (bytes_eq sent.key seen.key) e in
    let key = (bytes_eq-Decides sent.key seen.key).0 p.1 in
    let number = num sent.number seen.number p.0 in
    inr (sym (λ k. Some (record { key = key k; number = number k })))

pub fits_exact : IsExact fits
fits_exact sent seen e =
    let p = parts (same_where sent.at seen.at) (fits_pair sent.pair seen.pair) e in
    record { at = one_where sent.at seen.at p.0; pair = exact_pair sent.pair seen.pair p.1 }

-- the taps of each move
pub is_tapped : (covered : List Where) (at : Where) → has_tap covered at ≡ true → IsTapped (is_covered covered) at
is_tapped covered at h sight e = ap (has_tap covered) e ∙ h

seen_by : (covered : List Where) (move : Move) → begins_seen covered move ≡ true → BeginsSeen (is_covered covered) move
seen_by covered (Renew kasme count station cell early taken) h =
    let p = parts (has_tap covered (Setup station)) (has_tap covered (Took station)) h in
    (is_tapped covered (Setup station) p.0, is_tapped covered (Took station) p.1)
seen_by covered (Prepare station cell goes) h = is_tapped covered (Took station) h
seen_by covered (Require station cell goes) h = is_tapped covered (Took station) h
seen_by covered (Offer kasme count early) h = tt
seen_by covered Take h = tt
seen_by covered Switch h = tt
seen_by covered (Ask what) h = tt
seen_by covered Arrive h = tt
seen_by covered Cancel h = tt
seen_by covered (Refresh station cell) h = tt
seen_by covered Leave h = tt

pub all_tapped : (covered : List Where) (family : List Move) → all_seen covered family ≡ true → AllBeginsSeen (is_covered covered) family
all_tapped covered [] h move i = absurd i
all_tapped covered (first ∷ family) h move (inl e) =
    subst (BeginsSeen (is_covered covered)) e (seen_by covered first (parts (begins_seen covered first) (all_seen covered family) h).0)
all_tapped covered (first ∷ family) h move (inr i) =
    all_tapped covered family (parts (begins_seen covered first) (all_seen covered family) h).1 move i

-- KASMEs as terms, by their places
pub roots_from : ℕ → List (List ℕ) → List Term
roots_from n [] = []
roots_from n (octets ∷ kasmes) = Root n octets ∷ roots_from (suc n) kasmes

pub roots_are : (n : ℕ) (kasmes : List (List ℕ)) → map value_of (roots_from n kasmes) ≡ kasmes
unfolding roots_from
roots_are n [] = refl
roots_are n (octets ∷ kasmes) = ap (λ rest. octets ∷ rest) (roots_are (suc n) kasmes)

-- a phone without a connection
abbrev pub idle : ℕ → ℕ → Net Term ℕ
idle kasme count = record { kasme = kasme; count = count; serving = None }

-- what no history in terms shows, no history in octets does
pub in_terms : (kasmes : List (List ℕ)) (covered : List Where) (family : List Move) (capture : List (Sight (List ℕ))) (sight : Sight (List ℕ))
    → ((bound left kasme count : ℕ) (moves : List Move)
    → AreIn moves family
    → History (valued term_reading value_of (roots_from 0 kasmes)) fits (is_covered covered) bound left (idle kasme count) moves (capture ++ sight ∷ [])
    → Coincidence)
    → IsNever kasmes covered family capture sight
in_terms kasmes covered family capture sight shows bound left kasme count moves fam h =
    let covers = is_covered covered in
    let all = capture ++ sight ∷ [] in
    let here = subst (λ k. History (moved octet_reading k) fits covers bound left (record { kasme = kasme; count = count; serving = None }) moves all) (sym (roots_are 0 kasmes)) h in
    shows bound left kasme count moves fam
    (to_here term_reading octet_reading value_of ncc_of values_carry (roots_from 0 kasmes) fits covers bound left _ (idle kasme count) moves all refl here)

pub never_by : (kasmes : List (List ℕ)) (covered : List Where) (family : List Move) (capture : List (Sight (List ℕ))) (sight : Sight (List ℕ))
    → all_seen covered family ≡ true
    → IsOutOfOrder kasmes capture sight
    → IsNever kasmes covered family capture sight
never_by kasmes covered family capture sight seen out =
    in_terms kasmes covered family capture sight
    (λ bound left kasme count moves fam h.
    never (term_of kasmes out.before) (term_of kasmes out.after) out.last out.next out.first out.second out.apart
    (two_keys capture sight None None out.last out.next tt out.is_last out.is_next
    (in_order (is_covered covered) (roots_from 0 kasmes) fits fits_exact family (all_tapped covered family seen) bound left (idle kasme count) moves _ None fam tt h)))
