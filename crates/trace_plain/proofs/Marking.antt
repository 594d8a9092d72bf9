-- Nets of which the marks differ are two.
use Rattle.std.proofs.Common.{◌≡◌, ℕ, Bool, true, false, ◌&&◌, List, refl, sym, subst, ◌∙◌, nat_eq}
use Rattle.std.proofs.lemmas.Bool.Decides.{Decides-eqb}
use Rattle.trace_keys.specs.{Net.Net, Marks.mark_of, Marks.same_mark, Same.same_net, declared.marks.Mark.Mark}
use Rattle.trace_keys.proofs.OneNet.{clash, one_net}

both : (a b : Bool) → a ≡ true → b ≡ true → (a && b) ≡ true
both true b e f = f
both false b e f = e

itself : (n : ℕ) → nat_eq n n ≡ true
itself n = (Decides-eqb n n).1 refl

same_itself : (m : Mark) → same_mark m m ≡ true
same_itself m =
    let target = itself m.target in
    let key = both (nat_eq m.target m.target) (nat_eq m.key m.key) target (itself m.key) in
    let pair = both (nat_eq m.target m.target && nat_eq m.key m.key) (nat_eq m.pair m.pair) key (itself m.pair) in
    let offer = both (nat_eq m.target m.target && nat_eq m.key m.key && nat_eq m.pair m.pair) (nat_eq m.offer m.offer) pair (itself m.offer) in
    let core =
    both (nat_eq m.target m.target && nat_eq m.key m.key && nat_eq m.pair m.pair && nat_eq m.offer m.offer) (nat_eq m.core m.core) offer (itself m.core) in
    both (nat_eq m.target m.target && nat_eq m.key m.key && nat_eq m.pair m.pair && nat_eq m.offer m.offer && nat_eq m.core m.core) (nat_eq m.count m.count) core
    (itself m.count)

pub two_nets : (a b : Net (List ℕ) ℕ) → same_mark (mark_of a) (mark_of b) ≡ false → same_net a b ≡ false
two_nets a b e = by_test (same_net a b) refl
  where
    by_test : (x : Bool) → same_net a b ≡ x → x ≡ false
    by_test false h = refl
    by_test true h = clash (sym e ∙ subst (λ c. same_mark (mark_of a) (mark_of c) ≡ true) (one_net a b h) (same_itself (mark_of a)))
