-- Lists behind what was there.
use Rattle.std.proofs.Common.{◌≡◌, List, [], ◌∷◌, ◌++◌, ap, ◌∙◌, append_assoc}

pub joined : {X : Type 0} (old a b c d e k l m n o : List X) → k ≡ old ++ a → l ≡ k ++ b → m ≡ l ++ c → n ≡ m ++ d → o ≡ n ++ e →
    o ≡ old ++ (a ++ (b ++ (c ++ (d ++ e))))
joined old a b c d e k l m n o p q r s t =
    t
    ∙ ap (λ xs. xs ++ e) (s ∙ ap (λ xs. xs ++ d) (r ∙ ap (λ xs. xs ++ c) (q ∙ ap (λ xs. xs ++ b) p)))
    ∙ append_assoc (old ++ a ++ b ++ c) d e
    ∙ append_assoc (old ++ a ++ b) c (d ++ e)
    ∙ append_assoc (old ++ a) b (c ++ (d ++ e))
    ∙ append_assoc old a (b ++ (c ++ (d ++ e)))

-- two more, as they are written
pub two : {X : Type 0} (old mid new : List X) (a b x y : X) → mid ≡ old ++ a ∷ [] → new ≡ mid ++ b ∷ [] → a ≡ x → b ≡ y →
    new ≡ old ++ x ∷ y ∷ []
two old mid new a b x y p q r s =
    q
    ∙ ap (λ xs. xs ++ b ∷ []) p
    ∙ append_assoc old (a ∷ []) (b ∷ [])
    ∙ ap (λ z. old ++ z ∷ b ∷ []) r
    ∙ ap (λ z. old ++ x ∷ z ∷ []) s

pub three : {X : Type 0} (old mid more new : List X) (a b c x y z : X) → mid ≡ old ++ a ∷ [] → more ≡ mid ++ b ∷ [] → new ≡ more ++ c ∷ [] →
    a ≡ x → b ≡ y → c ≡ z → new ≡ old ++ x ∷ y ∷ z ∷ []
three old mid more new a b c x y z p q r s t u =
    r
    ∙ ap (λ xs. xs ++ c ∷ []) (two old mid more a b x y p q s t)
    ∙ append_assoc old (x ∷ y ∷ []) (c ∷ [])
    ∙ ap (λ w. old ++ x ∷ y ∷ w ∷ []) u
