-- What holds along a history, by what each move keeps of a net: one walk for each law of this crate.
use Rattle.std.proofs.Common.{◌≡◌, ◌≢◌, ℕ, Bool, true, false, Option, None, Some, List, [], ◌∷◌, ◌⊎◌, inl, inr, refl, sym, ap, subst, ◌∙◌}
use Rattle.std.specs.Prelude.{not, if◌then◌else◌, slice_get}
use Rattle.annex_a_keys.specs.Cell.{Place}
use Rattle.key_model.specs.{Term.Term, Term.same_term, Value.value_of, Reading.term_reading, HandoverTable.NumberedKey}
use Rattle.key_model.proofs.TermFacts.{same_term-Decides}
use Rattle.nh_chain.specs.Station.{map_pair}
use Rattle.trace_rules.specs.{Rules.Done, Rules.is_unseen, Rules.IsIn, Rules.AreIn, History.History, History.ends, History.unseen, History.shown}
use Rattle.trace_keys.specs.declared.{moves.Where.Where, moves.Move.Move}
use Rattle.trace_keys.specs.declared.moves.Where.TheVariants.{Setup, Change, Took, Answer, Asked, Request, Over}
use Rattle.trace_keys.specs.declared.moves.Move.TheVariants.{Renew}
use Rattle.trace_keys.specs.{Net.Serving, Net.Net, Net.Sight, Moved.renewed, Moved.moved_in, Moved.if_connected, Moved.moved}
use Rattle.trace_keys.proofs.OneNet.{clash}
use Rattle.trace_terms.specs.Carried.{map_sight, map_sent, with_values, valued}
use Rattle.trace_terms.proofs.Histories.{same_done}
use Rattle.trace_order.specs.Order.{IsSeenAs, IsExact, IsTapped}

pub nothing : {X P : Type 0} (x : X) → None ≡ Some x → P
nothing x e = let no : ⊥ = cc in absurd no

pub one_pair : (a b : NumberedKey (List ℕ) ℕ) → Some a ≡ Some b → a ≡ b
one_pair a b e = cc

one_sight : (a b : Sight (List ℕ)) → Some a ≡ Some b → a ≡ b
one_sight a b e = cc

-- two terms are one, or not
pub one_or_not : (a b : Term) (t : Bool) → same_term a b ≡ t → (a ≡ b) ⊎ (a ≢ b)
one_or_not a b true e = inl ((same_term-Decides a b).0 e)
one_or_not a b false e = inr (λ same. clash (sym e ∙ (same_term-Decides a b).1 same))

-- the key that was looked at is the value of the one that is known
abbrev pub Agrees : Option Term → Option (NumberedKey (List ℕ) ℕ) → Type 0
Agrees None None = Unit {0}
Agrees (Some key) (Some pair) = value_of key ≡ pair.key
Agrees None (Some pair) = ⊥
Agrees (Some key) None = ⊥

-- What is kept where taps have each message by which it is another: where a connection begins, and where a key change is taken.
module _ (covers : Sight (List ℕ) → Bool) (Keeps : Option Term → Option (Serving Term ℕ) → Type 0) where
  abbrev pub KeptAt : Option Term → Where → Option (Serving Term ℕ) → Type 0
  KeptAt x (Setup station) end = Keeps None end × IsTapped covers (Setup station)
  KeptAt x (Took station) end = Keeps None end × IsTapped covers (Took station)
  KeptAt x (Answer station) end = Keeps x end
  KeptAt x (Request station) end = Keeps x end
  KeptAt x (Change station) end = Keeps x end
  KeptAt x (Asked station) end = Keeps x end
  KeptAt x (Over source target) end = Keeps x end

  pub kept_dark : (x : Option Term) (end : Option (Serving Term ℕ)) (at : Where) → ¬ IsTapped covers at → KeptAt x at end → Keeps x end
  kept_dark x end (Setup station) dark k = absurd (dark k.1)
  kept_dark x end (Took station) dark k = absurd (dark k.1)
  kept_dark x end (Answer station) dark k = k
  kept_dark x end (Request station) dark k = k
  kept_dark x end (Change station) dark k = k
  kept_dark x end (Asked station) dark k = k
  kept_dark x end (Over source target) dark k = k

-- a net keeps what is known of it; `After` is of a net behind a message at some place, and `Brings` of the key there
module _ {X : Type 0} (Keeps : X → Option (Serving Term ℕ) → Type 0) (After : X → Where → Option (Serving Term ℕ) → Type 0) (Brings : X → Where → Option (NumberedKey Term ℕ) → Option (Serving Term ℕ) → Type 0) where
  abbrev pub LeftBy : X → Option (Sight Term) → Option (Serving Term ℕ) → Type 0
  LeftBy x None end = Keeps x end
  LeftBy x (Some sight) end = After x sight.at end × Brings x sight.at sight.pair end

  abbrev pub Leaves : X → Option (Done (Net Term ℕ) (Sight Term)) → Type 0
  Leaves x None = Unit {0}
  Leaves x (Some done) = LeftBy x done.sent done.net.serving

  pub leaves_if : (x : X) (b : Bool) (done : Done (Net Term ℕ) (Sight Term))
      → LeftBy x done.sent done.net.serving
      → Leaves x (if b then Some done else None)
  leaves_if x true done h = h
  leaves_if x false done h = tt

  -- a move leaves it so if a KeNB does, and each move of a connection
  module _ (Seen : Move → Type 0) (kasmes : List Term) (x : X)
      (renews : (root : Option Term) (net : Net Term ℕ) (kasme count station : ℕ) (cell : Place) (early taken : Bool)
      → Seen (Renew kasme count station cell early taken)
      → Leaves x (renewed term_reading root net kasme count station cell early taken))
      (moves_on : (net : Net Term ℕ) (s : Serving Term ℕ) (move : Move)
      → Seen move
      → Keeps x (Some s)
      → Leaves x (moved_in term_reading kasmes net s move)) where
    leaves_if_connected : (net : Net Term ℕ) (serving : Option (Serving Term ℕ)) (move : Move)
        → Seen move
        → Keeps x serving
        → Leaves x (if_connected term_reading kasmes net serving move)
    leaves_if_connected net None move seen k = tt
    leaves_if_connected net (Some s) move seen k = moves_on net s move seen k

    pub leaves : (net : Net Term ℕ) (move : Move) → Seen move → Keeps x net.serving → Leaves x (moved term_reading kasmes net move)
    leaves net (Renew kasme count station cell early taken) seen k =
        renews (slice_get kasmes kasme) net kasme count station cell early taken seen
    leaves net move seen k = leaves_if_connected net net.serving move seen k

  -- what a move that is lawful in values was in terms
  record Own (x : X) (sent : Option (Sight (List ℕ))) (end : Option (Serving Term ℕ)) : Type 0 where
    own : Option (Sight Term)
    is : map_sent value_of own ≡ sent
    left : LeftBy x own end

  own_of : (x : X) (o : Option (Done (Net Term ℕ) (Sight Term))) (end : Net Term ℕ) (sent : Option (Sight (List ℕ)))
      → with_values value_of o ≡ Some (record { net = end; sent = sent })
      → Leaves x o
      → Own x sent end.serving
  own_of x None end sent e w = nothing (record { net = end; sent = sent }) e
  own_of x (Some done) end sent e w =
      let same = same_done (record { net = done.net; sent = map_sent value_of done.sent }) (record { net = end; sent = sent }) e in
      record {
        own = done.sent;
        is = ap (λ d. d.sent) same;
        left = subst (λ n. LeftBy x done.sent n.serving) (ap (λ d. d.net) same) w;
      }

  abbrev pub GoesOn : Option (Serving Term ℕ) → (X → Type 0) → Type 0
  GoesOn end rest = (y : X) → Keeps y end → rest y

  -- The walk. `At` is what is told of a message, by what is known before it, and `All` of each message of a capture.
  module _ (At : X → Where → Option (NumberedKey (List ℕ) ℕ) → (X → Type 0) → Type 0) (All : X → List (Sight (List ℕ)) → Type 0) (covers : Sight (List ℕ) → Bool)
      (none : (x : X) → All x [])
      (one : (x : X) (sight : Sight (List ℕ)) (capture : List (Sight (List ℕ)))
      → At x sight.at sight.pair (λ y. All y capture)
      → All x (sight ∷ capture))
      (dark : (x : X) (end : Option (Serving Term ℕ)) (at : Where) → ¬ IsTapped covers at → After x at end → Keeps x end)
      (passed : (x : X) (end : Option (Serving Term ℕ)) (at : Where) (rest : X → Type 0) → After x at end → GoesOn end rest → At x at None rest)
      (looked : (x : X) (end : Option (Serving Term ℕ)) (at : Where) (pair : NumberedKey Term ℕ) (rest : X → Type 0)
      → After x at end
      → Brings x at (Some pair) end
      → GoesOn end rest
      → At x at (Some (record { key = value_of pair.key; number = pair.number })) rest) where
    untapped : (sight : Sight (List ℕ)) → not (covers sight) ≡ true → ¬ IsTapped covers sight.at
    untapped sight hid tap = clash (sym (ap not (tap sight refl)) ∙ hid)

    dark_by : (x : X) (end : Option (Serving Term ℕ)) (own : Option (Sight Term))
        → is_unseen covers (map_sent value_of own) ≡ true
        → LeftBy x own end
        → Keeps x end
    dark_by x end None hid w = w
    dark_by x end (Some sight) hid w = dark x end sight.at (untapped (map_sight value_of sight) hid) w.0

    seen_at : (x : X) (end : Option (Serving Term ℕ)) (at : Where) (own : Option (NumberedKey Term ℕ)) (seen : Option (NumberedKey (List ℕ) ℕ)) (rest : X → Type 0)
        → (seen ≡ None) ⊎ (seen ≡ map_pair value_of (λ n. n) own)
        → After x at end
        → Brings x at own end
        → GoesOn end rest
        → At x at seen rest
    seen_at x end at own seen rest (inl e) k b go = subst (λ p. At x at p rest) (sym e) (passed x end at rest k go)
    seen_at x end at None seen rest (inr e) k b go = subst (λ p. At x at p rest) (sym e) (passed x end at rest k go)
    seen_at x end at (Some pair) seen rest (inr e) k b go = subst (λ p. At x at p rest) (sym e) (looked x end at pair rest k b go)

    pair_is : (own : Option (NumberedKey Term ℕ)) (sent seen : Option (NumberedKey (List ℕ) ℕ))
        → map_pair value_of (λ n. n) own ≡ sent
        → (seen ≡ None) ⊎ (seen ≡ sent)
        → (seen ≡ None) ⊎ (seen ≡ map_pair value_of (λ n. n) own)
    pair_is own sent seen e (inl none) = inl none
    pair_is own sent seen e (inr same) = inr (same ∙ sym e)

    shown_on : (x : X) (end : Option (Serving Term ℕ)) (own : Option (Sight Term)) (sent seen : Sight (List ℕ)) (rest : X → Type 0)
        → map_sent value_of own ≡ Some sent
        → IsSeenAs sent seen
        → LeftBy x own end
        → GoesOn end rest
        → At x seen.at seen.pair rest
    shown_on x end None sent seen rest e same w go = nothing sent e
    shown_on x end (Some own) sent seen rest e same w go =
        let is = one_sight (map_sight value_of own) sent e in
        let pair = pair_is own.pair sent.pair seen.pair (ap (λ s. s.pair) is) same.pair in
        subst (λ a. At x a seen.pair rest) (ap (λ s. s.at) is ∙ same.at) (seen_at x end own.at own.pair seen.pair rest pair w.0 w.1 go)

    pub along : (kasmes : List Term) (fits : Sight (List ℕ) → Sight (List ℕ) → Bool) (exact : IsExact fits) (family : List Move)
        (steps : (x : X) (net : Net Term ℕ) (move : Move) → IsIn move family → Keeps x net.serving → Leaves x (moved term_reading kasmes net move))
        (bound left : ℕ) (net : Net Term ℕ) (moves : List Move) (capture : List (Sight (List ℕ))) (x : X)
        → AreIn moves family
        → Keeps x net.serving
        → History (valued term_reading value_of kasmes) fits covers bound left net moves capture
        → All x capture
    along kasmes fits exact family steps bound left net moves capture x fam k (ends) = none x
    along kasmes fits exact family steps bound left net moves capture x fam k (unseen {left = l} {end = end} {sent = sent} {moves = ms} move done hid more) =
        let own = own_of x (moved term_reading kasmes net move) end sent done (steps x net move fam.0 k) in
        along kasmes fits exact family steps bound l end ms capture x fam.1 (dark_by x end.serving own.own (ap (is_unseen covers) own.is ∙ hid) own.left) more
    along kasmes fits exact family steps bound left net moves capture x fam k (shown {end = end} {sent = sent} {sight = sight} {moves = ms} {capture = rest} move done fit cov more) =
        let own = own_of x (moved term_reading kasmes net move) end (Some sent) done (steps x net move fam.0 k) in
        one x sight rest
        (shown_on x end.serving own.own sent sight (λ y. All y rest) own.is (exact sent sight fit) own.left
        (λ y kept. along kasmes fits exact family steps bound bound end ms rest y fam.1 kept more))
