-- One more link keeps the chains.
use Rattle.std.proofs.Common.{◌≡◌, ◌≢◌, ℕ, zero, suc, ◌<◌, ◌≤◌, ◌+◌, ◌⊎◌, inl, inr, Bool, true, false, cond, Option, Some, None, List, [], ◌∷◌, ◌++◌, length, map, set, get_or, slice_get, sym, refl, ap, subst, ◌∙◌, arith, true≢false, length-append, length-set}
use Rattle.std.specs.{Option.option_map, Option.IfSome, HashMap.HashMap, HashMap.get, Map.lookup, Str.bytes_eq}
use Rattle.std.proofs.{lemmas.Bool.cases_lt, lemmas.List.length-map, lemmas.List.map-append, lemmas.Slice.Eq.bytes_eq-Decides, Math.Seq.map-set_same}
use Rattle.std.proofs.lemmas.Option.{slice_get-map, slice_get_within, slice_get_cases, get_or_from_slice_get, none-some}
use Rattle.key_terms.proofs.Places.{slice_get_stays, slice_get_at_end, slice_get_push}
use Rattle.net_bag.specs.{declared.chains.Chain.Chain, declared.chains.Link.Link}
use Rattle.net_bag.specs.Chains.{digests_of, IsFirstFrom, IsLast, IsChained, linked, chain_with}

first_grows : (ds : List (List ℕ)) (d new : List ℕ) (from : ℕ) (o : Option ℕ)
    → IsFirstFrom ds d from o
    → (o ≡ None → d ≢ new)
    → IsFirstFrom (ds ++ new ∷ []) d from o
first_grows ds d new from None first other =
    λ j le at. elim (slice_get_push ds new j d at) [ inl h ↦ first j le h | inr h ↦ other refl h.1 ]
first_grows ds d new from (Some k) first other = (
  first.0,
  slice_get_stays ds (new ∷ []) k d first.1,
  λ j le lt at. elim (slice_get_push ds new j d at) [
    | inl h ↦ first.2 j le lt h
    | inr h ↦ let within = slice_get_within ds k d first.1 in absurd (omega (arith, h.0, lt, within))
  ],
)

first_here : (ds : List (List ℕ)) (d : List ℕ) (from : ℕ)
    → from ≤ length ds
    → ((j : ℕ) → from ≤ j → slice_get ds j ≡ Some d → ⊥)
    → IsFirstFrom (ds ++ d ∷ []) d from (Some (length ds))
first_here ds d from le none = (
  le,
  slice_get_at_end ds d,
  λ j from_j lt at. elim (slice_get_push ds d j d at) [ inl h ↦ none j from_j h | inr h ↦ absurd (omega (arith, h.0, lt)) ],
)

-- past the end there is none
none_past : (ds : List (List ℕ)) (d new : List ℕ) (j : ℕ) → length ds < j → slice_get (ds ++ new ∷ []) j ≡ Some d → ⊥
none_past ds d new j past at =
    let within = slice_get_within (ds ++ new ∷ []) j d at in
    let len = length-append ds (new ∷ []) in
    absurd (omega (arith, within, len, past))

last_grows : (ds : List (List ℕ)) (d new : List ℕ) (k : ℕ) → IsLast ds d k → d ≢ new → IsLast (ds ++ new ∷ []) d k
last_grows ds d new k last other = (
  slice_get_stays ds (new ∷ []) k d last.0,
  λ j lt at. elim (slice_get_push ds new j d at) [ inl h ↦ last.1 j lt h | inr h ↦ absurd (other h.1) ],
)

-- what stands in a list in which one place was written
set_split : {X : Type 0} (xs : List X) (j k : ℕ) (y x : X) → slice_get (set xs j y) k ≡ Some x → ((k ≡ j) × (x ≡ y)) ⊎ ((k ≢ j) × (slice_get xs k ≡ Some x))
set_split [] j k y x at = absurd (none-some x at)
set_split (z ∷ xs) zero zero y x at = inl (refl, cc)
set_split (z ∷ xs) zero (suc k) y x at = inr (λ e. absurd (omega (arith, e)), at)
set_split (z ∷ xs) (suc j) zero y x at = inr (λ e. absurd (omega (arith, e)), at)
set_split (z ∷ xs) (suc j) (suc k) y x at =
    elim (set_split xs j k y x at) [ inl h ↦ inl (omega (arith, h.0), h.1) | inr h ↦ inr (λ e. h.0 (omega (arith, e)), h.1) ]

-- an element of which something is known
mapped_at : {A B : Type 0} (f : A → B) (xs : List A) (k : ℕ) (b : B) → slice_get (map f xs) k ≡ Some b → (x : A) × (slice_get xs k ≡ Some x) × (f x ≡ b)
mapped_at f xs k b at =
    let read = sym (slice_get-map f xs k) ∙ at in
    elim (slice_get_cases xs k).1 [
      | inl h ↦ let e = sym (ap (option_map f) h.2) ∙ read in (h.0, h.2, cc)
      | inr h ↦ absurd (none-some b (sym (ap (option_map f) h.1) ∙ read))
    ]

digest_at : (links : List Link) (k : ℕ) (l : Link) → slice_get links k ≡ Some l → slice_get (digests_of links) k ≡ Some l.digest
digest_at links k l at = slice_get-map (λ l'. l'.digest) links k ∙ ap (option_map (λ l'. l'.digest)) at

module _ (chain_of : List ℕ → Option Chain) (links : List Link) (chained : IsChained chain_of links) (new : List ℕ) where
  -- the values are those before, and the new one
  digests_by : (o : Option Chain) → chain_of new ≡ o → digests_of (linked links o new) ≡ digests_of links ++ new ∷ []
  digests_by None e = map-append (λ l. l.digest) links (record { digest = new; next = None } ∷ [])
  digests_by (Some c) e =
      let m : Link = record { digest = new; next = Some (length links) } in
      let l = mapped_at (λ l'. l'.digest) links c.last new (chained.lasts new c e).0 in
      let same : new ≡ (get_or links c.last l.0).digest = sym (ap (λ l'. l'.digest) (get_or_from_slice_get links c.last l.0 l.0 l.1) ∙ l.2) in
      map-append (λ l'. l'.digest) (set links c.last m) (record { digest = new; next = None } ∷ [])
      ∙ ap (λ ds. ds ++ new ∷ []) (map-set_same (λ l'. l'.digest) links c.last m l.0 same)

  pub digests_linked : digests_of (linked links (chain_of new) new) ≡ digests_of links ++ new ∷ []
  digests_linked = digests_by (chain_of new) refl

  -- a link of the new value that leads nowhere is the last one of its chain
  stuck : (o : Option Chain) (k : ℕ) (l : Link)
      → chain_of new ≡ o
      → slice_get links k ≡ Some l
      → l.next ≡ None
      → l.digest ≡ new
      → ((c : Chain) → o ≡ Some c → k ≢ c.last)
      → ⊥
  stuck None k l e at none same other =
      let first = subst (λ c. IsFirstFrom (digests_of links) new 0 (option_map (λ c'. c'.first) c)) e (chained.firsts new) in
      first k (omega arith) (digest_at links k l at ∙ ap Some same)
  stuck (Some c) k l e at none same other =
      let last = chained.lasts new c e in
      let next = subst (λ o. IsFirstFrom (digests_of links) l.digest (k + 1) o) none (chained.nexts k l at) in
      elim (cases_lt k c.last) [
        | inl lt ↦ next c.last (omega (arith, lt)) (last.0 ∙ ap Some (sym same))
        | inr le ↦ elim (cases_lt c.last k) [
          | inl lt ↦ last.1 k lt (digest_at links k l at ∙ ap Some same)
          | inr ge ↦ other c refl (omega (arith, le, ge))
        ]
      ]

  -- an old link, with one more value
  old_next : (o : Option Chain) (k : ℕ) (l : Link)
      → chain_of new ≡ o
      → slice_get links k ≡ Some l
      → ((c : Chain) → o ≡ Some c → k ≢ c.last)
      → IsFirstFrom (digests_of links ++ new ∷ []) l.digest (k + 1) l.next
  old_next o k l e at other =
      first_grows (digests_of links) l.digest new (k + 1) l.next (chained.nexts k l at) (λ none same. stuck o k l e at none same other)

  -- the link at the end leads nowhere
  end_next : (k : ℕ) (l : Link)
      → k ≡ length links
      → l ≡ record { digest = new; next = None }
      → IsFirstFrom (digests_of links ++ new ∷ []) l.digest (k + 1) l.next
  end_next k l here e =
      let len = length-map links (λ l'. l'.digest) in
      let End : Link → Type 0 = λ l'. IsFirstFrom (digests_of links ++ new ∷ []) l'.digest (k + 1) l'.next in
      subst End (sym e) (λ j le at. none_past (digests_of links) new new j (omega (arith, len, here, le)) at)

  nexts_by : (o : Option Chain)
      → chain_of new ≡ o
      → (k : ℕ) (l : Link)
      → slice_get (linked links o new) k ≡ Some l
      → IsFirstFrom (digests_of links ++ new ∷ []) l.digest (k + 1) l.next
  nexts_by None e k l at =
      elim (slice_get_push links (record { digest = new; next = None }) k l at) [
        | inl h ↦ old_next None k l e h (λ c same. absurd (none-some c same))
        | inr h ↦ end_next k l h.0 h.1
      ]
  nexts_by (Some c) e k l at =
      let m : Link = record { digest = new; next = Some (length links) } in
      let last = chained.lasts new c e in
      let size : length (set links c.last m) ≡ length links = length-set links c.last m in
      let len = length-map links (λ l'. l'.digest) in
      let within = slice_get_within (digests_of links) c.last new last.0 in
      let End : ℕ → Link → Type 0 = λ k' l'. IsFirstFrom (digests_of links ++ new ∷ []) l'.digest (k' + 1) l'.next in
      elim (slice_get_push (set links c.last m) (record { digest = new; next = None }) k l at) [
        | inl h ↦ elim (set_split links c.last k m l h) [
          | inl here ↦
              let first = first_here (digests_of links) new (c.last + 1) (omega (arith, within)) (λ j le at_j. last.1 j (omega (arith, le)) at_j) in
              let first' : End c.last m = subst (λ n. IsFirstFrom (digests_of links ++ new ∷ []) new (c.last + 1) (Some n)) len first in
              subst (λ k'. End k' l) (sym here.0) (subst (End c.last) (sym here.1) first')
          | inr there ↦ old_next (Some c) k l e there.1 (λ c' same. let s : c.last ≡ c'.last = cc in λ k_is. there.0 (k_is ∙ sym s))
        ]
        | inr h ↦ end_next k l (h.0 ∙ size) h.1
      ]

  first_by : (o : Option Chain) → chain_of new ≡ o → IsFirstFrom (digests_of links ++ new ∷ []) new 0 (Some (chain_with o (length links)).first)
  first_by None e =
      let first = subst (λ c. IsFirstFrom (digests_of links) new 0 (option_map (λ c'. c'.first) c)) e (chained.firsts new) in
      let here = first_here (digests_of links) new 0 (omega arith) first in
      subst (λ n. IsFirstFrom (digests_of links ++ new ∷ []) new 0 (Some n)) (length-map links (λ l. l.digest)) here
  first_by (Some c) e =
      let first = subst (λ c'. IsFirstFrom (digests_of links) new 0 (option_map (λ c''. c''.first) c')) e (chained.firsts new) in
      first_grows (digests_of links) new new 0 (Some c.first) first (λ none. absurd (none-some c.first (sym none)))

  last_by : (o : Option Chain) → IsLast (digests_of links ++ new ∷ []) new (chain_with o (length links)).last
  last_by None = last_end
    where
      last_end : IsLast (digests_of links ++ new ∷ []) new (length links)
      last_end =
          subst (IsLast (digests_of links ++ new ∷ []) new) (length-map links (λ l. l.digest))
          (slice_get_at_end (digests_of links) new, none_past (digests_of links) new new)
  last_by (Some c) =
      subst (IsLast (digests_of links ++ new ∷ []) new) (length-map links (λ l. l.digest))
      (slice_get_at_end (digests_of links) new, none_past (digests_of links) new new)

  module _ (after : List ℕ → Option Chain)
      (updated : (d : List ℕ)
      → after d ≡ cond (bytes_eq new d) (Some (chain_with (chain_of new) (length links))) (chain_of d)) where
    firsts_of : (d : List ℕ) (b : Bool) → bytes_eq new d ≡ b → IsFirstFrom (digests_of links ++ new ∷ []) d 0 (option_map (λ c. c.first) (after d))
    firsts_of d true e =
        let same : new ≡ d = (bytes_eq-Decides new d).0 e in
        let chain : after d ≡ Some (chain_with (chain_of new) (length links)) =
        updated d ∙ ap (λ b. cond b (Some (chain_with (chain_of new) (length links))) (chain_of d)) e in
        let first = subst (λ d'.
        IsFirstFrom (digests_of links ++ new ∷ []) d' 0 (Some (chain_with (chain_of new) (length links)).first))
        same (first_by (chain_of new) refl) in
        subst (λ c. IsFirstFrom (digests_of links ++ new ∷ []) d 0 (option_map (λ c'. c'.first) c)) (sym chain) first
    firsts_of d false e =
        let chain : after d ≡ chain_of d = updated d ∙ ap (λ b. cond b (Some (chain_with (chain_of new) (length links))) (chain_of d)) e in
        let first = first_grows (digests_of links) d new 0 (option_map (λ c. c.first) (chain_of d)) (chained.firsts d)
        (λ none same. absurd (true≢false (sym ((bytes_eq-Decides new d).1 (sym same)) ∙ e))) in
        subst (λ c. IsFirstFrom (digests_of links ++ new ∷ []) d 0 (option_map (λ c'. c'.first) c)) (sym chain) first

    lasts_of : (d : List ℕ) (c : Chain) (b : Bool) → bytes_eq new d ≡ b → after d ≡ Some c → IsLast (digests_of links ++ new ∷ []) d c.last
    lasts_of d c true e found =
        let same : new ≡ d = (bytes_eq-Decides new d).0 e in
        let chain : after d ≡ Some (chain_with (chain_of new) (length links)) =
        updated d ∙ ap (λ b. cond b (Some (chain_with (chain_of new) (length links))) (chain_of d)) e in
        let it : chain_with (chain_of new) (length links) ≡ c = cc in
        let last = subst (λ d'. IsLast (digests_of links ++ new ∷ []) d' (chain_with (chain_of new) (length links)).last) same (last_by (chain_of new)) in
        subst (λ c'. IsLast (digests_of links ++ new ∷ []) d c'.last) it last
    lasts_of d c false e found =
        let chain : after d ≡ chain_of d = updated d ∙ ap (λ b. cond b (Some (chain_with (chain_of new) (length links))) (chain_of d)) e in
        last_grows (digests_of links) d new c.last (chained.lasts d c (sym chain ∙ found))
        (λ same. absurd (true≢false (sym ((bytes_eq-Decides new d).1 (sym same)) ∙ e)))

    pub chained_push : IsChained after (linked links (chain_of new) new)
    chained_push = record {
      firsts = λ d. subst (λ ds. IsFirstFrom ds d 0 (option_map (λ c. c.first) (after d))) (sym digests_linked) (firsts_of d (bytes_eq new d) refl);
      lasts = λ d c found. subst (λ ds. IsLast ds d c.last) (sym digests_linked) (lasts_of d c (bytes_eq new d) refl found);
      nexts = λ k l at. subst (λ ds. IsFirstFrom ds l.digest (k + 1) l.next) (sym digests_linked) (nexts_by (chain_of new) refl k l at);
    }

-- a map with the same entries has the same chains
pub chained_same : {S : Type 0} (m n : HashMap (List ℕ) Chain S) (links after : List Link)
    → n.entries ≡ m.entries
    → after ≡ links
    → IsChained (get bytes_eq m) links
    → IsChained (get bytes_eq n) after
chained_same m n links after entries same chained =
    let lookups : get bytes_eq m ≡ get bytes_eq n = λ i d. lookup (bytes_eq d) (sym entries i) in
    subst (λ ls. IsChained (get bytes_eq n) ls) (sym same) (subst (λ f. IsChained f links) lookups chained)

-- the last of the new value's chain is a link
pub last_stands : (chain_of : List ℕ → Option Chain) (links : List Link) (new : List ℕ) (o : Option Chain)
    → IsChained chain_of links
    → o ≡ chain_of new
    → IfSome o (λ c. c.last < length links)
last_stands chain_of links new None chained e = tt
last_stands chain_of links new (Some c) chained e =
    let within = slice_get_within (digests_of links) c.last new (chained.lasts new c (sym e)).0 in
    let len = length-map links (λ l. l.digest) in
    omega (arith, within, len)

-- one more link, as the code makes it
pub chained_put : (chain_of after : List ℕ → Option Chain) (links reserved put : List Link) (new : List ℕ)
    (o : Option Chain) (n : ℕ) (v : Chain)
    → IsChained chain_of links
    → reserved ≡ links
    → o ≡ chain_of new
    → n ≡ length reserved
    → v ≡ chain_with o n
    → put ≡ linked reserved o new
    → ((d : List ℕ) → after d ≡ cond (bytes_eq new d) (Some v) (chain_of d)) → IsChained after put × (digests_of put ≡ digests_of links ++ new ∷ [])
chained_put chain_of after links reserved put new o n v chained same chain number value items updated =
    let whole : put ≡ linked links (chain_of new) new = items ∙ (λ i. linked (same i) (chain i) new) in
    let at_end : v ≡ chain_with (chain_of new) (length links) = value ∙ (λ i. chain_with (chain i) ((number ∙ ap length same) i)) in
    let all = chained_push chain_of links chained new after (λ d. updated d ∙ ap (λ v'. cond (bytes_eq new d) (Some v') (chain_of d)) at_end) in
    (subst (IsChained after) (sym whole) all, ap digests_of whole ∙ digests_linked chain_of links chained new)
