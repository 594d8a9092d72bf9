-- A net that may not show what comes next shows nothing, so that it need not be kept.
use Rattle.std.proofs.Common.{◌≡◌, ℕ, suc, Bool, true, false, Option, None, Some, List, [], ◌∷◌, ◌++◌, length, drop, flat_map, inl, inr, refl, sym, ap, subst, ◌∙◌}
use Rattle.std.specs.Prelude.{◌&&◌, nat_eq, if◌then◌else◌}
use Rattle.std.proofs.{Math.Seq.take-append_seam, Math.Seq.take-length, lemmas.Bool.Decides.Decides-eqb}
use Rattle.key_model.specs.{Reading.octet_reading, HandoverTable.NumberedKey}
use Rattle.trace_rules.specs.{Rules.Done, Rules.IsIn, Rules.is_unseen, Closed.IsFull}
use Rattle.trace_rules.specs.Search.{if_unseen, if_sent, if_shown, hidden_from, shown_from, widened}
use Rattle.trace_rules.proofs.Members.{Sub, Agree, in_left, in_right, in_either, in_if, if_in, in_flat_map, from_flat_map, flat_map_sub}
use Rattle.trace_rules.proofs.Widening.{Known, known_more, known_full}
use Rattle.trace_keys.specs.declared.{moves.Where.Where, moves.Move.Move, outlook.Outlook.Outlook}
use Rattle.trace_keys.specs.{Net.Net, Net.Sight, Moved.moved, Outlook.outlook_by, Outlook.may_go, Outlook.ncc_at, Outlook.fits_ncc, Outlook.may_show}
use Rattle.trace_keys.proofs.{OneNet.clash, OneNet.parts, OneNet.num, Outlooks.Looks, Outlooks.HasNcc, Outlooks.IsTold, Outlooks.Tells, Outlooks.tells}
use Rattle.trace_plain.specs.{Once.once_from, Kept.if_leading, Kept.leading_from}
use Rattle.trace_plain.specs.Sights.{same_where, fits_pair, fits, is_covered, leads}
use Rattle.trace_plain.proofs.{Dark.one_where, Once.once_agree}

both : (a b : Bool) → a ≡ true → b ≡ true → (a && b) ≡ true
both true b e f = f
both false b e f = e

-- what fits what is told has the NCC that is told
fits_told : (ncc : ℕ) (sent seen : Option (NumberedKey (List ℕ) ℕ)) → HasNcc ncc sent → fits_pair sent seen ≡ true → fits_ncc ncc seen ≡ true
fits_told ncc sent None has e = refl
fits_told ncc None (Some seen) has e = clash e
fits_told ncc (Some sent) (Some seen) has e =
    let p = parts (nat_eq sent.number seen.number) _ e in
    (Decides-eqb ncc seen.number).1 (has ∙ num sent.number seen.number p.0)

may_be : (o : Option Outlook) (sent sight : Sight (List ℕ)) → IsTold o (Some sent) → fits sent sight ≡ true → may_show o sight ≡ true
may_be o sent sight told e =
    let p = parts (same_where sent.at sight.at) (fits_pair sent.pair sight.pair) e in
    let at = one_where sent.at sight.at p.0 in
    both (may_go o sight.at) (fits_ncc (ncc_at o sight.at) sight.pair)
    (subst (λ w. may_go o w ≡ true) at told.0)
    (subst (λ w. fits_ncc (ncc_at o w) sight.pair ≡ true) at (fits_told (ncc_at o sent.at) sent.pair sight.pair told.1 p.1))

unsent : (covered : List Where) (sight : Sight (List ℕ)) (o : Option Outlook) (z net : Net (List ℕ) ℕ) (sent : Option (Sight (List ℕ)))
    → IsTold o sent
    → IsIn z (if_sent fits (is_covered covered) sight net sent)
    → may_show o sight ≡ true
unsent covered sight o z net None told i = absurd i
unsent covered sight o z net (Some sent) told i =
    let h = in_if (fits sent sight && is_covered covered sight) z net i in
    may_be o sent sight told (parts (fits sent sight) (is_covered covered sight) h.0).0

unshown : (covered : List Where) (sight : Sight (List ℕ)) (o : Option Outlook) (z : Net (List ℕ) ℕ) (done : Option (Done (Net (List ℕ) ℕ) (Sight (List ℕ))))
    → Tells o done
    → IsIn z (if_shown fits (is_covered covered) sight done)
    → may_show o sight ≡ true
unshown covered sight o z None told i = absurd i
unshown covered sight o z (Some done) told i = unsent covered sight o z done.net done.sent told i

-- a net that shows this may show it
pub may_indeed : (kasmes : List (List ℕ)) (covered : List Where) (family : List Move) (sight : Sight (List ℕ)) (net z : Net (List ℕ) ℕ)
    → IsIn z (shown_from (moved octet_reading kasmes) fits (is_covered covered) family sight net)
    → leads sight net ≡ true
may_indeed kasmes covered family sight net z i =
    let from = from_flat_map (λ move. if_shown fits (is_covered covered) sight (moved octet_reading kasmes net move)) family z i in
    unshown covered sight (outlook_by net.serving) z (moved octet_reading kasmes net from.0) (tells kasmes net from.0) from.2

-- a move is tried by the outlook behind it
and_true : (a b : Bool) → b ≡ true → (a && b) ≡ a
and_true true b e = e
and_true false b e = refl

and_false : (a b : Bool) → b ≡ false → (a && b) ≡ false
and_false true b e = e
and_false false b e = refl

pub leads_on : (covered : List Where) (sight : Sight (List ℕ)) (o : Option Outlook) (done : Option (Done (Net (List ℕ) ℕ) (Sight (List ℕ))))
    → Looks done o
    → may_show o sight ≡ true
    → if_leading (leads sight) (is_covered covered) done ≡ if_unseen (is_covered covered) done
leads_on covered sight o None is e = refl
leads_on covered sight o (Some done) is e =
    ap (λ b. if b then done.net ∷ [] else [])
    (and_true (is_unseen (is_covered covered) done.sent) (leads sight done.net) (ap (λ x. may_show x sight) is ∙ e))

pub leads_nowhere : (covered : List Where) (sight : Sight (List ℕ)) (o : Option Outlook) (done : Option (Done (Net (List ℕ) ℕ) (Sight (List ℕ))))
    → Looks done o
    → may_show o sight ≡ false
    → if_leading (leads sight) (is_covered covered) done ≡ []
leads_nowhere covered sight o None is e = refl
leads_nowhere covered sight o (Some done) is e =
    ap (λ b. if b then done.net ∷ [] else [])
    (and_false (is_unseen (is_covered covered) done.sent) (leads sight done.net) (ap (λ x. may_show x sight) is ∙ e))

pub none_leading : (covered : List Where) (may : Net (List ℕ) ℕ → Bool) (done : Option (Done (Net (List ℕ) ℕ) (Sight (List ℕ))))
    → if_unseen (is_covered covered) done ≡ []
    → if_leading may (is_covered covered) done ≡ []
none_leading covered may None e = refl
none_leading covered may (Some done) e = by_test (is_unseen (is_covered covered) done.sent) e
  where
    by_test : (b : Bool) → (if b then done.net ∷ [] else []) ≡ [] → (if b && may done.net then done.net ∷ [] else []) ≡ []
    by_test true h = absurd (subst (IsIn done.net) h (inl refl))
    by_test false h = refl

module _ {N M S : Type 0} (moved : N → M → Option (Done N S)) (fits : S → S → Bool) (covers : S → Bool) (family : List M) (may : N → Bool) where
  leading_hidden : (net z : N) → IsIn z (leading_from moved covers family may net) → IsIn z (hidden_from moved covers family net)
  leading_hidden net z i =
      let from = from_flat_map (λ move. if_leading may covers (moved net move)) family z i in
      in_flat_map (λ move. if_unseen covers (moved net move)) from.0 family z from.1 (one (moved net from.0) from.2)
    where
      one : (o : Option (Done N S)) → IsIn z (if_leading may covers o) → IsIn z (if_unseen covers o)
      one None j = absurd j
      one (Some done) j =
          let h = in_if (is_unseen covers done.sent && may done.net) z done.net j in
          subst (λ w. IsIn w (if_unseen covers (Some done))) h.1
          (if_in (is_unseen covers done.sent) done.net (parts (is_unseen covers done.sent) (may done.net) h.0).0)

  hidden_leading : (net z : N) → may z ≡ true → IsIn z (hidden_from moved covers family net) → IsIn z (leading_from moved covers family may net)
  hidden_leading net z m i =
      let from = from_flat_map (λ move. if_unseen covers (moved net move)) family z i in
      in_flat_map (λ move. if_leading may covers (moved net move)) from.0 family z from.1 (one (moved net from.0) from.2)
    where
      one : (o : Option (Done N S)) → IsIn z (if_unseen covers o) → IsIn z (if_leading may covers o)
      one None j = absurd j
      one (Some done) j =
          let h = in_if (is_unseen covers done.sent) z done.net j in
          subst (λ w. IsIn w (if_leading may covers (Some done))) h.1
          (if_in (is_unseen covers done.sent && may done.net) done.net
          (both (is_unseen covers done.sent) (may done.net) h.0 (subst (λ w. may w ≡ true) (sym h.1) m)))

  -- what the nets show that are kept is what all show
  pub led_agree : (alike : N → N → Bool) (exact : (x y : N) → alike x y ≡ true → x ≡ y) (sight : S) (k : ℕ) (nets all : List N) (begun : ℕ) (new : List N)
      → ((net z : N) → IsIn z (shown_from moved fits covers family sight net) → may net ≡ true)
      → Known moved fits covers family k nets all begun
      → new ≡ once_from alike all (flat_map (leading_from moved covers family may) (drop begun all))
      → Agree (flat_map (shown_from moved fits covers family sight) new) (flat_map (shown_from moved fits covers family sight) (widened moved covers family (suc k) nets))
  led_agree alike exact sight k nets all begun new shows known is =
      let more = flat_map (hidden_from moved covers family) (drop begun all) in
      let some = flat_map (leading_from moved covers family may) (drop begun all) in
      let whole = (known_more moved fits covers family k nets all begun (all ++ more) known ((λ z i. i), (λ z i. i)) (take-append_seam all more)).agree in
      let once = once_agree alike exact all some in
      let below : Sub new (all ++ more) = λ z i. elim (in_either z all some (once.0 z (subst (IsIn z) is i))) [
        | inl a ↦ in_left z all more a
        | inr b ↦
            let from = from_flat_map (leading_from moved covers family may) (drop begun all) z b in
            in_right z all more (in_flat_map (hidden_from moved covers family) from.0 (drop begun all) z from.1 (leading_hidden from.0 z from.2))
      ] in
      let above : (z : N) → may z ≡ true → IsIn z (all ++ more) → IsIn z new = λ z m i. subst (IsIn z) (sym is) (once.1 z (elim (in_either z all more i) [
        | inl a ↦ in_left z all some a
        | inr b ↦
            let from = from_flat_map (hidden_from moved covers family) (drop begun all) z b in
            in_right z all some (in_flat_map (leading_from moved covers family may) from.0 (drop begun all) z from.1 (hidden_leading from.0 z m from.2))
      ])) in
      let show = shown_from moved fits covers family sight in (
        (λ y i. flat_map_sub show new (widened moved covers family (suc k) nets) (λ z j. whole.0 z (below z j)) y i),
        (λ y i.
            let from = from_flat_map show (widened moved covers family (suc k) nets) y i in
            in_flat_map show from.0 new y (above from.0 (shows from.0 y from.2) (whole.1 from.0 from.1)) from.2),
      )

  -- where one unseen move more gives no other net
  pub led_full : (k : ℕ) (nets all : List N) (begun : ℕ)
      → Known moved fits covers family k nets all begun
      → Sub (flat_map (hidden_from moved covers family) (drop begun all)) all
      → IsFull moved covers family (widened moved covers family (suc k) nets)
  led_full k nets all begun known there =
      let more = flat_map (hidden_from moved covers family) (drop begun all) in
      let next =
      known_more moved fits covers family k nets all begun all known
      ((λ z i. in_left z all more i), (λ z i. elim (in_either z all more i) [ inl a ↦ a | inr b ↦ there z b ])) (take-length all) in
      known_full moved fits covers family (suc k) nets all (length all) next (take-length all)
