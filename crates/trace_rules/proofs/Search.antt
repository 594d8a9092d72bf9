-- The search is exact.
use Rattle.std.proofs.Common.{◌≡◌, ℕ, zero, suc, Bool, true, false, Option, None, Some, List, [], ◌∷◌, inl, inr, refl, sym, ap, subst, ◌∙◌}
use Rattle.std.specs.Prelude.{flat_map, ◌&&◌}
use Rattle.trace_rules.specs.Rules.{Done, is_unseen, IsIn, AreIn}
use Rattle.trace_rules.specs.History.{History, ends, unseen, shown}
use Rattle.trace_rules.specs.Search.{if_unseen, if_sent, if_shown, hidden_from, shown_from, widened, possible}
use Rattle.trace_rules.proofs.Members.{Sub, in_left, in_right, in_either, in_if, if_in, in_flat_map, from_flat_map, flat_map_sub}

both : (a b : Bool) → a ≡ true → b ≡ true → (a && b) ≡ true
both true b e f = f
both false b e f = e

parts : (a b : Bool) → (a && b) ≡ true → (a ≡ true) × (b ≡ true)
parts true b e = (refl, e)
parts false b e = (e, absurd (clash e))
  where
    clash : false ≡ true → ⊥
    clash h = cc

module _ {N M S : Type 0} (moved : N → M → Option (Done N S)) (fits : S → S → Bool) (covers : S → Bool) (family : List M) (bound : ℕ) where
  abbrev Hid : N → List N
  Hid = hidden_from moved covers family

  abbrev Sho : S → N → List N
  Sho = shown_from moved fits covers family

  abbrev Wide : ℕ → List N → List N
  Wide = widened moved covers family

  abbrev Pos : List N → List S → List N
  Pos = possible moved fits covers family bound

  in_widened : (k : ℕ) (nets : List N) → Sub nets (Wide k nets)
  in_widened zero nets z i = i
  in_widened (suc k) nets z i = in_left z nets (Wide k (flat_map Hid nets)) i

  widened_sub : (k : ℕ) (xs ys : List N) → Sub xs ys → Sub (Wide k xs) (Wide k ys)
  widened_sub zero xs ys h z i = h z i
  widened_sub (suc k) xs ys h z i =
      elim (in_either z xs (Wide k (flat_map Hid xs)) i) [
        | inl a ↦ in_left z ys (Wide k (flat_map Hid ys)) (h z a)
        | inr b ↦ in_right z ys (Wide k (flat_map Hid ys)) (widened_sub k (flat_map Hid xs) (flat_map Hid ys) (flat_map_sub Hid xs ys h) z b)
      ]

  possible_sub : (capture : List S) (xs ys : List N) → Sub xs ys → Sub (Pos xs capture) (Pos ys capture)
  possible_sub [] xs ys h z i = h z i
  possible_sub (x ∷ capture) xs ys h z i =
      possible_sub capture (flat_map (Sho x) (Wide bound xs)) (flat_map (Sho x) (Wide bound ys))
      (flat_map_sub (Sho x) (Wide bound xs) (Wide bound ys) (widened_sub bound xs ys h)) z i

  -- with so many unseen moves left before the next sighting
  abbrev Behind : ℕ → List N → List S → List N
  Behind left nets [] = nets
  Behind left nets (x ∷ capture) = Pos (flat_map (Sho x) (Wide left nets)) capture

  to_possible : (nets : List N) (capture : List S) (z : N) → IsIn z (Behind bound nets capture) → IsIn z (Pos nets capture)
  to_possible nets [] z i = i
  to_possible nets (x ∷ capture) z i = i

  behind_more : (left : ℕ) (nets : List N) (capture : List S) (net z : N) → IsIn net nets → IsIn z (Behind left (flat_map Hid nets) capture) → (w : N) × IsIn w (Behind (suc left) nets capture)
  behind_more left nets [] net z here i = (net, here)
  behind_more left nets (x ∷ capture) net z here i = (
    z,
    possible_sub capture (flat_map (Sho x) (Wide left (flat_map Hid nets))) (flat_map (Sho x) (Wide (suc left) nets))
        (flat_map_sub (Sho x) (Wide left (flat_map Hid nets)) (Wide (suc left) nets) (λ y j. in_right y nets (Wide left (flat_map Hid nets)) j)) z i,
  )

  hidden_in : (net end : N) (sent : Option S) (move : M) → IsIn move family → moved net move ≡ Some (record { net = end; sent = sent }) → is_unseen covers sent ≡ true → IsIn end (Hid net)
  hidden_in net end sent move i done hid =
      in_flat_map (λ m. if_unseen covers (moved net m)) move family end i
      (subst (λ o. IsIn end (if_unseen covers o)) (sym done) (if_in (is_unseen covers sent) end hid))

  shown_in : (net end : N) (sent sight : S) (move : M)
      → IsIn move family
      → moved net move ≡ Some (record { net = end; sent = Some sent })
      → fits sent sight ≡ true
      → covers sight ≡ true
      → IsIn end (Sho sight net)
  shown_in net end sent sight move i done fit cov =
      in_flat_map (λ m. if_shown fits covers sight (moved net m)) move family end i
      (subst (λ o. IsIn end (if_shown fits covers sight o)) (sym done)
      (if_in (fits sent sight && covers sight) end (both (fits sent sight) (covers sight) fit cov)))

  found : (left : ℕ) (net : N) (moves : List M) (capture : List S)
      → History moved fits covers bound left net moves capture
      → AreIn moves family
      → (nets : List N)
      → IsIn net nets
      → (z : N) × IsIn z (Behind left nets capture)
  found left net moves capture (ends) fam nets here = (net, here)
  found left net moves capture (unseen {left = l} {end = end} {sent = sent} {moves = ms} move done hid rest) fam nets here =
      let more = found l end ms capture rest fam.1 (flat_map Hid nets) (in_flat_map Hid net nets end here (hidden_in net end sent move fam.0 done hid)) in
      behind_more l nets capture net more.0 here more.1
  found left net moves capture (shown {end = end} {sent = sent} {sight = sight} {moves = ms} {capture = seen} move done fit cov rest) fam nets here =
      let more = found bound end ms seen rest fam.1 (flat_map (Sho sight) (Wide left nets))
      (in_flat_map (Sho sight) net (Wide left nets) end (in_widened left nets net here) (shown_in net end sent sight move fam.0 done fit cov)) in
      (more.0, to_possible (flat_map (Sho sight) (Wide left nets)) seen more.0 more.1)

  pub history_found : (start : N) (moves : List M) (capture : List S)
      → History moved fits covers bound bound start moves capture
      → AreIn moves family
      → (z : N) × IsIn z (Pos (start ∷ []) capture)
  history_found start moves capture h fam =
      let some = found bound start moves capture h fam (start ∷ []) (inl refl) in
      (some.0, to_possible (start ∷ []) capture some.0 some.1)

  unseen_means : (o : Option (Done N S)) (end : N) → IsIn end (if_unseen covers o) → (sent : Option S) × (o ≡ Some (record { net = end; sent = sent })) × (is_unseen covers sent ≡ true)
  unseen_means None end i = absurd i
  unseen_means (Some done) end i =
      let h = in_if (is_unseen covers done.sent) end done.net i in
      (done.sent, ap (λ n. Some (record { net = n; sent = done.sent })) h.1, h.0)

  -- what a move sent that shows this
  record Shows (sight : S) (o : Option (Done N S)) (end : N) : Type 0 where
    sent : S
    done : o ≡ Some (record { net = end; sent = Some sent })
    fit : fits sent sight ≡ true
    cov : covers sight ≡ true

  sent_means : (sight : S) (sent : Option S) (net end : N)
      → IsIn end (if_sent fits covers sight net sent)
      → (net ≡ end) × ((x : S) × (sent ≡ Some x) × (fits x sight ≡ true)) × (covers sight ≡ true)
  sent_means sight None net end i = absurd i
  sent_means sight (Some x) net end i =
      let h = in_if (fits x sight && covers sight) end net i in
      let p = parts (fits x sight) (covers sight) h.0 in
      (h.1, (x, refl, p.0), p.1)

  shown_means : (sight : S) (o : Option (Done N S)) (end : N) → IsIn end (if_shown fits covers sight o) → Shows sight o end
  shown_means sight None end i = absurd i
  shown_means sight (Some done) end i =
      let h = sent_means sight done.sent done.net end i in
      record {
        sent = h.1.0;
        done = ap (λ n. Some (record { net = n; sent = done.sent })) h.0 ∙ ap (λ s. Some (record { net = end; sent = s })) h.1.1;
        fit = h.1.2;
        cov = h.2;
      }

  -- the same moves behind hidden ones
  behind_hidden : (k : ℕ) (nets : List N) (o : N) (ms : List M) (capture : List S)
      → IsIn o (Wide k nets)
      → AreIn ms family
      → ((left : ℕ) → History moved fits covers bound left o ms capture)
      → (net : N) × IsIn net nets × ((more : List M) × AreIn more family × History moved fits covers bound k net more capture)
  behind_hidden zero nets o ms capture i fam base = (o, i, (ms, fam, base zero))
  behind_hidden (suc k) nets o ms capture i fam base =
      elim (in_either o nets (Wide k (flat_map Hid nets)) i) [
        | inl a ↦ (o, a, (ms, fam, base (suc k)))
        | inr b ↦
            let h = behind_hidden k (flat_map Hid nets) o ms capture b fam base in
            let from = from_flat_map Hid nets h.0 h.1 in
            let move = from_flat_map (λ m. if_unseen covers (moved from.0 m)) family h.0 from.2 in
            let is = unseen_means (moved from.0 move.0) h.0 move.2 in
            (from.0, from.1, (move.0 ∷ h.2.0, (move.1, h.2.1), unseen move.0 is.1 is.2 h.2.2))
      ]

  pub history_of : (capture : List S) (nets : List N) (z : N)
      → IsIn z (Pos nets capture)
      → (net : N) × IsIn net nets × ((moves : List M) × AreIn moves family × History moved fits covers bound bound net moves capture)
  history_of [] nets z i = (z, i, ([], tt, ends))
  history_of (x ∷ capture) nets z i =
      let h = history_of capture (flat_map (Sho x) (Wide bound nets)) z i in
      let from = from_flat_map (Sho x) (Wide bound nets) h.0 h.1 in
      let move = from_flat_map (λ m. if_shown fits covers x (moved from.0 m)) family h.0 from.2 in
      let is = shown_means x (moved from.0 move.0) h.0 move.2 in
      behind_hidden bound nets from.0 (move.0 ∷ h.2.0) (x ∷ capture) from.1 (move.1, h.2.1) (λ left. shown {sent = is.sent} move.0 is.done is.fit is.cov h.2.2)

  pub witness : (start : N) (capture : List S) (z : N)
      → IsIn z (Pos (start ∷ []) capture)
      → (moves : List M) × AreIn moves family × History moved fits covers bound bound start moves capture
  witness start capture z i =
      let h = history_of capture (start ∷ []) z i in
      let same_net : start ≡ h.0 = only h.0 h.1 in
      (h.2.0, h.2.1, subst (λ n. History moved fits covers bound bound n h.2.0 capture) (sym same_net) h.2.2)
    where
      only : (n : N) → IsIn n (start ∷ []) → start ≡ n
      only n (inl e) = e
      only n (inr j) = absurd j
