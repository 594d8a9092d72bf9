-- Where a replay has met no coincidence, it is the plain run, and its ladder has no clash.
use Rattle.std.proofs.Common.{◌≡◌, refl, sym, ap, ◌∙◌, ℕ, List, [], ◌∷◌, Option, Some, None}
use Rattle.lte_events.specs.declared.events.Event.{Event}
use Rattle.lte_machine.specs.{Opening.Opening, Opening.Outcome, Ladder.Clash, Ladder.ladder_of, Tuples.Coincidence, Tuples.Rows}
use Rattle.lte_machine.specs.World.{Machine, World, Line, happens}
use Rattle.lte_machine.specs.Step.{by_ladder, by_coincidence, opening_coincidence, attempted}
use Rattle.lte_machine.specs.Run.{Running, Stopped, after, turn, replay}
use Rattle.lte_machine.proofs.Mixed.{run}

pub still_one : {K C S : Type 0} {u v : World K C S} → Running u ≡ Running v → u ≡ v
still_one e = cc

module _ {K C S : Type 0} (by_octets : Opening K → List ℕ → Outcome) (m : Machine K C S) where
  -- a run that is over stays so
  pub over_stays : (coincidence : Coincidence K) (es : List Event) → replay by_octets m (Stopped coincidence) es ≡ Stopped coincidence
  over_stays coincidence [] = refl
  over_stays coincidence (e ∷ es) = over_stays coincidence es

  over_or_still : (coincidence : Coincidence K) (es : List Event) (u : World K C S) → replay by_octets m (Stopped coincidence) es ≡ Running u → ⊥
  over_or_still coincidence es u e = let bad : Stopped coincidence ≡ Running u = sym (over_stays coincidence es) ∙ e in cc

  -- the ladder of a world has no clash
  abbrev pub Calm : World K C S → Type 0
  Calm w = (ladder_of m.reading.same w.history).clash ≡ None

  -- a step that the run goes on after, with no clash
  abbrev GoesOn : World K C S × Line K → List Event → World K C S → Type 0
  GoesOn h es u = Calm h.0 × (replay by_octets m (Running h.0) es ≡ Running u)

  by_clash : (h : World K C S × Line K) (o : Option (Clash K)) → (ladder_of m.reading.same h.0.history).clash ≡ o → (es : List Event) (u : World K C S)
      → replay by_octets m (after (by_ladder o h)) es ≡ Running u → GoesOn h es u
  by_clash h None is es u e = (is, e)
  by_clash h (Some clash) is es u e = absurd (over_or_still (Rows clash) es u e)

  by_tuples : (h : World K C S × Line K) (o : Option (Coincidence K)) (es : List Event) (u : World K C S)
      → replay by_octets m (after (by_coincidence m.reading.same o h)) es ≡ Running u → GoesOn h es u
  by_tuples h None es u e = by_clash h (ladder_of m.reading.same h.0.history).clash refl es u e
  by_tuples h (Some coincidence) es u e = absurd (over_or_still coincidence es u e)

  -- the first event of a run that meets no coincidence
  pub goes_on : (w : World K C S) (e : Event) (es : List Event) (u : World K C S)
      → replay by_octets m (Running w) (e ∷ es) ≡ Running u
      → GoesOn (happens m w e) es u
  goes_on w e es u is = by_tuples (happens m w e) (opening_coincidence by_octets m (attempted m w e)) es u is

  -- and the world after that event
  after_clash : (h : World K C S × Line K) (o : Option (Clash K)) (es : List Event) (u : World K C S)
      → replay by_octets m (after (by_ladder o h)) es ≡ Running u
      → after (by_ladder o h) ≡ Running h.0
  after_clash h None es u e = refl
  after_clash h (Some clash) es u e = absurd (over_or_still (Rows clash) es u e)

  after_coincidence : (h : World K C S × Line K) (o : Option (Coincidence K)) (es : List Event) (u : World K C S)
      → replay by_octets m (after (by_coincidence m.reading.same o h)) es ≡ Running u
      → after (by_coincidence m.reading.same o h) ≡ Running h.0
  after_coincidence h None es u e = after_clash h (ladder_of m.reading.same h.0.history).clash es u e
  after_coincidence h (Some coincidence) es u e = absurd (over_or_still coincidence es u e)

  pub turns_to : (w : World K C S) (e : Event) (es : List Event) (u : World K C S)
      → replay by_octets m (Running w) (e ∷ es) ≡ Running u
      → turn by_octets m (Running w) e ≡ Running (happens m w e).0
  turns_to w e es u is = after_coincidence (happens m w e) (opening_coincidence by_octets m (attempted m w e)) es u is

  -- such a run is the plain one
  pub still_is_run : (w : World K C S) (es : List Event) (u : World K C S) → replay by_octets m (Running w) es ≡ Running u → u ≡ run m w es
  still_is_run w [] u is = sym (still_one is)
  still_is_run w (e ∷ es) u is = still_is_run (happens m w e).0 es u (goes_on w e es u is).1

  -- and its ladder has no clash
  pub still_calm : (w : World K C S) (es : List Event) (u : World K C S) → Calm w → replay by_octets m (Running w) es ≡ Running u → Calm u
  still_calm w [] u calm is = ap (λ x. (ladder_of m.reading.same x.history).clash) (sym (still_one is)) ∙ calm
  still_calm w (e ∷ es) u calm is = let g = goes_on w e es u is in still_calm (happens m w e).0 es u g.0 g.1
