-- A history in one reading is one in another, by the same moves.
use Rattle.std.proofs.Common.{◌≡◌, ℕ, Bool, Option, None, Some, List, map, refl, sym, ap, ◌∙◌}
use Rattle.key_model.specs.Reading.{Reading, Carries}
use Rattle.trace_rules.specs.{Rules.Done, Rules.is_unseen, History.History, History.ends, History.unseen, History.shown}
use Rattle.trace_keys.specs.declared.moves.Move.{Move}
use Rattle.trace_keys.specs.{Net.Net, Net.Sight, Moved.moved}
use Rattle.trace_terms.specs.Carried.{map_net, map_done, with_values, valued}
use Rattle.trace_terms.proofs.Carry.{moved_map}

abbrev done_of : {N S : Type 0} (fallback : Done N S) → Option (Done N S) → Done N S
done_of fallback None = fallback
done_of fallback (Some done) = done

pub same_done : {N S : Type 0} (a b : Done N S) → Some a ≡ Some b → a ≡ b
same_done a b e = ap (done_of a) e

clash : {X P : Type 0} (x : X) → None ≡ Some x → P
clash x e = let no : ⊥ = cc in absurd no

module _ {K C L D : Type 0} (r : Reading K C) (q : Reading L D) (f : K → L) (g : C → D) (c : Carries r q f g) (kasmes : List K) (fits : Sight L → Sight L → Bool) (covers : Sight L → Bool) (bound : ℕ) where
  abbrev Here : ℕ → Net K C → List Move → List (Sight L) → Type 0
  Here = History (valued r f kasmes) fits covers bound

  abbrev There : ℕ → Net L D → List Move → List (Sight L) → Type 0
  There = History (moved q (map f kasmes)) fits covers bound

  -- the net alone is read in another way
  abbrev lifted : Option (Done (Net K C) (Sight L)) → Option (Done (Net L D) (Sight L))
  lifted None = None
  lifted (Some done) = Some (record { net = map_net f g done.net; sent = done.sent })

  lifted_is : (o : Option (Done (Net K C) (Sight K))) → map_done f g o ≡ lifted (with_values f o)
  lifted_is None = refl
  lifted_is (Some done) = refl

  step_there : (net : Net K C) (move : Move) → moved q (map f kasmes) (map_net f g net) move ≡ lifted (valued r f kasmes net move)
  step_there net move = sym (moved_map r q f g c kasmes net move) ∙ lifted_is (moved r kasmes net move)

  pub to_there : (left : ℕ) (net : Net K C) (moves : List Move) (capture : List (Sight L)) → Here left net moves capture → There left (map_net f g net) moves capture
  to_there left net moves capture (ends) = ends
  to_there left net moves capture (unseen {left = l} {end = end} {moves = ms} move done hid rest) =
      unseen move (step_there net move ∙ ap lifted done) hid (to_there l end ms capture rest)
  to_there left net moves capture (shown {end = end} {moves = ms} {capture = seen} move done fit cov rest) =
      shown move (step_there net move ∙ ap lifted done) fit cov (to_there bound end ms seen rest)

  -- a step there is one here
  pub record Step (net : Net K C) (move : Move) (there : Done (Net L D) (Sight L)) : Type 0 where
    pub here : Done (Net K C) (Sight L)
    pub done : valued r f kasmes net move ≡ Some here
    pub is : record { net = map_net f g here.net; sent = here.sent } ≡ there

  step_from : (net : Net K C) (move : Move) (there : Done (Net L D) (Sight L)) (o : Option (Done (Net K C) (Sight L)))
      → valued r f kasmes net move ≡ o
      → lifted o ≡ Some there
      → Step net move there
  step_from net move there None e h = clash there h
  step_from net move there (Some here) e h =
      record { here = here; done = e; is = same_done (record { net = map_net f g here.net; sent = here.sent }) there h }

  step_here : (net : Net K C) (move : Move) (there : Done (Net L D) (Sight L)) → moved q (map f kasmes) (map_net f g net) move ≡ Some there → Step net move there
  step_here net move there h = step_from net move there (valued r f kasmes net move) refl (sym (step_there net move) ∙ h)

  pub to_here : (left : ℕ) (other : Net L D) (net : Net K C) (moves : List Move) (capture : List (Sight L))
      → map_net f g net ≡ other
      → There left other moves capture
      → Here left net moves capture
  to_here left other net moves capture same (ends) = ends
  to_here left other net moves capture same (unseen {left = l} {end = end} {sent = sent} {moves = ms} move done hid rest) =
      let step = step_here net move (record { net = end; sent = sent }) (ap (λ n. moved q (map f kasmes) n move) same ∙ done) in
      let sent_is : step.here.sent ≡ sent = ap (λ d. d.sent) step.is in
      unseen move step.done (ap (is_unseen covers) sent_is ∙ hid) (to_here l end step.here.net ms capture (ap (λ d. d.net) step.is) rest)
  to_here left other net moves capture same (shown {end = end} {sent = sent} {moves = ms} {capture = seen} move done fit cov rest) =
      let step = step_here net move (record { net = end; sent = Some sent }) (ap (λ n. moved q (map f kasmes) n move) same ∙ done) in
      let sent_is : step.here.sent ≡ Some sent = ap (λ d. d.sent) step.is in
      shown move (step.done ∙ (λ k. Some (record { net = step.here.net; sent = sent_is k }))) fit cov
      (to_here bound end step.here.net ms seen (ap (λ d. d.net) step.is) rest)
