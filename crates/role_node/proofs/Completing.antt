-- A session over an input that has good frames and no more.
use Rattle.std.proofs.Common.{◌≡◌, ◌≢◌, ℕ, Bool, true, false, Option, Some, None, List, [], ◌∷◌, ◌++◌, length, Result, Ok, Err, refl, sym, ap, ◌∙◌, subst, append_assoc, append-nil, arith, length-append}
use Rattle.std.proofs.lemmas.List.{append_cancel_left}
use Rattle.std.specs.Io.KnownBytes.{IsAtEnd}
use Rattle.edge_io.specs.{Told.Told, Octets.Gives, Octets.Grows, declared.peers.Role.Role}
use Rattle.role_wire.specs.{declared.frames.FrameIn.FrameIn, declared.frames.FrameFault.FrameFault, Ranges.IsFrame}
use Rattle.role_wire.specs.declared.frames.FrameFault.TheVariants as faults
use Rattle.role_wire.specs.Frame.{frame_spelling, frame_at, IsTaken, FrameRead}
use Rattle.role_wire.proofs.{FrameLaws.exact, Sizes.frame_size, Sizes.spelled_again}
use Rattle.role_node.specs.{declared.serving.ServeEnd.ServeEnd, Actor.replies}
use Rattle.role_node.specs.declared.serving.ServeEnd.TheVariants.{Done, BadFrame, ReadFault, WriteFault}
use Rattle.role_node.specs.Session.{AreFrames, spelled, opens, IsBad, Session, SessionIsComplete}

-- what a read of a frame answers
abbrev refused : FrameFault → Result FrameIn FrameFault
refused fault = Err fault

abbrev found : FrameIn → Result FrameIn FrameFault
found frame = Ok frame

-- whether a frame behind these is still a first one
abbrev still : Bool → List FrameIn → Bool
still first [] = first
still first (f ∷ fs) = false

still_later : (frames : List FrameIn) → still false frames ≡ false
still_later [] = refl
still_later (f ∷ fs) = refl

still_opens : (frames : List FrameIn) → still true frames ≡ opens frames
still_opens [] = refl
still_opens (f ∷ fs) = refl

-- good frames, whose octets others begin with, are the first of those
record Behind (role : Role) (first : Bool) (read given : List FrameIn) (rest : List ℕ) : Type 0 where
  more : List FrameIn
  is : given ≡ read ++ more
  octets : rest ≡ spelled more
  good : AreFrames role (still first read) more

-- a good frame has octets
some_octets : (role : Role) (first : Bool) (frame : FrameIn) (frames : List FrameIn) (rest : List ℕ)
    → IsFrame role first frame
    → spelled (frame ∷ frames) ++ rest ≡ []
    → ⊥
some_octets role first frame frames rest good none =
    let size = frame_size role first frame good in
    let all = length-append (spelled (frame ∷ frames)) rest in
    let both = length-append (frame_spelling frame) (spelled frames) in
    let zero : length (spelled (frame ∷ frames) ++ rest) ≡ 0 = ap length none in
    omega (arith, size.0, all, both, zero)

behind : (role : Role) (first : Bool) (read given : List FrameIn) (rest : List ℕ) → AreFrames role first read → AreFrames role first given
    → spelled read ++ rest ≡ spelled given → Behind role first read given rest
behind role first [] given rest good other same = record { more = given; is = refl; octets = same; good = other }
behind role first (f ∷ fs) [] rest good other same = absurd (some_octets role first f fs rest good.0 same)
behind role first (f ∷ fs) (g ∷ gs) rest good other same =
    let whole : frame_spelling f ++ (spelled fs ++ rest) ≡ frame_spelling g ++ spelled gs = sym (append_assoc (frame_spelling f) (spelled fs) rest) ∙ same in
    let one : found f ≡ Ok g =
    sym (spelled_again role first f (spelled fs ++ rest) good.0)
    ∙ ap (λ (octets : List ℕ). frame_at role first octets) whole
    ∙ spelled_again role first g (spelled gs) other.0 in
    let is : f ≡ g = cc in
    let tail : spelled fs ++ rest ≡ spelled gs =
    append_cancel_left (frame_spelling f) (spelled fs ++ rest) (spelled gs) (whole ∙ ap (λ (x : FrameIn). frame_spelling x ++ spelled gs) (sym is)) in
    let on = behind role false fs gs rest good.1 other.1 tail in
    record {
      more = on.more;
      is = (λ j. sym is j ∷ on.is j);
      octets = on.octets;
      good = subst (λ (b : Bool). AreFrames role b on.more) (still_later fs) on.good;
    }

-- the octets of good frames begin with no bad frame
none_bad : (role : Role) (first : Bool) (more : List FrameIn) (fault : FrameFault)
    → AreFrames role first more
    → refused fault ≡ frame_at role first (spelled more)
    → IsBad fault
    → ⊥
unfolding frame_at
none_bad role first [] fault good is bad =
    let ended : refused fault ≡ Err faults.Ended = is in
    let same : fault ≡ faults.Ended = cc in
    subst (λ (f : FrameFault). IsBad f) same bad
none_bad role first (f ∷ fs) fault good is bad =
    let clash : refused fault ≡ Ok f = is ∙ spelled_again role first f (spelled fs) good.0 in
    cc

no_read_fault : (fault : FrameFault) → IsBad fault → refused fault ≢ Err faults.ReadFault
no_read_fault fault bad is =
    let same : fault ≡ faults.ReadFault = cc in
    subst (λ (f : FrameFault). IsBad f) same bad

-- the octets left behind those that were taken
record Left (new : Option (List ℕ)) (octets taken : List ℕ) : Type 0 where
  rest : List ℕ
  left : new ≡ Some rest
  is : octets ≡ taken ++ rest

abbrev known : List ℕ → Option (List ℕ)
known octets = Some octets

abbrev unknown : Option (List ℕ)
unknown = None

left_of : (old new : Option (List ℕ)) (octets taken : List ℕ) → old ≡ Some octets → Gives old new taken → Left new octets taken
left_of old None octets taken told gives =
    let clash : known octets ≡ unknown = sym told ∙ gives in absurd cc
left_of old (Some rest) octets taken told gives =
    let same : known octets ≡ known (taken ++ rest) = sym told ∙ gives in record { rest = rest; left = refl; is = cc }

-- the frames that were read, and what stands behind them
split : (role : Role) (read given : List FrameIn) (rest : List ℕ) (old new : Option (List ℕ)) → AreFrames role true read → AreFrames role true given
    → old ≡ Some (spelled given)
    → Gives old new (spelled read ++ rest)
    → (l : Left new (spelled given) (spelled read ++ rest)) × Behind role true read given (rest ++ l.rest)
split role read given rest old new good other told gives =
    let l : Left new (spelled given) (spelled read ++ rest) = left_of old new (spelled given) (spelled read ++ rest) told gives in
    (l, behind role true read given (rest ++ l.rest) good other (sym (append_assoc (spelled read) rest l.rest) ∙ sym l.is))

-- frames without octets are none
no_frames : (role : Role) (first : Bool) (more : List FrameIn) → AreFrames role first more → spelled more ≡ [] → more ≡ []
no_frames role first [] good none = refl
no_frames role first (f ∷ fs) good none = absurd (some_octets role first f fs [] good.0 (append-nil (spelled (f ∷ fs)) ∙ none))

-- where nothing stands behind the frames that were read, they are all
all_read : (role : Role) (read given : List FrameIn) (rest : List ℕ) → Behind role true read given rest → rest ≡ [] → given ≡ read
all_read role read given rest b none =
    let last : b.more ≡ [] = no_frames role (still true read) b.more b.good (sym b.octets ∙ none) in
    b.is ∙ ap (λ (fs : List FrameIn). read ++ fs) last ∙ append-nil read

pub completes : (role : Role) (end : ServeEnd) (before after : Told) → Session role end before after → SessionIsComplete role end before after
completes role Done before after s given good left no_read no_write =
    let parts = split role s.frames given s.rest before.left after.left s.good good left s.gives in
    let ended : parts.0.rest ≡ [] = subst (λ (o : Option (List ℕ)). IsAtEnd o) parts.0.left s.ends.1.none_left in
    let all : given ≡ s.frames = all_read role s.frames given (s.rest ++ parts.0.rest) parts.1 (λ j. s.ends.0 j ++ ended j) in
    (refl, subst (λ (fs : List FrameIn). Grows before.written after.written (replies role fs)) (sym all) s.ends.2)
completes role (BadFrame place fault) before after s given good left no_read no_write =
    let parts = split role s.frames given s.rest before.left after.left s.good good left s.gives in
    let first : Bool = opens s.frames in
    let read : FrameRead role first (Err fault) (Some (s.rest ++ parts.0.rest)) (Some parts.0.rest) =
    record { taken = s.rest; gives = refl; is = subst (λ (o : Option (List ℕ)). IsTaken role first (Err fault) s.rest o) parts.0.left s.ends.2 } in
    let at : refused fault ≡ frame_at role first (s.rest ++ parts.0.rest) =
    exact role first (Err fault) (Some (s.rest ++ parts.0.rest)) (Some parts.0.rest) read (no_read_fault fault s.ends.0) in
    absurd (
    none_bad role first parts.1.more fault (subst (λ (b : Bool). AreFrames role b parts.1.more) (still_opens s.frames) parts.1.good)
    (at ∙ ap (λ (octets : List ℕ). frame_at role first octets) parts.1.octets)
    s.ends.0
    )
completes role ReadFault before after s given good left no_read no_write = absurd (no_read s.ends.0)
completes role WriteFault before after s given good left no_read no_write = absurd (no_write s.ends.0)
