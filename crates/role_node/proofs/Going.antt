-- A session that goes on: what was read and written so far, and what the actor will answer.
use Rattle.std.proofs.Common.{◌≡◌, ℕ, ◌+◌, ◌-◌, ◌^◌, Bool, true, false, min, Option, Some, None, List, [], ◌∷◌, ◌++◌, length, Ok, refl, sym, ap, ◌∙◌, subst, append_assoc, append-nil, arith, length-append}
use Rattle.std.proofs.lemmas.Grind.{flat_map-append}
use Rattle.edge_io.specs.{Told.Told, Octets.Gives, Octets.Grows, declared.peers.Role.Role}
use Rattle.edge_io.proofs.Known.{gives_twice, grows_twice}
use Rattle.lte_events.specs.declared.replies.ActorOut.{ActorOut}
use Rattle.role_wire.specs.{declared.frames.FrameIn.FrameIn, Ranges.IsFrame, Ranges.IsOf, Frame.frame_spelling, Frame.FrameRead, Reply.reply_spelling}
use Rattle.role_wire.specs.declared.frames.FrameIn.TheVariants.{Setup, Input}
use Rattle.role_node.specs.declared.actor.Actor.{Actor}
use Rattle.role_node.specs.Actor.{turn, waits, replies_from, replies}
use Rattle.role_node.specs.Session.{AreFrames, spelled, opens, place_behind}

pub record Going (role : Role) (actor : Option Actor) (place : ℕ) (before now : Told) : Type 0 where
  pub frames : List FrameIn  -- read, and answered
  pub good : AreFrames role true frames
  pub gives : Gives before.left now.left (spelled frames)
  pub grows : Grows before.written now.written (replies role frames)
  pub ended : now.ended ≡ before.ended
  pub next : (more : List FrameIn) → replies role (frames ++ more) ≡ replies role frames ++ replies_from role actor more
  pub first : waits actor ≡ opens frames
  pub place_is : place ≡ place_behind frames

-- the octets of frames and one more
pub spelled_more : (frames : List FrameIn) (frame : FrameIn) → spelled (frames ++ frame ∷ []) ≡ spelled frames ++ frame_spelling frame
spelled_more frames frame = flat_map-append frame_spelling frames (frame ∷ []) ∙ ap (λ (xs : List ℕ). spelled frames ++ xs) (append-nil (frame_spelling frame))

later_more : (role : Role) (frames : List FrameIn) (frame : FrameIn)
    → AreFrames role false frames
    → IsFrame role false frame
    → AreFrames role false (frames ++ frame ∷ [])
later_more role [] frame good is = (is, tt)
later_more role (f ∷ fs) frame good is = (good.0, later_more role fs frame good.1 is)

-- one more frame is good in its place
pub good_more : (role : Role) (frames : List FrameIn) (frame : FrameIn)
    → AreFrames role true frames
    → IsFrame role (opens frames) frame
    → AreFrames role true (frames ++ frame ∷ [])
good_more role [] frame good is = (is, tt)
good_more role (f ∷ fs) frame good is = (good.0, later_more role fs frame good.1 is)

opens_no_more : (frames : List FrameIn) (frame : FrameIn) → opens (frames ++ frame ∷ []) ≡ false
opens_no_more [] frame = refl
opens_no_more (f ∷ fs) frame = refl

-- behind its Setup an actor stands
waits_no_more : (role : Role) (actor : Option Actor) (frame : FrameIn) → IsOf role (waits actor) frame → waits (turn role actor frame).0 ≡ false
waits_no_more role actor (Setup setup) is = refl
waits_no_more role (Some actor) (Input input) is = refl
waits_no_more Role.Phone None (Input input) is = absurd is
waits_no_more (Role.Station id) None (Input input) is = absurd is
waits_no_more Role.Core None (Input input) is = absurd is

-- the replies to frames and one more
pub replies_more : (role : Role) (actor : Option Actor) (frames : List FrameIn) (frame : FrameIn) (reply : ActorOut)
    → ((more : List FrameIn) → replies role (frames ++ more) ≡ replies role frames ++ replies_from role actor more) → reply ≡ (turn role actor frame).1
    → replies role (frames ++ frame ∷ []) ≡ replies role frames ++ reply_spelling reply
replies_more role actor frames frame reply next is =
    next (frame ∷ [])
    ∙ ap (λ (xs : List ℕ). replies role frames ++ xs) (append-nil (reply_spelling (turn role actor frame).1))
    ∙ ap (λ (r : ActorOut). replies role frames ++ reply_spelling r) (sym is)

next_more : (role : Role) (actor after : Option Actor) (frames : List FrameIn) (frame : FrameIn) (reply : ActorOut)
    → ((more : List FrameIn) → replies role (frames ++ more) ≡ replies role frames ++ replies_from role actor more)
    → after ≡ (turn role actor frame).0
    → reply ≡ (turn role actor frame).1
    → (more : List FrameIn) → replies role ((frames ++ frame ∷ []) ++ more) ≡ replies role (frames ++ frame ∷ []) ++ replies_from role after more
next_more role actor after frames frame reply next then is more =
    let done = turn role actor frame in
    let all : replies role (frames ++ frame ∷ []) ≡ replies role frames ++ reply_spelling done.1 = replies_more role actor frames frame done.1 next refl in
    ap (λ (xs : List FrameIn). replies role xs) (append_assoc frames (frame ∷ []) more)
    ∙ next (frame ∷ more)
    ∙ sym (append_assoc (replies role frames) (reply_spelling done.1) (replies_from role done.0 more))
    ∙ (λ j. sym all j ++ replies_from role (sym then j) more)

place_more : (limit a b : ℕ) → min (min a limit + b) limit ≡ min (a + b) limit
place_more limit a b = omega arith

-- one more frame is read, its step made and its reply written
pub going_on : (role : Role) (actor after : Option Actor) (frame : FrameIn) (reply : ActorOut) (place behind : ℕ) (before now mid new : Told)
    → Going role actor place before now → FrameRead role (waits actor) (Ok frame) now.left mid.left → mid.written ≡ now.written
    → (after, reply) ≡ turn role actor frame → behind ≡ min (place + length (frame_spelling frame)) (2 ^ 64 - 1)
    → Grows mid.written new.written (reply_spelling reply) → new.left ≡ mid.left → new.ended ≡ now.ended
    → Going role after behind before new
going_on role actor after frame reply place behind before now mid new going read same step place_is grows left ended =
    let done = turn role actor frame in
    let frames : List FrameIn = going.frames in
    let then : after ≡ done.0 = ap (λ (p : Option Actor × ActorOut). p.0) step in
    let is : reply ≡ done.1 = ap (λ (p : Option Actor × ActorOut). p.1) step in
    let good : IsFrame role (opens frames) frame = subst (λ (b : Bool). IsFrame role b frame) going.first read.is.1 in
    let taken : Gives now.left new.left (frame_spelling frame) =
    subst (λ (xs : List ℕ). Gives now.left new.left xs) read.is.0 (subst (λ (o : Option (List ℕ)). Gives now.left o read.taken) (sym left) read.gives) in
    let out : Grows now.written new.written (reply_spelling reply) = subst (λ (o : Option (List ℕ)). Grows o new.written (reply_spelling reply)) same grows in
    let all = replies_more role actor frames frame reply going.next is in
    let octets = spelled_more frames frame in
    record {
      frames = frames ++ frame ∷ [];
      good = good_more role frames frame going.good good;
      gives =
          subst (λ (xs : List ℕ). Gives before.left new.left xs) (sym octets)
          (gives_twice before.left now.left new.left (spelled frames) (frame_spelling frame) going.gives taken);
      grows =
          subst (λ (xs : List ℕ). Grows before.written new.written xs) (sym all)
          (grows_twice before.written now.written new.written (replies role frames) (reply_spelling reply)
          going.grows out);
      ended = ended ∙ going.ended;
      next = next_more role actor after frames frame reply going.next then is;
      first = ap (λ (a : Option Actor). waits a) then ∙ waits_no_more role actor frame read.is.1.of ∙ sym (opens_no_more frames frame);
      place_is =
          place_is
          ∙ ap (λ (n : ℕ). min (n + length (frame_spelling frame)) (2 ^ 64 - 1)) going.place_is
          ∙ place_more (2 ^ 64 - 1) (length (spelled frames)) (length (frame_spelling frame))
          ∙ ap (λ (n : ℕ). min n (2 ^ 64 - 1)) (sym (length-append (spelled frames) (frame_spelling frame)))
          ∙ ap (λ (xs : List ℕ). min (length xs) (2 ^ 64 - 1)) (sym octets);
    }
