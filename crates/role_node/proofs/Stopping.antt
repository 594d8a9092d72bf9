-- The end of a session at a write that fails.
use Rattle.std.proofs.Common.{◌≡◌, ℕ, Bool, Option, List, [], ◌∷◌, ◌++◌, Ok, refl, sym, ap, ◌∙◌, subst, append-nil}
use Rattle.edge_io.specs.{Told.Told, Cause.Rose, Cause.NoFault, declared.peers.Role.Role}
use Rattle.edge_io.specs.Octets.{Gives, Grows, GrowsByProperPrefix}
use Rattle.edge_io.proofs.Known.{gives_twice, proper_prefix_on}
use Rattle.lte_events.specs.declared.replies.ActorOut.{ActorOut}
use Rattle.role_wire.specs.{declared.frames.FrameIn.FrameIn, Ranges.IsFrame, Frame.frame_spelling, Frame.FrameRead, Reply.reply_spelling}
use Rattle.role_node.specs.declared.actor.Actor.{Actor}
use Rattle.role_node.specs.declared.serving.ServeEnd.TheVariants as ends
use Rattle.role_node.specs.Actor.{turn, waits, replies}
use Rattle.role_node.specs.Session.{spelled, opens, Session}
use Rattle.role_node.proofs.Going.{Going, spelled_more, good_more, replies_more}

-- a reply is not written
pub cut : (role : Role) (actor after : Option Actor) (frame : FrameIn) (reply : ActorOut) (place : ℕ) (before now mid new : Told)
    → Going role actor place before now
    → NoFault before now
    → FrameRead role (waits actor) (Ok frame) now.left mid.left
    → NoFault now mid
    → mid.written ≡ now.written
    → (after, reply) ≡ turn role actor frame → GrowsByProperPrefix mid.written new.written (reply_spelling reply) → new.left ≡ mid.left → new.ended ≡ now.ended
    → Rose mid.write_faults new.write_faults
    → Session role ends.WriteFault before new
cut role actor after frame reply place before now mid new going quiet read none same step grows left ended rose =
    let frames : List FrameIn = going.frames in
    let is : reply ≡ (turn role actor frame).1 = ap (λ (p : Option Actor × ActorOut). p.1) step in
    let good : IsFrame role (opens frames) frame = subst (λ (b : Bool). IsFrame role b frame) going.first read.is.1 in
    let taken : Gives now.left new.left (frame_spelling frame) =
    subst (λ (xs : List ℕ). Gives now.left new.left xs) read.is.0 (subst (λ (o : Option (List ℕ)). Gives now.left o read.taken) (sym left) read.gives) in
    let front : Grows before.written mid.written (replies role frames) = same ∙ going.grows in
    let all = replies_more role actor frames frame reply going.next is in
    let octets = spelled_more frames frame in
    let whole : spelled frames ++ frame_spelling frame ≡ spelled (frames ++ frame ∷ []) ++ [] =
    sym octets ∙ sym (append-nil (spelled (frames ++ frame ∷ []))) in
    let out : (replies role frames ++ reply_spelling reply) ++ [] ≡ replies role (frames ++ frame ∷ []) =
    append-nil (replies role frames ++ reply_spelling reply) ∙ sym all in
    record {
      frames = frames ++ frame ∷ [];
      rest = [];
      good = good_more role frames frame going.good good;
      gives =
          subst (λ (xs : List ℕ). Gives before.left new.left xs) whole
          (gives_twice before.left now.left new.left (spelled frames) (frame_spelling frame) going.gives taken);
      ends = (
        subst (λ (n : ℕ). Rose n new.write_faults) (none.writes ∙ quiet.writes) rose,
        refl,
        ended ∙ going.ended,
        subst (λ (xs : List ℕ). GrowsByProperPrefix before.written new.written xs) out
            (proper_prefix_on before.written mid.written new.written (replies role frames)
            (reply_spelling reply) [] front grows),
      );
    }
