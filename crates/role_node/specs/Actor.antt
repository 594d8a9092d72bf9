-- What the actor of a role answers to the frames of a session, by the written machine.
use Rattle.std.specs.Prelude.{ℕ, Bool, true, false, List, [], ◌∷◌, ◌++◌, Option, Some, None}
use Rattle.edge_io.specs.declared.peers.Role.{Role}
use Rattle.lte_events.specs.{Reply.reply_of, declared.answers.Answer.TheVariants.Done, declared.inputs.ActorIn.ActorIn, declared.replies.ActorOut.ActorOut}
use Rattle.lte_events.specs.declared.setups.FirstNcc.TheVariants.{One, Two}
use Rattle.lte_machine.specs.Calls.{phone_call, station_call, core_call}
use Rattle.lte_machine.specs.{PhoneState.first_phone, StationState.first_station, CoreState.first_core}
use Rattle.role_wire.specs.{declared.frames.FrameIn.FrameIn, declared.frames.RoleSetup.RoleSetup, Reply.reply_spelling}
use Rattle.role_wire.specs.declared.frames.FrameIn.TheVariants.{Setup, Input}
use Rattle.role_node.specs.declared.actor.Actor.{Actor}

-- the number of a station
abbrev pub station_of : Role → ℕ
station_of (Role.Station id) = id
station_of _ = 0

-- the actor that a Setup makes
unfoldable pub first_actor : Role → RoleSetup → Actor
first_actor role (RoleSetup.Phone caps) = Actor.Phone (first_phone caps)
first_actor role (RoleSetup.Station order first cells) = Actor.Station (first_station (station_of role) cells order first)
first_actor role (RoleSetup.Core order first cells) = Actor.Core (first_core cells order first One)
first_actor role (RoleSetup.StandardCore order first cells) = Actor.Core (first_core cells order first Two)

-- A step: the actor afterwards, and its reply. What is no input of the actor, as no frame of its role is, does nothing.
unfoldable pub step_of : Actor → ActorIn → Actor × ActorOut
step_of (Actor.Phone s) (ActorIn.Phone input) = let done = phone_call s input in (Actor.Phone done.0, done.1)
step_of (Actor.Station s) (ActorIn.Station id input) = let done = station_call s input in (Actor.Station done.0, done.1)
step_of (Actor.Core s) (ActorIn.Core input) = let done = core_call s input in (Actor.Core done.0, done.1)
step_of actor _ = (actor, reply_of Done)

-- a frame: a Setup makes the actor, each later one is a step of it
abbrev pub turn : Role → Option Actor → FrameIn → Option Actor × ActorOut
turn role actor (Setup setup) = (Some (first_actor role setup), reply_of Done)
turn role None (Input input) = (None, reply_of Done)
turn role (Some actor) (Input input) = let done = step_of actor input in (Some done.0, done.1)

-- whether it waits for its Setup
abbrev pub waits : Option Actor → Bool
waits None = true
waits (Some actor) = false

-- the octets of the replies to frames, from this actor on
abbrev pub replies_from : Role → Option Actor → List FrameIn → List ℕ
replies_from role actor [] = []
replies_from role actor (frame ∷ frames) =
    let done = turn role actor frame in reply_spelling done.1 ++ replies_from role done.0 frames

-- the octets of the replies to the frames of a session, in order
abbrev pub replies : Role → List FrameIn → List ℕ
replies role frames = replies_from role None frames
