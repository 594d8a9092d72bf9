-- The acts of a scenario against peers: each role is started and set up, and each input of an actor goes to its peer.
use Rattle.std.specs.Prelude.{ℕ, suc, ◌==◌, if◌then◌else◌, IsTrue, Option, Some, None, List, [], ◌∷◌, ◌++◌, map, take, drop}
use Rattle.alg_choice.specs.declared.algs.Eea.{Eea}
use Rattle.edge_io.specs.declared.peers.Role.{Role}
use Rattle.edge_io.specs.declared.peers.Role.TheVariants as role
use Rattle.lte_events.specs.{Ranges.has_station, Reply.reply_of, Site.Site, declared.answers.Answer.TheVariants.Done, declared.inputs.ActorIn.ActorIn, declared.replies.ActorOut.ActorOut, declared.setups.FirstNcc.FirstNcc, declared.setups.Setup.Setup, declared.setups.StationSetup.StationSetup}
use Rattle.lte_events.specs.declared.inputs.ActorIn.TheVariants as input
use Rattle.lte_events.specs.declared.setups.FirstNcc.TheVariants.{One, Two}
use Rattle.role_wire.specs.declared.frames.FrameIn.TheVariants.{Setup as SetupFrame, Input}
use Rattle.role_wire.specs.{declared.frames.RoleSetup.RoleSetup, Frame.frame_spelling, Reply.reply_spelling}
use Rattle.role_wire.specs.declared.frames.RoleSetup.TheVariants as first
use Rattle.hub_drive.specs.Acts.{Starting, Sending, Receiving, Act, Calling}

-- a frame goes to a peer, and its reply comes: the length first, and then the rest
abbrev pub exchange : Option ℕ → ℕ → List ℕ → List ℕ → List Act
exchange step peer frame reply =
    Calling (Sending peer frame)
    ∷ Calling (Receiving peer (record { step = step; before = []; octets = take 2 reply; behind = drop 2 reply }))
    ∷ Calling (Receiving peer (record { step = step; before = take 2 reply; octets = drop 2 reply; behind = [] }))
    ∷ []

-- the roles in the order in which they are started: the phone is peer 0, the core peer 1, and the stations follow
abbrev pub roles_of : Setup → List Role
roles_of setup = role.Phone ∷ role.Core ∷ map (λ (s : StationSetup). role.Station s.id) setup.stations

abbrev pub starts : List Role → List Act
starts roles = map (λ role. Calling (Starting role)) roles

-- what a core starts with, by the NCC of the first pair that it sends
abbrev pub core_seed : FirstNcc → List Eea → ℕ → List Site → RoleSetup
core_seed One priority number cells = first.Core priority number cells
core_seed Two priority number cells = first.StandardCore priority number cells

-- what each starts with
abbrev pub seeds_of : Setup → List RoleSetup
seeds_of setup =
    first.Phone setup.caps ∷ core_seed setup.core_first_ncc setup.core_priority setup.core_first setup.cells
    ∷ map (λ (s : StationSetup). first.Station s.priority s.first setup.cells) setup.stations

abbrev pub set_ups : ℕ → List RoleSetup → List Act
set_ups peer [] = []
set_ups peer (seed ∷ seeds) =
    exchange None peer (frame_spelling (SetupFrame seed)) (reply_spelling (reply_of Done)) ++ set_ups (suc peer) seeds

-- the peer of a station, where the stations are numbered from this number on
abbrev pub station_peer : ℕ → ℕ → List StationSetup → ℕ
station_peer from id [] = from
station_peer from id (s ∷ ss) = if s.id == id then from else station_peer (suc from) id ss

abbrev pub peer_of : Setup → ActorIn → ℕ
peer_of setup (input.Phone i) = 0
peer_of setup (input.Core i) = 1
peer_of setup (input.Station id i) = station_peer 2 id setup.stations

-- what the actors of an event are told, each with what the local one replied
abbrev pub replied : Setup → ℕ → List (ActorIn × ActorOut) → List Act
replied setup step [] = []
replied setup step ((i, out) ∷ more) =
    exchange (Some step) (peer_of setup i) (frame_spelling (Input i)) (reply_spelling out) ++ replied setup step more

-- an input goes to an actor of the setup
abbrev pub HasActor : Setup → ActorIn → Type 0
HasActor setup (input.Station id i) = IsTrue (has_station setup.stations id)
HasActor setup other = Unit {0}
