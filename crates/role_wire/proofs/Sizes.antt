-- How many octets a frame has.
use Rattle.std.proofs.Common.{◌≡◌, ℕ, ◌+◌, ◌*◌, ◌≤◌, Bool, List, [], ◌∷◌, ◌++◌, length, map, Ok, refl, arith, length-append}
use Rattle.std.proofs.lemmas.List.{length-map}
use Rattle.std.specs.List.{flat_map}
use Rattle.rec_base.specs.BigEndian.{octets_of}
use Rattle.rec_base.proofs.Numbers.{length-octets_of}
use Rattle.alg_choice.specs.{declared.algs.Eea.Eea, Algs.identity_of}
use Rattle.edge_io.specs.declared.peers.Role.{Role}
use Rattle.lte_events.specs.{Site.Site, declared.acts.PhoneAct.PhoneAct, declared.acts.StationAct.StationAct, declared.acts.CoreAct.CoreAct, declared.inputs.PhoneIn.PhoneIn, declared.inputs.StationIn.StationIn, declared.inputs.CoreIn.CoreIn, declared.inputs.ActorIn.ActorIn}
use Rattle.role_wire.specs.{declared.frames.FrameIn.FrameIn, declared.frames.RoleSetup.RoleSetup}
use Rattle.role_wire.specs.declared.frames.FrameIn.TheVariants.{Setup, Input}
use Rattle.role_wire.specs.Spelling.{phone_octets, station_octets, core_octets, setup_octets, first_octets, site_octets, body_spelling}
use Rattle.role_wire.specs.Ranges.{IsFrame, IsSized, IsOrder, IsFirst, PhoneInSized, StationInSized, CoreInSized, SetupSized}
use Rattle.role_wire.specs.Frame.{body_limit, framed, frame_spelling, frame_at}
use Rattle.role_wire.proofs.FrameLaws.{written_again}

-- one octet or more, and no more than a length may say
abbrev IsSize : List ℕ → Type 0
IsSize octets = (1 ≤ length octets) × (length octets ≤ body_limit)

phone_size : (x : PhoneIn) → PhoneInSized x → IsSize (phone_octets x)
unfolding octets_of
phone_size (PhoneIn.Air station air bearer pdu) h = (omega arith, omega (arith, h.1))
phone_size (PhoneIn.Act PhoneAct.GoIdle) h = (omega arith, omega arith)
phone_size other h = (omega arith, omega arith)

station_size : (x : StationIn) → StationInSized x → IsSize (station_octets x)
unfolding octets_of
station_size (StationIn.Air air bearer pdu) h = (omega arith, omega (arith, h.1))
station_size (StationIn.Act StationAct.Ask) h = (omega arith, omega arith)
station_size other h = (omega arith, omega arith)

core_size : (x : CoreIn) → CoreInSized x → IsSize (core_octets x)
unfolding octets_of
core_size (CoreIn.Auth ksi kasme caps) h = (omega arith, omega (arith, h.0, length-append kasme (caps.eea ∷ caps.eia ∷ [])))
core_size (CoreIn.Act CoreAct.Release) h = (omega arith, omega arith)
core_size other h = (omega arith, omega arith)

sites_size : (sites : List Site) → length (flat_map site_octets sites) ≡ 7 * length sites
unfolding octets_of
sites_size [] = refl
sites_size (site ∷ sites) = omega (arith, sites_size sites)

order_size : (order : List Eea) → IsOrder order → length order ≤ 2
order_size (a ∷ b ∷ c ∷ rest) h = absurd h
order_size other h = omega arith

first_size : (kind : ℕ) (order : List Eea) (first : ℕ) (cells : List Site) → IsFirst order first cells → IsSize (kind ∷ first_octets order first cells)
first_size kind order first cells is =
    let few : length order ≤ 2 = order_size order is.is_order in
    let some : length cells ≤ 32 = is.is_table.within in
    let listed : List ℕ = length cells ∷ flat_map site_octets cells in
    let front : List ℕ = length order ∷ map identity_of order in
    let a = length-append (front ++ octets_of 4 first) listed in
    let b = length-append front (octets_of 4 first) in
    (omega arith, omega (arith, a, b, length-octets_of 4 first, length-map order identity_of, sites_size cells))

setup_size : (x : RoleSetup) → SetupSized x → IsSize (setup_octets x)
setup_size (RoleSetup.Phone caps) h = (omega arith, omega arith)
setup_size (RoleSetup.Station order first cells) h = first_size 0x00 order first cells h
setup_size (RoleSetup.Core order first cells) h = first_size 0x00 order first cells h
setup_size (RoleSetup.StandardCore order first cells) h = first_size 0x06 order first cells h

body_size : (frame : FrameIn) → IsSized frame → IsSize (body_spelling frame)
unfolding body_spelling
body_size (Setup x) h = setup_size x h
body_size (Input (ActorIn.Phone x)) h = phone_size x h
body_size (Input (ActorIn.Station id x)) h = station_size x h
body_size (Input (ActorIn.Core x)) h = core_size x h

-- a frame has 3 to 4,098 octets
pub frame_size : (role : Role) (first : Bool) (frame : FrameIn) → IsFrame role first frame
    → (3 ≤ length (frame_spelling frame)) × (length (frame_spelling frame) ≤ 2 + body_limit)
unfolding framed
frame_size role first frame is =
    let body = body_spelling frame in
    let size = body_size frame is.sized in
    let all = length-append (octets_of 2 (length body)) body in
    (omega (arith, size.0, length-octets_of 2 (length body)), omega (arith, size.1, length-octets_of 2 (length body)))

-- what is spelled of a frame is read as it
pub spelled_again : (role : Role) (first : Bool) (frame : FrameIn) (rest : List ℕ) → IsFrame role first frame
    → frame_at role first (frame_spelling frame ++ rest) ≡ Ok frame
spelled_again role first frame rest is = written_again role first frame (frame_spelling frame) rest refl (frame_size role first frame is).1 is
