-- What the headline says of a world, in octets: of its uses, of phone and station at one air address, and of each line that it
-- answers.
use Rattle.std.specs.Prelude.{◌≡◌, ◌≢◌, ℕ, ◌≤◌, ◌<◌, List, map, slice_get, Option, Some, Result, Ok}
use Rattle.std.specs.Option.{option_map}
use Rattle.rec_base.specs.declared.uses.Use.{Use}
use Rattle.lte_events.specs.{declared.answers.Answer.TheVariants.Done, declared.lines.Line.Line}
use Rattle.key_model.specs.{Term.Term, Value.value_of}
use Rattle.lte_machine.specs.{BothRuns.octet_report, Machines.Kept, PhoneState.Link, PhoneState.Connected, StationState.Station, StationState.Context, World.World, World.station_of_id}
use Rattle.lte_machine.specs.Reply.{Came, Secured, Took}
use Rattle.lte_machine.specs.World as world
use Rattle.lte_properties.specs.{Agreement.ahead, BySteps.TakesAt, BySteps.Follows, InOctets.BringsPacket}
use Rattle.lte_world.specs.{declared.faults.WorldFault.WorldFault, Whole.Whole, Whole.answer_of}

-- what a world answered to the events of its journal, in order
abbrev pub answers_of : Whole → List (Result Line WorldFault)
answers_of v = map answer_of (octet_report v.setup v.journal)

-- no two entries of a list are equal
abbrev pub NoTwoEqual : List Use → Type 0
NoTwoEqual uses = (i j : ℕ) (u : Use) → slice_get uses i ≡ Some u → slice_get uses j ≡ Some u → i ≡ j

-- the phone is connected at this station, whose context has the phone's air address
pub record IsJoined (id : ℕ) (w : World (List ℕ) ℕ Kept) : Type 0 where
  pub link : Link (List ℕ) ℕ
  pub station : Station (List ℕ) ℕ
  pub context : Context (List ℕ) ℕ
  pub connected : w.phone.radio ≡ Connected link
  pub there : link.station ≡ id
  pub stands : station_of_id id w.stations ≡ Some station
  pub serves : station.context ≡ Some context
  pub air : context.air ≡ link.air

-- the key that a line tells
abbrev pub key_told : Line → Option (List ℕ)
key_told line = option_map (λ n. n.key) line.note

-- a command that was obeyed at step k, of a handover or of a change of the key, beside what its target made for it at an earlier
-- step: the line that the world answered then, and the one that it answers now
pub record SharesKey (v : Whole) (k : ℕ) (x : Took Term ℕ) (told : world.Line Term) (line : Line) : Type 0 where
  -- what was made there. It is not behind the phone, and what the phone took of it is said there over terms
  pub target : Follows v.setup v.journal k x told
  pub earlier : Line
  pub answered : slice_get (answers_of v) target.when ≡ Some (Ok earlier)
  -- the one tells the key that the target made, the other the key that the phone took
  pub made : key_told earlier ≡ Some (value_of target.made.key)
  pub took : key_told line ≡ Some (value_of x.key)
  -- fewer than eight chain steps ahead that is one key
  pub near : ahead target.made x.came < 8 → key_told line ≡ key_told earlier
  -- and at eight or more another
  pub far : 8 ≤ ahead target.made x.came → key_told line ≢ key_told earlier

-- the phone took a key by a command, and not where the security of its connection began
abbrev pub IsCommanded : Came Term ℕ → Type 0
IsCommanded Secured = ⊥
IsCommanded came = Unit {0}

-- so it is wherever the phone obeys a command at step k
abbrev pub CommandsShare : Whole → ℕ → Line → Type 0
CommandsShare v k line =
    (x : Took Term ℕ) (told : world.Line Term) → TakesAt v.setup v.journal k x told → IsCommanded x.came →
    SharesKey v k x told line

-- the line of step k, where that brings an intact packet to a ready receiver in its window: it is done, and tells the text that
-- was sent
abbrev pub PacketsOpen : Whole → ℕ → Line → Type 0
PacketsOpen v k line =
    (sent : List ℕ) → BringsPacket v.setup v.journal k sent → (line.answer ≡ Done) × (line.opened ≡ Some sent)
