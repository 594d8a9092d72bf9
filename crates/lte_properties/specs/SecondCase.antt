-- The second of the three cases of opening a sealed record (`open_case`): the sender's integrity use is the one that the receiver
-- expects, and its ciphering is another, so that the octets decide.
use Rattle.std.specs.Prelude.{◌≡◌, ℕ, true, Option, Some}
use Rattle.lte_events.specs.{declared.events.Event.Event, declared.lines.Who.Who}
use Rattle.key_model.specs.Term.{Term, same_term}
use Rattle.lte_machine.specs.Opening.{Opening, OpensNas, OpensSrb, Sender, CipheredElse, SentElse, nas_sender, srb_sender}
use Rattle.lte_machine.specs.{StationState.Station, StationState.Context, Step.attempted, Wire.Outgoing}
use Rattle.lte_machine.specs.World.{Machine, World, Line, station_of_id, happens}

-- how the sender's uses stand to those that the receiver expects, with keys compared as terms
abbrev pub sender_at : Opening Term → Option (Outgoing Term ℕ) → Sender
sender_at (OpensNas u e) came = nas_sender same_term u e came
sender_at (OpensSrb u e) came = srb_sender same_term u e came
sender_at other came = SentElse

-- a station tells this line, and the security of its context is starting (TS 36.331 5.3.4)
pub record IsStarting (w : World Term ℕ (Outgoing Term ℕ)) (line : Line Term) : Type 0 where
  pub id : ℕ
  pub who : line.who ≡ Who.Station id
  pub station : Station Term ℕ
  pub there : station_of_id id w.stations ≡ Some station
  pub context : Context Term ℕ
  pub serves : station.context ≡ Some context
  pub starting : context.starting ≡ true

-- whatever happens in a world, the second case comes at such a station alone
abbrev pub SecondAtStarting : Machine Term ℕ (Outgoing Term ℕ) → World Term ℕ (Outgoing Term ℕ) → Type 0
SecondAtStarting m w =
    (e : Event) → let a = attempted m w e in sender_at a.opening a.came ≡ CipheredElse → IsStarting w (happens m w e).1
