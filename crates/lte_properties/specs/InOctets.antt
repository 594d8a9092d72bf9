-- What is said of a run in octets: of the worlds by which it goes on, and of what it tells.
use Rattle.std.specs.Prelude.{◌≡◌, ℕ, ◌<◌, ◌≤◌, ℤ, List, take, slice_get, Some}
use Rattle.lte_events.specs.{declared.answers.Answer.TheVariants.Done, declared.events.Event.Event, declared.setups.Setup.Setup}
use Rattle.key_model.specs.Term.{Term}
use Rattle.lte_machine.specs.{BothRuns.octet_run, BothRuns.octet_report, ByEvent.IsStep, Ladder.OfRoot, Machines.Kept, Reply.Made, Reply.Took, Run.Running, Run.Reported, Wire.Outgoing, Distinct.Member}
use Rattle.lte_machine.specs.World.{World, Line, AtStation, record_at}
use Rattle.lte_properties.specs.Agreement as agreement
use Rattle.lte_properties.specs.{Agreement.ahead, Agreement.ContextAt, BySteps.MakesAt, BySteps.TakesAt}
use Rattle.lte_properties.specs.Packets.{IsPacket, IsReady, InWindow, next_for, count_of, window_of}

-- in each world by which the run in octets goes on
abbrev pub EachWorld : Setup → List Event → (World (List ℕ) ℕ Kept → Type 0) → Type 0
EachWorld setup events P = (n : ℕ) (u : World (List ℕ) ℕ Kept) → octet_run setup (take n events) ≡ Running u → P u

-- no station ever held the octets of a KASME (TS 33.401 6.2)
abbrev pub NoKasmeHeld : World (List ℕ) ℕ Kept → Type 0
NoKasmeHeld u =
    (id : ℕ) (key : List ℕ) → Member (record { holder = AtStation id; key = key }) u.held → Member (OfRoot key) u.history → ⊥

-- step k delivers a packet, as it was sent, to a receiver that is ready for it, and in whose window its COUNT is
pub record BringsPacket (setup : Setup) (events : List Event) (k : ℕ) (sent : List ℕ) : Type 0 where
  pub number : ℤ
  pub packet : Outgoing Term ℕ
  pub world : World Term ℕ (Outgoing Term ℕ)
  pub after : World Term ℕ (Outgoing Term ℕ)
  pub line : Line Term
  pub step : IsStep setup events k world (Event.Deliver number) after line
  pub record_sent : record_at number world.sent ≡ Some packet
  pub is_packet : IsPacket packet sent
  pub ready : IsReady world packet
  pub in_window : InWindow (next_for world packet) (count_of packet) (window_of packet)

-- what the run in octets tells at place k: it is done, and opened this text
pub record TellsText (setup : Setup) (events : List Event) (k : ℕ) (sent : List ℕ) : Type 0 where
  pub line : Line (List ℕ)
  pub told : slice_get (octet_report setup events) k ≡ Some (Reported line)
  pub done : line.answer ≡ Done
  pub opened : line.opened ≡ Some sent

-- the phone took this by an order, of a handover or of a change of the key, and what had been made for that air address was
-- eight or more chain steps ahead of the phone's key
pub record TakesFar (setup : Setup) (events : List Event) (x : Took Term ℕ) : Type 0 where
  pub step : ℕ
  pub told : Line Term
  pub takes : TakesAt setup events step x told
  pub made : Made Term ℕ
  pub when : ℕ
  pub line : Line Term
  pub makes : MakesAt setup events when made line
  pub earlier : when < step
  pub there : (made.station ≡ x.station) × (made.air ≡ x.air)
  pub far : 8 ≤ ahead made x.came

-- no context of the station has this air address
abbrev pub NoContextAt : ℕ → ℕ → World (List ℕ) ℕ Kept → Type 0
NoContextAt station air u = agreement.EachStation u station (λ s. ContextAt air s.context (λ c. ⊥))

-- in no world of the run has a context the air address of such an order, neither before the phone obeyed it nor after it
abbrev pub FarNeverThere : Setup → List Event → Type 0
FarNeverThere setup events =
    (x : Took Term ℕ) → TakesFar setup events x → EachWorld setup events (NoContextAt x.station x.air)
