-- To whom records go: where it is a station, the setup has it.
use Rattle.std.specs.Prelude.{◌≡◌, ◌≢◌, ℕ, IsTrue, ⊤}
use Rattle.lte_events.specs.{Ranges.has_station, declared.addresses.Address.Address, declared.answers.Answer.TheVariants.NoUe, declared.lines.Who.Who, declared.setups.Setup.Setup}
use Rattle.key_model.specs.Term.{Term}
use Rattle.lte_machine.specs.{Wire.Outgoing, Wire.address_of, World.World, World.Line}
use Rattle.lte_properties.specs.ChainBelow.{AllOf}

-- an address is not of a station, or of one of these
abbrev pub IsAmong : (ℕ → Type 0) → Address → Type 0
IsAmong P (Address.StationAir station air bearer) = P station
IsAmong P (Address.StationS1 station) = P station
IsAmong P (Address.StationX2 station) = P station
IsAmong P other = ⊤

-- of each record that was sent
abbrev pub AllReach : Setup → World Term ℕ (Outgoing Term ℕ) → Type 0
AllReach setup w = AllOf (λ x. IsAmong (λ id. IsTrue (has_station setup.stations id)) (address_of x)) w.sent

-- the network does not answer for a station that is not there
abbrev pub ReachesActor : Line Term → Type 0
ReachesActor line = line.who ≡ Who.World → line.answer ≢ NoUe
