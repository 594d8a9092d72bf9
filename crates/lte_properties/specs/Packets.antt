-- Packets that open to what was sent (TS 36.323 5.1.2, TS 24.301 4.4.3): user packets, RRC data and NAS data.
use Rattle.std.specs.Prelude.{◌≡◌, ℤ, ℕ, ◌+◌, ◌<◌, ◌≤◌, List, Option, Some, None, false}
use Rattle.rec_base.specs.declared.uses.Dir.TheVariants.{Up, Down}
use Rattle.alg_choice.specs.Algs.{eia2_identity}
use Rattle.lte_events.specs.{declared.answers.Answer.TheVariants.Done, declared.events.Event.Event}
use Rattle.key_model.specs.Term.{Term, Alg}
use Rattle.nas_rec.specs.{declared.records.NasRecord.TheVariants.NasData, Spelling.spelling_of as nas_spelling}
use Rattle.rrc_rec.specs.{declared.records.RrcRecord.TheVariants.RrcData, Spelling.spelling_of as rrc_spelling}
use Rattle.lte_machine.specs.Bearers.{Bearers, srb_counts, drb_counts}
use Rattle.lte_machine.specs.Wire.{KeyUse, Outgoing, SealedNas, SealedRrc, UserPacket}
use Rattle.lte_machine.specs.PhoneState.{NasContext, Radio, Connected}
use Rattle.lte_machine.specs.{StationState.Station, StationState.Context, CoreState.CoreContext}
use Rattle.lte_machine.specs.World.{Machine, World, station_of_id, record_at, happens}

-- a record that carries these data: a user packet, an RRC text of data, a NAS text of data
abbrev pub IsPacket : Outgoing Term ℕ → List ℕ → Type 0
IsPacket (UserPacket dir station air drb e text) sent = text ≡ sent
IsPacket (SealedRrc dir station air srb u e text) sent = text ≡ rrc_spelling (RrcData sent)
IsPacket (SealedNas dir header u e text) sent = text ≡ nas_spelling (NasData sent)
IsPacket other sent = ⊥

-- THE RECEIVER IS READY

-- the phone is connected at this station and air address
abbrev pub IsConnectedAt : Radio Term ℕ → ℕ → ℕ → Type 0
IsConnectedAt (Connected l) station air = (l.station ≡ station) × (l.air ≡ air)
IsConnectedAt other station air = ⊥

-- the station has a context at this air address, whose security is active (TS 36.331 5.3.4)
abbrev pub HasActiveAt : Option (Context Term ℕ) → ℕ → Type 0
HasActiveAt None air = ⊥
HasActiveAt (Some c) air = (c.air ≡ air) × (c.starting ≡ false)

abbrev pub IsActiveAt : Option (Station Term ℕ) → ℕ → Type 0
IsActiveAt None air = ⊥
IsActiveAt (Some s) air = HasActiveAt s.context air

-- a NAS context is of the KASME under which a message was sealed: the message's key is KNASint of that KASME (TS 33.401 A.7)
abbrev pub UsesRootOf : NasContext Term → KeyUse Term → Type 0
UsesRootOf c u = u.key ≡ Alg c.root 2 eia2_identity

abbrev pub PhoneHasRoot : Option (NasContext Term) → KeyUse Term → Type 0
PhoneHasRoot None u = ⊥
PhoneHasRoot (Some c) u = UsesRootOf c u

abbrev pub CoreHasRoot : Option (CoreContext Term) → KeyUse Term → Type 0
CoreHasRoot None u = ⊥
CoreHasRoot (Some c) u = UsesRootOf c.nas u

-- the receiver of a record is ready for it. On the air, down: the phone is connected at the record's station and air
-- address. Up: the station's context has that air address and is active. On NAS: the receiver's context in use is of the
-- KASME under which the record was sealed
abbrev pub IsReady : {S : Type 0} → World Term ℕ S → Outgoing Term ℕ → Type 0
IsReady w (UserPacket Down station air drb e text) = IsConnectedAt w.phone.radio station air
IsReady w (UserPacket Up station air drb e text) = IsActiveAt (station_of_id station w.stations) air
IsReady w (SealedRrc Down station air srb u e text) = IsConnectedAt w.phone.radio station air
IsReady w (SealedRrc Up station air srb u e text) = IsActiveAt (station_of_id station w.stations) air
IsReady w (SealedNas Down header u e text) = PhoneHasRoot w.phone.context u
IsReady w (SealedNas Up header u e text) = CoreHasRoot w.core.context u
IsReady w other = ⊥

-- THE COUNT IS IN ITS WINDOW

-- the next COUNT that is expected: on a bearer by a phone, in a context and by a station, and on NAS by phone and core
abbrev pub next_of_phone : Radio Term ℕ → (Bearers → ℕ) → ℕ
next_of_phone (Connected l) of_bearer = of_bearer l.bearers
next_of_phone other of_bearer = 0

abbrev pub next_of_context : Option (Context Term ℕ) → (Bearers → ℕ) → ℕ
next_of_context None of_bearer = 0
next_of_context (Some c) of_bearer = of_bearer c.bearers

abbrev pub next_of_station : Option (Station Term ℕ) → (Bearers → ℕ) → ℕ
next_of_station None of_bearer = 0
next_of_station (Some s) of_bearer = next_of_context s.context of_bearer

abbrev pub next_of_nas : Option (NasContext Term) → ℕ
next_of_nas None = 0
next_of_nas (Some c) = c.receive

abbrev pub next_of_core : Option (CoreContext Term) → ℕ
next_of_core None = 0
next_of_core (Some c) = c.nas.receive

-- by the receiver of a record
abbrev pub next_for : {S : Type 0} → World Term ℕ S → Outgoing Term ℕ → ℕ
next_for w (UserPacket Down station air drb e text) = next_of_phone w.phone.radio (λ b. (drb_counts drb b).receive)
next_for w (UserPacket Up station air drb e text) =
    next_of_station (station_of_id station w.stations) (λ b. (drb_counts drb b).receive)
next_for w (SealedRrc Down station air srb u e text) = next_of_phone w.phone.radio (λ b. (srb_counts srb b).receive)
next_for w (SealedRrc Up station air srb u e text) =
    next_of_station (station_of_id station w.stations) (λ b. (srb_counts srb b).receive)
next_for w (SealedNas Down header u e text) = next_of_nas w.phone.context
next_for w (SealedNas Up header u e text) = next_of_core w.core.context
next_for w other = 0

-- the COUNT of a record
abbrev pub count_of : Outgoing Term ℕ → ℕ
count_of (UserPacket dir station air drb e text) = e.under.count
count_of (SealedRrc dir station air srb u e text) = u.count
count_of (SealedNas dir header u e text) = u.count
count_of other = 0

-- how many COUNTs the sequence number of a record tells apart: 2^5 on an SRB, 2^12 on a DRB (TS 36.323 6.2.2, 6.2.3 and
-- 6.3.5), 2^8 on NAS (TS 24.301 4.4.3.1)
abbrev pub on_srb : ℕ
on_srb = 32

abbrev pub on_drb : ℕ
on_drb = 4096

abbrev pub on_nas : ℕ
on_nas = 256

abbrev pub window_of : Outgoing Term ℕ → ℕ
window_of (UserPacket dir station air drb e text) = on_drb
window_of (SealedRrc dir station air srb u e text) = on_srb
window_of (SealedNas dir header u e text) = on_nas
window_of other = 0

-- a COUNT is one of the w from `next` on: a receiver that expects `next`, and gets the lowest part of the COUNT alone, then
-- takes the COUNT that was sent (TS 36.323 5.1.2, TS 24.301 4.4.3.1)
abbrev pub InWindow : ℕ → ℕ → ℕ → Type 0
InWindow next count w = (next ≤ count) × (count < next + w)

-- THE PACKET OPENS

-- an event is done, and opens these data
abbrev pub OpensTo : {S : Type 0} → Machine Term ℕ S → World Term ℕ S → Event → List ℕ → Type 0
OpensTo m w e sent = ((happens m w e).1.answer ≡ Done) × ((happens m w e).1.opened ≡ Some sent)

-- in a world: wherever a packet that was sent comes with the octets sent to a receiver that is ready for it, in the
-- receiver's COUNT window, it opens to the data that were sent
abbrev pub OpensToSent : Machine Term ℕ (Outgoing Term ℕ) → World Term ℕ (Outgoing Term ℕ) → Type 0
OpensToSent m w =
    (i : ℤ) (x : Outgoing Term ℕ) (sent : List ℕ) → record_at i w.sent ≡ Some x → IsPacket x sent
    → IsReady w x → InWindow (next_for w x) (count_of x) (window_of x)
    → OpensTo m w (Event.Deliver i) sent
