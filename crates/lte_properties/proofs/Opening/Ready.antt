-- A receiver that is ready for a packet, and has its COUNT in its window, by cases.
use Rattle.std.proofs.Common.{◌≡◌, ℕ, Option, Some, None, false}
use Rattle.rec_base.specs.declared.uses.Dir.TheVariants.{Up, Down}
use Rattle.key_model.specs.Term.{Term}
use Rattle.lte_machine.specs.Bearers.{Srb, Drb, Bearers, srb_counts, drb_counts}
use Rattle.lte_machine.specs.Wire.{KeyUse, Outgoing, SealedNas, PlainNas, SealedRrc, UserPacket, Between}
use Rattle.lte_machine.specs.PhoneState.{NasContext, Link, Radio, Idle, Connecting, Connected}
use Rattle.lte_machine.specs.{StationState.Station, StationState.Context, CoreState.CoreContext, World.World, World.station_of_id}
use Rattle.lte_properties.specs.Packets.{InWindow, on_srb, on_drb, on_nas, UsesRootOf, IsConnectedAt, IsActiveAt, HasActiveAt, PhoneHasRoot, CoreHasRoot, IsReady, next_of_phone, next_of_context, next_of_station, next_of_nas, next_of_core, next_for, count_of, window_of}

-- a phone that is connected at this station and air address
abbrev pub ConnectedAt : Radio Term ℕ → ℕ → ℕ → (Link Term ℕ → Type 0) → Type 0
ConnectedAt (Connected l) station air P = (l.station ≡ station) × (l.air ≡ air) × P l
ConnectedAt other station air P = ⊥

-- a station that has a context at this air address, whose security is active (TS 36.331 5.3.4)
abbrev pub HasActive : Option (Context Term ℕ) → ℕ → (Context Term ℕ → Type 0) → Type 0
HasActive None air P = ⊥
HasActive (Some c) air P = (c.air ≡ air) × (c.starting ≡ false) × P c

abbrev pub ActiveAt : Option (Station Term ℕ) → ℕ → (Context Term ℕ → Type 0) → Type 0
ActiveAt None air P = ⊥
ActiveAt (Some s) air P = HasActive s.context air P

abbrev pub PhoneUses : Option (NasContext Term) → KeyUse Term → (NasContext Term → Type 0) → Type 0
PhoneUses None u P = ⊥
PhoneUses (Some c) u P = UsesRootOf c u × P c

abbrev pub CoreUses : Option (CoreContext Term) → KeyUse Term → (NasContext Term → Type 0) → Type 0
CoreUses None u P = ⊥
CoreUses (Some c) u P = UsesRootOf c.nas u × P c.nas

-- the COUNT of a record in the window of a bearer, and of a NAS context
abbrev pub InSrb : Srb → ℕ → Link Term ℕ → Type 0
InSrb srb count l = InWindow (srb_counts srb l.bearers).receive count on_srb

abbrev pub InDrb : Drb → ℕ → Link Term ℕ → Type 0
InDrb drb count l = InWindow (drb_counts drb l.bearers).receive count on_drb

abbrev pub InSrbOf : Srb → ℕ → Context Term ℕ → Type 0
InSrbOf srb count c = InWindow (srb_counts srb c.bearers).receive count on_srb

abbrev pub InDrbOf : Drb → ℕ → Context Term ℕ → Type 0
InDrbOf drb count c = InWindow (drb_counts drb c.bearers).receive count on_drb

abbrev pub InNas : ℕ → NasContext Term → Type 0
InNas count c = InWindow c.receive count on_nas

-- the receiver of a record is ready for it, and the use of the record is in the receiver's window: on the air, down, the
-- phone is connected at the record's station and air address; up, the station's context has that air address and is
-- active; on NAS, the receiver's context in use is of the KASME under which the record was sealed
abbrev pub ReadyFor : {S : Type 0} → World Term ℕ S → Outgoing Term ℕ → Type 0
ReadyFor w (UserPacket Down station air drb e text) = ConnectedAt w.phone.radio station air (InDrb drb e.under.count)
ReadyFor w (UserPacket Up station air drb e text) = ActiveAt (station_of_id station w.stations) air (InDrbOf drb e.under.count)
ReadyFor w (SealedRrc Down station air srb u e text) = ConnectedAt w.phone.radio station air (InSrb srb u.count)
ReadyFor w (SealedRrc Up station air srb u e text) = ActiveAt (station_of_id station w.stations) air (InSrbOf srb u.count)
ReadyFor w (SealedNas Down header u e text) = PhoneUses w.phone.context u (InNas u.count)
ReadyFor w (SealedNas Up header u e text) = CoreUses w.core.context u (InNas u.count)
ReadyFor w other = ⊥

-- BY CASES

connected_at : (radio : Radio Term ℕ) (id air count w : ℕ) (f : Bearers → ℕ) → IsConnectedAt radio id air → InWindow (next_of_phone radio f) count w
    → ConnectedAt radio id air (λ l. InWindow (f l.bearers) count w)
connected_at Idle id air count w f h k = absurd h
connected_at (Connecting waiting) id air count w f h k = absurd h
connected_at (Connected l) id air count w f h k = (h.0, h.1, k)

has_active : (o : Option (Context Term ℕ)) (air count w : ℕ) (f : Bearers → ℕ) → HasActiveAt o air → InWindow (next_of_context o f) count w
    → HasActive o air (λ c. InWindow (f c.bearers) count w)
has_active None air count w f h k = absurd h
has_active (Some c) air count w f h k = (h.0, h.1, k)

active_at : (o : Option (Station Term ℕ)) (air count w : ℕ) (f : Bearers → ℕ) → IsActiveAt o air → InWindow (next_of_station o f) count w
    → ActiveAt o air (λ c. InWindow (f c.bearers) count w)
active_at None air count w f h k = absurd h
active_at (Some s) air count w f h k = has_active s.context air count w f h k

phone_uses : (o : Option (NasContext Term)) (u : KeyUse Term) → PhoneHasRoot o u → InWindow (next_of_nas o) u.count on_nas → PhoneUses o u (InNas u.count)
phone_uses None u h k = absurd h
phone_uses (Some c) u h k = (h, k)

core_uses : (o : Option (CoreContext Term)) (u : KeyUse Term) → CoreHasRoot o u → InWindow (next_of_core o) u.count on_nas → CoreUses o u (InNas u.count)
core_uses None u h k = absurd h
core_uses (Some c) u h k = (h, k)

-- both together
pub ready_for : {S : Type 0} (w : World Term ℕ S) (x : Outgoing Term ℕ) → IsReady w x → InWindow (next_for w x) (count_of x) (window_of x) → ReadyFor w x
ready_for w (UserPacket Down id air drb e text) h k = connected_at w.phone.radio id air e.under.count on_drb (λ b. (drb_counts drb b).receive) h k
ready_for w (UserPacket Up id air drb e text) h k = active_at (station_of_id id w.stations) air e.under.count on_drb (λ b. (drb_counts drb b).receive) h k
ready_for w (SealedRrc Down id air srb u e text) h k = connected_at w.phone.radio id air u.count on_srb (λ b. (srb_counts srb b).receive) h k
ready_for w (SealedRrc Up id air srb u e text) h k = active_at (station_of_id id w.stations) air u.count on_srb (λ b. (srb_counts srb b).receive) h k
ready_for w (SealedNas Down header u e text) h k = phone_uses w.phone.context u h k
ready_for w (SealedNas Up header u e text) h k = core_uses w.core.context u h k
ready_for w (PlainNas octets) h k = absurd h
ready_for w (Between to fields key) h k = absurd h
