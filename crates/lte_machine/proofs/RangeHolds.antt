-- What of the actors and of what was sent is in range, in every world of every run.
use Rattle.std.proofs.Common.{ℕ, ◌≤◌, Option, Some, None, option_map, Result, Ok, Err}
use Rattle.std.specs.List.{AllByRecursion as AllOf}
use Rattle.rec_base.specs.{declared.faults.RecFault.RecFault, Ranges.IsNumber}
use Rattle.key_model.specs.{Chain.ncc_of, HandoverTable.NumberedKey, Term.Term}
use Rattle.s1x2_rec.specs.{Content.Content, Spelling.FieldsInRange}
use Rattle.s1x2_rec.specs.Fields.{Fields, InitialContext, PathSwitchAnswer, HandoverRequest, X2Request, ContextModification}
use Rattle.alg_choice.specs.Caps.{IsCaps}
use Rattle.annex_a_keys.specs.Cell.{IsCell}
use Rattle.ho_prep.specs.{declared.origins.By.By, Prep.Prep}
use Rattle.lte_events.specs.Ranges.{IsStationAct, IsCoreAct}
use Rattle.lte_machine.specs.{Reply.Origin, Wire.Outgoing, Wire.Between, World.World}
use Rattle.lte_machine.specs.StationState.{Station, Context, Attempt, StationInput, StationActs, AirPdu, StationRecord}
use Rattle.lte_machine.specs.CoreState.{Core, CorePartial, CoreContext, CoreLink, CoreInput, CoreAuth, CoreActs, CoreNasPdu, CoreRecord}
use Rattle.lte_machine.proofs.{RangeKeys.IsDerived, KnownLists.OfSome}

-- the key of a record is derived, and its NCC is at most this
abbrev pub HasKey : ℕ → Option (NumberedKey Term ℕ) → Type 0
HasKey greatest None = ⊥
HasKey greatest (Some k) = IsDerived k.key × (ncc_of k.number ≤ greatest)

abbrev pub HasNoKey : Option (NumberedKey Term ℕ) → Type 0
HasNoKey None = Unit {0}
HasNoKey (Some k) = ⊥

-- a key stands exactly in the four kinds that carry one
abbrev pub KeyRanged : Fields → Option (NumberedKey Term ℕ) → Type 0
KeyRanged (InitialContext conn cell caps) key = HasKey 0 key
KeyRanged (PathSwitchAnswer conn number) key = HasKey 7 key
KeyRanged (HandoverRequest conn source attempt cell caps) key = HasKey 7 key
KeyRanged (X2Request conn source attempt cell caps) key = HasKey 7 key
KeyRanged (ContextModification conn next) key = HasKey 0 key
KeyRanged other key = HasNoKey key

-- a record of S1 or X2 has its fields and its key in range
abbrev pub RecordRanged : Outgoing Term ℕ → Type 0
RecordRanged (Between to fields key) = FieldsInRange fields × KeyRanged fields key
RecordRanged other = Unit {0}

abbrev pub SentRanged : Option (Outgoing Term ℕ) → Type 0
SentRanged = OfSome RecordRanged

-- A STATION

-- the source and attempt of an X2 handover
abbrev pub OriginRanged : Option Origin → Type 0
OriginRanged None = Unit {0}
OriginRanged (Some o) = (o.source ≤ 7) × IsNumber o.attempt

abbrev pub ByRanged : By → Type 0
ByRanged By.X2 = Unit {0}
ByRanged By.S1 = Unit {0}
ByRanged (By.Intra origin) = OriginRanged (option_map (λ o. record { source = o.0; attempt = o.1 }) origin)

-- an attempt
abbrev pub AttemptRanged : {K C : Type 0} → Option (Attempt K C) → Type 0
AttemptRanged None = Unit {0}
AttemptRanged (Some a) = IsNumber a.number × IsCell a.cell

abbrev pub ContextRanged : {K C : Type 0} → Option (Context K C) → Type 0
ContextRanged None = Unit {0}
ContextRanged (Some c) = IsNumber c.conn × IsCell c.cell × IsCaps c.caps × AttemptRanged c.attempt × OriginRanged c.origin

abbrev pub PrepRanged : {K C : Type 0} → Prep K C → Type 0
PrepRanged p = IsNumber p.conn × (p.source ≤ 7) × IsNumber p.attempt × IsCell p.cell × IsCaps p.caps × ByRanged p.by

-- the next number that it draws is at least 1
abbrev pub StationRanged : {K C : Type 0} → Station K C → Type 0
StationRanged s = (s.id ≤ 7) × (1 ≤ s.next) × ContextRanged s.context × AllOf PrepRanged s.preps

-- what was read of a record that came
abbrev pub ReadRanged : {K C : Type 0} → Result (Content K C) RecFault → Type 0
ReadRanged (Ok content) = FieldsInRange content.fields
ReadRanged (Err fault) = Unit {0}

abbrev pub StationInputRanged : {K C : Type 0} → StationInput K C → Type 0
StationInputRanged (StationActs act) = IsStationAct act
StationInputRanged (AirPdu air bearer pdu) = Unit {0}
StationInputRanged (StationRecord interface read) = ReadRanged read

-- THE CORE

abbrev pub PartialRanged : {K : Type 0} → Option (CorePartial K) → Type 0
PartialRanged None = Unit {0}
PartialRanged (Some p) = IsCaps p.caps

abbrev pub CoreContextRanged : {K : Type 0} → Option (CoreContext K) → Type 0
CoreContextRanged None = Unit {0}
CoreContextRanged (Some c) = IsCaps c.caps

abbrev pub LinkRanged : {K C : Type 0} → Option (CoreLink K C) → Type 0
LinkRanged None = Unit {0}
LinkRanged (Some link) = IsNumber link.conn

abbrev pub CoreRanged : {K C : Type 0} → Core K C → Type 0
CoreRanged s = (1 ≤ s.next) × PartialRanged s.partial × CoreContextRanged s.context × LinkRanged s.link

abbrev pub CoreInputRanged : {K C : Type 0} → CoreInput K C → Type 0
CoreInputRanged (CoreAuth ksi root caps) = IsCaps caps
CoreInputRanged (CoreActs act) = IsCoreAct act
CoreInputRanged (CoreNasPdu pdu) = Unit {0}
CoreInputRanged (CoreRecord read) = ReadRanged read

-- THE WORLD

abbrev pub Ranged : World Term ℕ (Outgoing Term ℕ) → Type 0
Ranged w = CoreRanged w.core × AllOf StationRanged w.stations × AllOf RecordRanged w.sent
