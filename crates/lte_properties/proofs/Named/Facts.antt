-- Which stations are named by what the actors hold and by what was sent between them.
use Rattle.std.proofs.Common.{◌≡◌, ℕ, List, Option, Some, None, option_map, Result, Ok, Err}
use Rattle.std.specs.Prelude.{⊤}
use Rattle.rec_base.specs.declared.faults.RecFault.{RecFault}
use Rattle.lte_events.specs.Site.{Site}
use Rattle.ho_prep.specs.{declared.origins.By.By, Prep.Prep}
use Rattle.s1x2_rec.specs.Content.{Content}
use Rattle.s1x2_rec.specs.Fields.{Fields, PathSwitchRequest, HandoverRequired, HandoverRequest, HandoverRequestAck, HandoverNotify, X2Request}
use Rattle.lte_machine.specs.{Reply.Origin, Wire.Outgoing, Wire.Between}
use Rattle.lte_machine.specs.StationState.{Station, Context, Via, OverX2, Attempt, StationInput, StationRecord}
use Rattle.lte_machine.specs.CoreState.{Core, CoreLink, CoreInput, CoreRecord}
use Rattle.lte_properties.specs.{ChainBelow.AllOf, Reach.IsAmong}

-- by whatever says that a station is one of them
module _ (P : ℕ → Type 0) where
  abbrev pub OriginNamed : Option Origin → Type 0
  OriginNamed None = ⊤
  OriginNamed (Some o) = P o.source

  abbrev pub ByNamed : By → Type 0
  ByNamed (By.Intra origin) = OriginNamed (option_map (λ o. record { source = o.0; attempt = o.1 }) origin)
  ByNamed other = ⊤

  abbrev pub PrepNamed : {K C : Type 0} → Prep K C → Type 0
  PrepNamed p = P p.source × ByNamed p.by

  -- the target of an attempt over X2
  abbrev pub TargetNamed : Via → ℕ → Type 0
  TargetNamed OverX2 station = P station
  TargetNamed other station = ⊤

  abbrev pub AttemptNamed : {K C : Type 0} → Option (Attempt K C) → Type 0
  AttemptNamed None = ⊤
  AttemptNamed (Some a) = TargetNamed a.via a.station

  abbrev pub ContextNamed : {K C : Type 0} → Option (Context K C) → Type 0
  ContextNamed None = ⊤
  ContextNamed (Some c) = AttemptNamed c.attempt × OriginNamed c.origin

  abbrev pub StationNamed : {K C : Type 0} → List Site → Station K C → Type 0
  StationNamed cells s = P s.id × (s.cells ≡ cells) × ContextNamed s.context × AllOf (λ p. PrepNamed p) s.preps

  abbrev pub LinkNamed : {K C : Type 0} → Option (CoreLink K C) → Type 0
  LinkNamed None = ⊤
  LinkNamed (Some link) = P link.station

  abbrev pub CoreNamed : {K C : Type 0} → List Site → Core K C → Type 0
  CoreNamed cells s = (s.cells ≡ cells) × LinkNamed s.link

  -- the stations in a record on S1 or X2, and the one that it goes to
  abbrev pub FieldsNamed : Fields → Type 0
  FieldsNamed (PathSwitchRequest conn station number cell caps) = P station
  FieldsNamed (HandoverRequired conn station attempt cell) = P station
  FieldsNamed (HandoverRequest conn source attempt cell caps) = P source
  FieldsNamed (HandoverRequestAck conn source attempt cell ncc algs air) = P source
  FieldsNamed (HandoverNotify conn station cell) = P station
  FieldsNamed (X2Request conn source attempt cell caps) = P source
  FieldsNamed other = ⊤

  abbrev pub RecordNamed : {K C : Type 0} → Outgoing K C → Type 0
  RecordNamed (Between to fields key) = IsAmong P to × FieldsNamed fields
  RecordNamed other = ⊤

  abbrev pub SentNamed : {K C : Type 0} → Option (Outgoing K C) → Type 0
  SentNamed None = ⊤
  SentNamed (Some x) = RecordNamed x

  abbrev pub ReadNamed : {K C : Type 0} → Result (Content K C) RecFault → Type 0
  ReadNamed (Ok content) = FieldsNamed content.fields
  ReadNamed (Err fault) = ⊤

  abbrev pub InputNamed : {K C : Type 0} → StationInput K C → Type 0
  InputNamed (StationRecord interface read) = ReadNamed read
  InputNamed other = ⊤

  abbrev pub CoreInputNamed : {K C : Type 0} → CoreInput K C → Type 0
  CoreInputNamed (CoreRecord read) = ReadNamed read
  CoreInputNamed other = ⊤
