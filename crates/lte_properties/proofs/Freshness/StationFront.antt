-- What the choice of a station's row established, as its rows need it.
use Rattle.std.proofs.Common.{◌≡◌, refl, sym, ap, ◌∙◌, subst, ℕ, ◌<◌, true, List, Option, Some, None, Ok, ◌≤◌, arith, IfSome}
use Rattle.alg_choice.specs.{declared.algs.Algs.Algs, declared.caps.Caps.Caps}
use Rattle.annex_a_keys.specs.Cell.{Place}
use Rattle.lte_events.specs.declared.addresses.Address.{Address}
use Rattle.lte_events.specs.declared.addresses.Address.TheVariants.{StationS1, StationX2}
use Rattle.s1x2_rec.specs.{Content.map_content, Fields.Fields, Fields.InitialContext}
use Rattle.key_model.specs.{Term.Term, Reading.Reading, HandoverTable.NumberedKey}
use Rattle.ho_prep.specs.declared.origins.By.{By}
use Rattle.ho_prep.specs.Prep.{Prep, is_at, at_air}
use Rattle.lte_machine.specs.{Bearers.Which, Wire.KeyUse, Reply.unseen, StationState.Station, StationState.Interface, StationKeys.air_expects, StationKeys.prepared_expects, StationStep.plain_station}
use Rattle.lte_machine.specs.Opening.{Opening, Outcome, Opened}
use Rattle.lte_machine.specs.StationRows.{RecordRow, ContextGiven, PreparedByS1, PreparedByX2, KeyRenewed, AirRow, CompletedByS1, CompletedWithin, CompletedByX2}
use Rattle.lte_machine.specs.StationChoice.{air_front, air_row, record_row}
use Rattle.lte_properties.specs.ChainBelow.{AllOf}
use Rattle.lte_machine.proofs.RecordFacts.{RecordHas, record_has}
use Rattle.lte_machine.proofs.AirFacts.{Completes, AirHas, air_has}
use Rattle.lte_properties.proofs.{Freshness.Premises.srb_accepted, Freshness.Stands.PrepStands, Freshness.Stands.BetweenStands, ChainNumbers.Lists.OfSome, ChainNumbers.Lists.all_find}
use Rattle.lte_properties.proofs.Freshness.Uses.{home_at, Homes, OnKey}
use Rattle.lte_properties.proofs.Freshness.StationKeeps.{RecordNeeds, TakenHere, AirNeeds}

-- PDUS

module _ (taken : Homes) (s : Station Term ℕ) (air : ℕ) where
  -- a use that is accepted is of a KeNB that the phone took here
  abbrev OfTaken : Opening Term → Outcome → Type 0
  OfTaken opening outcome =
      (u : KeyUse Term) → srb_accepted opening outcome ≡ Some u → OnKey (λ t type. taken t ≡ Some (home_at s.id air)) u.key

  -- so what a preparation accepts was sealed with a key that the phone took here
  opened_taken : (count : ℕ) (text : List ℕ) (o : Option (Prep Term ℕ)) → OfSome (λ p. PrepStands s.next p) o →
      OfTaken (prepared_expects count o) (Opened text) → TakenHere taken s.id air o
  opened_taken count text None h f = tt
  opened_taken count text (Some p) h f =
      subst (λ k. OnKey (λ t type. taken t ≡ Some (home_at s.id air)) k) (ap (λ keys. keys.rrc_int) h.1) (f _ refl)

  -- the preparation at an air address stands
  prep_stands : (at : ℕ) → AllOf (PrepStands s.next) s.preps → OfSome (λ p. PrepStands s.next p) (at_air at s.preps)
  prep_stands at h = only_first (λ p. is_at at p ≡ true) (at_air at s.preps) (all_find (PrepStands s.next) (is_at at) s.preps h) where
    only_first : (Q : Prep Term ℕ → Type 0) (o : Option (Prep Term ℕ)) → OfSome (λ p. PrepStands s.next p × Q p) o → OfSome (λ p. PrepStands s.next p) o
    only_first Q None k = tt
    only_first Q (Some p) k = k.0

  module _ (r : Reading Term ℕ) (on : Which) (pdu : List ℕ) (outcome : Outcome) (h : AllOf (PrepStands s.next) s.preps)
      (accepts : OfTaken (air_expects (air_front (plain_station r s) air on pdu) s) outcome) where
    -- a completion is of a key that was taken here
    completes_needs : (at count : ℕ) (by : By) → Completes r s air on pdu outcome at count by → TakenHere taken s.id at (at_air at s.preps)
    completes_needs at count by (waits, (o, _)) =
        let here : OfTaken (prepared_expects count (at_air at s.preps)) (Opened o.text) =
        subst (OfTaken (prepared_expects count (at_air at s.preps))) o.opened (subst (λ front. OfTaken (air_expects front s) outcome) o.front_is accepts) in
        subst (λ a. TakenHere taken s.id a (at_air at s.preps)) (sym waits.at_is) (opened_taken count o.text (at_air at s.preps) (prep_stands at h) here)

    row_needs : (row : AirRow) → AirHas r s air on pdu outcome row → AirNeeds taken s row
    row_needs (CompletedByS1 at count) f = completes_needs at count By.S1 f
    row_needs (CompletedWithin at count origin) f = completes_needs at count (By.Intra f.0) f.2
    row_needs (CompletedByX2 at count number) f = completes_needs at count By.X2 f.2
    row_needs other f = tt

    -- a PDU of this air address
    pub air_row_needs : AirNeeds taken s (air_row (plain_station r s) (air_front (plain_station r s) air on pdu) outcome)
    air_row_needs = row_needs (air_row (plain_station r s) (air_front (plain_station r s) air on pdu) outcome) (air_has r s air on pdu outcome)

-- RECORDS

-- the station of an address on S1
abbrev s1_station : Address → ℕ
s1_station (StationS1 station) = station
s1_station other = 0

-- a record that is read at a station goes to it, where it goes on S1
abbrev pub GoesHere : Address → ℕ → Type 0
GoesHere to id = (station : ℕ) → to ≡ StationS1 station → id ≡ station

-- on S1 to the station
pub on_s1 : (id : ℕ) → GoesHere (StationS1 id) id
on_s1 id station e = ap s1_station e

-- on X2 it goes not on S1
pub on_x2 : (id : ℕ) → GoesHere (StationX2 id) id
on_x2 id station e = cc

-- what a record that stands gives the row that it comes to
module _ (given : Homes) (s : Station Term ℕ) (to : Address) (here : GoesHere to s.id) where
  -- an Initial Context
  context_needs : (conn : ℕ) (cell : Place) (caps : Caps) (algs : Algs) (air : ℕ) (k : NumberedKey Term ℕ) →
      BetweenStands given to (InitialContext conn cell caps) (Some k) → s.last < conn → air ≡ s.next →
      RecordNeeds given s (ContextGiven conn cell caps algs air) (Some k)
  context_needs conn cell caps algs air k b newer drawn =
      (newer, drawn, b.here ∙ ap (λ x. Some (home_at x conn)) (sym (here b.station b.is_to)), b.no_star)

  -- each row
  fits_needs : (r : Reading Term ℕ) (on : Interface) (fields : Fields) (key : Option (NumberedKey Term ℕ))
      (row : RecordRow) → BetweenStands given to fields key → RecordHas r s on fields row →
      RecordNeeds given s row key
  fits_needs r on fields (Some k) (ContextGiven conn cell caps algs air) b f =
      context_needs conn cell caps algs air k (subst (λ x. BetweenStands given to x (Some k)) f.fields_is b) f.newer f.air_is
  fits_needs r on fields key (PreparedByS1 w) b f = (f.admits.at_least, f.admits.air_is)
  fits_needs r on fields None (PreparedByX2 w) b f = (f.admits.at_least, f.admits.air_is, tt)
  fits_needs r on fields (Some k) (PreparedByX2 w) b f = (f.admits.at_least, f.admits.air_is, subst (λ x. BetweenStands given to x (Some k)) f.fields_is b)
  fits_needs r on fields key (KeyRenewed conn number air count) b f =
      (above f.newer, f.number_is, f.air_is, subst (λ o. IfSome o (λ c. count ≡ c.bearers.srb1.send)) (sym f.serving) f.count_is)
    where
      above : s.last < conn → s.last ≤ conn
      above lt = omega arith
  fits_needs r on fields other rest b f = tt

  -- a record that comes
  pub record_needs : (r : Reading Term ℕ) (interface : Interface) (fields : Fields) (key : Option (NumberedKey Term ℕ)) → BetweenStands given to fields key →
      RecordNeeds given s (record_row (plain_station r s) interface (Ok (map_content unseen r.ncc (record { fields = fields; key = key })))) key
  record_needs r interface fields key b = fits_needs r interface fields key _ b (record_has r s interface (record { fields = fields; key = key }))
