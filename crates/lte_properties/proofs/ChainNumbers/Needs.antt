-- A record that comes supplies what its row needs, and the phone sends no pair.
use Rattle.std.proofs.Common.{◌≡◌, refl, sym, ap, ◌∙◌, subst, ℕ, ◌≤◌, Bool, List, Option, Some, None, Ok, Err}
use Rattle.rec_base.specs.{declared.bearers.Bearer.Bearer, declared.faults.RecFault.RecFault}
use Rattle.lte_events.specs.{declared.acts.StationAct.StationAct, declared.addresses.Address.Address, declared.addresses.Address.TheVariants.StationS1, declared.answers.Answer.TheVariants.BadRecord}
use Rattle.key_model.specs.{Term.Term, HandoverTable.NumberedKey, Reading.Reading, Reading.term_reading_by}
use Rattle.s1x2_rec.specs.Fields.{Fields, ContextRelease, PathSwitchAnswer}
use Rattle.lte_machine.specs.{Bearers.which, Opening.Outcome, PhoneState.Phone, PhoneRows.PhoneRow, PhoneKeys.phone_does, StationStep.plain_station, StationStep.station_step, Machines.content_of}
use Rattle.lte_machine.specs.Reply.{Origin, Reply, unseen}
use Rattle.lte_machine.specs.Wire.{Outgoing, Between, address_of}
use Rattle.lte_machine.specs.StationState.{Station, Context, StationActs, AirPdu, StationRecord, Interface, map_read}
use Rattle.lte_machine.specs.StationRows.{RecordRow, PairTaken, PreparedByS1, PreparedByX2, OfRecord}
use Rattle.lte_machine.specs.StationChoice.{record_row, air_front, air_row, act_row}
use Rattle.lte_machine.proofs.{Routing.address_on, PhoneGives.NotBetween, PhoneGives.phone_gives, AirFacts.AirHas, AirFacts.air_has, StationActFacts.StationActHas, StationActFacts.station_act_has}
use Rattle.lte_properties.specs.ChainBelow.{StationBelow, conn_of, RecordBelow}
use Rattle.lte_properties.specs.ChainAbove.{AnswerOk, AnswerTo, StationAbove, InFlight}
use Rattle.lte_properties.proofs.ChainNumbers.RowFacts.{PairNeeds, RecordNeeds, RowNeeds}
use Rattle.lte_machine.proofs.StationCases.{record_case, air_case, act_case}
use Rattle.lte_machine.proofs.RecordFacts.{Takes, RecordHas, record_has}
use Rattle.lte_properties.proofs.ChainNumbers.Station.{Kept, record_kept, air_kept, act_kept}
use Rattle.lte_properties.proofs.ChainNumbers.Core.{Plainly}

-- what an answer in these fields tells of a context
abbrev Answers : Option (Context Term ℕ) → Fields → ℕ → Type 0
Answers o fields n = (asked number : ℕ) → fields ≡ PathSwitchAnswer asked number → AnswerOk o asked number n

-- on S1 an answer fits the station that it goes to
answers_on_s1 : (s : Station Term ℕ) (to : Address) (fields : Fields) (key : NumberedKey Term ℕ)
    → to ≡ StationS1 s.id
    → InFlight s (Between to fields (Some key))
    → Answers s.context fields key.number
answers_on_s1 s to fields key e h asked number f =
    let k = subst (λ a. AnswerTo a s asked number key.number) e (subst (λ g. InFlight s (Between to g (Some key))) f h) in
    (k refl).1

-- a record with a key supplies what its row needs
module _ (top : ℕ → ℕ) (same : Term → Term → Bool) (s : Station Term ℕ) (on : Interface) (to : Address)
    (fields : Fields) (key : NumberedKey Term ℕ) (goes : to ≡ address_on on s.id)
    (below : key.number ≤ top (conn_of fields)) (flies : InFlight s (Between to fields (Some key))) where
  taken_needs : (conn : ℕ) (origin : Option Origin) → Takes s on fields conn origin → PairNeeds top key.number s.context
  taken_needs conn origin f =
      let k : AnswerOk (Some f.context) f.asked f.number key.number =
      subst (λ o. AnswerOk o f.asked f.number key.number) f.serving
      (answers_on_s1 s to fields key (goes ∙ ap (λ o. address_on o s.id) f.on_is) flies f.asked f.number f.fields_is) in
      let h = k f.outstanding in
      subst (PairNeeds top key.number) (sym f.serving) (h.1, subst (λ n. key.number ≤ top n) (ap conn_of f.fields_is ∙ sym h.0) below)

  row_needs : (row : RecordRow) → RecordHas (term_reading_by same) s on fields row → RecordNeeds top s row key
  row_needs (PairTaken conn origin) f = taken_needs conn origin f
  row_needs (PreparedByS1 w) f = subst (λ n. key.number ≤ top n) (ap conn_of f.fields_is) below
  row_needs (PreparedByX2 w) f = subst (λ n. key.number ≤ top n) (ap conn_of f.fields_is) below
  row_needs other f = tt

abbrev RecordOf : (Term → Term → Bool) → Station Term ℕ → Interface → Fields → Option (NumberedKey Term ℕ) → RecordRow
RecordOf same s on fields key =
    record_row (plain_station (term_reading_by same) s) on
    (map_read unseen (term_reading_by same).ncc (Ok (record { fields = fields; key = key })))

-- A STEP OF A STATION

abbrev pub StepKept : (ℕ → ℕ) → Station Term ℕ → Station Term ℕ × Reply Term ℕ → Type 0
StepKept top s d = Kept top s.id s.next s.context d.0 d.1.sent

module _ (top : ℕ → ℕ) (same : Term → Term → Bool) (s : Station Term ℕ) (below : StationBelow top s) (above : StationAbove s) where
  abbrev r : Reading Term ℕ
  r = term_reading_by same

  abbrev Keeps : Station Term ℕ × Reply Term ℕ → Type 0
  Keeps d = StepKept top s d

  pub act_step_kept : (act : StationAct) (outcome : Outcome) → StepKept top s (station_step r s (StationActs act) outcome)
  act_step_kept act outcome =
      act_case r s Keeps (StationActHas r s act) (act_kept top same s below above act) (act_row (plain_station r s) act)
      (station_act_has r s act)

  pub air_step_kept : (air : ℕ) (bearer : Bearer) (pdu : List ℕ) (outcome : Outcome) → StepKept top s (station_step r s (AirPdu air bearer pdu) outcome)
  air_step_kept air bearer pdu outcome =
      air_case r s Keeps (AirHas r s air (which bearer) pdu outcome) (air_kept top same s below above air (which bearer) pdu outcome)
      (air_row (plain_station r s) (air_front (plain_station r s) air (which bearer) pdu) outcome) (air_has r s air (which bearer) pdu outcome)

  between_kept : (on : Interface) (fields : Fields) (key : Option (NumberedKey Term ℕ)) (outcome : Outcome) →
      RowNeeds top s (OfRecord (RecordOf same s on fields key)) key →
      StepKept top s (station_step r s (StationRecord on (Ok (record { fields = fields; key = key }))) outcome)
  between_kept on fields key outcome n =
      record_case r s Keeps (λ row key. RecordHas r s on fields row × RowNeeds top s (OfRecord row) key)
      (record_kept top same s below above on fields) (RecordOf same s on fields key) key
      (record_has r s on (record { fields = fields; key = key }), n)

  -- a record that was not sent, and one that was
  pub unread_step_kept : (on : Interface) (fault : RecFault) (outcome : Outcome) → StepKept top s (station_step r s (StationRecord on (Err fault)) outcome)
  unread_step_kept on fault outcome = (record_kept top same s below above on (ContextRelease 0)).nothing (BadRecord fault)

  pub record_step_kept : (on : Interface) (x : Outgoing Term ℕ) (outcome : Outcome) → address_of x ≡ address_on on s.id → RecordBelow top x → InFlight s x →
      StepKept top s (station_step r s (StationRecord on (content_of x)) outcome)
  record_step_kept on (Between to fields None) outcome a b h = between_kept on fields None outcome tt
  record_step_kept on (Between to fields (Some key)) outcome a b h =
      between_kept on fields (Some key) outcome
      (row_needs top same s on to fields key a b h (RecordOf same s on fields (Some key)) (record_has r s on (record { fields = fields; key = Some key })))
  record_step_kept on other outcome a b h = unread_step_kept on RecFault.Short outcome

-- THE PHONE SENDS NOTHING ON S1 AND X2

-- and so no pair
none_between : (o : Option (Outgoing Term ℕ)) → NotBetween o → Plainly o
none_between (Some (Between to fields key)) h = absurd h
none_between other h = ((λ top. tt), (λ u. tt))

pub phone_does_plain : (same : Term → Term → Bool) (row : PhoneRow) (root : Option Term) (s : Phone Term ℕ)
    → Plainly (phone_does (term_reading_by same) row root s).1.sent
phone_does_plain same row root s = none_between (phone_does (term_reading_by same) row root s).1.sent (phone_gives same row root s).0
