-- The keys of each actor, of what is in flight and of what anybody held; and what a step of an actor adds to them.
use Rattle.std.proofs.Common.{◌≡◌, refl, sym, ◌∙◌, subst, ℕ, ◌⊎◌, inl, inr, Bool, List, [], ◌∷◌, Option, Some, None, Err}
use Rattle.rec_base.specs.{declared.faults.RecFault.RecFault, declared.bearers.Bearer.Bearer}
use Rattle.lte_events.specs.{declared.acts.StationAct.StationAct, declared.addresses.Address.Address, declared.addresses.Address.TheVariants.StationS1, declared.answers.Answer.TheVariants.BadRecord, Site.Site}
use Rattle.key_model.specs.{Term.Term, HandoverTable.NumberedKey, Reading.Reading, Reading.term_reading_by}
use Rattle.s1x2_rec.specs.Fields.{Fields}
use Rattle.lte_machine.specs.{Bearers.which, Opening.Outcome, StationStep.plain_station, StationStep.station_step, CoreState.Core, Machines.content_of}
use Rattle.lte_machine.specs.Wire.{Outgoing, Between, address_of}
use Rattle.lte_machine.specs.Reply.{Tried, Reply, unseen}
use Rattle.lte_machine.specs.StationState.{Station, StationActs, AirPdu, StationRecord, Interface, OnS1, OnX2, map_read}
use Rattle.lte_machine.specs.StationRows.{RecordRow, RecordRefused, ContextGiven, PairTaken, PreparedByS1, PreparedByX2, KeyRenewed}
use Rattle.lte_machine.specs.StationChoice.{record_row, air_front, air_row, act_row}
use Rattle.lte_machine.specs.World.{World, with_one, next_root}
use Rattle.lte_properties.specs.ChainBelow.{AllOf}
use Rattle.lte_properties.specs.Separation.{AnyOf, Gives, GivenTo}
use Rattle.lte_machine.proofs.{RecordFacts.RecordHas, RecordFacts.record_has, StationActFacts.station_act_has, Routing.address_on, PhoneGives.NotBetween}
use Rattle.lte_properties.proofs.{ChainNumbers.Lists.OfSome, ChainNumbers.Lists.all_map, KeySeparation.Phone.PhoneOk, KeySeparation.CoreKeeps.CoreOk}
use Rattle.lte_properties.proofs.KeySeparation.Keys.{Gifts, GivesIn, given_split, May, MayHold, may_hold, StationOk, OwnCell, TriedOk, KeyGoes, FieldsOk, FlyOk, MadeOk, HoldOk, OwnPlace}
use Rattle.lte_properties.proofs.KeySeparation.Station.{StationKept, RecordNeeds, record_kept, air_kept, act_kept}
use Rattle.lte_properties.proofs.KeySeparation.CoreKeeps as core
use Rattle.annex_a_keys.specs.Cell.{Place}

-- THE INVARIANT

-- each key was given to one station
abbrev pub Once : List (Outgoing Term ℕ) → Type 0
Once xs = (t : Term) (a b : ℕ) → GivenTo xs t a → GivenTo xs t b → a ≡ b

-- the keys of each actor, of what is in flight and of what anybody held, beside all gifts and attempts that are known in the end
pub record HoldersIn (G : Gifts) (known : List (Tried Term ℕ)) (sites : List Site) (w : World Term ℕ (Outgoing Term ℕ)) : Type 0 where
  pub phone : PhoneOk w.phone
  pub core : CoreOk (next_root w) (GivenTo w.sent) w.core
  pub stations : AllOf (StationOk G sites) w.stations
  pub flying : AllOf (FlyOk G sites known) w.sent
  pub held : AllOf (HoldOk G sites) w.held
  pub once : Once w.sent
  pub tried : AllOf (TriedOk G) w.tried
  pub made : AllOf (MadeOk G sites known) w.made

-- these records and attempts are those of the world and later ones
pub record Within (xs : List (Outgoing Term ℕ)) (known : List (Tried Term ℕ)) (w : World Term ℕ (Outgoing Term ℕ)) : Type 0 where
  pub given : (t : Term) (a : ℕ) → GivenTo w.sent t a → GivenTo xs t a
  pub tried : AllOf (λ e. AnyOf (λ f. e ≡ f) known) w.tried

-- whatever is sent and tried later
abbrev pub Holders : List Site → World Term ℕ (Outgoing Term ℕ) → Type 0
Holders sites w = (xs : List (Outgoing Term ℕ)) (tried : List (Tried Term ℕ)) → Within xs tried w → HoldersIn (GivenTo xs) tried sites w

each_known : (es : List (Tried Term ℕ)) → AllOf (λ e. AnyOf (λ f. e ≡ f) es) es
each_known [] = tt
each_known (e ∷ es) = (inl refl, all_map (λ d. AnyOf (λ f. d ≡ f) es) (λ d. AnyOf (λ f. d ≡ f) (e ∷ es)) (λ d i. inr i) es (each_known es))

-- and nothing later
pub now : (sites : List Site) (w : World Term ℕ (Outgoing Term ℕ)) → Holders sites w → HoldersIn (GivenTo w.sent) w.tried sites w
now sites w h = h w.sent w.tried (record { given = λ t a g. g; tried = each_known w.tried })

-- one record gives a key to one station
gives_one : (t : Term) (a b : ℕ) (x : Outgoing Term ℕ) → Gives t a x → Gives t b x → a ≡ b
gives_one t a b (Between (StationS1 station) fields (Some key)) h k = sym h.1 ∙ k.1
gives_one t a b other h k = absurd h

module _ (x : Option (Outgoing Term ℕ)) (xs : List (Outgoing Term ℕ)) where
  given_by : (t : Term) (a b : ℕ) → GivesIn x t a → GivesIn x t b → a ≡ b
  given_by t a b h k = of x h k where
    of : (o : Option (Outgoing Term ℕ)) → GivesIn o t a → GivesIn o t b → a ≡ b
    of None h k = absurd h
    of (Some y) h k = gives_one t a b y h k

  pub once_one : ((t : Term) (a b : ℕ) → GivenTo xs t a → GivesIn x t b → ⊥) → Once xs → Once (with_one x xs)
  once_one fresh once t a b g h = by (given_split x xs t a g) (given_split x xs t b h) where
    by : GivenTo xs t a ⊎ GivesIn x t a → GivenTo xs t b ⊎ GivesIn x t b → a ≡ b
    by (inl k) (inl l) = once t a b k l
    by (inl k) (inr l) = absurd (fresh t a b k l)
    by (inr k) (inl l) = absurd (fresh t b a l k)
    by (inr k) (inr l) = given_by t a b k l

  -- a step that gives nothing leaves the core as it was
  pub core_stays : (roots : ℕ) (s : Core Term ℕ)
      → ((t : Term) (a : ℕ) → GivesIn x t a → ⊥)
      → CoreOk roots (GivenTo xs) s
      → CoreOk roots (GivenTo (with_one x xs)) s
  core_stays roots s none h = record {
    partial = h.partial;
    context = h.context;
    trigger = h.trigger;
    link = h.link;
    given = λ t id g. by t id (given_split x xs t id g);
  } where
    by : (t : Term) (id : ℕ) → GivenTo xs t id ⊎ GivesIn x t id → core.Past roots s.partial s.context s.trigger t × core.AtMost s.link t
    by t id (inl k) = h.given t id k
    by t id (inr k) = absurd (none t id k)

pub keyless_gives : (x : Option (Outgoing Term ℕ)) → NotBetween x → (t : Term) (a : ℕ) → GivesIn x t a → ⊥
keyless_gives (Some (Between to fields key)) h t a g = absurd h
keyless_gives other h t a g = g

-- THE STEP OF ONE ACTOR

-- what a step of a station keeps, with the key that it read
abbrev pub StationStepped : Gifts → List Site → List (Tried Term ℕ) → ℕ → Station Term ℕ × Reply Term ℕ → Type 0
StationStepped G sites tried id d =
    StationKept G sites tried id d.0 d.1.sent d.1.derived d.1.tried d.1.made × OfSome (MayHold G sites id) d.1.received

module _ (G : Gifts) (sites : List Site) (tried : List (Tried Term ℕ)) (same : Term → Term → Bool) (s : Station Term ℕ) (h : StationOk G sites s) where
  abbrev Stepped : Station Term ℕ × Reply Term ℕ → Type 0
  Stepped d = StationStepped G sites tried s.id d

  abbrev r : Reading Term ℕ
  r = term_reading_by same

  pub act_stepped : (act : StationAct) (outcome : Outcome) → Stepped (station_step r s (StationActs act) outcome)
  act_stepped act outcome = (act_kept G sites tried same s h.cells act (act_row (plain_station r s) act) (station_act_has r s act) h.keys, tt)

  pub air_stepped : (air : ℕ) (bearer : Bearer) (pdu : List ℕ) (outcome : Outcome) → Stepped (station_step r s (AirPdu air bearer pdu) outcome)
  air_stepped air bearer pdu outcome =
      (air_kept G sites tried same s h.cells (air_row (plain_station r s) (air_front (plain_station r s) air (which bearer) pdu) outcome) h.keys, tt)

  pub unread_stepped : (on : Interface) (fault : RecFault) (outcome : Outcome) → Stepped (station_step r s (StationRecord on (Err fault)) outcome)
  unread_stepped on fault outcome = (record_kept G sites tried same s h.cells (RecordRefused (BadRecord fault)) None tt h.keys, tt)

  -- a record with a key goes to a station that may have it, and with a KeNB* to the one of its cell
  goes_may : (on : Interface) (to : Address) (t : Term) → to ≡ address_on on s.id → KeyGoes G sites to t → May G sites s.id t × OwnCell sites s.id t
  goes_may OnS1 to t e k = subst (λ a. KeyGoes G sites a t) e k
  goes_may OnX2 to t e k = subst (λ a. KeyGoes G sites a t) e k

  own : (cell : Place) → OwnPlace s.cells s.id cell → OwnPlace sites s.id cell
  own cell = subst (λ l. OwnPlace l s.id cell) h.cells

  row_needs : (fields : Fields) (key : NumberedKey Term ℕ) → May G sites s.id key.key × OwnCell sites s.id key.key →
      FieldsOk tried fields (Some key) → (on : Interface) (row : RecordRow) → RecordHas r s on fields row →
      RecordNeeds G sites tried s.id row key
  row_needs fields key m f on (ContextGiven conn cell caps algs air) c = (m.0, subst (λ g. FieldsOk tried g (Some key)) c.fields_is f, own cell c.own)
  row_needs fields key m f on (PairTaken conn origin) c = m.0
  row_needs fields key m f on (PreparedByS1 w) c =
      (m.0, subst (λ g. FieldsOk tried g (Some key)) c.fields_is f, own w.cell c.admits.own)
  row_needs fields key m f on (PreparedByX2 w) c = (m.0, subst (λ g. FieldsOk tried g (Some key)) c.fields_is f, m.1, own w.cell c.admits.own)
  row_needs fields key m f on (KeyRenewed conn number air count) c = m.0
  row_needs fields key m f on other c = tt

  abbrev row_at : Interface → Outgoing Term ℕ → RecordRow
  row_at on x = record_row (plain_station (term_reading_by same) s) on (map_read unseen (term_reading_by same).ncc (content_of x))

  pub record_stepped : (on : Interface) (x : Outgoing Term ℕ) (outcome : Outcome) → address_of x ≡ address_on on s.id → FlyOk G sites tried x →
      Stepped (station_step (term_reading_by same) s (StationRecord on (content_of x)) outcome)
  record_stepped on (Between to fields None) outcome a f = (record_kept G sites tried same s h.cells (row_at on (Between to fields None)) None tt h.keys, tt)
  record_stepped on (Between to fields (Some key)) outcome a f =
      let m = goes_may on to key.key a f.0 in (
        record_kept G sites tried same s h.cells (row_at on (Between to fields (Some key))) (Some key)
            (row_needs fields key m f.1 on (row_at on (Between to fields (Some key))) (record_has r s on (record { fields = fields; key = Some key }))) h.keys,
        may_hold G sites s.id key.key m.0,
      )
  record_stepped on other outcome a f = unread_stepped on RecFault.Short outcome
