-- What a step of a station keeps of the keys that it has and uses, and what a row needs for it.
use Rattle.std.proofs.Common.{◌≡◌, refl, sym, ◌∙◌, subst₂, ℕ, ◌+◌, ◌<◌, ◌≤◌, Bool, true, false, Option, Some, None, option_map, arith}
use Rattle.std.specs.Prelude.{IfSome, ⊤}
use Rattle.rec_base.specs.declared.uses.Dir.TheVariants.{Down}
use Rattle.key_model.specs.{Term.Term, HandoverTable.NumberedKey}
use Rattle.nh_chain.specs.Station.{StationKey, restored_if}
use Rattle.ho_prep.specs.Prep.{Prep, at_air}
use Rattle.pdcp_guard.specs.AsKeys.{AsKeys}
use Rattle.lte_machine.specs.{Wire.KeyUse, Wire.Outgoing, StationState.Station, StationState.Context, World.uses_in}
use Rattle.lte_machine.specs.StationRows.{RecordRow, ContextGiven, PreparedByS1, PreparedByX2, AirRow, CompletedByS1, CompletedWithin, CompletedByX2, KeyRenewed}
use Rattle.lte_properties.specs.ChainBelow.{AllOf}
use Rattle.lte_properties.proofs.Freshness.Uses.{Home, home_at, Homes, OnKey, IsAs, is_star, home, NoneWaits, IsSpent, ContextAhead, AsDown, StationUse, AllApart}
use Rattle.lte_properties.proofs.Freshness.Stands.{ContextStands, Sits, StationStands, RecordStands}
use Rattle.lte_properties.proofs.Freshness.Bearers.{Rise, rise_same, below_stays}

-- STEPS

-- a place that is spent stays so
pub record Later (s t : Station Term ℕ) : Type 0 where
  pub same : t.id ≡ s.id
  pub next : s.next ≤ t.next
  pub last : s.last ≤ t.last
  pub free : (air : ℕ) → air < s.next → NoneWaits air s.preps → NoneWaits air t.preps

-- by the kind of the place
pub later_spent : (s t : Station Term ℕ) → Later s t → (b : Bool) (place : ℕ) → IsSpent b place s.next s.last s.preps → IsSpent b place t.next t.last t.preps
later_spent s t l true place h = (let k = l.next in let x = h.0 in omega arith, l.free place h.0 h.1)
later_spent s t l false place h = let k = l.last in omega arith

-- a context goes, or stays with its KeNB and keys, and no COUNT falls
abbrev pub Stays : Context Term ℕ → Context Term ℕ → Type 0
Stays c d = (d.key.kenb ≡ c.key.kenb) × (d.keys ≡ c.keys) × Rise c.bearers d.bearers

-- by whether there is one
abbrev pub ContextStays : Option (Context Term ℕ) → Option (Context Term ℕ) → Type 0
ContextStays o None = ⊤
ContextStays None (Some d) = ⊥
ContextStays (Some c) (Some d) = Stays c d

-- a context that does not change stays
pub stays_same : (o : Option (Context Term ℕ)) → ContextStays o o
stays_same None = tt
stays_same (Some c) = (refl, refl, rise_same c.bearers)

-- so does one that changes in other parts
pub stays_map : (f : Context Term ℕ → Context Term ℕ) → ((c : Context Term ℕ) → Stays c (f c)) → (o : Option (Context Term ℕ)) → ContextStays o (option_map f o)
stays_map f h None = tt
stays_map f h (Some c) = h c

-- a pair that goes back leaves the KeNB
pub restored_kenb : (key : StationKey Term ℕ) (o : Option (NumberedKey Term ℕ)) → (restored_if key o).kenb ≡ key.kenb
restored_kenb key None = refl
restored_kenb key (Some back) = refl

module _ (taken given : Homes) where
  -- a KeNB and its keys that sit at a station sit there later
  sits_later : (s t : Station Term ℕ) → Later s t → (kenb : Term) (keys : AsKeys Term) → Sits taken given s kenb keys → Sits taken given t kenb keys
  sits_later s t l kenb keys h =
      record { at = h.at; is = h.is; here = h.here ∙ sym l.same; spent = later_spent s t l (is_star kenb) h.at.place h.spent; keys = h.keys }

  -- so the context stands later
  pub context_later : (s t : Station Term ℕ) → Later s t → (o n : Option (Context Term ℕ)) → ContextStays o n →
      IfSome o (ContextStands taken given s) → IfSome n (ContextStands taken given t)
  context_later s t l o None h k = tt
  context_later s t l None (Some d) h k = absurd h
  context_later s t l (Some c) (Some d) h k = subst₂ (Sits taken given t) (sym h.0) (sym h.1) (sits_later s t l c.key.kenb c.keys k)

-- and the next COUNTs of a context that stays are above
pub ahead_later : (o n : Option (Context Term ℕ)) → ContextStays o n → (k : Term) (type count bearer : ℕ)
    → ContextAhead o k type count bearer → ContextAhead n k type count bearer
ahead_later o None h k type count bearer u = tt
ahead_later None (Some d) h k type count bearer u = absurd h
ahead_later (Some c) (Some d) h k type count bearer u = λ e. below_stays type bearer c.bearers d.bearers count h.2 (u (e ∙ h.0))

-- a use that the station had not made before, and has made now, of a key whose home it is
abbrev pub IsOwn : Homes → Homes → ℕ → KeyUse Term → Type 0
IsOwn taken given id u = OnKey (λ k type. IsAs type × ((h : Home) × (home taken given k ≡ Some h) × (h.station ≡ id))) u.key

-- a use that is new at a station
abbrev pub NewAt : Homes → Homes → Station Term ℕ → Station Term ℕ → KeyUse Term → Type 0
NewAt taken given s t u = record {
  down : u.dir ≡ Down;
  own : IsOwn taken given s.id u;
  now : StationUse taken given t u;
  news : StationUse taken given s u → ⊥;
}

-- what a step of a station keeps
pub record StationKeeps (taken given : Homes) (s t : Station Term ℕ) (sent : Option (Outgoing Term ℕ)) : Type 0 where
  pub same : t.id ≡ s.id
  pub stands : StationStands taken given t
  pub old : (k : Term) (type count bearer : ℕ) → AsDown taken given s k type count bearer → AsDown taken given t k type count bearer
  pub uses : AllOf (NewAt taken given s t) (uses_in sent)
  pub apart : AllApart (uses_in sent)
  pub sends : IfSome sent (RecordStands taken given)

-- WHAT A ROW NEEDS

-- a KeNB that is given is for this station and a newer connection; a preparation is of no older connection, draws the next
-- air address, and has a KeNB*; a key change draws two numbers, and its order takes the next COUNT of SRB1
abbrev pub RecordNeeds : Homes → Station Term ℕ → RecordRow → Option (NumberedKey Term ℕ) → Type 0
RecordNeeds given s (ContextGiven conn cell caps algs air) key =
    IfSome key (λ k. (s.last < conn) × (air ≡ s.next) × (given k.key ≡ Some (home_at s.id conn)) × (is_star k.key ≡ false))
RecordNeeds given s (PreparedByS1 w) key = (s.last ≤ w.conn) × (w.air ≡ s.next)
RecordNeeds given s (PreparedByX2 w) key = (s.last ≤ w.conn) × (w.air ≡ s.next) × IfSome key (λ k. is_star k.key ≡ true)
RecordNeeds given s (KeyRenewed conn number air count) key =
    (s.last ≤ conn) × (number ≡ s.next) × (air ≡ s.next + 1) × IfSome s.context (λ c. count ≡ c.bearers.srb1.send)
RecordNeeds given s other key = ⊤

-- the phone took the key of a preparation that completes, at this station and its air address
abbrev pub TakenHere : Homes → ℕ → ℕ → Option (Prep Term ℕ) → Type 0
TakenHere taken id air o = IfSome o (λ p. taken p.key.kenb ≡ Some (home_at id air))

abbrev pub AirNeeds : Homes → Station Term ℕ → AirRow → Type 0
AirNeeds taken s (CompletedByS1 air count) = TakenHere taken s.id air (at_air air s.preps)
AirNeeds taken s (CompletedWithin air count origin) = TakenHere taken s.id air (at_air air s.preps)
AirNeeds taken s (CompletedByX2 air count number) = TakenHere taken s.id air (at_air air s.preps)
AirNeeds taken s other = ⊤
