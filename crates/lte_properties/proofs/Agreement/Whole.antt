-- Agreement of phone and stations in every world of every run.
use Rattle.std.proofs.Common.{◌≡◌, ◌≤◌, ℕ, zero, suc, Bool, List, [], ◌∷◌, Option, Some, None}
use Rattle.lte_events.specs.{declared.events.Event.Event, declared.setups.Setup.Setup, Site.Site, Ranges.IsSetup, Ranges.IsEvent}
use Rattle.key_model.specs.{Term.Term, Term.Root, HandoverTable.NumberedKey}
use Rattle.s1x2_rec.specs.Fields.{Fields}
use Rattle.lte_machine.specs.{Wire.KeyUse, Wire.Outgoing, Ciphers.Ciphers, Ciphers.octets_of, Opening.Opening, Opening.Outcome, Reply.Took, World.Machine, World.happens, Machines.machine_over, Machines.sender_of, Run.first_world, StationState.Station, StationState.Context}
use Rattle.lte_machine.specs.PhoneState.{Radio, Idle, Connecting, Connected}
use Rattle.lte_properties.specs.{ChainBelow.AllOf, Chains.ChainsHold}
use Rattle.lte_properties.specs.ChainHolds.{machine_by, run, noted, core_numbers, Holds}
use Rattle.lte_properties.specs.Agreement.{Agrees, NoneEver, CompletedLines, KeysTold}
use Rattle.lte_properties.proofs.Agreement.Openings.{Honest, Calm, Along, OpensByTerms}
use Rattle.lte_properties.proofs.ChainNumbers.World.{happens_holds, run_holds, first_holds}
use Rattle.lte_properties.proofs.{Freshness.PhoneUses.RadioInOrder, Freshness.PhoneUses.PhoneFresh, Agreement.Later.later_itself, Agreement.ToldIsFound.SiteOk, Agreement.StationContext.CellFits, ChainNumbers.Lists.all_map, SameKeys.IsReflexive, Agreement.Lines.line_told, Agreement.Chains.are_chains, Agreement.Noted.keys_told, Agreement.Calm.NewKenb, Agreement.Calm.calm_at, Agreement.Opener.honest, Agreement.Opener.octets_tell}
use Rattle.lte_properties.proofs.Freshness.PhoneRun.{in_order, happens_order, first_order, phone_always_in_order}
use Rattle.lte_properties.proofs.Agreement.World.{Conns, ghost, WorldOk, OctetsTell, Settled}
use Rattle.lte_properties.proofs.Agreement.Events.{fits_after, RunGoes, happens_goes, run_goes}
use Rattle.lte_properties.proofs.Agreement.Holds.{cells_of, no_conns, first_ok, first_fits, agrees, none_before, of_each}
use Rattle.lte_properties.proofs.Agreement.Follows.{InTurn, happens_in_turn, in_turn}
use Rattle.lte_machine.proofs.RangeHolds.{ContextRanged, StationRanged, Ranged}
use Rattle.lte_machine.proofs.{RangeWorld.ranged_keeps, RangeWorld.first_ranged, CipherLaws.AreCiphers, Worlds.TheWorld}

-- the four statements of a run: in the world after these events, of far commands in each world on the way, of the lines of
-- completed handovers, and of what each line tells
abbrev pub AgreementHolds : Machine Term ℕ (Outgoing Term ℕ) → Setup → List Event → Type 0
AgreementHolds m setup events =
    Agrees (run m (first_world setup) events) × NoneEver m (first_world setup) events
    × CompletedLines m (first_world setup) events × KeysTold m (first_world setup) events

-- WHAT OTHER INVARIANTS SAY

-- the cells of contexts are cells
cells_fit : (ss : List (Station Term ℕ)) → AllOf StationRanged ss → AllOf (λ s. CellFits s.context) ss
cells_fit ss h = all_map StationRanged (λ s. CellFits s.context) (λ s k. of_context s.context k.2) ss h
  where
    of_context : (o : Option (Context Term ℕ)) → ContextRanged o → CellFits o
    of_context None k = tt
    of_context (Some c) k = k.1

settled_by : (w : TheWorld) → PhoneFresh w → InTurn w → Ranged w → Settled w
settled_by w fresh turn ranged = record { turn = turn; order = in_order w fresh; fits = cells_fit w.stations ranged.1 }

-- where the phone waits with a KeNB that it never took
pub new_kenb : (radio : Radio Term ℕ) (took : List (Took Term ℕ)) → RadioInOrder took radio → NewKenb took radio
new_kenb Idle took h = tt
new_kenb (Connecting w) took h = λ x i. of_each (λ y. y.key ≡ w.kenb → ⊥) took x h.1 i
new_kenb (Connected l) took h = tt

-- an opener by terms is honest along every run
pub honest_along : (same : Term → Term → Bool) (root : ℕ → List ℕ → Term) (octets : Outgoing Term ℕ → List ℕ)
    (sender : Option (Outgoing Term ℕ) → Option (KeyUse Term))
    (opener : Opening Term → List ℕ → Option (Outgoing Term ℕ) → Outcome) (c : Ciphers Term)
    → OpensByTerms c opener
    → (w : TheWorld) (es : List Event) → Along (Honest (machine_by same root octets sender opener)) (machine_by same root octets sender opener) w es
honest_along same root octets sender opener c is w [] = tt
honest_along same root octets sender opener c is w (e ∷ es) = (
  honest same root octets sender opener c is w e,
  honest_along same root octets sender opener c is (happens (machine_by same root octets sender opener) w e).0 es,
)

module _ (same : Term → Term → Bool) (itself : IsReflexive same) (octets : Outgoing Term ℕ → List ℕ)
    (sender : Option (Outgoing Term ℕ) → Option (KeyUse Term))
    (opener : Opening Term → List ℕ → Option (Outgoing Term ℕ) → Outcome) where
  abbrev settling : Machine Term ℕ (Outgoing Term ℕ)
  settling = machine_by same Root octets sender opener

  -- each world of a run is settled
  pub settled_along : (w : TheWorld) (es : List Event) → PhoneFresh w → InTurn w → Ranged w → AllOf IsEvent es → Along (λ v e. Settled v) settling w es
  settled_along w [] fresh turn ranged is = tt
  settled_along w (e ∷ es) fresh turn ranged is = (
    settled_by w fresh turn ranged,
    settled_along (happens settling w e).0 es (happens_order same itself octets sender opener w fresh e)
        (happens_in_turn same Root octets sender opener w turn e)
        (ranged_keeps same Root octets sender opener w e is.0 ranged) is.1,
  )

  pub settled_from_first : (setup : Setup) → IsSetup setup → (es : List Event) → AllOf IsEvent es → Along (λ v e. Settled v) settling (first_world setup) es
  settled_from_first setup is es each =
      settled_along (first_world setup) es (first_order same itself octets sender opener setup) (tt, tt) (first_ranged setup is) each

module _ (same : Term → Term → Bool) (root : ℕ → List ℕ → Term) (octets : Outgoing Term ℕ → List ℕ)
    (sender : Option (Outgoing Term ℕ) → Option (KeyUse Term))
    (opener : Opening Term → List ℕ → Option (Outgoing Term ℕ) → Outcome) (tell : OctetsTell octets) (cells : List Site)
    (cells_ok : AllOf SiteOk cells) where
  abbrev m : Machine Term ℕ (Outgoing Term ℕ)
  m = machine_by same root octets sender opener

  -- each event of a run is calm
  calm_along : (top : ℕ → ℕ) (c : Conns) (w : TheWorld) (es : List Event) → Holds top w → WorldOk cells c w → AllOf IsEvent es
      → Along (λ v e. Settled v) m w es → Along (Honest m) m w es → Along (Calm m) m w es
  calm_along top c w [] holds h is settled honest = tt
  calm_along top c w (e ∷ es) holds h is settled honest =
      let u = (happens m w e).0 in
      let calm = calm_at same root octets sender opener tell cells c w e h (new_kenb w.phone.radio w.took settled.0.order.1) honest.0 in
      let step = happens_goes same root octets sender opener tell cells cells_ok c w e is.0 h settled.0 holds.above holds.flight honest.0 calm in
      let next = happens_holds same root octets sender opener top w e holds in
      (calm, calm_along (noted u.core.link top) step.0 u es next step.2 is.1 settled.1 honest.1)

  -- in each world of a run no context has an air address where the phone took a far key by the end of it
  none_ever : (top : ℕ → ℕ) (c : Conns) (w : TheWorld) (es : List Event)
      → Holds top w
      → WorldOk cells c w
      → ((conn : ℕ) → c.top conn ≤ top conn)
      → AllOf IsEvent es
      → Along (λ v e. Settled v) m w es → Along (Honest m) m w es → Along (Calm m) m w es → NoneEver m w es
  none_ever top c w es holds h fits is settled honest calm zero =
      let g = run_goes same root octets sender opener tell cells cells_ok top c w es holds h fits is settled honest calm in
      none_before cells c g.0 w (run m w es) g.1 h g.2
  none_ever top c w [] holds h fits is settled honest calm (suc n) = none_before cells c c w w (later_itself (ghost c w)) h h
  none_ever top c w (e ∷ es) holds h fits is settled honest calm (suc n) =
      let u = (happens m w e).0 in
      let (d, _, ok, off) = happens_goes same root octets sender opener tell cells cells_ok c w e is.0 h settled.0 holds.above holds.flight honest.0 calm.0 in
      let next = happens_holds same root octets sender opener top w e holds in
      none_ever (noted u.core.link top) d u es next ok
      (fits_after same root octets sender opener tell cells cells_ok top c d u ok off fits) is.1
      settled.1 honest.1 calm.1 n

  -- at each line of a completed handover the phone had taken the new context's key
  lines_along : (top : ℕ → ℕ) (c : Conns) (w : TheWorld) (es : List Event) → Holds top w → WorldOk cells c w → AllOf IsEvent es
      → Along (λ v e. Settled v) m w es → Along (Honest m) m w es → Along (Calm m) m w es → CompletedLines m w es
  lines_along top c w [] holds h is settled honest calm = tt
  lines_along top c w (e ∷ es) holds h is settled honest calm =
      let u = (happens m w e).0 in
      let step = happens_goes same root octets sender opener tell cells cells_ok c w e is.0 h settled.0 holds.above holds.flight honest.0 calm.0 in
      let next = happens_holds same root octets sender opener top w e holds in (
        line_told same root octets sender opener w e cells step.0 step.2,
        lines_along (noted u.core.link top) step.0 u es next step.2 is.1 settled.1 honest.1 calm.1,
      )

-- from the first world
module _ (same : Term → Term → Bool) (itself : IsReflexive same) (octets : Outgoing Term ℕ → List ℕ)
    (sender : Option (Outgoing Term ℕ) → Option (KeyUse Term))
    (opener : Opening Term → List ℕ → Option (Outgoing Term ℕ) → Outcome) (tell : OctetsTell octets) (setup : Setup)
    (is : IsSetup setup) (events : List Event) (are : AllOf IsEvent events) where
  abbrev rooted : Machine Term ℕ (Outgoing Term ℕ)
  rooted = machine_by same Root octets sender opener

  abbrev settled : Along (λ v e. Settled v) rooted (first_world setup) events
  settled = settled_from_first same itself octets sender opener setup is events are

  module _ (honest : Along (Honest rooted) rooted (first_world setup) events) where
    calm : Along (Calm rooted) rooted (first_world setup) events
    calm =
        calm_along same Root octets sender opener tell setup.cells (cells_of setup is) (λ conn. 0) (no_conns setup)
        (first_world setup) events (first_holds setup) (first_ok setup is) are settled honest

    goes : RunGoes same Root octets sender opener tell setup.cells (cells_of setup is) (no_conns setup)
        (first_world setup) (run rooted (first_world setup) events)
        (core_numbers rooted (first_world setup) (λ conn. 0) events)
    goes =
        run_goes same Root octets sender opener tell setup.cells (cells_of setup is) (λ conn. 0) (no_conns setup)
        (first_world setup) events (first_holds setup) (first_ok setup is) (first_fits setup) are settled honest calm

    -- every run whose openings are honest
    pub agreement_if_honest : AgreementHolds rooted setup events
    agreement_if_honest = (
      agrees setup.cells goes.0 (run rooted (first_world setup) events) goes.2 (in_turn same Root octets sender opener setup events)
          (phone_always_in_order same itself octets sender opener setup events).0,
      none_ever same Root octets sender opener tell setup.cells (cells_of setup is) (λ conn. 0) (no_conns setup)
          (first_world setup) events (first_holds setup) (first_ok setup is) (first_fits setup) are settled honest calm,
      lines_along same Root octets sender opener tell setup.cells (cells_of setup is) (λ conn. 0) (no_conns setup)
          (first_world setup) events (first_holds setup) (first_ok setup is) are settled honest calm,
      keys_told same Root octets sender opener (first_world setup) events,
    )

    -- and all keys of a connection number are of one chain
    pub chains_if_honest : ChainsHold rooted setup events
    chains_if_honest = (
      goes.0.root,
      goes.0.count,
      are_chains setup.cells goes.0 (run rooted (first_world setup) events) goes.2 (core_numbers rooted (first_world setup) (λ conn. 0) events) goes.3
          (run_holds same Root octets sender opener (λ conn. 0) (first_world setup) events (first_holds setup)),
    )

-- over these ciphers, by an opener that compares the uses on SRBs as terms
module _ (same : Term → Term → Bool) (itself : IsReflexive same) (c : Ciphers Term) (good : AreCiphers c)
    (between : Fields → Option (NumberedKey Term ℕ) → List ℕ)
    (opener : Opening Term → List ℕ → Option (Outgoing Term ℕ) → Outcome) (by_terms : OpensByTerms c opener)
    (setup : Setup) (is : IsSetup setup) (events : List Event) (are : AllOf IsEvent events) where
  abbrev over : Machine Term ℕ (Outgoing Term ℕ)
  over = record (machine_over same c between) { opener = opener }

  abbrev each_honest : Along (Honest over) over (first_world setup) events
  each_honest = honest_along same Root (octets_of c between) sender_of opener c by_terms (first_world setup) events

  -- each event of a run is calm
  pub calm_over : Along (Calm over) over (first_world setup) events
  calm_over = calm same itself (octets_of c between) sender_of opener (octets_tell c good between) setup is events are each_honest

  -- agreement holds of every run
  pub agreement_over : AgreementHolds over setup events
  agreement_over = agreement_if_honest same itself (octets_of c between) sender_of opener (octets_tell c good between) setup is events are each_honest

  -- and one chain for each connection number
  pub chains_over : ChainsHold over setup events
  chains_over = chains_if_honest same itself (octets_of c between) sender_of opener (octets_tell c good between) setup is events are each_honest

  -- and every world of it has the invariant
  pub always_ok : (d : Conns) × WorldOk setup.cells d (run over (first_world setup) events)
  always_ok =
      let g = goes same itself (octets_of c between) sender_of opener (octets_tell c good between) setup is events are each_honest in (g.0, g.2)
