-- How far the core is with its chain behind each move.
use Rattle.std.proofs.Common.{ℕ, suc, ◌+◌, ◌≤◌, Bool, true, false, Option, None, Some, List, arith}
use Rattle.std.specs.Prelude.{slice_get, if◌then◌else◌, ◌&&◌, not, nat_eq, nat_lt}
use Rattle.annex_a_keys.specs.Cell.{Place}
use Rattle.key_model.specs.{Term.Term, Term.Kenb, Number.chain_number, Reading.term_reading, HandoverTable.NumberedKey}
use Rattle.nh_chain.specs.Chain.{ChainState, stepped}
use Rattle.nh_chain.specs.Station.{opened}
use Rattle.trace_rules.specs.Rules.{Done}
use Rattle.trace_keys.specs.declared.{moves.Where.Where, moves.Move.Move, moves.Unanswered.Unanswered}
use Rattle.trace_keys.specs.declared.moves.Where.TheVariants.{Setup, Change, Took, Answer, Asked, Request, Over}
use Rattle.trace_keys.specs.declared.moves.Unanswered.TheVariants.{Refused, Lost, Given}
use Rattle.trace_keys.specs.declared.moves.Move.TheVariants.{Renew, Offer, Take, Switch, Ask, Prepare, Require, Arrive, Cancel, Refresh, Leave}
use Rattle.trace_keys.specs.Net.{Target, Offer as OfferOf, Serving, Net, Sight}
use Rattle.nas_count.specs.Estimate.{nas_count_limit}
use Rattle.trace_keys.specs.Moved.{is_fresh, chain_of, target_of, renewed, begins, offered, offers, took, taken_on, unanswered, may_come, prepared, required, arrived, cancelled, refreshed, moved_in, moved}
use Rattle.trace_order.specs.Order.{IsTapped}
use Rattle.trace_order.specs.Reach.{StepsAt, StepsSeen}
use Rattle.trace_order.proofs.Sending.{ChainIs, step_is, chain_is}
use Rattle.trace_order.proofs.Walking.{LeftBy, Leaves, leaves_if, leaves}

-- a chain that a KeNB begins
abbrev pub IsNew : ChainState Term ℕ → Type 0
IsNew core = ChainIs core × (core.number ≤ 1)

abbrev pub NewIf : Option (OfferOf Term ℕ) → Type 0
NewIf None = Unit {0}
NewIf (Some offer) = IsNew offer.core

new_is : (root : Term) (count : ℕ) (early : Bool) → IsNew (chain_of term_reading root (Kenb root count) early)
new_is root count false = (chain_is root count false, omega arith)
new_is root count true = (chain_is root count true, omega arith)

-- an NH that is sent, and where the core is then
abbrev pub BringsNh : ℕ → Term → Type 0
BringsNh most key = (chain_number key ≤ most + 1) × (1 ≤ chain_number key)

module _ (covers : Sight (List ℕ) → Bool) where
  abbrev pub StepsTo : Option (Target Term ℕ) → Type 0
  StepsTo None = Unit {0}
  StepsTo (Some target) = StepsAt covers target.station

  pub record ReachIn (most : ℕ) (s : Serving Term ℕ) : Type 0 where
    pub core : ChainIs s.core
    pub within : s.core.number ≤ most
    pub offer : NewIf s.offer
    pub here : StepsAt covers s.station
    pub target : StepsTo s.target

  abbrev pub Reaches : ℕ → Option (Serving Term ℕ) → Type 0
  Reaches most None = Unit {0}
  Reaches most (Some s) = ReachIn most s

  -- behind a message at this place, whether it is seen or not
  abbrev pub ReachesAt : ℕ → Where → Option (Serving Term ℕ) → Type 0
  ReachesAt most (Setup station) end = Reaches 1 end
  ReachesAt most (Took station) end = Reaches 1 end
  ReachesAt most (Answer station) end = Reaches (suc most) end × IsTapped covers (Answer station)
  ReachesAt most (Request station) end = Reaches (suc most) end × IsTapped covers (Request station)
  ReachesAt most (Asked station) end = Reaches (suc most) end × IsTapped covers (Asked station)
  ReachesAt most (Change station) end = Reaches most end
  ReachesAt most (Over source target) end = Reaches most end

  -- and behind the NH that it brings
  abbrev pub BringsAt : ℕ → Where → Option (NumberedKey Term ℕ) → Option (Serving Term ℕ) → Type 0
  BringsAt most (Answer station) (Some pair) end = BringsNh most pair.key × Reaches (chain_number pair.key) end
  BringsAt most (Request station) (Some pair) end = BringsNh most pair.key × Reaches (chain_number pair.key) end
  BringsAt most at pair end = Unit {0}

  abbrev pub StepsBy : ℕ → Option (Sight Term) → Option (Serving Term ℕ) → Type 0
  StepsBy = LeftBy Reaches ReachesAt BringsAt

  abbrev pub Stepped : ℕ → Option (Done (Net Term ℕ) (Sight Term)) → Type 0
  Stepped = Leaves Reaches ReachesAt BringsAt

  stepped_if : (most : ℕ) (b : Bool) (done : Done (Net Term ℕ) (Sight Term))
      → StepsBy most done.sent done.net.serving
      → Stepped most (if b then Some done else None)
  stepped_if = leaves_if Reaches ReachesAt BringsAt

  stepped_renewed : (most : ℕ) (root : Option Term) (net : Net Term ℕ) (kasme count station : ℕ) (cell : Place) (early taken : Bool)
      → StepsAt covers station
      → Stepped most (renewed term_reading root net kasme count station cell early taken)
  stepped_renewed most None net kasme count station cell early taken tap = tt
  stepped_renewed most (Some root) net kasme count station cell early taken tap =
      let new = new_is root count early in
      stepped_if most (is_fresh net kasme count) (begins term_reading root kasme count station cell early taken)
      ((record { core = new.0; within = new.1; offer = tt; here = tap; target = tt }), tt)

  stepped_offered : (most : ℕ) (root : Option Term) (net : Net Term ℕ) (s : Serving Term ℕ) (kasme count : ℕ) (early : Bool)
      → ReachIn most s
      → Stepped most (offered term_reading root net s kasme count early)
  stepped_offered most None net s kasme count early k = tt
  stepped_offered most (Some root) net s kasme count early k =
      stepped_if most (is_fresh net kasme count) (offers term_reading root net s kasme count early)
      ((record { core = k.core; within = k.within; offer = new_is root count early; here = k.here; target = k.target }), tt)

  stepped_took : (most : ℕ) (s : Serving Term ℕ) (offer : Option (OfferOf Term ℕ)) → NewIf offer → ReachIn most s → Stepped most (took term_reading s offer)
  stepped_took most s None o k = tt
  stepped_took most s (Some offer) o k =
      stepped_if most (nat_lt offer.count nas_count_limit) (taken_on term_reading s offer)
      ((record { core = o.0; within = o.1; offer = tt; here = k.here; target = k.target }), tt)

  unanswered_to : (most : ℕ) (s : Serving Term ℕ) (what : Unanswered) → ReachIn most s → ReachIn (suc most) (unanswered term_reading s what)
  unanswered_to most s Refused k = record { core = k.core; within = omega (arith, k.within); offer = k.offer; here = k.here; target = k.target }
  unanswered_to most s Lost k =
      record { core = step_is s.core k.core; within = omega (arith, k.within); offer = k.offer; here = k.here; target = k.target }
  unanswered_to most s Given k =
      record { core = step_is s.core k.core; within = omega (arith, k.within); offer = k.offer; here = k.here; target = k.target }

  target_at : (goes : Bool) (before : Option (Target Term ℕ)) (station : ℕ) (cell : Place) (star : NumberedKey Term ℕ) (spent : Option (NumberedKey Term ℕ))
      → StepsAt covers station
      → StepsTo before
      → StepsTo (target_of goes before (record { station = station; cell = cell; star = star; spent = spent }))
  target_at true before station cell star spent new old = new
  target_at false before station cell star spent new old = old

  -- the NH of a step
  brings_nh : (most : ℕ) (core : ChainState Term ℕ) → ChainIs core → core.number ≤ most → BringsNh most (stepped term_reading core).sync
  brings_nh most core k within = (omega (arith, k, within), omega arith)

  stepped_arrived : (most : ℕ) (net : Net Term ℕ) (s : Serving Term ℕ) (target : Option (Target Term ℕ))
      → StepsTo target
      → ReachIn most s
      → Stepped most (arrived net s target)
  stepped_arrived most net s None t k = tt
  stepped_arrived most net s (Some target) t k = record { core = k.core; within = k.within; offer = tt; here = t; target = tt }

  stepped_cancelled : (most : ℕ) (net : Net Term ℕ) (s : Serving Term ℕ) (target : Option (Target Term ℕ))
      → ReachIn most s
      → Stepped most (cancelled net s target)
  stepped_cancelled most net s None k = tt
  stepped_cancelled most net s (Some target) k = record { core = k.core; within = k.within; offer = k.offer; here = k.here; target = tt }

  -- the core is at the number of the NH that it sent
  at_number : (core : ChainState Term ℕ) → ChainIs core → (stepped term_reading core).number ≤ chain_number (stepped term_reading core).sync
  at_number core k = omega (arith, step_is core k)

  stepped_in : (most : ℕ) (kasmes : List Term) (net : Net Term ℕ) (s : Serving Term ℕ) (move : Move)
      → StepsSeen covers move
      → ReachIn most s
      → Stepped most (moved_in term_reading kasmes net s move)
  stepped_in most kasmes net s (Renew kasme count station cell early taken) tap k = tt
  stepped_in most kasmes net s (Offer kasme count early) tap k = stepped_offered most (slice_get kasmes kasme) net s kasme count early k
  stepped_in most kasmes net s Take tap k = stepped_took most s s.offer k.offer k
  stepped_in most kasmes net s Switch tap k =
      let step = step_is s.core k.core in (
        ((record { core = step; within = omega (arith, k.within); offer = k.offer; here = k.here; target = k.target }), k.here.0),
        (
          brings_nh most s.core k.core k.within,
          (record { core = step; within = at_number s.core k.core; offer = k.offer; here = k.here; target = k.target }),
        ),
      )
  stepped_in most kasmes net s (Ask what) tap k = ((unanswered_to most s what k, k.here.1), tt)
  stepped_in most kasmes net s (Prepare station cell goes) tap k =
      stepped_if most (not (nat_eq station s.station) && may_come goes s.target)
      (prepared term_reading net s (opened term_reading s.key cell) station cell goes)
      ((record { core = k.core; within = k.within; offer = k.offer; here = k.here; target = target_at goes s.target station cell _ _ tap k.target }), tt)
  stepped_in most kasmes net s (Require station cell goes) tap k =
      let step = step_is s.core k.core in
      stepped_if most (may_come goes s.target) (required term_reading net s station cell goes) (
        (
          (record {
            core = step;
            within = omega (arith, k.within);
            offer = k.offer;
            here = k.here;
            target = target_at goes s.target station cell _ _ tap k.target;
          }),
          tap.2,
        ),
        (
          brings_nh most s.core k.core k.within,
          (record {
            core = step;
            within = at_number s.core k.core;
            offer = k.offer;
            here = k.here;
            target = target_at goes s.target station cell _ _ tap k.target;
          }),
        ),
      )
  stepped_in most kasmes net s Arrive tap k = stepped_arrived most net s s.target k.target k
  stepped_in most kasmes net s Cancel tap k = stepped_cancelled most net s s.target k
  stepped_in most kasmes net s (Refresh station cell) tap k =
      stepped_if most (nat_eq station s.station) (refreshed net s (opened term_reading s.key cell) cell)
      (record { core = k.core; within = k.within; offer = k.offer; here = k.here; target = tt })
  stepped_in most kasmes net s Leave tap k = tt

  pub steps : (kasmes : List Term) (most : ℕ) (net : Net Term ℕ) (move : Move)
      → StepsSeen covers move
      → Reaches most net.serving
      → Stepped most (moved term_reading kasmes net move)
  steps kasmes most = leaves Reaches ReachesAt BringsAt (StepsSeen covers) kasmes most (stepped_renewed most) (stepped_in most kasmes)
