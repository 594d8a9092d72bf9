-- Each move leaves the core's chain what it was, one step further on, or another; and which of these, its message tells.
use Rattle.std.proofs.Common.{◌≡◌, ℕ, suc, ◌+◌, ◌≤◌, Bool, true, false, Option, None, Some, List, refl, ap, ◌∙◌, arith}
use Rattle.std.specs.Prelude.{slice_get, if◌then◌else◌, ◌&&◌, not, nat_eq, nat_lt}
use Rattle.annex_a_keys.specs.Cell.{Place}
use Rattle.key_model.specs.{Term.Term, Term.Kenb, Chain.nh, Reading.term_reading, HandoverTable.NumberedKey}
use Rattle.nh_chain.specs.Chain.{ChainState, begun, stepped}
use Rattle.nh_chain.specs.Station.{opened}
use Rattle.trace_rules.specs.Rules.{Done}
use Rattle.trace_keys.specs.declared.{moves.Where.Where, moves.Move.Move, moves.Unanswered.Unanswered}
use Rattle.trace_keys.specs.declared.moves.Where.TheVariants.{Setup, Took, Answer, Request}
use Rattle.trace_keys.specs.declared.moves.Unanswered.TheVariants.{Refused, Lost, Given}
use Rattle.trace_keys.specs.declared.moves.Move.TheVariants.{Renew, Offer, Take, Switch, Ask, Prepare, Require, Arrive, Cancel, Refresh, Leave}
use Rattle.trace_keys.specs.Net.{Target, Offer as OfferOf, Serving, Net, Sight}
use Rattle.nas_count.specs.Estimate.{nas_count_limit}
use Rattle.trace_keys.specs.Moved.{is_fresh, chain_of, target_of, renewed, begins, offered, offers, took, taken_on, unanswered, may_come, prepared, required, arrived, cancelled, refreshed, moved_in, moved}
use Rattle.trace_order.specs.Order.{Comes, IsTapped, BeginsSeen}
use Rattle.trace_order.proofs.Walking.{KeptAt, LeftBy, Leaves, leaves_if, leaves}

-- the last NH is of this chain, and not further on
abbrev pub NotBelow : Option Term → Term → ℕ → ℕ → Type 0
NotBelow None root count number = Unit {0}
NotBelow (Some key) root count number = (low : ℕ) × (key ≡ nh root count low) × (low ≤ number)

-- the core keeps a chain at some number
pub record ChainOf (last : Option Term) (core : ChainState Term ℕ) : Type 0 where
  pub root : Term
  pub count : ℕ
  pub number : ℕ
  pub is : core ≡ record { root = root; sync = nh root count number; number = number }
  pub above : NotBelow last root count number

abbrev pub OfferIs : Option (OfferOf Term ℕ) → Type 0
OfferIs None = Unit {0}
OfferIs (Some offer) = ChainOf None offer.core

one_more : (last : Option Term) (root : Term) (count number : ℕ) → NotBelow last root count number → NotBelow last root count (suc number)
one_more None root count number h = tt
one_more (Some key) root count number h = (h.0, h.1, omega (arith, h.2))

step_is : (last : Option Term) (core : ChainState Term ℕ) (k : ChainOf last core)
    → stepped term_reading core ≡ record { root = k.root; sync = nh k.root k.count (suc k.number); number = suc k.number }
step_is last core k =
    let one : k.number + 1 ≡ suc k.number = omega arith in
    ap (stepped term_reading) k.is ∙ (λ j. record { root = k.root; sync = nh k.root k.count (suc k.number); number = one j })

stepped_on : (last : Option Term) (core : ChainState Term ℕ) → ChainOf last core → ChainOf last (stepped term_reading core)
stepped_on last core k = record {
  root = k.root;
  count = k.count;
  number = suc k.number;
  is = step_is last core k;
  above = one_more last k.root k.count k.number k.above;
}

comes_next : (last : Option Term) (root : Term) (count number : ℕ) (key : Term)
    → NotBelow last root count number
    → key ≡ nh root count (suc number)
    → Comes last key
comes_next None root count number key h is = record { root = root; count = count; number = suc number; is = is }
comes_next (Some before) root count number key h is =
    record { root = root; count = count; low = h.0; high = suc number; first = h.1; next = is; up = omega (arith, h.2) }

-- the NH of a step comes next, and the chain is at it
brings : (last : Option Term) (core : ChainState Term ℕ) → ChainOf last core
    → Comes last (stepped term_reading core).sync × ChainOf (Some (stepped term_reading core).sync) (stepped term_reading core)
brings last core k =
    let is = step_is last core k in
    let key = ap (λ c. c.sync) is in (
      comes_next last k.root k.count k.number (stepped term_reading core).sync k.above key,
      record { root = k.root; count = k.count; number = suc k.number; is = is; above = (suc k.number, key, omega arith) },
    )

first_chain : (root : Term) (count : ℕ) (early : Bool) → ChainOf None (chain_of term_reading root (Kenb root count) early)
first_chain root count false = record { root = root; count = count; number = 0; is = refl; above = tt }
first_chain root count true =
    stepped_on None (begun term_reading root (Kenb root count)) (record { root = root; count = count; number = 0; is = refl; above = tt })

module _ (covers : Sight (List ℕ) → Bool) where
  abbrev pub TargetIs : Option (Target Term ℕ) → Type 0
  TargetIs None = Unit {0}
  TargetIs (Some target) = IsTapped covers (Took target.station)

  pub record KeepsIn (last : Option Term) (s : Serving Term ℕ) : Type 0 where
    pub core : ChainOf last s.core
    pub offer : OfferIs s.offer
    pub took : IsTapped covers (Took s.station)
    pub target : TargetIs s.target

  abbrev pub Keeps : Option Term → Option (Serving Term ℕ) → Type 0
  Keeps last None = Unit {0}
  Keeps last (Some s) = KeepsIn last s

  -- behind the NH that a message brings, if that is looked at
  abbrev pub BroughtAt : Option Term → Where → Option (NumberedKey Term ℕ) → Option (Serving Term ℕ) → Type 0
  BroughtAt last (Answer station) (Some pair) end = Comes last pair.key × Keeps (Some pair.key) end
  BroughtAt last (Request station) (Some pair) end = Comes last pair.key × Keeps (Some pair.key) end
  BroughtAt last at pair end = Unit {0}

  abbrev pub WentBy : Option Term → Option (Sight Term) → Option (Serving Term ℕ) → Type 0
  WentBy = LeftBy Keeps (KeptAt covers Keeps) BroughtAt

  abbrev pub Went : Option Term → Option (Done (Net Term ℕ) (Sight Term)) → Type 0
  Went = Leaves Keeps (KeptAt covers Keeps) BroughtAt

  went_if : (last : Option Term) (b : Bool) (done : Done (Net Term ℕ) (Sight Term))
      → WentBy last done.sent done.net.serving
      → Went last (if b then Some done else None)
  went_if = leaves_if Keeps (KeptAt covers Keeps) BroughtAt

  went_renewed : (last root : Option Term) (net : Net Term ℕ) (kasme count station : ℕ) (cell : Place) (early taken : Bool)
      → IsTapped covers (Setup station) × IsTapped covers (Took station)
      → Went last (renewed term_reading root net kasme count station cell early taken)
  went_renewed last None net kasme count station cell early taken tap = tt
  went_renewed last (Some root) net kasme count station cell early taken tap =
      went_if last (is_fresh net kasme count) (begins term_reading root kasme count station cell early taken)
      (((record { core = first_chain root count early; offer = tt; took = tap.1; target = tt }), tap.0), tt)

  went_offered : (last root : Option Term) (net : Net Term ℕ) (s : Serving Term ℕ) (kasme count : ℕ) (early : Bool)
      → KeepsIn last s
      → Went last (offered term_reading root net s kasme count early)
  went_offered last None net s kasme count early k = tt
  went_offered last (Some root) net s kasme count early k =
      went_if last (is_fresh net kasme count) (offers term_reading root net s kasme count early)
      ((record { core = k.core; offer = first_chain root count early; took = k.took; target = k.target }), tt)

  went_took : (last : Option Term) (s : Serving Term ℕ) (offer : Option (OfferOf Term ℕ))
      → OfferIs offer
      → KeepsIn last s
      → Went last (took term_reading s offer)
  went_took last s None k keeps = tt
  went_took last s (Some o) k keeps =
      went_if last (nat_lt o.count nas_count_limit) (taken_on term_reading s o)
      (((record { core = k; offer = tt; took = keeps.took; target = keeps.target }), keeps.took), tt)

  went_unanswered : (last : Option Term) (s : Serving Term ℕ) (what : Unanswered) → KeepsIn last s → KeepsIn last (unanswered term_reading s what)
  went_unanswered last s Refused k = k
  went_unanswered last s Lost k = record { core = stepped_on last s.core k.core; offer = k.offer; took = k.took; target = k.target }
  went_unanswered last s Given k = record { core = stepped_on last s.core k.core; offer = k.offer; took = k.took; target = k.target }

  went_arrived : (last : Option Term) (net : Net Term ℕ) (s : Serving Term ℕ) (target : Option (Target Term ℕ))
      → TargetIs target
      → KeepsIn last s
      → Went last (arrived net s target)
  went_arrived last net s None tap k = tt
  went_arrived last net s (Some t) tap k = record { core = k.core; offer = tt; took = tap; target = tt }

  went_cancelled : (last : Option Term) (net : Net Term ℕ) (s : Serving Term ℕ) (target : Option (Target Term ℕ)) → KeepsIn last s → Went last (cancelled net s target)
  went_cancelled last net s None k = tt
  went_cancelled last net s (Some t) k = record { core = k.core; offer = k.offer; took = k.took; target = tt }

  target_tapped : (goes : Bool) (before : Option (Target Term ℕ)) (station : ℕ) (cell : Place) (star : NumberedKey Term ℕ) (spent : Option (NumberedKey Term ℕ))
      → IsTapped covers (Took station)
      → TargetIs before
      → TargetIs (target_of goes before (record { station = station; cell = cell; star = star; spent = spent }))
  target_tapped true before station cell star spent new old = new
  target_tapped false before station cell star spent new old = old

  went_in : (last : Option Term) (kasmes : List Term) (net : Net Term ℕ) (s : Serving Term ℕ) (move : Move)
      → BeginsSeen covers move
      → KeepsIn last s
      → Went last (moved_in term_reading kasmes net s move)
  went_in last kasmes net s (Renew kasme count station cell early taken) tap k = tt
  went_in last kasmes net s (Offer kasme count early) tap k = went_offered last (slice_get kasmes kasme) net s kasme count early k
  went_in last kasmes net s Take tap k = went_took last s s.offer k.offer k
  went_in last kasmes net s Switch tap k =
      let next = brings last s.core k.core in (
        (record { core = stepped_on last s.core k.core; offer = k.offer; took = k.took; target = k.target }),
        (next.0, (record { core = next.1; offer = k.offer; took = k.took; target = k.target })),
      )
  went_in last kasmes net s (Ask what) tap k = (went_unanswered last s what k, tt)
  went_in last kasmes net s (Prepare station cell goes) tap k =
      went_if last (not (nat_eq station s.station) && may_come goes s.target)
      (prepared term_reading net s (opened term_reading s.key cell) station cell goes)
      ((record { core = k.core; offer = k.offer; took = k.took; target = target_tapped goes s.target station cell _ _ tap k.target }), tt)
  went_in last kasmes net s (Require station cell goes) tap k =
      let next = brings last s.core k.core in
      went_if last (may_come goes s.target) (required term_reading net s station cell goes) (
        (record { core = stepped_on last s.core k.core; offer = k.offer; took = k.took; target = target_tapped goes s.target station cell _ _ tap k.target }),
        (next.0, (record { core = next.1; offer = k.offer; took = k.took; target = target_tapped goes s.target station cell _ _ tap k.target })),
      )
  went_in last kasmes net s Arrive tap k = went_arrived last net s s.target k.target k
  went_in last kasmes net s Cancel tap k = went_cancelled last net s s.target k
  went_in last kasmes net s (Refresh station cell) tap k =
      went_if last (nat_eq station s.station) (refreshed net s (opened term_reading s.key cell) cell)
      (record { core = k.core; offer = k.offer; took = k.took; target = tt })
  went_in last kasmes net s Leave tap k = tt

  pub went : (kasmes : List Term) (last : Option Term) (net : Net Term ℕ) (move : Move)
      → BeginsSeen covers move
      → Keeps last net.serving
      → Went last (moved term_reading kasmes net move)
  went kasmes last =
      leaves Keeps (KeptAt covers Keeps) BroughtAt (BeginsSeen covers) kasmes last (went_renewed last) (went_in last kasmes)
