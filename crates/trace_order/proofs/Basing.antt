-- Each move leaves keys that are made of the KeNB of the connection, or of another one, which its message tells.
use Rattle.std.proofs.Common.{◌≡◌, ℕ, Bool, true, false, Option, None, Some, List, refl}
use Rattle.std.specs.Prelude.{slice_get, if◌then◌else◌, ◌&&◌, not, nat_eq, nat_lt}
use Rattle.annex_a_keys.specs.Cell.{Place}
use Rattle.key_model.specs.{Term.Term, Term.Kenb, Term.Nh, Term.Star, Reading.term_reading, HandoverTable.NumberedKey}
use Rattle.nh_chain.specs.Station.{opened, base_of, pair_after, restored_if}
use Rattle.trace_rules.specs.Rules.{Done}
use Rattle.trace_keys.specs.declared.{moves.Where.Where, moves.Move.Move, moves.Unanswered.Unanswered}
use Rattle.trace_keys.specs.declared.moves.Where.TheVariants.{Setup, Took, Answer, Request, Over}
use Rattle.trace_keys.specs.declared.moves.Unanswered.TheVariants.{Refused, Lost, Given}
use Rattle.trace_keys.specs.declared.moves.Move.TheVariants.{Renew, Offer, Take, Switch, Ask, Prepare, Require, Arrive, Cancel, Refresh, Leave}
use Rattle.trace_keys.specs.Net.{Target, Offer as OfferOf, Serving, Net, Sight}
use Rattle.nas_count.specs.Estimate.{nas_count_limit}
use Rattle.trace_keys.specs.Moved.{is_fresh, chain_of, target_of, renewed, begins, offered, offers, took, taken_on, unanswered, may_come, prepared, required, arrived, cancelled, refreshed, moved_in, moved}
use Rattle.trace_order.specs.Order.{IsTapped, BeginsSeen}
use Rattle.trace_order.specs.Base.{kenb_of}
use Rattle.trace_order.proofs.Walking.{KeptAt, LeftBy, Leaves, leaves_if, leaves}

-- a key is made of this KeNB, if it is known
abbrev pub OfKenb : Option Term → Term → Type 0
OfKenb None key = Unit {0}
OfKenb (Some kenb) key = kenb_of key ≡ kenb

abbrev pub PairOf : Option Term → Option (NumberedKey Term ℕ) → Type 0
PairOf kenb None = Unit {0}
PairOf kenb (Some pair) = OfKenb kenb pair.key

of_nh : (kenb : Option Term) (root sync : Term) → OfKenb kenb sync → OfKenb kenb (Nh root sync)
of_nh None root sync k = tt
of_nh (Some kenb) root sync k = k

of_star : (kenb : Option Term) (key : Term) (pci earfcn : ℕ) → OfKenb kenb key → OfKenb kenb (Star key pci earfcn)
of_star None key pci earfcn k = tt
of_star (Some kenb) key pci earfcn k = k

base_is : (kenb : Option Term) (pair : Option (NumberedKey Term ℕ)) (key : Term) (number : ℕ)
    → PairOf kenb pair
    → OfKenb kenb key
    → OfKenb kenb (base_of pair key number).key
base_is kenb None key number p k = k
base_is kenb (Some pair) key number p k = p

back_is : (kenb : Option Term) (pair : Option (NumberedKey Term ℕ)) (back : NumberedKey Term ℕ)
    → PairOf kenb pair
    → OfKenb kenb back.key
    → PairOf kenb (pair_after pair back)
back_is kenb None back p k = k
back_is kenb (Some newer) back p k = p

begun_is : (root : Term) (count : ℕ) (early : Bool) → kenb_of (chain_of term_reading root (Kenb root count) early).sync ≡ Kenb root count
begun_is root count true = refl
begun_is root count false = refl

module _ (covers : Sight (List ℕ) → Bool) where
  abbrev pub TargetOf : Option Term → Option (Target Term ℕ) → Type 0
  TargetOf kenb None = Unit {0}
  TargetOf kenb (Some target) = OfKenb kenb target.star.key × PairOf kenb target.spent × IsTapped covers (Took target.station)

  pub record MadeIn (kenb : Option Term) (s : Serving Term ℕ) : Type 0 where
    pub core : OfKenb kenb s.core.sync
    pub held : OfKenb kenb s.key.kenb
    pub pair : PairOf kenb s.key.pair
    pub target : TargetOf kenb s.target
    pub took : IsTapped covers (Took s.station)

  abbrev pub AllMade : Option Term → Option (Serving Term ℕ) → Type 0
  AllMade kenb None = Unit {0}
  AllMade kenb (Some s) = MadeIn kenb s

  pair_of_any : (pair : Option (NumberedKey Term ℕ)) → PairOf None pair
  pair_of_any None = tt
  pair_of_any (Some pair) = tt

  target_of_any : (kenb : Option Term) (target : Option (Target Term ℕ)) → TargetOf kenb target → TargetOf None target
  target_of_any kenb None t = tt
  target_of_any kenb (Some target) t = (tt, pair_of_any target.spent, t.2)

  -- what a message brings, if that is looked at
  abbrev pub BringsOf : Option Term → Where → Option (NumberedKey Term ℕ) → Option (Serving Term ℕ) → Type 0
  BringsOf kenb (Setup station) (Some pair) end = AllMade (Some pair.key) end
  BringsOf kenb (Answer station) (Some pair) end = OfKenb kenb pair.key
  BringsOf kenb (Request station) (Some pair) end = OfKenb kenb pair.key
  BringsOf kenb (Over source target) (Some pair) end = OfKenb kenb pair.key
  BringsOf kenb at pair end = Unit {0}

  abbrev pub MadeBy : Option Term → Option (Sight Term) → Option (Serving Term ℕ) → Type 0
  MadeBy = LeftBy AllMade (KeptAt covers AllMade) BringsOf

  abbrev pub Makes : Option Term → Option (Done (Net Term ℕ) (Sight Term)) → Type 0
  Makes = Leaves AllMade (KeptAt covers AllMade) BringsOf

  makes_if : (kenb : Option Term) (b : Bool) (done : Done (Net Term ℕ) (Sight Term))
      → MadeBy kenb done.sent done.net.serving
      → Makes kenb (if b then Some done else None)
  makes_if = leaves_if AllMade (KeptAt covers AllMade) BringsOf

  makes_renewed : (kenb root : Option Term) (net : Net Term ℕ) (kasme count station : ℕ) (cell : Place) (early taken : Bool)
      → IsTapped covers (Setup station) × IsTapped covers (Took station)
      → Makes kenb (renewed term_reading root net kasme count station cell early taken)
  makes_renewed kenb None net kasme count station cell early taken tap = tt
  makes_renewed kenb (Some root) net kasme count station cell early taken tap =
      makes_if kenb (is_fresh net kasme count) (begins term_reading root kasme count station cell early taken) (
        ((record { core = tt; held = tt; pair = tt; target = tt; took = tap.1 }), tap.0),
        (record { core = begun_is root count early; held = refl; pair = tt; target = tt; took = tap.1 }),
      )

  makes_offered : (kenb root : Option Term) (net : Net Term ℕ) (s : Serving Term ℕ) (kasme count : ℕ) (early : Bool)
      → MadeIn kenb s
      → Makes kenb (offered term_reading root net s kasme count early)
  makes_offered kenb None net s kasme count early k = tt
  makes_offered kenb (Some root) net s kasme count early k =
      makes_if kenb (is_fresh net kasme count) (offers term_reading root net s kasme count early)
      ((record { core = k.core; held = k.held; pair = k.pair; target = k.target; took = k.took }), tt)

  makes_took : (kenb : Option Term) (s : Serving Term ℕ) (offer : Option (OfferOf Term ℕ))
      → MadeIn kenb s
      → Makes kenb (took term_reading s offer)
  makes_took kenb s None k = tt
  makes_took kenb s (Some o) k =
      makes_if kenb (nat_lt o.count nas_count_limit) (taken_on term_reading s o)
      (((record { core = tt; held = tt; pair = tt; target = target_of_any kenb s.target k.target; took = k.took }), k.took), tt)

  -- a step of the core
  step_of : (kenb : Option Term) (s : Serving Term ℕ) → MadeIn kenb s → OfKenb kenb (Nh s.core.root s.core.sync)
  step_of kenb s k = of_nh kenb s.core.root s.core.sync k.core

  made_unanswered : (kenb : Option Term) (s : Serving Term ℕ) (what : Unanswered) → MadeIn kenb s → MadeIn kenb (unanswered term_reading s what)
  made_unanswered kenb s Refused k = k
  made_unanswered kenb s Lost k = record { core = step_of kenb s k; held = k.held; pair = k.pair; target = k.target; took = k.took }
  made_unanswered kenb s Given k = record { core = step_of kenb s k; held = k.held; pair = step_of kenb s k; target = k.target; took = k.took }

  target_is : (kenb : Option Term) (goes : Bool) (before : Option (Target Term ℕ)) (station : ℕ) (cell : Place) (star : NumberedKey Term ℕ) (spent : Option (NumberedKey Term ℕ))
      → OfKenb kenb star.key × PairOf kenb spent × IsTapped covers (Took station)
      → TargetOf kenb before
      → TargetOf kenb (target_of goes before (record { station = station; cell = cell; star = star; spent = spent }))
  target_is kenb true before station cell star spent new old = new
  target_is kenb false before station cell star spent new old = old

  -- KeNB* of what a station holds
  star_is : (kenb : Option Term) (s : Serving Term ℕ) (cell : Place)
      → MadeIn kenb s
      → OfKenb kenb (Star (base_of s.key.pair s.key.kenb s.key.number).key cell.pci cell.earfcn)
  star_is kenb s cell k =
      of_star kenb (base_of s.key.pair s.key.kenb s.key.number).key cell.pci cell.earfcn
      (base_is kenb s.key.pair s.key.kenb s.key.number k.pair k.held)

  makes_arrived : (kenb : Option Term) (net : Net Term ℕ) (s : Serving Term ℕ) (target : Option (Target Term ℕ))
      → TargetOf kenb target
      → MadeIn kenb s
      → Makes kenb (arrived net s target)
  makes_arrived kenb net s None t k = tt
  makes_arrived kenb net s (Some target) t k = record { core = k.core; held = t.0; pair = tt; target = tt; took = t.2 }

  restored_is : (kenb : Option Term) (s : Serving Term ℕ) (spent : Option (NumberedKey Term ℕ))
      → PairOf kenb spent
      → MadeIn kenb s
      → MadeIn kenb (record s { key = restored_if s.key spent; target = None })
  restored_is kenb s None t k = record { core = k.core; held = k.held; pair = k.pair; target = tt; took = k.took }
  restored_is kenb s (Some spent) t k =
      record { core = k.core; held = k.held; pair = back_is kenb s.key.pair spent k.pair t; target = tt; took = k.took }

  makes_cancelled : (kenb : Option Term) (net : Net Term ℕ) (s : Serving Term ℕ) (target : Option (Target Term ℕ))
      → TargetOf kenb target
      → MadeIn kenb s
      → Makes kenb (cancelled net s target)
  makes_cancelled kenb net s None t k = tt
  makes_cancelled kenb net s (Some target) t k = restored_is kenb s target.spent t.1 k

  makes_in : (kenb : Option Term) (kasmes : List Term) (net : Net Term ℕ) (s : Serving Term ℕ) (move : Move)
      → BeginsSeen covers move
      → MadeIn kenb s
      → Makes kenb (moved_in term_reading kasmes net s move)
  makes_in kenb kasmes net s (Renew kasme count station cell early taken) tap k = tt
  makes_in kenb kasmes net s (Offer kasme count early) tap k = makes_offered kenb (slice_get kasmes kasme) net s kasme count early k
  makes_in kenb kasmes net s Take tap k = makes_took kenb s s.offer k
  makes_in kenb kasmes net s Switch tap k = (
    (record { core = step_of kenb s k; held = k.held; pair = step_of kenb s k; target = k.target; took = k.took }),
    step_of kenb s k,
  )
  makes_in kenb kasmes net s (Ask what) tap k = (made_unanswered kenb s what k, tt)
  makes_in kenb kasmes net s (Prepare station cell goes) tap k =
      makes_if kenb (not (nat_eq station s.station) && may_come goes s.target)
      (prepared term_reading net s (opened term_reading s.key cell) station cell goes) (
        (record {
          core = k.core;
          held = k.held;
          pair = tt;
          target = target_is kenb goes s.target station cell _ _ (star_is kenb s cell k, k.pair, tap) k.target;
          took = k.took;
        }),
        star_is kenb s cell k,
      )
  makes_in kenb kasmes net s (Require station cell goes) tap k =
      let step = step_of kenb s k in
      let star = of_star kenb (Nh s.core.root s.core.sync) cell.pci cell.earfcn step in
      makes_if kenb (may_come goes s.target) (required term_reading net s station cell goes) (
        (record {
          core = step;
          held = k.held;
          pair = k.pair;
          target = target_is kenb goes s.target station cell _ _ (star, tt, tap) k.target;
          took = k.took;
        }),
        step,
      )
  makes_in kenb kasmes net s Arrive tap k = makes_arrived kenb net s s.target k.target k
  makes_in kenb kasmes net s Cancel tap k = makes_cancelled kenb net s s.target k.target k
  makes_in kenb kasmes net s (Refresh station cell) tap k =
      makes_if kenb (nat_eq station s.station) (refreshed net s (opened term_reading s.key cell) cell)
      (record { core = k.core; held = star_is kenb s cell k; pair = tt; target = tt; took = k.took })
  makes_in kenb kasmes net s Leave tap k = tt

  pub makes : (kasmes : List Term) (kenb : Option Term) (net : Net Term ℕ) (move : Move)
      → BeginsSeen covers move
      → AllMade kenb net.serving
      → Makes kenb (moved term_reading kasmes net move)
  makes kasmes kenb =
      leaves AllMade (KeptAt covers AllMade) BringsOf (BeginsSeen covers) kasmes kenb (makes_renewed kenb) (makes_in kenb kasmes)
