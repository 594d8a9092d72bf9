-- The keys of the core, which of them it gave to a station, and what a step of it keeps of them.
use Rattle.std.proofs.Common.{◌≡◌, sym, ◌∙◌, subst, ℕ, ◌≤◌, ◌<◌, List, Option, Some, None}
use Rattle.std.specs.Prelude.{⊤}
use Rattle.lte_events.specs.Site.{Site}
use Rattle.key_model.specs.Term.{Term, Root, Kenb, Nh, Star, Alg, IsRoot, IsDerivationKey, IsWellFormed}
use Rattle.key_model.specs.Number.{chain_number}
use Rattle.nh_chain.specs.Chain.{ChainState}
use Rattle.lte_machine.specs.{Wire.Outgoing, Reply.Reply, Reply.Tried, World.with_one}
use Rattle.lte_machine.specs.CoreState.{Core, CorePartial, CoreContext, CoreLink}
use Rattle.lte_properties.specs.Separation.{GivenTo}
use Rattle.lte_properties.proofs.ChainNumbers.Lists.{OfSome}
use Rattle.lte_properties.proofs.KeySeparation.Keys.{Gifts, GivesIn, FlyOk, OutsAre}

-- THE ORDER OF THE KEYS THAT ARE GIVEN

-- the authentication that a key comes from
abbrev pub root_number : Term → ℕ
root_number (Root r octets) = r
root_number (Kenb r n) = root_number r
root_number (Nh r t) = root_number r
root_number (Star t pci earfcn) = root_number t
root_number (Alg t type i) = root_number t

-- the uplink NAS COUNT of its KeNB
abbrev pub count_of : Term → ℕ
count_of (Root r octets) = 0
count_of (Kenb r n) = n
count_of (Nh r t) = count_of t
count_of (Star t pci earfcn) = count_of t
count_of (Alg t type i) = count_of t

-- of an earlier authentication than that which waits for its procedure
abbrev pub BelowPartial : Option (CorePartial Term) → Term → Type 0
BelowPartial None t = ⊤
BelowPartial (Some p) t = root_number t < root_number p.root

-- the COUNT under which the next KeNB comes, at the least
abbrev pub next_count : Option ℕ → ℕ → ℕ
next_count None receive = receive
next_count (Some count) receive = count

-- of no later authentication than the context in use, and there of an earlier COUNT
abbrev pub BelowContext : Option (CoreContext Term) → Option ℕ → Term → Type 0
BelowContext None trigger t = ⊤
BelowContext (Some c) trigger t =
    (root_number t ≤ root_number c.nas.root)
    × (root_number t ≡ root_number c.nas.root → count_of t < next_count trigger c.nas.receive)

-- no later KeNB is this key
abbrev pub Past : ℕ → Option (CorePartial Term) → Option (CoreContext Term) → Option ℕ → Term → Type 0
Past roots partial context trigger t = (root_number t < roots) × BelowPartial partial t × BelowContext context trigger t

-- it is no later than the key of the chain
abbrev pub AtMost : Option (CoreLink Term ℕ) → Term → Type 0
AtMost None t = ⊤
AtMost (Some l) t =
    (root_number t ≤ root_number l.chain.sync)
    × (root_number t ≡ root_number l.chain.sync →
    (count_of t ≤ count_of l.chain.sync)
    × (count_of t ≡ count_of l.chain.sync → chain_number t ≤ chain_number l.chain.sync))

abbrev pub PartialOk : ℕ → Option (CorePartial Term) → Type 0
PartialOk roots o = OfSome (λ p. IsRoot p.root × (root_number p.root < roots)) o

abbrev pub ContextOk : ℕ → Option (CorePartial Term) → Option (CoreContext Term) → Type 0
ContextOk roots partial o = OfSome (λ c. IsRoot c.nas.root × (root_number c.nas.root < roots) × BelowPartial partial c.nas.root) o

-- the COUNT of the trigger was taken
abbrev pub TriggerOk : Option ℕ → Option (CoreContext Term) → Type 0
TriggerOk trigger None = ⊤
TriggerOk None (Some c) = ⊤
TriggerOk (Some count) (Some c) = count < c.nas.receive

abbrev pub ChainOk : ℕ → Option (CorePartial Term) → Option (CoreContext Term) → Option ℕ → ChainState Term ℕ → Type 0
ChainOk roots partial context trigger chain =
    IsRoot chain.root × IsDerivationKey chain.sync × (root_number chain.root ≡ root_number chain.sync)
    × Past roots partial context trigger chain.sync

abbrev pub LinkOk : ℕ → Option (CorePartial Term) → Option (CoreContext Term) → Option ℕ → Option (CoreLink Term ℕ) → Type 0
LinkOk roots partial context trigger o = OfSome (λ l. ChainOk roots partial context trigger l.chain) o

-- with so many authentications so far, and these keys given
pub record CoreOk (roots : ℕ) (G : Gifts) (s : Core Term ℕ) : Type 0 where
  pub partial : PartialOk roots s.partial
  pub context : ContextOk roots s.partial s.context
  pub trigger : TriggerOk s.trigger s.context
  pub link : LinkOk roots s.partial s.context s.trigger s.link
  pub given : (t : Term) (id : ℕ) → G t id → Past roots s.partial s.context s.trigger t × AtMost s.link t

-- what a step keeps, where these were sent before, and these gifts and attempts are known in the end
pub record CoreKept (roots : ℕ) (xs : List (Outgoing Term ℕ)) (G : Gifts) (sites : List Site) (tried : List (Tried Term ℕ)) (d : Core Term ℕ × Reply Term ℕ) : Type 0 where
  pub ok : CoreOk roots (GivenTo (with_one d.1.sent xs)) d.0
  pub outs : OutsAre IsWellFormed d.1.derived
  pub sends : ((t : Term) (a : ℕ) → GivesIn d.1.sent t a → G t a) → OfSome (FlyOk G sites tried) d.1.sent
  pub fresh : (t : Term) (a b : ℕ) → GivenTo xs t a → GivesIn d.1.sent t b → ⊥

pub below_partial_same : (p : Option (CorePartial Term)) (t u : Term) → root_number u ≡ root_number t → BelowPartial p t → BelowPartial p u
below_partial_same None t u e h = tt
below_partial_same (Some q) t u e h = subst (λ n. n < root_number q.root) (sym e) h

-- the order sees authentication and COUNT alone
pub past_same : (roots : ℕ) (p : Option (CorePartial Term)) (c : Option (CoreContext Term))
    (tr : Option ℕ) (t u : Term) → root_number u ≡ root_number t → count_of u ≡ count_of t →
    Past roots p c tr t → Past roots p c tr u
past_same roots p c tr t u e f h = (subst (λ n. n < roots) (sym e) h.0, below_partial_same p t u e h.1, context c h.2) where
  context : (c : Option (CoreContext Term)) → BelowContext c tr t → BelowContext c tr u
  context None k = tt
  context (Some q) k = (
    subst (λ n. n ≤ root_number q.nas.root) (sym e) k.0,
    λ g. subst (λ n. n < next_count tr q.nas.receive) (sym f) (k.1 (sym e ∙ g)),
  )
