-- What each row of the phone keeps of its keys: they are keys of TS 33.401 Annex A, and the phone sends none.
use Rattle.std.proofs.Common.{ℕ, zero, suc, Bool, List, Option, Some, None}
use Rattle.std.specs.Prelude.{⊤}
use Rattle.annex_a_keys.specs.Cell.{Place}
use Rattle.key_model.specs.Term.{Term, Root, IsRoot, IsDerivationKey, IsWellFormed}
use Rattle.key_model.specs.{Derivation.Derivation, Reading.term_reading_by, HandoverLines.nh_after, HandoverLines.key_after}
use Rattle.nh_chain.specs.{Chain.ChainState, Chain.nhs_made, Reach.phone_of, Reach.base_after}
use Rattle.lte_machine.specs.{Wire.Outgoing, Wire.Between, Reply.Reply, Reply.Tried}
use Rattle.lte_events.specs.Site.{Site}
use Rattle.lte_machine.specs.PhoneState.{Radio, Idle, Connecting, Connected, Phone}
use Rattle.lte_machine.specs.PhoneRows.{AuthRow, Authenticated, PhoneRow, OfAuth, OfNas, OfAir, OfAct}
use Rattle.lte_machine.specs.PhoneKeys.{PhoneDone, auth_does, phone_does}
use Rattle.lte_machine.proofs.PhoneCases.{NasCases, nas_case, AirCases, air_case, ActCases, act_case}
use Rattle.lte_machine.proofs.{Tests.Anything, PhoneGives.NotBetween}
use Rattle.lte_properties.proofs.ChainNumbers.Lists.{OfSome, all_append}
use Rattle.lte_properties.proofs.KeySeparation.Keys.{Gifts, FlyOk, OutsAre}

pub root_derives : (t : Term) → IsRoot t → IsDerivationKey t
root_derives (Root r octets) h = tt
root_derives other h = absurd h

-- A CHAIN

nh_after_derives : (same : Term → Term → Bool) (root sync : Term) → IsRoot root → IsDerivationKey sync → (steps : ℕ)
    → IsDerivationKey (nh_after (term_reading_by same) root sync steps)
nh_after_derives same root sync h k zero = k
nh_after_derives same root sync h k (suc steps) = (h, nh_after_derives same root sync h k steps)

nhs_made_well : (same : Term → Term → Bool) (root sync : Term) → IsRoot root → IsDerivationKey sync → (steps : ℕ)
    → OutsAre IsWellFormed (nhs_made (term_reading_by same) root sync steps)
nhs_made_well same root sync h k zero = tt
nhs_made_well same root sync h k (suc steps) =
    all_append (λ (d : Derivation Term). IsWellFormed d.out) (nhs_made (term_reading_by same) root sync steps) _ (nhs_made_well same root sync h k steps)
    ((h, nh_after_derives same root sync h k steps), tt)

star_derives : (same : Term → Term → Bool) (chain : ChainState Term ℕ) (active : Term) → IsRoot chain.root → IsDerivationKey chain.sync
    → IsDerivationKey active → (steps : ℕ) (cell : Place) →
    IsDerivationKey (key_after (term_reading_by same) (phone_of chain active) steps cell.pci cell.earfcn).key
star_derives same chain active h k l zero cell = l
star_derives same chain active h k l (suc steps) cell = nh_after_derives same chain.root chain.sync h k (suc steps)

base_derives : (same : Term → Term → Bool) (chain : ChainState Term ℕ) (active : Term) → IsRoot chain.root → IsDerivationKey chain.sync
    → IsDerivationKey active → (steps : ℕ) →
    IsDerivationKey (base_after (term_reading_by same) (phone_of chain active) steps)
base_derives same chain active h k l zero = l
base_derives same chain active h k l (suc steps) = nh_after_derives same chain.root chain.sync h k (suc steps)

-- THE KEYS OF A PHONE

abbrev pub RadioOk : Radio Term ℕ → Type 0
RadioOk Idle = ⊤
RadioOk (Connecting w) = IsRoot w.root × IsDerivationKey w.kenb
RadioOk (Connected l) = IsRoot l.chain.root × IsDerivationKey l.chain.sync × IsDerivationKey l.kenb

pub record PhoneOk (s : Phone Term ℕ) : Type 0 where
  pub partial : OfSome (λ p. IsRoot p.root) s.partial
  pub context : OfSome (λ c. IsRoot c.root) s.context
  pub radio : RadioOk s.radio

-- what is sent holds no key
pub keyless_flies : (G : Gifts) (sites : List Site) (tried : List (Tried Term ℕ)) (o : Option (Outgoing Term ℕ)) → NotBetween o → OfSome (FlyOk G sites tried) o
keyless_flies G sites tried (Some (Between to fields key)) h = absurd h
keyless_flies other sites tried rest h = tt

-- what a step keeps
pub record PhoneKept (d : Phone Term ℕ × Reply Term ℕ) : Type 0 where
  pub ok : PhoneOk d.0
  pub outs : OutsAre IsWellFormed d.1.derived

module _ (same : Term → Term → Bool) where
  -- of a phone whose keys are such
  abbrev Keeps : Phone Term ℕ → PhoneDone Term ℕ → Type 0
  Keeps s d = PhoneOk s → PhoneKept d

  nas_kept : (s : Phone Term ℕ) → NasCases (term_reading_by same) Anything Keeps s
  nas_kept s = record {
    nothing = λ t answer h. record { ok = h; outs = tt };
    rejected = λ answer cause k h. record { ok = h; outs = tt };
    rejected_under = λ answer cause c k h. record { ok = record { partial = h.partial; context = h.context; radio = h.radio }; outs = tt };
    taken = λ algs count p k h. record {
      ok = record { partial = tt; context = h.partial; radio = (h.partial, h.partial) };
      outs = (h.partial, (root_derives p.root h.partial, (root_derives p.root h.partial, tt)));
    };
    taken_connected = λ algs count p k h. record {
      ok = record { partial = tt; context = h.partial; radio = h.radio };
      outs = (root_derives p.root h.partial, (root_derives p.root h.partial, tt));
    };
    opened = λ count text c k h. record { ok = record { partial = h.partial; context = h.context; radio = h.radio }; outs = tt };
  }

  air_kept : (s : Phone Term ℕ) → AirCases (term_reading_by same) Anything Keeps s
  air_kept s = record {
    nothing = λ t answer h. record { ok = h; outs = tt };
    secured = λ station air algs count w k h. let n = h.radio in record {
      ok = record { partial = h.partial; context = h.context; radio = (n.0, n.1, n.1) };
      outs = (n.1, (n.1, (n.1, tt)));
    };
    handed_over = λ cell steps algs station air l k h.
        let n = h.radio in
        let star = star_derives same l.chain l.kenb n.0 n.1 n.2 steps cell in record {
          ok = record { partial = h.partial; context = h.context; radio = (n.0, nh_after_derives same l.chain.root l.chain.sync n.0 n.1 steps, star) };
          outs = all_append (λ (d : Derivation Term). IsWellFormed d.out) _ _
              (all_append (λ (d : Derivation Term). IsWellFormed d.out) (nhs_made (term_reading_by same) l.chain.root l.chain.sync steps) _
              (nhs_made_well same l.chain.root l.chain.sync n.0 n.1 steps) (base_derives same l.chain l.kenb n.0 n.1 n.2 steps, tt))
              (star, (star, (star, tt)));
        };
    changed = λ cell algs station air l c e k h. let n = h.context in record {
      ok = record { partial = h.partial; context = n; radio = (n, n, n) };
      outs = (n, (n, (n, (n, (n, tt)))));
    };
    rrc = λ srb count text l k h. record { ok = record { partial = h.partial; context = h.context; radio = h.radio }; outs = tt };
    packet = λ drb count text l k h. record { ok = record { partial = h.partial; context = h.context; radio = h.radio }; outs = tt };
  }

  act_kept : (s : Phone Term ℕ) → ActCases (term_reading_by same) Anything Keeps s
  act_kept s = record {
    nothing = λ t answer h. record { ok = h; outs = tt };
    requested = λ c k h. let n = h.context in record { ok = record { partial = h.partial; context = n; radio = (n, n) }; outs = (n, tt) };
    resent = λ l k h. record { ok = record { partial = h.partial; context = h.context; radio = h.radio }; outs = tt };
    idle = λ k h. record { ok = record { partial = h.partial; context = h.context; radio = tt }; outs = tt };
    packet = λ drb text l k h. record { ok = record { partial = h.partial; context = h.context; radio = h.radio }; outs = tt };
    rrc = λ srb text l k h. record { ok = record { partial = h.partial; context = h.context; radio = h.radio }; outs = tt };
    nas = λ text c k h. record { ok = record { partial = h.partial; context = h.context; radio = h.radio }; outs = tt };
    nas_skipped = λ n c k h. record { ok = record { partial = h.partial; context = h.context; radio = h.radio }; outs = tt };
    bearer_skipped = λ bearer n l k h. record { ok = record { partial = h.partial; context = h.context; radio = h.radio }; outs = tt };
  }

  auth_kept : (row : AuthRow) (o : Option Term) (s : Phone Term ℕ) → OfSome IsRoot o → PhoneOk s → PhoneKept (auth_does row o s)
  auth_kept (Authenticated ksi) None s n h = record { ok = h; outs = tt }
  auth_kept (Authenticated ksi) (Some root) s n h = record { ok = record { partial = n; context = h.context; radio = h.radio }; outs = tt }

  -- each row
  pub phone_kept : (s : Phone Term ℕ) (row : PhoneRow) (o : Option Term) → OfSome IsRoot o → PhoneOk s → PhoneKept (phone_does (term_reading_by same) row o s)
  phone_kept s (OfAuth row) o n h = auth_kept row o s n h
  phone_kept s (OfNas row) o n h = nas_case (term_reading_by same) Anything Keeps s (nas_kept s) row tt h
  phone_kept s (OfAir row) o n h = air_case (term_reading_by same) Anything Keeps s (air_kept s) row tt h
  phone_kept s (OfAct row) o n h = act_case (term_reading_by same) Anything Keeps s (act_kept s) row tt h
