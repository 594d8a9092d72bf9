-- Each row of the core derives from keys that are known, and leaves keys that are.
use Rattle.std.proofs.Common.{refl, ℕ, Bool, Option, Some, None, inl, inr}
use Rattle.alg_choice.specs.declared.caps.Caps.{Caps}
use Rattle.lte_events.specs.declared.setups.FirstNcc.{FirstNcc}
use Rattle.lte_events.specs.declared.setups.FirstNcc.TheVariants.{One, Two}
use Rattle.key_model.specs.{Term.Term, Term.Kenb, Reading.term_reading_by}
use Rattle.lte_machine.specs.{Reply.Reply, CoreState.Core, Known.CoreKnown, Known.SentKnown}
use Rattle.lte_machine.specs.CoreRows.{CoreRow, OfNas, OfRecord, OfAct, OfAuth}
use Rattle.lte_machine.specs.CoreKeys.{CoreDone, sync_from, nh_kept, authenticated, core_does}
use Rattle.lte_machine.proofs.CoreCases.{NasCases, nas_case, RecordCases, record_case, ActCases, act_case}
use Rattle.lte_machine.proofs.Tests.{Anything}
use Rattle.lte_machine.proofs.KnownLists.{OfSome, Plus, Chain, AllOut, core_more}

-- what a step keeps: its derivations are from known keys, and with their keys known all keys of the core and of what it
-- sends are known
abbrev pub CoreKeeps : (Term → Type 0) → (Term → Type 0) → Core Term ℕ × Reply Term ℕ → Type 0
CoreKeeps P Q d = Chain P d.1.derived × (AllOut Q d.1.derived → CoreKnown Q d.0 × OfSome (SentKnown Q) d.1.sent)

-- the derivations as a chain begins, and its key, whether the NH of number 1 is kept or not
module _ (same : Term → Term → Bool) where
  kept_from : (P : Term → Type 0) (first_ncc : FirstNcc) (root : Term) (count : ℕ) → P root
      → Chain (Plus P (Kenb root count)) (nh_kept (term_reading_by same) first_ncc root (Kenb root count))
  kept_from P One root count p = tt
  kept_from P Two root count p = ((inl p, inr refl, refl), tt)

  sync_known : (Q : Term → Type 0) (first_ncc : FirstNcc) (root kenb : Term) → Q kenb
      → AllOut Q (nh_kept (term_reading_by same) first_ncc root kenb) → Q (sync_from (term_reading_by same) first_ncc root kenb)
  sync_known Q One root kenb q o = q
  sync_known Q Two root kenb q o = o.0

module _ (same : Term → Term → Bool) (P Q : Term → Type 0) where
  -- of a core whose keys are known
  abbrev Keeps : Core Term ℕ → CoreDone Term ℕ → Type 0
  Keeps s d = CoreKnown P s → CoreKnown Q s → CoreKeeps P Q d

  nas_keeps : (s : Core Term ℕ) → NasCases (term_reading_by same) Anything Keeps s
  nas_keeps s = record {
    nothing = λ t answer p q. (tt, λ o. (q, tt));
    closed = λ k p q. (tt, λ o. ((q.0, tt, q.2, q.3), tt));
    completed = λ count x keys k p q. (tt, λ o. ((tt, tt, (q.0, q.1), q.3), tt));
    changed = λ count conn next station x keys k p q. (
      ((p.0, tt, refl), kept_from same P s.first_ncc x.root count p.0),
      λ o. ((tt, tt, (q.0, q.1), (q.0, sync_known same Q s.first_ncc x.root (Kenb x.root count) o.0 o.1)), o.0),
    );
    asked = λ count c k p q. (tt, λ o. (q, tt));
    opened = λ count text c k p q. (tt, λ o. (q, tt));
    rejected = λ count c k p q. (tt, λ o. ((q.0, tt, q.2, q.3), tt));
  }

  record_keeps : (s : Core Term ℕ) → RecordCases (term_reading_by same) Anything Keeps s
  record_keeps s = record {
    nothing = λ t answer p q. (tt, λ o. (q, tt));
    switched = λ conn station number alarm link k (_, _, _, (root, sync)) (partial, procedure, context, (kept, _)).
        (((root, sync, refl), tt), λ (next, _). ((partial, procedure, context, (kept, next)), next));
    asked = λ conn source attempt cell target caps link k (_, _, _, (root, sync)) (partial, procedure, context, (kept, _)).
        (((root, sync, refl), tt), λ (next, _). ((partial, procedure, context, (kept, next)), next));
    ordered = λ conn source attempt cell ncc algs air k p q. (tt, λ o. (q, tt));
    notified = λ station link k p q. (tt, λ o. (q, tt));
    cancelled = λ conn source attempt cell target k p q. (tt, λ o. (q, tt));
  }

  act_keeps : (s : Core Term ℕ) → ActCases (term_reading_by same) Anything Keeps s
  act_keeps s = record {
    nothing = λ t answer p q. (tt, λ o. (q, tt));
    started = λ ksi algs caps count x k p q. (
      ((p.0, tt, refl), ((inl p.0, tt, refl), tt)),
      λ (enc, (int, _)). ((q.0, (enc, int), q.2, q.3), (int, tt)),
    );
    set_up = λ conn cell target caps count c k (_, _, (known, _), _) (partial, procedure, (root, keys), _). (
      ((known, tt, refl), kept_from same P s.first_ncc c.nas.root count known),
      λ (kenb, kept). ((partial, procedure, (root, keys), (root, sync_known same Q s.first_ncc c.nas.root (Kenb c.nas.root count) kenb kept)), kenb),
    );
    released = λ conn station k p q. (tt, λ o. ((q.0, q.1, q.2, tt), tt));
    sent = λ count text c k p q. let (_, (enc, int)) = q.2 in (tt, λ o. (q, (int, enc)));
    skipped = λ n c k p q. (tt, λ o. (q, tt));
  }

  auth_keeps : (ksi : ℕ) (caps : Caps) (o : Option Term) (s : Core Term ℕ) → OfSome Q o → CoreKnown Q s → CoreKeeps P Q (authenticated ksi caps o s)
  auth_keeps ksi caps None s h q = (tt, λ o. (q, tt))
  auth_keeps ksi caps (Some root) s h q = (tt, λ o. ((h, tt, q.2, q.3), tt))

-- each row of the core
pub core_does_keeps : (same : Term → Term → Bool) (P Q : Term → Type 0) → ((t : Term) → P t → Q t) → (row : CoreRow) (root : Option Term) (s : Core Term ℕ) →
    OfSome Q root → CoreKnown P s → CoreKeeps P Q (core_does (term_reading_by same) row root s)
core_does_keeps same P Q f (OfNas row) root s k p =
    nas_case (term_reading_by same) Anything (Keeps same P Q) s (nas_keeps same P Q s) row tt p (core_more P Q f s p)
core_does_keeps same P Q f (OfRecord row) root s k p =
    record_case (term_reading_by same) Anything (Keeps same P Q) s (record_keeps same P Q s) row tt p (core_more P Q f s p)
core_does_keeps same P Q f (OfAct row) root s k p =
    act_case (term_reading_by same) Anything (Keeps same P Q) s (act_keeps same P Q s) row tt p (core_more P Q f s p)
core_does_keeps same P Q f (OfAuth ksi caps) root s k p = auth_keeps same P Q ksi caps root s k (core_more P Q f s p)
