-- Each row of the phone derives from keys that are known, and leaves keys that are.
use Rattle.std.proofs.Common.{◌≡◌, refl, subst, ℕ, zero, suc, Bool, List, Option, Some, None, inl, ◌++◌, inr}
use Rattle.alg_choice.specs.declared.algs.Algs.{Algs}
use Rattle.annex_a_keys.specs.Cell.{Place}
use Rattle.key_model.specs.Term.{Term, Star, Kenb}
use Rattle.key_model.specs.{Derivation.Derivation, Derivation.nh_made, HandoverLines.nh_after, HandoverLines.key_after, Reading.Reading, Reading.term_reading_by}
use Rattle.nh_chain.specs.Chain.{nhs_made}
use Rattle.nh_chain.specs.Reach.{phone_of, base_after, handover_made}
use Rattle.pdcp_guard.specs.AsKeys.{as_derivations}
use Rattle.lte_machine.specs.Reply.{Reply}
use Rattle.lte_machine.specs.PhoneState.{Link, Connected, Phone}
use Rattle.lte_machine.specs.PhoneRows.{Authenticated, PhoneRow, OfAuth, OfNas, OfAir, OfAct}
use Rattle.lte_machine.specs.PhoneKeys.{PhoneDone, reached_anew, authenticated, handed_over, phone_does}
use Rattle.lte_machine.specs.Known.{RadioKnown, PhoneKnown, SentKnown}
use Rattle.lte_machine.proofs.PhoneCases.{with_radio, NasCases, nas_case, AirCases, air_case, ActCases, act_case}
use Rattle.lte_machine.proofs.Tests.{Anything}
use Rattle.lte_machine.proofs.KnownLists.{OfSome, Chain, AllOut, PlusAll, still_known, last_known, chain_append, outs_left, outs_right, as_chain, phone_more, star_chain, Plus}

-- THE STEPS OF A CHAIN

module _ (same : Term → Term → Bool) where
  -- the last NH is known, or the SYNC-input where none is made
  nhs_known : (P : Term → Type 0) (root sync : Term) (steps : ℕ) → P sync
      → PlusAll P (nhs_made (term_reading_by same) root sync steps) (nh_after (term_reading_by same) root sync steps)
  nhs_known P root sync zero q = q
  nhs_known P root sync (suc steps) q =
      last_known P (nhs_made (term_reading_by same) root sync steps) (nh_made (term_reading_by same) root (nh_after (term_reading_by same) root sync steps))

  -- each NH is from the KASME and the key before (TS 33.401 A.4)
  nhs_chain : (P : Term → Type 0) (root sync : Term) (steps : ℕ) → P root → P sync → Chain P (nhs_made (term_reading_by same) root sync steps)
  nhs_chain P root sync zero p q = tt
  nhs_chain P root sync (suc steps) p q =
      chain_append P (nhs_made (term_reading_by same) root sync steps) _ (nhs_chain P root sync steps p q)
      ((still_known P (nhs_made (term_reading_by same) root sync steps) root p, nhs_known P root sync steps q, refl), tt)

  -- the last NH is one of those that are made, or the SYNC-input where none is
  nhs_out : (Q : Term → Type 0) (root sync : Term) (steps : ℕ) → Q sync → AllOut Q (nhs_made (term_reading_by same) root sync steps)
      → Q (nh_after (term_reading_by same) root sync steps)
  nhs_out Q root sync zero q o = q
  nhs_out Q root sync (suc steps) q o = (outs_right Q (nhs_made (term_reading_by same) root sync steps) _ o).0

  base_known : (P : Term → Type 0) (l : Link Term ℕ) (steps : ℕ) → RadioKnown P (Connected l) →
      PlusAll P (nhs_made (term_reading_by same) l.chain.root l.chain.sync steps) (base_after (term_reading_by same) (phone_of l.chain l.kenb) steps)
  base_known P l zero (_, kenb, _) = kenb
  base_known P l (suc steps) ((_, sync), _, _) = nhs_known P l.chain.root l.chain.sync (suc steps) sync

  -- KeNB* is that of the key reached
  star_is : (l : Link Term ℕ) (steps : ℕ) (cell : Place) →
      Star (base_after (term_reading_by same) (phone_of l.chain l.kenb) steps) cell.pci cell.earfcn
      ≡ (key_after (term_reading_by same) (phone_of l.chain l.kenb) steps cell.pci cell.earfcn).key
  star_is l zero cell = refl
  star_is l (suc steps) cell = refl

  handover_chain : (P : Term → Type 0) (l : Link Term ℕ) (steps : ℕ) (cell : Place) → RadioKnown P (Connected l) →
      Chain P (handover_made (term_reading_by same) (phone_of l.chain l.kenb) steps cell)
  handover_chain P l steps cell h =
      let (root, sync) = h.0 in
      chain_append P (nhs_made (term_reading_by same) l.chain.root l.chain.sync steps) _ (nhs_chain P l.chain.root l.chain.sync steps root sync)
      ((base_known P l steps h, tt, refl), tt)

  star_known : (P : Term → Type 0) (l : Link Term ℕ) (steps : ℕ) (cell : Place) →
      PlusAll P (handover_made (term_reading_by same) (phone_of l.chain l.kenb) steps cell)
      (key_after (term_reading_by same) (phone_of l.chain l.kenb) steps cell.pci cell.earfcn).key
  star_known P l steps cell =
      subst (PlusAll P (handover_made (term_reading_by same) (phone_of l.chain l.kenb) steps cell)) (star_is l steps cell)
      (last_known P (nhs_made (term_reading_by same) l.chain.root l.chain.sync steps) _)

  star_out : (Q : Term → Type 0) (l : Link Term ℕ) (steps : ℕ) (cell : Place)
      → AllOut Q (handover_made (term_reading_by same) (phone_of l.chain l.kenb) steps cell) →
      Q (key_after (term_reading_by same) (phone_of l.chain l.kenb) steps cell.pci cell.earfcn).key
  star_out Q l steps cell o = subst Q (star_is l steps cell) (outs_right Q (nhs_made (term_reading_by same) l.chain.root l.chain.sync steps) _ o).0

-- THE ROWS

-- what a step keeps: its derivations are from known keys, and with their keys known all keys of the phone and of what it
-- sends are known
abbrev pub PhoneKeeps : (Term → Type 0) → (Term → Type 0) → Phone Term ℕ × Reply Term ℕ → Type 0
PhoneKeeps P Q d = Chain P d.1.derived × (AllOut Q d.1.derived → PhoneKnown Q d.0 × OfSome (SentKnown Q) d.1.sent)

module _ (same : Term → Term → Bool) (P Q : Term → Type 0) where
  -- of a phone whose keys are known
  abbrev Keeps : Phone Term ℕ → PhoneDone Term ℕ → Type 0
  Keeps s d = PhoneKnown P s → PhoneKnown Q s → PhoneKeeps P Q d

  nas_keeps : (s : Phone Term ℕ) → NasCases (term_reading_by same) Anything Keeps s
  nas_keeps s = record {
    nothing = λ t answer p q. (tt, λ o. (q, tt));
    rejected = λ answer cause k p q. (tt, λ o. (q, tt));
    rejected_under = λ answer cause c k p q. let (_, (enc, int)) = q.1 in (tt, λ o. (q, (int, enc)));
    taken = λ algs count x k p q. (
      ((p.0, tt, refl), ((inl p.0, tt, refl), ((inl (inl p.0), tt, refl), tt))),
      λ (kenb, (enc, (int, _))). ((tt, (q.0, (enc, int)), (q.0, kenb)), (int, enc)),
    );
    taken_connected = λ algs count x k p q. (
      ((p.0, tt, refl), ((inl p.0, tt, refl), tt)),
      λ (enc, (int, _)). ((tt, (q.0, (enc, int)), q.2), (int, enc)),
    );
    opened = λ count text c k p q. (tt, λ o. (q, tt));
  }

  -- a handover
  handed_over_keeps : (cell : Place) (steps : ℕ) (algs : Algs) (station air : ℕ) (s : Phone Term ℕ) (l : Link Term ℕ)
      → Keeps (with_radio s (Connected l)) (handed_over (term_reading_by same) cell steps algs station air (with_radio s (Connected l)) (Connected l))
  handed_over_keeps cell steps algs station air s l p q =
      let r : Reading Term ℕ = term_reading_by same in
      let made : List (Derivation Term) = handover_made r (phone_of l.chain l.kenb) steps cell in
      let star : Term = (key_after r (phone_of l.chain l.kenb) steps cell.pci cell.earfcn).key in (
        chain_append P made (as_derivations r star algs) (handover_chain same P l steps cell p.2)
            (as_chain same (PlusAll P made) star algs (star_known same P l steps cell)),
        λ o.
            let before = outs_left Q made (as_derivations r star algs) o in
            let (enc, (int, (up, _))) = outs_right Q made (as_derivations r star algs) o in
            let ((root, sync), _, _) = q.2 in
            let nhs = outs_left Q (nhs_made r l.chain.root l.chain.sync steps) _ before in (
              (
                q.0,
                q.1,
                ((root, nhs_out same Q l.chain.root l.chain.sync steps sync nhs), star_out same Q l steps cell before, (enc, int, up)),
              ),
              (int, enc),
            ),
      )

  -- KeNB, KeNB* of it, and the keys of that
  anew_chain : (root : Term) (cell : Place) (algs : Algs) → P root →
      Chain P ((reached_anew (term_reading_by same) root cell).made
      ++ as_derivations (term_reading_by same) (reached_anew (term_reading_by same) root cell).star.key algs)
  anew_chain root cell algs p = ((p, tt, refl), star_chain same (Plus P (Kenb root 0)) (Kenb root 0) cell.pci cell.earfcn algs (inr refl))

  air_keeps : (s : Phone Term ℕ) → AirCases (term_reading_by same) Anything Keeps s
  air_keeps s = record {
    nothing = λ t answer p q. (tt, λ o. (q, tt));
    secured = λ station air algs count w k (_, _, (_, known)) (partial, context, (root, kenb)).
        (as_chain same P w.kenb algs known, λ (enc, (int, (up, _))). ((partial, context, ((root, kenb), kenb, (enc, int, up))), (int, tt)));
    handed_over = λ cell steps algs station air l k. handed_over_keeps cell steps algs station air s l;
    changed = λ cell algs station air l c e k (_, (known, _), _) (partial, (root, keys), _). (
      anew_chain c.root cell algs known,
      λ (kenb, (star, (enc, (int, (up, _))))). ((partial, (root, keys), ((root, kenb), star, (enc, int, up))), (int, enc)),
    );
    rrc = λ srb count text l k p q. (tt, λ o. (q, tt));
    packet = λ drb count text l k p q. (tt, λ o. (q, tt));
  }

  act_keeps : (s : Phone Term ℕ) → ActCases (term_reading_by same) Anything Keeps s
  act_keeps s = record {
    nothing = λ t answer p q. (tt, λ o. (q, tt));
    requested = λ c k (_, (known, _), _) (partial, (root, (enc, int)), _).
        (((known, tt, refl), tt), λ (kenb, _). ((partial, (root, (enc, int)), (root, kenb)), (int, tt)));
    resent = λ l k p q. let (_, _, (enc, int, _)) = q.2 in (tt, λ o. (q, (int, enc)));
    idle = λ k p q. (tt, λ o. ((q.0, q.1, tt), tt));
    packet = λ drb text l k p q. let (_, _, (_, _, up)) = q.2 in (tt, λ o. (q, up));
    rrc = λ srb text l k p q. let (_, _, (enc, int, _)) = q.2 in (tt, λ o. (q, (int, enc)));
    nas = λ text c k p q. let (_, (enc, int)) = q.1 in (tt, λ o. (q, (int, enc)));
    nas_skipped = λ n c k p q. (tt, λ o. (q, tt));
    bearer_skipped = λ bearer n l k p q. (tt, λ o. (q, tt));
  }

  auth_keeps : (ksi : ℕ) (o : Option Term) (s : Phone Term ℕ) → OfSome Q o → PhoneKnown Q s → PhoneKeeps P Q (authenticated ksi s o)
  auth_keeps ksi None s h q = (tt, λ o. (q, tt))
  auth_keeps ksi (Some root) s h q = (tt, λ o. ((h, q.1, q.2), tt))

-- each row of the phone
pub phone_does_keeps : (same : Term → Term → Bool) (P Q : Term → Type 0) → ((t : Term) → P t → Q t) → (row : PhoneRow) (root : Option Term) (s : Phone Term ℕ) →
    OfSome Q root → PhoneKnown P s → PhoneKeeps P Q (phone_does (term_reading_by same) row root s)
phone_does_keeps same P Q f (OfAuth (Authenticated ksi)) root s k p = auth_keeps same P Q ksi root s k (phone_more P Q f s p)
phone_does_keeps same P Q f (OfNas row) root s k p =
    nas_case (term_reading_by same) Anything (Keeps same P Q) s (nas_keeps same P Q s) row tt p (phone_more P Q f s p)
phone_does_keeps same P Q f (OfAir row) root s k p =
    air_case (term_reading_by same) Anything (Keeps same P Q) s (air_keeps same P Q s) row tt p (phone_more P Q f s p)
phone_does_keeps same P Q f (OfAct row) root s k p =
    act_case (term_reading_by same) Anything (Keeps same P Q) s (act_keeps same P Q s) row tt p (phone_more P Q f s p)
