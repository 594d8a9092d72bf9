-- Few steps keep keys: what is made is fewer than eight steps ahead of a phone.
use Rattle.std.proofs.Common.{◌≡◌, refl, sym, ap, ◌∙◌, subst, ℕ, zero, suc, ◌+◌, ◌≤◌, ◌<◌, ◌||◌, Bool, true, false, cond, List, [], ◌∷◌, ◌++◌, map, take, Option, Some, None, Result, Ok, Err, arith}
use Rattle.std.specs.List.{count_by, AllByRecursion as AllOf}
use Rattle.std.proofs.lemmas.{Bool.eq-eqb, List.Sums.sum_by-cons, List.Sums.sum_by-take-le}
use Rattle.key_model.specs.{Term.Term, Term.Root, Value.same_value}
use Rattle.lte_events.proofs.InRange.{in_range}
use Rattle.lte_events.specs.{declared.events.Event.Event, declared.lines.Line.Line as ALine, declared.setups.Setup.Setup}
use Rattle.lte_machine.specs.{BothRuns.annex_b_terms, BothRuns.written_report, BothRuns.written_run, Ciphers.annex_b, Ciphers.octets_of, Machines.sender_of, Machines.written_in_values, Machines.written_machine, Opening.open_by_uses, Opening.open_octets, Opening.Opening, Opening.Outcome}
use Rattle.lte_machine.specs.Reply.{Came, Secured, Commanded, Changed, Made, Note, Took}
use Rattle.lte_machine.specs.Run.{RunState, Running, EventReport, Reported, Coincided, event_report, report, turn, first_world}
use Rattle.lte_machine.specs.World.{Machine, Line}
use Rattle.lte_machine.proofs.{AnnexB.annex_b_ciphers, EventByEvent.each_of_first, EventByEvent.step_takes, StillRun.still_is_run, Worlds.TheWorld}
use Rattle.lte_properties.specs.Agreement.{ahead, ObeysMade}
use Rattle.lte_properties.specs.BySteps.{Follows}
use Rattle.lte_properties.specs.{ChainHolds.core_numbers, Chains.Chains, Chains.IsKeyOf}
use Rattle.lte_properties.proofs.EveryRun.{chains}
use Rattle.lte_world.specs.declared.faults.WorldFault.{WorldFault}
use Rattle.item_outcomes.specs.{Keys.parted, Probe.is_among}
use Rattle.item_runs.specs.Course.{Seen, Promises}
use Rattle.item_keys.specs.{Far.TakesFar, Few.begins_at, Few.tells_chained, Few.steps_chain, Few.is_both, Few.authenticates, Few.FewSteps, Few.FewKeep}
use Rattle.item_keys.proofs.{AtItems.parts_far, ChainSteps.further, ChainSteps.is_further, ChainSteps.numbers_low, Exact.seen_note, Exact.told_by, Exact.told_in, NoChange.joint, NoChange.NotByChange, NoChange.NotChanged, NoChange.none_changed}

-- COUNTS

module _ {A : Type 0} (p : A → Bool) where
  count_cons : (x : A) (xs : List A) → count_by p (x ∷ xs) ≡ cond (p x) 1 0 + count_by p xs
  count_cons x xs = sum_by-cons (λ y. cond (p y) 1 0) x xs

-- what is counted of two lists whose images are the same, by a test of the images
count_same : {A B : Type 0} (f : A → B) (p : A → Bool) (q : B → Bool) → ((x : A) → q (f x) ≡ p x) → (xs : List A) → count_by q (map f xs) ≡ count_by p xs
count_same f p q same [] = refl
count_same f p q same (x ∷ xs) =
    count_cons q (f x) (map f xs) ∙ (λ j. cond (same x j) 1 0 + count_same f p q same xs j) ∙ sym (count_cons p x xs)

report_take : {K C S : Type 0} (by_octets : Opening K → List ℕ → Outcome) (m : Machine K C S) (r : RunState K C S) (n : ℕ) (es : List Event)
    → report by_octets m r (take n es) ≡ take n (report by_octets m r es)
report_take by_octets m r zero es = refl
report_take by_octets m r (suc n) [] = refl
report_take by_octets m r (suc n) (e ∷ es) = λ j. event_report by_octets m r e ∷ report_take by_octets m (turn by_octets m r e) n es j

-- TESTS OF LINES, in values and over terms

abbrev line_steps : Result ALine WorldFault → Bool
line_steps (Ok line) = tells_chained line.note
line_steps (Err fault) = false

abbrev line_joins : Result ALine WorldFault → Bool
line_joins (Ok line) = is_both line.who
line_joins (Err fault) = false

note_steps : (o : Option (Note Term)) → tells_chained (seen_note o) ≡ is_further o
note_steps None = refl
note_steps (Some note) = refl

line_further : (r : EventReport Term) → line_steps (told_by r) ≡ further r
line_further (Reported l) = note_steps l.note
line_further (Coincided coincidence) = refl

line_joint : (r : EventReport Term) → line_joins (told_by r) ≡ joint r
line_joint (Reported l) = refl
line_joint (Coincided coincidence) = refl

none_in : (xs : List ℕ) → ((n : ℕ) → is_among xs n ≡ true → ⊥) → xs ≡ []
none_in [] f = refl
none_in (x ∷ xs) f = absurd (f x (ap (λ b. b || is_among xs x) (eq-eqb x x refl)))

last_of : {A : Type 0} (P : A → Type 0) (xs : List A) (x : A) → AllOf P (xs ++ x ∷ []) → P x
last_of P [] x h = h.0
last_of P (y ∷ ys) x h = last_of P ys x h.1

module _ (s : Seen) (holds : Promises s) (few : FewSteps s) where
  abbrev setup : Setup
  setup = s.setup

  abbrev events : List Event
  events = s.coming.events

  -- what the run tells, counted over terms
  steps_are : count_by further (written_report setup events) ≡ count_by steps_chain s.coming.told
  steps_are =
      sym (count_same told_by further line_steps line_further (written_report setup events))
      ∙ ap (count_by line_steps) holds.tells
      ∙ count_same told_in steps_chain line_steps (λ t. refl) s.coming.told

  joint_are : count_by joint (written_report setup events) ≡ count_by authenticates s.coming.told
  joint_are =
      sym (count_same told_by joint line_joins line_joint (written_report setup events))
      ∙ ap (count_by line_joins) holds.tells
      ∙ count_same told_in authenticates line_joins (λ t. refl) s.coming.told

  -- fewer at the first events
  fewer : (p : EventReport Term → Bool) (n : ℕ) → count_by p (written_report setup (take n events)) ≤ count_by p (written_report setup events)
  fewer p n =
      subst (λ xs. count_by p xs ≤ count_by p (written_report setup events))
      (sym (report_take (open_octets annex_b_terms) (written_machine annex_b) (Running (first_world setup)) n events))
      (sum_by-take-le (λ r. cond (p r) 1 0) (written_report setup events) n)

  module _ (k : ℕ) (x : Took Term ℕ) (l : Line Term) (f : Follows setup events k x l) where
    abbrev n : ℕ
    n = suc f.when

    runs : written_run setup (take n events) ≡ Running f.makes.after
    runs = step_takes setup events f.when f.makes.world f.makes.event f.makes.after f.told f.makes.step

    -- what was made has a low number, and came by no change of the key
    number_low : f.made.number < 8
    number_low =
        let chain = chains annex_b annex_b_ciphers setup (take n events) f.makes.after runs holds.scenario.can_start
        (each_of_first n events (in_range setup events holds.scenario.can_happen)) in
        let is = still_is_run (open_octets annex_b_terms) (written_machine annex_b) (first_world setup) (take n events) f.makes.after runs in
        let c : Chains = record {
          root = chain.0;
          count = chain.1;
          top = core_numbers (written_machine annex_b) (first_world setup) (λ conn. 0) (take n events);
        } in
        let made : AllOf (λ (m : Made Term ℕ). IsKeyOf c m.conn m.key m.number) (f.makes.world.made ++ f.made ∷ []) =
        subst (AllOf (λ (m : Made Term ℕ). IsKeyOf c m.conn m.key m.number)) (ap (λ (u : TheWorld). u.made) (sym is) ∙ f.makes.makes) chain.2.made in
        let key = last_of (λ (m : Made Term ℕ). IsKeyOf c m.conn m.key m.number) f.makes.world.made f.made made in
        let low = numbers_low same_value Root (octets_of annex_b_terms written_in_values) sender_of (open_by_uses same_value annex_b_terms)
        (open_octets annex_b_terms) (first_world setup) (λ conn. 0) (take n events) f.makes.after (begins_at setup.core_first_ncc) runs
        (λ conn. omega arith) tt (omega arith) f.made.conn in
        let at_most = key.1 in
        let told = fewer further n in
        let all = steps_are in
        let bound = few.few in
        omega (arith, at_most, low, told, all, bound)

    not_changed : NotChanged f.made
    not_changed =
        let told = fewer joint n in
        let all = joint_are in
        let one = few.one in
        let none = none_changed same_value Root (octets_of annex_b_terms written_in_values) sender_of (open_by_uses same_value annex_b_terms)
        (open_octets annex_b_terms) 0 (first_world setup) (take n events) f.makes.after runs (((tt, tt), tt, tt), λ z. (tt, tt))
        (omega (arith, told, all, one)) in
        last_of NotChanged f.makes.world.made f.made (subst (AllOf NotChanged) f.makes.makes none.2)

    near : (came : Came Term ℕ) → ObeysMade x came f.made → ahead f.made came < 8
    near Secured o = omega arith
    near (Commanded before) o = let low = number_low in omega (arith, low)
    near (Changed before root) o = absurd (subst NotByChange o.renewed not_changed)

  none_far : (k : ℕ) → TakesFar setup events k → ⊥
  none_far k t =
      let low = near k t.took t.line t.follows t.took.came t.follows.obeys in
      let far = t.far in
      omega (arith, low, far)

  pub kept : parted s.coming.told ≡ []
  kept = none_in (parted s.coming.told) (λ name e. let at = (parts_far s holds name).0 e in none_far at.place at.far)

-- OF EVERY RUN of items
pub few_keep : (s : Seen) → Promises s → FewKeep s
few_keep s holds few = kept s holds few
