-- The worlds of a fleet are those of its phones' own events: what they tell, and one event more.
use Rattle.std.proofs.Common.{◌≡◌, refl, sym, ap, subst, ◌∙◌, ℕ, zero, suc, ◌+◌, ◌<◌, ◌≤◌, false, List, [], ◌∷◌, ◌++◌, length, map, drop, get_or, set, Option, Some, None, Ok, Err, arith}
use Rattle.std.specs.{Prelude.slice_get, Prelude.is_ok, List.AllByRecursion as AllOf}
use Rattle.std.proofs.{Math.ListN.length-set, lemmas.Option.slice_get-get_or}
use Rattle.std.proofs.lemmas.List.{get_or-set_same, length-map, map-set}
use Rattle.lte_machine.proofs.KnownLists.{one_more}
use Rattle.lte_events.specs.{Ranges.IsEvent, Ranges.IsSetup, Scenario.most_events, Scenario.CanHappen, declared.events.Event.Event, declared.lines.Line.Line, declared.setups.Setup.Setup}
use Rattle.key_terms.specs.declared.proof.Proof.{Proof}
use Rattle.lte_machine.specs.{BothRuns.octet_run, Calls.line_out, Ciphers.annex_b, Machines.machine_in_octets, Opening.open_octets}
use Rattle.lte_machine.specs.Run.{EventReport, Reported, Coincided, event_report, GoesOn}
use Rattle.lte_world.specs.declared.faults.WorldFault.TheVariants as world_fault
use Rattle.lte_world.specs.Whole.{Whole, run_of}
use Rattle.lte_world.specs.Whole as whole
use Rattle.lte_world.proofs.TellsAsWritten.{told_same}
use Rattle.store_laws.specs.Proofs.{proof_of}
use Rattle.fleet_world.specs.declared.faults.FleetFault.TheVariants as fault
use Rattle.fleet_world.specs.{declared.lines.FleetLine.FleetLine, Apart.IsEventOf, Apart.AllAnswered}
use Rattle.fleet_world.specs.declared.lines.FleetLine.TheVariants as line
use Rattle.fleet_world.specs.Answers.{answer, own_at, taken_by, crossing, cross_of, unless_taken, owned_if, owns_after, owns_from, owns_of, no_events}
use Rattle.fleet_world.specs.Fleets.{IsOwn, Stands, world_of, most_phones}
use Rattle.fleet_world.specs.Meeting.{Meeting, root_among, meeting_from, ladder_at}
use Rattle.fleet_world.specs.Phones.{phone_run, phone_told, phone_rows, rows_in, without, others}
use Rattle.fleet_world.specs.Worlds.{Goes, rows_at, ladders_in, others_in, taken_in, TakesAt, CanTakeAt}
use Rattle.fleet_world.proofs.{Ladders.in_values, Separating.goes_more, Together.octets_are}

-- WHAT IS TOLD OF ONE EVENT MORE

-- in octets it is what the written machine tells, in values
pub told_is : (setup : Setup) (own : List Event) (e : Event) → IsSetup setup → AllOf IsEvent own → IsEvent e
    → event_report (open_octets annex_b) (machine_in_octets annex_b) (octet_run setup own) e ≡ phone_told setup own e
unfolding phone_told
told_is setup own e is are good = told_same setup is own are e good

-- THE WORLDS

module _ (setup : Setup) (most : ℕ) (is : IsSetup setup) where
  run_is : (own : List Event) → IsOwn setup most own → run_of (world_of setup own) ≡ phone_run setup own
  run_is own h = octets_are setup own is h.in_range

  all_go : (owns : List (List Event)) → AllOf (IsOwn setup most) owns → AllOf Goes (map (world_of setup) owns)
  all_go [] are = tt
  all_go (own ∷ owns) are = (subst GoesOn (sym (run_is own are.0)) are.0.goes, all_go owns are.1)

  ladders_are : (owns : List (List Event)) → AllOf (IsOwn setup most) owns → ladders_in (map (world_of setup) owns) ≡ map (phone_rows setup) owns
  ladders_are [] are = refl
  ladders_are (own ∷ owns) are = λ j. rows_in (run_is own are.0 j) ∷ ladders_are owns are.1 j

-- own events, one after the other
pub owns_snoc : (setup : Setup) (owns : List (List Event)) (journal : List (ℕ × Event)) (p : ℕ) (e : Event)
    → owns_from setup owns (journal ++ (p, e) ∷ []) ≡ owns_after setup (owns_from setup owns journal) p e
owns_snoc setup owns [] p e = refl
owns_snoc setup owns (x ∷ xs) p e = owns_snoc setup (owns_after setup owns x.0 x.1) xs p e

all_at : {A : Type 0} (P : A → Type 0) (xs : List A) (k : ℕ) (d : A) → AllOf P xs → k < length xs → P (get_or xs k d)
all_at P [] k d all low = absurd (omega (arith, low))
all_at P (x ∷ xs) zero d all low = all.0
all_at P (x ∷ xs) (suc k) d all low = all_at P xs k d all.1 (omega (arith, low))

all_set : {A : Type 0} (P : A → Type 0) (xs : List A) (k : ℕ) (x : A) → AllOf P xs → P x → AllOf P (set xs k x)
all_set P [] k x all p = tt
all_set P (y ∷ ys) zero x all p = (p, all.1)
all_set P (y ∷ ys) (suc k) x all p = (all.0, all_set P ys k x all.1 p)

all_weaker : {A : Type 0} (P Q : A → Type 0) → ((x : A) → P x → Q x) → (xs : List A) → AllOf P xs → AllOf Q xs
all_weaker P Q f [] all = tt
all_weaker P Q f (x ∷ xs) all = (f x all.0, all_weaker P Q f xs all.1)

length_one : {A : Type 0} (xs : List A) (x : A) → length (xs ++ x ∷ []) ≡ length xs + 1
length_one [] x = refl
length_one (y ∷ xs) x = ap suc (length_one xs x) ∙ omega arith

-- one event more that is answered by a line
answered_more : (setup : Setup) (owns : List (List Event)) (journal : List (ℕ × Event)) (p : ℕ) (e : Event) (told : FleetLine) → AllAnswered setup owns journal
    → answer setup (owns_from setup owns journal) p e ≡ Ok told → AllAnswered setup owns (journal ++ (p, e) ∷ [])
answered_more setup owns [] p e told all is = (ap is_ok is, tt)
answered_more setup owns (x ∷ xs) p e told all is = (all.0, answered_more setup (owns_after setup owns x.0 x.1) xs p e told all.1 is)

-- A FLEET THAT STANDS

module _ (setup : Setup) (worlds : List Whole) (journal : List (ℕ × Event)) (h : Stands setup worlds journal) where
  abbrev pub owns : List (List Event)
  owns = owns_of setup (length worlds) journal

  pub go : AllOf Goes worlds
  go = subst (AllOf Goes) (sym h.worlds) (all_go setup (length journal) h.begins owns h.owns)

  ladders : ladders_in worlds ≡ map (phone_rows setup) owns
  ladders = ap ladders_in h.worlds ∙ ladders_are setup (length journal) h.begins owns h.owns

  pub many : length owns ≡ length worlds
  many = sym (length-map owns (world_of setup)) ∙ ap length (sym h.worlds)

  others_are : (p : ℕ) → others_in p worlds ≡ others setup p owns
  others_are p = ap (without p) ladders

  pub taken_is : (p : ℕ) (e : Event) → taken_in worlds p e ≡ taken_by setup owns p e
  taken_is p (Event.Auth ksi root caps) = ap (λ l. root_among l root) (others_are p)
  taken_is p (Event.Phone act) = refl
  taken_is p (Event.Station id act) = refl
  taken_is p (Event.Core act) = refl
  taken_is p (Event.Deliver i) = refl
  taken_is p (Event.Inject to octets) = refl

  -- THE WORLD OF ONE PHONE

  module _ (p : ℕ) (e : Event) (low : p < length worlds) (can : CanHappen setup e) where
    abbrev own : List Event
    own = own_at owns p

    low_own : p < length owns
    low_own = omega (arith, low, many)

    is_own : IsOwn setup (length journal) own
    is_own = all_at (IsOwn setup (length journal)) owns p [] h.owns low_own

    good : IsEvent e
    good = can.0

    pub stands_there : slice_get worlds p ≡ Some (world_of setup own)
    stands_there =
        slice_get-get_or worlds p (world_of setup []) low
        ∙ ap (λ ws. Some (get_or ws p (world_of setup []))) h.worlds ∙ ap Some (mapped owns p low_own)
      where
        mapped : (xs : List (List Event)) (k : ℕ) → k < length xs → get_or (map (world_of setup) xs) k (world_of setup []) ≡ world_of setup (own_at xs k)
        mapped [] k lt = absurd (omega (arith, lt))
        mapped (x ∷ xs) zero lt = refl
        mapped (x ∷ xs) (suc k) lt = mapped xs k (omega (arith, lt))

    pub can_take : length journal < most_events → CanTakeAt worlds p e
    can_take few = record {
      world = world_of setup own;
      stands = stands_there;
      goes = subst GoesOn (sym (octets_are setup own h.begins is_own.in_range)) is_own.goes;
      can = record { can = can; few = omega (arith, few, is_own.few); ready = refl };
    }

    -- an answer by its parts
    answer_is : (t : Option ℕ) (told : EventReport (List ℕ)) (met : Option Meeting)
        → taken_by setup owns p e ≡ t
        → phone_told setup own e ≡ told
        → crossing setup owns p e ≡ met
        → answer setup owns p e ≡ unless_taken p t told met
    answer_is t told met a b c = λ j. unless_taken p (a j) (b j) (c j)

    -- more events, of which this one is Taken
    later : (t : Option ℕ) → taken_by setup owns p e ≡ t → owns_of setup (length worlds) (journal ++ (p, e) ∷ []) ≡ owned_if t owns p e
    later t is = owns_snoc setup (no_events (length worlds)) journal p e ∙ ap (λ x. owned_if x owns p e) is

    longer : (own : List Event) → IsOwn setup (length journal) own → IsOwn setup (length (journal ++ (p, e) ∷ [])) own
    longer x is = let more = length_one journal (p, e) in record { in_range = is.in_range; few = omega (arith, is.few, more); goes = is.goes }

    -- TAKEN

    module _ (q : ℕ) (taken : taken_by setup owns p e ≡ Some q) where
      pub answer_taken : answer setup owns p e ≡ Ok (line.Taken q)
      answer_taken = answer_is (Some q) (phone_told setup own e) (crossing setup owns p e) taken refl refl

      pub stands_taken : Stands setup worlds (journal ++ (p, e) ∷ [])
      stands_taken = record {
        begins = h.begins;
        few = h.few;
        worlds = h.worlds ∙ ap (map (world_of setup)) (sym (later (Some q) taken));
        owns = subst (AllOf (IsOwn setup (length (journal ++ (p, e) ∷ [])))) (sym (later (Some q) taken))
            (all_weaker (IsOwn setup (length journal)) (IsOwn setup (length (journal ++ (p, e) ∷ []))) longer owns h.owns);
        events = one_more (IsEventOf (length worlds)) journal (p, e) h.events (low, good);
        answered = answered_more setup (no_events (length worlds)) journal p e (line.Taken q) h.answered answer_taken;
      }

    -- SEEN BY ITS WORLD

    same_some : {A : Type 0} {x y : A} → ◌≡◌ {A = Option A} (Some x) (Some y) → x ≡ y
    same_some is = cc

    tells : (old : Whole) → slice_get worlds p ≡ Some old → whole.told_of old e ≡ whole.answer_of (phone_told setup own e)
    tells old at = ap (λ v. whole.told_of v e) (same_some (sym at ∙ stands_there)) ∙ ap whole.answer_of (told_is setup own e h.begins is_own.in_range good)

    coincidence_of_told : (told : EventReport (List ℕ)) (proof : Proof)
        → Err (world_fault.Chance proof) ≡ whole.answer_of told
        → (c : _) × (told ≡ Coincided c) × (proof ≡ proof_of c)
    coincidence_of_told (Reported l) proof is = absurd cc
    coincidence_of_told (Coincided c) proof is = (c, refl, cc)

    line_of_told : (told : EventReport (List ℕ)) (l : Line) → Ok l ≡ whole.answer_of told → (x : _) × (told ≡ Reported x) × (l ≡ line_out x)
    line_of_told (Reported x) l is = (x, refl, cc)
    line_of_told (Coincided c) l is = absurd cc

    pub answer_coincidence : (after : List Whole) (proof : Proof)
        → taken_by setup owns p e ≡ None
        → TakesAt worlds after p e (Err (world_fault.Chance proof))
        → answer setup owns p e ≡ Err (fault.Chance p proof)
    answer_coincidence after proof none t =
        let told = coincidence_of_told (phone_told setup own e) proof (t.takes ∙ tells t.old t.stands) in
        answer_is None (Coincided told.0) (crossing setup owns p e) none told.1 refl ∙ ap (λ x. Err (fault.Chance p x)) (sym told.2)

    module _ (after : List Whole) (r : ℕ × Line) (t : TakesAt worlds after p e (Ok r)) (none : taken_by setup owns p e ≡ None) where
      old_is : t.old ≡ world_of setup own
      old_is = same_some (sym t.stands ∙ stands_there)

      told : (x : _) × (phone_told setup own e ≡ Reported x) × (r.1 ≡ line_out x)
      told = line_of_told (phone_told setup own e) r.1 (t.takes.1 ∙ tells t.old t.stands)

      abbrev more : List Event
      more = own ++ e ∷ []

      pub new_is : t.new ≡ world_of setup more
      new_is = t.takes.2 ∙ ap (λ (v : Whole). record v { journal = v.journal ++ e ∷ []; ready = false }) old_is

      after_is : after ≡ map (world_of setup) (set owns p more)
      after_is = t.put ∙ ap (set worlds p) new_is ∙ ap (λ ws. set ws p (world_of setup more)) h.worlds ∙ sym (map-set (world_of setup) owns p more)

      more_goes : GoesOn (phone_run setup more)
      more_goes = let on = goes_more setup own e told.0 told.1 in subst GoesOn (sym (in_values setup more on.0 on.1)) tt

      more_own : IsOwn setup (length (journal ++ (p, e) ∷ [])) more
      more_own =
          let shorter = length_one own e in
          let longer_by = length_one journal (p, e) in
          record { in_range = one_more IsEvent own e is_own.in_range good; few = omega (arith, is_own.few, shorter, longer_by); goes = more_goes }

      next_owns : AllOf (IsOwn setup (length (journal ++ (p, e) ∷ []))) (set owns p more)
      next_owns =
          all_set (IsOwn setup (length (journal ++ (p, e) ∷ []))) owns p more
          (all_weaker (IsOwn setup (length journal)) (IsOwn setup (length (journal ++ (p, e) ∷ []))) longer owns h.owns) more_own

      same_many : length after ≡ length worlds
      same_many = ap length t.put ∙ length-set worlds p t.new

      -- the worlds go on
      pub go_after : AllOf Goes after
      go_after = subst (AllOf Goes) (sym after_is) (all_go setup (length (journal ++ (p, e) ∷ [])) h.begins (set owns p more) next_owns)

      pub few_after : length after ≤ most_phones
      few_after = omega (arith, h.few, same_many)

      pub low_after : p < length after
      low_after = omega (arith, low, same_many)

      -- and the first key that is another's is that of the definition
      ladders_after : ladders_in after ≡ set (ladders_in worlds) p (phone_rows setup more)
      ladders_after =
          ap ladders_in after_is ∙ ladders_are setup (length (journal ++ (p, e) ∷ [])) h.begins (set owns p more) next_owns
          ∙ map-set (phone_rows setup) owns p more ∙ ap (λ l. set l p (phone_rows setup more)) (sym ladders)

      set_twice : {A : Type 0} (xs : List A) (k : ℕ) (x y : A) → set (set xs k x) k y ≡ set xs k y
      set_twice [] k x y = refl
      set_twice (z ∷ xs) zero x y = refl
      set_twice (z ∷ xs) (suc k) x y = ap (λ l. z ∷ l) (set_twice xs k x y)

      others_after : others_in p after ≡ others setup p owns
      others_after = ap (without p) ladders_after ∙ set_twice (ladders_in worlds) p (phone_rows setup more) [] ∙ others_are p

      rows_before : r.0 ≡ length (phone_rows setup own)
      rows_before = t.takes.0 ∙ ap (λ v. length (rows_at v)) old_is ∙ ap (λ run. length (rows_in run)) (octets_are setup own h.begins is_own.in_range)

      rows_after : ladder_at (ladders_in after) p ≡ phone_rows setup more
      rows_after =
          ap (λ l. ladder_at l p) ladders_after
          ∙ get_or-set_same (ladders_in worlds) p (phone_rows setup more) [] (omega (arith, low, length-map worlds rows_at))

      pub crossing_is : meeting_from (others_in p after) r.0 (drop r.0 (ladder_at (ladders_in after) p)) ≡ crossing setup owns p e
      crossing_is = λ j. meeting_from (others_after j) (rows_before j) (drop (rows_before j) (rows_after j))

      pub answer_of_line : crossing setup owns p e ≡ None → answer setup owns p e ≡ Ok (line.Of p r.1)
      answer_of_line alone = answer_is None (Reported told.0) None none told.1 alone ∙ ap (λ l. Ok (line.Of p l)) (sym told.2)

      pub answer_cross : (m : Meeting) → crossing setup owns p e ≡ Some m → answer setup owns p e ≡ Err (cross_of p m)
      answer_cross m met = answer_is None (Reported told.0) (Some m) none told.1 met

      pub stands_line : crossing setup owns p e ≡ None → Stands setup after (journal ++ (p, e) ∷ [])
      stands_line alone =
          let owned : owns_of setup (length after) (journal ++ (p, e) ∷ []) ≡ set owns p more =
          ap (λ n. owns_of setup n (journal ++ (p, e) ∷ [])) same_many ∙ later None none in
          record {
            begins = h.begins;
            few = few_after;
            worlds = after_is ∙ ap (map (world_of setup)) (sym owned);
            owns = subst (AllOf (IsOwn setup (length (journal ++ (p, e) ∷ [])))) (sym owned) next_owns;
            events =
                subst (λ n. AllOf (IsEventOf n) (journal ++ (p, e) ∷ [])) (sym same_many)
                (one_more (IsEventOf (length worlds)) journal (p, e) h.events (low, good));
            answered = subst (λ n. AllAnswered setup (no_events n) (journal ++ (p, e) ∷ [])) (sym same_many)
                (answered_more setup (no_events (length worlds)) journal p e (line.Of p r.1) h.answered (answer_of_line alone));
          }

  -- a phone's world, and what holds of all phones together
  pub own_stands : (p : ℕ) → p < length worlds → IsOwn setup (length journal) (own_at owns p)
  own_stands p low = all_at (IsOwn setup (length journal)) owns p [] h.owns (omega (arith, low, many))
