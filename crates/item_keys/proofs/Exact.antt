-- Keys part exactly where the phone takes a key eight or more steps ahead.
use Rattle.std.proofs.Common.{◌≡◌, refl, sym, ap, ◌∙◌, subst, ℕ, zero, suc, ◌-◌, ◌<◌, ◌≤◌, ◌==◌, arith, Bool, true, false, not, List, [], ◌∷◌, ◌++◌, map, take, Option, Some, None, Result, Ok, inl, inr}
use Rattle.std.specs.Prelude.{◌⊎◌, ◌&&◌, slice_get, find, is_some}
use Rattle.std.specs.{Option.option_map, Str.bytes_eq}
use Rattle.std.proofs.{lemmas.Bool.cases_order, lemmas.Bool.Decides.nat_tests, lemmas.Slice.Eq.bytes_eq-Decides}
use Rattle.key_model.specs.{Term.Term, Value.value_of, Term.Root, Value.same_value}
use Rattle.lte_events.proofs.InRange.{in_range}
use Rattle.lte_events.specs.{declared.events.Event.Event, declared.lines.Who.Who, declared.replies.KeyNote.KeyNote, declared.setups.Setup.Setup}
use Rattle.lte_events.specs.declared.lines.Line as lines
use Rattle.lte_machine.specs.{BothRuns.written_run, BothRuns.written_report, ByEvent.IsStep, ByEvent.Told as StepTold, Calls.note_out, Calls.line_out, Carried.map_line, Carried.report_value, StationState.Station, Ciphers.octets_of, BothRuns.annex_b_terms, Machines.sender_of, Machines.written_in_values, Opening.open_by_uses}
use Rattle.lte_machine.specs.PhoneState.{Radio, Idle, Connecting, Connected}
use Rattle.lte_machine.specs.Reply.{Note, map_note, Made, Came, Secured, Commanded, Changed, Took}
use Rattle.lte_machine.specs.Run.{Running, EventReport, Reported, Coincided}
use Rattle.lte_machine.specs.World.{Line, station_of_id}
use Rattle.lte_machine.proofs.EventByEvent.{step_told, told_step, step_takes, step_happens}
use Rattle.lte_machine.proofs.{PhoneGives.IsUnder, Routing.found_id, Worlds.TheWorld}
use Rattle.lte_properties.specs.Agreement.{ahead, ObeysMade, TookIsTold, TookLast, TookMade, Reported as Tells_key}
use Rattle.lte_properties.specs.BySteps.{TakesAt, Follows}
use Rattle.lte_properties.proofs.StepByStep.{makes_tell, takes_tell, holds_on}
use Rattle.enb_context.specs.Drawn.{last_drawn}
use Rattle.ue_context.specs.Step.{air_of}
use Rattle.lte_world.specs.{Whole.address_of, Whole.answer_of, Whole.station_air, declared.faults.WorldFault.WorldFault}
use Rattle.lte_world.proofs.OneTerm.{happens_stands, one_term}
use Rattle.item_lines.specs.Lines.{differs, is_made_for, made_for, note_at_phone, note_at_station, note_in, parts, phone_note, same_air, station_note}
use Rattle.item_lines.specs.declared.lines.Told.{Told}
use Rattle.item_runs.specs.Course.{Seen, Promises}
use Rattle.item_keys.specs.Far.{TakesFar, TakesMade, ElseMade, ExactlyFar}
use Rattle.item_keys.proofs.Addresses.{placed_written}
use Rattle.item_keys.proofs.Drawing.{MakesNext, MadeDrawn, step_drawn}
use Rattle.item_keys.proofs.Places.{map_got, got_of_map, find_first}

-- WHAT IS TOLD, in values

abbrev pub seen_note : Option (Note Term) → Option KeyNote
seen_note note = option_map note_out (option_map (map_note value_of) note)

abbrev pub seen_line : Line Term → lines.Line
seen_line l = line_out (map_line value_of l)

abbrev pub told_by : EventReport Term → Result lines.Line WorldFault
told_by r = answer_of (report_value r)

abbrev pub told_in : Told → Result lines.Line WorldFault
told_in t = Ok t.line

line_told : (r : EventReport Term) (line : lines.Line) → told_by r ≡ Ok line → (l : Line Term) × (r ≡ Reported l) × (seen_line l ≡ line)
line_told (Reported l) line e = (l, refl, cc)
line_told (Coincided coincidence) line e = absurd cc

one_line : (a b : lines.Line) (ra rb : Result lines.Line WorldFault) → ra ≡ Ok a → rb ≡ Ok b → ra ≡ rb → a ≡ b
one_line a b ra rb e f g = let same : Ok a ≡ rb = sym e ∙ g in cc

same_some : {A : Type 0} {a b : A} → ◌≡◌ {A = Option A} (Some a) (Some b) → a ≡ b
same_some e = cc

note_of_phone : (l : Line Term) (t : Told) (a : Note Term) → seen_line l ≡ t.line → l.who ≡ Who.Phone → l.note ≡ Some a
    → phone_note t ≡ Some (note_out (map_note value_of a))
note_of_phone l t a same who note =
    ap (λ (x : lines.Line). note_at_phone x.who x.note) (sym same)
    ∙ ap (λ w. note_at_phone w (seen_note l.note)) who ∙ ap seen_note note

note_of_station : (l : Line Term) (t : Told) (b : Note Term) (id : ℕ) → seen_line l ≡ t.line → l.who ≡ Who.Station id → l.note ≡ Some b
    → station_note t ≡ Some (note_out (map_note value_of b))
note_of_station l t b id same who note =
    ap (λ (x : lines.Line). note_at_station x.who x.note) (sym same)
    ∙ ap (λ w. note_at_station w (seen_note l.note)) who ∙ ap seen_note note

-- a note of a station is that of its line
noted : (t : Told) (n : KeyNote) → station_note t ≡ Some n → t.line.note ≡ Some n
noted t n = by t.line.who
  where
    by : (who : Who) → note_at_station who t.line.note ≡ Some n → t.line.note ≡ Some n
    by (Who.Station id) e = e
    by Who.Phone e = absurd cc
    by Who.Core e = absurd cc
    by Who.Both e = absurd cc
    by Who.World e = absurd cc

-- and only a station has one
is_station : (t : Told) → is_some (station_note t) ≡ true → (id : ℕ) × (t.line.who ≡ Who.Station id)
is_station t = by t.line.who refl
  where
    by : (who : Who) → t.line.who ≡ who → is_some (note_at_station who t.line.note) ≡ true → (id : ℕ) × (t.line.who ≡ Who.Station id)
    by (Who.Station id) e f = (id, e)
    by Who.Phone e f = absurd cc
    by Who.Core e f = absurd cc
    by Who.Both e f = absurd cc
    by Who.World e f = absurd cc

-- a note of the phone is that of a line of the phone
is_phone : (l : Line Term) (t : Told) → seen_line l ≡ t.line → (n : KeyNote) → phone_note t ≡ Some n
    → (l.who ≡ Who.Phone) × ((a : Note Term) × (l.note ≡ Some a))
is_phone l t same n told =
    by l.who l.note refl refl (ap (λ (x : lines.Line). note_at_phone x.who x.note) same ∙ told)
  where
    by : (who : Who) (note : Option (Note Term)) → l.who ≡ who → l.note ≡ note → note_at_phone who (seen_note note) ≡ Some n
        → (l.who ≡ Who.Phone) × ((a : Note Term) × (l.note ≡ Some a))
    by Who.Phone (Some a) e f h = (e, (a, f))
    by Who.Phone None e f h = absurd cc
    by Who.Both _ e f h = absurd cc
    by Who.World _ e f h = absurd cc
    by Who.Core _ e f h = absurd cc
    by (Who.Station id) _ e f h = absurd cc

-- TESTS

not_so : (b : Bool) → (b ≡ true → ⊥) → b ≡ false
not_so true f = absurd (f refl)
not_so false f = refl

both_so : (a b : Bool) → (a && b) ≡ true → (a ≡ true) × (b ≡ true)
both_so true true e = (refl, refl)
both_so true false e = absurd cc
both_so false b e = absurd cc

same_place : (a b c d : ℕ) → a ≡ b → c ≡ d → ((a == b) && (c == d)) ≡ true
same_place a b c d e f = grind (arith, nat_tests)

place_is : (o : Option (ℕ × ℕ)) (station air : ℕ) → same_air o (Some (station, air)) ≡ true → o ≡ Some (station, air)
place_is None station air e = absurd cc
place_is (Some at) station air e = by at.0 at.1 (both_so (at.0 == station) (at.1 == air) e)
  where
    by : (a b : ℕ) → ((a == station) ≡ true) × ((b == air) ≡ true) → ◌≡◌ {A = Option (ℕ × ℕ)} (Some (a, b)) (Some (station, air))
    by a b h =
        let one : a ≡ station = grind (arith, nat_tests, h.0) in
        let two : b ≡ air = grind (arith, nat_tests, h.1) in
        λ j. Some (one j, two j)

-- what a station drew last
drew : (o : Option (Station Term ℕ)) (station air : ℕ) → station_air o ≡ Some (station, air)
    → (s : Station Term ℕ) × (o ≡ Some s) × (s.id ≡ station) × (s.next ≡ suc air)
drew None station air e = absurd cc
drew (Some s) station air e = by s.next refl e
  where
    by : (n : ℕ) → s.next ≡ n → last_drawn s.id n ≡ Some (station, air)
        → (t : Station Term ℕ) × (Some s ≡ Some t) × (t.id ≡ station) × (t.next ≡ suc air)
    by zero f e = absurd cc
    by (suc n) f e = let both : (s.id, n) ≡ (station, air) = same_some e in (s, refl, ap (λ p. p.0) both, f ∙ ap (λ p. suc p.1) both)

-- THE KEY

takes_made : (x : Took Term ℕ) (m : Made Term ℕ) (came : Came Term ℕ) → ObeysMade x came m → ahead m came < 8 → TookMade x m
takes_made x m Secured o low = o.0
takes_made x m (Commanded before) o low = o.near low
takes_made x m (Changed before root) o low = o.near low

takes_other : (x : Took Term ℕ) (m : Made Term ℕ) (came : Came Term ℕ) → ObeysMade x came m → 8 ≤ ahead m came → x.key ≡ m.key → ⊥
takes_other x m Secured o high same = omega (arith, high)
takes_other x m (Commanded before) o high same = (o.far high).0 same
takes_other x m (Changed before root) o high same = o.far high same

longer : {A : Type 0} (xs : List A) (x : A) → xs ++ x ∷ [] ≡ xs → ⊥
longer [] x e = cc
longer (y ∷ ys) x e = let rest : ys ++ x ∷ [] ≡ ys = cc in longer ys x rest

last_one : {A : Type 0} (xs ys : List A) (x y : A) → xs ++ x ∷ [] ≡ ys ++ y ∷ [] → x ≡ y
last_one [] [] x y e = cc
last_one [] (b ∷ bs) x y e = let rest : [] ≡ bs ++ y ∷ [] = cc in absurd (nothing bs y rest)
  where
    nothing : {A : Type 0} (zs : List A) (z : A) → [] ≡ zs ++ z ∷ [] → ⊥
    nothing [] z f = cc
    nothing (c ∷ cs) z f = cc
last_one (a ∷ rs) [] x y e = let rest : rs ++ x ∷ [] ≡ [] = cc in absurd (nothing rs x rest)
  where
    nothing : {A : Type 0} (zs : List A) (z : A) → zs ++ z ∷ [] ≡ [] → ⊥
    nothing [] z f = cc
    nothing (c ∷ cs) z f = cc
last_one (a ∷ rs) (b ∷ bs) x y e = let rest : rs ++ x ∷ [] ≡ bs ++ y ∷ [] = cc in last_one rs bs x y rest

-- the phone is connected where it took its last key
connected_at : (took ws : List (Took Term ℕ)) (x : Took Term ℕ) (radio : Radio Term ℕ)
    → took ≡ ws ++ x ∷ []
    → IsUnder radio x.key
    → TookLast took radio
    → air_of radio ≡ Some (x.station, x.air)
connected_at took ws x Idle grows under last = absurd under
connected_at took ws x (Connecting waiting) grows under last = absurd under
connected_at took ws x (Connected l) grows under last =
    let one : last.1 ≡ x = last_one last.0 ws last.1 x (sym last.2 ∙ grows) in
    λ j. Some ((sym last.3.0 ∙ ap (λ (y : Took Term ℕ). y.station) one) j, (sym last.3.1 ∙ ap (λ (y : Took Term ℕ). y.air) one) j)

module _ (run : Seen) (holds : Promises run) where
  abbrev setup : Setup
  setup = run.setup

  abbrev events : List Event
  events = run.coming.events

  abbrev told : List Told
  told = run.coming.told

  placed_at : (k : ℕ) (t : Told) (w : TheWorld) → slice_get told k ≡ Some t → written_run setup (take (suc k) events) ≡ Running w → t.at ≡ address_of w t.line.who
  placed_at = placed_written setup events told holds.scenario.can_start (in_range setup events holds.scenario.can_happen) holds.placed

  -- WHAT STANDS AT A PLACE is the line of that step

  line_at : (k : ℕ) (t : Told) → slice_get told k ≡ Some t → (l : Line Term) × StepTold setup events k l × (seen_line l ≡ t.line)
  line_at k t at =
      let here : slice_get (map told_by (written_report setup events)) k ≡ Some (told_in t) =
      ap (λ xs. slice_get xs k) holds.tells ∙ map_got told_in told k t at in
      let got = got_of_map told_by (written_report setup events) k (told_in t) here in
      let line = line_told got.0 t.line got.2 in
      (line.0, told_step setup events k line.0 (got.1 ∙ ap (λ r. Some r) line.1), line.2)

  told_at : (k : ℕ) (w : TheWorld) (e : Event) (u : TheWorld) (l : Line Term)
      → IsStep setup events k w e u l
      → (t : Told) × (slice_get told k ≡ Some t) × (seen_line l ≡ t.line)
  told_at k w e u l step =
      let here : slice_get (map told_in told) k ≡ Some (told_by (Reported l)) =
      ap (λ xs. slice_get xs k) (sym holds.tells) ∙ map_got told_by (written_report setup events) k (Reported l) (step_told setup events k w e u l step) in
      let got = got_of_map told_in told k (told_by (Reported l)) here in
      (got.0, got.1, one_line (seen_line l) got.0.line (told_by (Reported l)) (told_in got.0) refl refl (sym got.2))

  -- WHERE THE PHONE TAKES A KEY, its line has the address of what it took
  module _ (k : ℕ) (t : Told) (at : slice_get told k ≡ Some t) (x : Took Term ℕ) (l : Line Term) (takes : TakesAt setup events k x l)
      (same : seen_line l ≡ t.line) where
    taken : Tells_key l Who.Phone x.key x.number
    taken = takes_tell setup events k x l takes

    world_is : written_run setup (take (suc k) events) ≡ Running takes.after
    world_is = step_takes setup events k takes.world takes.event takes.after l takes.step

    abbrev TookUnder : TheWorld → Type 0
    TookUnder u = (u.took ≡ takes.world.took) ⊎ ((y : Took Term ℕ) × (u.took ≡ takes.world.took ++ y ∷ []) × IsUnder u.phone.radio y.key)

    under : IsUnder takes.after.phone.radio x.key
    under =
        by (subst (λ (h : TheWorld × Line Term). TookUnder h.0) (sym (step_happens setup events k takes.world takes.event takes.after l takes.step))
        (happens_stands same_value Root (octets_of annex_b_terms written_in_values) sender_of (open_by_uses same_value annex_b_terms)
        takes.world takes.event).1)
      where
        by : TookUnder takes.after → IsUnder takes.after.phone.radio x.key
        by (inl still) = absurd (longer takes.world.took x (sym takes.takes ∙ still))
        by (inr (y, grows, is)) =
            subst (λ (z : Took Term ℕ). IsUnder takes.after.phone.radio z.key)
            (last_one takes.world.took takes.world.took y x (sym grows ∙ takes.takes)) is

    here : t.at ≡ Some (x.station, x.air)
    here =
        placed_at k t takes.after at world_is
        ∙ ap (λ (m : lines.Line). address_of takes.after m.who) (sym same) ∙ ap (address_of takes.after) taken.1
        ∙ connected_at takes.after.took takes.world.took x takes.after.phone.radio takes.takes under
        (holds.headline.agrees (suc k) takes.after world_is).last

    -- WHAT WAS MADE THERE
    module _ (f : Follows setup events k x l) where
      reported : Tells_key f.told (Who.Station f.made.station) f.made.key f.made.number
      reported = makes_tell setup events f.when f.made f.told f.makes

      prior : (p : Told) × (slice_get told f.when ≡ Some p) × (seen_line f.told ≡ p.line)
      prior = told_at f.when f.makes.world f.makes.event f.makes.after f.told f.makes.step

      next : MakesNext f.makes.world f.makes.after f.made
      next = by (step_drawn setup events f.when f.makes.world f.makes.event f.makes.after f.told f.makes.step).1
        where
          by : MadeDrawn f.makes.world f.makes.after → MakesNext f.makes.world f.makes.after f.made
          by (inl still) = absurd (longer f.makes.world.made f.made (sym f.makes.makes ∙ still))
          by (inr (n, is)) =
              subst (MakesNext f.makes.world f.makes.after)
              (last_one f.makes.world.made f.makes.world.made n f.made (sym is.grows ∙ f.makes.makes)) is

      prior_at : prior.0.at ≡ Some (f.made.station, f.made.air)
      prior_at =
          placed_at f.when prior.0 f.makes.after prior.1
          (step_takes setup events f.when f.makes.world f.makes.event f.makes.after f.told f.makes.step)
          ∙ ap (λ (m : lines.Line). address_of f.makes.after m.who) (sym prior.2) ∙ ap (address_of f.makes.after) reported.1
          ∙ ap station_air next.is ∙ (λ j. last_drawn (next.own j) (next.next j))

      prior_note : station_note prior.0 ≡ Some (note_out (map_note value_of reported.0))
      prior_note = note_of_station f.told prior.0 reported.0 f.made.station prior.2 reported.1 reported.2

      is_for : is_made_for t prior.0 ≡ true
      is_for =
          (λ j. is_some (prior_note j) && same_air (prior_at j) (here j))
          ∙ same_place f.made.station x.station f.made.air x.air f.there.0 f.there.1

      -- no line before it is of that address
      none_for : (i : ℕ) (y : Told) → i < f.when → slice_get told i ≡ Some y → is_made_for t y ≡ false
      none_for i y low stands = not_so (is_made_for t y) bad
        where
          bad : is_made_for t y ≡ true → ⊥
          bad so =
              let two = both_so (is_some (station_note y)) (same_air y.at t.at) so in
              let who = is_station y two.0 in
              let step = line_at i y stands in
              let runs = step_takes setup events i step.1.world step.1.event step.1.after step.0 step.1.step in
              let place : y.at ≡ Some (x.station, x.air) =
              place_is y.at x.station x.air (ap (same_air y.at) (sym here) ∙ two.1) in
              let drawn = drew (station_of_id who.0 step.1.after.stations) x.station x.air
              (ap (address_of step.1.after) (sym who.1) ∙ sym (placed_at i y step.1.after stands runs) ∙ place) in
              let id_is : who.0 ≡ f.made.station =
              sym (found_id who.0 step.1.after.stations drawn.0 drawn.1) ∙ drawn.2 ∙ sym f.there.0 in
              let later = holds_on setup events
              (λ v. (s : Station Term ℕ) × (station_of_id f.made.station v.stations ≡ Some s) × (suc x.air ≤ s.next))
              (λ n w e u line is h. let more = (step_drawn setup events n w e u line is).0 f.made.station h.0 h.1 in
              let up = h.2 in let over = more.2 in (more.0, more.1, omega (arith, up, over)))
              (f.when - suc i) f.when (suc i) (omega (arith, low)) step.1.after f.makes.world runs f.makes.step.before
              (drawn.0, ap (λ n. station_of_id n step.1.after.stations) (sym id_is) ∙ drawn.1, let up = drawn.3 in omega (arith, up)) in
              let one : later.0 ≡ next.before = same_some (sym later.1 ∙ next.was) in
              let above : later.0.next ≤ f.made.air = subst (λ (s : Station Term ℕ). s.next ≤ f.made.air) (sym one) next.above in
              let over = later.2 in
              let air = f.there.1 in
              omega (arith, above, over, air)

      found : find (is_made_for t) (take k told) ≡ Some prior.0
      found = find_first (is_made_for t) told f.when k prior.0 prior.1 f.earlier is_for none_for

      -- so the test is that of both keys
      parts_is : parts (take k told) t ≡ not (bytes_eq (value_of f.made.key) (value_of x.key))
      parts_is =
          (λ j. differs (note_of_phone l t taken.0 same taken.1 taken.2 j) (note_in (found j)))
          ∙ (λ j. differs (Some (note_out (map_note value_of taken.0))) (noted prior.0 (note_out (map_note value_of reported.0)) prior_note j))
          ∙ (λ j. not (bytes_eq (value_of (reported.3 j)) (value_of (taken.3 j))))

      near_parts : ahead f.made x.came < 8 → parts (take k told) t ≡ false
      near_parts low =
          parts_is ∙ ap not ((bytes_eq-Decides (value_of f.made.key) (value_of x.key)).1
          (ap value_of (sym (takes_made x f.made x.came f.obeys low).0)))

      far_parts : 8 ≤ ahead f.made x.came → parts (take k told) t ≡ true
      far_parts high =
          parts_is ∙ ap not (not_so (bytes_eq (value_of f.made.key) (value_of x.key))
          (λ e. takes_other x f.made x.came f.obeys high
          (one_term setup events k x l takes f.when f.made f.told f.makes f.earlier
          (sym ((bytes_eq-Decides (value_of f.made.key) (value_of x.key)).0 e)))))

  -- BOTH DIRECTIONS

  some_note : (o m : Option KeyNote) → differs o m ≡ true → (n : KeyNote) × (o ≡ Some n)
  some_note None m e = absurd cc
  some_note (Some n) m e = (n, refl)

  only : (k : ℕ) (t : Told) → slice_get told k ≡ Some t → parts (take k told) t ≡ true → TakesFar setup events k
  only k t at so =
      let step = line_at k t at in
      let note = some_note (phone_note t) (made_for (take k told) t) so in
      let phone = is_phone step.0 t step.2 note.0 note.1 in
      by step.0 step.1 step.2 phone.0 phone.1 (holds.headline.lines k step.1.world step.1.event step.1.after step.0 step.1.step).1
    where
      by_far : (x : Took Term ℕ) (l : Line Term) (takes : TakesAt setup events k x l) → seen_line l ≡ t.line
          → (f : Follows setup events k x l)
          → (ahead f.made x.came ≡ 8) ⊎ ((ahead f.made x.came < 8) ⊎ (8 < ahead f.made x.came))
          → TakesFar setup events k
      by_far x l takes same f (inl eight) = record { took = x; line = l; takes = takes; follows = f; far = omega (arith, eight) }
      by_far x l takes same f (inr (inl low)) =
          let bad : true ≡ false = sym so ∙ near_parts k t at x l takes same f low in absurd cc
      by_far x l takes same f (inr (inr high)) = record { took = x; line = l; takes = takes; follows = f; far = omega (arith, high) }

      by : (l : Line Term) (s : StepTold setup events k l) → seen_line l ≡ t.line → l.who ≡ Who.Phone → (a : Note Term) × (l.note ≡ Some a)
          → TookIsTold s.world s.after l → TakesFar setup events k
      by l s same who a (inl nothing) = let bad : None ≡ Some a.0 = sym (nothing.1 who) ∙ a.1 in absurd cc
      by l s same who a (inr (x, grows, tells)) =
          let takes : TakesAt setup events k x l = record { world = s.world; event = s.event; after = s.after; step = s.step; takes = grows } in
          let f = holds.headline.agreement k x l takes in
          by_far x l takes same f (cases_order (ahead f.made x.came) 8)

  each : (k : ℕ) (t : Told) → slice_get told k ≡ Some t → TakesFar setup events k → parts (take k told) t ≡ true
  each k t at h =
      let got = told_at k h.takes.world h.takes.event h.takes.after h.line h.takes.step in
      let one : got.0 ≡ t = same_some (sym got.1 ∙ at) in
      far_parts k t at h.took h.line h.takes (got.2 ∙ ap (λ (u : Told). u.line) one) h.follows h.far

  pub exactly_far : ExactlyFar run
  exactly_far = record { only = only; each = each }

  -- WHERE KEYS DO NOT PART

  takes_it : (k : ℕ) (t : Told) (n : KeyNote) → slice_get told k ≡ Some t → phone_note t ≡ Some n → parts (take k told) t ≡ false
      → TakesMade setup events k
  takes_it k t n at is one =
      let step = line_at k t at in
      let phone = is_phone step.0 t step.2 n is in
      by step.0 step.1 step.2 phone.0 phone.1 (holds.headline.lines k step.1.world step.1.event step.1.after step.0 step.1.step).1
    where
      by_near : (x : Took Term ℕ) (l : Line Term) (takes : TakesAt setup events k x l) → seen_line l ≡ t.line
          → (f : Follows setup events k x l)
          → (ahead f.made x.came ≡ 8) ⊎ ((ahead f.made x.came < 8) ⊎ (8 < ahead f.made x.came))
          → TakesMade setup events k
      by_near x l takes same f (inl eight) =
          let bad : true ≡ false = sym (far_parts k t at x l takes same f (omega (arith, eight))) ∙ one in absurd cc
      by_near x l takes same f (inr (inl low)) =
          record { took = x; line = l; takes = takes; follows = f; made = takes_made x f.made x.came f.obeys low }
      by_near x l takes same f (inr (inr high)) =
          let bad : true ≡ false = sym (far_parts k t at x l takes same f (omega (arith, high))) ∙ one in absurd cc

      by : (l : Line Term) (s : StepTold setup events k l) → seen_line l ≡ t.line → l.who ≡ Who.Phone → (a : Note Term) × (l.note ≡ Some a)
          → TookIsTold s.world s.after l → TakesMade setup events k
      by l s same who a (inl nothing) = let bad : None ≡ Some a.0 = sym (nothing.1 who) ∙ a.1 in absurd cc
      by l s same who a (inr (x, grows, tells)) =
          let takes : TakesAt setup events k x l = record { world = s.world; event = s.event; after = s.after; step = s.step; takes = grows } in
          let f = holds.headline.agreement k x l takes in
          by_near x l takes same f (cases_order (ahead f.made x.came) 8)

  pub else_made : ElseMade run
  else_made = takes_it
