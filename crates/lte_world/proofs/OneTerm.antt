-- Two keys of one value, of which the phone took the one and a station made the other, are one key.
use Rattle.std.proofs.Common.{◌≡◌, refl, sym, ◌∙◌, subst, ℕ, zero, suc, ◌<◌, ◌≤◌, ◌==◌, Bool, true, false, cond, List, [], ◌∷◌, ◌++◌, take, Option, Some, None, inl, inr, arith}
use Rattle.std.specs.{Prelude.◌⊎◌, List.AllByRecursion as AllOf}
use Rattle.lte_events.specs.{declared.events.Event.Event, declared.setups.Setup.Setup}
use Rattle.key_model.specs.{Term.Term, Term.Root, Reading.term_reading_by, Value.value_of, Value.same_value}
use Rattle.lte_machine.specs.{BothRuns.annex_b_terms, BothRuns.written_run, ByEvent.IsStep, Ciphers.annex_b, Ciphers.octets_of, Distinct.Member, Distinct.keys_of, Ladder.RowOrigin, PhoneChoice.phone_row, PhoneKeys.phone_does, Reply.Made, Reply.Took, StationKeys.station_does, Wire.KeyUse, Wire.Outgoing}
use Rattle.lte_machine.specs.Known.{RadioKnown, StationKnown, ContextKnown, PrepKnown, IsReported, AllReported}
use Rattle.lte_machine.specs.Machines.{machine_by, sender_of, written_machine, written_in_values}
use Rattle.lte_machine.specs.Opening.{Opening, Outcome, open_octets, open_by_uses}
use Rattle.lte_machine.specs.PhoneState.{Radio, Idle, Connecting, Connected, PhoneInput}
use Rattle.lte_machine.specs.PhoneStep.{plain_phone, front_of, phone_root, phone_opens, phone_pdu_in}
use Rattle.lte_machine.specs.Run.{Running, run, first_world}
use Rattle.lte_machine.specs.StationState.{Station, Context, StationInput}
use Rattle.lte_machine.specs.StationStep.{station_opens, station_pdu_in, station_row_of, station_key}
use Rattle.lte_machine.specs.World.{Machine, Line, with_one, put_if, put_station, phone_turn, station_of_id, turn_of, happens}
use Rattle.ho_prep.specs.Prep.{Prep}
use Rattle.lte_machine.proofs.{EventByEvent.step_takes, EventByEvent.step_happens, LadderRun.ladder_always, LadderRun.all_reported, StillRun.still_is_run, Routing.happens_each, Worlds.TheWorld}
use Rattle.lte_properties.specs.BySteps.{MakesAt, TakesAt}
use Rattle.lte_properties.proofs.AccountsHold.{happens_gains}
use Rattle.lte_world.proofs.MadeKeys.{InContext, InPreps, HasKey, MadeIs, station_holds}
use Rattle.lte_machine.proofs.PhoneGives.{IsUnder, TookIs, phone_gives}

-- WHAT AN EVENT LEAVES

-- some station has this key
abbrev InStations : List (Station Term ℕ) → Term → Type 0
InStations [] key = ⊥
InStations (s ∷ ss) key = HasKey s key ⊎ InStations ss key

put_in : (id : ℕ) (new : Station Term ℕ) (key : Term) → HasKey new key → (ss : List (Station Term ℕ)) (s : Station Term ℕ) → station_of_id id ss ≡ Some s
    → InStations (put_station id new ss) key
put_in id new key has [] s e = absurd cc
put_in id new key has (t ∷ ts) s e = by (t.id == id) e (put_in id new key has ts s)
  where
    by : (b : Bool) → cond b (Some t) (station_of_id id ts) ≡ Some s → (station_of_id id ts ≡ Some s → InStations (put_station id new ts) key)
        → HasKey (put_if b new t) key ⊎ InStations (put_station id new ts) key
    by true f rest = inl has
    by false f rest = inr (rest f)

-- what the phone took it is connected under, and what a station made stands at one
abbrev TookStands : TheWorld → TheWorld → Type 0
TookStands w u = (u.took ≡ w.took) ⊎ ((x : Took Term ℕ) × (u.took ≡ w.took ++ x ∷ []) × IsUnder u.phone.radio x.key)

abbrev MadeStands : TheWorld → TheWorld → Type 0
MadeStands w u = (u.made ≡ w.made) ⊎ ((n : Made Term ℕ) × (u.made ≡ w.made ++ n ∷ []) × InStations u.stations n.key)

abbrev Both : TheWorld → TheWorld × Line Term → Type 0
Both w h = MadeStands w h.0 × TookStands w h.0

took_by : (took : List (Took Term ℕ)) (o : Option (Took Term ℕ)) (radio : Radio Term ℕ) → TookIs o radio
    → (with_one o took ≡ took) ⊎ ((x : Took Term ℕ) × (with_one o took ≡ took ++ x ∷ []) × IsUnder radio x.key)
took_by took None radio h = inl refl
took_by took (Some x) radio h = inr (x, refl, h)

made_by : (made : List (Made Term ℕ)) (o : Option (Made Term ℕ)) (id : ℕ) (new : Station Term ℕ) → MadeIs o new
    → (ss : List (Station Term ℕ)) (s : Station Term ℕ) → station_of_id id ss ≡ Some s
    → (with_one o made ≡ made) ⊎ ((n : Made Term ℕ) × (with_one o made ≡ made ++ n ∷ []) × InStations (put_station id new ss) n.key)
made_by made None id new h ss s e = inl refl
made_by made (Some n) id new h ss s e = inr (n, refl, put_in id new n.key h ss s e)

module _ (same : Term → Term → Bool) (root : ℕ → List ℕ → Term) (octets : Outgoing Term ℕ → List ℕ)
    (sender : Option (Outgoing Term ℕ) → Option (KeyUse Term))
    (opener : Opening Term → List ℕ → Option (Outgoing Term ℕ) → Outcome) where
  abbrev m : Machine Term ℕ (Outgoing Term ℕ)
  m = machine_by same root octets sender opener

  module _ (w : TheWorld) where
    phone_stands : (input : PhoneInput Term) (came : Option (Outgoing Term ℕ)) → Both w (phone_turn m w input came)
    phone_stands input came =
        let outcome = opener (phone_opens (term_reading_by same) w.phone input) (phone_pdu_in input) came in
        let row = phone_row (plain_phone (term_reading_by same) w.phone) (front_of (term_reading_by same) w.phone input) outcome in
        let done = phone_does (term_reading_by same) row (phone_root input) w.phone in
        (inl refl, took_by w.took done.1.took done.0.radio (phone_gives same row (phone_root input) w.phone).2)

    station_stands : (id : ℕ) (input : StationInput Term ℕ) (came : Option (Outgoing Term ℕ)) (s : Station Term ℕ)
        → station_of_id id w.stations ≡ Some s
        → Both w (turn_of m w id input came (Some s))
    station_stands id input came s there =
        let outcome = opener (station_opens (term_reading_by same) s input) (station_pdu_in input) came in
        let row = station_row_of (term_reading_by same) s input outcome in
        let done = station_does (term_reading_by same) row (station_key input) s in
        (made_by w.made done.1.made id done.0 (station_holds same row (station_key input) s) w.stations s there, inl refl)

    pub happens_stands : (e : Event) → Both w (happens m w e)
    happens_stands =
        happens_each m w (λ done a. Both w done) (λ ksi key caps. (inl refl, inl refl))
        (λ input came turn. phone_stands input came) (λ input came. (inl refl, inl refl))
        (λ id input came s there own. station_stands id input came s there) (λ answer. (inl refl, inl refl))

-- IN A RUN

took_known : (P : Term → Type 0) (radio : Radio Term ℕ) (key : Term) → RadioKnown P radio → IsUnder radio key → P key
took_known P (Connected l) key k is = subst P is k.1
took_known P Idle key k is = absurd is
took_known P (Connecting waiting) key k is = absurd is

context_known : (P : Term → Type 0) (o : Option (Context Term ℕ)) (key : Term) → ContextKnown P o → InContext o key → P key
context_known P None key k is = absurd is
context_known P (Some c) key k is = subst P is k.0.0

preps_known : (P : Term → Type 0) (ps : List (Prep Term ℕ)) (key : Term) → AllOf (PrepKnown P) ps → InPreps ps key → P key
preps_known P [] key k is = absurd is
preps_known P (p ∷ ps) key k (inl is) = subst P is k.0.0.0
preps_known P (p ∷ ps) key k (inr is) = preps_known P ps key k.1 is

station_known : (P : Term → Type 0) (s : Station Term ℕ) (key : Term) → StationKnown P s → HasKey s key → P key
station_known P s key k (inl is) = context_known P s.context key k.0 is
station_known P s key k (inr is) = preps_known P s.preps key k.1 is

made_known : (P : Term → Type 0) (ss : List (Station Term ℕ)) (key : Term) → AllOf (StationKnown P) ss → InStations ss key → P key
made_known P [] key k is = absurd is
made_known P (s ∷ ss) key k (inl is) = station_known P s key k.0 is
made_known P (s ∷ ss) key k (inr is) = made_known P ss key k.1 is

longer : {A : Type 0} (xs : List A) (x : A) → xs ++ x ∷ [] ≡ xs → ⊥
longer [] x e = cc
longer (y ∷ ys) x e = let rest : ys ++ x ∷ [] ≡ ys = cc in longer ys x rest

same_last : {A : Type 0} (xs : List A) (x y : A) → xs ++ x ∷ [] ≡ xs ++ y ∷ [] → x ≡ y
same_last [] x y e = cc
same_last (z ∷ zs) x y e = let rest : zs ++ x ∷ [] ≡ zs ++ y ∷ [] = cc in same_last zs x y rest

-- keys that were reported stay so
member_more : (xs ys : List (RowOrigin Term)) (t : Term) → Member t (keys_of xs) → Member t (keys_of (xs ++ ys))
member_more [] ys t h = absurd h
member_more (x ∷ xs) ys t (inl e) = inl e
member_more (x ∷ xs) ys t (inr h) = inr (member_more xs ys t h)

module _ (m : Machine Term ℕ (Outgoing Term ℕ)) (t : Term) where
  abbrev Reported : TheWorld → Type 0
  Reported w = IsReported w t

  one_on : (w : TheWorld) (e : Event) → Reported w → Reported (happens m w e).0
  one_on w e h = let g = happens_gains m w e in subst (λ rows. Member t (keys_of rows)) (sym g.history) (member_more w.history g.derived t h)

  all_on : (w : TheWorld) (es : List Event) → Reported w → Reported (run m w es)
  all_on w [] h = h
  all_on w (e ∷ es) h = all_on (happens m w e).0 es (one_on w e h)

  later : (es : List Event) (j n : ℕ) → j ≤ n → (w : TheWorld) → Reported (run m w (take j es)) → Reported (run m w (take n es))
  later [] zero zero le w h = h
  later [] zero (suc n) le w h = h
  later [] (suc j) zero le w h = h
  later [] (suc j) (suc n) le w h = h
  later (e ∷ es) zero n le w h = all_on w (take n (e ∷ es)) h
  later (e ∷ es) (suc j) zero le w h = absurd (omega (arith, le))
  later (e ∷ es) (suc j) (suc n) le w h = later es j n (omega (arith, le)) (happens m w e).0 h

module _ (setup : Setup) (events : List Event) where
  abbrev machine : Machine Term ℕ (Outgoing Term ℕ)
  machine = written_machine annex_b

  here : (n : ℕ) (w : TheWorld) → written_run setup (take n events) ≡ Running w → w ≡ run machine (first_world setup) (take n events)
  here n w runs = still_is_run (open_octets annex_b_terms) machine (first_world setup) (take n events) w runs

  reported : (n : ℕ) (w : TheWorld) → written_run setup (take n events) ≡ Running w → AllReported w
  reported n w runs =
      all_reported annex_b_terms written_in_values (open_by_uses same_value annex_b_terms) (open_octets annex_b_terms)
      setup (take n events) w runs

  stands : (k : ℕ) (w : TheWorld) (e : Event) (u : TheWorld) (line : Line Term) → IsStep setup events k w e u line → Both w (u, line)
  stands k w e u line step =
      subst (Both w) (sym (step_happens setup events k w e u line step))
      (happens_stands same_value Root (octets_of annex_b_terms written_in_values) sender_of (open_by_uses same_value annex_b_terms) w e)

  took_reported : (k : ℕ) (x : Took Term ℕ) (line : Line Term) (h : TakesAt setup events k x line) → IsReported h.after x.key
  took_reported k x line h = by (stands k h.world h.event h.after line h.step).1
    where
      all : AllReported h.after
      all = reported (suc k) h.after (step_takes setup events k h.world h.event h.after line h.step)

      by : TookStands h.world h.after → IsReported h.after x.key
      by (inl same) = absurd (longer h.world.took x (sym h.takes ∙ same))
      by (inr (y, grows, is)) =
          subst (λ (z : Took Term ℕ). IsReported h.after z.key) (same_last h.world.took y x (sym grows ∙ h.takes))
          (took_known (IsReported h.after) h.after.phone.radio y.key all.phone.2 is)

  made_reported : (k : ℕ) (n : Made Term ℕ) (line : Line Term) (h : MakesAt setup events k n line) → IsReported h.after n.key
  made_reported k n line h = by (stands k h.world h.event h.after line h.step).0
    where
      all : AllReported h.after
      all = reported (suc k) h.after (step_takes setup events k h.world h.event h.after line h.step)

      by : MadeStands h.world h.after → IsReported h.after n.key
      by (inl same) = absurd (longer h.world.made n (sym h.makes ∙ same))
      by (inr (y, grows, is)) =
          subst (λ (z : Made Term ℕ). IsReported h.after z.key) (same_last h.world.made y n (sym grows ∙ h.makes))
          (made_known (IsReported h.after) h.after.stations y.key all.stations is)

  pub one_term : (k : ℕ) (x : Took Term ℕ) (line : Line Term)
      → TakesAt setup events k x line
      → (j : ℕ) (n : Made Term ℕ) (told : Line Term)
      → MakesAt setup events j n told
      → j < k
      → value_of x.key ≡ value_of n.key → x.key ≡ n.key
  one_term k x line takes j n told makes before value =
      let after = step_takes setup events k takes.world takes.event takes.after line takes.step in
      let then = step_takes setup events j makes.world makes.event makes.after told makes.step in
      let there = subst (λ (w : TheWorld). IsReported w n.key) (here (suc j) makes.after then) (made_reported j n told makes) in
      let now = subst (λ (w : TheWorld). IsReported w n.key) (sym (here (suc k) takes.after after))
      (later machine n.key events (suc j) (suc k) (omega (arith, before)) (first_world setup) there) in
      (ladder_always annex_b_terms written_in_values (open_by_uses same_value annex_b_terms) (open_octets annex_b_terms)
      setup (take (suc k) events) takes.after after).one
      x.key n.key (took_reported k x line takes) now value
