-- Each key that a core sends to a station goes in one record.
use Rattle.std.proofs.Common.{◌≡◌, refl, sym, ap, ◌∙◌, subst, ℕ, zero, suc, List, [], ◌∷◌, ◌++◌, length, map, Option, Some, None, option_map, inl, inr}
use Rattle.std.specs.{Prelude.◌⊎◌, Prelude.slice_get, List.AllByRecursion as AllOf}
use Rattle.rec_base.specs.declared.uses.Dir.TheVariants.{Up, Down}
use Rattle.lte_events.specs.{Ranges.IsEvent, Ranges.IsSetup, declared.addresses.Address.Address, declared.events.Event.Event, declared.setups.Setup.Setup}
use Rattle.key_model.specs.{Chain.ncc_of, HandoverLines.map_numbered, HandoverTable.NumberedKey, Term.Term, Term.Root, Value.value_of, Value.same_value}
use Rattle.s1x2_rec.specs.Fields.{Fields, PathSwitchAnswer, HandoverRequest}
use Rattle.lte_machine.specs.BothRuns.{annex_b_terms, octet_run, written_run}
use Rattle.lte_machine.specs.Ciphers.{annex_b, octets_of}
use Rattle.lte_machine.specs.Known.{SentKnown, IsReported, AllReported}
use Rattle.lte_machine.specs.Machines.{Kept, kept_in_values, sender_of, written_in_values, written_machine}
use Rattle.lte_machine.specs.Opening.{Opening, Outcome, open_by_uses, open_octets}
use Rattle.lte_machine.specs.Run.{Running, run, first_world}
use Rattle.lte_machine.specs.Wire.{Outgoing, SealedNas, PlainNas, SealedRrc, UserPacket, Between}
use Rattle.lte_machine.specs.World.{Machine, World, with_one, happens}
use Rattle.lte_machine.proofs.{EventByEvent.written_still, LadderRun.all_reported, LadderRun.ladder_always, RangeHolds.RecordRanged, RangeHolds.Ranged, StillRun.still_is_run, Worlds.TheWorld}
use Rattle.lte_machine.proofs.RangeWorld.{first_ranged, ranged_keeps, reads_back}
use Rattle.lte_properties.specs.Separation.{Gives, GivenTo}
use Rattle.lte_properties.proofs.{KeySeparation.Holders.Holders, KeySeparation.Keys.GivesIn, KeySeparation.World.first_holds, KeySeparation.World.happens_goes}
use Rattle.core_relocation.specs.Once.{nh_of, nh_read, nh_sent, NoNhTwice}

-- LISTS OF RECORDS

-- no two records give one key
abbrev Apart : List (Outgoing Term ℕ) → Type 0
Apart xs = (i j : ℕ) (x y : Outgoing Term ℕ) (t : Term) (a b : ℕ) → slice_get xs i ≡ Some x → slice_get xs j ≡ Some y → Gives t a x → Gives t b y → i ≡ j

got_given : (xs : List (Outgoing Term ℕ)) (i : ℕ) (x : Outgoing Term ℕ) (t : Term) (a : ℕ) → slice_get xs i ≡ Some x → Gives t a x → GivenTo xs t a
got_given [] i x t a e g = absurd cc
got_given (y ∷ ys) zero x t a e g = let one : y ≡ x = cc in inl (subst (Gives t a) (sym one) g)
got_given (y ∷ ys) (suc i) x t a e g = inr (got_given ys i x t a e g)

got_more : {A : Type 0} (xs : List A) (x : A) (i : ℕ) (y : A) → slice_get (xs ++ x ∷ []) i ≡ Some y → (slice_get xs i ≡ Some y) ⊎ ((i ≡ length xs) × (x ≡ y))
got_more [] x zero y e = inr (refl, cc)
got_more [] x (suc i) y e = absurd cc
got_more (z ∷ zs) x zero y e = inl e
got_more {A = A} (z ∷ zs) x (suc i) y e = by (got_more zs x i y e)
  where
    by : (slice_get zs i ≡ Some y) ⊎ ((i ≡ length zs) × (x ≡ y)) → (slice_get zs i ≡ Some y) ⊎ ((suc i ≡ suc (length zs)) × (x ≡ y))
    by (inl f) = inl f
    by (inr f) = inr (ap suc f.0, f.1)

more_apart : (xs : List (Outgoing Term ℕ)) (o : Option (Outgoing Term ℕ))
    → Apart xs
    → ((t : Term) (a b : ℕ) → GivenTo xs t a → GivesIn o t b → ⊥)
    → Apart (with_one o xs)
more_apart xs None h fresh i j y z t a b e f k l = h i j y z t a b e f k l
more_apart xs (Some x) h fresh i j y z t a b e f k l = by (got_more xs x i y e) (got_more xs x j z f)
  where
    by : (slice_get xs i ≡ Some y) ⊎ ((i ≡ length xs) × (x ≡ y)) → (slice_get xs j ≡ Some z) ⊎ ((j ≡ length xs) × (x ≡ z)) → i ≡ j
    by (inl p) (inl q) = h i j y z t a b p q k l
    by (inl p) (inr q) = absurd (fresh t a b (got_given xs i y t a p k) (subst (Gives t b) (sym q.1) l))
    by (inr p) (inl q) = absurd (fresh t b a (got_given xs j z t b q l) (subst (Gives t a) (sym p.1) k))
    by (inr p) (inr q) = p.0 ∙ sym q.0

got_mapped : {A B : Type 0} (f : A → B) (xs : List A) (i : ℕ) (y : B) → slice_get (map f xs) i ≡ Some y → (x : A) × (slice_get xs i ≡ Some x) × (f x ≡ y)
got_mapped f [] i y e = absurd cc
got_mapped f (x ∷ xs) zero y e = (x, refl, cc)
got_mapped f (x ∷ xs) (suc i) y e = got_mapped f xs i y e

all_got : {A : Type 0} (P : A → Type 0) (xs : List A) (i : ℕ) (x : A) → AllOf P xs → slice_get xs i ≡ Some x → P x
all_got P [] i x h e = absurd cc
all_got P (y ∷ ys) zero x h e = let one : y ≡ x = cc in subst P one h.0
all_got P (y ∷ ys) (suc i) x h e = all_got P ys i x h.1 e

-- A RECORD IN OCTETS

-- what carries an NH in octets gives a key of this value
abbrev GivesValue : Outgoing Term ℕ → List ℕ → Type 0
GivesValue x nh = (t : Term) × (a : ℕ) × Gives t a x × (value_of t ≡ nh)

nh_is : (fields : Fields) (key : Option (NumberedKey Term ℕ)) (nh : List ℕ)
    → nh_of fields (option_map (map_numbered value_of ncc_of) key) ≡ Some nh
    → (k : NumberedKey Term ℕ) × (key ≡ Some k) × (value_of k.key ≡ nh)
nh_is (PathSwitchAnswer conn number) None nh e = cc
nh_is (PathSwitchAnswer conn number) (Some k) nh e = (k, refl, cc)
nh_is (HandoverRequest conn source attempt cell caps) None nh e = cc
nh_is (HandoverRequest conn source attempt cell caps) (Some k) nh e = (k, refl, cc)
nh_is other key nh e = cc

gives_value : (x : Outgoing Term ℕ) → RecordRanged x → (nh : List ℕ) → nh_sent (kept_in_values annex_b x) ≡ Some nh → GivesValue x nh
gives_value (SealedNas Up header u e text) h nh is = cc
gives_value (SealedNas Down header u e text) h nh is = cc
gives_value (PlainNas octets) h nh is = cc
gives_value (SealedRrc Up station air srb u e text) h nh is = cc
gives_value (SealedRrc Down station air srb u e text) h nh is = cc
gives_value (UserPacket Up station air drb e text) h nh is = cc
gives_value (UserPacket Down station air drb e text) h nh is = cc
gives_value (Between Address.PhoneNas fields key) h nh is = cc
gives_value (Between (Address.Phone station air bearer) fields key) h nh is = cc
gives_value (Between Address.CoreNas fields key) h nh is = cc
gives_value (Between Address.CoreS1 fields key) h nh is = cc
gives_value (Between (Address.StationAir station air bearer) fields key) h nh is = cc
gives_value (Between (Address.StationX2 station) fields key) h nh is = cc
gives_value (Between (Address.StationS1 station) fields key) h nh is =
    by key (nh_is fields key nh (sym (ap nh_read (reads_back fields key h.0 h.1)) ∙ is))
  where
    by : (key : Option (NumberedKey Term ℕ))
        → (k : NumberedKey Term ℕ) × (key ≡ Some k) × (value_of k.key ≡ nh)
        → GivesValue (Between (Address.StationS1 station) fields key) nh
    by key k = subst (λ o. GivesValue (Between (Address.StationS1 station) fields o) nh) (sym k.1) (k.0.key, station, (refl, refl), k.2)

-- and a key that is given was reported
given_known : (P : Term → Type 0) (x : Outgoing Term ℕ) (t : Term) (a : ℕ) → SentKnown P x → Gives t a x → P t
given_known P (Between (Address.StationS1 station) fields (Some key)) t a k g = subst P g.0 k
given_known P other t a k g = absurd g

-- THE RUN

module _ (setup : Setup) (set : IsSetup setup) where
  abbrev m : Machine Term ℕ (Outgoing Term ℕ)
  m = written_machine annex_b

  abbrev octets : Outgoing Term ℕ → List ℕ
  octets = octets_of annex_b_terms written_in_values

  abbrev opener : Opening Term → List ℕ → Option (Outgoing Term ℕ) → Outcome
  opener = open_by_uses same_value annex_b_terms

  run_apart : (w : TheWorld) (es : List Event) → Holders setup.cells w → Apart w.sent → Apart (run m w es).sent
  run_apart w [] h apart = apart
  run_apart w (e ∷ es) h apart =
      let goes = happens_goes setup.cells same_value octets sender_of opener w h e in
      run_apart (happens m w e).0 es goes.holders (subst Apart (sym goes.is) (more_apart w.sent goes.sent apart goes.fresh))

  run_ranged : (w : TheWorld) (es : List Event) → AllOf IsEvent es → Ranged w → Ranged (run m w es)
  run_ranged w [] are h = h
  run_ranged w (e ∷ es) are h = run_ranged (happens m w e).0 es are.1 (ranged_keeps same_value Root octets sender_of opener w e are.0 h)

  module _ (events : List Event) (are : AllOf IsEvent events) (w : TheWorld) (runs : written_run setup events ≡ Running w) where
    here : w ≡ run m (first_world setup) events
    here = still_is_run (open_octets annex_b_terms) m (first_world setup) events w runs

    apart : Apart w.sent
    apart = subst (λ (u : TheWorld). Apart u.sent) (sym here) (run_apart (first_world setup) events (first_holds setup) (λ i j x y t a b e f k l. cc))

    ranged : AllOf RecordRanged w.sent
    ranged = subst (λ (u : TheWorld). AllOf RecordRanged u.sent) (sym here) (run_ranged (first_world setup) events are (first_ranged setup set)).2

    reported : AllReported w
    reported = all_reported annex_b_terms written_in_values opener (open_octets annex_b_terms) setup events w runs

    one : (t u : Term) → IsReported w t → IsReported w u → value_of t ≡ value_of u → t ≡ u
    one = (ladder_always annex_b_terms written_in_values opener (open_octets annex_b_terms) setup events w runs).one

    -- records that carry one NH in octets
    pub one_record : (i j : ℕ) (x y : Outgoing Term ℕ) (nh : List ℕ) → slice_get w.sent i ≡ Some x → slice_get w.sent j ≡ Some y
        → nh_sent (kept_in_values annex_b x) ≡ Some nh → nh_sent (kept_in_values annex_b y) ≡ Some nh → i ≡ j
    one_record i j x y nh at_i at_j in_x in_y =
        let gx = gives_value x (all_got RecordRanged w.sent i x ranged at_i) nh in_x in
        let gy = gives_value y (all_got RecordRanged w.sent j y ranged at_j) nh in_y in
        let known_x = given_known (IsReported w) x gx.0 gx.1 (all_got (SentKnown (IsReported w)) w.sent i x reported.sent at_i) gx.2 in
        let known_y = given_known (IsReported w) y gy.0 gy.1 (all_got (SentKnown (IsReported w)) w.sent j y reported.sent at_j) gy.2 in
        let same = one gx.0 gy.0 known_x known_y (gx.3 ∙ sym gy.3) in
        apart i j x y gx.0 gx.1 gy.1 at_i at_j gx.2 (subst (λ t. Gives t gy.1 y) (sym same) gy.2)

  -- in octets
  pub no_nh_twice : (events : List Event) → AllOf IsEvent events → (u : World (List ℕ) ℕ Kept) → octet_run setup events ≡ Running u → NoNhTwice u
  no_nh_twice events are u runs i j x y nh at_i at_j in_x in_y =
      let is = written_still setup events set are u runs in
      let at_x = got_mapped (kept_in_values annex_b) is.world.sent i x (ap (λ (v : World (List ℕ) ℕ Kept). slice_get v.sent i) (sym is.value) ∙ at_i) in
      let at_y = got_mapped (kept_in_values annex_b) is.world.sent j y (ap (λ (v : World (List ℕ) ℕ Kept). slice_get v.sent j) (sym is.value) ∙ at_j) in
      one_record events are is.world is.runs i j at_x.0 at_y.0 nh at_x.1 at_y.1 (ap nh_sent at_x.2 ∙ in_x) (ap nh_sent at_y.2 ∙ in_y)
