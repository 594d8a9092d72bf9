-- What each row of the phone keeps of the keys that it takes and uses.
use Rattle.std.proofs.Common.{◌≡◌, refl, sym, ap, ◌∙◌, subst, ℕ, ◌<◌, ◌==◌, ◌⊎◌, inl, inr, Bool, true, false, List, Option, Some, None, arith}
use Rattle.std.specs.Prelude.{IfSome}
use Rattle.alg_choice.specs.{declared.algs.Algs.Algs, Algs.identity_of, Algs.eia2_identity}
use Rattle.annex_a_keys.specs.Cell.{Place}
use Rattle.rec_base.specs.{declared.uses.Dir.TheVariants.Up, Bearer.bearer5_of}
use Rattle.key_model.specs.Term.{Term, Kenb, Star, Alg}
use Rattle.key_model.specs.Reading.{term_reading, term_reading_by}
use Rattle.nas_count.specs.Estimate.{nas_count_limit}
use Rattle.rrc_rec.specs.declared.records.RrcRecord.{RrcRecord}
use Rattle.nh_chain.specs.{Chain.begun, Reach.reached_after}
use Rattle.pdcp_guard.specs.AsKeys.{AsKeys, as_keys_of}
use Rattle.lte_machine.specs.Bearers.{Srb, Signalling1, Drb, Bearers, of_srb, of_drb, srb_counts, drb_counts, srb_sent, drb_sent, srb_taken, skipped, new_bearers}
use Rattle.lte_machine.specs.Wire.{Outgoing, UserPacket, uses_of, drb_use, drb_ciphering}
use Rattle.lte_machine.specs.{Reply.Took, Reply.Commanded, PhoneRows.AirRow, PhoneRows.ActRow, World.uses_in}
use Rattle.lte_machine.specs.PhoneState.{Waiting, NasContext, Link, Radio, Idle, Connecting, Connected, Phone}
use Rattle.lte_machine.specs.PhoneKeys.{rrc_sealed, with_bearers, link_secured, arrived, air_does, act_does, before_of, changed_unless}
use Rattle.lte_machine.proofs.PhoneCases.{with_context, with_radio, AirCases, air_case, ActCases, act_case}
use Rattle.lte_machine.proofs.Tests.{Anything}
use Rattle.lte_properties.specs.ChainBelow.{AllOf}
use Rattle.lte_properties.proofs.Freshness.Sequence.{authentication_of, IsBefore, IsNotAfter, IsLevel}
use Rattle.lte_properties.proofs.Freshness.Uses.{Home, home_at, Homes, OnKey, IsAs, next_on, send_on, AllApart}
use Rattle.lte_properties.proofs.Freshness.Stands.{IsPast, AsKeysOf, partial_root, phone_mark, PhoneStands, RecordStands, KeyOlder, kasme_in_use}
use Rattle.lte_properties.proofs.Freshness.Order.{not_before_itself, before_is_not_after, not_after_itself, not_after_before, past_alike, star_is_later, homed, homed_here, homed_is, homed_grows}
use Rattle.lte_properties.proofs.{Freshness.Lists.both_apart, SameKeys.IsReflexive}
use Rattle.lte_properties.proofs.Freshness.Bearers.{Rise, below_stays, srb_taken_rises, drb_taken_rises, srb_sent_rises, drb_sent_rises, left_out_rises, srb_is_next, srb_is_used, drb_is_next, drb_is_used}
use Rattle.lte_properties.proofs.Freshness.PhoneNas.{Keeps, NewUp, PhoneKeeps, types_apart, true_false, still, sealed, left_out, requested}

module _ (roots : ℕ) (taken : Homes) where
  -- THE ACCESS STRATUM

  module _ (s : Phone Term ℕ) (l : Link Term ℕ) (b : Bearers) where
    abbrev before : Phone Term ℕ
    before = record s { radio = Connected l }

    abbrev after : Phone Term ℕ
    after = record s { radio = with_bearers l b }

    -- a use of the next COUNT of an SRB, and of a DRB
    new_srb : (srb : Srb) → b ≡ srb_sent srb l.bearers → (type id : ℕ) → IsAs type → (type == 5) ≡ false → PhoneStands roots taken before →
        NewUp roots taken taken before after
        (record { key = Alg l.kenb type id; count = (srb_counts srb l.bearers).send; bearer = bearer5_of (of_srb srb); dir = Up })
    new_srb srb e type id ge f h =
        let used = subst (λ on. (srb_counts srb l.bearers).send < send_on on (bearer5_of (of_srb srb)) b) (sym f)
        (subst (λ x. (srb_counts srb l.bearers).send < send_on false (bearer5_of (of_srb srb)) x) (sym e) (srb_is_used srb l.bearers)) in (
          refl,
          (λ n. absurd (omega arith), λ a. (home_at l.station l.air, h.radio.here, λ g. used)),
          λ old. srb_is_next srb l.bearers
              (subst (λ on. (srb_counts srb l.bearers).send < send_on on (bearer5_of (of_srb srb)) l.bearers) f ((old.1 ge).2 refl)),
        )

    -- and of the next COUNT of a DRB
    new_drb : (drb : Drb) → b ≡ drb_sent drb l.bearers → (id : ℕ) → PhoneStands roots taken before →
        NewUp roots taken taken before after
        (record { key = Alg l.kenb 5 id; count = (drb_counts drb l.bearers).send; bearer = bearer5_of (of_drb drb); dir = Up })
    new_drb drb e id h =
        let used = subst (λ x. (drb_counts drb l.bearers).send < send_on true (bearer5_of (of_drb drb)) x) (sym e) (drb_is_used drb l.bearers) in (
          refl,
          (λ n. absurd (omega arith), λ a. (home_at l.station l.air, h.radio.here, λ g. used)),
          λ old. drb_is_next drb l.bearers ((old.1 (omega arith)).2 refl),
        )

    -- COUNTs that do not fall, and uses of the ones that rose
    bearers_keep : (sent : Option (Outgoing Term ℕ)) → Rise l.bearers b → PhoneStands roots taken before →
        AllOf (NewUp roots taken taken before after) (uses_in sent) →
        AllApart (uses_in sent) → ((given : Homes) → IfSome sent (RecordStands taken given)) →
        PhoneKeeps roots taken before after sent None
    bearers_keep sent rise h uses apart sends = record {
      new = taken;
      grows = λ t k e. e;
      stands = h;
      nas = λ k count u. u;
      link = λ k type count bearer u. (u.0, u.1, λ e. below_stays type bearer l.bearers b count rise (u.2 e));
      uses = uses;
      apart = apart;
      sends = sends;
      takes = tt;
      rises = tt;
    }

    -- an RRC text by the keys of the connection
    abbrev OfRrc : Srb → RrcRecord → AsKeys Term → Type 0
    OfRrc srb x keys =
        AllOf (NewUp roots taken taken before after)
        (uses_of {C = ℕ} (rrc_sealed keys l.station l.air srb (srb_counts srb l.bearers).send x))
        × AllApart (uses_of {C = ℕ} (rrc_sealed keys l.station l.air srb (srb_counts srb l.bearers).send x))
        × OnKey (λ t type. taken t ≡ Some (home_at l.station l.air)) keys.rrc_int

    -- its uses are new
    rrc_keeps : (srb : Srb) (x : RrcRecord) → b ≡ srb_sent srb l.bearers → PhoneStands roots taken before →
        PhoneKeeps roots taken before after
        (Some (rrc_sealed l.keys l.station l.air srb (srb_counts srb l.bearers).send x)) None
    rrc_keeps srb x e h =
        let a : OfRrc srb x (as_keys_of term_reading l.kenb l.keys.algs) = (
          (new_srb srb e 3 (identity_of l.keys.algs.eea) (omega arith) refl h, (new_srb srb e 4 eia2_identity (omega arith) refl h, tt)),
          both_apart _ _ (types_apart _ _ 3 4 refl refl (λ g. absurd (omega arith))),
          h.radio.here,
        ) in
        let k = subst (OfRrc srb x) (sym h.radio.keys) a in
        bearers_keep _ (subst (Rise l.bearers) (sym e) (srb_sent_rises srb l.bearers)) h k.0 k.1 (λ given. k.2)

    -- a user packet
    packet_keeps : (drb : Drb) (text : List ℕ) → b ≡ drb_sent drb l.bearers → PhoneStands roots taken before →
        PhoneKeeps roots taken before after
        (Some (UserPacket Up l.station l.air drb (drb_ciphering Up l.keys drb (drb_counts drb l.bearers).send) text)) None
    packet_keeps drb text e h =
        let k = subst (λ keys. NewUp roots taken taken before after
        (drb_use Up keys.up_enc drb (drb_counts drb l.bearers).send))
        (sym h.radio.keys) (new_drb drb e (identity_of l.keys.algs.eea) h) in
        bearers_keep _ (subst (Rise l.bearers) (sym e) (drb_sent_rises drb l.bearers)) h (k, tt) (tt, tt) (λ given. tt)

  -- a KeNB that is taken now was not before
  not_taken : (kenb : Term) → ((t : Term) (h : Home) → taken t ≡ Some h → IsBefore t kenb) → (k : Home) → taken kenb ≡ Some k → ⊥
  not_taken kenb before k e = not_before_itself kenb (before kenb k e)

  module _ (s : Phone Term ℕ) (radio : Radio Term ℕ) (kenb : Term) (l : Link Term ℕ) where
    -- what holds of the new key and of the old ones holds of all
    taken_all : (P : Term → Type 0) (h : Home) → P kenb → ((t : Term) (k : Home) → taken t ≡ Some k → P t) →
        (t : Term) (k : Home) → homed taken kenb h t ≡ Some k → P t
    taken_all P h new old t k e = by_side (homed_is taken kenb h t k e) where
      by_side : ((taken t ≡ Some k) ⊎ ((t ≡ kenb) × (h ≡ k))) → P t
      by_side (inl f) = old t k f
      by_side (inr f) = subst P (sym f.0) new

    -- the phone is connected under a KeNB that comes after all that it took
    joins : (sent : Option (Outgoing Term ℕ)) (took : Option (Took Term ℕ)) → PhoneStands roots taken (record s { radio = radio }) → l.kenb ≡ kenb →
        IsPast roots (partial_root s.partial) (phone_mark s.context) kenb → ((t : Term) (h : Home) → taken t ≡ Some h → IsBefore t kenb) →
        IsLevel l.kenb l.chain.sync → AsKeysOf l.kenb l.keys → KeyOlder l.chain.root l.kenb (kasme_in_use s.context) →
        AllOf (NewUp roots taken (homed taken kenb (home_at l.station l.air)) (record s { radio = radio }) (record s { radio = Connected l })) (uses_in sent) →
        AllApart (uses_in sent) → ((given : Homes) → IfSome sent (RecordStands (homed taken kenb (home_at l.station l.air)) given)) →
        IfSome took (λ x. homed taken kenb (home_at l.station l.air) x.key ≡ Some (home_at x.station x.air)) →
        IfSome took (λ x. (k : Term) (h : Home) → taken k ≡ Some h → IsBefore k x.key) →
        PhoneKeeps roots taken (record s { radio = radio }) (record s { radio = Connected l }) sent took
    joins sent took h same past before level keys older uses apart sends takes rises = record {
      new = homed taken kenb (home_at l.station l.air);
      grows = homed_grows taken kenb (home_at l.station l.air) (not_taken kenb before);
      stands = record {
        kasmes = h.kasmes;
        keys = h.keys;
        past = taken_all (IsPast roots (partial_root s.partial) (phone_mark s.context)) (home_at l.station l.air) past h.past;
        radio = record {
          here = subst (λ k. homed taken kenb (home_at l.station l.air) k ≡ Some (home_at l.station l.air)) (sym same)
              (homed_here taken kenb (home_at l.station l.air));
          level = level;
          keys = keys;
          latest = taken_all (λ t. IsNotAfter t l.kenb) (home_at l.station l.air) (subst (IsNotAfter kenb) (sym same) (not_after_itself kenb))
              (λ t k e. subst (IsNotAfter t) (sym same) (before_is_not_after t kenb (before t k e)));
        };
        older = older;
        sent = h.sent;
      };
      nas = λ k count u. u;
      link = λ k type count bearer u. (
        u.0,
        homed_grows taken kenb (home_at l.station l.air) (not_taken kenb before) k u.0 u.1,
        λ e. absurd (not_taken kenb before u.0 (ap taken (sym same) ∙ (ap taken (sym e) ∙ u.1))),
      );
      uses = uses;
      apart = apart;
      sends = sends;
      takes = takes;
      rises = rises;
    }

    -- a use of COUNT 0 under it is new
    new_zero : PhoneStands roots taken (record s { radio = radio }) → ((t : Term) (h : Home) → taken t ≡ Some h → IsBefore t kenb) →
        (type id bearer : ℕ) → IsAs type → 0 < next_on type bearer l.bearers →
        NewUp roots taken (homed taken kenb (home_at l.station l.air)) (record s { radio = radio }) (record s { radio = Connected l })
        (record { key = Alg kenb type id; count = 0; bearer = bearer; dir = Up })
    new_zero h before type id bearer ge used = (
      refl,
      (λ n. absurd (omega arith), λ a. (home_at l.station l.air, homed_here taken kenb (home_at l.station l.air), λ g. used)),
      λ old. not_taken kenb before (old.1 ge).0 (old.1 ge).1,
    )

  module _ (same : Term → Term → Bool) (algs : Algs) (station air : ℕ) (s : Phone Term ℕ) where
    -- the security of a connection starts
    secured_keeps : (count : ℕ) (w : Waiting Term) → let t = with_radio s (Connecting w) in
        Keeps roots taken t (link_secured (term_reading_by same) station air algs count t (Connecting w))
    secured_keeps count w h =
        let l : Link Term ℕ = record {
          station = station;
          air = air;
          chain = begun (term_reading_by same) w.root w.kenb;
          kenb = w.kenb;
          keys = as_keys_of (term_reading_by same) w.kenb algs;
          bearers = srb_sent Signalling1 (srb_taken Signalling1 count new_bearers);
          by_handover = false;
        } in
        let (past, before) = h.radio in
        joins s (Connecting w) w.kenb l _ _ h refl past before (refl, refl, refl) refl h.older
        (new_zero s (Connecting w) w.kenb l h before 4 eia2_identity 0 (omega arith) (omega arith), tt) (tt, tt)
        (λ given. homed_here taken w.kenb (home_at station air)) (homed_here taken w.kenb (home_at station air)) before

    -- a handover command
    arrived_keeps : (l : Link Term ℕ) (steps : ℕ) (cell : Place) → PhoneStands roots taken (record s { radio = Connected l }) →
        let d = arrived (term_reading_by same) algs station air (record s { radio = Connected l }) (Commanded (before_of l))
        (reached_after (term_reading_by same) l.chain l.kenb steps cell) in
        PhoneKeeps roots taken (record s { radio = Connected l }) d.0 d.1.sent d.1.took
    arrived_keeps l steps cell h =
        let star = (reached_after (term_reading_by same) l.chain l.kenb steps cell).star.key in
        let (later, one_root, one_count, level) = star_is_later same l.chain l.kenb steps cell h.radio.level in
        let t : Link Term ℕ = record {
          station = station;
          air = air;
          chain = (reached_after (term_reading_by same) l.chain l.kenb steps cell).chain;
          kenb = star;
          keys = as_keys_of (term_reading_by same) star algs;
          bearers = srb_sent Signalling1 new_bearers;
          by_handover = true;
        } in
        let before : (t : Term) (h : Home) → taken t ≡ Some h → IsBefore t star = λ t g e. not_after_before t l.kenb star (h.radio.latest t g e) later in
        joins s (Connected l) star t _ _ h refl
        (past_alike roots (partial_root s.partial) (phone_mark s.context) l.kenb star one_root one_count
        (h.past l.kenb (home_at l.station l.air) h.radio.here))
        before level refl (h.older.0 ∙ one_root, h.older.1) (
          new_zero s (Connected l) star t h before 3 (identity_of algs.eea) 0 (omega arith) (omega arith),
          (new_zero s (Connected l) star t h before 4 eia2_identity 0 (omega arith) (omega arith), tt),
        )
        (both_apart _ _ (types_apart _ _ 3 4 refl refl (λ g. absurd (omega arith))))
        (λ given. homed_here taken star (home_at station air)) (homed_here taken star (home_at station air)) before

    -- a key change: all that was taken is of an older authentication than the KASME in use
    module _ (itself : IsReflexive same) (cell : Place) where
      another : (l : Link Term ℕ) (c : NasContext Term) → same c.root l.chain.root ≡ false → KeyOlder l.chain.root l.kenb (Some c.root) →
          authentication_of l.kenb < authentication_of c.root
      another l c differs (level, inl one) = absurd (true_false (sym (itself c.root) ∙ ap (same c.root) (sym one) ∙ differs))
      another l c differs (level, inr older) = omega arith

      changed_keeps : (l : Link Term ℕ) (c : NasContext Term) → same c.root l.chain.root ≡ false
          → let t = with_radio (with_context s (Some c)) (Connected l) in
          Keeps roots taken t (changed_unless (term_reading_by same) cell algs station air t (before_of l) c.root false)
      changed_keeps l c e h =
          let star = Star (Kenb c.root 0) cell.pci cell.earfcn in
          let newer = another l c e h.older in
          let t : Link Term ℕ = record {
            station = station;
            air = air;
            chain = begun (term_reading_by same) c.root (Kenb c.root 0);
            kenb = star;
            keys = as_keys_of (term_reading_by same) star algs;
            bearers = srb_sent Signalling1 new_bearers;
            by_handover = true;
          } in
          let before : (t : Term) (h : Home) → taken t ≡ Some h → IsBefore t star =
          λ t g f. let x = (h.radio.latest t g f).0 in (omega arith, λ i. absurd (omega arith)) in
          let (low, older) = h.kasmes.1 in
          joins (record s { context = Some c }) (Connected l) star t _ _ h refl
          (low, older, (omega arith, λ i. let x = h.sent in omega arith))
          before (refl, refl, refl) refl (refl, inl refl) (
            new_zero (record s { context = Some c }) (Connected l) star t h before 3 (identity_of algs.eea) 0 (omega arith) (omega arith),
            (new_zero (record s { context = Some c }) (Connected l) star t h before 4 eia2_identity 0 (omega arith) (omega arith), tt),
          )
          (both_apart _ _ (types_apart _ _ 3 4 refl refl (λ g. absurd (omega arith))))
          (λ given. homed_here taken star (home_at station air)) (homed_here taken star (home_at station air)) before

  module _ (s : Phone Term ℕ) where
    -- the phone goes idle
    idle_keeps : PhoneStands roots taken s → PhoneKeeps roots taken s (record s { radio = Idle }) None None
    idle_keeps h = record {
      new = taken;
      grows = λ t k e. e;
      stands = search;
      nas = λ k count u. u;
      link = λ k type count bearer u. (u.0, u.1, tt);
      uses = tt;
      apart = tt;
      sends = λ given. tt;
      takes = tt;
      rises = tt;
    }

  -- rows of a PDU
  air_cases : (same : Term → Term → Bool) → IsReflexive same → (s : Phone Term ℕ) → AirCases (term_reading_by same) Anything (Keeps roots taken) s
  air_cases same itself s = record {
    nothing = λ t answer h. still roots taken t h;
    secured = λ station air algs count w k h. secured_keeps same algs station air s count w h;
    handed_over = λ cell steps algs station air l k h. arrived_keeps same algs station air s l steps cell h;
    changed = λ cell algs station air l c e k h. changed_keeps same algs station air s itself cell l c e h;
    rrc = λ srb count text l k h. bearers_keep s l _ None (srb_taken_rises srb count l.bearers) h tt tt (λ given. tt);
    packet = λ drb count text l k h. bearers_keep s l _ None (drb_taken_rises drb count l.bearers) h tt tt (λ given. tt);
  }

  pub air_keeps : (same : Term → Term → Bool) → IsReflexive same → (row : AirRow) (s : Phone Term ℕ) → PhoneStands roots taken s →
      let d = air_does (term_reading_by same) row s in PhoneKeeps roots taken s d.0 d.1.sent d.1.took
  air_keeps same itself row s h = air_case (term_reading_by same) Anything (Keeps roots taken) s (air_cases same itself s) row tt h

  -- rows of an act
  act_cases : (same : Term → Term → Bool) (s : Phone Term ℕ) → ActCases (term_reading_by same) Anything (Keeps roots taken) s
  act_cases same s = record {
    nothing = λ t answer h. still roots taken t h;
    requested = λ c k h. requested roots taken s c _ h;
    resent = λ l k h. rrc_keeps s l _ Signalling1 _ refl h;
    idle = λ k h. idle_keeps s h;
    packet = λ drb text l k h. packet_keeps s l _ drb text refl h;
    rrc = λ srb text l k h. rrc_keeps s l _ srb _ refl h;
    nas = λ text c k h. sealed roots taken s c 2 _ h;
    nas_skipped = λ n c k h. left_out roots taken s c (skipped n c.send nas_count_limit) (omega arith) h;
    bearer_skipped = λ on n l k h. bearers_keep s l _ None (left_out_rises on n l.bearers) h tt tt (λ given. tt);
  }

  pub act_keeps : (same : Term → Term → Bool) (row : ActRow) (s : Phone Term ℕ) → PhoneStands roots taken s →
      let d = act_does (term_reading_by same) row s in PhoneKeeps roots taken s d.0 d.1.sent d.1.took
  act_keeps same row s h = act_case (term_reading_by same) Anything (Keeps roots taken) s (act_cases same s) row tt h
