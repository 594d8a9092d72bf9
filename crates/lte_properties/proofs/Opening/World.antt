-- Every event keeps what is known of the keys of packets.
use Rattle.std.proofs.Common.{◌≡◌, refl, sym, ap, ℕ, ◌<◌, ◌==◌, Bool, true, false, if◌then◌else◌, List, ◌++◌, length, map, Option, Some, None, Result, le_of_eq, arith}
use Rattle.std.specs.Prelude.{⊤, filter}
use Rattle.std.proofs.lemmas.Bool.Decides.{nat_tests}
use Rattle.alg_choice.specs.{declared.algs.Algs.Algs, declared.choices.NoAlgorithm.NoAlgorithm as NoneChosen}
use Rattle.lte_events.specs.{declared.answers.Answer.Answer, Site.Site}
use Rattle.key_model.specs.{Derivation.Derivation, Term.Term, Term.Root, HandoverTable.NumberedKey, Reading.Reading, Reading.term_reading_by}
use Rattle.s1x2_rec.specs.Fields.{Fields}
use Rattle.lte_machine.specs.Wire.{KeyUse, Outgoing, SealedNas, SealedRrc, UserPacket}
use Rattle.lte_machine.specs.{Ciphers.Ciphers, Ciphers.octets_of, Opening.Opening, Opening.Outcome, Ladder.Of, Reply.Reply, PhoneState.PhoneInput, PhoneRows.PhoneRow, PhoneChoice.phone_row, PhoneKeys.PhoneDone, StationState.Station, StationState.StationInput, CoreState.Core, CoreState.CoreInput, CoreRows.CoreRow, CoreChoice.core_row, CoreKeys.CoreDone, CoreKeys.core_does}
use Rattle.lte_machine.specs.PhoneStep.{plain_phone, front_of, phone_root, phone_opens, phone_pdu_in, phone_step}
use Rattle.lte_machine.specs.StationStep.{station_opens, station_pdu_in, station_step, station_row_of, station_key}
use Rattle.lte_machine.specs.CoreRows as core
use Rattle.lte_machine.specs.CoreStep.{plain_core, core_root, core_front_of, core_opens, core_pdu_in, core_step}
use Rattle.lte_machine.specs.World.{Machine, phone_after, core_after, station_after, by_world, phone_turn, core_turn, turn_of, is_root_row, next_root}
use Rattle.lte_properties.specs.{ChainBelow.AllOf, ChainHolds.machine_by}
use Rattle.lte_properties.proofs.ChainNumbers.Lists.{OfSome, all_one, all_map, roots_kept}
use Rattle.lte_properties.proofs.{Agreement.Ghost.Ghost, Agreement.Ghost.StationOk, Agreement.Later.Later}
use Rattle.lte_properties.proofs.Agreement.World.{Conns, ghost, WorldOk}
use Rattle.lte_properties.proofs.Opening.Nas.{Choices, PhoneOk, CoreOk, SentOk, OutOk, More, phone_more, core_more, sent_more}
use Rattle.lte_properties.proofs.Opening.NasRows.{RowNeeds, CoreRowNeeds, NoAuth, phone_goes, core_goes}
use Rattle.lte_properties.proofs.Opening.Air.{AirOk, FromStation, StationNeeds, FromPhone, PhoneNeeds, air_later, radio_keys, context_keys, station_sends, phone_sends}
use Rattle.lte_machine.proofs.{CipherLaws.AreCiphers, Tests.Anything, Worlds.TheWorld}
use Rattle.lte_machine.proofs.CoreCases.{NasCases, nas_case, RecordCases, record_case, ActCases, act_case}

-- what is known of packets in a world: the NAS keys of core and phone, and how each record that was sent is sealed
pub record PacketsOk (g : Choices) (k : Conns) (w : TheWorld) : Type 0 where
  pub core : CoreOk g (next_root w) w.core
  pub phone : PhoneOk g (next_root w) w.phone
  pub nas : AllOf (SentOk g (next_root w)) w.sent
  pub air : AllOf (AirOk (ghost k w)) w.sent

-- after an event, with the choices of one authentication more
abbrev pub Keeps : Conns → TheWorld → Type 0
Keeps k u = (g : Choices) × PacketsOk g k u

-- the choices with that of one authentication more
abbrev pub chosen_at : Choices → ℕ → Result Algs NoneChosen → Choices
chosen_at g n algs k = if k == n then algs else g k

pub chosen_below : (g : Choices) (n : ℕ) (algs : Result Algs NoneChosen) (k : ℕ) → k < n → g k ≡ chosen_at g n algs k
chosen_below g n algs k low =
    let other : (k == n) ≡ false = grind (arith, nat_tests) in
    ap (λ b. if b then algs else g k) (sym other)

pub chosen_there : (g : Choices) (n : ℕ) (algs : Result Algs NoneChosen) → algs ≡ chosen_at g n algs n
chosen_there g n algs =
    let one : (n == n) ≡ true = grind (arith, nat_tests) in
    ap (λ b. if b then algs else g n) (sym one)

-- the record of a step
out_nas : (g : Choices) (next : ℕ) (o : Option (Outgoing Term ℕ)) → OutOk g next o → OfSome (SentOk g next) o
out_nas g next None h = tt
out_nas g next (Some x) h = h

some_more : (g h : Choices) (next later : ℕ) → More g next h later → (o : Option (Outgoing Term ℕ)) → OfSome (SentOk g next) o → OfSome (SentOk h later) o
some_more g h next later more None k = tt
some_more g h next later more (Some x) k = sent_more g h next later more x k

some_later : (g h : Ghost) → Later g h → (o : Option (Outgoing Term ℕ)) → OfSome (AirOk g) o → OfSome (AirOk h) o
some_later g h l None k = tt
some_later g h l (Some x) k = air_later g h l x k

station_nas : (g : Choices) (next : ℕ) (k : Ghost) (o : Option (Outgoing Term ℕ)) → FromStation k o → OfSome (SentOk g next) o
station_nas g next k (Some (SealedNas dir header u e text)) h = absurd h
station_nas g next k other h = tt

station_air : (k : Ghost) (o : Option (Outgoing Term ℕ)) → FromStation k o → OfSome (AirOk k) o
station_air k (Some (SealedNas dir header u e text)) h = absurd h
station_air k (Some (SealedRrc dir station air srb u e text)) h = h
station_air k (Some (UserPacket dir station air drb e text)) h = h
station_air k other h = tt

phone_air : (same : Term → Term → Bool) (k : Ghost) (o : Option (Outgoing Term ℕ)) → FromPhone same k o → OfSome (AirOk k) o
phone_air same k None h = tt
phone_air same k (Some x) h = h

-- the core sends nothing on the air
abbrev FromCore : Option (Outgoing Term ℕ) → Type 0
FromCore None = ⊤
FromCore (Some (SealedRrc dir station air srb u e text)) = ⊥
FromCore (Some (UserPacket dir station air drb e text)) = ⊥
FromCore (Some x) = ⊤

core_air : (k : Ghost) (o : Option (Outgoing Term ℕ)) → FromCore o → OfSome (AirOk k) o
core_air k (Some (SealedRrc dir station air srb u e text)) h = absurd h
core_air k (Some (UserPacket dir station air drb e text)) h = absurd h
core_air k other h = tt

module _ (same : Term → Term → Bool) where
  abbrev r : Reading Term ℕ
  r = term_reading_by same

  abbrev SendsSo : Core Term ℕ → CoreDone Term ℕ → Type 0
  SendsSo s d = FromCore d.1.sent

  nas_air : (s : Core Term ℕ) → NasCases r Anything SendsSo s
  nas_air s = record {
    nothing = λ t answer. tt;
    closed = λ k. tt;
    completed = λ count p keys k. tt;
    changed = λ count conn next station p keys k. tt;
    asked = λ count c k. tt;
    opened = λ count text c k. tt;
    rejected = λ count c k. tt;
  }

  s1_air : (s : Core Term ℕ) → RecordCases r Anything SendsSo s
  s1_air s = record {
    nothing = λ t answer. tt;
    switched = λ conn station number alarm link k. tt;
    asked = λ conn source attempt cell target caps link k. tt;
    ordered = λ conn source attempt cell ncc algs air k. tt;
    notified = λ station link k. tt;
    cancelled = λ conn source attempt cell target k. tt;
  }

  act_air : (s : Core Term ℕ) → ActCases r Anything SendsSo s
  act_air s = record {
    nothing = λ t answer. tt;
    started = λ ksi algs caps count p k. tt;
    set_up = λ conn cell target caps count c k. tt;
    released = λ conn station k. tt;
    sent = λ count text c k. tt;
    skipped = λ n c k. tt;
  }

  -- any row of the core
  core_sends : (row : CoreRow) (root : Option Term) (s : Core Term ℕ) → FromCore (core_does r row root s).1.sent
  core_sends (core.OfNas row) root s = nas_case r Anything SendsSo s (nas_air s) row tt
  core_sends (core.OfRecord row) root s = record_case r Anything SendsSo s (s1_air s) row tt
  core_sends (core.OfAct row) root s = act_case r Anything SendsSo s (act_air s) row tt
  core_sends (core.OfAuth ksi caps) None s = tt
  core_sends (core.OfAuth ksi caps) (Some root) s = tt

-- THE STEP OF EACH ACTOR

module _ (same : Term → Term → Bool) (sender : Option (Outgoing Term ℕ) → Option (KeyUse Term))
    (opener : Opening Term → List ℕ → Option (Outgoing Term ℕ) → Outcome) (c : Ciphers Term) (good : AreCiphers c)
    (between : Fields → Option (NumberedKey Term ℕ) → List ℕ) (cells : List Site) where
  abbrev q : Reading Term ℕ
  q = term_reading_by same

  abbrev m : Machine Term ℕ (Outgoing Term ℕ)
  m = machine_by same Root (octets_of c between) sender opener

  -- the rows of a step that is no authentication
  roots_after : (w : TheWorld) (ds : List (Derivation Term)) → next_root w ≡ length (filter is_root_row (w.history ++ map Of ds))
  roots_after w ds = sym (roots_kept w.history ds)

  no_more : (g : Choices) (n l : ℕ) → n ≡ l → More g n g l
  no_more g n l e = (le_of_eq e, λ k low. refl)

  phone_after_keeps : (g : Choices) (k d : Conns) (w : TheWorld) (done : PhoneDone Term ℕ) → PacketsOk g k w
      → PhoneOk g (next_root w) done.0 → OutOk g (next_root w) done.1.sent → OfSome (AirOk (ghost k w)) done.1.sent
      → Later (ghost k w) (ghost d (phone_after m w done).0) → Keeps d (phone_after m w done).0
  phone_after_keeps g k d w done h own out air later =
      let u = (phone_after m w done).0 in
      let more = no_more g (next_root w) (next_root u) (roots_after w done.1.derived) in (
        g,
        record {
          core = core_more g g (next_root w) (next_root u) more w.core h.core;
          phone = phone_more g g (next_root w) (next_root u) more done.0 own;
          nas =
              all_one (SentOk g (next_root u)) done.1.sent w.sent
              (all_map (SentOk g (next_root w)) (SentOk g (next_root u))
              (sent_more g g (next_root w) (next_root u) more) w.sent h.nas)
              (some_more g g (next_root w) (next_root u) more done.1.sent (out_nas g (next_root w) done.1.sent out));
          air =
              all_one (AirOk (ghost d u)) done.1.sent w.sent
              (all_map (AirOk (ghost k w)) (AirOk (ghost d u)) (air_later (ghost k w) (ghost d u) later) w.sent h.air)
              (some_later (ghost k w) (ghost d u) later done.1.sent air);
        },
      )

  core_after_keeps : (g : Choices) (k d : Conns) (w : TheWorld) (done : CoreDone Term ℕ) → PacketsOk g k w
      → CoreOk g (next_root w) done.0 → OutOk g (next_root w) done.1.sent → OfSome (AirOk (ghost k w)) done.1.sent
      → Later (ghost k w) (ghost d (core_after m w done).0) → Keeps d (core_after m w done).0
  core_after_keeps g k d w done h own out air later =
      let u = (core_after m w done).0 in
      let more = no_more g (next_root w) (next_root u) (roots_after w done.1.derived) in (
        g,
        record {
          core = core_more g g (next_root w) (next_root u) more done.0 own;
          phone = phone_more g g (next_root w) (next_root u) more w.phone h.phone;
          nas =
              all_one (SentOk g (next_root u)) done.1.sent w.sent
              (all_map (SentOk g (next_root w)) (SentOk g (next_root u))
              (sent_more g g (next_root w) (next_root u) more) w.sent h.nas)
              (some_more g g (next_root w) (next_root u) more done.1.sent (out_nas g (next_root w) done.1.sent out));
          air =
              all_one (AirOk (ghost d u)) done.1.sent w.sent
              (all_map (AirOk (ghost k w)) (AirOk (ghost d u)) (air_later (ghost k w) (ghost d u) later) w.sent h.air)
              (some_later (ghost k w) (ghost d u) later done.1.sent air);
        },
      )

  station_after_keeps : (g : Choices) (k d : Conns) (w : TheWorld) (id : ℕ) (done : Station Term ℕ × Reply Term ℕ) → PacketsOk g k w
      → FromStation (ghost k w) done.1.sent
      → Later (ghost k w) (ghost d (station_after m w id done).0) → Keeps d (station_after m w id done).0
  station_after_keeps g k d w id done h from later =
      let u = (station_after m w id done).0 in
      let more = no_more g (next_root w) (next_root u) (roots_after w done.1.derived) in (
        g,
        record {
          core = core_more g g (next_root w) (next_root u) more w.core h.core;
          phone = phone_more g g (next_root w) (next_root u) more w.phone h.phone;
          nas =
              all_one (SentOk g (next_root u)) done.1.sent w.sent
              (all_map (SentOk g (next_root w)) (SentOk g (next_root u))
              (sent_more g g (next_root w) (next_root u) more) w.sent h.nas)
              (station_nas g (next_root u) (ghost k w) done.1.sent from);
          air =
              all_one (AirOk (ghost d u)) done.1.sent w.sent
              (all_map (AirOk (ghost k w)) (AirOk (ghost d u)) (air_later (ghost k w) (ghost d u) later) w.sent h.air)
              (some_later (ghost k w) (ghost d u) later done.1.sent (station_air (ghost k w) done.1.sent from));
        },
      )

  pub by_world_keeps : (g : Choices) (k d : Conns) (w : TheWorld) (answer : Answer) → PacketsOk g k w
      → Later (ghost k w) (ghost d (by_world m w answer).0) → Keeps d (by_world m w answer).0
  by_world_keeps g k d w answer h later = (
    g,
    record {
      core = h.core;
      phone = h.phone;
      nas = h.nas;
      air = all_map (AirOk (ghost k w)) (AirOk (ghost d (by_world m w answer).0)) (air_later (ghost k w) (ghost d (by_world m w answer).0) later) w.sent h.air;
    },
  )

  -- THE TURN OF EACH ACTOR

  abbrev row_at_phone : TheWorld → PhoneInput Term → Option (Outgoing Term ℕ) → PhoneRow
  row_at_phone w input came =
      phone_row (plain_phone q w.phone) (front_of q w.phone input) (opener (phone_opens q w.phone input) (phone_pdu_in input) came)

  pub phone_turn_keeps : (g : Choices) (k d : Conns) (w : TheWorld) (input : PhoneInput Term)
      (came : Option (Outgoing Term ℕ))
      → WorldOk cells k w
      → PacketsOk g k w
      → RowNeeds same g (next_root w) w.phone (phone_root input) (row_at_phone w input came) → PhoneNeeds same (ghost k w) w.phone (row_at_phone w input came)
      → Later (ghost k w) (ghost d (phone_turn m w input came).0) → Keeps d (phone_turn m w input came).0
  phone_turn_keeps g k d w input came ok h needs sends later =
      let row = row_at_phone w input came in
      let goes = phone_goes same g (next_root w) row (phone_root input) w.phone h.phone needs in
      phone_after_keeps g k d w (phone_step q w.phone input (opener (phone_opens q w.phone input) (phone_pdu_in input) came)) h goes.0 goes.1
      (phone_air same (ghost k w) _ (phone_sends same (ghost k w) row (phone_root input) w.phone (radio_keys (ghost k w) w.phone.radio ok.radio) sends)) later

  abbrev row_at_core : TheWorld → CoreInput Term ℕ → Option (Outgoing Term ℕ) → CoreRow
  row_at_core w input came =
      core_row (plain_core q w.core) (core_front_of q w.core input) (opener (core_opens q w.core input) (core_pdu_in input) came)

  pub core_turn_keeps : (g : Choices) (k d : Conns) (w : TheWorld) (input : CoreInput Term ℕ) (came : Option (Outgoing Term ℕ)) → PacketsOk g k w
      → NoAuth same g (next_root w) (row_at_core w input came) → CoreRowNeeds w.core (row_at_core w input came)
      → Later (ghost k w) (ghost d (core_turn m w input came).0) → Keeps d (core_turn m w input came).0
  core_turn_keeps g k d w input came h other needs later =
      let row = row_at_core w input came in
      let goes = core_goes same g (next_root w) row (core_root input) w.core other h.core needs in
      core_after_keeps g k d w (core_step q w.core input (opener (core_opens q w.core input) (core_pdu_in input) came)) h goes.0 goes.1
      (core_air (ghost k w) _ (core_sends same row (core_root input) w.core)) later

  pub station_turn_keeps : (g : Choices) (k d : Conns) (w : TheWorld) (id : ℕ) (input : StationInput Term ℕ)
      (came : Option (Outgoing Term ℕ)) (s : Station Term ℕ)
      → PacketsOk g k w
      → ((outcome : Outcome) → StationNeeds (station_row_of q s input outcome)) → StationOk cells (ghost k w) s
      → Later (ghost k w) (ghost d (turn_of m w id input came (Some s)).0) → Keeps d (turn_of m w id input came (Some s)).0
  station_turn_keeps g k d w id input came s h needs ok later =
      let outcome = opener (station_opens q s input) (station_pdu_in input) came in
      station_after_keeps g k d w id (station_step q s input outcome) h
      (station_sends same (ghost k w) s (context_keys (ghost k w) s.id s.context ok.context)
      (station_row_of q s input outcome) (station_key input) (needs outcome))
      later
