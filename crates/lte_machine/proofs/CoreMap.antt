-- The core's step in one reading of keys and chain numbers, carried to another, is its step there.
use Rattle.std.proofs.Common.{◌≡◌, ℕ, Bool, refl, ap, sym, ◌∙◌}
use Rattle.std.specs.Prelude.{List, map, Option, Some, None, option_map, Ok}
use Rattle.alg_choice.specs.{Algs.identity_of, Algs.eia2_identity, declared.algs.Algs.Algs, declared.caps.Caps.Caps}
use Rattle.annex_a_keys.specs.Cell.{Place}
use Rattle.lte_events.specs.declared.setups.FirstNcc.{FirstNcc}
use Rattle.lte_events.specs.declared.setups.FirstNcc.TheVariants.{One, Two}
use Rattle.key_model.specs.{Derivation.map_derivation, Reading.Reading, Reading.Carries, Use.map_use}
use Rattle.nas_guard.specs.{Keys.Keys, Keys.map_keys, Seal.is_ciphered}
use Rattle.rec_base.specs.{declared.uses.Dir.TheVariants.Up}
use Rattle.lte_machine.specs.CoreChoice.{CoreFront, Settled, FromNas, NasSettled, OpensComplete, OpensProtected, core_front, core_row}
use Rattle.lte_machine.specs.CoreKeys.{sync_from, number_from, nh_kept, opens_by_procedure, opens_by_context, core_expects, authenticated, smc_started, smc_complete, key_changed, service_asked, nas_opened, sealed_reject, nas_sent, nas_skipped, context_set_up, path_switched, handover_asked, handover_notified, core_does_nas, core_does_record, core_does_act, core_does}
use Rattle.lte_machine.specs.CoreRows.{CoreNasRow, NasRefused, PlainReject, SmcComplete, SmcChange, ServiceAsked, NasOpened, SealedReject, CoreRecordRow, PathSwitched, HandoverAsked, HandoverNotified, CoreActRow, ActRefused, SmcStarted, ContextSetUp, ContextReleased, NasSent, NasSkipped, CoreRow, OfNas, OfRecord, OfAct, OfAuth}
use Rattle.lte_machine.specs.CoreState.{Core, CorePartial, CoreContext, CoreLink, CoreInput, CoreAuth, CoreRecord, map_core_partial, map_core_context, map_core_link, map_core, map_core_input}
use Rattle.lte_machine.specs.CoreStep.{plain_core, plain_core_input, core_front_of, core_root, core_received, core_opens, core_ends, core_step}
use Rattle.lte_machine.specs.Opening.{OpensNas, Outcome, accepted_of}
use Rattle.lte_machine.specs.{Reply.unseen}
use Rattle.lte_machine.specs.Wire.{nas_use, nas_ciphering}
use Rattle.lte_machine.proofs.MapSteps.{map_opening, map_core_done, accepted-map, ciphering_if-map, received-map, read_plain}

module _ {K C L D : Type 0} (r : Reading K C) (q : Reading L D) (f : K → L) (g : C → D) (c : Carries r q f g) where
  -- what the choice sees is the same in both readings

  partial_plain : (o : Option (CorePartial K))
      → option_map (map_core_partial unseen) (option_map (map_core_partial f) o) ≡ option_map (map_core_partial unseen) o
  partial_plain None = refl
  partial_plain (Some p) = refl

  procedure_plain : (o : Option (Keys K)) → option_map (map_keys unseen) (option_map (map_keys f) o) ≡ option_map (map_keys unseen) o
  procedure_plain None = refl
  procedure_plain (Some keys) = refl

  context_plain : (o : Option (CoreContext K))
      → option_map (map_core_context unseen) (option_map (map_core_context f) o) ≡ option_map (map_core_context unseen) o
  context_plain None = refl
  context_plain (Some context) = refl

  link_plain : (o : Option (CoreLink K C))
      → option_map (map_core_link unseen q.ncc) (option_map (map_core_link f g) o)
      ≡ option_map (map_core_link unseen r.ncc) o
  link_plain None = refl
  link_plain (Some link) = rw (c.ncc link.chain.number) refl

  plain_core-map : (s : Core K C)
      → plain_core q (map_core f g s) ≡ plain_core r s
  plain_core-map s = λ j. record (plain_core r s) {
    partial = partial_plain s.partial j;
    procedure = procedure_plain s.procedure j;
    context = context_plain s.context j;
    link = link_plain s.link j;
  }

  plain_core_input-map : (i : CoreInput K C)
      → plain_core_input q (map_core_input f g i) ≡ plain_core_input r i
  plain_core_input-map (CoreRecord read) = ap CoreRecord (read_plain c read)
  plain_core_input-map other = refl

  core_front-map : (s : Core K C) (i : CoreInput K C)
      → core_front_of q (map_core f g s) (map_core_input f g i) ≡ core_front_of r s i
  core_front-map s i = λ j. core_front (plain_core-map s j) (plain_core_input-map i j)

  -- what is opened

  by_procedure-map : (o : Option (Keys K)) (count : ℕ)
      → map_opening f (opens_by_procedure o count) ≡ opens_by_procedure (option_map (map_keys f) o) count
  by_procedure-map None count = refl
  by_procedure-map (Some keys) count = refl

  by_context-map : (o : Option (CoreContext K)) (header count : ℕ)
      → map_opening f (opens_by_context o header count)
      ≡ opens_by_context (option_map (map_core_context f) o) header count
  by_context-map None header count = refl
  by_context-map (Some context) header count =
      λ j. OpensNas (map_use f (nas_use Up context.nas.keys.int count))
      (ciphering_if-map f (is_ciphered header) (nas_ciphering Up context.nas.keys count) j)

  core_expects-map : (front : CoreFront) (s : Core K C)
      → map_opening f (core_expects front s) ≡ core_expects front (map_core f g s)
  core_expects-map (Settled row) s = refl
  core_expects-map (FromNas (NasSettled row)) s = refl
  core_expects-map (FromNas (OpensComplete count)) s = by_procedure-map s.procedure count
  core_expects-map (FromNas (OpensProtected header count)) s = by_context-map s.context header count

  -- what an input opens is carried
  pub core_opens_map : (s : Core K C) (i : CoreInput K C)
      → map_opening f (core_opens r s i) ≡ core_opens q (map_core f g s) (map_core_input f g i)
  core_opens_map s i =
      core_expects-map (core_front_of r s i) s ∙ (λ j. core_expects (sym (core_front-map s i) j) (map_core f g s))

  -- each row

  authenticated-map : (ksi : ℕ) (caps : Caps) (root : Option K) (s : Core K C)
      → map_core_done f g (authenticated ksi caps root s) ≡ authenticated ksi caps (option_map f root) (map_core f g s)
  authenticated-map ksi caps None s = refl
  authenticated-map ksi caps (Some root) s = refl

  smc_started-map : (ksi : ℕ) (algs : Algs) (caps : Caps) (count : ℕ) (partial : Option (CorePartial K)) (s : Core K C)
      → map_core_done f g (smc_started r ksi algs caps count partial s)
      ≡ smc_started q ksi algs caps count (option_map (map_core_partial f) partial) (map_core f g s)
  smc_started-map ksi algs caps count None s = refl
  smc_started-map ksi algs caps count (Some partial) s = rw (c.alg partial.root 1 (identity_of algs.eea), c.alg partial.root 2 eia2_identity) refl

  smc_complete-map : (count : ℕ) (partial : Option (CorePartial K)) (keys : Option (Keys K)) (s : Core K C)
      → map_core_done f g (smc_complete count partial keys s)
      ≡ smc_complete count (option_map (map_core_partial f) partial) (option_map (map_keys f) keys) (map_core f g s)
  smc_complete-map count (Some partial) (Some keys) s = refl
  smc_complete-map count partial keys s = refl

  -- where a chain begins
  sync_from-map : (first_ncc : FirstNcc) (root kenb : K)
      → f (sync_from r first_ncc root kenb) ≡ sync_from q first_ncc (f root) (f kenb)
  sync_from-map One root kenb = refl
  sync_from-map Two root kenb = c.nh root kenb

  number_from-map : (first_ncc : FirstNcc)
      → g (number_from r first_ncc) ≡ number_from q first_ncc
  number_from-map One = c.first
  number_from-map Two = rw (c.plus r.first 1, c.first) refl

  nh_kept-map : (first_ncc : FirstNcc) (root kenb : K)
      → map (map_derivation f) (nh_kept r first_ncc root kenb) ≡ nh_kept q first_ncc (f root) (f kenb)
  nh_kept-map One root kenb = refl
  nh_kept-map Two root kenb = rw (c.nh root kenb) refl

  key_changed-map : (count conn next station : ℕ) (partial : Option (CorePartial K)) (keys : Option (Keys K)) (s : Core K C)
      → map_core_done f g (key_changed r count conn next station partial keys s)
      ≡ key_changed q count conn next station (option_map (map_core_partial f) partial)
      (option_map (map_keys f) keys) (map_core f g s)
  key_changed-map count conn next station None keys s = refl
  key_changed-map count conn next station (Some partial) None s = refl
  key_changed-map count conn next station (Some partial) (Some keys) s =
      let root = partial.root in
      let kenb = r.kenb root count in
      rw (
        sync_from-map s.first_ncc root kenb,
        number_from-map s.first_ncc,
        nh_kept-map s.first_ncc root kenb,
        c.kenb root count,
        sym c.first,
        c.ncc r.first,
      )
      refl

  service_asked-map : (count : ℕ) (context : Option (CoreContext K)) (s : Core K C)
      → map_core_done f g (service_asked count context s)
      ≡ service_asked count (option_map (map_core_context f) context) (map_core f g s)
  service_asked-map count None s = refl
  service_asked-map count (Some context) s = refl

  nas_opened-map : (count : ℕ) (text : List ℕ) (context : Option (CoreContext K)) (s : Core K C)
      → map_core_done f g (nas_opened count text context s)
      ≡ nas_opened count text (option_map (map_core_context f) context) (map_core f g s)
  nas_opened-map count text None s = refl
  nas_opened-map count text (Some context) s = refl

  sealed_reject-map : (count : ℕ) (context : Option (CoreContext K)) (s : Core K C)
      → map_core_done f g (sealed_reject count context s)
      ≡ sealed_reject count (option_map (map_core_context f) context) (map_core f g s)
  sealed_reject-map count None s = refl
  sealed_reject-map count (Some context) s = refl

  nas_sent-map : (count : ℕ) (text : List ℕ) (context : Option (CoreContext K)) (s : Core K C)
      → map_core_done f g (nas_sent count text context s)
      ≡ nas_sent count text (option_map (map_core_context f) context) (map_core f g s)
  nas_sent-map count text None s = refl
  nas_sent-map count text (Some context) s = refl

  nas_skipped-map : (n : ℕ) (context : Option (CoreContext K)) (s : Core K C)
      → map_core_done f g (nas_skipped n context s)
      ≡ nas_skipped n (option_map (map_core_context f) context) (map_core f g s)
  nas_skipped-map n None s = refl
  nas_skipped-map n (Some context) s = refl

  context_set_up-map : (conn : ℕ) (cell : Place) (target : ℕ) (caps : Caps) (count : ℕ) (context : Option (CoreContext K)) (s : Core K C)
      → map_core_done f g (context_set_up r conn cell target caps count context s)
      ≡ context_set_up q conn cell target caps count (option_map (map_core_context f) context) (map_core f g s)
  context_set_up-map conn cell target caps count None s = refl
  context_set_up-map conn cell target caps count (Some context) s =
      let root = context.nas.root in
      let kenb = r.kenb root count in
      rw (
        sync_from-map s.first_ncc root kenb,
        number_from-map s.first_ncc,
        nh_kept-map s.first_ncc root kenb,
        c.kenb root count,
        sym c.first,
        c.ncc r.first,
      )
      refl

  path_switched-map : (conn : ℕ) (station : ℕ) (number : ℕ) (alarm : Bool) (link : Option (CoreLink K C)) (s : Core K C)
      → map_core_done f g (path_switched r conn station number alarm link s)
      ≡ path_switched q conn station number alarm (option_map (map_core_link f g) link) (map_core f g s)
  path_switched-map conn station number alarm None s = refl
  path_switched-map conn station number alarm (Some link) s =
      rw (c.nh link.chain.root link.chain.sync, sym (c.plus link.chain.number 1), c.ncc (r.plus link.chain.number 1)) refl

  handover_asked-map : (conn : ℕ) (source : ℕ) (attempt : ℕ) (cell : Place) (target : ℕ) (caps : Caps)
      (link : Option (CoreLink K C)) (s : Core K C)
      → map_core_done f g (handover_asked r conn source attempt cell target caps link s)
      ≡ handover_asked q conn source attempt cell target caps (option_map (map_core_link f g) link) (map_core f g s)
  handover_asked-map conn source attempt cell target caps None s = refl
  handover_asked-map conn source attempt cell target caps (Some link) s =
      rw (c.nh link.chain.root link.chain.sync, sym (c.plus link.chain.number 1), c.ncc (r.plus link.chain.number 1)) refl

  handover_notified-map : (station : ℕ) (link : Option (CoreLink K C)) (s : Core K C)
      → map_core_done f g (handover_notified station link s)
      ≡ handover_notified station (option_map (map_core_link f g) link) (map_core f g s)
  handover_notified-map station None s = refl
  handover_notified-map station (Some link) s = refl

  core_does_nas-map : (row : CoreNasRow) (s : Core K C)
      → map_core_done f g (core_does_nas r row s) ≡ core_does_nas q row (map_core f g s)
  core_does_nas-map (NasRefused answer) s = refl
  core_does_nas-map PlainReject s = refl
  core_does_nas-map (SmcComplete count) s = smc_complete-map count s.partial s.procedure s
  core_does_nas-map (SmcChange count conn next station) s =
      key_changed-map count conn next station s.partial s.procedure s
  core_does_nas-map (ServiceAsked count) s = service_asked-map count s.context s
  core_does_nas-map (NasOpened count text) s = nas_opened-map count text s.context s
  core_does_nas-map (SealedReject count) s = sealed_reject-map count s.context s

  core_does_record-map : (row : CoreRecordRow) (s : Core K C)
      → map_core_done f g (core_does_record r row s) ≡ core_does_record q row (map_core f g s)
  core_does_record-map (PathSwitched conn station number alarm) s = path_switched-map conn station number alarm s.link s
  core_does_record-map (HandoverAsked conn source attempt cell target caps) s =
      handover_asked-map conn source attempt cell target caps s.link s
  core_does_record-map (HandoverNotified station) s = handover_notified-map station s.link s
  core_does_record-map other s = refl

  core_does_act-map : (row : CoreActRow) (s : Core K C)
      → map_core_done f g (core_does_act r row s) ≡ core_does_act q row (map_core f g s)
  core_does_act-map (ActRefused answer) s = refl
  core_does_act-map (SmcStarted ksi algs caps count) s = smc_started-map ksi algs caps count s.partial s
  core_does_act-map (ContextSetUp conn cell target caps count) s =
      context_set_up-map conn cell target caps count s.context s
  core_does_act-map (ContextReleased conn station) s = refl
  core_does_act-map (NasSent count text) s = nas_sent-map count text s.context s
  core_does_act-map (NasSkipped n) s = nas_skipped-map n s.context s

  core_does-map : (row : CoreRow) (root : Option K) (s : Core K C)
      → map_core_done f g (core_does r row root s) ≡ core_does q row (option_map f root) (map_core f g s)
  core_does-map (OfNas row) root s = core_does_nas-map row s
  core_does-map (OfRecord row) root s = core_does_record-map row s
  core_does-map (OfAct row) root s = core_does_act-map row s
  core_does-map (OfAuth ksi caps) root s = authenticated-map ksi caps root s

  -- the whole step

  core_root-map : (i : CoreInput K C) → option_map f (core_root i) ≡ core_root (map_core_input f g i)
  core_root-map (CoreAuth ksi root caps) = refl
  core_root-map other = refl

  core_received-map : (i : CoreInput K C) → option_map f (core_received i) ≡ core_received (map_core_input f g i)
  core_received-map (CoreRecord (Ok content)) = received-map f g content.key
  core_received-map other = refl

  -- a step is carried, state and reply
  pub core_step_map : (s : Core K C) (i : CoreInput K C) (outcome : Outcome)
      → map_core_done f g (core_step r s i outcome) ≡ core_step q (map_core f g s) (map_core_input f g i) outcome
  core_step_map s i outcome = λ j. core_ends (core_received-map i j) (accepted j) (done j)
    where
      front : core_front_of r s i ≡ core_front_of q (map_core f g s) (map_core_input f g i)
      front = sym (core_front-map s i)

      accepted : option_map (map_use f) (accepted_of (core_opens r s i) outcome) ≡ accepted_of (core_opens q (map_core f g s) (map_core_input f g i)) outcome
      accepted = accepted-map f (core_opens r s i) outcome ∙ (λ j. accepted_of (core_opens_map s i j) outcome)

      done : map_core_done f g (core_does r (core_row (plain_core r s) (core_front_of r s i) outcome) (core_root i) s)
          ≡ core_does q
          (core_row (plain_core q (map_core f g s)) (core_front_of q (map_core f g s) (map_core_input f g i)) outcome)
          (core_root (map_core_input f g i)) (map_core f g s)
      done = core_does-map (core_row (plain_core r s) (core_front_of r s i) outcome) (core_root i) s
          ∙ (λ j. core_does q (core_row (sym (plain_core-map s) j) (front j) outcome) (core_root-map i j) (map_core f g s))
