-- The eleven events one after the other.
use Rattle.std.proofs.Common.{◌≡◌, ℕ, ◌+◌, ◌<◌, ◌≤◌, Bool, List, [], Option, Some, None, Ok, refl, ap, sym, subst, ◌∙◌, arith, negsuc}
use Rattle.annex_a_keys.specs.Cell.{Place}
use Rattle.alg_choice.specs.{Choice.choice_of, Choice.are_supported, declared.caps.Caps.Caps}
use Rattle.rec_base.specs.declared.uses.Dir.TheVariants.{Up, Down}
use Rattle.lte_events.specs.{declared.acts.CoreAct.CoreAct, declared.events.Event.Event, Site.station_of}
use Rattle.key_model.specs.{HandoverTable.NumberedKey, Term.Term, Reading.Reading, Reading.term_reading_by}
use Rattle.nas_rec.specs.declared.records.NasRecord.TheVariants.{SecurityModeCommand, SecurityModeComplete}
use Rattle.nas_rec.specs.{Reading.read_nas, Spelling.spelling_of as nas_spelling}
use Rattle.nas_rec.proofs.Laws.{spelled_is_read as nas_is_read}
use Rattle.s1x2_rec.specs.Fields.{Fields}
use Rattle.lte_machine.specs.Wire.{KeyUse, nas_use, nas_ciphering, Outgoing}
use Rattle.lte_machine.specs.Ciphers.{Ciphers, octets_of, nas_octets}
use Rattle.lte_machine.specs.{Opening.Opening, Opening.Outcome, PhoneState.nas_keys_of, PhoneKeys.context_of, PhoneKeys.complete_of, CoreState.Core, CoreState.CoreActs, CoreKeys.smc_command, CoreKeys.new_context, CoreStep.core_opens, Machines.machine_by, Run.run}
use Rattle.lte_machine.specs.World.{Machine, happens, delivery, record_at, auth_unless, next_root, station_of_id}
use Rattle.lte_machine.proofs.CipherLaws.{AreCiphers}
use Rattle.lte_properties.proofs.Opening.Counts.{estimated, nas_parts, header_down, header_up}
use Rattle.lte_properties.proofs.Opening.Opens.{OpensBack}
use Rattle.lte_recovery.specs.Reconnection.{TheWorld, newest, CanReconnect}
use Rattle.lte_recovery.specs.Renewal.{restart, CanRestart, RecoversAnew}
use Rattle.lte_recovery.proofs.SevenEvents.{sent_newest, recovers}
use Rattle.lte_recovery.proofs.SecurityMode.{partial_of, core_commands, phone_takes_context, core_takes_context}

module _ (same : Term → Term → Bool) (root : ℕ → List ℕ → Term)
    (sender : Option (Outgoing Term ℕ) → Option (KeyUse Term))
    (opener : Opening Term → List ℕ → Option (Outgoing Term ℕ) → Outcome) (c : Ciphers Term) (good : AreCiphers c)
    (back : OpensBack c opener) (between : Fields → Option (NumberedKey Term ℕ) → List ℕ) where
  abbrev m : Machine Term ℕ (Outgoing Term ℕ)
  m = machine_by same root (octets_of c between) sender opener

  abbrev r : Reading Term ℕ
  r = term_reading_by same

  abbrev after : TheWorld → Event → TheWorld
  after w e = (happens m w e).0

  abbrev core_alone : TheWorld → CoreAct → Outcome
  core_alone w act = opener (core_opens r w.core (CoreActs act)) [] None

  module _ (w : TheWorld) (cell : Place) (ksi : ℕ) (octets : List ℕ) (h : CanRestart m w cell ksi octets) where
    abbrev kasme : Term
    kasme = m.root (next_root w) octets

    abbrev caps : Caps
    caps = w.phone.caps

    -- 1: both were authenticated
    record IsKnown (u : TheWorld) : Type 0 where
      phone_caps : u.phone.caps ≡ caps
      partial : u.phone.partial ≡ Some (record { ksi = ksi; root = kasme })
      core_partial : u.core.partial ≡ Some (partial_of same ksi kasme caps 0)
      procedure : u.core.procedure ≡ None
      priority : u.core.priority ≡ w.core.priority
      cells : u.core.cells ≡ w.core.cells
      next : u.core.next ≡ w.core.next
      stations : u.stations ≡ w.stations

    known : IsKnown (after w (Event.Auth ksi octets caps))
    known =
        subst (λ o. IsKnown (auth_unless m w ksi kasme caps o).0) (sym h.fresh)
        (record { phone_caps = refl; partial = refl; core_partial = refl; procedure = refl; priority = refl; cells = refl; next = refl; stations = refl })

    -- 2: the core started a Security Mode
    abbrev command_sent : Outgoing Term ℕ
    command_sent = smc_command (nas_keys_of r kasme h.nas_algs).int 0 ksi h.nas_algs caps

    record IsCommanded (u : TheWorld) : Type 0 where
      phone_caps : u.phone.caps ≡ caps
      partial : u.phone.partial ≡ Some (record { ksi = ksi; root = kasme })
      core_partial : u.core.partial ≡ Some (partial_of same ksi kasme caps 1)
      procedure : u.core.procedure ≡ Some (nas_keys_of r kasme h.nas_algs)
      cells : u.core.cells ≡ w.core.cells
      next : u.core.next ≡ w.core.next
      stations : u.stations ≡ w.stations
      sent : record_at (negsuc 0) u.sent ≡ Some command_sent

    commands : (u : TheWorld) → IsKnown u → IsCommanded (after u (Event.Core CoreAct.StartSmc))
    commands u k =
        let g = core_commands same u.core ksi kasme caps h.nas_algs (core_alone u CoreAct.StartSmc) k.core_partial k.procedure
        (ap (λ p. choice_of p caps) k.priority ∙ h.nas_chosen) in
        record {
          phone_caps = k.phone_caps;
          partial = k.partial;
          core_partial = ap (λ (s : Core Term ℕ). s.partial) g.0;
          procedure = ap (λ (s : Core Term ℕ). s.procedure) g.0;
          cells = ap (λ (s : Core Term ℕ). s.cells) g.0 ∙ k.cells;
          next = ap (λ (s : Core Term ℕ). s.next) g.0 ∙ k.next;
          stations = k.stations;
          sent = sent_newest _ u.sent command_sent g.1;
        }

    -- 3: the phone uses the new context
    record IsAnswered (u : TheWorld) : Type 0 where
      phone_caps : u.phone.caps ≡ caps
      context : u.phone.context ≡ Some (context_of r h.nas_algs 0 kasme)
      core_partial : u.core.partial ≡ Some (partial_of same ksi kasme caps 1)
      procedure : u.core.procedure ≡ Some (nas_keys_of r kasme h.nas_algs)
      cells : u.core.cells ≡ w.core.cells
      next : u.core.next ≡ w.core.next
      stations : u.stations ≡ w.stations
      sent : record_at (negsuc 0) u.sent ≡ Some (complete_of r h.nas_algs kasme)

    answers : (u : TheWorld) → IsCommanded u → IsAnswered (after u newest)
    answers u k =
        let under = nas_use Down (nas_keys_of r kasme h.nas_algs).int 0 in
        let text = nas_spelling (SecurityModeCommand ksi h.nas_algs caps) in
        let pdu = nas_octets c 3 under None text in
        let (first, sn, rest, long) = nas_parts c good 3 under None text in
        let g = phone_takes_context same opener pdu (Some command_sent) text u.phone ksi kasme h.nas_algs k.partial
        (header_down pdu 55 long first refl)
        (estimated 0 _ 0 (omega arith, omega arith) sn (omega arith))
        (ap read_nas rest ∙ nas_is_read (SecurityModeCommand ksi h.nas_algs caps) h.key_set
        ∙ ap (λ x. Ok (SecurityModeCommand ksi h.nas_algs x)) (sym k.phone_caps))
        (ap (λ x. are_supported x h.nas_algs) k.phone_caps ∙ h.nas_supported)
        (back.nas under None pdu Down 3 text) in
        subst (λ o. IsAnswered (delivery m u o).0) (sym k.sent)
        (record {
          phone_caps = g.caps ∙ k.phone_caps;
          context = g.context;
          core_partial = k.core_partial;
          procedure = k.procedure;
          cells = k.cells;
          next = k.next;
          stations = k.stations;
          sent = sent_newest _ u.sent (complete_of r h.nas_algs kasme) g.sent;
        })

    -- 4: and so does the core
    record IsRenewed (u : TheWorld) : Type 0 where
      phone_caps : u.phone.caps ≡ caps
      context : u.phone.context ≡ Some (context_of r h.nas_algs 0 kasme)
      core_context : u.core.context ≡ Some (new_context (partial_of same ksi kasme caps 1) (nas_keys_of r kasme h.nas_algs) 0)
      cells : u.core.cells ≡ w.core.cells
      not_less : w.core.next ≤ u.core.next
      one_more : u.core.next ≤ w.core.next + 1
      stations : u.stations ≡ w.stations

    hears : (u : TheWorld) → IsAnswered u → IsRenewed (after u newest)
    hears u k =
        let keys = nas_keys_of r kasme h.nas_algs in
        let under = nas_use Up keys.int 0 in
        let e = Some (nas_ciphering Up keys 0) in
        let text = nas_spelling SecurityModeComplete in
        let x = complete_of r h.nas_algs kasme in
        let pdu = nas_octets c 4 under e text in
        let (first, sn, _, long) = nas_parts c good 4 under e text in
        let some : w.core.next + 1 < 4294967296 = h.numbers in
        let low : u.core.next < 4294967296 = subst (λ n. n < 4294967296) (sym k.next) (omega arith) in
        let g = core_takes_context same opener pdu (Some x) text u.core ksi kasme h.nas_algs caps k.core_partial k.procedure low
        (header_up pdu 71 long first refl) long
        (estimated 0 _ 0 (omega arith, omega arith) sn (omega arith))
        (back.nas under e pdu Up 4 text)
        (nas_is_read SecurityModeComplete tt) in
        subst (λ o. IsRenewed (delivery m u o).0) (sym k.sent)
        (record {
          phone_caps = k.phone_caps;
          context = k.context;
          core_context = g.context;
          cells = g.cells ∙ k.cells;
          not_less = subst (λ n. n ≤ (delivery m u (Some x)).0.core.next) k.next g.not_less;
          one_more = subst (λ n. (delivery m u (Some x)).0.core.next ≤ n + 1) k.next g.one_more;
          stations = k.stations;
        })

    -- then a reconnection is there to be had
    can : (u : TheWorld) → IsRenewed u → CanReconnect u cell
    can u k =
        let newer : h.station.last < w.core.next = h.newer in
        let some : w.core.next + 1 < 4294967296 = h.numbers in
        let up : w.core.next ≤ u.core.next = k.not_less in
        let most : u.core.next ≤ w.core.next + 1 = k.one_more in
        record {
          phone = context_of r h.nas_algs 0 kasme;
          core = new_context (partial_of same ksi kasme caps 1) (nas_keys_of r kasme h.nas_algs) 0;
          at_phone = k.context;
          at_core = k.core_context;
          root = refl;
          keys = refl;
          window = (omega arith, omega arith);
          left = omega arith;
          station = h.station;
          there = ap (station_of_id h.station.id) k.stations ∙ h.there;
          serves = ap (station_of cell) k.cells ∙ h.serves;
          own = h.own;
          few = h.few;
          numbers = omega arith;
          newer = omega arith;
          draws = h.draws;
          from_one = h.from_one;
          algs = h.algs;
          chosen = h.chosen;
          supported = ap (λ x. are_supported x h.algs) k.phone_caps ∙ h.supported;
        }

    -- THE ELEVEN EVENTS
    pub recovers_anew : RecoversAnew m w cell ksi octets h (run m w (restart w cell ksi octets))
    unfolding can
    recovers_anew =
        let u1 = after w (Event.Auth ksi octets caps) in
        let u2 = after u1 (Event.Core CoreAct.StartSmc) in
        let u3 = after u2 newest in
        let u4 = after u3 newest in
        let k = hears u3 (answers u2 (commands u1 known)) in
        (u4.core.next, recovers same root sender opener c good back between u4 cell (can u4 k))
