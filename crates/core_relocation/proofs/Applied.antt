-- One event of two cores, from what its calls say.
use Rattle.std.proofs.Common.{◌≡◌, ◌≢◌, sym, ap, ◌∙◌, subst, ℕ, List, [], ◌∷◌, ◌++◌, true, Option, Some, None, Result, Ok, Err, option_map}
use Rattle.lte_events.specs.{Ranges.IsEvent, declared.events.Event.Event, declared.inputs.ActorIn.ActorIn, declared.lines.Line.Line, declared.replies.ActorOut.ActorOut}
use Rattle.key_terms.specs.declared.proof.Proof.{Proof}
use Rattle.lte_machine.specs.{BothRuns.written_run, Carried.run_value, Ciphers.annex_b, Run.GoesOn}
use Rattle.s1x2_rec.specs.declared.records.CoreRecord.{CoreRecord}
use Rattle.lte_world.specs.{declared.faults.WorldFault.WorldFault, Replies.RepliedLast}
use Rattle.lte_world.specs.Whole.{Whole, run_of, told_of, turned}
use Rattle.core_relocation.specs.{declared.cores.Held.Held, declared.lines.TwoLine.TwoLine, declared.senders.Sender.Sender}
use Rattle.core_relocation.specs.Holder.{acting, away, fields_of, fields_given, held_after, sent_by, station_in}
use Rattle.core_relocation.specs.Run.{answer_by, answer_in, fields_of_run, next_answer, state_in}
use Rattle.core_relocation.specs.Whole.{TwoWhole, Keeps, StillRuns, state_of, state_written}
use Rattle.core_relocation.proofs.Keeping.{answer_written, keeps_away, keeps_line, line_state}
use Rattle.core_relocation.proofs.HeldByReplies.{held_told}
use Rattle.lte_world.proofs.TellsAsWritten.{not_over, with_line}

-- what is answered by the system is answered in the written run
pub in_written : (v now : TwoWhole)
    → v ≡ now
    → Keeps v
    → (e : Event)
    → IsEvent e
    → StillRuns now
    → answer_in now.cores (state_of now) (run_of now.world) (told_of now.world e) e
    ≡ next_answer now.world.setup now.cores.core_of (state_written now) e
in_written v now view k e is runs = answer_written now (subst Keeps view k) e is runs

-- with room in the system, and who sent the record that the event delivers
module _ (v : TwoWhole) (k : Keeps v) (e : Event) (is : IsEvent e) (reserved : Whole) (same : reserved ≡ record v.world { ready = true })
    (events : List Event) (events_same : events ≡ v.events) (senders : List Sender) (senders_same : senders ≡ v.senders)
    (from : Option ℕ) (from_is : from ≡ station_in senders e) where
  from_same : from ≡ station_in v.senders e
  from_same = from_is ∙ ap (λ s. station_in s e) senders_same

  pub away_keeps : (core : ℕ) → Some core ≡ away v.cores from e → (after : List Event) → after ≡ events ++ e ∷ [] → (sent : List Sender) → sent ≡ senders
      → Keeps (record { world = reserved; cores = v.cores; events = after; senders = sent })
  away_keeps core asks after more sent kept =
      keeps_away v e core (sym (asks ∙ ap (λ o. away v.cores o e) from_same)) reserved same after
      (more ∙ ap (λ es. es ++ e ∷ []) events_same) sent (kept ∙ senders_same) k is

  -- and a line of the system
  module _ (here : None ≡ away v.cores from e) (line : Line) (told : Ok line ≡ told_of reserved e) (w : Whole)
      (turns : run_of w ≡ turned reserved e) (set : w.setup ≡ reserved.setup)
      (longer : w.journal ≡ reserved.journal ++ e ∷ [])
      (core : ℕ) (core_is : core ≡ acting v.cores from) (replies : List (ActorIn × ActorOut)) (last : w.over ≡ None → RepliedLast w.setup w.journal replies)
      (came : Option CoreRecord) (came_is : option_map fields_of came ≡ fields_given replies) (held : Held)
      (held_is : held ≡ held_after v.cores core e (option_map fields_of came) line)
      (after : List Event) (more : after ≡ events ++ e ∷ []) (sent : List Sender) (grown : sent ≡ senders ++ sent_by line.who line.sent) where
    here_is : away v.cores (station_in v.senders e) e ≡ None
    here_is = sym (here ∙ ap (λ o. away v.cores o e) from_same)

    told_is : told_of v.world e ≡ Ok line
    told_is = sym (told ∙ ap (λ u. told_of u e) same)

    goes : GoesOn (run_of v.world) × GoesOn (turned v.world e)
    goes = with_line v.world e line told_is

    set_is : w.setup ≡ v.world.setup
    set_is = set ∙ ap (λ u. u.setup) same

    longer_is : w.journal ≡ v.world.journal ++ e ∷ []
    longer_is = longer ∙ ap (λ u. u.journal ++ e ∷ []) same

    still : GoesOn (run_of w)
    still = subst GoesOn (sym (turns ∙ ap (λ u. turned u e) same)) goes.1

    replied : RepliedLast w.setup w.journal replies
    replied = last (not_over w still)

    held_same : held ≡ held_after v.cores (acting v.cores (station_in v.senders e)) e (fields_of_run (run_of v.world) e) line
    held_same =
        held_is ∙ ap (λ f. held_after v.cores core e f line) came_is
        ∙ held_told v.cores core v.world w e replies line goes.0 set_is longer_is replied
        ∙ ap (λ n. held_after v.cores n e (fields_of_run (run_of v.world) e) line) (core_is ∙ ap (acting v.cores) from_same)

    after_is : after ≡ v.events ++ e ∷ []
    after_is = more ∙ ap (λ es. es ++ e ∷ []) events_same

    sent_is : sent ≡ v.senders ++ sent_by line.who line.sent
    sent_is = grown ∙ ap (λ s. s ++ sent_by line.who line.sent) senders_same

    abbrev new : TwoWhole
    new = record { world = w; cores = record v.cores { held = held }; events = after; senders = sent }

    pub line_keeps : run_of w ≡ run_value annex_b (written_run w.setup w.journal) → Keeps new
    line_keeps written = keeps_line v e here_is line told_is w set_is longer_is held held_same after after_is sent sent_is written k is

    pub line_in : (now : TwoWhole) → v ≡ now → state_of new ≡ state_in now.cores (state_of now) (run_of now.world) (told_of now.world e) e
    line_in now view =
        subst (λ (u : TwoWhole). state_of new ≡ state_in u.cores (state_of u) (run_of u.world) (told_of u.world e) e) view
        (line_state v e here_is line told_is w set_is longer_is held held_same after after_is sent sent_is)

    pub line_runs : StillRuns new
    line_runs = still

-- A COINCIDENCE

-- what is answered with a coincidence is what the system tells
pub coincidence_told : (o : Option ℕ) (acts step : ℕ) (told : Result Line WorldFault)
    (fault : WorldFault) (proof : Proof)
    → fault ≡ WorldFault.Chance proof
    → (◌≢◌ {A = Result TwoLine WorldFault} (Err fault) (Err WorldFault.Memory) → Err fault ≡ answer_by o acts step told)
    → Err (WorldFault.Chance proof) ≡ told
coincidence_told o acts step told fault proof is says =
    by o told (sym (ap Err is)
    ∙ says (λ e. let no : WorldFault.Chance proof ≡ WorldFault.Memory = sym is ∙ same_err e in cc))
  where
    same_err : ◌≡◌ {A = Result TwoLine WorldFault} (Err fault) (Err WorldFault.Memory) → fault ≡ WorldFault.Memory
    same_err e = cc

    by : (o : Option ℕ) (told : Result Line WorldFault)
        → Err (WorldFault.Chance proof) ≡ answer_by o acts step told
        → Err (WorldFault.Chance proof) ≡ told
    by (Some core) told e = cc
    by None (Ok line) e = cc
    by None (Err f) e = let one : WorldFault.Chance proof ≡ f = cc in ap Err one
