-- The steps of a command and of a cancel, by the state of the attempt.
use Rattle.std.proofs.Common.{◌≡◌, ℕ, Bool, true, false, List, Some, None, refl, ap, sym, ◌∙◌}
use Rattle.std.specs.Prelude.{Option}
use Rattle.lte_events.specs.declared.answers.Answer.TheVariants.{Done, NotReady, CountSpent, CommandSent}
use Rattle.lte_events.specs.{declared.replies.ActorOut.ActorOut, Reply.reply_of}
use Rattle.s1x2_rec.specs.Fields.{X2Cancel, HandoverCancel}
use Rattle.ho_prep.specs.Prep.{without}
use Rattle.lte_events.specs.declared.acts.StationAct.TheVariants.{Command, Cancel}
use Rattle.lte_machine.specs.{Bearers.is_spent, StationKeys.given_up, StationRecords.to_core, StationRecords.to_station, Calls.sending}
use Rattle.lte_machine.specs.StationState.{Station, Context, Via, OverX2, OverS1, Within, Renewing, Progress, Open, Ready, Commanded, Attempt, StationActs}
use Rattle.enb_context.specs.Orders.{is_open, ordered_by, ordered, commanded_by, cancels_via, cancels_by, cancels_of}
use Rattle.enb_context.specs.declared.attempt.Cancel.{Cancel as GivenUp}
use Rattle.enb_context.specs.declared.attempt.Cancel as cancels
use Rattle.enb_context.specs.Step.{answered, serving, serving_at}

module _ (s : Station (List ℕ) ℕ) (id : ℕ) (c : Context (List ℕ) ℕ) (a : Attempt (List ℕ) ℕ) (e : c.attempt ≡ Some a) where
  command_by : (b : Bool) → is_spent c.bearers.srb1 ≡ b → (p : Progress) → a.progress ≡ p
      → answered (serving_at s id c) (StationActs Command) ≡ commanded_by s id c b (ordered_by a p)
  command_by b h Open g = rw (e, g) refl
  command_by true h (Ready order) g = rw (e, g, h) refl
  command_by false h (Ready order) g = rw (e, g, h) refl
  command_by true h (Commanded order) g = rw (e, g, h) refl
  command_by false h (Commanded order) g = rw (e, g, h) refl

  pub command_is : (b : Bool) → is_spent c.bearers.srb1 ≡ b → answered (serving_at s id c) (StationActs Command) ≡ commanded_by s id c b (ordered a)
  command_is b h = command_by b h a.progress refl

-- the step of a cancel
abbrev pub cancelled_by : Station (List ℕ) ℕ → Context (List ℕ) ℕ → Option GivenUp → Station (List ℕ) ℕ × ActorOut
cancelled_by s c None = (s, reply_of CommandSent)
cancelled_by s c (Some (cancels.TheVariants.OverX2 number station)) =
    (serving s (given_up c), sending (to_station station (X2Cancel c.conn s.id number)))
cancelled_by s c (Some (cancels.TheVariants.OverS1 number cell)) =
    (serving s (given_up c), sending (to_core (HandoverCancel c.conn s.id number cell)))
cancelled_by s c (Some (cancels.TheVariants.Within number)) =
    (record (serving s (given_up c)) { preps = without s.id number s.preps }, reply_of Done)

module _ (s : Station (List ℕ) ℕ) (c : Context (List ℕ) ℕ) (a : Attempt (List ℕ) ℕ) (e : c.attempt ≡ Some a) where
  cancel_by : (via : Via) → a.via ≡ via → (p : Progress) → a.progress ≡ p
      → answered (serving s c) (StationActs Cancel) ≡ cancelled_by (serving s c) c (cancels_by p (cancels_via a via))
  cancel_by via f (Commanded order) g = rw (e, g) refl
  cancel_by OverX2 f other g = rw (e, f, g) refl
  cancel_by OverS1 f other g = rw (e, f, g) refl
  cancel_by Within f other g = rw (e, f, g) refl
  cancel_by Renewing f other g = rw (e, f, g) refl

  pub cancel_is : answered (serving s c) (StationActs Cancel) ≡ cancelled_by (serving s c) c (cancels_of a)
  cancel_is = cancel_by a.via refl a.progress refl

-- the same, as the code returns it
module _ (s : Station (List ℕ) ℕ) (id : ℕ) (c : Context (List ℕ) ℕ) (a : Attempt (List ℕ) ℕ) (has : c.attempt ≡ Some a) where
  unready : (b : Bool) (p : Progress) → is_open p ≡ true → commanded_by s id c b (ordered_by a p) ≡ (serving_at s id c, reply_of NotReady)
  unready true Open e = refl
  unready false Open e = refl
  unready b other e = absurd cc

  uncounted : (p : Progress) → is_open p ≡ false → commanded_by s id c true (ordered_by a p) ≡ (serving_at s id c, reply_of CountSpent)
  uncounted Open e = absurd cc
  uncounted other e = refl

  pub not_ready : (out : ActorOut)
      → is_open a.progress ≡ true
      → out ≡ reply_of NotReady
      → (serving_at s id c, out) ≡ answered (serving_at s id c) (StationActs Command)
  not_ready out waits told =
      ap (λ x. (serving_at s id c, x)) told
      ∙ sym (command_is s id c a has (is_spent c.bearers.srb1) refl ∙ unready (is_spent c.bearers.srb1) a.progress waits)

  pub no_count : (out : ActorOut)
      → is_spent c.bearers.srb1 ≡ true
      → is_open a.progress ≡ false
      → out ≡ reply_of CountSpent
      → (serving_at s id c, out) ≡ answered (serving_at s id c) (StationActs Command)
  no_count out h shut told = ap (λ x. (serving_at s id c, x)) told ∙ sym (command_is s id c a has true h ∙ uncounted a.progress shut)

  pub ordered_so : (done : Station (List ℕ) ℕ × ActorOut)
      → is_spent c.bearers.srb1 ≡ false
      → done ≡ commanded_by s id c false (ordered a)
      → done ≡ answered (serving_at s id c) (StationActs Command)
  ordered_so done h told = told ∙ sym (command_is s id c a has false h)
