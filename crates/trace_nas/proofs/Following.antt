-- Contexts follow each other along a history.
use Rattle.std.proofs.Common.{◌≡◌, ℕ, Bool, true, false, Option, None, Some, List, ◌⊎◌, inl, inr, refl, sym, ap, subst, ◌∙◌}
use Rattle.std.specs.Prelude.{◌&&◌, not, nat_le, nat_lt, if◌then◌else◌}
use Rattle.rec_base.specs.declared.uses.Dir.{Dir}
use Rattle.rec_base.specs.declared.uses.Dir.TheVariants.{Up, Down}
use Rattle.trace_rules.specs.{Rules.Done, Rules.is_unseen, History.History, History.ends, History.unseen, History.shown}
use Rattle.nas_count.specs.Estimate.{nas_count_limit}
use Rattle.trace_nas.specs.Nas.{Context, Role, IsCommand, IsComplete, IsOther, Sealed, NasSight, Sent, Heard, NasNet, NasMove, Command, Complete, Reject, Send, sends, protects, completed, rejected, sent_under, moved}
use Rattle.trace_nas.specs.InTurn.{UnderAt, IsUnder, ContextsFollow, ChangesSeen}
use Rattle.trace_nas.proofs.Raising.{clash, nothing, one_done}

-- what a step does to contexts
abbrev GoesBy : NasNet → Role → Context → NasNet → Type 0
GoesBy before IsCommand context end = (end.using ≡ before.using) × (end.offered ≡ Some context)
GoesBy before IsComplete context end = (before.offered ≡ Some context) × (end.using ≡ Some context) × (end.offered ≡ None)
GoesBy before IsOther context end = (before.using ≡ Some context) × (end.using ≡ before.using) × (end.offered ≡ before.offered)

abbrev Goes : NasNet → Option NasSight → NasNet → Type 0
Goes before None end = (end.using ≡ before.using) × (end.offered ≡ None)
Goes before (Some (Heard heard)) end = ⊥
Goes before (Some (Sent sealed)) end = GoesBy before sealed.role sealed.context end

abbrev StepIs : NasNet → Option (Done NasNet NasSight) → Type 0
StepIs before None = Unit {0}
StepIs before (Some done) = Goes before done.sent done.net

step_if : (net : NasNet) (b : Bool) (done : Done NasNet NasSight) → Goes net done.sent done.net → StepIs net (if b then Some done else None)
step_if net true done h = h
step_if net false done h = tt

protects_is : (net : NasNet) (dir : Dir) (role : Role) (context : Context) (count : ℕ) (using offered : Option Context)
    → Goes net (sends net dir role context count using offered).sent (sends net dir role context count using offered).net
    → StepIs net (protects net dir role context count using offered)
protects_is net dir role context count using offered goes =
    step_if net (nat_le (net.next dir context.kasme) count && nat_lt count nas_count_limit) (sends net dir role context count using offered) goes

completed_is : (net : NasNet) (offered : Option Context) (count : ℕ) → net.offered ≡ offered → StepIs net (completed net offered count)
completed_is net None count e = tt
completed_is net (Some context) count e = protects_is net Up IsComplete context count (Some context) None (e, refl, refl)

rejected_is : (net : NasNet) (offered : Option Context) → StepIs net (rejected net offered)
rejected_is net None = tt
rejected_is net (Some context) = (refl, refl)

sent_is : (net : NasNet) (using : Option Context) (dir : Dir) (count : ℕ) → net.using ≡ using → StepIs net (sent_under net using dir count)
sent_is net None dir count e = tt
sent_is net (Some context) dir count e = protects_is net dir IsOther context count net.using net.offered (e, refl, refl)

moved_is : (net : NasNet) (move : NasMove) → StepIs net (moved net move)
moved_is net (Command context count) = protects_is net Down IsCommand context count net.using (Some context) (refl, refl)
moved_is net (Complete count) = completed_is net net.offered count refl
moved_is net Reject = rejected_is net net.offered
moved_is net (Send dir count) = sent_is net net.using dir count refl

goes_by : (before : NasNet) (o : Option (Done NasNet NasSight)) (end : NasNet) (sent : Option NasSight)
    → o ≡ Some (record { net = end; sent = sent })
    → StepIs before o
    → Goes before sent end
goes_by before None end sent e k = nothing (record { net = end; sent = sent }) e
goes_by before (Some done) end sent e k =
    subst (λ d. Goes before d.sent d.net) (one_done done (record { net = end; sent = sent }) e) k

-- the contexts of a net are these; what was offered may have been refused
abbrev Stands : Option Context → Option Context → NasNet → Type 0
Stands using offered net = (net.using ≡ using) × ((net.offered ≡ None) ⊎ (net.offered ≡ offered))

module _ (fits : NasSight → NasSight → Bool) (covers : NasSight → Bool) (seen : ChangesSeen covers) where
  must_show : (P : Type 0) (sealed : Sealed) (role : Role) → sealed.role ≡ role → (role ≡ IsOther → ⊥) → not (covers (Sent sealed)) ≡ true → P
  must_show P sealed role e differ hid = clash (sym (ap not (seen sealed (λ other. differ (sym e ∙ other)))) ∙ hid)

  dark_by : (using offered : Option Context) (net end : NasNet) (sealed : Sealed) (role : Role)
      → sealed.role ≡ role
      → Stands using offered net
      → GoesBy net role sealed.context end
      → not (covers (Sent sealed)) ≡ true
      → Stands using offered end
  dark_by using offered net end sealed IsCommand e k goes hid = must_show (Stands using offered end) sealed IsCommand e no hid
    where
      no : IsCommand ≡ IsOther → ⊥
      no e = cc
  dark_by using offered net end sealed IsComplete e k goes hid = must_show (Stands using offered end) sealed IsComplete e no hid
    where
      no : IsComplete ≡ IsOther → ⊥
      no e = cc
  dark_by using offered net end sealed IsOther e k goes hid = (goes.1 ∙ k.0, either k.1)
    where
      either : (net.offered ≡ None) ⊎ (net.offered ≡ offered) → (end.offered ≡ None) ⊎ (end.offered ≡ offered)
      either (inl none) = inl (goes.2 ∙ none)
      either (inr same) = inr (goes.2 ∙ same)

  dark : (using offered : Option Context) (net end : NasNet) (sent : Option NasSight)
      → Stands using offered net
      → Goes net sent end
      → is_unseen covers sent ≡ true
      → Stands using offered end
  dark using offered net end None k goes hid = (goes.0 ∙ k.0, inl goes.1)
  dark using offered net end (Some (Heard heard)) k goes hid = absurd goes
  dark using offered net end (Some (Sent sealed)) k goes hid = dark_by using offered net end sealed sealed.role refl k goes hid

  abbrev GoesOn : NasNet → List NasSight → Type 0
  GoesOn end rest = (next new : Option Context) → Stands next new end → ContextsFollow fits next new rest

  under_by : (using offered : Option Context) (net end : NasNet) (role : Role) (context : Context) (rest : List NasSight)
      → Stands using offered net
      → GoesBy net role context end
      → GoesOn end rest
      → UnderAt using offered role context (λ next new. ContextsFollow fits next new rest)
  under_by using offered net end IsCommand context rest k goes go = go using (Some context) (goes.0 ∙ k.0, inr goes.1)
  under_by using offered net end IsComplete context rest k goes go = (offered_is k.1, go (Some context) None (goes.1, inl goes.2))
    where
      offered_is : (net.offered ≡ None) ⊎ (net.offered ≡ offered) → offered ≡ Some context
      offered_is (inl none) = nothing context (sym none ∙ goes.0)
      offered_is (inr same) = sym same ∙ goes.0
  under_by using offered net end IsOther context rest k goes go = (sym k.0 ∙ goes.0, go using offered (goes.1 ∙ k.0, either k.1))
    where
      either : (net.offered ≡ None) ⊎ (net.offered ≡ offered) → (end.offered ≡ None) ⊎ (end.offered ≡ offered)
      either (inl none) = inl (goes.2 ∙ none)
      either (inr same) = inr (goes.2 ∙ same)

  shown_by : (using offered : Option Context) (net end : NasNet) (sent sight : NasSight) (rest : List NasSight)
      → Stands using offered net
      → Goes net (Some sent) end
      → fits sent sight ≡ true
      → GoesOn end rest
      → IsUnder fits using offered sight (λ next new. ContextsFollow fits next new rest)
  shown_by using offered net end (Heard heard) sight rest k goes fit go = absurd goes
  shown_by using offered net end (Sent sealed) sight rest k goes fit go = record {
    sealed = sealed;
    fit = fit;
    under = under_by using offered net end sealed.role sealed.context rest k goes go;
  }

  pub follows : (bound left : ℕ) (net : NasNet) (moves : List NasMove) (capture : List NasSight) (using offered : Option Context)
      → Stands using offered net
      → History moved fits covers bound left net moves capture
      → ContextsFollow fits using offered capture
  follows bound left net moves capture using offered k (ends) = tt
  follows bound left net moves capture using offered k (unseen {left = l} {end = end} {sent = sent} {moves = ms} move done hid more) =
      let goes = goes_by net (moved net move) end sent done (moved_is net move) in
      follows bound l end ms capture using offered (dark using offered net end sent k goes hid) more
  follows bound left net moves capture using offered k (shown {end = end} {sent = sent} {sight = sight} {moves = ms} {capture = rest} move done fit cov more) =
      let goes = goes_by net (moved net move) end (Some sent) done (moved_is net move) in
      shown_by using offered net end sent sight rest k goes fit
      (λ next new stands. follows bound bound end ms rest next new stands more)
