-- COUNTs go up along a history.
use Rattle.std.proofs.Common.{◌≡◌, ℕ, ◌+◌, ◌≤◌, Bool, true, false, Option, None, Some, List, refl, sym, subst, arith}
use Rattle.std.specs.Prelude.{◌&&◌, nat_eq, nat_le, nat_lt, if◌then◌else◌}
use Rattle.std.proofs.lemmas.{Bool.leb-true, Bool.Decides.Decides-eqb}
use Rattle.rec_base.specs.declared.uses.Dir.{Dir}
use Rattle.rec_base.specs.declared.uses.Dir.TheVariants.{Up, Down}
use Rattle.trace_rules.specs.{Rules.Done, History.History, History.ends, History.unseen, History.shown}
use Rattle.nas_count.specs.Estimate.{nas_count_limit}
use Rattle.trace_nas.specs.Nas.{Context, Role, IsCommand, IsComplete, IsOther, NasSight, Sent, Heard, Counts, NasNet, NasMove, Command, Complete, Reject, Send, same_dir, used, sends, protects, completed, rejected, sent_under, moved}
use Rattle.trace_nas.specs.InTurn.{IsRaised, CountsRise}

pub clash : {P : Type 0} → false ≡ true → P
clash e = let no : ⊥ = cc in absurd no

pub nothing : {X P : Type 0} (x : X) → None ≡ Some x → P
nothing x e = let no : ⊥ = cc in absurd no

parts : (a b : Bool) → (a && b) ≡ true → (a ≡ true) × (b ≡ true)
parts true b e = (refl, e)
parts false b e = clash e

one_dir : (a b : Dir) → same_dir a b ≡ true → a ≡ b
one_dir Up Up e = refl
one_dir Down Down e = refl
one_dir Up Down e = clash e
one_dir Down Up e = clash e

-- each COUNT there is not above that one
abbrev pub Below : Counts → Counts → Type 0
Below low high = (d : Dir) (k : ℕ) → low d k ≤ high d k

used_above : (next : Counts) (dir : Dir) (kasme count : ℕ) → next dir kasme ≤ count → Below next (used next dir kasme count)
used_above next dir kasme count fresh d k = by_case (same_dir d dir && nat_eq k kasme) refl
  where
    by_case : (b : Bool) → (same_dir d dir && nat_eq k kasme) ≡ b → next d k ≤ (if b then count + 1 else next d k)
    by_case false e = omega arith
    by_case true e =
        let p = parts (same_dir d dir) (nat_eq k kasme) e in
        let it : next d kasme ≤ count = subst (λ x. next x kasme ≤ count) (sym (one_dir d dir p.0)) fresh in
        let here : next d k ≤ count = subst (λ y. next d y ≤ count) (sym ((Decides-eqb k kasme).0 p.1)) it in
        omega (arith, here)

used_both : (low high : Counts) (dir : Dir) (kasme count : ℕ) → Below low high → Below (used low dir kasme count) (used high dir kasme count)
used_both low high dir kasme count below d k = by_case (same_dir d dir && nat_eq k kasme)
  where
    by_case : (b : Bool) → (if b then count + 1 else low d k) ≤ (if b then count + 1 else high d k)
    by_case true = omega arith
    by_case false = below d k

-- what a step does to COUNTs
abbrev Raises : NasNet → Option NasSight → NasNet → Type 0
Raises before None end = Below before.next end.next
Raises before (Some (Heard heard)) end = ⊥
Raises before (Some (Sent sealed)) end =
    (before.next sealed.dir sealed.context.kasme ≤ sealed.count)
    × (end.next ≡ used before.next sealed.dir sealed.context.kasme sealed.count)

abbrev StepIs : NasNet → Option (Done NasNet NasSight) → Type 0
StepIs before None = Unit {0}
StepIs before (Some done) = Raises before done.sent done.net

step_if : (net : NasNet) (b : Bool) (done : Done NasNet NasSight)
    → (b ≡ true → Raises net done.sent done.net)
    → StepIs net (if b then Some done else None)
step_if net true done h = h refl
step_if net false done h = tt

protects_is : (net : NasNet) (dir : Dir) (role : Role) (context : Context) (count : ℕ) (using offered : Option Context)
    → StepIs net (protects net dir role context count using offered)
protects_is net dir role context count using offered =
    step_if net (nat_le (net.next dir context.kasme) count && nat_lt count nas_count_limit) (sends net dir role context count using offered)
    (λ e. (leb-true (net.next dir context.kasme) count (parts (nat_le (net.next dir context.kasme) count) (nat_lt count nas_count_limit) e).0, refl))

completed_is : (net : NasNet) (offered : Option Context) (count : ℕ) → StepIs net (completed net offered count)
completed_is net None count = tt
completed_is net (Some context) count = protects_is net Up IsComplete context count (Some context) None

rejected_is : (net : NasNet) (offered : Option Context) → StepIs net (rejected net offered)
rejected_is net None = tt
rejected_is net (Some context) = λ d k. omega arith

sent_is : (net : NasNet) (using : Option Context) (dir : Dir) (count : ℕ) → StepIs net (sent_under net using dir count)
sent_is net None dir count = tt
sent_is net (Some context) dir count = protects_is net dir IsOther context count net.using net.offered

moved_is : (net : NasNet) (move : NasMove) → StepIs net (moved net move)
moved_is net (Command context count) = protects_is net Down IsCommand context count net.using (Some context)
moved_is net (Complete count) = completed_is net net.offered count
moved_is net Reject = rejected_is net net.offered
moved_is net (Send dir count) = sent_is net net.using dir count

pub one_done : (a b : Done NasNet NasSight) → Some a ≡ Some b → a ≡ b
one_done a b e = cc

raises_by : (before : NasNet) (o : Option (Done NasNet NasSight)) (end : NasNet) (sent : Option NasSight)
    → o ≡ Some (record { net = end; sent = sent })
    → StepIs before o
    → Raises before sent end
raises_by before None end sent e k = nothing (record { net = end; sent = sent }) e
raises_by before (Some done) end sent e k =
    subst (λ d. Raises before d.sent d.net) (one_done done (record { net = end; sent = sent }) e) k

raised : (before : NasNet) (sent : Option NasSight) (end : NasNet) → Raises before sent end → Below before.next end.next
raised before None end k = k
raised before (Some (Heard heard)) end k = absurd k
raised before (Some (Sent sealed)) end k =
    subst (λ next. Below before.next next) (sym k.1) (used_above before.next sealed.dir sealed.context.kasme sealed.count k.0)

module _ (fits : NasSight → NasSight → Bool) (covers : NasSight → Bool) where
  shown_by : (net end : NasNet) (sent sight : NasSight) (rest : List NasSight) (low : Counts)
      → Below low net.next
      → Raises net (Some sent) end
      → fits sent sight ≡ true
      → ((next : Counts) → Below next end.next → CountsRise fits next rest)
      → IsRaised fits low sight (λ next. CountsRise fits next rest)
  shown_by net end (Heard heard) sight rest low below k fit go = absurd k
  shown_by net end (Sent sealed) sight rest low below k fit go = record {
    sealed = sealed;
    fit = fit;
    above = omega (arith, below sealed.dir sealed.context.kasme, k.0);
    then =
        go (used low sealed.dir sealed.context.kasme sealed.count)
        (subst (λ next. Below (used low sealed.dir sealed.context.kasme sealed.count) next) (sym k.1)
        (used_both low net.next sealed.dir sealed.context.kasme sealed.count below));
  }

  pub rises : (bound left : ℕ) (net : NasNet) (moves : List NasMove) (capture : List NasSight) (low : Counts)
      → Below low net.next
      → History moved fits covers bound left net moves capture
      → CountsRise fits low capture
  rises bound left net moves capture low below (ends) = tt
  rises bound left net moves capture low below (unseen {left = l} {end = end} {sent = sent} {moves = ms} move done hid more) =
      let up = raised net sent end (raises_by net (moved net move) end sent done (moved_is net move)) in
      rises bound l end ms capture low (λ d k. omega (arith, below d k, up d k)) more
  rises bound left net moves capture low below (shown {end = end} {sent = sent} {sight = sight} {moves = ms} {capture = rest} move done fit cov more) =
      shown_by net end sent sight rest low below (raises_by net (moved net move) end (Some sent) done (moved_is net move)) fit
      (λ next under. rises bound bound end ms rest next under more)
