-- What holds of every run with two cores.
use Rattle.std.proofs.Common.{◌≡◌, refl, sym, ap, ◌∙◌, ℕ, zero, suc, ◌==◌, Bool, true, false, List, [], ◌∷◌, take, Option, Some, None, Result, Ok, Err, eq-eqb}
use Rattle.std.specs.{Prelude.◌||◌, List.AllByRecursion as AllOf}
use Rattle.lte_events.specs.{Ranges.IsEvent, Ranges.IsSetup, declared.events.Event.Event, declared.lines.Line.Line, declared.lines.Who.Who, declared.setups.Setup.Setup}
use Rattle.lte_machine.proofs.KnownLists.{all_append}
use Rattle.lte_properties.proofs.HeadlineHolds.{headline}
use Rattle.lte_world.specs.declared.faults.WorldFault.{WorldFault}
use Rattle.s1x2_rec.specs.Fields.{Fields}
use Rattle.core_relocation.specs.{declared.cores.Cores.Cores, declared.lines.TwoLine.TwoLine, Acted.acted, Promises.MayAct, Promises.TwoHeadline}
use Rattle.core_relocation.specs.Holder.{acting, away, core_at, is_next, station_in, unless}
use Rattle.core_relocation.specs.Run.{TwoState, answer_by, cores_of, fields_of_run, first_state, heard_of, next_answer, next_state, run_after, state_by, states, told_after, two_state}
use Rattle.core_relocation.proofs.{Journal.lines_are, Once.no_nh_twice}

-- WHAT THE SYSTEM SAW

heard_by : (P : Event → Type 0) (o : Option ℕ) (c : Cores) (s : TwoState) (e : Event) (fields : Option Fields)
    (told : Result Line WorldFault)
    → AllOf P s.heard
    → P e
    → AllOf P (state_by o c s e fields told).heard
heard_by P (Some core) c s e fields told h is = h
heard_by P None c s e fields (Ok line) h is = all_append P s.heard (e ∷ []) h (is, tt)
heard_by P None c s e fields (Err fault) h is = all_append P s.heard (e ∷ []) h (is, tt)

module _ (setup : Setup) (core_of : List ℕ) where
  heard_next : (P : Event → Type 0) (s : TwoState) (e : Event) → AllOf P s.heard → P e → AllOf P (next_state setup core_of s e).heard
  heard_next P s e h is =
      heard_by P (away (cores_of setup core_of s) (station_in s.senders e) e) (cores_of setup core_of s) s e
      (fields_of_run (run_after setup core_of s.heard) e) (told_after setup core_of s.heard e) h is

  heard_from : (P : Event → Type 0) (s : TwoState) (es : List Event) → AllOf P s.heard → AllOf P es → AllOf P (states setup core_of s es).heard
  heard_from P s [] h are = h
  heard_from P s (e ∷ es) h are = heard_from P (next_state setup core_of s e) es (heard_next P s e h are.0) are.1

  pub heard_all : (P : Event → Type 0) (events : List Event) → AllOf P events → AllOf P (heard_of setup core_of events)
  unfolding two_state
  heard_all P events are = heard_from P first_state events tt are

all_first : {A : Type 0} (P : A → Type 0) (n : ℕ) (xs : List A) → AllOf P xs → AllOf P (take n xs)
all_first P zero [] h = tt
all_first P zero (x ∷ xs) h = tt
all_first P (suc n) [] h = tt
all_first P (suc n) (x ∷ xs) h = (h.0, all_first P n xs h.1)

-- WHICH CORE ACTS

none_is : (b : Bool) (core : ℕ) → unless b core ≡ None → b ≡ true
none_is true core e = refl
none_is false core e = cc

may_act : (c : Cores) (from : Option ℕ) (e : Event) → away c from e ≡ None → MayAct c.held (acting c from)
may_act c (Some station) e here =
    none_is ((core_at c.core_of station == c.held.holder) || is_next c.held.next (core_at c.core_of station))
    (core_at c.core_of station) here
may_act c None e here = ap (λ b. b || is_next c.held.next c.held.holder) (eq-eqb c.held.holder c.held.holder refl)

acted_is : (who : Who) (acts core : ℕ) → acted who acts ≡ Some core → acts ≡ core
acted_is Who.Core acts core e = cc
acted_is Who.Both acts core e = cc
acted_is Who.World acts core e = cc
acted_is Who.Phone acts core e = cc
acted_is (Who.Station id) acts core e = cc

line_by : (o : Option ℕ) (acts step : ℕ) (told : Result Line WorldFault) (line : Line) (core : ℕ)
    → answer_by o acts step told ≡ Ok (TwoLine.By line (Some core))
    → (o ≡ None) × (acts ≡ core)
line_by (Some other) acts step told line core e = cc
line_by None acts step (Ok l) line core e = let by : acted l.who acts ≡ Some core = cc in (refl, acted_is l.who acts core by)
line_by None acts step (Err fault) line core e = cc

acts_in : (setup : Setup) (core_of : List ℕ) (s : TwoState) (e : Event) (line : Line) (core : ℕ)
    → next_answer setup core_of s e ≡ Ok (TwoLine.By line (Some core))
    → MayAct s.held core
acts_in setup core_of s e line core is =
    let c = cores_of setup core_of s in
    let from = station_in s.senders e in
    let by = line_by (away c from e) (acting c from) s.steps (told_after setup core_of s.heard e) line core is in
    sym (ap (λ n. (n == s.held.holder) || is_next s.held.next n) by.1) ∙ may_act c from e by.0

-- ALL OF IT

pub two_headline : (setup : Setup) (core_of : List ℕ) (events : List Event) → IsSetup setup → AllOf IsEvent events → TwoHeadline setup core_of events
two_headline setup core_of events set are =
    let heard = heard_of setup core_of events in
    let all = heard_all setup core_of IsEvent events are in record {
      headline = headline setup heard set all;
      lines = lines_are setup core_of events;
      nh = λ n u runs. no_nh_twice setup set (take n heard) (all_first IsEvent n heard all) u runs;
      acting = λ k e line core at is. acts_in setup core_of (two_state setup core_of (take k events)) e line core is;
    }
