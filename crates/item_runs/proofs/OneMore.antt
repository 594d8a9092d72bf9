-- A run of items with one event more, and what holds of every run of items.
use Rattle.std.proofs.Common.{◌≡◌, refl, sym, ap, subst, ◌∙◌, arith, ℕ, zero, suc, ◌+◌, ◌≤◌, ◌<◌, inl, inr, take, List, [], ◌∷◌, ◌++◌, length, length-append, map, Option, Some, None, Result, Ok, Err, OnOk}
use Rattle.std.proofs.{lemmas.List.map-append, lemmas.List.length-map, lemmas.List.Elements.All-push}
use Rattle.std.specs.Prelude.{◌⊎◌, slice_get}
use Rattle.lte_events.specs.{Ranges.IsEvent, Ranges.IsSetup, declared.events.Event.Event, declared.lines.Line.Line, declared.setups.Setup.Setup}
use Rattle.lte_events.specs.Scenario.{most_events, CanHappen, IsScenario}
use Rattle.lte_events.proofs.InRange.{in_range}
use Rattle.lte_machine.specs.BothRuns.{annex_b_terms, written_run, written_report}
use Rattle.lte_machine.specs.{Carried.report_value, Ciphers.annex_b, Machines.written_machine, Opening.open_octets}
use Rattle.lte_machine.specs.Run.{Running, event_report, first_world}
use Rattle.lte_machine.proofs.EventByEvent.{tale_snoc, told_each}
use Rattle.lte_properties.proofs.HeadlineHolds.{headline}
use Rattle.lte_world.specs.Whole.{answer_of}
use Rattle.item_lines.specs.declared.lines.Told.{Told}
use Rattle.item_runs.specs.Coming.{told_line}
use Rattle.item_runs.specs.Course.{told_written, place_of, Tells, Placed, Seen, Stands, Promises}

-- its lines are those of the run of its events
tells_more : (setup : Setup) (events : List Event) (told : List Told) (name : ℕ) (e : Event) (line : Line) (at : Option (ℕ × ℕ))
    → Ok line ≡ told_written setup events e
    → Tells setup events told
    → Tells setup (events ++ e ∷ []) (told ++ told_line name line at ∷ [])
unfolding told_written
tells_more setup events told name e line at is p =
    ap (map (λ r. answer_of (report_value r))) (tale_snoc (open_octets annex_b_terms) (written_machine annex_b) (Running (first_world setup)) events e)
    ∙ map-append (λ r. answer_of (report_value r)) (written_report setup events)
    (event_report (open_octets annex_b_terms) (written_machine annex_b) (written_run setup events) e ∷ [])
    ∙ (λ j. p j ++ sym is j ∷ [])
    ∙ sym (map-append (λ t. Ok t.line) told (told_line name line at ∷ []))

-- and its events are a scenario
scenario_more : (setup : Setup) (events : List Event) (e : Event)
    → CanHappen setup e
    → length events < most_events
    → IsScenario setup events
    → IsScenario setup (events ++ e ∷ [])
scenario_more setup events e can few is =
    let more = length-append events (e ∷ []) in
    record {
      can_start = is.can_start;
      can_happen = All-push (CanHappen setup) events e is.can_happen can;
      few = omega (arith, more, few);
    }

-- as many lines as events
as_many : (setup : Setup) (events : List Event) (told : List Told) → Tells setup events told → length told ≡ length events
as_many setup events told tells =
    sym (length-map told (λ t. Ok t.line)) ∙ ap length (sym tells) ∙ length-map (written_report setup events) (λ r. answer_of (report_value r))
    ∙ told_each (open_octets annex_b_terms) (written_machine annex_b) (Running (first_world setup)) events

-- the first ones of one more, and what is told last
take_first : (k : ℕ) (es : List Event) (e : Event) → k < length es → take (suc k) (es ++ e ∷ []) ≡ take (suc k) es
take_first k [] e low = absurd (omega (arith, low))
take_first zero (d ∷ es) e low = refl
take_first (suc k) (d ∷ es) e low = ap (λ xs. d ∷ xs) (take_first k es e (omega (arith, low)))

take_all : (k : ℕ) (es : List Event) (e : Event) → k ≡ length es → take (suc k) (es ++ e ∷ []) ≡ es ++ e ∷ []
take_all zero [] e same = refl
take_all zero (d ∷ es) e same = absurd (omega (arith, same))
take_all (suc k) [] e same = absurd (omega (arith, same))
take_all (suc k) (d ∷ es) e same = ap (λ xs. d ∷ xs) (take_all k es e (omega (arith, same)))

-- what stands in a list of one more stands in the list, or is the last
one_of : (ts : List Told) (new : Told) (k : ℕ) (t : Told) → slice_get (ts ++ new ∷ []) k ≡ Some t
    → ((slice_get ts k ≡ Some t) × (k < length ts)) ⊎ ((k ≡ length ts) × (new ≡ t))
one_of [] new zero t e = inr (refl, cc)
one_of [] new (suc k) t e = absurd cc
one_of (u ∷ us) new zero t e = inl (e, omega arith)
one_of (u ∷ us) new (suc k) t e = by (one_of us new k t e)
  where
    by : ((slice_get us k ≡ Some t) × (k < length us)) ⊎ ((k ≡ length us) × (new ≡ t))
        → ((slice_get us k ≡ Some t) × (suc k < suc (length us))) ⊎ ((suc k ≡ suc (length us)) × (new ≡ t))
    by (inl h) = let low = h.1 in inl (h.0, omega (arith, low))
    by (inr h) = inr (ap suc h.0, h.1)

placed_more : (setup : Setup) (events : List Event) (told : List Told) (e : Event) (new : Told)
    → length told ≡ length events
    → new.at ≡ place_of setup (events ++ e ∷ []) new.line.who
    → Placed setup events told
    → Placed setup (events ++ e ∷ []) (told ++ new ∷ [])
placed_more setup events told e new many place placed k t stands = by (one_of told new k t stands)
  where
    by : ((slice_get told k ≡ Some t) × (k < length told)) ⊎ ((k ≡ length told) × (new ≡ t)) → t.at ≡ place_of setup (take (suc k) (events ++ e ∷ [])) t.line.who
    by (inl h) =
        let low = h.1 in
        placed k t h.0 ∙ ap (λ es. place_of setup es t.line.who) (sym (take_first k events e (omega (arith, low, many))))
    by (inr h) =
        ap (λ (u : Told). u.at) (sym h.1) ∙ place ∙ ap (λ (u : Told). place_of setup (events ++ e ∷ []) u.line.who) h.1
        ∙ ap (λ es. place_of setup es t.line.who) (sym (take_all k events e (h.0 ∙ many)))

pub stands_more : (setup : Setup) (events : List Event) (told : List Told) (name : ℕ) (e : Event) (line : Line) (at : Option (ℕ × ℕ))
    → CanHappen setup e
    → length events < most_events
    → Ok line ≡ told_written setup events e
    → at ≡ place_of setup (events ++ e ∷ []) line.who
    → Stands setup events told
    → Stands setup (events ++ e ∷ []) (told ++ told_line name line at ∷ [])
stands_more setup events told name e line at can few is place stands = record {
  scenario = scenario_more setup events e can few stands.scenario;
  tells = tells_more setup events told name e line at is stands.tells;
  placed = placed_more setup events told e (told_line name line at) (as_many setup events told stands.tells) place stands.placed;
}

pub stands_now : (setup s : Setup) (events es : List Event) (told ts : List Told)
    → s ≡ setup
    → es ≡ events
    → ts ≡ told
    → Stands setup events told
    → Stands s es ts
stands_now setup s events es told ts same longer more stands =
    subst (λ x. Stands x es ts) (sym same) (subst (λ x. Stands setup x ts) (sym longer) (subst (λ x. Stands setup events x) (sym more) stands))

-- WHAT HOLDS OF EVERY RUN OF ITEMS
pub promised : (s : Seen) → Stands s.setup s.coming.events s.coming.told → Promises s
promised s stands = record {
  scenario = stands.scenario;
  tells = stands.tells;
  placed = stands.placed;
  headline =
      headline s.setup s.coming.events stands.scenario.can_start (in_range s.setup s.coming.events stands.scenario.can_happen);
}
