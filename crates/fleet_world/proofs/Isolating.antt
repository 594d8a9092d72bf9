-- A phone's lines are those of its own events.
use Rattle.std.proofs.Common.{◌≡◌, refl, sym, ap, subst, ◌∙◌, ℕ, ◌<◌, ◌==◌, Bool, true, false, List, [], ◌∷◌, ◌++◌, length, map, set, Option, Some, None, Result, Ok, Err, append_assoc, append-nil}
use Rattle.std.specs.Prelude.{is_ok, IsOk}
use Rattle.std.proofs.lemmas.Bool.{false≢true, eqb-true, eqb-false}
use Rattle.std.proofs.lemmas.List.{length-replicate, map-append}
use Rattle.lte_events.specs.{declared.events.Event.Event, declared.setups.Setup.Setup}
use Rattle.lte_machine.specs.{BothRuns.annex_b_terms, BothRuns.written_report, Calls.line_out, Carried.report_value, Ciphers.annex_b, Machines.written_machine, Opening.open_octets}
use Rattle.lte_machine.specs.Run.{EventReport, Reported, Coincided, Running, first_world}
use Rattle.lte_machine.proofs.EventByEvent.{tale_snoc}
use Rattle.fleet_world.specs.{declared.faults.FleetFault.FleetFault, declared.lines.FleetLine.FleetLine, Apart.AllAnswered, Meeting.Meeting, Phones.phone_told}
use Rattle.fleet_world.specs.declared.lines.FleetLine.TheVariants as line
use Rattle.fleet_world.specs.Answers.{answer, own, own_at, taken_by, crossing, unless_taken, unless_met, owned_if, owns_after, owns_from, no_events}
use Rattle.fleet_world.specs.Isolation.{answers, line_if, lines_of, lines_in, own_lines, LinesAreOwn}
use Rattle.fleet_world.proofs.Separating.{own_other, own_same, no_own, length_after}

-- one line more
lines_append : (xs : List (EventReport (List ℕ))) (x : EventReport (List ℕ)) → lines_in (xs ++ x ∷ []) ≡ lines_in xs ++ lines_in (x ∷ [])
lines_append [] x = refl
lines_append (Reported told ∷ xs) x = ap (λ l. line_out told ∷ l) (lines_append xs x)
lines_append (Coincided coincidence ∷ xs) x = lines_append xs x

pub own_more : (setup : Setup) (own : List Event) (e : Event) → own_lines setup (own ++ e ∷ []) ≡ own_lines setup own ++ lines_in (phone_told setup own e ∷ [])
unfolding phone_told
own_more setup own e =
    ap (λ l. lines_in (map report_value l)) (tale_snoc (open_octets annex_b_terms) (written_machine annex_b) (Running (first_world setup)) own e)
    ∙ ap lines_in (map-append report_value (written_report setup own) (_ ∷ []))
    ∙ lines_append (map report_value (written_report setup own)) _

-- what one answer adds to a phone's lines is what its own event adds
module _ (setup : Setup) (owns : List (List Event)) (p : ℕ) (e : Event) (q : ℕ) (low : q < length owns) where
  abbrev mine : List Event
  mine = own_at owns q

  abbrev Adds : Result FleetLine FleetFault → List (List Event) → Type 0
  Adds answered after = own_lines setup mine ++ lines_of q (answered ∷ []) ≡ own_lines setup (own_at after q)

  of_phone : (told : EventReport (List ℕ)) (x : _)
      → phone_told setup (own_at owns p) e ≡ Reported x
      → Adds (Ok (line.Of p (line_out x))) (set owns p (own_at owns p ++ e ∷ []))
  of_phone told x tells = by (p == q) refl
    where
      by : (b : Bool) → (p == q) ≡ b → own_lines setup mine ++ line_if b (line_out x) [] ≡ own_lines setup (own_at (set owns p (own_at owns p ++ e ∷ [])) q)
      by true is =
          let one = eqb-true p q is in
          ap (λ l. own_lines setup mine ++ lines_in (l ∷ [])) (sym tells)
          ∙ ap (λ k. own_lines setup mine ++ lines_in (phone_told setup (own_at owns k) e ∷ [])) one
          ∙ sym (own_more setup mine e)
          ∙ ap (own_lines setup) (sym (ap (λ k. own_at (set owns k (own_at owns k ++ e ∷ [])) q) one ∙ own_same owns q (mine ++ e ∷ []) low))
      by false is =
          append-nil (own_lines setup mine)
          ∙ ap (own_lines setup)
          (sym (own_other owns p q (own_at owns p ++ e ∷ []) (λ same. eqb-false p q is (sym same))))

  pub adds : IsOk (answer setup owns p e) → Adds (answer setup owns p e) (owns_after setup owns p e)
  adds ok = by (taken_by setup owns p e) ok (phone_told setup (own_at owns p) e) refl (crossing setup owns p e)
    where
      by : (t : Option ℕ)
          → IsOk (unless_taken p t (phone_told setup (own_at owns p) e) (crossing setup owns p e))
          → (told : EventReport (List ℕ))
          → phone_told setup (own_at owns p) e ≡ told
          → (met : Option Meeting) → Adds (unless_taken p t (phone_told setup (own_at owns p) e) (crossing setup owns p e)) (owned_if t owns p e)
      by (Some k) ok told tells met = append-nil (own_lines setup mine)
      by None ok (Coincided coincidence) tells met = absurd (false≢true (ap (λ t. is_ok (unless_met p t (crossing setup owns p e))) (sym tells) ∙ ok))
      by None ok (Reported x) tells met = at_line (crossing setup owns p e) refl
        where
          at_line : (m : Option Meeting)
              → crossing setup owns p e ≡ m
              → Adds (unless_met p (phone_told setup (own_at owns p) e) (crossing setup owns p e))
              (set owns p (own_at owns p ++ e ∷ []))
          at_line None is =
              subst (λ (a : Result FleetLine FleetFault). Adds a (set owns p (own_at owns p ++ e ∷ [])))
              (sym (λ j. unless_met p (tells j) (is j))) (of_phone (Reported x) x tells)
          at_line (Some m) is = absurd (false≢true (sym (λ j. is_ok (unless_met p (tells j) (is j))) ∙ ok))

-- and so for all events
lines_parts : (q : ℕ) (a : Result FleetLine FleetFault) (rest : List (Result FleetLine FleetFault))
    → lines_of q (a ∷ rest) ≡ lines_of q (a ∷ []) ++ lines_of q rest
lines_parts q (Ok (line.Of p told)) rest = by (p == q)
  where
    by : (b : Bool) → line_if b told (lines_of q rest) ≡ line_if b told [] ++ lines_of q rest
    by true = refl
    by false = refl
lines_parts q (Ok (line.Taken p)) rest = refl
lines_parts q (Err ended) rest = refl

abbrev Isolated : Setup → List (List Event) → List (ℕ × Event) → Type 0
Isolated setup owns events =
    (p : ℕ)
    → p < length owns
    → own_lines setup (own_at owns p) ++ lines_of p (answers setup owns events)
    ≡ own_lines setup (own_at (owns_from setup owns events) p)

isolated : (setup : Setup) (owns : List (List Event)) (events : List (ℕ × Event)) → AllAnswered setup owns events → Isolated setup owns events
isolated setup owns [] answered q low = append-nil (own_lines setup (own_at owns q))
isolated setup owns (x ∷ xs) answered q low =
    let one = answer setup owns x.0 x.1 in
    let next = owns_after setup owns x.0 x.1 in
    let rest = answers setup next xs in
    ap (λ l. own_lines setup (own_at owns q) ++ l) (lines_parts q one rest)
    ∙ sym (append_assoc (own_lines setup (own_at owns q)) (lines_of q (one ∷ [])) (lines_of q rest))
    ∙ ap (λ l. l ++ lines_of q rest) (adds setup owns x.0 x.1 q low answered.0)
    ∙ isolated setup next xs answered.1 q (subst (λ n. q < n) (sym (length_after setup owns x.0 x.1)) low)

pub lines_are_own : (setup : Setup) (phones : ℕ) (events : List (ℕ × Event)) → AllAnswered setup (no_events phones) events → LinesAreOwn setup phones events
unfolding own
lines_are_own setup phones events answered p low =
    ap (λ o. own_lines setup o ++ lines_of p (answers setup (no_events phones) events)) (sym (no_own phones p))
    ∙ isolated setup (no_events phones) events answered p (subst (λ n. p < n) (sym (length-replicate phones [])) low)
