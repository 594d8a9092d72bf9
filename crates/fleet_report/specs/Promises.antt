-- What holds of a fleet's report: of each phone, and of all phones together.
use Rattle.std.specs.Prelude.{◌≡◌, ℕ, ◌<◌, ◌==◌, Bool, true, false, List, [], ◌∷◌, ◌++◌}
use Rattle.lte_events.specs.{declared.events.Event.Event, declared.setups.Setup.Setup}
use Rattle.lte_properties.specs.Headline.{Headline}
use Rattle.run_report.specs.{declared.endings.Ending.TheVariants.Done, Report.report_of}
use Rattle.fleet_world.specs.Answers.{own, owns_of, no_events}
use Rattle.fleet_world.specs.Apart.{NoUseTwice, PhonesSeparate}
use Rattle.fleet_report.specs.Lines.{Output, ByPhone, ByFleet}
use Rattle.fleet_report.specs.Report.{outputs_from, fleet_report_of}

-- the texts of phone p among the lines, one behind the other, without its number
abbrev pub text_if : Bool → List ℕ → List ℕ → List ℕ
text_if true text rest = text ++ rest
text_if false text rest = rest

abbrev pub phone_texts : ℕ → List Output → List ℕ
phone_texts p [] = []
phone_texts p (ByPhone q text ∷ rest) = text_if (q == p) text (phone_texts p rest)
phone_texts p (ByFleet text ∷ rest) = phone_texts p rest

-- of each phone the headline holds, for its own events
abbrev pub EachHeadline : Setup → ℕ → List (ℕ × Event) → Type 0
EachHeadline setup phones events = (p : ℕ) → p < phones → Headline setup (own setup phones events p)

-- where no coincidence ends it, its lines are the report of a system of the phone's own events
abbrev pub IsIsolated : Setup → ℕ → List (ℕ × Event) → Type 0
IsIsolated setup phones events =
    (p : ℕ) → p < phones → phone_texts p (outputs_from setup (no_events phones) 0 events).lines ≡ (report_of setup (own setup phones events p)).text

-- and no two phones have a key or its use in common
pub record Holds (setup : Setup) (phones : ℕ) (events : List (ℕ × Event)) : Type 0 where
  pub headline : EachHeadline setup phones events
  pub isolation : (fleet_report_of setup phones events).ends ≡ Done → IsIsolated setup phones events
  pub freshness : (fleet_report_of setup phones events).ends ≡ Done → NoUseTwice setup (owns_of setup phones events)
  pub separation : (fleet_report_of setup phones events).ends ≡ Done → PhonesSeparate setup (owns_of setup phones events)
