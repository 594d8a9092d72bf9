-- What holds of a run with two cores, for every setup and every list of events.
use Rattle.std.specs.Prelude.{◌≡◌, ℕ, ◌==◌, ◌||◌, true, List, [], ◌∷◌, map, take, slice_get, Some, Result, Ok, Err}
use Rattle.key_model.specs.Term.{Term}
use Rattle.lte_events.specs.{declared.events.Event.Event, declared.lines.Line.Line, declared.setups.Setup.Setup}
use Rattle.lte_machine.specs.{BothRuns.written_report, Carried.report_value, Run.EventReport}
use Rattle.lte_properties.specs.{Headline.Headline, InOctets.EachWorld}
use Rattle.lte_world.specs.{declared.faults.WorldFault.WorldFault, Whole.answer_of}
use Rattle.core_relocation.specs.{declared.cores.Held.Held, declared.lines.TwoLine.TwoLine, Holder.is_next, Once.NoNhTwice}
use Rattle.core_relocation.specs.declared.lines.TwoLine.TheVariants.{By, NotHere}
use Rattle.core_relocation.specs.Run.{answers, first_state, heard_of, next_answer, two_state}

-- the core holds the context, or is to get it
abbrev pub MayAct : Held → ℕ → Type 0
MayAct held core = ((core == held.holder) || is_next held.next core) ≡ true

-- a line without the number of its event
abbrev pub unstepped : Result Line WorldFault → Result Line WorldFault
unstepped (Ok line) = Ok (record line { step = 0 })
unstepped (Err fault) = Err fault

-- what the system answered, without steps and cores
abbrev pub system_told : List (Result TwoLine WorldFault) → List (Result Line WorldFault)
system_told [] = []
system_told (Ok (By line core) ∷ rest) = Ok (record line { step = 0 }) ∷ system_told rest
system_told (Ok (NotHere core) ∷ rest) = system_told rest
system_told (Err fault ∷ rest) = Err fault ∷ system_told rest

-- what is told in the run of the system alone
abbrev pub told_alone : EventReport Term → Result Line WorldFault
told_alone told = unstepped (answer_of (report_value told))

pub record TwoHeadline (setup : Setup) (core_of : List ℕ) (events : List Event) : Type 0 where
  -- the headline of the one system, which saw the events that are not answered NotHere
  pub headline : Headline setup (heard_of setup core_of events)
  -- and the lines are its lines but for steps and cores
  pub lines : system_told (answers setup core_of first_state events) ≡ map told_alone (written_report setup (heard_of setup core_of events))
  -- no two records carry one NH
  pub nh : EachWorld setup (heard_of setup core_of events) NoNhTwice
  -- a core acts in an event only where it held the context before, or was to get it
  pub acting : (k : ℕ) (e : Event) (line : Line) (core : ℕ) → slice_get events k ≡ Some e →
      next_answer setup core_of (two_state setup core_of (take k events)) e ≡ Ok (By line (Some core)) →
      MayAct (two_state setup core_of (take k events)).held core
