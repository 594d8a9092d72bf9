-- The ordinary scenario: authentication, Security Mode, initial context, packets, an X2 handover there and another back.
use Rattle.std.specs.Prelude.{◌≡◌, ℕ, List, [], ◌∷◌, ◌++◌, Option, Some, None}
use Rattle.std.proofs.Common.{refl}
use Rattle.rec_base.specs.{declared.bearers.Bearer.TheVariants.Drb1, declared.ways.Way.Way}
use Rattle.rec_base.specs.declared.ways.Way.TheVariants.{Initial, Horizontal, Vertical, Given, Completed, Chained}
use Rattle.lte_events.specs.{declared.acts.PhoneAct.PhoneAct, declared.acts.StationAct.StationAct, declared.answers.Answer.TheVariants.Done, declared.classes.Class.Class, declared.events.Event.Event}
use Rattle.lte_machine.proofs.Scenario.{Brief, command, computing, newest, opening, told, x2}

abbrev pub ordinary : List Event
ordinary =
    opening ++ Event.Phone (PhoneAct.SendUser Drb1 (0x68 ∷ 0x69 ∷ [])) ∷ newest
    ∷ x2 0 1 ∷ newest ∷ newest ∷ command 0 ∷ newest ∷ newest ∷ newest ∷ newest ∷ newest
    ∷ x2 1 0 ∷ newest ∷ newest ∷ command 1 ∷ newest ∷ newest
    ∷ Event.Station 0 (StationAct.SendUser Drb1 (0x6f ∷ 0x6b ∷ [])) ∷ newest ∷ []

abbrev pub done : Option Brief
done = Some (Done, None, None, None)

abbrev pub sends : ℕ → Class → Option Brief
sends number class = Some (Done, Some (number, class), None, None)

abbrev pub notes : ℕ → Class → ℕ → Way → Option Brief
notes number class ncc way = Some (Done, Some (number, class), Some (ncc, way), None)

abbrev pub opens : List ℕ → Option Brief
opens text = Some (Done, None, None, Some text)

-- what is told of it
abbrev pub ordinary_report : List (Option Brief)
ordinary_report =
    done ∷ sends 0 Class.Nas ∷ sends 1 Class.Nas ∷ done ∷ notes 2 Class.S1 0 Initial ∷ notes 3 Class.Air 0 Given
    ∷ notes 4 Class.Air 0 Initial ∷ done ∷ sends 5 Class.Air ∷ opens (0x68 ∷ 0x69 ∷ [])
    ∷ notes 6 Class.X2 0 Horizontal ∷ notes 7 Class.X2 0 Given ∷ done ∷ sends 8 Class.Air ∷ notes 9 Class.Air 0 Horizontal
    ∷ notes 10 Class.S1 0 Completed ∷ notes 11 Class.S1 1 Chained ∷ sends 12 Class.X2 ∷ done
    ∷ notes 13 Class.X2 1 Vertical ∷ notes 14 Class.X2 1 Given ∷ done ∷ sends 15 Class.Air ∷ notes 16 Class.Air 1 Vertical
    ∷ notes 17 Class.S1 1 Completed ∷ sends 18 Class.Air ∷ opens (0x6f ∷ 0x6b ∷ []) ∷ []

ordinary_scenario : told ordinary ≡ ordinary_report
unfolding computing
ordinary_scenario = refl
