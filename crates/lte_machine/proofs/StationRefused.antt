-- A step that a station refuses leaves the station as it was.
use Rattle.std.specs.Prelude.{◌≡◌, ◌≢◌, Option}
use Rattle.std.proofs.Common.{refl, ap}
use Rattle.lte_events.specs.declared.answers.Answer.TheVariants.{Done}
use Rattle.key_model.specs.{Reading.Reading, HandoverTable.NumberedKey}
use Rattle.lte_machine.specs.{Opening.Outcome, Reply.Reply, Reply.only, StationState.Station, StationState.StationInput, StationRows.StationRow}
use Rattle.lte_machine.specs.StationKeys as keys
use Rattle.lte_machine.proofs.StationCases.{station_case}
use Rattle.lte_machine.specs.StationStep.{station_key, station_row_of, station_step}

-- a row that is not done leaves the station, and gives out its answer alone
abbrev pub Unchanged : {K C : Type 0} → Station K C → Station K C × Reply K C → Type 0
Unchanged s d = d.1.answer ≢ Done → d ≡ (s, only d.1.answer)

-- a row that is done
done : {K C : Type 0} (s : Station K C) (d : Station K C × Reply K C) → Done ≢ Done → d ≡ (s, only d.1.answer)
done s d h = absurd (h refl)

module _ {K C : Type 0} (r : Reading K C) where
  does_unchanged : (row : StationRow) (key : Option (NumberedKey K C)) (s : Station K C) → Unchanged s (keys.station_does r row key s)
  does_unchanged row key s =
      station_case r s (Unchanged s)
      (record {
        nothing = λ answer. λ h. refl;
        given = λ conn cell caps algs air kenb k. done s _;
        released = λ key k. done s _;
        taken = λ conn origin pair k. done s _;
        by_s1 = λ w pair k. done s _;
        by_x2 = λ w star k. done s _;
        answered = λ order key k. done s _;
        cancelled = λ from key k. done s _;
        left = λ key k. done s _;
        renewed = λ conn number air count c e kenb k. done s _;
      })
      (record {
        nothing = λ answer. λ h. refl;
        secured = λ count k. done s _;
        opened = λ srb count text k. done s _;
        packet = λ drb count text k. done s _;
        by_s1 = λ at count k p e. done s _;
        within = λ at count origin k p e. done s _;
        by_x2 = λ at count number k p e. done s _;
      })
      (record {
        nothing = λ answer. λ h. refl;
        by_x2 = λ number target cell k c e. done s _;
        by_s1 = λ number target cell k c e. done s _;
        within = λ number air cell k c e. done s _;
        commanded = λ via order count k c e. done s _;
        cancelled_x2 = λ conn number target k. done s _;
        cancelled_s1 = λ conn number cell k. done s _;
        cancelled_within = λ number k. done s _;
        asked = λ number k c e. done s _;
        packet = λ drb count text k c e. done s _;
        text = λ srb count text k c e. done s _;
        skipped = λ on n k. done s _;
      }) row key

  -- whatever comes, and however its opening comes out
  pub station_refused : (s : Station K C) (i : StationInput K C) (outcome : Outcome) →
      (station_step r s i outcome).1.answer ≢ Done → (station_step r s i outcome).0 ≡ s
  station_refused s i outcome h =
      ap (λ d. d.0) (does_unchanged (station_row_of r s i outcome) (station_key i) s h)
