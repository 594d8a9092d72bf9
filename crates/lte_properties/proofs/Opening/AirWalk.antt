-- What the choice of an act's row of a station established: where data are sent on the air, a COUNT is left.
use Rattle.std.proofs.Common.{ℕ, ◌<◌, sym, subst}
use Rattle.lte_events.specs.{Ranges.IsStationAct, declared.acts.StationAct.StationAct}
use Rattle.lte_events.specs.declared.acts.StationAct as station_acts
use Rattle.key_model.specs.{Term.Term, Reading.Reading}
use Rattle.pdcp_guard.specs.Counts.{count_limit}
use Rattle.lte_machine.specs.{Bearers.srb_counts, Bearers.drb_counts, StationState.Station, StationChoice.act_row, StationStep.plain_station}
use Rattle.lte_machine.specs.StationRows as station
use Rattle.lte_machine.proofs.{StationActFacts.StationActHas, StationActFacts.station_act_has, Tests.above_of}
use Rattle.lte_properties.proofs.Opening.Air.{SendNeeds}

module _ (r : Reading Term ℕ) (s : Station Term ℕ) (act : StationAct) where
  sends : (row : station.ActRow) → StationActHas r s act row → IsStationAct act → SendNeeds row
  sends (station.PacketSent drb count text) f h =
      let short : IsStationAct (station_acts.TheVariants.SendUser f.bearer text) = subst IsStationAct f.act_is h in
      (subst (λ n. n < count_limit) (sym f.count_is) (above_of count_limit (drb_counts drb f.context.bearers).send f.unspent), short.1)
  sends (station.RrcSent srb count text) f h =
      let short : IsStationAct (station_acts.TheVariants.SendRrc f.bearer text) = subst IsStationAct f.act_is h in
      (subst (λ n. n < count_limit) (sym f.count_is) (above_of count_limit (srb_counts srb f.context.bearers).send f.unspent), short.1)
  sends other f h = tt

  -- the row of an act of a station
  pub station_act_needs : IsStationAct act → SendNeeds (act_row (plain_station r s) act)
  station_act_needs h = sends (act_row (plain_station r s) act) (station_act_has r s act) h
