use Rattle.lte_events.specs.Site.{is_site}
use Rattle.lte_events.proofs.SiteFacts.{found_stands, found_within}
use Rattle.lte_events.proofs.sites.Cells.station_of.Goals as goal

pub returns-clause-stands : goal.returns-clause-stands
returns-clause-stands c = rw c.first_station.ensures (found_stands (is_site c.args.cell.now) c.args.self.now)

pub returns-clause-station : goal.returns-clause-station
returns-clause-station c = rw c.first_station.ensures (found_within (is_site c.args.cell.now) c.args.self.now (rw (← c.self.view_is) c.self.invariant.stations))
