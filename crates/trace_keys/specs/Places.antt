-- Where a move sends, by the net and the move alone.
use Rattle.std.specs.Prelude.{Option, None, Some}
use Rattle.trace_keys.specs.declared.{moves.Where.Where, moves.Move.Move}
use Rattle.trace_keys.specs.declared.moves.Where.TheVariants.{Setup, Change, Took, Answer, Asked, Request, Over}
use Rattle.trace_keys.specs.declared.moves.Move.TheVariants.{Renew, Offer, Take, Switch, Ask, Prepare, Require, Arrive, Cancel, Refresh, Leave}
use Rattle.trace_keys.specs.Net.{Serving, Net}

-- of a phone that is connected
abbrev pub place_in : {K C : Type 0} → Serving K C → Move → Option Where
place_in s (Renew kasme count station cell early taken) = Some (Setup station)
place_in s (Offer kasme count early) = Some (Change s.station)
place_in s Switch = Some (Answer s.station)
place_in s (Ask what) = Some (Asked s.station)
place_in s (Prepare station cell goes) = Some (Over s.station station)
place_in s (Require station cell goes) = Some (Request station)
place_in s Take = Some (Took s.station)
place_in s Arrive = None
place_in s Cancel = None
place_in s (Refresh station cell) = None
place_in s Leave = None

abbrev pub place_by : {K C : Type 0} → Option (Serving K C) → Move → Option Where
place_by (Some s) move = place_in s move
place_by None (Renew kasme count station cell early taken) = Some (Setup station)
place_by None move = None

abbrev pub place_of : {K C : Type 0} → Net K C → Move → Option Where
place_of net move = place_by net.serving move
