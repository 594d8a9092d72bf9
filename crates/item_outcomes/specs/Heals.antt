-- What leads phone and station back to one key, by the lines of the probe (TS 24.301 5.4.3 and 5.6.1, TS 33.401 7.2.6.2).
use Rattle.std.specs.Prelude.{ℕ, ◌&&◌, Bool, not, if◌then◌else◌, List}
use Rattle.item_lines.specs.{Lines.line_of, declared.lines.Told.Told}
use Rattle.item_outcomes.specs.Keys.{is_made, parted}
use Rattle.item_outcomes.specs.Packets.{arrives, fate_of}
use Rattle.item_outcomes.specs.Probe.{is_among, again_arrives, anew_arrives, secured, secured_anew, text_again, text_anew}
use Rattle.item_outcomes.specs.declared.heals.Heals.{Heals}
use Rattle.item_outcomes.specs.declared.heals.Heals.TheVariants.{Reconnection, Authentication, Nothing}

-- at this item the phone takes a key, and not another one than the station there told
abbrev pub takes_one : List Told → ℕ → Bool
takes_one told name = is_made (line_of name told) && not (is_among (parted told) name)

-- the packet behind the probe's Service Request arrives
abbrev pub serves_again : List Told → Bool
serves_again told = arrives (fate_of told again_arrives text_again)

-- SEVEN EVENTS: idle, a Service Request and a connection; the packet behind them arrives
abbrev pub reconnects : List Told → Bool
reconnects told = takes_one told secured && serves_again told

-- ELEVEN EVENTS: an authentication and its Security Mode before these
abbrev pub restarts : List Told → Bool
restarts told = takes_one told secured_anew && arrives (fate_of told anew_arrives text_anew)

-- WHAT HEALS: the fewest of these events
abbrev pub heals_of : List Told → Heals
heals_of told = if reconnects told then Reconnection else (if restarts told then Authentication else Nothing)
