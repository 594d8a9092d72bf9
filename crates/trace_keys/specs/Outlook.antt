-- Where a net may send next, and with which NCC, told without its keys.
use Rattle.std.specs.Prelude.{ℕ, ◌+◌, Bool, true, false, ◌&&◌, nat_eq, if◌then◌else◌, Option, None, Some, List}
use Rattle.key_model.specs.{HandoverTable.NumberedKey, Chain.ncc_of}
use Rattle.nh_chain.specs.Station.{StationKey, base_of, restored_if}
use Rattle.trace_keys.specs.declared.{moves.Where.Where, moves.Move.Move, moves.Unanswered.Unanswered, outlook.Outlook.Outlook}
use Rattle.trace_keys.specs.declared.moves.Where.TheVariants.{Setup, Change, Took, Answer, Asked, Request, Over}
use Rattle.trace_keys.specs.declared.moves.Unanswered.TheVariants.{Refused, Lost, Given}
use Rattle.trace_keys.specs.declared.moves.Move.TheVariants.{Renew, Offer, Take, Switch, Ask, Prepare, Require, Arrive, Cancel, Refresh, Leave}
use Rattle.trace_keys.specs.Net.{Target, Offer as OfferOf, Serving, Sight}

-- the NCC one NH step on
abbrev pub next_ncc : ℕ → ℕ
next_ncc ncc = ncc_of (ncc + 1)

-- the NCC of the key that the next KeNB* is made of
abbrev pub base_ncc : StationKey (List ℕ) ℕ → ℕ
base_ncc key = (base_of key.pair key.kenb key.number).number

-- the outlook of a phone that is connected
abbrev pub outlook_of : Serving (List ℕ) ℕ → Outlook
outlook_of s = record { station = s.station; core = s.core.number; base = base_ncc s.key }

abbrev pub outlook_by : Option (Serving (List ℕ) ℕ) → Option Outlook
outlook_by None = None
outlook_by (Some s) = Some (outlook_of s)

-- behind a KeNB
abbrev pub of_renewal : ℕ → Bool → Option Outlook
of_renewal station early = Some (record { station = station; core = if early then 1 else 0; base = 0 })

-- behind a key change that is taken
abbrev pub of_change : ℕ → Option (OfferOf (List ℕ) ℕ) → Option Outlook
of_change station None = None
of_change station (Some o) = Some (record { station = station; core = o.core.number; base = 0 })

-- behind a path switch that is answered
abbrev pub of_switch : ℕ → ℕ → Option Outlook
of_switch station core = Some (record { station = station; core = next_ncc core; base = next_ncc core })

abbrev pub of_request : Serving (List ℕ) ℕ → Unanswered → Option Outlook
of_request s Refused = Some (outlook_of s)
of_request s Lost = Some (record { station = s.station; core = next_ncc s.core.number; base = base_ncc s.key })
of_request s Given = of_switch s.station s.core.number

-- where the phone comes to the target
abbrev pub of_arrival : ℕ → Option (Target (List ℕ) ℕ) → Option Outlook
of_arrival core None = None
of_arrival core (Some t) = Some (record { station = t.station; core = core; base = t.star.number })

-- where the handover is cancelled
abbrev pub of_cancel : ℕ → ℕ → StationKey (List ℕ) ℕ → Option (Target (List ℕ) ℕ) → Option Outlook
of_cancel station core key None = None
of_cancel station core key (Some t) = Some (record { station = station; core = core; base = base_ncc (restored_if key t.spent) })

-- behind a move of a phone that is connected
abbrev pub behind_in : Serving (List ℕ) ℕ → Move → Option Outlook
behind_in s (Renew kasme count station cell early taken) = of_renewal station early
behind_in s (Offer kasme count early) = Some (outlook_of s)
behind_in s Take = of_change s.station s.offer
behind_in s Switch = of_switch s.station s.core.number
behind_in s (Ask what) = of_request s what
behind_in s (Prepare station cell goes) = Some (record { station = s.station; core = s.core.number; base = s.key.number })
behind_in s (Require station cell goes) = Some (record { station = s.station; core = next_ncc s.core.number; base = base_ncc s.key })
behind_in s Arrive = of_arrival s.core.number s.target
behind_in s Cancel = of_cancel s.station s.core.number s.key s.target
behind_in s (Refresh station cell) = Some (outlook_of s)
behind_in s Leave = None

-- behind a move, where it is lawful
abbrev pub behind : Option (Serving (List ℕ) ℕ) → Move → Option Outlook
behind (Some s) move = behind_in s move
behind None (Renew kasme count station cell early taken) = of_renewal station early
behind None move = None

abbrev pub is_at : Option Outlook → ℕ → Bool
is_at None station = false
is_at (Some o) station = nat_eq o.station station

abbrev pub is_connected : Option Outlook → Bool
is_connected None = false
is_connected (Some o) = true

-- whether a message may go there
abbrev pub may_go : Option Outlook → Where → Bool
may_go o (Setup station) = true
may_go o (Change station) = is_at o station
may_go o (Took station) = is_at o station
may_go o (Answer station) = is_at o station
may_go o (Asked station) = is_at o station
may_go o (Request station) = is_connected o
may_go o (Over from to) = is_at o from

abbrev pub ncc_from_core : Option Outlook → ℕ
ncc_from_core None = 0
ncc_from_core (Some o) = next_ncc o.core

abbrev pub ncc_from_station : Option Outlook → ℕ
ncc_from_station None = 0
ncc_from_station (Some o) = o.base

-- the NCC that it has there
abbrev pub ncc_at : Option Outlook → Where → ℕ
ncc_at o (Setup station) = 0
ncc_at o (Change station) = 0
ncc_at o (Took station) = 0
ncc_at o (Answer station) = ncc_from_core o
ncc_at o (Asked station) = 0
ncc_at o (Request station) = ncc_from_core o
ncc_at o (Over from to) = ncc_from_station o

abbrev pub fits_ncc : ℕ → Option (NumberedKey (List ℕ) ℕ) → Bool
fits_ncc ncc None = true
fits_ncc ncc (Some pair) = nat_eq ncc pair.number

-- whether what was captured may be the next message
abbrev pub may_show : Option Outlook → Sight (List ℕ) → Bool
may_show o sight = may_go o sight.at && fits_ncc (ncc_at o sight.at) sight.pair
