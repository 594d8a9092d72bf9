-- What each move does, where it is lawful (TS 33.401 7.2.6, 7.2.8 and 7.2.9), in any reading of keys.
use Rattle.std.specs.Prelude.{ℕ, ◌+◌, Bool, true, false, ◌&&◌, nat_eq, nat_lt, not, if◌then◌else◌, Option, None, Some, List, slice_get}
use Rattle.std.specs.Option.{is_some}
use Rattle.annex_a_keys.specs.Cell.{Place}
use Rattle.key_model.specs.{Reading.Reading, HandoverTable.NumberedKey, HandoverLines.star_line, HandoverLines.change_line}
use Rattle.nas_count.specs.Estimate.{nas_count_limit}
use Rattle.nh_chain.specs.Chain.{ChainState, begun, present_pair, stepped}
use Rattle.nh_chain.specs.Station.{Opened, initial_key, given_key, stored, opened, restored_if}
use Rattle.trace_rules.specs.Rules.{Done}
use Rattle.trace_keys.specs.declared.{moves.Where.Where, moves.Move.Move, moves.Unanswered.Unanswered}
use Rattle.trace_keys.specs.declared.moves.Where.TheVariants.{Setup, Change, Took, Answer, Asked, Request, Over}
use Rattle.trace_keys.specs.declared.moves.Unanswered.TheVariants.{Refused, Lost, Given}
use Rattle.trace_keys.specs.declared.moves.Move.TheVariants.{Renew, Offer, Take, Switch, Ask, Prepare, Require, Arrive, Cancel, Refresh, Leave}
use Rattle.trace_keys.specs.Net.{Target, Offer as OfferOf, Serving, Net, Sight}

-- the same KASME and COUNT, with this connection
abbrev pub with_serving : {K C : Type 0} → Net K C → Serving K C → Net K C
with_serving net serving = record { kasme = net.kasme; count = net.count; serving = Some serving }

-- a key with its NCC, where a tap may stand
abbrev pub sighted : {K C : Type 0} → Reading K C → Where → NumberedKey K C → Sight K
sighted r at pair = record { at = at; pair = Some (record { key = pair.key; number = r.ncc pair.number }) }

-- a KeNB, which goes without an NCC
abbrev pub sighted_kenb : {K : Type 0} → Where → K → Sight K
sighted_kenb at kenb = record { at = at; pair = Some (record { key = kenb; number = 0 }) }

-- a COUNT of which no KeNB of its KASME was taken into use (7.2.6.2)
abbrev pub is_fresh : {K C : Type 0} → Net K C → ℕ → ℕ → Bool
is_fresh net kasme count = nat_lt count nas_count_limit && not (nat_eq kasme net.kasme && nat_lt count net.count)

-- the chain of a KeNB. A core that steps it at once sends NCC 2 in its first answer, any other NCC 1 (7.2.8.1.1)
abbrev pub chain_of : {K C : Type 0} → Reading K C → K → K → Bool → ChainState K C
chain_of r root kenb true = stepped r (begun r root kenb)
chain_of r root kenb false = begun r root kenb

-- a connection that begins with a KeNB
abbrev pub connected : {K C : Type 0} → Reading K C → K → K → ℕ → Place → Bool → Serving K C
connected r root kenb station cell early = record {
  core = chain_of r root kenb early;
  station = station;
  cell = cell;
  key = initial_key r kenb;
  target = None;
  offer = None;
}

-- a KeNB of a KASME at a COUNT (A.3), which is taken into use or not
abbrev pub begins : {K C : Type 0} → Reading K C → K → ℕ → ℕ → ℕ → Place → Bool → Bool → Done (Net K C) (Sight K)
begins r root kasme count station cell early taken =
    let kenb = r.kenb root count in
    record {
      net = record { kasme = kasme; count = if taken then count + 1 else count; serving = Some (connected r root kenb station cell early) };
      sent = Some (sighted_kenb (Setup station) kenb);
    }

abbrev pub renewed : {K C : Type 0} → Reading K C → Option K → Net K C → ℕ → ℕ → ℕ → Place → Bool → Bool → Option (Done (Net K C) (Sight K))
renewed r None net kasme count station cell early taken = None
renewed r (Some root) net kasme count station cell early taken =
    if is_fresh net kasme count then Some (begins r root kasme count station cell early taken) else None

-- a key change on the fly is sent to the serving station (7.2.9.2)
abbrev pub offers : {K C : Type 0} → Reading K C → K → Net K C → Serving K C → ℕ → ℕ → Bool → Done (Net K C) (Sight K)
offers r root net s kasme count early =
    let kenb = r.kenb root count in
    record {
      net = with_serving net (record s { offer = Some (record { kasme = kasme; count = count; kenb = kenb; core = chain_of r root kenb early }) });
      sent = Some (sighted_kenb (Change s.station) kenb);
    }

abbrev pub offered : {K C : Type 0} → Reading K C → Option K → Net K C → Serving K C → ℕ → ℕ → Bool → Option (Done (Net K C) (Sight K))
offered r None net s kasme count early = None
offered r (Some root) net s kasme count early = if is_fresh net kasme count then Some (offers r root net s kasme count early) else None

-- station and phone take it: KeNB* of the new KeNB for the phone's cell is in use, and the chain is that of the new KeNB
abbrev pub taken_on : {K C : Type 0} → Reading K C → Serving K C → OfferOf K C → Done (Net K C) (Sight K)
taken_on r s o = record {
  net = record {
    kasme = o.kasme;
    count = o.count + 1;
    serving = Some (record {
      core = o.core;
      station = s.station;
      cell = s.cell;
      key = given_key (change_line r o.kenb s.cell.pci s.cell.earfcn);
      target = s.target;
      offer = None;
    });
  };
  sent = Some (record { at = Took s.station; pair = None });
}

abbrev pub took : {K C : Type 0} → Reading K C → Serving K C → Option (OfferOf K C) → Option (Done (Net K C) (Sight K))
took r s None = None
took r s (Some o) = if nat_lt o.count nas_count_limit then Some (taken_on r s o) else None

-- a path switch: the core steps its chain, and the station stores the pair where the answer comes (7.2.8.4.2)
abbrev pub stepped_core : {K C : Type 0} → Reading K C → Serving K C → Serving K C
stepped_core r s = record s { core = stepped r s.core }

abbrev pub switched_to : {K C : Type 0} → Reading K C → Serving K C → Serving K C
switched_to r s = record s { core = stepped r s.core; key = stored s.key (present_pair (stepped r s.core)) }

abbrev pub switched : {K C : Type 0} → Reading K C → Net K C → Serving K C → Done (Net K C) (Sight K)
switched r net s = record {
  net = with_serving net (switched_to r s);
  sent = Some (sighted r (Answer s.station) (present_pair (stepped r s.core)));
}

-- what is left by a request to the core whose answer is not seen
abbrev pub unanswered : {K C : Type 0} → Reading K C → Serving K C → Unanswered → Serving K C
unanswered r s Refused = s
unanswered r s Lost = stepped_core r s
unanswered r s Given = switched_to r s

abbrev pub asked : {K C : Type 0} → Reading K C → Net K C → Serving K C → Unanswered → Done (Net K C) (Sight K)
asked r net s what =
    record { net = with_serving net (unanswered r s what); sent = Some (record { at = Asked s.station; pair = None }) }

-- of a target that was prepared before and a new one, that to which the phone may come (TS 36.300 10.1.2.1)
abbrev pub target_of : {K C : Type 0} → Bool → Option (Target K C) → Target K C → Option (Target K C)
target_of true before new = Some new
target_of false before new = before

-- the phone comes to the new target, or there is another
abbrev pub may_come : {K C : Type 0} → Bool → Option (Target K C) → Bool
may_come true before = true
may_come false before = is_some before

-- a handover over X2 is prepared: of the stored pair, or else of the key in use (7.2.8.4.1, 7.2.8.4.2)
abbrev pub prepared : {K C : Type 0} → Reading K C → Net K C → Serving K C → Opened K C → ℕ → Place → Bool → Done (Net K C) (Sight K)
prepared r net s o station cell goes = record {
  net = with_serving net (record s {
    key = o.key;
    target = target_of goes s.target (record { station = station; cell = cell; star = o.star; spent = o.spent });
  });
  sent = Some (sighted r (Over s.station station) o.star);
}

-- to another station: within one there is no X2
abbrev pub prepared_at : {K C : Type 0} → Reading K C → Net K C → Serving K C → ℕ → Place → Bool → Option (Done (Net K C) (Sight K))
prepared_at r net s station cell goes =
    if not (nat_eq station s.station) && may_come goes s.target then Some (prepared r net s (opened r s.key cell) station cell goes) else None

-- a handover over S1 is prepared: the core steps its chain, and the target makes KeNB* of the pair (7.2.8.4.3)
abbrev pub required : {K C : Type 0} → Reading K C → Net K C → Serving K C → ℕ → Place → Bool → Done (Net K C) (Sight K)
required r net s station cell goes =
    let pair = present_pair (stepped r s.core) in
    record {
      net = with_serving net (record s {
        core = stepped r s.core;
        target = target_of goes s.target (record { station = station; cell = cell; star = star_line r pair cell.pci cell.earfcn; spent = None });
      });
      sent = Some (sighted r (Request station) pair);
    }

abbrev pub required_at : {K C : Type 0} → Reading K C → Net K C → Serving K C → ℕ → Place → Bool → Option (Done (Net K C) (Sight K))
required_at r net s station cell goes = if may_come goes s.target then Some (required r net s station cell goes) else None

-- the phone comes to the target
abbrev pub arrived : {K C : Type 0} → Net K C → Serving K C → Option (Target K C) → Option (Done (Net K C) (Sight K))
arrived net s None = None
arrived net s (Some t) = Some (record {
  net = with_serving net (record {
    core = s.core;
    station = t.station;
    cell = t.cell;
    key = given_key t.star;
    target = None;
    offer = None;
  });
  sent = None;
})

-- the handover is cancelled or refused: the pair that was used for it comes back
abbrev pub cancelled : {K C : Type 0} → Net K C → Serving K C → Option (Target K C) → Option (Done (Net K C) (Sight K))
cancelled net s None = None
cancelled net s (Some t) = Some (record {
  net = with_serving net (record s { key = restored_if s.key t.spent; target = None });
  sent = None;
})

-- a handover, a re-establishment or a resumption within the station, over the air alone (7.2.8.4.1, 7.2.9.3, 7.2.11)
abbrev pub refreshed : {K C : Type 0} → Net K C → Serving K C → Opened K C → Place → Done (Net K C) (Sight K)
refreshed net s o cell = record {
  net = with_serving net (record s { cell = cell; key = given_key o.star; target = None });
  sent = None;
}

-- to a cell of the serving station
abbrev pub refreshed_at : {K C : Type 0} → Reading K C → Net K C → Serving K C → ℕ → Place → Option (Done (Net K C) (Sight K))
refreshed_at r net s station cell =
    if nat_eq station s.station then Some (refreshed net s (opened r s.key cell) cell) else None

-- a move of a phone that is connected
abbrev pub moved_in : {K C : Type 0} → Reading K C → List K → Net K C → Serving K C → Move → Option (Done (Net K C) (Sight K))
moved_in r kasmes net s (Renew kasme count station cell early taken) = None
moved_in r kasmes net s (Offer kasme count early) = offered r (slice_get kasmes kasme) net s kasme count early
moved_in r kasmes net s Take = took r s s.offer
moved_in r kasmes net s Switch = Some (switched r net s)
moved_in r kasmes net s (Ask what) = Some (asked r net s what)
moved_in r kasmes net s (Prepare station cell goes) = prepared_at r net s station cell goes
moved_in r kasmes net s (Require station cell goes) = required_at r net s station cell goes
moved_in r kasmes net s Arrive = arrived net s s.target
moved_in r kasmes net s Cancel = cancelled net s s.target
moved_in r kasmes net s (Refresh station cell) = refreshed_at r net s station cell
moved_in r kasmes net s Leave = Some (record { net = record net { serving = None }; sent = None })

abbrev pub if_connected : {K C : Type 0} → Reading K C → List K → Net K C → Option (Serving K C) → Move → Option (Done (Net K C) (Sight K))
if_connected r kasmes net None move = None
if_connected r kasmes net (Some s) move = moved_in r kasmes net s move

-- what a move leaves and what it sends, where it is lawful
abbrev pub moved : {K C : Type 0} → Reading K C → List K → Net K C → Move → Option (Done (Net K C) (Sight K))
moved r kasmes net (Renew kasme count station cell early taken) =
    renewed r (slice_get kasmes kasme) net kasme count station cell early taken
moved r kasmes net move = if_connected r kasmes net net.serving move
