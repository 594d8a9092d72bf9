-- What an actor gives out in a step, and what a run tells of agreement beside it.
use Rattle.std.specs.Prelude.{ℕ, Bool, false, List, [], Option, None}
use Rattle.alg_choice.specs.declared.algs.Algs.{Algs}
use Rattle.annex_a_keys.specs.Cell.{Place}
use Rattle.rec_base.specs.declared.ways.Way.{Way}
use Rattle.lte_events.specs.declared.answers.Answer.{Answer}
use Rattle.key_model.specs.{Derivation.Derivation, HandoverTable.NumberedKey, HandoverLines.map_numbered}
use Rattle.lte_machine.specs.Wire.{KeyUse, Outgoing}

-- the key of a step: its NCC, how the actor came by it, and the key itself
pub record Note (K : Type 0) : Type 0 where
  pub ncc : ℕ
  pub way : Way
  pub key : K

-- the source of a handover and its attempt number
pub record Origin : Type 0 where
  pub source : ℕ
  pub attempt : ℕ

-- how a station came to make a key for an air address
pub data From (K : Type 0) : Type 0 where
  -- by the setup of a context
  BySetup : From K
  -- by an attempt of a handover
  ByAttempt : Origin → From K
  -- by a change of the key of its context, which is this KeNB
  ByChange : K → From K

-- what a station made when it drew an air address, for a context or for a preparation
pub record Made (K C : Type 0) : Type 0 where
  -- the station
  pub station : ℕ
  -- the air address drawn
  pub air : ℕ
  -- the connection
  pub conn : ℕ
  -- the cell
  pub cell : Place
  -- the KeNB or KeNB*
  pub key : K
  -- its chain number
  pub number : C
  -- the algorithms chosen
  pub algs : Algs
  -- how it came to it
  pub from : From K

-- the kind of a handover: who makes its KeNB*
pub data Handover (K C : Type 0) : Type 0 where
  -- over X2 or within the station: the source, which made this one (TS 33.401 7.2.8.4.1 and 7.2.8.4.2)
  BySource : NumberedKey K C → Handover K C
  -- over S1: the target, of the NH that the core gives it (7.2.8.4.3)
  ByTarget : Handover K C

-- an attempt of a handover, as its source opened it
pub record Tried (K C : Type 0) : Type 0 where
  -- the source
  pub station : ℕ
  -- the number of the attempt
  pub attempt : ℕ
  -- the target station
  pub target : ℕ
  -- the connection
  pub conn : ℕ
  -- the target cell
  pub cell : Place
  -- the KeNB of the context under which it was opened
  pub key : K
  -- its chain number
  pub number : C
  -- its kind, with KeNB* where the source made it
  pub kind : Handover K C

-- a connection of the phone as it was before an order
pub record Before (K C : Type 0) : Type 0 where
  -- the station where the phone was connected
  pub station : ℕ
  -- its KeNB
  pub key : K
  -- its chain number
  pub number : C

-- how the phone came to take a key
pub data Came (K C : Type 0) : Type 0 where
  -- the security of a connection started
  Secured : Came K C
  -- it obeyed a handover command
  Commanded : Before K C → Came K C
  -- it obeyed a key change: the KASME of its NAS context in use
  Changed : Before K C → K → Came K C

-- a key that the phone took
pub record Took (K C : Type 0) : Type 0 where
  -- the station
  pub station : ℕ
  -- the air address there
  pub air : ℕ
  -- the KeNB or KeNB*
  pub key : K
  -- its chain number
  pub number : C
  -- the algorithms
  pub algs : Algs
  -- how it came to it
  pub came : Came K C

-- what a step gives out
pub record Reply (K C : Type 0) : Type 0 where
  pub answer : Answer
  pub sent : Option (Outgoing K C)
  pub opened : Option (List ℕ)
  -- the derivations in order
  pub derived : List (Derivation K)
  -- the key in a record that was read, also where the step then refuses it
  pub received : Option K
  -- the integrity use of a record whose check held, also where the step then refuses it
  pub accepted : Option (KeyUse K)
  pub note : Option (Note K)
  pub alarm : Bool
  pub made : Option (Made K C)
  pub tried : Option (Tried K C)
  pub took : Option (Took K C)

-- an answer alone
abbrev pub only : {K C : Type 0} → Answer → Reply K C
only answer = record {
  answer = answer;
  sent = None;
  opened = None;
  derived = [];
  received = None;
  accepted = None;
  note = None;
  alarm = false;
  made = None;
  tried = None;
  took = None;
}

-- an answer, with the key that was received and the use that was accepted
abbrev pub finished : {K C : Type 0} → Option K → Option (KeyUse K) → Reply K C → Reply K C
finished received accepted reply = record reply { received = received; accepted = accepted }

abbrev pub map_note : {K L : Type 0} → (K → L) → Note K → Note L
map_note f n = record { ncc = n.ncc; way = n.way; key = f n.key }

abbrev pub map_from : {K L : Type 0} → (K → L) → From K → From L
map_from f BySetup = BySetup
map_from f (ByAttempt origin) = ByAttempt origin
map_from f (ByChange key) = ByChange (f key)

abbrev pub map_made : {K C L D : Type 0} → (K → L) → (C → D) → Made K C → Made L D
map_made f g m = record {
  station = m.station;
  air = m.air;
  conn = m.conn;
  cell = m.cell;
  key = f m.key;
  number = g m.number;
  algs = m.algs;
  from = map_from f m.from;
}

abbrev pub map_handover : {K C L D : Type 0} → (K → L) → (C → D) → Handover K C → Handover L D
map_handover f g (BySource star) = BySource (map_numbered f g star)
map_handover f g ByTarget = ByTarget

abbrev pub map_tried : {K C L D : Type 0} → (K → L) → (C → D) → Tried K C → Tried L D
map_tried f g t = record {
  station = t.station;
  attempt = t.attempt;
  target = t.target;
  conn = t.conn;
  cell = t.cell;
  key = f t.key;
  number = g t.number;
  kind = map_handover f g t.kind;
}

abbrev pub map_before : {K C L D : Type 0} → (K → L) → (C → D) → Before K C → Before L D
map_before f g b = record { station = b.station; key = f b.key; number = g b.number }

abbrev pub map_came : {K C L D : Type 0} → (K → L) → (C → D) → Came K C → Came L D
map_came f g Secured = Secured
map_came f g (Commanded before) = Commanded (map_before f g before)
map_came f g (Changed before root) = Changed (map_before f g before) (f root)

abbrev pub map_took : {K C L D : Type 0} → (K → L) → (C → D) → Took K C → Took L D
map_took f g t = record {
  station = t.station;
  air = t.air;
  key = f t.key;
  number = g t.number;
  algs = t.algs;
  came = map_came f g t.came;
}

-- keys and chain numbers out of sight: what the choice of a row may not look at
abbrev pub unseen : {K : Type 0} → K → Unit {0}
unseen key = tt
