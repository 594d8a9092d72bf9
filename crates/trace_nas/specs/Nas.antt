-- NAS security of one phone, as far as MACs tell: contexts and COUNTs (TS 24.301 4.4.3, 5.4.3).
use Rattle.std.specs.Prelude.{ℕ, ◌+◌, Bool, true, false, ◌&&◌, nat_eq, nat_le, nat_lt, if◌then◌else◌, Option, None, Some, List}
use Rattle.alg_suite.specs.declared.integrity.Integrity.{Integrity}
use Rattle.nas_count.specs.Estimate.{nas_count_limit}
use Rattle.rec_base.specs.declared.uses.Dir.{Dir}
use Rattle.rec_base.specs.declared.uses.Dir.TheVariants.{Up, Down}
use Rattle.trace_rules.specs.Rules.{Done}

-- a security context: its KASME, by its place among those given, and its integrity algorithm
pub record Context : Type 0 where
  pub kasme : ℕ
  pub eia : Integrity

-- what a protected message is to contexts: a Security Mode Command, a Security Mode Complete, or any other
pub data Role : Type 0 where
  IsCommand : Role
  IsComplete : Role
  IsOther : Role

-- a protected message as it is sent
pub record Sealed : Type 0 where
  pub dir : Dir
  pub role : Role
  pub context : Context
  pub count : ℕ

-- a protected message as a tap has it: the sequence number, the text as sent, and the MAC (9.1)
pub record Captured : Type 0 where
  pub dir : Dir
  pub role : Role
  pub number : ℕ
  pub text : List ℕ
  pub mac : List ℕ

-- what is sent, and what was captured
pub data NasSight : Type 0 where
  Sent : Sealed → NasSight
  Heard : Captured → NasSight

-- the next COUNT of each direction and KASME: it goes on under each further context of that KASME (4.4.3.1)
abbrev pub Counts : Type 0
Counts = Dir → ℕ → ℕ

-- the context in use, that of a Command which waits for its answer, and the next COUNTs
pub record NasNet : Type 0 where
  pub using : Option Context
  pub offered : Option Context
  pub next : Counts

-- One step of the network for a phone. The core sends a Command at a COUNT; the phone takes it, at a COUNT, or refuses it; a message
-- is sent at a COUNT.
pub data NasMove : Type 0 where
  Command : Context → ℕ → NasMove
  Complete : ℕ → NasMove
  Reject : NasMove
  Send : Dir → ℕ → NasMove

abbrev pub same_dir : Dir → Dir → Bool
same_dir Up Up = true
same_dir Down Down = true
same_dir a b = false

-- where a COUNT was used, the next one is above it
abbrev pub used : Counts → Dir → ℕ → ℕ → Counts
used next dir kasme count d k = if same_dir d dir && nat_eq k kasme then count + 1 else next d k

-- a message under a context at a COUNT, and the contexts behind it
abbrev pub sends : NasNet → Dir → Role → Context → ℕ → Option Context → Option Context → Done NasNet NasSight
sends net dir role context count using offered = record {
  net = record { using = using; offered = offered; next = used net.next dir context.kasme count };
  sent = Some (Sent (record { dir = dir; role = role; context = context; count = count }));
}

-- the COUNT was not used. Some may be lost before a tap, so that it need not be the next
abbrev pub protects : NasNet → Dir → Role → Context → ℕ → Option Context → Option Context → Option (Done NasNet NasSight)
protects net dir role context count using offered =
    if nat_le (net.next dir context.kasme) count && nat_lt count nas_count_limit
    then Some (sends net dir role context count using offered)
    else None

-- the phone takes a Command: its Complete is under the new context, which is in use from then on (5.4.3.3)
abbrev pub completed : NasNet → Option Context → ℕ → Option (Done NasNet NasSight)
completed net None count = None
completed net (Some context) count = protects net Up IsComplete context count (Some context) None

-- it refuses it: the context before goes on (5.4.3.5)
abbrev pub rejected : NasNet → Option Context → Option (Done NasNet NasSight)
rejected net None = None
rejected net (Some context) = Some (record { net = record { using = net.using; offered = None; next = net.next }; sent = None })

-- a message under the context in use (4.4.4)
abbrev pub sent_under : NasNet → Option Context → Dir → ℕ → Option (Done NasNet NasSight)
sent_under net None dir count = None
sent_under net (Some context) dir count = protects net dir IsOther context count net.using net.offered

-- what a step leaves and what it sends, where it is lawful
abbrev pub moved : NasNet → NasMove → Option (Done NasNet NasSight)
moved net (Command context count) = protects net Down IsCommand context count net.using (Some context)
moved net (Complete count) = completed net net.offered count
moved net Reject = rejected net net.offered
moved net (Send dir count) = sent_under net net.using dir count
