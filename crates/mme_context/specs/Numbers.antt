-- The numbers that a refusal tells. This project's own rules: connections, attempts and path switch requests are numbered.
use Rattle.std.specs.Prelude.{◌≡◌, ℕ, List, slice_index, Option, Some, None, Ok}
use Rattle.lte_events.specs.declared.answers.Answer.{Answer}
use Rattle.lte_events.specs.declared.answers.Answer.TheVariants.{OldConnection, Repeated}
use Rattle.lte_machine.specs.CoreState.{Core, CoreLink, CoreInput, CoreRecord}
use Rattle.s1x2_rec.specs.Fields.{Fields, PathSwitchRequest, HandoverRequired, HandoverRequestAck, HandoverNotify, HandoverCancel}

-- the number of the connection, 0 where there is none
abbrev pub held_number : Option (CoreLink (List ℕ) ℕ) → ℕ
held_number None = 0
held_number (Some link) = link.conn

-- a record of another connection than this one: that of the core and that of the record
abbrev pub IsOld : Core (List ℕ) ℕ → Fields → ℕ → ℕ → Type 0
IsOld s (PathSwitchRequest conn station number cell caps) held got = (held ≡ held_number s.link) × (got ≡ conn)
IsOld s (HandoverRequired conn station attempt cell) held got = (held ≡ held_number s.link) × (got ≡ conn)
IsOld s (HandoverRequestAck conn source attempt cell ncc algs air) held got = (held ≡ held_number s.link) × (got ≡ conn)
IsOld s (HandoverNotify conn station cell) held got = (held ≡ held_number s.link) × (got ≡ conn)
IsOld s (HandoverCancel conn source attempt cell) held got = (held ≡ held_number s.link) × (got ≡ conn)
IsOld s other held got = ⊥

-- a request or an attempt of a station that is not above the greatest seen of it: that one, and that of the record
abbrev pub IsSeen : Core (List ℕ) ℕ → Fields → ℕ → ℕ → Type 0
IsSeen s (PathSwitchRequest conn station number cell caps) seen got = (seen ≡ slice_index s.requests station) × (got ≡ number)
IsSeen s (HandoverRequired conn station attempt cell) seen got = (seen ≡ slice_index s.attempts station) × (got ≡ attempt)
IsSeen s other seen got = ⊥

abbrev pub AtRecord : (Fields → ℕ → ℕ → Type 0) → CoreInput (List ℕ) ℕ → ℕ → ℕ → Type 0
AtRecord Is (CoreRecord (Ok content)) own got = Is content.fields own got
AtRecord Is other own got = ⊥

-- what an answer to an input tells
abbrev pub Tells : Core (List ℕ) ℕ → CoreInput (List ℕ) ℕ → Answer → Type 0
Tells s i (OldConnection held got) = AtRecord (IsOld s) i held got
Tells s i (Repeated seen got) = AtRecord (IsSeen s) i seen got
Tells s i other = Unit {0}
