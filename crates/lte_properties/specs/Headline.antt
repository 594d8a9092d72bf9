-- The headline of a setup and its events, sentence by sentence. It speaks of every step and world by which the run goes on:
-- of all of them where no event is a coincidence, and else of those before it.
use Rattle.std.specs.Prelude.{◌≡◌, ℕ, List, map, take}
use Rattle.lte_events.specs.{declared.events.Event.Event, declared.setups.Setup.Setup}
use Rattle.key_model.specs.Term.{Term}
use Rattle.lte_machine.specs.BothRuns.{written_run, written_report, octet_run, octet_report}
use Rattle.lte_machine.specs.ByEvent.{EndsAt, IsStep, IsValueOfRun, IsOctetStep, IsValueOfStep}
use Rattle.lte_machine.specs.{Carried.report_value, Ciphers.annex_b, Machines.Kept, Machines.machine_in_octets, Opening.open_octets, Reply.Took, Tuples.Coincidence, Wire.Outgoing, World.World, World.Line}
use Rattle.lte_machine.specs.Run.{Running, Stopped, first_world}
use Rattle.lte_properties.specs.{Accounts.UsesAreThoseSent, BySteps.TakesAt, BySteps.Follows, Freshness.NoUseTwice, Separation.Separates, SharedKeys.SharedApart}
use Rattle.lte_properties.specs.Agreement.{MadeIsTold, TookIsTold, NoneThere, JoinedAgree, TellsNote, Agrees}
use Rattle.lte_properties.specs.InOctets.{EachWorld, NoKasmeHeld, BringsPacket, TellsText}

-- in each world over terms by which the run goes on
abbrev pub EachWritten : Setup → List Event → (World Term ℕ (Outgoing Term ℕ) → Type 0) → Type 0
EachWritten setup events P = (n : ℕ) (w : World Term ℕ (Outgoing Term ℕ)) → written_run setup (take n events) ≡ Running w → P w

pub record Headline (setup : Setup) (events : List Event) : Type 0 where
  -- the report is the written machine's run in values, coincidence and its place included
  pub report : octet_report setup events ≡ map report_value (written_report setup events)
  -- and each world in octets by which it goes on is the value of one over terms
  pub values : (n : ℕ) (u : World (List ℕ) ℕ Kept) → octet_run setup (take n events) ≡ Running u → IsValueOfRun setup (take n events) u
  -- and so is each step of it, with its line: what is said of steps below is said of them
  pub steps : (k : ℕ) (v : World (List ℕ) ℕ Kept) (e : Event) (u : World (List ℕ) ℕ Kept) (line : Line (List ℕ)) →
      IsOctetStep setup events k v e u line → IsValueOfStep setup events k v e u line
  -- a run that is over has a longest prefix by which it went on, and the coincidence is the next event
  pub ends : (coincidence : Coincidence (List ℕ)) → octet_run setup events ≡ Stopped coincidence →
      EndsAt (open_octets annex_b) (machine_in_octets annex_b) (first_world setup) events coincidence
  -- each key that a station makes for an air address, and each that the phone takes, is told in the line of its step, and the
  -- phone's lines tell no other
  pub lines : (k : ℕ) (w : World Term ℕ (Outgoing Term ℕ)) (e : Event) (u : World Term ℕ (Outgoing Term ℕ)) (line : Line Term) →
      IsStep setup events k w e u line → MadeIsTold w u line × TookIsTold w u line
  -- each key that the phone takes was made for that air address at an earlier step. A phone that obeys a handover command fewer
  -- than eight chain steps ahead, or a key change made from its own authentication, takes the target's key, and both lines tell
  -- it; further ahead it takes another. The target is never behind the phone
  pub agreement : (k : ℕ) (x : Took Term ℕ) (line : Line Term) → TakesAt setup events k x line → Follows setup events k x line
  -- and in each world, over terms with their chain numbers: one thing was made for an air address; the phone has what it took
  -- last; phone and station have one key, chain number and algorithms wherever both are at one air address; a completed
  -- handover leaves a key that the phone had taken; no order was obeyed under a key that was eight or more steps ahead
  pub agrees : EachWritten setup events Agrees
  -- where the key differs no context ever has that air address, before or after
  pub never : (m : ℕ) (v : World Term ℕ (Outgoing Term ℕ)) → written_run setup (take m events) ≡ Running v →
      EachWritten setup (take m events) (λ w. NoneThere w v)
  -- the line that tells that a handover completed tells a key that the phone had taken there, whatever the distance
  pub told : (k : ℕ) (w : World Term ℕ (Outgoing Term ℕ)) (e : Event) (u : World Term ℕ (Outgoing Term ℕ)) (line : Line Term) →
      IsStep setup events k w e u line → TellsNote u line.who line.note
  -- phone and station have one key, in octets, wherever they are at one air address
  pub joined : EachWorld setup events JoinedAgree
  -- intact packets in a ready receiver's COUNT window open to what was sent
  pub opening : (k : ℕ) (sent : List ℕ) → BringsPacket setup events k sent → TellsText setup events k sent
  -- no key, COUNT, bearer and direction repeats, in octets
  pub freshness : EachWorld setup events (λ u. NoUseTwice u.uses)
  -- over the uses of all that was sent
  pub all_uses : EachWritten setup events UsesAreThoseSent
  -- stations other than source and target cannot derive a shared vertical key, and over S1 none but the target
  pub shared : EachWritten setup events (SharedApart setup.cells)
  -- who can derive what, of all keys
  pub separation : EachWritten setup events (Separates setup.cells)
  -- no station ever held the octets of a KASME
  pub no_kasme : EachWorld setup events NoKasmeHeld
