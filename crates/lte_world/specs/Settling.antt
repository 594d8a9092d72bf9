-- What is kept of a step, and what is told of it.
use Rattle.std.specs.Prelude.{◌≡◌, ℕ, List, [], ◌∷◌, Option, Some, None, option_map, slice_get, Result, Ok, Err}
use Rattle.std.specs.Str.{bytes_eq}
use Rattle.rec_base.specs.declared.uses.Use.{Use}
use Rattle.lte_events.specs.{Class.class_of, declared.lines.Line.Line, declared.lines.Who.Who, declared.replies.ActorOut.ActorOut, declared.replies.Record.Record, declared.classes.Class.Class}
use Rattle.net_bag.specs.declared.view.BagView.{BagView}
use Rattle.key_terms.specs.{declared.proof.Proof.Proof, declared.row.Holder.Holder}
use Rattle.lte_machine.specs.Calls.{use_in, line_out, actor_out}
use Rattle.lte_machine.specs.{Ciphers.annex_b, Ladder.Clash, Ladder.ladder_of, Machines.Kept, Machines.machine_in_octets, Reply.Reply}
use Rattle.lte_machine.specs.Tuples.{Coincidence, Rows, tuple_coincidence}
use Rattle.lte_machine.specs.World as world
use Rattle.lte_machine.specs.World.{World, world_with, line_of}
use Rattle.store_laws.specs.{Additions.CanKeep, Proofs.proof_of, Rows.holder_of}
use Rattle.lte_world.specs.Networks.{Stores, Fits}

-- a coincidence as an error
abbrev pub coincidence_told : Option (Coincidence (List ℕ)) → Result (Unit {0}) Proof
coincidence_told None = Ok tt
coincidence_told (Some coincidence) = Err (proof_of coincidence)

-- what is told of an event: the line that was written, or a coincidence
abbrev pub told_in : Result (Unit {0}) Proof → Line → Result Line Proof
told_in (Ok done) line = Ok line
told_in (Err proof) line = Err proof

-- the record that was sent, if one was, as it is kept
abbrev pub sent_in : Option Use → Option Record → List BagView
sent_in tuple None = []
sent_in tuple (Some x) = record { to = x.to; octets = x.octets; tuple = tuple } ∷ []

-- its number, and its interface
abbrev pub number_of : ℕ → Option Record → Option (ℕ × Class)
number_of before None = None
number_of before (Some x) = Some (before, class_of x.to)

-- a world after a reply of one of its actors, whose holder is this
abbrev pub after : World (List ℕ) ℕ Kept → world.Holder → Reply (List ℕ) ℕ → World (List ℕ) ℕ Kept
after w holder r = world_with (machine_in_octets annex_b) w holder r

-- these stores are those of a world, and can take what this reply gives out
pub record Settles (stores : Stores) (out : ActorOut) : Type 0 where
  pub before : World (List ℕ) ℕ Kept
  pub by : world.Holder
  pub reply : Reply (List ℕ) ℕ
  pub fits : Fits before stores
  pub is : out ≡ actor_out reply
  pub can : CanKeep (after before by reply)

-- by the coincidence of the record that was accepted, and by that of a derivation
abbrev pub SettledBy : Option (Coincidence (List ℕ))
    → Option (Clash (List ℕ))
    → World (List ℕ) ℕ Kept
    → world.Holder
    → Reply (List ℕ) ℕ
    → Who
    → Stores
    → Result Line Proof
    → Type 0
SettledBy (Some coincidence) clash w holder r who stores result = result ≡ Err (proof_of coincidence)
SettledBy None (Some clash) w holder r who stores result = result ≡ Err (proof_of (Rows clash))
SettledBy None None w holder r who stores result =
    (result ≡ Ok (line_out (line_of (machine_in_octets annex_b) w who r))) × Fits (after w holder r) stores

-- for every world that has these stores, and every reply that says this
abbrev pub SettledAs : Stores → Stores → ActorOut → Option Use → Holder → Who → ℕ → Result Line Proof → Type 0
SettledAs before stores out sender holder who step result =
    (w : World (List ℕ) ℕ Kept) (by : world.Holder) (r : Reply (List ℕ) ℕ)
    → Fits w before → out ≡ actor_out r → holder ≡ holder_of by → w.events ≡ step → CanKeep (after w by r)
    → SettledBy (tuple_coincidence bytes_eq (option_map use_in sender) r.accepted) (ladder_of bytes_eq (after w by r).history).clash w by r who stores result

-- the record at a place, if it is one
abbrev pub at_place : List BagView → Option ℕ → Option BagView
at_place records None = None
at_place records (Some k) = slice_get records k
