-- Separation and holding in every run.
use Rattle.std.proofs.Common.{ℕ, Bool, List, Option}
use Rattle.lte_events.specs.{declared.events.Event.Event, declared.setups.Setup.Setup}
use Rattle.key_model.specs.{Term.Term, Term.Root, HandoverTable.NumberedKey}
use Rattle.s1x2_rec.specs.Fields.{Fields}
use Rattle.lte_machine.specs.{Ciphers.Ciphers, Opening.Opening, Opening.Outcome, Wire.KeyUse, Wire.Outgoing, World.World, Machines.machine_over, Machines.opening_by_octets, Run.first_world}
use Rattle.lte_properties.specs.{ChainHolds.machine_by, ChainHolds.run, Agreement.ObeysAgreement, SharedKeys.SharedApart}
use Rattle.lte_properties.specs.Separation.{GivenTo, SeparationHolds, GivingHolds}
use Rattle.lte_properties.proofs.KeySeparation.All.{HeldAll, run_held, first_held}
use Rattle.lte_properties.proofs.{KeySeparation.Holders.HoldersIn, KeySeparation.Holders.now, KeySeparation.World.run_holds, KeySeparation.World.first_holds, KeySeparation.Run.separates, KeySeparation.Run.made_from, KeySeparation.Attempts.run_apart, KeySeparation.Attempts.first_apart, KeySeparation.Shared.shared_apart}

-- of any machine over terms whose roots are numbered, with any opener
module _ (same : Term → Term → Bool) (octets : Outgoing Term ℕ → List ℕ)
    (sender : Option (Outgoing Term ℕ) → Option (KeyUse Term))
    (opener : Opening Term → List ℕ → Option (Outgoing Term ℕ) → Outcome) (setup : Setup) (events : List Event) where
  abbrev last_world : World Term ℕ (Outgoing Term ℕ)
  last_world = run (machine_by same Root octets sender opener) (first_world setup) events

  pub run_holders : HoldersIn (GivenTo last_world.sent) last_world.tried setup.cells last_world
  run_holders = now setup.cells last_world (run_holds setup.cells same octets sender opener (first_world setup) events (first_holds setup))

  run_all_held : HeldAll last_world
  run_all_held = run_held same Root octets sender opener (first_world setup) events (first_held setup)

  pub separation_holds_by : SeparationHolds (machine_by same Root octets sender opener) setup events
  separation_holds_by = separates setup.cells last_world run_holders run_all_held

  pub giving_holds_by : GivingHolds (machine_by same Root octets sender opener) setup events
  giving_holds_by = (
    made_from setup.cells last_world run_holders,
    (run_apart same Root octets sender opener (first_world setup) events (first_apart setup)).differ,
  )

  -- where phone and stations agree at each obeyed command
  pub sharing_holds_by : ObeysAgreement last_world → SharedApart setup.cells last_world
  sharing_holds_by agree = shared_apart setup.cells last_world run_holders agree

-- of the written machine, whichever test says that two keys are one
module _ (same : Term → Term → Bool) (c : Ciphers Term) (between : Fields → Option (NumberedKey Term ℕ) → List ℕ) (setup : Setup) (events : List Event) where
  pub separation_holds : SeparationHolds (machine_over same c between) setup events
  separation_holds = let m = machine_over same c between in separation_holds_by same m.octets m.sender m.opener setup events

  pub giving_holds : GivingHolds (machine_over same c between) setup events
  giving_holds = let m = machine_over same c between in giving_holds_by same m.octets m.sender m.opener setup events

  -- and where octets open by themselves
  pub separation_holds_in_octets : SeparationHolds (opening_by_octets same c between) setup events
  separation_holds_in_octets = let m = opening_by_octets same c between in separation_holds_by same m.octets m.sender m.opener setup events

  pub giving_holds_in_octets : GivingHolds (opening_by_octets same c between) setup events
  giving_holds_in_octets = let m = opening_by_octets same c between in giving_holds_by same m.octets m.sender m.opener setup events
