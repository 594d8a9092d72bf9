-- What the lines of every run of the written machine tell of keys.
use Rattle.std.proofs.Common.{ℕ, List, take, refl, sym, subst}
use Rattle.std.specs.List.{AllByRecursion as AllOf}
use Rattle.lte_events.specs.{Ranges.IsEvent, Ranges.IsSetup, declared.events.Event.Event, declared.setups.Setup.Setup}
use Rattle.key_model.specs.{Term.Term, Term.Root, Value.value_of, Value.same_value}
use Rattle.lte_machine.specs.{Wire.Outgoing, Opening.open_by_uses, World.World, Run.first_world, Standing.RunsTo}
use Rattle.lte_machine.specs.Ciphers.{Ciphers, under_keys, octets_of}
use Rattle.lte_machine.specs.Machines.{sender_of, written_machine, written_in_values}
use Rattle.lte_machine.proofs.{Mixed.by_terms, AnnexB.under_keys_ciphers, EventByEvent.each_of_first, CipherLaws.AreCiphers}
use Rattle.lte_properties.specs.Agreement.{CompletedLines, KeysTold}
use Rattle.lte_properties.proofs.{Agreement.Whole.always_ok, Agreement.Lines.lines_of, Agreement.Noted.keys_told, EveryRun.way_is, SameKeys.reflexive, Agreement.World.Conns, Agreement.World.WorldOk}

-- what is made and taken is told, in every run
pub keys_are_told : (c : Ciphers (List ℕ)) (setup : Setup) (events : List Event) → KeysTold (written_machine c) (first_world setup) events
keys_are_told c setup events =
    keys_told same_value Root (octets_of (under_keys value_of c) written_in_values) sender_of
    (open_by_uses same_value (under_keys value_of c)) (first_world setup) events

-- a completed handover is told with a key that the phone had taken, where the run met no coincidence
pub lines_completed : (c : Ciphers (List ℕ))
    → AreCiphers c
    → (setup : Setup) (events : List Event) (w : World Term ℕ (Outgoing Term ℕ))
    → RunsTo c setup events w
    → IsSetup setup → AllOf IsEvent events → CompletedLines (written_machine c) (first_world setup) events
lines_completed c good setup events w is set are =
    lines_of same_value Root (octets_of (under_keys value_of c) written_in_values) sender_of
    (open_by_uses same_value (under_keys value_of c)) setup.cells (first_world setup) events
    (λ n. subst (λ (v : World Term ℕ (Outgoing Term ℕ)). (d : Conns) × WorldOk setup.cells d v) (sym (way_is c good setup events w is n))
    (always_ok same_value reflexive (under_keys value_of c) (under_keys_ciphers value_of c good) written_in_values (by_terms (under_keys value_of c))
    ((λ u e pdu came. refl), (same_value, λ u e pdu came. refl)) setup set (take n events) (each_of_first n events are)))
