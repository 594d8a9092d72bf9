-- No NH goes twice from a core to a station (TS 33.401 7.2.8.4).
use Rattle.std.specs.Prelude.{◌≡◌, ℕ, List, Option, Some, None, option_map, slice_get, Result, Ok, Err}
use Rattle.rec_base.specs.declared.faults.RecFault.{RecFault}
use Rattle.lte_events.specs.declared.addresses.Address.{Address}
use Rattle.key_model.specs.HandoverTable.{NumberedKey}
use Rattle.s1x2_rec.specs.{Content.Content, Reading.read_core}
use Rattle.s1x2_rec.specs.Fields.{Fields, PathSwitchAnswer, HandoverRequest}
use Rattle.lte_machine.specs.{Machines.Kept, World.World}

-- the NH in a record of the kinds 23 and 25
abbrev pub nh_of : Fields → Option (NumberedKey (List ℕ) ℕ) → Option (List ℕ)
nh_of (PathSwitchAnswer conn number) pair = option_map (λ p. p.key) pair
nh_of (HandoverRequest conn source attempt cell caps) pair = option_map (λ p. p.key) pair
nh_of other key = None

abbrev pub nh_read : Result (Content (List ℕ) ℕ) RecFault → Option (List ℕ)
nh_read (Ok content) = nh_of content.fields content.key
nh_read (Err fault) = None

-- in a record that was sent to a station on S1, as the cores alone send there
abbrev pub nh_to : Address → List ℕ → Option (List ℕ)
nh_to (Address.StationS1 station) octets = nh_read (read_core octets)
nh_to other octets = None

abbrev pub nh_sent : Kept → Option (List ℕ)
nh_sent x = nh_to x.to x.octets

-- no two records carry one NH
abbrev pub NoNhTwice : World (List ℕ) ℕ Kept → Type 0
NoNhTwice u =
    (i j : ℕ) (x y : Kept) (nh : List ℕ) → slice_get u.sent i ≡ Some x → slice_get u.sent j ≡ Some y →
    nh_sent x ≡ Some nh → nh_sent y ≡ Some nh → i ≡ j
