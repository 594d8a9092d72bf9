-- The machine over terms and the machine in octets agree; so the run in octets is the value of the run in terms.
use Rattle.std.proofs.Common.{◌≡◌, ℕ, List, map, Option, Some, None, refl, ap, sym, ◌∙◌}
use Rattle.std.specs.{Prelude.option_map, List.AllByRecursion as AllOf}
use Rattle.lte_events.specs.{Ranges.IsEvent, declared.events.Event.Event}
use Rattle.key_model.specs.{Chain.ncc_of, Term.Term, Use.map_use, Value.value_of, Value.same_value}
use Rattle.key_model.proofs.ReadingFacts.{values_carry}
use Rattle.lte_machine.specs.Wire.{KeyUse, Ciphering, map_ciphering, Outgoing, SealedNas, PlainNas, SealedRrc, UserPacket, Between, map_outgoing}
use Rattle.lte_machine.specs.Ciphers.{Ciphers, under_keys, nas_octets, srb_octets, drb_octets}
use Rattle.lte_machine.specs.Opening.{Opening, OpensNas, OpensSrb, open_octets}
use Rattle.lte_machine.specs.{Carried.run_value, Carried.report_value, World.Machine, World.World}
use Rattle.lte_machine.specs.Machines.{Kept, machine_in_octets, opening_by_octets, written_machine, written_in_values, kept_in_values}
use Rattle.lte_machine.specs.Run.{RunState, replay, report}
use Rattle.lte_machine.proofs.{AnnexB.under_keys_ciphers, AnnexB.values_respect, NextSame.replay_same, NextSame.tale_same, WorldMap.Agree, CipherLaws.AreCiphers, MapSteps.map_opening}
use Rattle.lte_machine.proofs.ReplayMap.{Keeps, Holds, replay-map, report-map}

module _ {K L : Type 0} (f : K → L) (c : Ciphers L) where
  nas_octets-map : (header : ℕ) (u : KeyUse K) (e : Option (Ciphering K)) (text : List ℕ)
      → nas_octets c header (map_use f u) (option_map (map_ciphering f) e) text
      ≡ nas_octets (under_keys f c) header u e text
  unfolding nas_octets
  nas_octets-map header u None text = refl
  nas_octets-map header u (Some e) text = refl

  srb_octets-map : (u : KeyUse K) (e : Option (Ciphering K)) (text : List ℕ)
      → srb_octets c (map_use f u) (option_map (map_ciphering f) e) text ≡ srb_octets (under_keys f c) u e text
  unfolding srb_octets
  srb_octets-map u None text = refl
  srb_octets-map u (Some e) text = refl

  drb_octets-map : (e : Ciphering K) (text : List ℕ) → drb_octets c (map_ciphering f e) text ≡ drb_octets (under_keys f c) e text
  unfolding drb_octets
  drb_octets-map e text = refl

  pub open_octets-map : (p : Opening K) (pdu : List ℕ) → open_octets c (map_opening f p) pdu ≡ open_octets (under_keys f c) p pdu
  unfolding open_octets
  open_octets-map (OpensNas u None) pdu = refl
  open_octets-map (OpensSrb u None) pdu = refl
  open_octets-map other pdu = refl

module _ (c : Ciphers (List ℕ)) where
  -- the machine over terms that opens by octets, and the machine in octets
  abbrev m : Machine Term ℕ (Outgoing Term ℕ)
  m = opening_by_octets same_value (under_keys value_of c) written_in_values

  abbrev q : Machine (List ℕ) ℕ Kept
  q = machine_in_octets c

  kept-map : (o : Option (Outgoing Term ℕ)) → option_map (kept_in_values c) (m.keep o) ≡ q.keep (option_map (map_outgoing value_of ncc_of) o)
  kept-map None = refl
  kept-map (Some x) = refl

  octets-map : (x : Outgoing Term ℕ) → q.octets (kept_in_values c x) ≡ m.octets x
  octets-map (SealedNas dir header u e text) = nas_octets-map value_of c header u e text
  octets-map (PlainNas octets) = refl
  octets-map (SealedRrc dir station air srb u e text) = srb_octets-map value_of c u e text
  octets-map (UserPacket dir station air drb e text) = drb_octets-map value_of c e text
  octets-map (Between to fields key) = refl

  address-map : (x : Outgoing Term ℕ) → q.address (kept_in_values c x) ≡ m.address x
  address-map (PlainNas octets) = refl
  address-map other = refl

  sender-map : (o : Option (Outgoing Term ℕ)) → q.sender (option_map (kept_in_values c) o) ≡ option_map (map_use value_of) (m.sender o)
  sender-map (Some (PlainNas octets)) = refl
  sender-map other = refl

  pub agree : Agree m q value_of ncc_of (kept_in_values c)
  agree = record {
    carries = values_carry;
    root = λ number octets. refl;
    keep = kept-map;
    octets = octets-map;
    address = address-map;
    sender = sender-map;
    opener = λ p pdu o. open_octets-map value_of c p pdu;
  }

  abbrev pub KeepsBack : (World Term ℕ (Outgoing Term ℕ) → Type 0) → Type 0
  KeepsBack I = Keeps m q value_of ncc_of (kept_in_values c) agree (open_octets (under_keys value_of c)) (open_octets c) (open_octets-map value_of c) I

  module _ (good : AreCiphers c) (I : World Term ℕ (Outgoing Term ℕ) → Type 0) (k : KeepsBack I) where
    abbrev Is : RunState Term ℕ (Outgoing Term ℕ) → Type 0
    Is r = Holds m q value_of ncc_of (kept_in_values c) agree (open_octets (under_keys value_of c)) (open_octets c) (open_octets-map value_of c) I k r

    -- the run in octets is the value of the run of the written machine
    pub run_in_octets : (r : RunState Term ℕ (Outgoing Term ℕ)) (es : List Event) → AllOf IsEvent es → Is r
        → replay (open_octets c) (machine_in_octets c) (run_value c r) es ≡ run_value c (replay (open_octets (under_keys value_of c)) (written_machine c) r es)
    run_in_octets r es are i =
        sym (replay-map m q value_of ncc_of (kept_in_values c) agree (open_octets (under_keys value_of c))
        (open_octets c) (open_octets-map value_of c) I k r es are i)
        ∙ ap (run_value c) (sym (replay_same same_value (under_keys value_of c) (under_keys_ciphers value_of c good) (values_respect c) written_in_values r es))

    -- and what is told of its events is the value of what is told of the written machine's
    pub tale_in_octets : (r : RunState Term ℕ (Outgoing Term ℕ)) (es : List Event) → AllOf IsEvent es → Is r
        → report (open_octets c) (machine_in_octets c) (run_value c r) es
        ≡ map report_value (report (open_octets (under_keys value_of c)) (written_machine c) r es)
    tale_in_octets r es are i =
        sym (report-map m q value_of ncc_of (kept_in_values c) agree (open_octets (under_keys value_of c))
        (open_octets c) (open_octets-map value_of c) I k r es are i)
        ∙ ap (map report_value) (sym (tale_same same_value (under_keys value_of c) (under_keys_ciphers value_of c good)
        (values_respect c) written_in_values r es))
