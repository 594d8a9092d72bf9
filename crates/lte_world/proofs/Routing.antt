-- An event and what comes to an address, as turns of the actors.
use Rattle.std.proofs.Common.{◌≡◌, refl, sym, subst, ℕ, List, Option, None, Result}
use Rattle.rec_base.specs.{declared.uses.Use.Use, declared.bearers.Bearer.Bearer}
use Rattle.lte_events.specs.{declared.acts.PhoneAct.PhoneAct, declared.acts.StationAct.StationAct, declared.acts.CoreAct.CoreAct, declared.addresses.Address.Address, declared.events.Event.Event, declared.inputs.PhoneIn.PhoneIn, declared.inputs.StationIn.StationIn, declared.inputs.CoreIn.CoreIn, declared.lines.Line.Line}
use Rattle.key_terms.specs.declared.proof.Proof.{Proof}
use Rattle.lte_machine.specs.{CoreState.CoreRecord, Step.core_attempts, Step.station_attempts, World.core_turn, World.station_turn}
use Rattle.lte_machine.specs.StationState.{StationRecord, OnS1, OnX2}
use Rattle.store_laws.specs.Additions.{CanKeep}
use Rattle.lte_world.specs.Systems.{octets, Actors, CameOut, comes, PhoneTurns, CoreTurns, StationTurns, Happens, Arrives}

module _ (a b : Actors) (step : ℕ) (result : Result Line Proof) where
  -- ACTS

  pub phone_happens : (act copy : PhoneAct) → copy ≡ act → PhoneTurns a b (PhoneIn.Act copy) None step result → Happens a b (Event.Phone act) step result
  unfolding PhoneTurns Happens
  phone_happens act copy is h = subst (λ x. Happens a b (Event.Phone x) step result) is (λ w are ev can. h w None are refl ev can)

  pub core_happens : (act copy : CoreAct) → copy ≡ act → CoreTurns a b (CoreIn.Act copy) None step result → Happens a b (Event.Core act) step result
  unfolding CoreTurns Happens
  core_happens act copy is h = subst (λ x. Happens a b (Event.Core x) step result) is (λ w are ev can. h w None are refl ev can)

  pub station_happens : (id : ℕ) (act copy : StationAct)
      → copy ≡ act
      → StationTurns a b id (StationIn.Act copy) None step result
      → Happens a b (Event.Station id act) step result
  unfolding StationTurns Happens
  station_happens id act copy is h = subst (λ x. Happens a b (Event.Station id x) step result) is (λ w are ev can. h w None are refl ev can)

  -- ARRIVALS

  module _ (pdu copy : List ℕ) (same : copy ≡ pdu) (sender : Option Use) where
    abbrev Come : Address → List ℕ → Type 0
    Come to text = Arrives a b to text sender step result

    pub phone_nas_comes : (to : Address) → to ≡ Address.PhoneNas → PhoneTurns a b (PhoneIn.Nas copy) sender step result → Come to pdu
    unfolding PhoneTurns Arrives
    phone_nas_comes to is h = subst (λ x. Come x pdu) (sym is) (subst (Come Address.PhoneNas) same (λ w came are from ev reads can. h w came are from ev can))

    pub phone_air_comes : (station air : ℕ) (bearer : Bearer) (to : Address)
        → to ≡ Address.Phone station air bearer
        → PhoneTurns a b (PhoneIn.Air station air bearer copy) sender step result
        → Come to pdu
    unfolding PhoneTurns Arrives
    phone_air_comes station air bearer to is h =
        subst (λ x. Come x pdu) (sym is)
        (subst (Come (Address.Phone station air bearer)) same
        (λ w came are from ev reads can. h w came are from ev can))

    pub core_nas_comes : (to : Address) → to ≡ Address.CoreNas → CoreTurns a b (CoreIn.Nas copy) sender step result → Come to pdu
    unfolding CoreTurns Arrives
    core_nas_comes to is h = subst (λ x. Come x pdu) (sym is) (subst (Come Address.CoreNas) same (λ w came are from ev reads can. h w came are from ev can))

    pub core_s1_comes : (to : Address) → to ≡ Address.CoreS1 → CoreTurns a b (CoreIn.S1 copy) sender step result → Come to pdu
    unfolding CoreTurns Arrives
    core_s1_comes to is h = subst (λ x. Come x pdu) (sym is) (subst (Come Address.CoreS1) same (λ w came are from ev reads can.
        subst (λ x. CameOut (comes w (core_attempts octets w (CoreRecord x) came) (core_turn octets w (CoreRecord x) came)) b result) (sym reads)
        (h w came are from ev (subst (λ x. CanKeep (core_turn octets w (CoreRecord x) came).0) reads can))))

    pub station_air_comes : (id air : ℕ) (bearer : Bearer) (to : Address)
        → to ≡ Address.StationAir id air bearer
        → StationTurns a b id (StationIn.Air air bearer copy) sender step result
        → Come to pdu
    unfolding StationTurns Arrives
    station_air_comes id air bearer to is h =
        subst (λ x. Come x pdu) (sym is)
        (subst (Come (Address.StationAir id air bearer)) same
        (λ w came are from ev reads can. h w came are from ev can))

    pub station_s1_comes : (id : ℕ) (to : Address) → to ≡ Address.StationS1 id → StationTurns a b id (StationIn.S1 copy) sender step result → Come to pdu
    unfolding StationTurns Arrives
    station_s1_comes id to is h = subst (λ x. Come x pdu) (sym is) (subst (Come (Address.StationS1 id)) same (λ w came are from ev reads can.
        subst (λ x. CameOut (comes w (station_attempts octets w id (StationRecord OnS1 x) came)
        (station_turn octets w id (StationRecord OnS1 x) came))
        b result)
        (sym reads)
        (h w came are from ev (subst (λ x. CanKeep (station_turn octets w id (StationRecord OnS1 x) came).0) reads can))))

    pub station_x2_comes : (id : ℕ) (to : Address) → to ≡ Address.StationX2 id → StationTurns a b id (StationIn.X2 copy) sender step result → Come to pdu
    unfolding StationTurns Arrives
    station_x2_comes id to is h = subst (λ x. Come x pdu) (sym is) (subst (Come (Address.StationX2 id)) same (λ w came are from ev reads can.
        subst (λ x. CameOut (comes w (station_attempts octets w id (StationRecord OnX2 x) came)
        (station_turn octets w id (StationRecord OnX2 x) came))
        b result)
        (sym reads)
        (h w came are from ev (subst (λ x. CanKeep (station_turn octets w id (StationRecord OnX2 x) came).0) reads can))))
