-- What is so of `drive` at each status.
use Rattle.std.proofs.Common.{◌≡◌, ◌≢◌, ◌⊎◌, ℕ, ◌<◌, inl, inr, Option, Some, None, List, length, Result, Ok, Err, refl, sym, subst, arith}
use Rattle.std.specs.{Option.IfSome, Prelude.IfErr}
use Rattle.edge_io.specs.{Told.Told, Cause.Rose, Peers.PeersTold}
use Rattle.edge_io.proofs.Known.{none_of}
use Rattle.lte_events.specs.{declared.events.Event.Event, declared.setups.Setup.Setup}
use Rattle.scenario_file.specs.{declared.faults.ScenarioFault.ScenarioFault, Reading.reading_of, Refused.refused_text}
use Rattle.scenario_file.specs.declared.faults.ScenarioFault.TheVariants as fault
use Rattle.lte_sec_app.specs.declared.status.Status.{Status}
use Rattle.lte_sec_app.specs.declared.status.Status.TheVariants.{Done, Memory, Refused, ReadFault, WriteFault, Coincidence, TooLong}
use Rattle.lte_sec_app.specs.Run.{Output, most_octets, CommandAt, WritesAt}
use Rattle.lte_sec_app.specs.Scenario.{run_output, refusal_output, RefusedBy, IsRefused}
use Rattle.lte_sec_app.specs.Drive.{TextAt, DriveAt, IsUnread, TextGoes, DriveIsComplete}
use Rattle.lte_sec_app.proofs.Refusing.{is_memory}

where_some : {A : Type 0} (o : Option A) (P : A → Type 0) → ((a : A) → P a) → IfSome o P
where_some None P all = tt
where_some (Some a) P all = all a

-- NOTHING WAS DONE

nothing_done : (r : Result (Setup × List Event) ScenarioFault) (out : Told) (peers : Option PeersTold) → TextAt r Memory out out peers peers
nothing_done (Ok scenario) out peers = inl (refl, refl)
nothing_done (Err fault) out peers = (none_of out.written (refused_text fault), refl)

memory_goes : (r : Result (Setup × List Event) ScenarioFault) (out out' : Told) (peers : Option PeersTold)
    (faults faults' : ℕ)
    → TextGoes r Memory out out' peers faults faults'
memory_goes (Ok scenario) out out' peers faults faults' = where_some peers _ (λ told gives calls writes. inr refl)
memory_goes (Err fault) out out' peers faults faults' = λ writes. inr refl

pub unread : (status : Status) (input input' out : Told) (peers : Option PeersTold) → IsUnread status
    → ((output : List ℕ → Output) (o : Told) → CommandAt output status input input' o o) → DriveAt status input input' out out peers peers
unread Memory input input' out peers which at = inl (refl, refl)
unread ReadFault input input' out peers which at = let a = at run_output out in (a.0, a.1, a.2, (refl, refl))
unread TooLong input input' out peers which at = let a = at run_output out in (a.0, a.1, (refl, refl))
unread status input input' out peers which at = absurd which

pub unread_complete : (status : Status) (input input' out : Told) (peers : Option PeersTold) (faults : ℕ) → IsUnread status
    → ((output : List ℕ → Output) (o : Told) → CommandAt output status input input' o o) → DriveIsComplete status input input' out out peers faults faults
unread_complete Memory input input' out peers faults which at octets left within read = memory_goes (reading_of octets) out out peers faults faults
unread_complete ReadFault input input' out peers faults which at octets left within read = let a = at run_output out in absurd (read a.0)
unread_complete TooLong input input' out peers faults which at octets left within read =
    let a = at run_output out in
    let long = subst (λ o. IfSome o (λ o'. most_octets < length o')) left a.1 in absurd (omega (arith, long, within))
unread_complete status input input' out peers faults which at octets left within read = absurd which

-- THE TEXT WAS REFUSED

module _ (reading : Result (Setup × List Event) ScenarioFault) (status : Status) (out out' : Told) (peers : Option PeersTold) where
  refused_by : (why : ScenarioFault)
      → (why ≢ fault.Memory → reading ≡ Err why)
      → RefusedBy why status out out'
      → (why ≡ fault.Memory) ⊎ (why ≢ fault.Memory)
      → TextAt reading status out out' peers peers
  refused_by why read refused (inl memory) =
      let at = refused.0 memory in
      let Nothing : Told → Type 0 = λ o. TextAt reading Memory out o peers peers in
      let Answered : Status → Type 0 = λ s. TextAt reading s out out' peers peers in
      subst Answered (sym at.0) (subst Nothing (sym at.1) (nothing_done reading out peers))
  refused_by why read refused (inr other) =
      let At : Result (Setup × List Event) ScenarioFault → Type 0 = λ r. TextAt r status out out' peers peers in
      subst At (sym (read other)) ((refused.1 other).1, refl)

  pub refused_at : {A : Type 0} (read : Result A ScenarioFault)
      → IfErr read (λ why. why ≢ fault.Memory → reading ≡ Err why)
      → IsRefused read status out out'
      → TextAt reading status out out' peers peers
  refused_at (Ok scenario) reads refused = absurd refused
  refused_at (Err why) reads refused = refused_by why reads refused (is_memory why)

  refusal_goes : (why : ScenarioFault) (ends : Status)
      → WritesAt (refusal_output why) ends out out'
      → ¬ (Rose out.write_faults out'.write_faults)
      → (ends ≡ Refused) ⊎ (ends ≡ Memory)
  refusal_goes why Refused at writes = inl refl
  refusal_goes why Memory at writes = inr refl
  refusal_goes why WriteFault at writes = absurd (writes at.0)
  refusal_goes why Done at writes = let clash : Refused ≡ Done = at.0 in absurd cc
  refusal_goes why Coincidence at writes = let clash : Refused ≡ Coincidence = at.0 in absurd cc
  refusal_goes why ends at writes = absurd at

  module _ (faults faults' : ℕ) where
    goes_by : (why : ScenarioFault)
        → (why ≢ fault.Memory → reading ≡ Err why)
        → RefusedBy why status out out'
        → (why ≡ fault.Memory) ⊎ (why ≢ fault.Memory)
        → TextGoes reading status out out' peers faults faults'
    goes_by why read refused (inl memory) =
        let Answered : Status → Type 0 = λ s. TextGoes reading s out out' peers faults faults' in
        subst Answered (sym (refused.0 memory).0) (memory_goes reading out out' peers faults faults')
    goes_by why read refused (inr other) =
        let At : Result (Setup × List Event) ScenarioFault → Type 0 = λ r. TextGoes r status out out' peers faults faults' in
        subst At (sym (read other)) (refusal_goes why status (refused.1 other).1)

    pub refused_goes : {A : Type 0} (read : Result A ScenarioFault)
        → IfErr read (λ why. why ≢ fault.Memory → reading ≡ Err why)
        → IsRefused read status out out'
        → TextGoes reading status out out' peers faults faults'
    refused_goes (Ok scenario) reads refused = absurd refused
    refused_goes (Err why) reads refused = goes_by why reads refused (is_memory why)
