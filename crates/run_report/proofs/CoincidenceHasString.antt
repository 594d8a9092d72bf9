-- A coincidence of a run is shown by what has a string S.
use Rattle.std.proofs.Common.{◌≡◌, refl, sym, subst, ap, ℕ, Bool, true, false, Option, Some, None, Err, List, [], ◌∷◌}
use Rattle.std.specs.{Str.bytes_eq, List.AllByRecursion as AllOf}
use Rattle.hmac_kdf.specs.{declared.input.KdfInput.KdfInput, Kdf.IsKdfInput}
use Rattle.key_model.specs.Derivation.{derived_of}
use Rattle.key_terms.specs.declared.proof.Proof.{Proof}
use Rattle.lte_events.specs.{declared.events.Event.Event, declared.setups.Setup.Setup, Ranges.IsEvent, Ranges.IsSetup}
use Rattle.lte_machine.specs.{BothRuns.octet_run, Ciphers.annex_b, Machines.Kept, Machines.machine_in_octets, Opening.open_octets, Opening.accepted_of}
use Rattle.lte_machine.specs.Ladder.{RowOrigin, OfRoot, Of, Clash, Ladder, add_next, added_unless, added_at, stands_or_not, add_row, add_rows, no_rows, Hit, hit, row_key, same_origin, ladder_of}
use Rattle.lte_machine.specs.Run.{RunState, Running, Stopped, EventReport, Reported, Coincided, reported, event_report, GoesOn}
use Rattle.lte_machine.specs.Step.{StepResult, Continues, Stops, next, attempted, opening_coincidence, by_coincidence, by_ladder}
use Rattle.lte_machine.specs.Tuples.{Coincidence, Tuples, Rows, tuple_coincidence, tuples_unless, same_sender}
use Rattle.lte_machine.specs.World.{World, Line, happens}
use Rattle.lte_world.specs.declared.faults.WorldFault.TheVariants as fault
use Rattle.lte_world.specs.Whole.{Whole, run_of, answer_of}
use Rattle.lte_world.specs.Whole as whole
use Rattle.lte_world.proofs.TellsAsWritten.{runs_octets}
use Rattle.store_laws.specs.Additions.{IsInput, CanAddTo, AllCanAdd}
use Rattle.store_laws.specs.Proofs.{proof_of, clash_proof}
use Rattle.store_laws.proofs.EveryRun.{event_keeps}
use Rattle.report_text.specs.Coincidence.{HasString}
use Rattle.run_report.specs.Events.{HasCount, HasCounts, told_of}

input_fits : (input : KdfInput) → HasCount input → IsInput input → IsKdfInput input
input_fits (KdfInput.Kenb count) few is = few
input_fits (KdfInput.Nh sync) few is = tt
input_fits (KdfInput.Star pci earfcn) few is = is
input_fits (KdfInput.Alg kind identity) few is = tt

-- of a derivation that clashes
abbrev OriginIs : RowOrigin (List ℕ) → Type 0
OriginIs (OfRoot key) = Unit {0}
OriginIs (Of d) = IsInput (derived_of d).input

abbrev CoincidenceIs : Coincidence (List ℕ) → Type 0
CoincidenceIs (Tuples sender receiver) = Unit {0}
CoincidenceIs (Rows clash) = OriginIs clash.origin

can_be : (rows : _) (o : RowOrigin (List ℕ)) → CanAddTo rows o → OriginIs o
can_be rows (OfRoot key) can = tt
can_be rows (Of d) can = can.input

clash_is : (rows : List (RowOrigin (List ℕ))) (o : RowOrigin (List ℕ)) (h : Option (Hit (List ℕ))) (c : Clash (List ℕ))
    → (added_at bytes_eq rows o h).clash ≡ Some c
    → c.origin ≡ o
clash_is rows o None c e = cc
clash_is rows o (Some h) c e = stands (same_origin bytes_eq h.found o) e
  where
    stands : (b : Bool) → (stands_or_not b rows h.place o).clash ≡ Some c → c.origin ≡ o
    stands true e = cc
    stands false e = cc

-- no origin so far, or one that is such
abbrev SoFar : Option (Clash (List ℕ)) → Type 0
SoFar None = Unit {0}
SoFar (Some c) = OriginIs c.origin

added_far : (rows : List (RowOrigin (List ℕ))) (o : RowOrigin (List ℕ))
    → OriginIs o
    → (r : Option (Clash (List ℕ)))
    → (add_row bytes_eq rows o).clash ≡ r
    → SoFar r
added_far rows o is None e = tt
added_far rows o is (Some c) e = subst OriginIs (sym (clash_is rows o (hit bytes_eq (row_key o) rows) c e)) is

next_far : (l : Ladder (List ℕ)) (o : RowOrigin (List ℕ)) (r : Option (Clash (List ℕ)))
    → l.clash ≡ r
    → SoFar r
    → (l.clash ≡ None → CanAddTo l.rows o)
    → SoFar (added_unless r bytes_eq l.rows o).clash
next_far l o None is far can = added_far l.rows o (can_be l.rows o (can is)) (add_row bytes_eq l.rows o).clash refl
next_far l o (Some c) is far can = far

clashes : (os : List (RowOrigin (List ℕ))) (l : Ladder (List ℕ)) → SoFar l.clash → AllCanAdd l os → SoFar (add_rows bytes_eq l os).clash
clashes [] l far can = far
clashes (o ∷ os) l far can = clashes os (add_next bytes_eq l o) (next_far l o l.clash refl far can.0) can.1

-- of what an event comes to
tuples_is : (b : Bool) (sender : _) (receiver : _) (coincidence : Coincidence (List ℕ))
    → tuples_unless b sender receiver ≡ Some coincidence
    → CoincidenceIs coincidence
tuples_is true sender receiver coincidence e = cc
tuples_is false sender receiver (Tuples s r) e = tt
tuples_is false sender receiver (Rows c) e = cc

accepted_is : (sender : _) (receiver : _) (coincidence : Coincidence (List ℕ))
    → tuple_coincidence bytes_eq sender receiver ≡ Some coincidence
    → CoincidenceIs coincidence
accepted_is sender None coincidence e = cc
accepted_is sender (Some receiver) coincidence e = tuples_is (same_sender bytes_eq sender receiver) sender receiver coincidence e

ladder_is : (clash : Option (Clash (List ℕ))) (h : World (List ℕ) ℕ Kept × Line (List ℕ))
    (coincidence : Coincidence (List ℕ))
    → SoFar clash
    → by_ladder clash h ≡ Stops coincidence
    → CoincidenceIs coincidence
ladder_is None h coincidence far e = cc
ladder_is (Some c) h coincidence far e = let one : Rows c ≡ coincidence = cc in subst CoincidenceIs one far

step_is : (p : Option (Coincidence (List ℕ))) (h : World (List ℕ) ℕ Kept × Line (List ℕ))
    (coincidence : Coincidence (List ℕ))
    → ((q : Coincidence (List ℕ)) → p ≡ Some q → CoincidenceIs q)
    → SoFar (ladder_of bytes_eq h.0.history).clash
    → by_coincidence bytes_eq p h ≡ Stops coincidence
    → CoincidenceIs coincidence
step_is None h coincidence tuples far e = ladder_is (ladder_of bytes_eq h.0.history).clash h coincidence far e
step_is (Some p) h coincidence tuples far e = let one : p ≡ coincidence = cc in subst CoincidenceIs one (tuples p refl)

next_is : (setup : Setup) (events : List Event) (w : World (List ℕ) ℕ Kept) (e : Event)
    (coincidence : Coincidence (List ℕ))
    → IsSetup setup
    → AllOf IsEvent events
    → octet_run setup events ≡ Running w
    → IsEvent e
    → next (open_octets annex_b) (machine_in_octets annex_b) w e ≡ Stops coincidence → CoincidenceIs coincidence
next_is setup events w e coincidence is are runs good stops =
    let m = machine_in_octets annex_b in
    let h = happens m w e in
    let keeps = event_keeps setup events w is are runs e good in
    step_is (opening_coincidence (open_octets annex_b) m (attempted m w e)) h coincidence
    (λ q came. accepted_is (m.sender (attempted m w e).came)
    (accepted_of (attempted m w e).opening (open_octets annex_b (attempted m w e).opening (attempted m w e).octets))
    q came)
    (clashes h.0.history no_rows tt keeps.history) stops

origin_string : (n : ℕ) (o : RowOrigin (List ℕ)) → OriginIs o → HasCounts (clash_proof n o) → HasString (clash_proof n o)
origin_string n (OfRoot key) is count = tt
origin_string n (Of d) is count = input_fits (derived_of d).input count is

coincidence_string : (coincidence : Coincidence (List ℕ)) → CoincidenceIs coincidence → HasCounts (proof_of coincidence) → HasString (proof_of coincidence)
coincidence_string (Tuples sender receiver) is count = tt
coincidence_string (Rows c) is count = origin_string c.row c.origin is count

reported_is : (s : StepResult (List ℕ) ℕ Kept) (coincidence : Coincidence (List ℕ)) → reported s ≡ Coincided coincidence → s ≡ Stops coincidence
reported_is (Continues w line) coincidence e = cc
reported_is (Stops c) coincidence e = let one : c ≡ coincidence = cc in ap Stops one

-- a coincidence that a run tells of its next event
pub shown : (setup : Setup) (events : List Event) (w : World (List ℕ) ℕ Kept) (e : Event)
    (coincidence : Coincidence (List ℕ))
    → IsSetup setup
    → AllOf IsEvent events
    → octet_run setup events ≡ Running w
    → IsEvent e
    → event_report (open_octets annex_b) (machine_in_octets annex_b) (Running w) e ≡ Coincided coincidence
    → HasCounts (proof_of coincidence)
    → HasString (proof_of coincidence)
shown setup events w e coincidence is are runs good told counts =
    coincidence_string coincidence
    (next_is setup events w e coincidence is are runs good
    (reported_is (next (open_octets annex_b) (machine_in_octets annex_b) w e) coincidence told))
    counts

-- of a world as a caller knows it
of_run : (run : RunState (List ℕ) ℕ Kept) (setup : Setup) (events : List Event) (e : Event)
    (told : EventReport (List ℕ)) (proof : Proof)
    → IsSetup setup
    → AllOf IsEvent events
    → run ≡ octet_run setup events
    → IsEvent e
    → GoesOn run → told_of run e ≡ told → Err (fault.Chance proof) ≡ answer_of told → HasCounts proof → HasString proof
of_run (Stopped c) setup events e told proof is are runs good goes tells answer counts = absurd goes
of_run (Running w) setup events e (Reported line) proof is are runs good goes tells answer counts = cc
of_run (Running w) setup events e (Coincided coincidence) proof is are runs good goes tells answer counts =
    let one : proof ≡ proof_of coincidence = cc in
    subst HasString (sym one) (shown setup events w e coincidence is are (sym runs) good tells (subst HasCounts one counts))

pub shown_in : (v : Whole) (e : Event) (proof : Proof)
    → IsSetup v.setup
    → AllOf IsEvent v.journal
    → GoesOn (run_of v)
    → IsEvent e
    → Err (fault.Chance proof) ≡ whole.told_of v e
    → HasCounts proof
    → HasString proof
shown_in v e proof is are goes good answer counts =
    of_run (run_of v) v.setup v.journal e (told_of (run_of v) e) proof is are (runs_octets v goes) good goes refl answer counts
