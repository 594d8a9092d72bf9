-- A step of the core: the choice of its row, the opening of a NAS message, and what the row does.
use Rattle.std.specs.Prelude.{ℕ, List, [], Option, Some, None, option_map, Ok}
use Rattle.key_model.specs.Reading.{Reading}
use Rattle.lte_machine.specs.CoreChoice.{PlainCore, PlainCoreInput, CoreFront, core_front, core_row}
use Rattle.lte_machine.specs.CoreKeys.{CoreDone, core_expects, core_does}
use Rattle.lte_machine.specs.CoreState.{Core, CoreInput, CoreAuth, CoreNasPdu, CoreRecord, map_core, map_core_input}
use Rattle.lte_machine.specs.Opening.{Opening, Outcome, accepted_of}
use Rattle.lte_machine.specs.{Reply.finished, Reply.unseen, Wire.KeyUse}

-- what the choice sees
abbrev pub plain_core : {K C : Type 0} → Reading K C → Core K C → PlainCore
plain_core r s = map_core unseen r.ncc s

abbrev pub plain_core_input : {K C : Type 0} → Reading K C → CoreInput K C → PlainCoreInput
plain_core_input r i = map_core_input unseen r.ncc i

abbrev pub core_front_of : {K C : Type 0} → Reading K C → Core K C → CoreInput K C → CoreFront
core_front_of r s i = core_front (plain_core r s) (plain_core_input r i)

-- the KASME of an authentication
abbrev pub core_root : {K C : Type 0} → CoreInput K C → Option K
core_root (CoreAuth ksi root caps) = Some root
core_root other = None

-- the key in a record that was read, also where the step then refuses it
abbrev pub core_received : {K C : Type 0} → CoreInput K C → Option K
core_received (CoreRecord (Ok content)) = option_map (λ k. k.key) content.key
core_received other = None

-- the PDU that came, if one did
abbrev pub core_pdu_in : {K C : Type 0} → CoreInput K C → List ℕ
core_pdu_in (CoreNasPdu pdu) = pdu
core_pdu_in other = []

-- what the input opens
abbrev pub core_opens : {K C : Type 0} → Reading K C → Core K C → CoreInput K C → Opening K
core_opens r s i = core_expects (core_front_of r s i) s

-- an outcome with the use that it accepted and the key that came
abbrev pub core_ends : {K C : Type 0} → Option K → Option (KeyUse K) → CoreDone K C → CoreDone K C
core_ends received accepted done = (done.0, finished received accepted done.1)

-- the core after an input that opened so, and what it gives out
abbrev pub core_step : {K C : Type 0} → Reading K C → Core K C → CoreInput K C → Outcome → CoreDone K C
core_step r s i outcome =
    core_ends (core_received i) (accepted_of (core_opens r s i) outcome)
    (core_does r (core_row (plain_core r s) (core_front_of r s i) outcome) (core_root i) s)
