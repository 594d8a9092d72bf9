-- One step of the core in octets, by the input as it reads.
use Rattle.std.specs.Prelude.{ℕ, List, Option, option_map, Ok}
use Rattle.alg_choice.specs.declared.caps.Caps.{Caps}
use Rattle.key_model.specs.{HandoverTable.NumberedKey, Reading.octet_reading}
use Rattle.lte_events.specs.declared.replies.ActorOut.{ActorOut}
use Rattle.lte_machine.specs.{Calls.actor_out, Ciphers.annex_b, CoreChoice.caps_in_use, Opening.open_octets, Reply.unseen}
use Rattle.lte_machine.specs.CoreState.{Core, CoreContext, CoreInput, CoreRecord, map_core_context}
use Rattle.lte_machine.specs.CoreStep.{core_step, core_opens, core_pdu_in}
use Rattle.s1x2_rec.specs.Fields.{Fields}

-- the core afterwards and its reply; a call is this of the input as it reads
abbrev pub answered : Core (List ℕ) ℕ → CoreInput (List ℕ) ℕ → Core (List ℕ) ℕ × ActorOut
answered s input =
    let outcome = open_octets annex_b (core_opens octet_reading s input) (core_pdu_in input) in
    let done = core_step octet_reading s input outcome in
    (done.0, actor_out done.1)

-- the step at a record on S1
abbrev pub on_s1 : Core (List ℕ) ℕ → Fields → Option (NumberedKey (List ℕ) ℕ) → Core (List ℕ) ℕ × ActorOut
on_s1 s fields key = answered s (CoreRecord (Ok (record { fields = fields; key = key })))

-- the capabilities of the context in use
abbrev pub caps_of : Option (CoreContext (List ℕ)) → Caps
caps_of context = caps_in_use (option_map (map_core_context unseen) context)
