-- What a refused step leaves, and what it tells (TS 24.301 5.4.3.5).
use Rattle.std.specs.Prelude.{ℕ, Bool, true, false, not, ◌==◌, ◌&&◌, nat_le, List, Option, None, Some, option_map, Result, Ok, Err}
use Rattle.rec_base.specs.declared.uses.Use.{Use}
use Rattle.lte_events.specs.{declared.answers.Answer.Answer, declared.inputs.PhoneIn.PhoneIn, declared.inputs.PhoneIn.TheVariants.Nas, declared.replies.ActorOut.ActorOut, Reply.reply_of}
use Rattle.lte_events.specs.declared.answers.Answer.TheVariants.{WrongKsi, CapsMismatch, AlgUnsupported, MacFails}
use Rattle.key_model.specs.Reading.{octet_reading}
use Rattle.nas_count.specs.Estimate.{nas_count_limit}
use Rattle.lte_machine.specs.{Calls.phone_input, Calls.use_out, Ciphers.annex_b, Opening.accepted_of, Opening.open_octets, PhoneChoice.header_for_phone, PhoneKeys.one_nas_sent, PhoneState.NasContext, PhoneState.Phone, PhoneStep.phone_opens, PhoneStep.phone_pdu_in}

-- the phone after a refusal: what was sent under the context in use took its uplink NAS COUNT, and nothing else changes
abbrev pub after_refusal : Option Use → Phone (List ℕ) ℕ → Phone (List ℕ) ℕ
after_refusal None s = s
after_refusal (Some integrity) s = record s { context = option_map one_nas_sent s.context }

-- the answer, with the record sent, its uses and the use that was accepted, and nothing else
abbrev pub refusal_of : ActorOut → ActorOut
refusal_of out = record (reply_of out.answer) { sent = out.sent; tuple = out.tuple; used = out.used; accepted = out.accepted }

-- a message with header type 3, for the partial context
abbrev pub is_third : Result ℕ Answer → Bool
is_third (Ok header) = header == 3
is_third (Err answer) = false

abbrev pub is_command : PhoneIn → Bool
is_command (Nas pdu) = is_third (header_for_phone pdu)
is_command other = false

-- the answers that are told by a SECURITY MODE REJECT
abbrev pub is_told : Answer → Bool
is_told (WrongKsi held got) = true
is_told (CapsMismatch own got) = true
is_told (AlgUnsupported algs) = true
is_told (MacFails count wanted got) = true
is_told other = false

-- no context is in use, or an uplink NAS COUNT of it is left
abbrev pub may_tell : Option (NasContext (List ℕ)) → Bool
may_tell None = true
may_tell (Some c) = not (nat_le nas_count_limit c.send)

-- the refusals that send one
abbrev pub sends_reject : Phone (List ℕ) ℕ → PhoneIn → Answer → Bool
sends_reject s input answer = is_command input && (is_told answer && may_tell s.context)

-- the use of the integrity key by which what came was protected, where its MAC was right
abbrev pub accepted_in : Phone (List ℕ) ℕ → PhoneIn → Option Use
accepted_in s i =
    let opening = phone_opens octet_reading s (phone_input i) in
    option_map use_out (accepted_of opening (open_octets annex_b opening (phone_pdu_in (phone_input i))))
