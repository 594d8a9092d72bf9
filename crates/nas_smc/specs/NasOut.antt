-- The reply of a NAS part, and the reply of the whole actor that it stands for.
use Rattle.std.specs.Prelude.{ℕ, false, List, [], ◌∷◌, map, Option, Some, None, option_map}
use Rattle.annex_a_keys.specs.declared.derived.Derived.{Derived}
use Rattle.rec_base.specs.declared.uses.Use.{Use}
use Rattle.lte_events.specs.{declared.addresses.Address.Address, declared.answers.Answer.Answer, declared.replies.ActorOut.ActorOut}
use Rattle.lte_events.specs.declared.addresses.Address.TheVariants.{CoreNas, PhoneNas}
use Rattle.lte_machine.specs.{Calls.use_out, Wire.Outgoing, Wire.uses_of}
use Rattle.lte_machine.specs.Ciphers.{annex_b, octets_of, written}
use Rattle.nas_smc.specs.declared.reply.NasOut.{NasOut}

-- an answer and nothing else
abbrev pub alone : Answer → NasOut
alone answer = record {
  answer = answer;
  pdu = None;
  opened = None;
  trigger = None;
  derived = [];
  used = [];
  accepted = None;
}

-- an answer, and this message is sent
abbrev pub sending : Answer → Outgoing (List ℕ) ℕ → NasOut
sending answer x = record (alone answer) { pdu = Some (octets_of annex_b written x); used = map use_out (uses_of x) }

-- the integrity use of a message is the last of its uses; one that is not protected has none
abbrev pub tuple_in : List Use → Option Use
tuple_in [] = None
tuple_in (integrity ∷ []) = Some integrity
tuple_in (ciphering ∷ integrity ∷ rest) = Some integrity

-- the derivation that comes before those of a NAS part, if there is one
abbrev pub listed : Option Derived → List Derived
listed None = []
listed (Some made) = made ∷ []

-- the reply of an actor whose NAS part sends to this address, with the derivations of all its parts
abbrev pub reply_to : Address → NasOut → List Derived → ActorOut
reply_to to out derived = record {
  answer = out.answer;
  sent = option_map (λ octets. record { to = to; octets = octets }) out.pdu;
  tuple = tuple_in out.used;
  opened = out.opened;
  derived = derived;
  received = None;
  used = out.used;
  accepted = out.accepted;
  note = None;
  alarm = false;
}

-- the phone's reply, and the core's
abbrev pub phone_reply : NasOut → List Derived → ActorOut
phone_reply out derived = reply_to CoreNas out derived

abbrev pub core_reply : NasOut → ActorOut
core_reply out = reply_to PhoneNas out out.derived
