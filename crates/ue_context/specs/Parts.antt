-- A phone by its parts.
use Rattle.std.specs.Prelude.{ℕ, List, Option, None, Some}
use Rattle.lte_machine.specs.PhoneState as machine
use Rattle.lte_machine.specs.PhoneState.{Phone, Waiting, Link}
use Rattle.nas_smc.specs.PhoneNas.{NasPart, phone_of}
use Rattle.ue_context.specs.declared.radio.Radio.{Radio}
use Rattle.ue_context.specs.declared.radio.Radio as radios

-- the radio part as the written machine has it
abbrev pub radio_of : Radio → machine.Radio (List ℕ) ℕ
radio_of radios.TheVariants.Idle = machine.Idle
radio_of (radios.TheVariants.Connecting waiting) = machine.Connecting waiting
radio_of (radios.TheVariants.Connected link) = machine.Connected link

-- the NAS part
abbrev pub nas_of : Phone (List ℕ) ℕ → NasPart
nas_of s = record { caps = s.caps; partial = s.partial; context = s.context }

-- a phone that waits for the security of its connection
abbrev pub waiting : NasPart → Waiting (List ℕ) → Phone (List ℕ) ℕ
waiting n w = phone_of n (machine.Connecting w)

-- a phone with this connection
abbrev pub linked : NasPart → Link (List ℕ) ℕ → Phone (List ℕ) ℕ
linked n l = phone_of n (machine.Connected l)

-- a phone that waits, and has this connection if security started
abbrev pub started : NasPart → Waiting (List ℕ) → Option (Link (List ℕ) ℕ) → Phone (List ℕ) ℕ
started n w None = waiting n w
started n w (Some l) = linked n l
