-- A step of the phone.
use Rattle.std.specs.Prelude.{◌≡◌, ℕ, List, [], Option, Some, None, option_map}
use Rattle.key_model.specs.Reading.{Reading}
use Rattle.nas_rec.specs.declared.records.NasRecord as nas
use Rattle.nas_rec.specs.Spelling.{spelling_of as nas_spelling}
use Rattle.lte_machine.specs.Wire.{Outgoing, SealedNas, PlainNas}
use Rattle.lte_machine.specs.Opening.{Opening, Outcome, accepted_of}
use Rattle.lte_machine.specs.Reply.{finished, unseen}
use Rattle.lte_machine.specs.PhoneState.{Phone, PhoneInput, PhoneAuth, PhoneNasPdu, PhoneAirPdu, map_phone, map_phone_input}
use Rattle.lte_machine.specs.PhoneChoice.{PlainPhone, PlainInput, PhoneFront, phone_front, phone_row}
use Rattle.lte_machine.specs.PhoneKeys.{PhoneDone, phone_expects, phone_does, one_nas_sent, plain_reject}

-- the KASME that an input brings
abbrev pub phone_root : {K : Type 0} → PhoneInput K → Option K
phone_root (PhoneAuth ksi root) = Some root
phone_root other = None

-- the octets that an input brings to be opened
abbrev pub phone_pdu_in : {K : Type 0} → PhoneInput K → List ℕ
phone_pdu_in (PhoneNasPdu pdu) = pdu
phone_pdu_in (PhoneAirPdu station air bearer pdu) = pdu
phone_pdu_in other = []

-- the phone without keys, and an input without its key
abbrev pub plain_phone : {K C : Type 0} → Reading K C → Phone K C → PlainPhone
plain_phone r s = map_phone unseen r.ncc s

abbrev pub plain_input : {K : Type 0} → PhoneInput K → PlainInput
plain_input i = map_phone_input unseen i

abbrev pub front_of : {K C : Type 0} → Reading K C → Phone K C → PhoneInput K → PhoneFront
front_of r s i = phone_front (plain_phone r s) (plain_input i)

-- what the input would open
abbrev pub phone_opens : {K C : Type 0} → Reading K C → Phone K C → PhoneInput K → Opening K
phone_opens r s i = phone_expects r (front_of r s i) s

-- a step, by the outcome of that opening; the phone reads no record that holds a key
abbrev pub phone_step : {K C : Type 0} → Reading K C → Phone K C → PhoneInput K → Outcome → PhoneDone K C
phone_step r s i outcome =
    let done = phone_does r (phone_row (plain_phone r s) (front_of r s i) outcome) (phone_root i) s in
    (done.0, finished None (accepted_of (phone_opens r s i) outcome) done.1)

-- the phone after a refusal that sent this: a SECURITY MODE REJECT under the context in use takes one uplink NAS COUNT
-- (TS 24.301 5.4.3.5), and nothing else changes
abbrev pub after_refusal : {K C : Type 0} → Option (Outgoing K C) → Phone K C → Phone K C
after_refusal (Some (SealedNas dir header u e text)) s = record s { context = option_map one_nas_sent s.context }
after_refusal other s = s

-- nothing, or a SECURITY MODE REJECT of a cause
abbrev pub IsReject : {K C : Type 0} → Option (Outgoing K C) → Type 0
IsReject None = Unit {0}
IsReject (Some (PlainNas octets)) = (cause : ℕ) × (octets ≡ plain_reject cause)
IsReject (Some (SealedNas dir header u e text)) =
    (cause : ℕ) × (text ≡ nas_spelling (nas.TheVariants.SecurityModeReject cause))
IsReject other = ⊥
