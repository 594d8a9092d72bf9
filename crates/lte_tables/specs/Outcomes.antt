-- The lines of the words of variants: outcomes from the best to the worst, kinds of faults, what heals, and the names of messages.
use Rattle.std.specs.Prelude.{◌≡◌, ℕ, List, [], ◌∷◌, ◌++◌, reverse, true, codes}
use Rattle.std.specs.{List.flat_map, List.list_any, Str.bytes_eq}
use Rattle.item_faults.specs.{declared.changes.Kind.Kind, declared.messages.Message.Message}
use Rattle.item_faults.specs.declared.changes.Kind.TheVariants as kind
use Rattle.item_faults.specs.declared.messages.Message.TheVariants as message
use Rattle.item_outcomes.specs.{declared.heals.Heals.Heals, declared.judging.Outcome.Outcome, Outcomes.word_of, Outcomes.worst_first}
use Rattle.item_outcomes.specs.declared.heals.Heals.TheVariants as heals
use Rattle.item_outcomes.specs.declared.judging.Outcome.TheVariants as outcome
use Rattle.variant_text.specs.{Faults.kind_name, Healing.heals_name, Messages.message_name}

-- a word behind what it is
abbrev pub word_line : List ℕ → List ℕ → List ℕ
word_line of word = of ++ (codes " " ++ (word ++ codes "\n"))

-- `goes on` is worse than the best of those that are told beside one another
abbrev pub with_goes_on : List Outcome → List Outcome
with_goes_on [] = outcome.GoesOn ∷ []
with_goes_on (best ∷ others) = best ∷ outcome.GoesOn ∷ others

-- all outcomes, from the best to the worst: the order is that in which a variant tells them
abbrev pub outcomes : List Outcome
outcomes = outcome.Same ∷ (with_goes_on (reverse worst_first) ++ outcome.Coincidence ∷ [])

abbrev pub faults : List Kind
faults = kind.Lost ∷ kind.Late ∷ kind.Twice ∷ kind.Again ∷ []

abbrev pub healers : List Heals
healers = heals.Reconnection ∷ heals.Authentication ∷ heals.Nothing ∷ []

abbrev pub messages : List Message
messages =
    message.NasSecurityModeCommand
    ∷ message.NasSecurityModeComplete
    ∷ message.NasSecurityModeReject
    ∷ message.ServiceRequest
    ∷ message.NasText
    ∷ message.InitialContextSetupRequest
    ∷ message.UeContextModificationRequest
    ∷ message.UeContextReleaseCommand
    ∷ message.RrcSecurityModeCommand
    ∷ message.RrcSecurityModeComplete
    ∷ message.RrcReconfiguration
    ∷ message.RrcReconfigurationComplete
    ∷ message.RrcText
    ∷ message.UserPacket
    ∷ message.X2HandoverRequest
    ∷ message.X2HandoverRequestAcknowledge
    ∷ message.X2HandoverCancel
    ∷ message.X2UeContextRelease
    ∷ message.PathSwitchRequest
    ∷ message.PathSwitchRequestAcknowledge
    ∷ message.HandoverRequired
    ∷ message.HandoverRequest
    ∷ message.HandoverRequestAcknowledge
    ∷ message.HandoverCommand
    ∷ message.HandoverNotify
    ∷ message.HandoverCancel
    ∷ message.Unnamed
    ∷ []

-- `outcome packet lost`, `fault late`, `heals reconnection`, `message Service Request`
unfoldable pub outcome_lines : List ℕ
outcome_lines = flat_map (λ o. word_line (codes "outcome") (word_of o)) outcomes

unfoldable pub fault_lines : List ℕ
fault_lines = flat_map (λ k. word_line (codes "fault") (kind_name k)) faults

unfoldable pub heals_lines : List ℕ
heals_lines = flat_map (λ h. word_line (codes "heals") (heals_name h)) healers

unfoldable pub message_lines : List ℕ
message_lines = flat_map (λ m. word_line (codes "message") (message_name m)) messages

-- a name is one of those of a list
abbrev pub IsAmong : {X : Type 0} → (X → List ℕ) → List X → X → Type 0
IsAmong name xs x = list_any (λ other. bytes_eq (name other) (name x)) xs ≡ true
