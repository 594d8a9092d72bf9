-- The lines of the answers: number, name, how many octets its values take in a reply, and its values as reports print them.
use Rattle.std.specs.Prelude.{◌≡◌, ℕ, ◌==◌, List, [], ◌∷◌, ◌++◌, length, codes, true}
use Rattle.std.specs.List.{flat_map, list_any}
use Rattle.alg_choice.specs.{declared.algs.Algs.Algs, declared.caps.Caps.Caps}
use Rattle.alg_choice.specs.declared.algs.Eea.TheVariants.{Eea0}
use Rattle.rec_base.specs.declared.faults.RecFault.TheVariants as fault
use Rattle.lte_events.specs.{declared.answers.Answer.Answer, Answer.number_of, Answer.name_of}
use Rattle.lte_events.specs.declared.answers.Answer.TheVariants as answer
use Rattle.report_text.specs.Details.{details_text}
use Rattle.role_wire.specs.Reply.{details_octets}
use Rattle.lte_tables.specs.Numeral.{numeral}

-- `answer 31 Stale 8 outstanding=0 got=0`
abbrev pub answer_line : Answer → List ℕ
answer_line a =
    codes "answer "
    ++ (numeral (number_of a) ++ (codes " " ++ (name_of a ++ (codes " " ++ (numeral (length (details_octets a)) ++ (details_text a ++ codes "\n"))))))

-- some values, where an answer keeps any
abbrev pub no_caps : Caps
no_caps = record { eea = 0; eia = 0 }

abbrev pub no_mac : List ℕ
no_mac = 0 ∷ 0 ∷ 0 ∷ 0 ∷ []

-- each answer, by its number
abbrev pub answers : List Answer
answers =
    answer.Done
    ∷ answer.NoContext
    ∷ answer.WrongKsi 0 0
    ∷ answer.CapsMismatch no_caps no_caps
    ∷ answer.AlgUnsupported (record { eea = Eea0 })
    ∷ answer.MacFails 0 no_mac no_mac
    ∷ answer.CountSpent
    ∷ answer.SmcOpen
    ∷ answer.NoAlgorithm
    ∷ answer.BadRecord fault.Short
    ∷ answer.Short
    ∷ answer.BadHeader 0
    ∷ answer.WrongKind 0
    ∷ answer.NotConnected
    ∷ answer.NotAddressed
    ∷ answer.NothingToResend
    ∷ answer.AlreadyConnected
    ∷ answer.NoUe
    ∷ answer.Stale 0 0
    ∷ answer.OldConnection 0 0
    ∷ answer.NotActive
    ∷ answer.UnknownCell
    ∷ answer.NoPathSwitch
    ∷ answer.AttemptOpen 0
    ∷ answer.NoAttempt
    ∷ answer.CommandSent
    ∷ answer.Repeated 0 0
    ∷ answer.PrepFull
    ∷ answer.NotReady
    ∷ answer.NumberSpent
    ∷ answer.NoTrigger
    ∷ answer.NoSmc
    ∷ answer.NoRecord
    ∷ answer.Sent 0
    ∷ answer.RepeatedRoot 0
    ∷ []

unfoldable pub answer_lines : List ℕ
answer_lines = flat_map answer_line answers

-- whether one of them has this number
abbrev pub IsAnswer : Answer → Type 0
IsAnswer a = list_any (λ other. number_of other == number_of a) answers ≡ true
