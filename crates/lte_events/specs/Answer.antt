-- The answers, each with its number and its name.
use Rattle.std.specs.Prelude.{ℕ, List, codes}
use Rattle.lte_events.specs.declared.answers.Answer.{Answer}
use Rattle.lte_events.specs.declared.answers.Answer.TheVariants.{Done, NoContext, WrongKsi, CapsMismatch, AlgUnsupported, MacFails, CountSpent, SmcOpen, NoAlgorithm, BadRecord, Short, BadHeader, WrongKind, NotConnected, NotAddressed, NothingToResend, AlreadyConnected, NoUe, Stale, OldConnection, NotActive, UnknownCell, NoPathSwitch, AttemptOpen, NoAttempt, CommandSent, Repeated, PrepFull, NotReady, NumberSpent, NoTrigger, NoSmc, NoRecord, Sent, RepeatedRoot}

-- the list of answers: the number of each, and its name
abbrev pub entry_of : Answer → ℕ × List ℕ
entry_of Done = (0, codes "done")
entry_of NoContext = (1, codes "NoContext")
entry_of (WrongKsi held got) = (2, codes "WrongKsi")
entry_of (CapsMismatch own got) = (3, codes "CapsMismatch")
entry_of (AlgUnsupported algs) = (4, codes "AlgUnsupported")
entry_of (MacFails count wanted got) = (5, codes "MacFails")
entry_of CountSpent = (6, codes "CountSpent")
entry_of SmcOpen = (7, codes "SmcOpen")
entry_of NoAlgorithm = (8, codes "NoAlgorithm")
entry_of (BadRecord fault) = (9, codes "BadRecord")
entry_of Short = (10, codes "Short")
entry_of (BadHeader octet) = (11, codes "BadHeader")
entry_of (WrongKind kind) = (13, codes "WrongKind")
entry_of NotConnected = (20, codes "NotConnected")
entry_of NotAddressed = (21, codes "NotAddressed")
entry_of NothingToResend = (22, codes "NothingToResend")
entry_of AlreadyConnected = (23, codes "AlreadyConnected")
entry_of NoUe = (30, codes "NoUe")
entry_of (Stale outstanding got) = (31, codes "Stale")
entry_of (OldConnection held got) = (32, codes "OldConnection")
entry_of NotActive = (33, codes "NotActive")
entry_of UnknownCell = (34, codes "UnknownCell")
entry_of NoPathSwitch = (35, codes "NoPathSwitch")
entry_of (AttemptOpen number) = (36, codes "AttemptOpen")
entry_of NoAttempt = (37, codes "NoAttempt")
entry_of CommandSent = (38, codes "CommandSent")
entry_of (Repeated seen got) = (39, codes "Repeated")
entry_of PrepFull = (40, codes "PrepFull")
entry_of NotReady = (41, codes "NotReady")
entry_of NumberSpent = (42, codes "NumberSpent")
entry_of NoTrigger = (43, codes "NoTrigger")
entry_of NoSmc = (44, codes "NoSmc")
entry_of NoRecord = (50, codes "NoRecord")
entry_of (Sent sent) = (51, codes "Sent")
entry_of (RepeatedRoot row) = (52, codes "RepeatedRoot")

abbrev pub number_of : Answer → ℕ
number_of answer = (entry_of answer).0

abbrev pub name_of : Answer → List ℕ
name_of answer = (entry_of answer).1
