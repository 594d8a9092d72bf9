-- What an attempt orders the phone, and how it is given up.
use Rattle.std.specs.Prelude.{ℕ, Bool, true, false, List, Option, None, Some}
use Rattle.rec_base.specs.Ranges.{IsNumber}
use Rattle.annex_a_keys.specs.Cell.{IsCell}
use Rattle.lte_events.specs.declared.answers.Answer.TheVariants.{CountSpent, NotReady}
use Rattle.lte_events.specs.{declared.replies.ActorOut.ActorOut, Reply.reply_of}
use Rattle.rrc_rec.specs.{declared.records.RrcRecord.RrcRecord, Spelling.spelling_of}
use Rattle.lte_machine.specs.{Bearers.Signalling1, Bearers.srb_sent, StationKeys.commanded, StationRecords.signalling_sent, StationRecords.order_record, Calls.sending}
use Rattle.lte_machine.specs.StationState.{Station, Context, Via, OverX2, OverS1, Within, Renewing, Progress, Open, Ready, Commanded, Attempt}
use Rattle.enb_context.specs.{declared.attempt.Cancel.Cancel, Step.serving_at}
use Rattle.enb_context.specs.declared.attempt.Cancel as cancels

-- whether its target has not answered
abbrev pub is_open : Progress → Bool
is_open Open = true
is_open other = false

-- the attempt after its command, and the order; none while it is open
abbrev pub ordered_by : Attempt (List ℕ) ℕ → Progress → Option (Attempt (List ℕ) ℕ × RrcRecord)
ordered_by a Open = None
ordered_by a (Ready order) = Some (commanded order a, order_record a.via order)
ordered_by a (Commanded order) = Some (commanded order a, order_record a.via order)

abbrev pub ordered : Attempt (List ℕ) ℕ → Option (Attempt (List ℕ) ℕ × RrcRecord)
ordered a = ordered_by a a.progress

-- the step of a command, where no COUNT is left or one is
abbrev pub commanded_by : Station (List ℕ) ℕ → ℕ → Context (List ℕ) ℕ → Bool → Option (Attempt (List ℕ) ℕ × RrcRecord) → Station (List ℕ) ℕ × ActorOut
commanded_by s id c b None = (serving_at s id c, reply_of NotReady)
commanded_by s id c true (Some d) = (serving_at s id c, reply_of CountSpent)
commanded_by s id c false (Some d) = (
  serving_at s id (record c { bearers = srb_sent Signalling1 c.bearers; attempt = Some d.0 }),
  sending (signalling_sent id c.air c.keys Signalling1 c.bearers.srb1.send (spelling_of d.1)),
)

-- what is told of an attempt that is given up; none where its command was sent
abbrev pub cancels_via : Attempt (List ℕ) ℕ → Via → Option Cancel
cancels_via a OverX2 = Some (cancels.TheVariants.OverX2 a.number a.station)
cancels_via a OverS1 = Some (cancels.TheVariants.OverS1 a.number a.cell)
cancels_via a Within = Some (cancels.TheVariants.Within a.number)
cancels_via a Renewing = None

abbrev pub cancels_by : Progress → Option Cancel → Option Cancel
cancels_by (Commanded order) told = None
cancels_by other told = told

abbrev pub cancels_of : Attempt (List ℕ) ℕ → Option Cancel
cancels_of a = cancels_by a.progress (cancels_via a a.via)

-- the ranges of what is told
abbrev pub IsCancel : Cancel → Type 0
IsCancel (cancels.TheVariants.OverX2 number station) = IsNumber number
IsCancel (cancels.TheVariants.OverS1 number cell) = IsNumber number × IsCell cell
IsCancel (cancels.TheVariants.Within number) = Unit {0}
