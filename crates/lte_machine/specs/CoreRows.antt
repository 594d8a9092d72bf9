-- The rows of the core's table: what one step of the core does, each with the plain numbers that it needs (TS 24.301
-- 5.4.3 and 5.6.1, TS 33.401 7.2.4.4 and 7.2.8, TS 36.413 8.3 and 8.4).
use Rattle.std.specs.Prelude.{ℕ, Bool, List}
use Rattle.alg_choice.specs.{declared.algs.Algs.Algs, declared.caps.Caps.Caps}
use Rattle.annex_a_keys.specs.Cell.{Place}
use Rattle.lte_events.specs.declared.answers.Answer.{Answer}

-- what a NAS message brings about
pub data CoreNasRow : Type 0 where
  NasRefused : Answer → CoreNasRow
  -- a plain Security Mode Reject, of a phone with no context, ends the procedure (TS 24.301 4.4.4.3 and 5.4.3.5)
  PlainReject : CoreNasRow
  -- a Security Mode Complete ends it, takes the new context into use, and triggers a connection: COUNT (TS 24.301
  -- 5.4.3.4)
  SmcComplete : ℕ → CoreNasRow
  -- the same while a connection stands: its key changes at once, and it gets a new number: COUNT, the number of the
  -- connection, the next number, and its station (TS 33.401 7.2.9.2, TS 36.413 8.3.4)
  SmcChange : ℕ → ℕ → ℕ → ℕ → CoreNasRow
  -- a Service Request asks for a connection: COUNT (TS 24.301 5.6.1.4)
  ServiceAsked : ℕ → CoreNasRow
  -- another NAS text: COUNT, text (TS 24.301 4.4.4.3)
  NasOpened : ℕ → List ℕ → CoreNasRow
  -- a protected Security Mode Reject ends the procedure: COUNT (TS 24.301 5.4.3.5)
  SealedReject : ℕ → CoreNasRow

-- what a record on S1 brings about
pub data CoreRecordRow : Type 0 where
  RecordRefused : Answer → CoreRecordRow
  -- a Path Switch Request is answered with the next pair: connection, station, number of the request, and whether its
  -- capabilities differ (TS 33.401 7.2.8.4.2, TS 36.413 8.4.4.2)
  PathSwitched : ℕ → ℕ → ℕ → Bool → CoreRecordRow
  -- a Handover Required goes on as a Handover Request with the next pair: connection, source, attempt, cell, the
  -- station of the cell, capabilities (TS 33.401 7.2.8.4.3, TS 36.413 8.4.2.2)
  HandoverAsked : ℕ → ℕ → ℕ → Place → ℕ → Caps → CoreRecordRow
  -- an acknowledgement goes on to the source as a Handover Command: connection, source, attempt, cell, NCC, algorithms,
  -- air address (TS 36.413 8.4.1.2)
  HandoverOrdered : ℕ → ℕ → ℕ → Place → ℕ → Algs → ℕ → CoreRecordRow
  -- the phone came to a target: station (TS 36.413 8.4.3.2)
  HandoverNotified : ℕ → CoreRecordRow
  -- a cancellation: connection, source, attempt, cell, the station of the cell. This project's own rule: it goes on to the
  -- target as it is, and nobody acknowledges it (TS 36.413 8.4.5.2 has a release of the target's context)
  HandoverCancelled : ℕ → ℕ → ℕ → Place → ℕ → CoreRecordRow

-- what an act of the core brings about
pub data CoreActRow : Type 0 where
  ActRefused : Answer → CoreActRow
  -- a Security Mode Command: KSI, algorithms, capabilities, COUNT (TS 24.301 5.4.3.2)
  SmcStarted : ℕ → Algs → Caps → ℕ → CoreActRow
  -- a new connection: its number, cell, the station of the cell, capabilities, COUNT of the trigger (TS 33.401 7.2.6.2,
  -- TS 36.413 8.3.1)
  ContextSetUp : ℕ → Place → ℕ → Caps → ℕ → CoreActRow
  -- the end of a connection: its number, and its station (TS 36.413 8.3.3)
  ContextReleased : ℕ → ℕ → CoreActRow
  -- a NAS text: COUNT, text (TS 24.301 4.4.3.1 and 4.4.5)
  NasSent : ℕ → List ℕ → CoreActRow
  -- so many downlink COUNTs are left out, as by messages that are lost
  NasSkipped : ℕ → CoreActRow

-- the rows by what brings them
pub data CoreRow : Type 0 where
  OfNas : CoreNasRow → CoreRow
  OfRecord : CoreRecordRow → CoreRow
  OfAct : CoreActRow → CoreRow
  -- an authentication, which nothing refuses: KSI, capabilities (TS 24.301 5.4.2.4)
  OfAuth : ℕ → Caps → CoreRow
