-- The records of S1 and X2 without their keys (TS 36.413, TS 36.423, in short form).
use Rattle.std.specs.Prelude.{ℕ, List, [], ◌∷◌}
use Rattle.alg_choice.specs.{declared.algs.Algs.Algs, declared.caps.Caps.Caps}
use Rattle.annex_a_keys.specs.Cell.{Place}
use Rattle.rec_fields.specs.Name.{Entry, Connection, NextConnection, Request, Attempt, Air, Station, Source, Ncc, Cell, Algorithms, Capabilities}
use Rattle.rec_fields.specs.Form.{Form}
use Rattle.s1x2_rec.specs.declared.records.CoreRecord.{CoreRecord}
use Rattle.s1x2_rec.specs.Forms.{initial_context, context_release, path_switch_request, path_switch_answer, handover_required, handover_request, handover_request_ack, handover_command, handover_notify, handover_cancel, x2_request, x2_ack, x2_cancel, x2_release, context_modification}

-- what a record says beside its key and the NCC of that key
pub data Fields : Type 0 where
  -- connection, cell, capabilities
  InitialContext : ℕ → Place → Caps → Fields
  -- connection
  ContextRelease : ℕ → Fields
  -- connection, station, number, cell, capabilities
  PathSwitchRequest : ℕ → ℕ → ℕ → Place → Caps → Fields
  -- connection, number
  PathSwitchAnswer : ℕ → ℕ → Fields
  -- connection, station, attempt, cell
  HandoverRequired : ℕ → ℕ → ℕ → Place → Fields
  -- connection, source, attempt, cell, capabilities
  HandoverRequest : ℕ → ℕ → ℕ → Place → Caps → Fields
  -- connection, source, attempt, cell, NCC, algorithms, air address
  HandoverRequestAck : ℕ → ℕ → ℕ → Place → ℕ → Algs → ℕ → Fields
  -- connection, attempt, cell, NCC, algorithms, air address
  HandoverCommand : ℕ → ℕ → Place → ℕ → Algs → ℕ → Fields
  -- connection, station, cell
  HandoverNotify : ℕ → ℕ → Place → Fields
  -- connection, source, attempt, cell
  HandoverCancel : ℕ → ℕ → ℕ → Place → Fields
  -- connection, source, attempt, cell, capabilities
  X2Request : ℕ → ℕ → ℕ → Place → Caps → Fields
  -- connection, attempt, cell, algorithms, air address
  X2Ack : ℕ → ℕ → Place → Algs → ℕ → Fields
  -- connection, source, attempt
  X2Cancel : ℕ → ℕ → ℕ → Fields
  -- connection, attempt
  X2Release : ℕ → ℕ → Fields
  -- connection, next connection number
  ContextModification : ℕ → ℕ → Fields

-- which key stands behind the plain fields
pub data KeyPlace : Type 0 where
  NoKey : KeyPlace
  -- a KeNB made from KASME, whose NCC is 0 and is not written (TS 33.401 7.2.8.1.1)
  KenbAlone : KeyPlace
  -- NH or KeNB*, behind its NCC
  NumberedNh : KeyPlace
  NumberedStar : KeyPlace

-- what is made of the form of a record, its plain fields under their names, and the place of its key
abbrev pub by_form : {B : Type 0} → (Form CoreRecord → List Entry → KeyPlace → B) → Fields → B
by_form f (InitialContext conn cell caps) =
    f initial_context ((Connection, conn) ∷ (Cell, cell) ∷ (Capabilities, caps) ∷ []) KenbAlone
by_form f (ContextRelease conn) = f context_release ((Connection, conn) ∷ []) NoKey
by_form f (PathSwitchRequest conn station number cell caps) =
    f path_switch_request ((Connection, conn) ∷ (Station, station) ∷ (Request, number) ∷ (Cell, cell) ∷ (Capabilities, caps) ∷ []) NoKey
by_form f (PathSwitchAnswer conn number) = f path_switch_answer ((Connection, conn) ∷ (Request, number) ∷ []) NumberedNh
by_form f (HandoverRequired conn station attempt cell) =
    f handover_required ((Connection, conn) ∷ (Station, station) ∷ (Attempt, attempt) ∷ (Cell, cell) ∷ []) NoKey
by_form f (HandoverRequest conn source attempt cell caps) =
    f handover_request ((Connection, conn) ∷ (Source, source) ∷ (Attempt, attempt) ∷ (Cell, cell) ∷ (Capabilities, caps) ∷ []) NumberedNh
by_form f (HandoverRequestAck conn source attempt cell ncc algs air) =
    f handover_request_ack ((Connection, conn) ∷ (Source, source) ∷ (Attempt, attempt) ∷ (Cell, cell) ∷ (Ncc, ncc) ∷ (Algorithms, algs) ∷ (Air, air) ∷ []) NoKey
by_form f (HandoverCommand conn attempt cell ncc algs air) =
    f handover_command ((Connection, conn) ∷ (Attempt, attempt) ∷ (Cell, cell) ∷ (Ncc, ncc) ∷ (Algorithms, algs) ∷ (Air, air) ∷ []) NoKey
by_form f (HandoverNotify conn station cell) =
    f handover_notify ((Connection, conn) ∷ (Station, station) ∷ (Cell, cell) ∷ []) NoKey
by_form f (HandoverCancel conn source attempt cell) =
    f handover_cancel ((Connection, conn) ∷ (Source, source) ∷ (Attempt, attempt) ∷ (Cell, cell) ∷ []) NoKey
by_form f (X2Request conn source attempt cell caps) =
    f x2_request ((Connection, conn) ∷ (Source, source) ∷ (Attempt, attempt) ∷ (Cell, cell) ∷ (Capabilities, caps) ∷ []) NumberedStar
by_form f (X2Ack conn attempt cell algs air) =
    f x2_ack ((Connection, conn) ∷ (Attempt, attempt) ∷ (Cell, cell) ∷ (Algorithms, algs) ∷ (Air, air) ∷ []) NoKey
by_form f (X2Cancel conn source attempt) =
    f x2_cancel ((Connection, conn) ∷ (Source, source) ∷ (Attempt, attempt) ∷ []) NoKey
by_form f (X2Release conn attempt) = f x2_release ((Connection, conn) ∷ (Attempt, attempt) ∷ []) NoKey
by_form f (ContextModification conn next) =
    f context_modification ((Connection, conn) ∷ (NextConnection, next) ∷ []) KenbAlone

-- the kind, the first octet: 20 to 29 and 34, in hex, on S1, 30 to 33 on X2
abbrev pub kind_of : Fields → ℕ
kind_of fields = by_form (λ form plain place. form.kind) fields
