-- What the core's choice of a row on a record established: the one walk through its refusals. For the row that was chosen, all that
-- the passed tests say.
use Rattle.std.proofs.Common.{◌≡◌, refl, sym, ap, subst, ℕ, Bool, false, not, ◌==◌, slice_index, Option, Some, None, option_map, nat_le}
use Rattle.std.specs.Prelude.{⊤}
use Rattle.alg_choice.specs.declared.caps.Caps.{Caps}
use Rattle.annex_a_keys.specs.Cell.{Place}
use Rattle.lte_events.specs.{Site.station_of, declared.answers.Answer.Answer}
use Rattle.lte_events.specs.declared.answers.Answer.TheVariants.{OldConnection, Repeated}
use Rattle.key_model.specs.Reading.{Reading}
use Rattle.s1x2_rec.specs.Fields.{Fields, PathSwitchRequest, HandoverRequired, HandoverRequestAck, HandoverNotify, HandoverCancel}
use Rattle.lte_machine.specs.CoreState.{Core, CoreLink, map_core_context, map_core_link}
use Rattle.lte_machine.specs.CoreRows.{CoreRecordRow, RecordRefused, PathSwitched, HandoverAsked, HandoverOrdered, HandoverNotified, HandoverCancelled}
use Rattle.lte_machine.specs.CoreChoice.{caps_in_use, asked_at, cancelled_at, of_link, core_fields_row}
use Rattle.lte_machine.specs.{CoreStep.plain_core, PhoneChoice.same_caps, Reply.unseen}
use Rattle.lte_machine.proofs.Tests.{by_test, same_of}

-- the core's connection has this number
abbrev pub LinkIs : {K C : Type 0} → Option (CoreLink K C) → ℕ → Type 0
LinkIs None conn = ⊥
LinkIs (Some link) conn = link.conn ≡ conn

-- the number of the connection, 0 where there is none
abbrev pub held_number : {K C : Type 0} → Option (CoreLink K C) → ℕ
held_number None = 0
held_number (Some link) = link.conn

-- the numbers that a refusal tells: of the connection that is held, and of the record
abbrev pub IsOld : {K C : Type 0} → Core K C → Fields → ℕ → ℕ → Type 0
IsOld s (PathSwitchRequest conn station number cell caps) held got = (held ≡ held_number s.link) × (got ≡ conn)
IsOld s (HandoverRequired conn station attempt cell) held got = (held ≡ held_number s.link) × (got ≡ conn)
IsOld s (HandoverRequestAck conn source attempt cell ncc algs air) held got = (held ≡ held_number s.link) × (got ≡ conn)
IsOld s (HandoverNotify conn station cell) held got = (held ≡ held_number s.link) × (got ≡ conn)
IsOld s (HandoverCancel conn source attempt cell) held got = (held ≡ held_number s.link) × (got ≡ conn)
IsOld s other held got = ⊥

-- the greatest request or attempt seen of the station, and that of the record
abbrev pub IsSeen : {K C : Type 0} → Core K C → Fields → ℕ → ℕ → Type 0
IsSeen s (PathSwitchRequest conn station number cell caps) seen got = (seen ≡ slice_index s.requests station) × (got ≡ number)
IsSeen s (HandoverRequired conn station attempt cell) seen got = (seen ≡ slice_index s.attempts station) × (got ≡ attempt)
IsSeen s other seen got = ⊥

abbrev pub Refuses : {K C : Type 0} → Core K C → Fields → Answer → Type 0
Refuses s fields (OldConnection held got) = IsOld s fields held got
Refuses s fields (Repeated seen got) = IsSeen s fields seen got
Refuses s fields other = ⊤

-- a Path Switch Request of the connection, with a new number of its station
pub record Switches {K C : Type 0} (s : Core K C) (fields : Fields) (conn station number : ℕ) (alarm : Bool) : Type 0 where
  pub cell : Place
  pub caps : Caps
  pub fields_is : fields ≡ PathSwitchRequest conn station number cell caps
  pub linked : LinkIs s.link conn
  pub new : nat_le number (slice_index s.requests station) ≡ false
  pub alarm_is : alarm ≡ not (same_caps caps s.latest)

-- a Handover Required of the connection, with a new attempt of its station, for a cell that there is
pub record Asks {K C : Type 0} (s : Core K C) (fields : Fields) (conn source attempt : ℕ) (cell : Place) (target : ℕ) (caps : Caps) : Type 0 where
  pub fields_is : fields ≡ HandoverRequired conn source attempt cell
  pub linked : LinkIs s.link conn
  pub new : nat_le attempt (slice_index s.attempts source) ≡ false
  pub site : station_of cell s.cells ≡ Some target
  pub caps_is : caps ≡ caps_in_use (option_map (map_core_context unseen) s.context)

-- what was established of a row
abbrev pub RecordHas : {K C : Type 0} → Core K C → Fields → CoreRecordRow → Type 0
RecordHas s fields (RecordRefused answer) = Refuses s fields answer
RecordHas s fields (PathSwitched conn station number alarm) = Switches s fields conn station number alarm
RecordHas s fields (HandoverAsked conn source attempt cell target caps) = Asks s fields conn source attempt cell target caps
RecordHas s fields (HandoverOrdered conn source attempt cell ncc algs air) =
    (fields ≡ HandoverRequestAck conn source attempt cell ncc algs air) × LinkIs s.link conn
RecordHas s fields (HandoverNotified station) = (conn : ℕ) × (cell : Place) × (fields ≡ HandoverNotify conn station cell) × LinkIs s.link conn
RecordHas s fields (HandoverCancelled conn source attempt cell target) =
    (fields ≡ HandoverCancel conn source attempt cell) × LinkIs s.link conn × (station_of cell s.cells ≡ Some target)

module _ {K C : Type 0} (r : Reading K C) (s : Core K C) where
  -- a record of the connection
  of_link_has : (fields : Fields) (conn : ℕ) (row : CoreRecordRow)
      → ((held : ℕ) → held ≡ held_number s.link → IsOld s fields held conn)
      → (LinkIs s.link conn → RecordHas s fields row)
      → (o : Option (CoreLink K C)) → s.link ≡ o → RecordHas s fields (of_link (option_map (map_core_link unseen r.ncc) o) conn row)
  of_link_has fields conn row old f None e = old 0 (sym (ap held_number e))
  of_link_has fields conn row old f (Some link) e =
      by_test (RecordHas s fields) (link.conn == conn) _ _ (λ b. f (subst (λ o. LinkIs o conn) (sym e) (same_of link.conn conn b)))
      (λ b. old link.conn (sym (ap held_number e)))

  asked_has : (conn source attempt : ℕ) (cell : Place)
      → LinkIs s.link conn
      → nat_le attempt (slice_index s.attempts source) ≡ false
      → (t : Option ℕ)
      → station_of cell s.cells ≡ t
      → RecordHas s (HandoverRequired conn source attempt cell) (asked_at conn source attempt cell (caps_in_use (plain_core r s).context) t)
  asked_has conn source attempt cell l n None e = tt
  asked_has conn source attempt cell l n (Some target) e = record { fields_is = refl; linked = l; new = n; site = e; caps_is = refl }

  cancelled_has : (conn source attempt : ℕ) (cell : Place) → LinkIs s.link conn → (t : Option ℕ) → station_of cell s.cells ≡ t
      → RecordHas s (HandoverCancel conn source attempt cell) (cancelled_at conn source attempt cell t)
  cancelled_has conn source attempt cell l None e = tt
  cancelled_has conn source attempt cell l (Some target) e = (refl, l, e)

  -- the row of a record that reads
  pub record_has : (fields : Fields) → RecordHas s fields (core_fields_row (plain_core r s) fields)
  record_has (PathSwitchRequest conn station number cell caps) =
      let fields = PathSwitchRequest conn station number cell caps in
      of_link_has fields conn _ (λ held e. (e, refl))
      (λ l. by_test (RecordHas s fields) (nat_le number (slice_index s.requests station)) _ _ (λ b. (refl, refl))
      (λ b. record { cell = cell; caps = caps; fields_is = refl; linked = l; new = b; alarm_is = refl })) s.link refl
  record_has (HandoverRequired conn source attempt cell) =
      let fields = HandoverRequired conn source attempt cell in
      of_link_has fields conn _ (λ held e. (e, refl))
      (λ l. by_test (RecordHas s fields) (nat_le attempt (slice_index s.attempts source)) _ _ (λ b. (refl, refl))
      (λ b. asked_has conn source attempt cell l b (station_of cell s.cells) refl)) s.link refl
  record_has (HandoverRequestAck conn source attempt cell ncc algs air) =
      of_link_has (HandoverRequestAck conn source attempt cell ncc algs air) conn _ (λ held e. (e, refl)) (λ l. (refl, l)) s.link refl
  record_has (HandoverNotify conn station cell) =
      of_link_has (HandoverNotify conn station cell) conn _ (λ held e. (e, refl))
      (λ l. (conn, cell, refl, l)) s.link refl
  record_has (HandoverCancel conn source attempt cell) =
      of_link_has (HandoverCancel conn source attempt cell) conn _ (λ held e. (e, refl))
      (λ l. cancelled_has conn source attempt cell l (station_of cell s.cells) refl) s.link refl
  record_has other = tt
