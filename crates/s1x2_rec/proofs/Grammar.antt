-- What is read is spelled so, and what is spelled so is read.
use Rattle.std.proofs.Common.{◌≡◌, ℕ, Bool, true, false, List, ◌++◌, Option, Some, None, Result, Ok, refl, sym, arith}
use Rattle.std.proofs.lemmas.Bool.{eqb-true}
use Rattle.key_model.specs.HandoverTable.{NumberedKey}
use Rattle.std.specs.Prelude.{◌==◌, IfOk}
use Rattle.rec_base.specs.declared.faults.RecFault.{RecFault}
use Rattle.rec_base.proofs.Numbers.{AreOctets}
use Rattle.rec_fields.specs.{Name.Entry, Form.Form, Form.Said, Form.Listed, Form.EntriesInRange}
use Rattle.rec_fields.proofs.Forms.{Shown, AreShown, IsMade, appended, apart, found_by, read_back}
use Rattle.s1x2_rec.specs.{declared.records.CoreRecord.CoreRecord, Content.content_of, Fields.by_form, Fields.KeyPlace, Fields.NoKey, Fields.KenbAlone, Fields.NumberedNh, Fields.NumberedStar, Spelling.key_entries, Spelling.KeyAt, Spelling.spelling_of, Spelling.InRange}
use Rattle.s1x2_rec.specs.declared.records.CoreRecord.TheVariants.{InitialContext, ContextRelease, PathSwitchRequest, PathSwitchAnswer, HandoverRequired, HandoverRequest, HandoverRequestAck, HandoverCommand, HandoverNotify, HandoverCancel, X2Request, X2Ack, X2Cancel, X2Release, ContextModification}
use Rattle.s1x2_rec.specs.Forms.{core_forms, initial_context, context_release, path_switch_request, path_switch_answer, handover_required, handover_request, handover_request_ack, handover_command, handover_notify, handover_cancel, x2_request, x2_ack, x2_cancel, x2_release, context_modification}
use Rattle.s1x2_rec.specs.Reading.{read_record}

-- the form of a record, and the values that it is made of
abbrev shown : CoreRecord → Shown CoreRecord
shown (InitialContext conn cell caps kenb) = (initial_context, (conn, (cell, (caps, kenb))))
shown (ContextRelease conn) = (context_release, conn)
shown (PathSwitchRequest conn station number cell caps) = (path_switch_request, (conn, (station, (number, (cell, caps)))))
shown (PathSwitchAnswer conn number ncc nh) = (path_switch_answer, (conn, (number, (ncc, nh))))
shown (HandoverRequired conn station attempt cell) = (handover_required, (conn, (station, (attempt, cell))))
shown (HandoverRequest conn source attempt cell caps ncc nh) =
    (handover_request, (conn, (source, (attempt, (cell, (caps, (ncc, nh)))))))
shown (HandoverRequestAck conn source attempt cell ncc algs air) =
    (handover_request_ack, (conn, (source, (attempt, (cell, (ncc, (algs, air)))))))
shown (HandoverCommand conn attempt cell ncc algs air) = (handover_command, (conn, (attempt, (cell, (ncc, (algs, air))))))
shown (HandoverNotify conn station cell) = (handover_notify, (conn, (station, cell)))
shown (HandoverCancel conn source attempt cell) = (handover_cancel, (conn, (source, (attempt, cell))))
shown (X2Request conn source attempt cell caps ncc star) =
    (x2_request, (conn, (source, (attempt, (cell, (caps, (ncc, star)))))))
shown (X2Ack conn attempt cell algs air) = (x2_ack, (conn, (attempt, (cell, (algs, air)))))
shown (X2Cancel conn source attempt) = (x2_cancel, (conn, (source, attempt)))
shown (X2Release conn attempt) = (x2_release, (conn, attempt))
shown (ContextModification conn next kenb) = (context_modification, (conn, (next, kenb)))

-- what it says under the names of its fields
abbrev says : CoreRecord → Form CoreRecord × Said
says r = by_form (λ form plain place. (form, Listed (plain ++ key_entries place (content_of r).key))) (content_of r).fields

abbrev spell : CoreRecord → List ℕ
spell r = spelling_of (content_of r)

are_shown : AreShown shown core_forms
are_shown =
    (λ vs. refl, (λ vs. refl, (λ vs. refl, (λ vs. refl, (λ vs. refl, (λ vs. refl, (λ vs. refl, (λ vs. refl, (λ vs. refl, (λ vs. refl, (λ vs. refl, (λ vs. refl, (λ vs. refl, (λ vs. refl, (λ vs. refl, tt)))))))))))))))

-- the fields of a record beside its key, and the place of that
abbrev plain : CoreRecord → List Entry
plain r = by_form (λ form plain place. plain) (content_of r).fields

abbrev place : CoreRecord → KeyPlace
place r = by_form (λ form plain place. place) (content_of r).fields

-- a key is there where it is written, and one without an NCC has 0
abbrev has_key : KeyPlace → Option (NumberedKey (List ℕ) ℕ) → Bool
has_key NoKey None = true
has_key NoKey (Some k) = false
has_key KenbAlone (Some k) = k.number == 0
has_key KenbAlone None = false
has_key other None = false
has_key other (Some k) = true

key_within : (place : KeyPlace) (key : Option (NumberedKey (List ℕ) ℕ)) → KeyAt place key → EntriesInRange (key_entries place key)
key_within NoKey None h = tt
key_within KenbAlone (Some k) h = (h.0, h.1)
key_within NumberedNh (Some k) h = (h.2, (h.0, h.1))
key_within NumberedStar (Some k) h = (h.2, (h.0, h.1))
key_within other key h = absurd h

key_back : (place : KeyPlace) (key : Option (NumberedKey (List ℕ) ℕ)) → has_key place key ≡ true → EntriesInRange (key_entries place key) → KeyAt place key
key_back NoKey None e h = tt
key_back KenbAlone (Some k) e h = (h.0, h.1, omega (arith, eqb-true k.number 0 e))
key_back NumberedNh (Some k) e h = (h.1.0, h.1.1, h.0)
key_back NumberedStar (Some k) e h = (h.1.0, h.1.1, h.0)
key_back other key e h = absurd cc

within : (r : CoreRecord) → InRange (content_of r) → EntriesInRange (plain r ++ key_entries (place r) (content_of r).key)
within r h = appended (plain r) (key_entries (place r) (content_of r).key) h.fields (key_within (place r) (content_of r).key h.key)

back : (r : CoreRecord) → has_key (place r) (content_of r).key ≡ true → EntriesInRange (plain r ++ key_entries (place r) (content_of r).key)
    → InRange (content_of r)
back r e h =
    let parts = apart (plain r) (key_entries (place r) (content_of r).key) h in
    record { fields = parts.0; key = key_back (place r) (content_of r).key e parts.1 }

is_made : (r : CoreRecord) → IsMade core_forms shown says spell (λ r. InRange (content_of r)) r
unfolding spelling_of
is_made (InitialContext conn cell caps kenb) = let r = InitialContext conn cell caps kenb in
    record { made = refl; named = refl; same = refl; listed = λ octets. refl; within = within r; back = back r refl }
is_made other = record { made = refl; named = refl; same = refl; listed = λ octets. refl; within = within other; back = back other refl }

-- what is spelled so is read
pub spelled_is_read : (r : CoreRecord) → InRange (content_of r) → read_record (spelling_of (content_of r)) ≡ Ok r
unfolding read_record
spelled_is_read r h = read_back core_forms shown says spell (λ r. InRange (content_of r)) is_made r h

-- what is read is spelled so
pub found_in : (octets : List ℕ) (answer : Result CoreRecord RecFault) → AreOctets octets → answer ≡ read_record octets
    → IfOk answer (λ r. InRange (content_of r) × (octets ≡ spelling_of (content_of r)))
unfolding read_record
found_in octets answer fit e = found_by core_forms shown says spell (λ r. InRange (content_of r)) is_made are_shown octets answer fit e

pub read_is_spelled : (octets : List ℕ) (r : CoreRecord) → AreOctets octets → read_record octets ≡ Ok r
    → InRange (content_of r) × (octets ≡ spelling_of (content_of r))
read_is_spelled octets r fit e = found_in octets (Ok r) fit (sym e)
