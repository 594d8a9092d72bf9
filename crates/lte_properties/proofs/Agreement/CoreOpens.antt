-- What the core's choice of a row establishes of a NAS message: a SECURITY MODE COMPLETE has COUNT 0, the first of its
-- context (TS 24.301 4.4.3.1), so that a key change begins with the KeNB of that COUNT.
use Rattle.std.proofs.Common.{◌≡◌, ℕ, sym, ◌∙◌, subst, Bool, List, Option, Some, None, Ok}
use Rattle.std.specs.Prelude.{⊤}
use Rattle.rec_base.specs.declared.uses.Dir.TheVariants.{Up, Down}
use Rattle.key_model.specs.{Reading.term_reading_by, Term.Term}
use Rattle.lte_machine.specs.{CoreChoice.core_header, CoreKeys.opens_by_procedure, CoreKeys.core_nas_expects, CoreState.Core, Opening.Outcome, Opening.Opened}
use Rattle.lte_machine.specs.Wire.{Outgoing, SealedNas, SealedRrc}
use Rattle.lte_machine.proofs.NasFacts.{Completes, nas_front}
use Rattle.lte_properties.proofs.Agreement.Openings.{WasCounted, IsHonest}

-- what came to the core on NAS: nothing that was sent, or what the phone sent, whose header type its octets tell
abbrev pub CameNas : List ℕ → Option (Outgoing Term ℕ) → Type 0
CameNas pdu None = ⊤
CameNas pdu (Some (SealedNas Up header i f text)) =
    (header ≡ 4 → i.count ≡ 0) × ((h : ℕ) → core_header pdu ≡ Ok h → h ≡ header)
CameNas pdu (Some (SealedNas Down header i f text)) = ⊥
CameNas pdu (Some (SealedRrc dir st a srb i f text)) = ⊥
CameNas pdu (Some other) = ⊤

-- a message of header type 4 that opened has COUNT 0
first_count : (pdu : List ℕ) (count : ℕ) → core_header pdu ≡ Ok 4 → (came : Option (Outgoing Term ℕ)) → CameNas pdu came → WasCounted count came → count ≡ 0
first_count pdu count is (Some (SealedNas Up header i f text)) h counted = counted ∙ h.0 (sym (h.1 4 is))
first_count pdu count is (Some (SealedNas Down header i f text)) h counted = absurd h
first_count pdu count is (Some (SealedRrc dir st a srb i f text)) h counted = absurd h
first_count pdu count is other h counted = absurd counted

-- a Complete that opened was sealed with its COUNT
pub core_nas_zero : (same : Term → Term → Bool) (s : Core Term ℕ) (pdu : List ℕ) (came : Option (Outgoing Term ℕ)) → CameNas pdu came → (outcome : Outcome)
    → IsHonest (core_nas_expects (nas_front (term_reading_by same) s pdu) s) came outcome
    → (count : ℕ)
    → Completes (term_reading_by same) s pdu outcome count
    → count ≡ 0
core_nas_zero same s pdu came came_ok outcome honest count c =
    let opened = subst (λ o. IsHonest (core_nas_expects (nas_front (term_reading_by same) s pdu) s) came o) c.opened honest in
    let expected = subst (λ f. IsHonest (core_nas_expects f s) came (Opened c.text)) c.front opened in
    first_count pdu count c.by.header came came_ok (subst (λ p. IsHonest (opens_by_procedure p count) came (Opened c.text)) c.by.running expected)
