-- How a step of a station moves its request: it stands with no number of the context raised, or it is new or gone.
use Rattle.std.proofs.Common.{◌≡◌, sym, ◌∙◌, ℕ, ◌≤◌, ◌<◌, Option, Some, None, arith}
use Rattle.std.specs.Prelude.{⊤}
use Rattle.key_model.specs.Term.{Term}
use Rattle.lte_events.specs.{declared.addresses.Address.Address, declared.addresses.Address.TheVariants.StationS1}
use Rattle.s1x2_rec.specs.Fields.{PathSwitchRequest, PathSwitchAnswer}
use Rattle.lte_machine.specs.{Wire.Outgoing, Wire.Between, StationState.Station, StationState.Context}
use Rattle.lte_properties.specs.ChainBelow.{EachNumber, IsUnder}
use Rattle.lte_properties.specs.ChainAbove.{RequestOk, AnswerOk, AnswerTo, InFlight}

-- the request stands: outstanding number and connection are as before, and what is above the old context is above the new
abbrev pub Stands : Option (Context Term ℕ) → Option (Context Term ℕ) → Type 0
Stands old None = ⊤
Stands None (Some d) = ⊥
Stands (Some c) (Some d) =
    (d.outstanding ≡ c.outstanding) × (d.conn ≡ c.conn) × ((n : ℕ) → EachNumber (IsUnder n) c → EachNumber (IsUnder n) d)

-- an outstanding number was drawn now
abbrev pub IsNew : ℕ → Option (Context Term ℕ) → Type 0
IsNew next None = ⊤
IsNew next (Some d) = (n : ℕ) → d.outstanding ≡ Some n → next ≤ n

pub data Moves (next : ℕ) (old new : Option (Context Term ℕ)) : Type 0 where
  Stays : Stands old new → Moves next old new
  Renewed : IsNew next new → Moves next old new

-- a number that was drawn before is not new
not_new : {A : Type 0} (next number : ℕ) → number < next → next ≤ number → A
not_new next number h k = absurd (omega arith)

request_moves_by : (next conn number : ℕ) (old new : Option (Context Term ℕ))
    → number < next
    → Moves next old new
    → RequestOk old conn number
    → RequestOk new conn number
request_moves_by next conn number old None lt m h = tt
request_moves_by next conn number None (Some d) lt (Stays s) h = absurd s
request_moves_by next conn number (Some c) (Some d) lt (Stays s) h = λ e. s.1 ∙ h (sym s.0 ∙ e)
request_moves_by next conn number old (Some d) lt (Renewed f) h = λ e. not_new next number lt (f number e)

answer_moves_by : (next conn number n : ℕ) (old new : Option (Context Term ℕ))
    → number < next
    → Moves next old new
    → AnswerOk old conn number n
    → AnswerOk new conn number n
answer_moves_by next conn number n old None lt m h = tt
answer_moves_by next conn number n None (Some d) lt (Stays s) h = absurd s
answer_moves_by next conn number n (Some c) (Some d) lt (Stays s) h =
    λ e. let k = h (sym s.0 ∙ e) in (s.1 ∙ k.0, s.2 n k.1)
answer_moves_by next conn number n old (Some d) lt (Renewed f) h = λ e. not_new next number lt (f number e)

module _ (s t : Station Term ℕ) (same : t.id ≡ s.id) (rises : s.next ≤ t.next) (m : Moves s.next s.context t.context) where
  later : (number : ℕ) → number < s.next → number < t.next
  later number h = omega arith

  request_moves : (station conn number : ℕ) →
      (station ≡ s.id → (number < s.next) × RequestOk s.context conn number) →
      station ≡ t.id → (number < t.next) × RequestOk t.context conn number
  request_moves station conn number h e =
      let k = h (e ∙ same) in (later number k.0, request_moves_by s.next conn number s.context t.context k.0 m k.1)

  answer_moves : (to : Address) (conn number n : ℕ) → AnswerTo to s conn number n → AnswerTo to t conn number n
  answer_moves (StationS1 station) conn number n h =
      λ e. let k = h (e ∙ same) in (later number k.0, answer_moves_by s.next conn number n s.context t.context k.0 m k.1)
  answer_moves other conn number n h = tt

  -- each record in flight fits the station after a step as it did before
  pub flight_moves : (x : Outgoing Term ℕ) → InFlight s x → InFlight t x
  flight_moves (Between to (PathSwitchRequest conn station number cell caps) key) h = request_moves station conn number h
  flight_moves (Between to (PathSwitchAnswer conn number) (Some pair)) h = answer_moves to conn number pair.number h
  flight_moves other h = tt
