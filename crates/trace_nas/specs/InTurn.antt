-- What a capture has of contexts and COUNTs.
use Rattle.std.specs.Prelude.{◌≡◌, ◌≤◌, Bool, true, Option, None, Some, List, [], ◌∷◌}
use Rattle.trace_nas.specs.Nas.{Role, IsCommand, IsComplete, IsOther, Context, Sealed, NasSight, Sent, Counts, used}

-- a message was sent at a COUNT that is not below the next one of its direction and KASME
pub record IsRaised (fits : NasSight → NasSight → Bool) (low : Counts) (sight : NasSight) (rest : Counts → Type 0) : Type 0 where
  pub sealed : Sealed
  pub fit : fits (Sent sealed) sight ≡ true
  pub above : low sealed.dir sealed.context.kasme ≤ sealed.count
  pub then : rest (used low sealed.dir sealed.context.kasme sealed.count)

-- the COUNTs of each direction and KASME go up along a capture: none is used twice (TS 24.301 4.4.3.2)
abbrev pub CountsRise : (NasSight → NasSight → Bool) → Counts → List NasSight → Type 0
CountsRise fits low [] = Unit {0}
CountsRise fits low (sight ∷ capture) = IsRaised fits low sight (λ next. CountsRise fits next capture)

-- A message by its role, where this context is in use and that of the last Command was offered. A Command offers its own, a Complete is
-- under the one that was offered and takes it into use, and any other message is under the one in use.
abbrev pub UnderAt : Option Context → Option Context → Role → Context → (Option Context → Option Context → Type 0) → Type 0
UnderAt using offered IsCommand context rest = rest using (Some context)
UnderAt using offered IsComplete context rest = (offered ≡ Some context) × rest (Some context) None
UnderAt using offered IsOther context rest = (using ≡ Some context) × rest using offered

pub record IsUnder (fits : NasSight → NasSight → Bool) (using offered : Option Context) (sight : NasSight) (rest : Option Context → Option Context → Type 0) : Type 0 where
  pub sealed : Sealed
  pub fit : fits (Sent sealed) sight ≡ true
  pub under : UnderAt using offered sealed.role sealed.context rest

-- each message of a capture is under the context in use
abbrev pub ContextsFollow : (NasSight → NasSight → Bool) → Option Context → Option Context → List NasSight → Type 0
ContextsFollow fits using offered [] = Unit {0}
ContextsFollow fits using offered (sight ∷ capture) =
    IsUnder fits using offered sight (λ next new. ContextsFollow fits next new capture)

-- each Command and each Complete is covered
abbrev pub ChangesSeen : (NasSight → Bool) → Type 0
ChangesSeen covers = (sealed : Sealed) → ((sealed.role ≡ IsOther) → ⊥) → covers (Sent sealed) ≡ true
