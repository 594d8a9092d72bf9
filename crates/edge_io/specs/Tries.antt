-- A call on a reader or a writer that is made again while it is interrupted.
use Rattle.std.specs.Prelude.{◌≡◌, ◌≢◌, ◌⊎◌, ℕ, zero, suc, ◌-◌, ◌^◌, Result, Err}
use Rattle.std.specs.{IoError.error_kind, declared.io.Error.Error, declared.io.ErrorKind.TheVariants.Interrupted}

-- Here `answers` is what one call does: the object before it, its answer, the object after it.

-- a call was interrupted
pub record IsInterrupted {X : Type 0} (answers : X → Result ℕ Error → X → Type 0) (before after : X) : Type 0 where
  pub error : Error
  pub answered : answers before (Err error) after
  pub kind : error_kind error ≡ Interrupted

-- so many calls in a row were interrupted
unfoldable pub Interruptions : {X : Type 0} → (X → Result ℕ Error → X → Type 0) → ℕ → X → X → Type 0
Interruptions answers zero before after = after ≡ before
Interruptions {X} answers (suc n) before after = (mid : X) × Interruptions answers n before mid × IsInterrupted answers mid after

-- the last call had this answer, and each before it was interrupted
pub record LastAnswers {X : Type 0} (answers : X → Result ℕ Error → X → Type 0) (answer : Result ℕ Error) (before after : X) : Type 0 where
  pub interrupted : ℕ
  pub mid : X
  pub first : Interruptions answers interrupted before mid
  pub last : answers mid answer after

-- the last call answered an error that is no interruption
pub record LastFails {X : Type 0} (answers : X → Result ℕ Error → X → Type 0) (before after : X) : Type 0 where
  pub error : Error
  pub last : LastAnswers answers (Err error) before after
  pub kind : error_kind error ≢ Interrupted

-- a call is given up: it failed, or was interrupted 2^64 - 1 times
abbrev pub GivesUp : {X : Type 0} → (X → Result ℕ Error → X → Type 0) → X → X → Type 0
GivesUp answers before after = LastFails answers before after ⊎ Interruptions answers (2 ^ 64 - 1) before after
