-- The causes of faults: a call of the outside answers one only where the object's count rose.
use Rattle.std.specs.Prelude.{◌≡◌, ℕ, ◌+◌, ◌-◌, ◌^◌, ◌≤◌, min, Result, IfErr, OnErr}
use Rattle.std.specs.{IoError.error_kind, declared.io.Error.Error, declared.io.ErrorKind.TheVariants.OutOfMemory}
use Rattle.growth.specs.Growth.{WasRefused}
use Rattle.edge_io.specs.Told.{Told}

-- A count of faults rose. It is a 64-bit number that stops at its greatest, and counts as risen there.
abbrev pub Rose : ℕ → ℕ → Type 0
Rose before after = min (before + 1) (2 ^ 64 - 1) ≤ after

-- an answer that is an error has its cause: the count rose
abbrev pub HasCause : {T E : Type 0} → ℕ → ℕ → Result T E → Type 0
HasCause before after result = OnErr result (Rose before after)

-- A count went up by one. It is a 64-bit number that stops at its greatest.
abbrev pub OneMore : ℕ → ℕ → Type 0
OneMore before after = after ≡ min (before + 1) (2 ^ 64 - 1)

-- an answer that says that memory ran out has its cause: std or the system refused it
abbrev pub MemoryHasCause : {X : Type 0} → Result X Error → Type 0
MemoryHasCause answer = IfErr answer (λ error. error_kind error ≡ OutOfMemory → WasRefused)

-- the object met no fault: none of its counts rose
pub record NoFault (before after : Told) : Type 0 where
  pub reads : after.read_faults ≡ before.read_faults
  pub writes : after.write_faults ≡ before.write_faults
  pub opens : after.open_faults ≡ before.open_faults

-- none of the object's counts of faults fell
pub record NoCountFell (before after : Told) : Type 0 where
  pub reads : before.read_faults ≤ after.read_faults
  pub writes : before.write_faults ≤ after.write_faults
  pub opens : before.open_faults ≤ after.open_faults
