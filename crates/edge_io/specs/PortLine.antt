-- The line by which a served actor says its port: how it is written, and how it is read.
use Rattle.std.specs.Prelude.{◌≢◌, ◌⊎◌, ℕ, ◌^◌, ◌<◌, Option, List, ◌++◌, Result, Ok, codes}
use Rattle.std.specs.{Fmt.decimal, Io.KnownBytes.Consumes, declared.io.Error.Error}
use Rattle.edge_io.specs.{Octets.Grows, Tries.GivesUp, Tries.LastAnswers}

-- the number of the port in decimal digits, and LF
abbrev pub port_line : ℕ → List ℕ
port_line number = decimal number ++ codes "\n"

-- the line of this port was written, and nothing else
abbrev pub SaysPort : ℕ → Option (List ℕ) → Option (List ℕ) → Type 0
SaysPort number old new = Grows old new (port_line number)

-- the line of this port was read, and nothing else
abbrev pub ReadsPort : ℕ → Option (List ℕ) → Option (List ℕ) → Type 0
ReadsPort number old new = Consumes old new (port_line number)

-- these octets begin the line of no port
abbrev pub BeginsNoPort : List ℕ → Type 0
BeginsNoPort octets = (number : ℕ) (more : List ℕ) → number < 2 ^ 16 → octets ++ more ≢ port_line number

-- such octets were read
pub record ReadsOther (old new : Option (List ℕ)) : Type 0 where
  pub octets : List ℕ
  pub taken : Consumes old new octets
  pub other : BeginsNoPort octets

-- A read of one octet was given up, or found the end. Here `answers` is what a read may answer.
abbrev pub GivesNone : {X : Type 0} → (ℕ → X → Result ℕ Error → X → Type 0) → X → X → Type 0
GivesNone answers before after = GivesUp (answers 1) before after ⊎ LastAnswers (answers 1) (Ok 0) before after

-- the last read did that
pub record StopsShort {X : Type 0} (answers : ℕ → X → Result ℕ Error → X → Type 0) (after : X) : Type 0 where
  pub before : X
  pub none : GivesNone answers before after

-- no line of a port was read
abbrev pub ReadsNoPort : {X : Type 0} → (ℕ → X → Result ℕ Error → X → Type 0) → (X → Option (List ℕ)) → X → X → Type 0
ReadsNoPort answers remaining before after = StopsShort answers after ⊎ ReadsOther (remaining before) (remaining after)
