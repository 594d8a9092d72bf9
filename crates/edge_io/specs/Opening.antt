-- How a port on the network is opened, by what each call on the network answers.
use Rattle.std.specs.Prelude.{ℕ, ◌⊎◌, List, [], ◌∷◌, Result, Ok, Err}
use Rattle.std.specs.declared.io.Error.{Error}
use Rattle.edge_io.specs.{Cause.Rose, PortLine.SaysPort, Told.Told}

-- Here `binds` is what a bind may answer, at the octets of an address and a port; `has_port` what a listener
-- may answer for its port, and `accepts` for its next connection, once its port is said so.

-- 127.0.0.1, by its octets
abbrev pub loopback : List ℕ
loopback = 127 ∷ 0 ∷ 0 ∷ 1 ∷ []

-- a call failed
pub record Fails {X : Type 0} (answers : Result X Error → Type 0) : Type 0 where
  pub error : Error
  pub answered : answers (Err error)

-- A listener was bound on 127.0.0.1, at a port that the system chose, and this is so of it.
pub record Listens {L : Type 0} (binds : List ℕ → ℕ → Result L Error → Type 0) (Holds : L → Type 0) : Type 0 where
  pub listener : L
  pub bound : binds loopback 0 (Ok listener)
  pub holds : Holds listener

-- the number of a listener's port was written as one line, and then this connection to it was accepted
pub record Opens {L S : Type 0} (has_port : L → Result ℕ Error → Type 0) (accepts : L → Told → Result S Error → Type 0)
    (out out' : Told) (connection : S) (listener : L) : Type 0 where
  pub number : ℕ
  pub is_port : has_port listener (Ok number)
  pub said : SaysPort number out.written out'.written
  pub accepted : accepts listener out' (Ok connection)

-- a port is open over this connection
abbrev pub IsOpened : {L S : Type 0}
    → (List ℕ → ℕ → Result L Error → Type 0)
    → (L → Result ℕ Error → Type 0)
    → (L → Told → Result S Error → Type 0)
    → Told
    → Told
    → S
    → Type 0
IsOpened binds has_port accepts out out' connection = Listens binds (Opens has_port accepts out out' connection)

-- A port did not open: no listener was bound, it did not tell its port or accept no connection, or the line was not written.
abbrev pub OpenFails : {L S : Type 0}
    → (List ℕ → ℕ → Result L Error → Type 0)
    → (L → Result ℕ Error → Type 0)
    → (L → Told → Result S Error → Type 0)
    → Told
    → Told
    → Type 0
OpenFails binds has_port accepts out out' =
    Fails (binds loopback 0)
    ⊎ Listens binds (λ listener. Fails (has_port listener) ⊎ (Fails (accepts listener out') ⊎ Rose out.write_faults out'.write_faults))
