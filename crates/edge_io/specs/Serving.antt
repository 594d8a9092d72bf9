-- Which program serves a role, and how it is started, reached and ended, by what each call on the host answers.
use Rattle.std.specs.Prelude.{◌≡◌, ◌≢◌, ◌⊎◌, ℕ, Option, Some, None, IsSomeAnd, List, [], ◌∷◌, ◌++◌, length, map, string_bytes, slice_set, Result, Ok, Err}
use Rattle.std.specs.{Option.option_flatten, List.slice_get, Io.KnownBytes.Appends, Io.KnownBytes.Consumes, Path.path_buf_bytes, IoError.error_kind, declared.io.Error.Error, declared.io.ErrorKind.TheVariants.OutOfMemory}
use Rattle.growth.specs.Growth.{WasRefused}
use Rattle.edge_io.specs.{Cause.OneMore, Opening.loopback, PortLine.ReadsPort, PortLine.ReadsNoPort, RoleWords.role_words, Tries.GivesUp, Tries.LastAnswers, declared.peers.Role.Role, declared.programs.Program.Program, declared.programs.Programs.Programs, declared.peer_fault.PeerFault.PeerFault}
use Rattle.edge_io.specs.declared.peers.Role.TheVariants.{Phone, Station, Core}
use Rattle.edge_io.specs.declared.peer_fault.PeerFault.TheVariants.{NotStarted, NoPort, NotReached}

-- the program of a role
abbrev pub program_of : Role → Programs → Option Program
program_of Phone programs = programs.phone
program_of (Station number) programs = option_flatten (slice_get programs.stations.items number)
program_of Core programs = programs.core

-- Here `starts` is what the start of a program may answer, of the octets of its path and of its words; `kills` and
-- `waits` are what a kill and a wait do to it, and `finishes` what it does to a connection to say that nothing more
-- comes; `remaining` and `answers` are what it has still to say, and what a
-- read of that may answer; `connects` is what a connection may answer, at the octets of an address and a port.

-- a call failed for want of memory
pub record WantsMemory {X : Type 0} (answers : Result X Error → Type 0) : Type 0 where
  pub error : Error
  pub answered : answers (Err error)
  pub kind : error_kind error ≡ OutOfMemory

-- a call failed, and not for want of memory
pub record FailsItself {X : Type 0} (answers : Result X Error → Type 0) : Type 0 where
  pub error : Error
  pub answered : answers (Err error)
  pub kind : error_kind error ≢ OutOfMemory

-- the start of this program in this role
abbrev pub start_of : {A : Type 1} → (List ℕ → List (List ℕ) → A) → Program → Role → A
start_of starts program role = starts (path_buf_bytes program.path) (map string_bytes program.words.items ++ role_words role)

-- a program was killed, and waited for
pub record IsEnded {P : Type 0} (kills waits : P → P → Type 0) (before after : P) : Type 0 where
  pub killed : P
  pub kill : kills before killed
  pub wait : waits killed after

-- a program was started, and this is so of it
pub record Started {P S : Type 0} (start : Result (P × S) Error → Type 0) (Holds : P → S → Type 0) : Type 0 where
  pub process : P
  pub said : S
  pub started : start (Ok (process, said))
  pub holds : Holds process said

-- it said its port as its first line, and this is so of the port
pub record Says {S : Type 0} (remaining : S → Option (List ℕ)) (before after : S) (Holds : ℕ → Type 0) : Type 0 where
  pub number : ℕ
  pub port : ReadsPort number (remaining before) (remaining after)
  pub holds : Holds number

-- a program that was started was ended
pub record Stopped {P : Type 0} (kills waits : P → P → Type 0) (process : P) : Type 0 where
  pub after : P
  pub ended : IsEnded kills waits process after

-- what it said was read, and this is so of what it has still to say
pub record Heard {S : Type 0} (Holds : S → Type 0) : Type 0 where
  pub after : S
  pub holds : Holds after

-- A program was started, said its port, and this is a connection to it.
abbrev pub IsServed : {P S C : Type 0} → (Result (P × S) Error → Type 0) → (S → Option (List ℕ)) → (List ℕ → ℕ → Result C Error → Type 0) → P → S → C → Type 0
IsServed start remaining connects process said connection =
    Started start (λ p s. (p ≡ process) × Says remaining s said (λ number. connects loopback number (Ok connection)))

-- Why a program that was started is not reached: it said no port, or nothing took a connection there.
abbrev pub NotFound : {S C : Type 0}
    → (ℕ → S → Result ℕ Error → S → Type 0)
    → (S → Option (List ℕ))
    → (List ℕ → ℕ → Result C Error → Type 0)
    → S
    → S
    → PeerFault
    → Type 0
NotFound answers remaining connects said after NoPort = ReadsNoPort answers remaining said after
NotFound answers remaining connects said after NotReached = Says remaining said after (λ number. FailsItself (connects loopback number))
NotFound answers remaining connects said after other = ⊥

-- Why a program is not served: its start failed; or it was started, not reached, and ended. Here `before` and `after` are how many programs the host has
-- started.
abbrev pub NotServed : {P S C : Type 0}
    → (Result (P × S) Error → Type 0)
    → (P → P → Type 0)
    → (P → P → Type 0)
    → (ℕ → S → Result ℕ Error → S → Type 0)
    → (S → Option (List ℕ))
    → (List ℕ → ℕ → Result C Error → Type 0)
    → ℕ
    → ℕ
    → PeerFault
    → Type 0
NotServed start kills waits answers remaining connects before after NotStarted = FailsItself start × (after ≡ before)
NotServed start kills waits answers remaining connects before after fault =
    Started start (λ process said. Stopped kills waits process × Heard (λ heard. NotFound answers remaining connects said heard fault))
    × OneMore before after

-- Why there was no memory to serve a program: none was started, since std refused a growth or the start wanted memory; or one was started, the
-- connection to it wanted memory, and it was ended.
abbrev pub NoMemory : {P S C : Type 0}
    → (Result (P × S) Error → Type 0)
    → (P → P → Type 0)
    → (P → P → Type 0)
    → (S → Option (List ℕ))
    → (List ℕ → ℕ → Result C Error → Type 0)
    → ℕ
    → ℕ
    → Type 0
NoMemory start kills waits remaining connects before after =
    ((WasRefused ⊎ WantsMemory start) × (after ≡ before))
    ⊎ (Started start (λ process said. Stopped kills waits process
    × Heard (λ heard. Says remaining said heard (λ number. WantsMemory (connects loopback number))))
    × OneMore before after)

-- The last call on a connection was given up, or gave or took nothing. Here `answers` is what a call may answer.
pub record LastCallFails {C X : Type 0} (answers : X → C → Result ℕ Error → C → Type 0) (after : C) : Type 0 where
  pub asked : X
  pub before : C
  pub fails : GivesUp (answers asked) before after ⊎ LastAnswers (answers asked) (Ok 0) before after

-- Here `contents` and `remaining` are what a connection was given to write and has still to give, where it tells them.

-- these octets were sent over a connection
abbrev pub IsSent : {C : Type 0} → (C → Option (List ℕ)) → List ℕ → Option C → Option C → Type 0
IsSent contents octets before after = IsSomeAnd before (λ old. IsSomeAnd after (λ new. Appends (contents old) (contents new) octets))

-- these octets came over a connection
abbrev pub IsFilled : {C : Type 0} → (C → Option (List ℕ)) → List ℕ → Option C → Option C → Type 0
IsFilled remaining octets before after = IsSomeAnd before (λ old. IsSomeAnd after (λ new. Consumes (remaining old) (remaining new) octets))

-- A connection was closed, or the last call on it was given up, or gave or took nothing.
abbrev pub IsCut : {C X : Type 0} → (X → C → Result ℕ Error → C → Type 0) → Option C → Option C → Type 0
IsCut answers before after = (before ≡ None) ⊎ IsSomeAnd after (LastCallFails answers)

-- A connection was told that nothing more comes, and these octets were read then: as many as there is room for, or all that came.
pub record StillSays {C : Type 0} (finishes : C → C → Type 0) (answers : ℕ → C → Result ℕ Error → C → Type 0)
    (remaining : C → Option (List ℕ)) (room : ℕ) (before : C) (octets : List ℕ) : Type 0 where
  pub finished : C
  pub after : C
  pub finish : finishes before finished
  pub said : Consumes (remaining finished) (remaining after) octets
  pub whole : (length octets ≡ room) ⊎ LastCallFails answers after

-- the octets that a peer had still to say when it was stopped, none where its connection was closed
abbrev pub LeavesSaid : {C : Type 0} → (C → C → Type 0) → (ℕ → C → Result ℕ Error → C → Type 0) → (C → Option (List ℕ)) → ℕ → Option C → List ℕ → Type 0
LeavesSaid finishes answers remaining room None octets = octets ≡ []
LeavesSaid finishes answers remaining room (Some before) octets = StillSays finishes answers remaining room before octets

-- octets were put at the end of what peers had still to say, with the role of theirs
pub record Puts {V : Type 0} (before after : List (Role × V)) (items : V → List ℕ) (role : Role) (octets : List ℕ) : Type 0 where
  pub kept : V
  pub is : items kept ≡ octets
  pub put : after ≡ before ++ (role, kept) ∷ []

-- octets are kept, if there are any and std has memory for them
abbrev pub Keeps : {V : Type 0} → List (Role × V) → List (Role × V) → (V → List ℕ) → Role → List ℕ → Type 0
Keeps before after items role octets = Puts before after items role octets ⊎ (((octets ≡ []) ⊎ WasRefused) × (after ≡ before))

-- how many octets of what a peer had still to say are kept at the most: those of the greatest reply
abbrev pub most_kept : ℕ
most_kept = 4098

-- what a peer of this role had still to say was read, and kept
pub record KeepsSaid {C V : Type 0} (finishes : C → C → Type 0) (answers : ℕ → C → Result ℕ Error → C → Type 0)
    (remaining : C → Option (List ℕ)) (before after : List (Role × V)) (items : V → List ℕ) (role : Role)
    (connection : Option C) : Type 0 where
  pub octets : List ℕ
  pub said : LeavesSaid finishes answers remaining most_kept connection octets
  pub kept : Keeps before after items role octets

-- of these peers only the one with this number took part, and this is so of it before and after
pub record OfPeer {P : Type 0} (number : ℕ) (before after : List P) (Holds : P → P → Type 0) : Type 0 where
  pub old : P
  pub new : P
  pub stands : slice_get before number ≡ Some old
  pub put : after ≡ slice_set before number new
  pub holds : Holds old new

-- no peer has this number, and nothing was done to those that there are
pub record OfNoPeer {P : Type 0} (number : ℕ) (before after : List P) : Type 0 where
  pub missing : slice_get before number ≡ None
  pub same : after ≡ before
