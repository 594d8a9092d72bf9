-- What is told of an object of the outside at a moment.
use Rattle.std.specs.Prelude.{ℕ, Bool, true, false, IsTrue, Option, Some, None, List}
use Rattle.std.specs.Io.KnownBytes.{IsAtEnd}

-- One object may be a source, a sink or both, as a port is; of a side that it lacks it tells
-- nothing, and counts no fault there.
pub record Told : Type 0 where
  pub left : Option (List ℕ)  -- the octets that it has still to give, where it tells them
  pub most : ℕ  -- the greatest number of octets that it may still give
  pub ended : Bool  -- whether a read met the end of its input
  pub read_faults : ℕ
  pub written : Option (List ℕ)  -- the octets that it was given, where it tells them
  pub lines : Option Bool  -- whether each piece that it was given was whole lines, and none was empty, where it tells that
  pub pieces : Option Bool  -- whether no piece that it was given was empty, where it tells that
  pub write_faults : ℕ
  pub open_faults : ℕ
  pub ready : Bool  -- it may be read and written; a port is ready while it is open

-- a read met the end of the input: nothing is left, where that is told
pub record HasEnded (told : Told) : Type 0 where
  pub met : IsTrue told.ended
  pub none_left : IsAtEnd told.left

-- what a source alone tells, which is always ready
abbrev pub source_told : Option (List ℕ) → ℕ → Bool → ℕ → Told
source_told left most ended faults =
    record {
      left = left;
      most = most;
      ended = ended;
      read_faults = faults;
      written = None;
      lines = None;
      pieces = None;
      write_faults = 0;
      open_faults = 0;
      ready = true;
    }

-- what a sink alone tells, which is always ready
abbrev pub sink_told : Option (List ℕ) → Option Bool → Option Bool → ℕ → Told
sink_told written lines pieces faults =
    record {
      left = None;
      most = 0;
      ended = false;
      read_faults = 0;
      written = written;
      lines = lines;
      pieces = pieces;
      write_faults = faults;
      open_faults = 0;
      ready = true;
    }

-- what a port tells that is made of a source and a sink, and whose opening never failed
abbrev pub port_told : Told → Told → Bool → Told
port_told source sink is_open =
    record {
      left = source.left;
      most = source.most;
      ended = source.ended;
      read_faults = source.read_faults;
      written = sink.written;
      lines = sink.lines;
      pieces = sink.pieces;
      write_faults = sink.write_faults;
      open_faults = 0;
      ready = is_open;
    }

-- what a port tells that is one connection of the network
abbrev pub connection_told : Bool → ℕ → Bool → Bool → ℕ → ℕ → ℕ → Told
connection_told is_open most ended pieces read_faults write_faults open_faults =
    record {
      left = None;
      most = most;
      ended = ended;
      read_faults = read_faults;
      written = None;
      lines = None;
      pieces = Some pieces;
      write_faults = write_faults;
      open_faults = open_faults;
      ready = is_open;
    }
