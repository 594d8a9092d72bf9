-- The greatest lengths of lists of octets.
use Rattle.std.specs.Prelude.{ℕ}

-- a record as sent
abbrev pub longest_record : ℕ
longest_record = 1536

-- the text of a user packet
abbrev pub longest_packet : ℕ
longest_packet = 1500

-- the text of a NAS or RRC record
abbrev pub longest_text : ℕ
longest_text = 200
