-- The station that serves a phone, and which lines sent, as a text.
use Rattle.std.specs.Prelude.{ℕ, Bool, true, false, List, [], ◌++◌, map, codes}
use Rattle.std.specs.Fmt.{decimal}
use Rattle.item_outcomes.specs.Outcomes.{Verdict}

-- the digit of a line: `1` where a record was sent, else `0`
abbrev pub digit : Bool → ℕ
digit true = 49
digit false = 48

abbrev pub digits : List Bool → List ℕ
digits sent = map digit sent

unfoldable pub serving_text : ℕ → List ℕ
serving_text serving = codes ", serving " ++ (decimal serving ++ codes ", sent ")

-- `, serving 1, sent 1101`: behind what heals, where it is asked for
abbrev pub sent_text : Bool → Verdict → List ℕ
sent_text true v = serving_text v.serving ++ digits v.sent
sent_text false v = []
