-- The choice of algorithms (TS 33.401 7.2.4.2.1 and 7.2.4.3.1).
use Rattle.std.specs.Prelude.{Bool, ◌&&◌, if◌then◌else◌, List, Option, Some, None, Result, Ok, Err, find}
use Rattle.alg_choice.specs.{declared.algs.Eea.Eea, declared.algs.Algs.Algs, declared.caps.Caps.Caps, declared.choices.NoAlgorithm.NoAlgorithm, Caps.holds_eea, Caps.holds_eia2}

-- whether the capabilities hold the algorithms
unfoldable pub are_supported : Caps → Algs → Bool
are_supported caps algs = holds_eea caps algs.eea && holds_eia2 caps

-- the algorithms with this encryption algorithm, if there is one
abbrev pub algs_with : Option Eea → Result Algs NoAlgorithm
algs_with None = Err (record {})
algs_with (Some eea) = Ok (record { eea = eea })

-- 128-EIA2 and the first encryption algorithm of the list that the capabilities hold
unfoldable pub choice_of : List Eea → Caps → Result Algs NoAlgorithm
choice_of priority caps = if holds_eia2 caps then algs_with (find (holds_eea caps) priority) else algs_with None
