-- What is told of keys.
use Rattle.std.specs.Prelude.{ℕ, List, IfOk}
use Rattle.scenario_file.specs.Reading.{reading_of}
use Rattle.variant_keys.specs.Told.{KeysAreTold}

-- of a text that is a scenario: of the scenario itself and of each of its variants keys that differ are told exactly, and what heals leads to one key
abbrev pub KeysTold : List ℕ → Type 0
KeysTold octets = IfOk (reading_of octets) (λ s. KeysAreTold s.0 s.1)
