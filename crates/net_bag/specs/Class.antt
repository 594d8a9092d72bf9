-- The value by which a record is looked up.
use Rattle.std.specs.Prelude.{ℕ, List, ◌∷◌}
use Rattle.sha2.specs.Sha256.{sha256}
use Rattle.lte_events.specs.{Class.told_in, declared.classes.Class.Class}
use Rattle.lte_events.specs.declared.classes.Class.TheVariants.{Nas, Air, S1, X2}

-- one octet for each interface
abbrev pub class_octet : Class → ℕ
class_octet Nas = 0
class_octet Air = 1
class_octet S1 = 2
class_octet X2 = 3

-- the value by which records are looked up: SHA-256 (FIPS 180-4) of the interface and the octets that tell
unfoldable pub digest : Class → List ℕ → List ℕ
digest class octets = sha256 (class_octet class ∷ told_in class octets)
