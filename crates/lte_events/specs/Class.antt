-- The interface that a record is sent on, and what of its octets tells it from others.
use Rattle.std.specs.Prelude.{ℕ, Bool, true, false, List, drop}
use Rattle.lte_events.specs.{declared.addresses.Address.Address, declared.classes.Class.Class}
use Rattle.lte_events.specs.declared.addresses.Address.TheVariants.{Phone, PhoneNas, CoreNas, CoreS1, StationAir, StationS1, StationX2}
use Rattle.lte_events.specs.declared.classes.Class.TheVariants.{Nas, Air, S1, X2}

-- the interface of an address
abbrev pub class_of : Address → Class
class_of (Phone station air bearer) = Air
class_of PhoneNas = Nas
class_of CoreNas = Nas
class_of CoreS1 = S1
class_of (StationAir station air bearer) = Air
class_of (StationS1 station) = S1
class_of (StationX2 station) = X2

abbrev pub same_class : Class → Class → Bool
same_class Nas Nas = true
same_class Air Air = true
same_class S1 S1 = true
same_class X2 X2 = true
same_class a b = false

-- the octets that tell a record from others of its interface: on NAS those from the second on, since the first has
-- the security header type, which no MAC covers (TS 24.301 4.4.3.3)
abbrev pub told_in : Class → List ℕ → List ℕ
told_in Nas octets = drop 1 octets
told_in other octets = octets
