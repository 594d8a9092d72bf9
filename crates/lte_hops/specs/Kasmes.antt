-- What comes of nothing, and of KASMEs; and that keys with the same octets were made alike.
use Rattle.std.specs.Prelude.{◌≡◌, ℕ, List}
use Rattle.key_model.specs.{Derivable.Derivable, Value.value_of}
use Rattle.key_model.specs.Term.{Term, Alg, IsRoot}
use Rattle.lte_events.specs.{declared.events.Event.Event, declared.setups.Setup.Setup}
use Rattle.lte_machine.specs.Known.{IsReported}
use Rattle.lte_properties.specs.Headline.{EachWritten}
use Rattle.lte_hops.specs.Hops.{TheWorld}

-- whoever holds nothing computes no key
abbrev pub NothingGivesNone : Type 0
NothingGivesNone = (t : Term) → Derivable (λ k. ⊥) t → ⊥

-- NO PERFECT FORWARD SECRECY: whoever learns the KASMEs computes every key, also those that were used before
abbrev pub KasmesGiveAll : Type 0
KasmesGiveAll = (t : Term) → Derivable IsRoot t

-- two algorithm keys of a run with the same octets are of one type and identity, and come from one key (TS 33.401 A.7)
abbrev pub MadeAlike : TheWorld → Type 0
MadeAlike w =
    (t u : Term) (type kind id algorithm : ℕ) → IsReported w (Alg t type id) → IsReported w (Alg u kind algorithm)
    → value_of (Alg t type id) ≡ value_of (Alg u kind algorithm) → (t ≡ u) × (type ≡ kind) × (id ≡ algorithm)

abbrev pub AllMadeAlike : Setup → List Event → Type 0
AllMadeAlike setup events = EachWritten setup events MadeAlike
