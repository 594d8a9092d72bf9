-- What the stations of a set can derive together, one of them can derive by itself.
use Rattle.std.specs.Prelude.{◌≡◌, ℕ, Bool, IsTrue, ◌↔◌, List}
use Rattle.key_model.specs.{Derivable.Derivable, Term.Term}
use Rattle.lte_events.specs.{declared.events.Event.Event, declared.setups.Setup.Setup}
use Rattle.lte_machine.specs.{Distinct.keys_of, Distinct.Member, World.World, World.Holding}
use Rattle.lte_properties.specs.{Headline.EachWritten, Separation.Those, Separation.HeldBy}

-- the keys that one station held, at any time
abbrev pub HeldAlone : ℕ → List (Holding Term) → Term → Type 0
HeldAlone id held t = HeldBy (λ other. other ≡ id) held t

-- a station of the set can derive the key from them
abbrev pub OneDerives : (ℕ → Bool) → List (Holding Term) → Term → Type 0
OneDerives test held t = (id : ℕ) × IsTrue (test id) × Derivable (HeldAlone id held) t

-- of every key of a run: the stations of a set can derive it from all that they held exactly where one of them can by itself
abbrev pub AloneAsTogether : {S : Type 0} → World Term ℕ S → Type 0
AloneAsTogether w =
    (test : ℕ → Bool) (t : Term) → Member t (keys_of w.history) → Derivable (HeldBy (Those test) w.held) t ↔ OneDerives test w.held t

-- in every world over terms by which the run of these events goes on
abbrev pub EachAlone : Setup → List Event → Type 0
EachAlone setup events = EachWritten setup events AloneAsTogether
