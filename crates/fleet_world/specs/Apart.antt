-- What holds of all phones of a fleet together, where no event comes to a coincidence: no use of a key stands twice, and what
-- stations hold for the others derives nothing that comes of a phone's root.
use Rattle.std.specs.Prelude.{◌≡◌, ◌≢◌, ℕ, ◌<◌, List, [], ◌∷◌, ◌⊎◌, Some, slice_get, IsOk, ⊤}
use Rattle.lte_events.specs.{Ranges.IsEvent, declared.events.Event.Event, declared.setups.Setup.Setup}
use Rattle.key_model.specs.Derivable.{Derivable}
use Rattle.key_model.specs.Term.{Term, Root, Kenb, Nh, Star, Alg}
use Rattle.lte_machine.specs.{BothRuns.written_run, Distinct.Member, Ladder.OfRoot, Machines.Kept, Wire.KeyUse, Wire.Outgoing, World.World}
use Rattle.lte_machine.specs.Run.{RunState, Running, Stopped}
use Rattle.lte_properties.specs.Separation.{HeldBy}
use Rattle.fleet_world.specs.Answers.{answer, own_at, owns_after}
use Rattle.fleet_world.specs.Phones.{phone_run}

-- an event of one of so many phones
abbrev pub IsEventOf : ℕ → ℕ × Event → Type 0
IsEventOf phones x = (x.0 < phones) × IsEvent x.1

-- each event is answered by a line
abbrev pub AllAnswered : Setup → List (List Event) → List (ℕ × Event) → Type 0
AllAnswered setup owns [] = Unit {0}
AllAnswered setup owns (x ∷ xs) = IsOk (answer setup owns x.0 x.1) × AllAnswered setup (owns_after setup owns x.0 x.1) xs

-- FRESHNESS

abbrev pub uses_in : RunState (List ℕ) ℕ Kept → List (KeyUse (List ℕ))
uses_in (Running w) = w.uses
uses_in (Stopped coincidence) = []

-- the uses of keys in all that was sent for a phone
abbrev pub phone_uses : Setup → List (List Event) → ℕ → List (KeyUse (List ℕ))
phone_uses setup owns p = uses_in (phone_run setup (own_at owns p))

-- no key, COUNT, bearer and direction stands at two places, be they of one phone or of two
abbrev pub NoUseTwice : Setup → List (List Event) → Type 0
NoUseTwice setup owns =
    (p q i j : ℕ) (u : KeyUse (List ℕ)) → slice_get (phone_uses setup owns p) i ≡ Some u → slice_get (phone_uses setup owns q) j ≡ Some u → (p ≡ q) × (i ≡ j)

-- SEPARATION

-- a world of a phone
abbrev pub IsWorldOf : Setup → List (List Event) → ℕ → World Term ℕ (Outgoing Term ℕ) → Type 0
IsWorldOf setup owns p w = written_run setup (own_at owns p) ≡ Running w

-- a root of a phone
abbrev pub IsRootOf : Setup → List (List Event) → ℕ → Term → Type 0
IsRootOf setup owns p root = (w : World Term ℕ (Outgoing Term ℕ)) × IsWorldOf setup owns p w × Member (OfRoot root) w.history

-- all that stations hold, at any time, for the phones other than p
abbrev pub HeldForOthers : Setup → List (List Event) → ℕ → Term → Type 0
HeldForOthers setup owns p t =
    (q : ℕ) × (w : World Term ℕ (Outgoing Term ℕ)) × (q ≢ p) × IsWorldOf setup owns q w × HeldBy (λ id. ⊤) w.held t

-- a key comes of a root of these octets (TS 33.401 Annex A)
abbrev pub ComesOfRoot : List ℕ → Term → Type 0
ComesOfRoot root (Root r octets) = octets ≡ root
ComesOfRoot root (Kenb r n) = ComesOfRoot root r
ComesOfRoot root (Nh r t) = ComesOfRoot root r ⊎ ComesOfRoot root t
ComesOfRoot root (Star t pci earfcn) = ComesOfRoot root t
ComesOfRoot root (Alg t type id) = ComesOfRoot root t

-- no key that comes of a root of a phone is derivable from all that stations hold for the others
abbrev pub PhonesSeparate : Setup → List (List Event) → Type 0
PhonesSeparate setup owns =
    (p r : ℕ) (root : List ℕ) (t : Term) → IsRootOf setup owns p (Root r root) → ComesOfRoot root t → Derivable (HeldForOthers setup owns p) t → ⊥
