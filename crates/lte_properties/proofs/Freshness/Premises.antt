-- What freshness is proved from, where a run has met no coincidence (TS 33.401 B.2.1).
use Rattle.std.specs.Prelude.{◌≡◌, ℕ, List, [], ◌∷◌, slice_get, Option, Some, None, ⊤}
use Rattle.rec_base.specs.declared.uses.Dir.TheVariants.{Up}
use Rattle.lte_events.specs.declared.events.Event.{Event}
use Rattle.key_model.specs.{Term.Term, Value.value_of}
use Rattle.lte_machine.specs.{Wire.KeyUse, Wire.Outgoing, Step.Attempted, Step.attempted, Machines.sender_of}
use Rattle.lte_machine.specs.Opening.{Opening, OpensSrb, Outcome, Opened}
use Rattle.lte_machine.specs.World.{Machine, World, happens}

-- keys of the list that have one value are one key
abbrev pub ValuesApart : List (KeyUse Term) → Type 0
ValuesApart uses =
    (i j : ℕ) (u v : KeyUse Term) → slice_get uses i ≡ Some u → slice_get uses j ≡ Some v →
    value_of u.key ≡ value_of v.key → u.key ≡ v.key

-- the use under which a PDU of an SRB is accepted, if it is one and its MAC-I holds (TS 36.323 5.7)
abbrev pub srb_accepted : Opening Term → Outcome → Option (KeyUse Term)
srb_accepted (OpensSrb u e) (Opened text) = Some u
srb_accepted other outcome = None

-- a PDU that a station accepts on an SRB was sealed by its sender under the very use by which it is accepted: that the MAC-I
-- of another sender's use, or of nobody's, holds is a coincidence (TS 33.401 B.2.1)
abbrev pub SealedAsAccepted : Machine Term ℕ (Outgoing Term ℕ) → Attempted Term (Outgoing Term ℕ) → Type 0
SealedAsAccepted m a =
    (u : KeyUse Term) → u.dir ≡ Up → srb_accepted a.opening (m.opener a.opening a.octets a.came) ≡ Some u →
    sender_of a.came ≡ Some u

-- so it is in an event
abbrev pub SentUnder : Machine Term ℕ (Outgoing Term ℕ) → World Term ℕ (Outgoing Term ℕ) → Event → Type 0
SentUnder m w e = SealedAsAccepted m (attempted m w e)

-- and so it is in each event of a run
abbrev pub AllSentUnder : Machine Term ℕ (Outgoing Term ℕ) → World Term ℕ (Outgoing Term ℕ) → List Event → Type 0
AllSentUnder m w [] = ⊤
AllSentUnder m w (e ∷ es) = SentUnder m w e × AllSentUnder m (happens m w e).0 es
