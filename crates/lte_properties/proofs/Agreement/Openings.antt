-- What is so of each opening of a run that has met no coincidence, step by step: proved in `Opener` and `Calm`.
use Rattle.std.specs.Prelude.{◌≡◌, ℕ, Bool, true, false, List, [], ◌∷◌, Option, Some, None, ⊤}
use Rattle.rec_base.specs.{declared.uses.Dir.Dir, declared.uses.Dir.TheVariants.Down}
use Rattle.lte_events.specs.declared.events.Event.{Event}
use Rattle.key_model.specs.Term.{Term, same_term}
use Rattle.lte_machine.specs.Wire.{KeyUse, Ciphering, Outgoing, SealedNas, SealedRrc}
use Rattle.lte_machine.specs.{Ciphers.Ciphers, Step.Attempted, Step.attempted}
use Rattle.lte_machine.specs.Opening.{Opening, OpensNas, OpensSrb, Outcome, Opened, open_by_uses}
use Rattle.lte_machine.specs.World.{Machine, World, happens}

-- a record that opened under an integrity use was sealed on an SRB under that use; where its ciphering is the expected one,
-- it opened to the text that was sent
abbrev pub WasSealed : KeyUse Term → Option (Ciphering Term) → List ℕ → Option (Outgoing Term ℕ) → Type 0
WasSealed u e text (Some (SealedRrc dir station air srb i f sent)) = (u ≡ i) × (e ≡ f → text ≡ sent)
WasSealed u e text (Some (SealedNas dir header i f sent)) = u ≡ i
WasSealed u e text other = ⊥

-- a NAS message that opened under a use was sealed with its COUNT
abbrev pub WasCounted : ℕ → Option (Outgoing Term ℕ) → Type 0
WasCounted count (Some (SealedNas dir header i f sent)) = count ≡ i.count
WasCounted count (Some (SealedRrc dir station air srb i f sent)) = count ≡ i.count
WasCounted count other = ⊥

abbrev pub IsHonest : Opening Term → Option (Outgoing Term ℕ) → Outcome → Type 0
IsHonest (OpensSrb u e) came (Opened text) = WasSealed u e text came
IsHonest (OpensNas u e) came (Opened text) = WasCounted u.count came
IsHonest other came outcome = ⊤

-- the outcome of an opening of a machine
abbrev pub outcome_of : {K C S : Type 0} → Machine K C S → Attempted K S → Outcome
outcome_of m a = m.opener a.opening a.octets a.came

-- an event's opening is honest
abbrev pub Honest : Machine Term ℕ (Outgoing Term ℕ) → World Term ℕ (Outgoing Term ℕ) → Event → Type 0
Honest m w e = let a = attempted m w e in IsHonest a.opening a.came (outcome_of m a)

-- ciphered or not
abbrev pub is_ciphered : Option (Ciphering Term) → Bool
is_ciphered None = false
is_ciphered (Some e) = true

-- a record that came down, and opened, was ciphered exactly where the phone expected it to be
abbrev pub CipheredAs : Dir → Option (Ciphering Term) → Option (Outgoing Term ℕ) → Type 0
CipheredAs Down e (Some (SealedRrc dir station air srb i f sent)) = is_ciphered f ≡ is_ciphered e
CipheredAs dir e other = ⊤

abbrev pub IsCalm : Opening Term → Option (Outgoing Term ℕ) → Outcome → Type 0
IsCalm (OpensSrb u e) came (Opened text) = CipheredAs u.dir e came
IsCalm other came outcome = ⊤

-- an event's opening is calm: a phone that waits for the security of its connection opens no ciphered record, and a
-- connected one no unciphered one
abbrev pub Calm : Machine Term ℕ (Outgoing Term ℕ) → World Term ℕ (Outgoing Term ℕ) → Event → Type 0
Calm m w e = let a = attempted m w e in IsCalm a.opening a.came (outcome_of m a)

-- an opener that compares the uses of SRB records as terms
abbrev pub OpensSrbByTerms : Ciphers Term → (Opening Term → List ℕ → Option (Outgoing Term ℕ) → Outcome) → Type 0
OpensSrbByTerms c opener =
    (u : KeyUse Term) (e : Option (Ciphering Term)) (pdu : List ℕ) (came : Option (Outgoing Term ℕ))
    → opener (OpensSrb u e) pdu came ≡ open_by_uses same_term c (OpensSrb u e) pdu came

-- and one that compares the uses of NAS messages, by whatever test says which keys are one
abbrev pub OpensNasByUses : Ciphers Term → (Opening Term → List ℕ → Option (Outgoing Term ℕ) → Outcome) → Type 0
OpensNasByUses c opener =
    (same : Term → Term → Bool)
    × ((u : KeyUse Term) (e : Option (Ciphering Term)) (pdu : List ℕ) (came : Option (Outgoing Term ℕ))
    → opener (OpensNas u e) pdu came ≡ open_by_uses same c (OpensNas u e) pdu came)

-- both, whatever it does with others
abbrev pub OpensByTerms : Ciphers Term → (Opening Term → List ℕ → Option (Outgoing Term ℕ) → Outcome) → Type 0
OpensByTerms c opener = OpensSrbByTerms c opener × OpensNasByUses c opener

-- at each event of a run
abbrev pub Along : {K C S : Type 0} → (World K C S → Event → Type 0) → Machine K C S → World K C S → List Event → Type 0
Along P m w [] = ⊤
Along P m w (e ∷ es) = P w e × Along P m (happens m w e).0 es
