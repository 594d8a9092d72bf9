-- What is so of each NAS opening of a run that has met no coincidence, step by step: proved in `Sender`.
use Rattle.std.specs.Prelude.{◌≡◌, ℕ, List, Option, Some, None, ⊤}
use Rattle.rec_base.specs.declared.uses.Dir.TheVariants.{Down}
use Rattle.lte_events.specs.{declared.answers.Answer.TheVariants.Done, declared.events.Event.Event}
use Rattle.key_model.specs.Term.{Term}
use Rattle.lte_machine.specs.{Wire.KeyUse, Wire.Outgoing, Step.attempted, Machines.sender_of, Distinct.Member, Distinct.keys_of}
use Rattle.lte_machine.specs.Opening.{Opening, OpensNas, Outcome, Opened}
use Rattle.lte_machine.specs.World.{Machine, World, happens}

-- a message was sealed under this key
abbrev pub SealedUnder : Term → Option (KeyUse Term) → Type 0
SealedUnder key None = ⊥
SealedUnder key (Some u) = u.key ≡ key

-- a NAS message for the phone that came out so, in a step after which these keys are known: where its KNASint is one of
-- them, its sender's KNASint is that key
abbrev pub SenderIs : List Term → Opening Term → Option (KeyUse Term) → Outcome → Type 0
SenderIs known (OpensNas u e) sender (Opened text) = u.dir ≡ Down → Member u.key known → SealedUnder u.key sender
SenderIs known other sender outcome = ⊤

-- an event that is done: where the phone accepted a NAS message in it, under a KNASint that was derived by then, the
-- sender's KNASint is the same term; two keys of one value that are two terms are a coincidence, and end a run
abbrev pub SameRoot : Machine Term ℕ (Outgoing Term ℕ) → World Term ℕ (Outgoing Term ℕ) → Event → Type 0
SameRoot m w e =
    let a = attempted m w e in
    let h = happens m w e in
    h.1.answer ≡ Done → SenderIs (keys_of h.0.history) a.opening (sender_of a.came) (m.opener a.opening a.octets a.came)
