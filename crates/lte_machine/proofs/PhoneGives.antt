-- What a step of the phone gives out: nothing on S1 and X2; and a key that it takes is told, with the NCC of its number, and is that
-- of the connection from then on.
use Rattle.std.proofs.Common.{◌≡◌, refl, ℕ, Bool, Option, Some, None}
use Rattle.std.specs.Prelude.{⊤}
use Rattle.key_model.specs.{Term.Term, Reading.term_reading_by, Chain.ncc_of}
use Rattle.lte_machine.specs.{Wire.Outgoing, Wire.Between, Reply.Note, Reply.Took}
use Rattle.lte_machine.specs.PhoneState.{Radio, Connected, Phone}
use Rattle.lte_machine.specs.PhoneRows.{AuthRow, Authenticated, PhoneRow, OfAuth, OfNas, OfAir, OfAct}
use Rattle.lte_machine.specs.PhoneKeys.{PhoneDone, auth_does, phone_does}
use Rattle.lte_machine.proofs.PhoneCases.{NasCases, nas_case, AirCases, air_case, ActCases, act_case}
use Rattle.lte_machine.proofs.Tests.{Anything}

-- nothing on S1 and X2
abbrev pub NotBetween : Option (Outgoing Term ℕ) → Type 0
NotBetween (Some (Between to fields key)) = ⊥
NotBetween other = ⊤

-- a note has a key, and the NCC of its number
abbrev pub NotedAs : Option (Note Term) → Term → ℕ → Type 0
NotedAs None key number = ⊥
NotedAs (Some note) key number = (note.key ≡ key) × (note.ncc ≡ ncc_of number)

abbrev pub TookNoted : Option (Note Term) → Option (Took Term ℕ) → Type 0
TookNoted None None = ⊤
TookNoted (Some note) None = ⊥
TookNoted told (Some x) = NotedAs told x.key x.number

-- a connection under this key
abbrev pub IsUnder : Radio Term ℕ → Term → Type 0
IsUnder (Connected l) key = l.kenb ≡ key
IsUnder other key = ⊥

abbrev pub TookIs : Option (Took Term ℕ) → Radio Term ℕ → Type 0
TookIs None radio = ⊤
TookIs (Some x) radio = IsUnder radio x.key

abbrev pub Gives : PhoneDone Term ℕ → Type 0
Gives d = NotBetween d.1.sent × TookNoted d.1.note d.1.took × TookIs d.1.took d.0.radio

module _ (same : Term → Term → Bool) where
  abbrev GivesSo : Phone Term ℕ → PhoneDone Term ℕ → Type 0
  GivesSo s d = Gives d

  nas_gives : (s : Phone Term ℕ) → NasCases (term_reading_by same) Anything GivesSo s
  nas_gives s = record {
    nothing = λ t answer. (tt, tt, tt);
    rejected = λ answer cause k. (tt, tt, tt);
    rejected_under = λ answer cause c k. (tt, tt, tt);
    taken = λ algs count p k. (tt, tt, tt);
    taken_connected = λ algs count p k. (tt, tt, tt);
    opened = λ count text c k. (tt, tt, tt);
  }

  air_gives : (s : Phone Term ℕ) → AirCases (term_reading_by same) Anything GivesSo s
  air_gives s = record {
    nothing = λ t answer. (tt, tt, tt);
    secured = λ station air algs count w k. (tt, (refl, refl), refl);
    handed_over = λ cell steps algs station air l k. (tt, (refl, refl), refl);
    changed = λ cell algs station air l c e k. (tt, (refl, refl), refl);
    rrc = λ srb count text l k. (tt, tt, tt);
    packet = λ drb count text l k. (tt, tt, tt);
  }

  act_gives : (s : Phone Term ℕ) → ActCases (term_reading_by same) Anything GivesSo s
  act_gives s = record {
    nothing = λ t answer. (tt, tt, tt);
    requested = λ c k. (tt, tt, tt);
    resent = λ l k. (tt, tt, tt);
    idle = λ k. (tt, tt, tt);
    packet = λ drb text l k. (tt, tt, tt);
    rrc = λ srb text l k. (tt, tt, tt);
    nas = λ text c k. (tt, tt, tt);
    nas_skipped = λ n c k. (tt, tt, tt);
    bearer_skipped = λ on n l k. (tt, tt, tt);
  }

  auth_gives : (row : AuthRow) (root : Option Term) (s : Phone Term ℕ) → Gives (auth_does row root s)
  auth_gives (Authenticated ksi) None s = (tt, tt, tt)
  auth_gives (Authenticated ksi) (Some root) s = (tt, tt, tt)

  -- any row
  pub phone_gives : (row : PhoneRow) (root : Option Term) (s : Phone Term ℕ) → Gives (phone_does (term_reading_by same) row root s)
  phone_gives (OfAuth row) root s = auth_gives row root s
  phone_gives (OfNas row) root s = nas_case (term_reading_by same) Anything GivesSo s (nas_gives s) row tt
  phone_gives (OfAir row) root s = air_case (term_reading_by same) Anything GivesSo s (air_gives s) row tt
  phone_gives (OfAct row) root s = act_case (term_reading_by same) Anything GivesSo s (act_gives s) row tt
