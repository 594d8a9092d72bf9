-- The NAS keys of a run: for each KASME there is one choice of algorithms, and all that is sealed or used under it is so.
use Rattle.std.proofs.Common.{◌≡◌, ℕ, ◌≤◌, ◌<◌, List, Option, Some, None, Result, Ok, ap, sym, ◌∙◌, le_trans}
use Rattle.std.specs.Prelude.{⊤, length}
use Rattle.rec_base.specs.declared.uses.Dir.{Dir}
use Rattle.alg_choice.specs.{Algs.eia2_identity, Choice.choice_of, declared.algs.Algs.Algs, declared.algs.Eea.Eea, declared.choices.NoAlgorithm.NoAlgorithm as NoneChosen}
use Rattle.key_model.specs.Term.{Term, Root, Alg}
use Rattle.key_model.specs.Reading.{term_reading}
use Rattle.nas_count.specs.Estimate.{nas_count_limit}
use Rattle.nas_guard.specs.{Keys.Keys, Seal.is_ciphered}
use Rattle.nas_rec.specs.{declared.records.NasRecord.NasRecord, Spelling.spelling_of}
use Rattle.nas_rec.specs.declared.records.NasRecord.TheVariants.{SecurityModeCommand, SecurityModeComplete, SecurityModeReject, ServiceRequest, NasData}
use Rattle.lte_machine.specs.Wire.{KeyUse, Ciphering, ciphering_if, ciphering_by, nas_use, Outgoing, SealedNas}
use Rattle.lte_machine.specs.PhoneState.{nas_keys_of, Partial, NasContext, Phone}
use Rattle.lte_machine.specs.CoreState.{Core, CorePartial, CoreContext}

-- the algorithms that the core chose for the KASME of each authentication, by its number
abbrev pub Choices : Type 0
Choices = ℕ → Result Algs NoneChosen

-- the NAS keys of a KASME
abbrev pub nas_keys : Term → Algs → Keys Term
nas_keys root algs = nas_keys_of term_reading root algs

-- the KASME of one of the authentications so far, whose number is so
abbrev pub IsRootOf : (ℕ → Type 0) → ℕ → Term → Type 0
IsRootOf P next root = record {
  number : ℕ;
  octets : List ℕ;
  is : root ≡ Root number octets;
  low : number < next;
  so : P number;
}

abbrev pub AnyNumber : ℕ → Type 0
AnyNumber n = ⊤

abbrev pub ChosenIs : Choices → Result Algs NoneChosen → ℕ → Type 0
ChosenIs g algs n = algs ≡ g n

abbrev pub RootHas : Choices → ℕ → Term → Algs → Type 0
RootHas g next root algs = IsRootOf (ChosenIs g (Ok algs)) next root

-- contexts and procedures have the keys of the algorithms that were chosen for their KASME
abbrev pub ContextOk : Choices → ℕ → NasContext Term → Type 0
ContextOk g next c = RootHas g next c.root c.keys.algs × (c.keys ≡ nas_keys c.root c.keys.algs)

abbrev pub PhoneContextOk : Choices → ℕ → Option (NasContext Term) → Type 0
PhoneContextOk g next None = ⊤
PhoneContextOk g next (Some c) = ContextOk g next c

abbrev pub CoreContextOk : Choices → ℕ → Option (CoreContext Term) → Type 0
CoreContextOk g next None = ⊤
CoreContextOk g next (Some c) = ContextOk g next c.nas

abbrev pub PhonePartialOk : ℕ → Option (Partial Term) → Type 0
PhonePartialOk next None = ⊤
PhonePartialOk next (Some p) = IsRootOf AnyNumber next p.root

abbrev pub CorePartialOk : Choices → ℕ → List Eea → Option (CorePartial Term) → Type 0
CorePartialOk g next priority None = ⊤
CorePartialOk g next priority (Some p) = (p.ksi ≤ 6) × IsRootOf (ChosenIs g (choice_of priority p.caps)) next p.root

abbrev pub ProcedureOk : Choices → ℕ → Option (CorePartial Term) → Option (Keys Term) → Type 0
ProcedureOk g next None keys = keys ≡ None
ProcedureOk g next (Some p) None = ⊤
ProcedureOk g next (Some p) (Some keys) = RootHas g next p.root keys.algs × (keys ≡ nas_keys p.root keys.algs)

abbrev pub PhoneOk : Choices → ℕ → Phone Term ℕ → Type 0
PhoneOk g next s = PhonePartialOk next s.partial × PhoneContextOk g next s.context

abbrev pub CoreOk : Choices → ℕ → Core Term ℕ → Type 0
CoreOk g next s = CorePartialOk g next s.priority s.partial × ProcedureOk g next s.partial s.procedure × CoreContextOk g next s.context

-- a message by what it says: a command has the algorithms chosen, and is not ciphered; data are ciphered; the header type
-- of each (TS 24.301 9.3.1)
abbrev pub SealedSo : Dir → ℕ → KeyUse Term → Option (Ciphering Term) → Term → Algs → NasRecord → Type 0
SealedSo dir header u e root algs (SecurityModeCommand ksi named caps) = record {
  type : header ≡ 3;
  plain : e ≡ None;
  chosen : named ≡ algs;
  low : ksi ≤ 6;
}
SealedSo dir header u e root algs SecurityModeComplete = header ≡ 4
SealedSo dir header u e root algs (SecurityModeReject cause) = header ≡ 2
SealedSo dir header u e root algs ServiceRequest = header ≡ 1
SealedSo dir header u e root algs (NasData text) = record {
  type : header ≡ 2;
  ciphering : e ≡ Some (ciphering_by algs.eea (nas_use dir (nas_keys root algs).enc u.count));
  count : u.count < nas_count_limit;
  short : length text ≤ 200;
}

-- the ciphering of a message by its header type (TS 24.301 9.3.1)
abbrev pub ciphered_for : Dir → ℕ → KeyUse Term → Term → Algs → Option (Ciphering Term)
ciphered_for dir header u root algs =
    ciphering_if (is_ciphered header) (ciphering_by algs.eea (nas_use dir (nas_keys root algs).enc u.count))

abbrev pub SealedOk : Choices → ℕ → Dir → ℕ → KeyUse Term → Option (Ciphering Term) → List ℕ → Type 0
SealedOk g next dir header u e text = record {
  root : Term;
  algs : Algs;
  says : NasRecord;
  has : RootHas g next root algs;
  integrity : u ≡ nas_use dir (Alg root 2 eia2_identity) u.count;
  spelled : text ≡ spelling_of says;
  so : SealedSo dir header u e root algs says;
  ciphered : e ≡ ciphered_for dir header u root algs;
}

abbrev pub SentOk : Choices → ℕ → Outgoing Term ℕ → Type 0
SentOk g next (SealedNas dir header u e text) = SealedOk g next dir header u e text
SentOk g next other = ⊤

abbrev pub OutOk : Choices → ℕ → Option (Outgoing Term ℕ) → Type 0
OutOk g next None = ⊤
OutOk g next (Some x) = SentOk g next x

-- AFTER MORE AUTHENTICATIONS

-- more authentications, and the same choices for those before
abbrev pub More : Choices → ℕ → Choices → ℕ → Type 0
More g next h later = (next ≤ later) × ((n : ℕ) → n < next → g n ≡ h n)

module _ (g h : Choices) (next later : ℕ) (more : More g next h later) where
  root_more : (P Q : ℕ → Type 0) → ((n : ℕ) → n < next → P n → Q n) → (root : Term) → IsRootOf P next root → IsRootOf Q later root
  root_more P Q f root k = search (le_trans k.low more.0, f k.number k.low k.so)

  pub chosen_more : (algs : Result Algs NoneChosen) (root : Term) → IsRootOf (ChosenIs g algs) next root → IsRootOf (ChosenIs h algs) later root
  chosen_more algs root k = root_more (ChosenIs g algs) (ChosenIs h algs) (λ n low e. e ∙ more.1 n low) root k

  context_more : (c : NasContext Term) → ContextOk g next c → ContextOk h later c
  context_more c k = (chosen_more (Ok c.keys.algs) c.root k.0, k.1)

  pub phone_more : (s : Phone Term ℕ) → PhoneOk g next s → PhoneOk h later s
  phone_more s k = (partial s.partial k.0, context s.context k.1)
    where
      partial : (o : Option (Partial Term)) → PhonePartialOk next o → PhonePartialOk later o
      partial None k = tt
      partial (Some p) k = root_more AnyNumber AnyNumber (λ n low e. tt) p.root k

      context : (o : Option (NasContext Term)) → PhoneContextOk g next o → PhoneContextOk h later o
      context None k = tt
      context (Some c) k = context_more c k

  pub core_more : (s : Core Term ℕ) → CoreOk g next s → CoreOk h later s
  core_more s k = (partial s.partial k.0, procedure s.partial s.procedure k.1, context s.context k.2)
    where
      partial : (o : Option (CorePartial Term)) → CorePartialOk g next s.priority o → CorePartialOk h later s.priority o
      partial None k = tt
      partial (Some p) k = (k.0, chosen_more (choice_of s.priority p.caps) p.root k.1)

      procedure : (o : Option (CorePartial Term)) (keys : Option (Keys Term)) → ProcedureOk g next o keys → ProcedureOk h later o keys
      procedure None keys k = k
      procedure (Some p) None k = tt
      procedure (Some p) (Some keys) k = (chosen_more (Ok keys.algs) p.root k.0, k.1)

      context : (o : Option (CoreContext Term)) → CoreContextOk g next o → CoreContextOk h later o
      context None k = tt
      context (Some c) k = context_more c.nas k

  pub sent_more : (x : Outgoing Term ℕ) → SentOk g next x → SentOk h later x
  sent_more (SealedNas dir header u e text) k = search (chosen_more)
  sent_more other k = tt

-- one KASME has one choice
pub one_choice : (g : Choices) (next : ℕ) (root : Term) (a b : Algs) → RootHas g next root a → RootHas g next root b → a ≡ b
one_choice g next root a b h k =
    let number : h.number ≡ k.number = same_number h.number k.number h.octets k.octets (sym h.is ∙ k.is) in
    same_ok a b (h.so ∙ ap g number ∙ sym k.so)
  where
    same_number : (n m : ℕ) (s t : List ℕ) → Root n s ≡ Root m t → n ≡ m
    same_number n m s t e = cc

    same_ok : (a b : Algs) → (let x : Result Algs NoneChosen = Ok a in let y : Result Algs NoneChosen = Ok b in x ≡ y) → a ≡ b
    same_ok a b e = cc
