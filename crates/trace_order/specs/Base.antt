-- Of which KeNB a key is made: in a connection, of the one with which it began, until its key is changed.
use Rattle.std.specs.Prelude.{◌≡◌, ◌≢◌, ℕ, Bool, ◌&&◌, nat_eq, Option, None, Some, List, [], ◌∷◌}
use Rattle.key_model.specs.{Term.Term, Term.Root, Term.Kenb, Term.Nh, Term.Star, Term.Alg, Value.value_of, HandoverTable.NumberedKey}
use Rattle.trace_keys.specs.declared.moves.Where.{Where}
use Rattle.trace_keys.specs.declared.moves.Where.TheVariants.{Setup, Change, Took, Answer, Asked, Request, Over}
use Rattle.trace_keys.specs.Net.{Sight}
use Rattle.trace_order.specs.declared.known.Known.{Known}

-- the KeNB that a key is made of, by steps of its chain (A.4) and for cells (A.5)
abbrev pub kenb_of : Term → Term
kenb_of (Kenb r n) = Kenb r n
kenb_of (Nh r t) = kenb_of t
kenb_of (Star t pci earfcn) = kenb_of t
kenb_of (Root r octets) = Root r octets
kenb_of (Alg t type id) = kenb_of t

-- a key as it was captured is the value of one that is made of this KeNB
pub record IsMadeOf (kenb : Term) (pair : NumberedKey (List ℕ) ℕ) : Type 0 where
  pub key : Term
  pub value : value_of key ≡ pair.key
  pub base : kenb_of key ≡ kenb

-- unless it is not looked at, or the KeNB is not known
abbrev pub MadeOf : Option (NumberedKey (List ℕ) ℕ) → Option Term → Type 0
MadeOf None kenb = Unit {0}
MadeOf (Some pair) None = Unit {0}
MadeOf (Some pair) (Some kenb) = IsMadeOf kenb pair

-- a connection begins with this KeNB
pub record IsBegun (pair : NumberedKey (List ℕ) ℕ) (rest : Option Term → Type 0) : Type 0 where
  pub kenb : Term
  pub value : value_of kenb ≡ pair.key
  pub then : rest (Some kenb)

-- A message, by its place. Where a connection begins, its KeNB comes, unless it is not looked at; where a key change was taken, there
-- is another. An answer, a request and a handover over X2 bring keys that are made of it.
abbrev pub BaseAt : Option Term → Where → Option (NumberedKey (List ℕ) ℕ) → (Option Term → Type 0) → Type 0
BaseAt kenb (Setup station) (Some pair) rest = IsBegun pair rest
BaseAt kenb (Setup station) None rest = rest None
BaseAt kenb (Took station) pair rest = rest None
BaseAt kenb (Answer station) pair rest = MadeOf pair kenb × rest kenb
BaseAt kenb (Request station) pair rest = MadeOf pair kenb × rest kenb
BaseAt kenb (Over source target) pair rest = MadeOf pair kenb × rest kenb
BaseAt kenb (Change station) pair rest = rest kenb
BaseAt kenb (Asked station) pair rest = rest kenb

-- so of each message of a capture
abbrev pub AllMadeOf : Option Term → List (Sight (List ℕ)) → Type 0
AllMadeOf kenb [] = Unit {0}
AllMadeOf kenb (sight ∷ capture) = BaseAt kenb sight.at sight.pair (λ next. AllMadeOf next capture)

-- the KeNB with which the connection began, if it was looked at and no key was changed since
abbrev pub kenb_by : Option (NumberedKey (List ℕ) ℕ) → Where → Option (NumberedKey (List ℕ) ℕ) → Option (NumberedKey (List ℕ) ℕ)
kenb_by kenb (Setup station) pair = pair
kenb_by kenb (Took station) pair = None
kenb_by kenb (Answer station) pair = kenb
kenb_by kenb (Request station) pair = kenb
kenb_by kenb (Over source target) pair = kenb
kenb_by kenb (Change station) pair = kenb
kenb_by kenb (Asked station) pair = kenb

abbrev pub last_kenb : Option (NumberedKey (List ℕ) ℕ) → List (Sight (List ℕ)) → Option (NumberedKey (List ℕ) ℕ)
last_kenb kenb [] = kenb
last_kenb kenb (sight ∷ capture) = last_kenb (kenb_by kenb sight.at sight.pair) capture

-- the key of a message that brings one which is made of that KeNB
abbrev pub made_at : Where → Option (NumberedKey (List ℕ) ℕ) → Option (NumberedKey (List ℕ) ℕ)
made_at (Answer station) pair = pair
made_at (Request station) pair = pair
made_at (Over source target) pair = pair
made_at (Setup station) pair = None
made_at (Took station) pair = None
made_at (Change station) pair = None
made_at (Asked station) pair = None

-- a key is made of the KeNB of this KASME and COUNT
abbrev pub IsOf : Known → Term → Type 0
IsOf known key = (octets : List ℕ) × (kenb_of key ≡ Kenb (Root known.kasme octets) known.count)

-- a key is of the chain of another, which is its KeNB
abbrev pub is_of : Known → Known → Bool
is_of known kenb = nat_eq known.kasme kenb.kasme && (nat_eq known.count kenb.count && nat_eq kenb.number 0)

-- the KeNB of a connection and the key of a message in it are known, and this is made of another
pub record IsOutOfChain (capture : List (Sight (List ℕ))) (sight : Sight (List ℕ)) : Type 0 where
  pub first : NumberedKey (List ℕ) ℕ
  pub next : NumberedKey (List ℕ) ℕ
  pub kenb : Term
  pub key : Term
  pub is_first : last_kenb None capture ≡ Some first
  pub is_next : made_at sight.at sight.pair ≡ Some next
  pub begun : value_of kenb ≡ first.key
  pub made : value_of key ≡ next.key
  pub apart : kenb_of key ≢ kenb
