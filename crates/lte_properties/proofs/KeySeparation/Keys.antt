-- Which keys a station may have, and what the keys of each actor are.
use Rattle.std.proofs.Common.{◌≡◌, subst, ℕ, ◌⊎◌, inl, inr, List, [], ◌∷◌, ◌++◌, map, Option, Some, None}
use Rattle.std.specs.Prelude.{⊤}
use Rattle.annex_a_keys.specs.Cell.{Place}
use Rattle.lte_events.specs.{declared.addresses.Address.Address, Site.Site, Site.station_of}
use Rattle.lte_events.specs.declared.addresses.Address.TheVariants.{StationS1, StationX2}
use Rattle.key_model.specs.Term.{Term, Root, Kenb, Nh, Star, Alg, IsRoot, IsDerivationKey, IsWellFormed}
use Rattle.key_model.specs.{Derivation.Derivation, HandoverTable.NumberedKey}
use Rattle.s1x2_rec.specs.Fields.{Fields, InitialContext, HandoverRequired, HandoverRequest, X2Request}
use Rattle.ho_prep.specs.Prep.{Prep}
use Rattle.lte_machine.specs.{Wire.Outgoing, Wire.Between, StationState.Station, StationState.Context, StationKeys.spent_in}
use Rattle.lte_machine.specs.Reply.{Made, Tried, From, BySetup, ByAttempt, ByChange, Handover, BySource, ByTarget}
use Rattle.lte_machine.specs.World.{Holder, AtPhone, AtCore, AtStation, Holding, with_one, holds}
use Rattle.lte_properties.specs.ChainBelow.{AllOf}
use Rattle.lte_properties.specs.Separation.{AnyOf, Gives, GivenTo}
use Rattle.lte_properties.proofs.ChainNumbers.Lists.{OfSome}

-- ONE OF A LIST

module _ {A : Type 0} (P : A → Type 0) where
  pub any_before : (xs ys : List A) → AnyOf P xs → AnyOf P (xs ++ ys)
  any_before [] ys h = absurd h
  any_before (x ∷ xs) ys (inl h) = inl h
  any_before (x ∷ xs) ys (inr h) = inr (any_before xs ys h)

  pub any_behind : (xs ys : List A) → AnyOf P ys → AnyOf P (xs ++ ys)
  any_behind [] ys h = h
  any_behind (x ∷ xs) ys h = inr (any_behind xs ys h)

  pub any_split : (xs ys : List A) → AnyOf P (xs ++ ys) → AnyOf P xs ⊎ AnyOf P ys
  any_split [] ys h = inr h
  any_split (x ∷ xs) ys (inl h) = inl (inl h)
  any_split (x ∷ xs) ys (inr h) = first (any_split xs ys h) where
    first : AnyOf P xs ⊎ AnyOf P ys → AnyOf P (x ∷ xs) ⊎ AnyOf P ys
    first (inl k) = inl (inr k)
    first (inr k) = inr k

  pub any_old : (o : Option A) (xs : List A) → AnyOf P xs → AnyOf P (with_one o xs)
  any_old None xs h = h
  any_old (Some x) xs h = any_before xs (x ∷ []) h

  pub any_new : (x : A) (xs : List A) → P x → AnyOf P (with_one (Some x) xs)
  any_new x xs h = any_behind xs (x ∷ []) (inl h)

  -- this one is so
  pub any_this : (x : A) (xs : List A) → AnyOf (λ y. x ≡ y) xs → P x → AnyOf P xs
  any_this x [] i h = absurd i
  any_this x (y ∷ xs) (inl e) h = inl (subst P e h)
  any_this x (y ∷ xs) (inr i) h = inr (any_this x xs i h)

-- one in another way
pub any_map : {A : Type 0} (P Q : A → Type 0) → ((x : A) → P x → Q x) → (xs : List A) → AnyOf P xs → AnyOf Q xs
any_map P Q f [] h = absurd h
any_map P Q f (x ∷ xs) (inl h) = inl (f x h)
any_map P Q f (x ∷ xs) (inr h) = inr (any_map P Q f xs h)

-- what is so of each, of one that is so
pub any_with : {A : Type 0} (P Q R : A → Type 0) → ((x : A) → P x → Q x → R x) → (xs : List A) → AllOf P xs → AnyOf Q xs → AnyOf R xs
any_with P Q R f [] h k = absurd k
any_with P Q R f (x ∷ xs) h (inl k) = inl (f x h.0 k)
any_with P Q R f (x ∷ xs) h (inr k) = inr (any_with P Q R f xs h.1 k)

pub any_out : {A : Type 0} {B : Type 0} (P Q : A → Type 0) → ((x : A) → P x → Q x → B) → (xs : List A) → AllOf P xs → AnyOf Q xs → B
any_out P Q f [] h k = absurd k
any_out P Q f (x ∷ xs) h (inl k) = f x h.0 k
any_out P Q f (x ∷ xs) h (inr k) = any_out P Q f xs h.1 k

-- what is sent gives the key to the station, if anything is sent
abbrev pub GivesIn : Option (Outgoing Term ℕ) → Term → ℕ → Type 0
GivesIn None t id = ⊥
GivesIn (Some x) t id = Gives t id x

pub given_old : (o : Option (Outgoing Term ℕ)) (xs : List (Outgoing Term ℕ)) (t : Term) (id : ℕ) → GivenTo xs t id → GivenTo (with_one o xs) t id
given_old o xs t id h = any_old (Gives t id) o xs h

pub given_new : (o : Option (Outgoing Term ℕ)) (xs : List (Outgoing Term ℕ)) (t : Term) (id : ℕ) → GivesIn o t id → GivenTo (with_one o xs) t id
given_new None xs t id h = absurd h
given_new (Some x) xs t id h = any_new (Gives t id) x xs h

pub given_split : (o : Option (Outgoing Term ℕ)) (xs : List (Outgoing Term ℕ)) (t : Term) (id : ℕ)
    → GivenTo (with_one o xs) t id
    → GivenTo xs t id ⊎ GivesIn o t id
given_split None xs t id h = inl h
given_split (Some x) xs t id h = last (any_split (Gives t id) xs (x ∷ []) h) where
  last : GivenTo xs t id ⊎ AnyOf (Gives t id) (x ∷ []) → GivenTo xs t id ⊎ Gives t id x
  last (inl k) = inl k
  last (inr (inl k)) = inr k
  last (inr (inr k)) = absurd k

-- WHICH KEYS A STATION MAY HAVE

-- to whom the core gave which key
abbrev pub Gifts : Type 1
Gifts = Term → ℕ → Type 0

abbrev pub CellIs : List Site → ℕ → ℕ → ℕ → Type 0
CellIs sites pci earfcn id = station_of (record { pci = pci; earfcn = earfcn }) sites ≡ Some id

-- KeNB* of this key, at this station
abbrev pub StarMay : Gifts → List Site → ℕ → Term → ℕ → ℕ → Type 0
StarMay G sites id (Root r octets) pci earfcn = ⊥
StarMay G sites id (Kenb r n) pci earfcn = IsRoot r × (G (Kenb r n) id ⊎ CellIs sites pci earfcn id)
StarMay G sites id (Nh r t) pci earfcn = IsRoot r × IsDerivationKey t × (G (Nh r t) id ⊎ CellIs sites pci earfcn id)
StarMay G sites id (Star t p e) pci earfcn = IsDerivationKey t
StarMay G sites id (Alg t type i) pci earfcn = ⊥

-- a KeNB or NH that was given to it, a KeNB* of one, or one for its own cell, and all that come by KeNB* steps
abbrev pub May : Gifts → List Site → ℕ → Term → Type 0
May G sites id (Root r octets) = ⊥
May G sites id (Kenb r n) = IsRoot r × G (Kenb r n) id
May G sites id (Nh r t) = IsRoot r × IsDerivationKey t × G (Nh r t) id
May G sites id (Star t pci earfcn) = StarMay G sites id t pci earfcn
May G sites id (Alg t type i) = ⊥

-- and algorithm keys of such keys
abbrev pub MayHold : Gifts → List Site → ℕ → Term → Type 0
MayHold G sites id (Alg t type i) = May G sites id t
MayHold G sites id t = May G sites id t

module _ (G : Gifts) (sites : List Site) (id : ℕ) where
  star_may_derives : (t : Term) (pci earfcn : ℕ) → StarMay G sites id t pci earfcn → IsDerivationKey t
  star_may_derives (Root r octets) pci earfcn h = absurd h
  star_may_derives (Kenb r n) pci earfcn h = h.0
  star_may_derives (Nh r t) pci earfcn h = (h.0, h.1)
  star_may_derives (Star t p e) pci earfcn h = h
  star_may_derives (Alg t type i) pci earfcn h = absurd h

  pub may_derives : (t : Term) → May G sites id t → IsDerivationKey t
  may_derives (Root r octets) h = absurd h
  may_derives (Kenb r n) h = h.0
  may_derives (Nh r t) h = (h.0, h.1)
  may_derives (Star t pci earfcn) h = star_may_derives t pci earfcn h
  may_derives (Alg t type i) h = absurd h

  pub may_hold : (t : Term) → May G sites id t → MayHold G sites id t
  may_hold (Alg t type i) h = absurd h
  may_hold other h = h

  pub may_hold_well : (t : Term) → MayHold G sites id t → IsWellFormed t
  may_hold_well (Root r octets) h = absurd h
  may_hold_well (Kenb r n) h = h.0
  may_hold_well (Nh r t) h = (h.0, h.1)
  may_hold_well (Star t pci earfcn) h = star_may_derives t pci earfcn h
  may_hold_well (Alg t type i) h = may_derives t h

  -- a KeNB* for any cell, of a key that it has
  pub may_star : (t : Term) (pci earfcn : ℕ) → May G sites id t → May G sites id (Star t pci earfcn)
  may_star (Root r octets) pci earfcn h = h
  may_star (Kenb r n) pci earfcn h = (h.0, inl h.1)
  may_star (Nh r t) pci earfcn h = (h.0, h.1, inl h.2)
  may_star (Star t p e) pci earfcn h = star_may_derives t p e h
  may_star (Alg t type i) pci earfcn h = h

  -- may go to the station of the cell
  pub may_go : (t : Term) (cell : Place) (target : ℕ)
      → station_of cell sites ≡ Some target
      → May G sites id t
      → May G sites target (Star t cell.pci cell.earfcn)
  may_go (Root r octets) cell target e h = h
  may_go (Kenb r n) cell target e h = (h.0, inr e)
  may_go (Nh r t) cell target e h = (h.0, h.1, inr e)
  may_go (Star t p q) cell target e h = star_may_derives t p q h
  may_go (Alg t type i) cell target e h = h

-- THE KEYS OF A STATION

abbrev pub OfPairKey : (Term → Type 0) → Option (NumberedKey Term ℕ) → Type 0
OfPairKey P o = OfSome (λ pair. P pair.key) o

-- of a context: its KeNB, its stored pair, and the pair that its attempt used; and its cell
abbrev pub ContextHas : (Term → Type 0) → (Place → Type 0) → Context Term ℕ → Type 0
ContextHas P C c = P c.key.kenb × OfPairKey P c.key.pair × OfPairKey P (spent_in c.attempt) × C c.cell

abbrev pub PrepHas : (Term → Type 0) → (Place → Type 0) → Prep Term ℕ → Type 0
PrepHas P C p = P p.key.kenb × OfPairKey P p.key.pair × C p.cell

pub record StationHas (P : Term → Type 0) (C : Place → Type 0) (s : Station Term ℕ) : Type 0 where
  pub context : OfSome (ContextHas P C) s.context
  pub preps : AllOf (PrepHas P C) s.preps

-- a cell of the station
abbrev pub OwnPlace : List Site → ℕ → Place → Type 0
OwnPlace sites id cell = station_of cell sites ≡ Some id

-- a station knows the cells of the run, and has such keys alone, for cells of its own
pub record StationOk (G : Gifts) (sites : List Site) (s : Station Term ℕ) : Type 0 where
  pub cells : s.cells ≡ sites
  pub keys : StationHas (May G sites s.id) (OwnPlace sites s.id) s

-- RECORDS IN FLIGHT, ATTEMPTS, AND WHAT WAS MADE

-- the key from which a KeNB* comes was given to the station, where it is one of a chain
abbrev pub BaseGiven : Gifts → ℕ → Term → Type 0
BaseGiven G id (Star (Kenb r n) pci earfcn) = G (Kenb r n) id
BaseGiven G id (Star (Nh r t) pci earfcn) = G (Nh r t) id
BaseGiven G id other = ⊤

-- of the KeNB* that the source of a handover made
abbrev pub OfStar : (Term → Type 0) → Handover Term ℕ → Type 0
OfStar P (BySource star) = P star.key
OfStar P ByTarget = ⊤

abbrev pub TriedOk : Gifts → Tried Term ℕ → Type 0
TriedOk G e = OfStar (BaseGiven G e.station) e.kind

-- an attempt of this source and number, with this KeNB* if the source made it
abbrev pub HasTried : List (Tried Term ℕ) → ℕ → ℕ → Handover Term ℕ → Type 0
HasTried tried source attempt kind = AnyOf (λ e. (e.station ≡ source) × (e.attempt ≡ attempt) × (e.kind ≡ kind)) tried

abbrev pub IsKenb : Term → Type 0
IsKenb (Kenb r n) = ⊤
IsKenb other = ⊥

-- a KeNB* is for a cell of the station
abbrev pub OwnCell : List Site → ℕ → Term → Type 0
OwnCell sites id (Star t pci earfcn) = CellIs sites pci earfcn id
OwnCell sites id other = ⊤

-- a record with a key goes to a station that may have it, and with a KeNB* to the one of its cell
abbrev pub KeyGoes : Gifts → List Site → Address → Term → Type 0
KeyGoes G sites (StationS1 id) t = May G sites id t × OwnCell sites id t
KeyGoes G sites (StationX2 id) t = May G sites id t × OwnCell sites id t
KeyGoes G sites other t = ⊥

-- a first context is under a KeNB, and a request of a handover is of an attempt
abbrev pub FieldsOk : List (Tried Term ℕ) → Fields → Option (NumberedKey Term ℕ) → Type 0
FieldsOk tried (InitialContext conn cell caps) (Some key) = IsKenb key.key
FieldsOk tried (HandoverRequired conn station attempt cell) key = HasTried tried station attempt ByTarget
FieldsOk tried (HandoverRequest conn source attempt cell caps) key = HasTried tried source attempt ByTarget
FieldsOk tried (X2Request conn source attempt cell caps) (Some key) = HasTried tried source attempt (BySource key)
FieldsOk tried other key = ⊤

abbrev pub FlyOk : Gifts → List Site → List (Tried Term ℕ) → Outgoing Term ℕ → Type 0
FlyOk G sites tried (Between to fields key) = OfPairKey (KeyGoes G sites to) key × FieldsOk tried fields key
FlyOk G sites tried other = ⊤

-- KeNB* that the source made, or one that the target made of a key given to it
abbrev pub MadeBy : Gifts → Made Term ℕ → Handover Term ℕ → Type 0
MadeBy G m (BySource star) = star.key ≡ m.key
MadeBy G m ByTarget = BaseGiven G m.station m.key

abbrev pub MadeFrom : Gifts → List (Tried Term ℕ) → Made Term ℕ → From Term → Type 0
MadeFrom G tried m BySetup = IsKenb m.key
MadeFrom G tried m (ByChange before) = BaseGiven G m.station m.key
MadeFrom G tried m (ByAttempt o) = AnyOf (λ e. (e.station ≡ o.source) × (e.attempt ≡ o.attempt) × MadeBy G m e.kind) tried

abbrev pub MadeOk : Gifts → List Site → List (Tried Term ℕ) → Made Term ℕ → Type 0
MadeOk G sites tried m = MadeFrom G tried m m.from × OwnCell sites m.station m.key

-- what somebody held is a key of Annex A; at a station one that it may have
abbrev pub HolderMay : Gifts → List Site → Holder → Term → Type 0
HolderMay G sites AtPhone t = IsWellFormed t
HolderMay G sites AtCore t = IsWellFormed t
HolderMay G sites (AtStation id) t = MayHold G sites id t

abbrev pub HoldOk : Gifts → List Site → Holding Term → Type 0
HoldOk G sites h = HolderMay G sites h.holder h.key

-- the keys that a step derived
abbrev pub OutsAre : (Term → Type 0) → List (Derivation Term) → Type 0
OutsAre P derived = AllOf (λ d. P d.out) derived

outs_held : (G : Gifts) (sites : List Site) (holder : Holder) (ds : List (Derivation Term)) → OutsAre (HolderMay G sites holder) ds →
    AllOf (HoldOk G sites) (map (λ d. record { holder = holder; key = d.out }) ds)
outs_held G sites holder [] h = tt
outs_held G sites holder (d ∷ ds) h = (h.0, outs_held G sites holder ds h.1)

-- a step's holdings: what was read, and what was derived
pub step_held : (G : Gifts) (sites : List Site) (holder : Holder) (o : Option Term) (ds : List (Derivation Term)) → OfSome (HolderMay G sites holder) o →
    OutsAre (HolderMay G sites holder) ds → AllOf (HoldOk G sites) (holds holder o ds)
step_held G sites holder None ds h k = outs_held G sites holder ds k
step_held G sites holder (Some t) ds h k = (h, outs_held G sites holder ds k)
