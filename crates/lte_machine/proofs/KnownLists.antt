-- Lists each of whose items is so, derivations each from known keys, and what is known to more.
use Rattle.std.proofs.Common.{◌≡◌, refl, ℕ, zero, suc, ◌-◌, Bool, true, false, cond, nat_lt, List, [], ◌∷◌, ◌++◌, length, Option, Some, None, inl, inr}
use Rattle.std.specs.Prelude.{IfSome, ◌⊎◌, ℤ, pos, negsuc, filter, find, slice_get}
use Rattle.std.specs.List.{AllByRecursion as AllOf}
use Rattle.alg_choice.specs.declared.algs.Algs.{Algs}
use Rattle.key_model.specs.{Derivation.Derivation, Derivation.star_made, Term.Term, Term.Star, HandoverTable.NumberedKey, Reading.term_reading_by}
use Rattle.nas_guard.specs.Keys.{Keys}
use Rattle.pdcp_guard.specs.AsKeys.{AsKeys, as_derivations}
use Rattle.ho_prep.specs.Prep.{Prep}
use Rattle.lte_machine.specs.Wire.{Ciphering, Outgoing, SealedNas, PlainNas, SealedRrc, UserPacket, Between, ciphering_use, uses_of}
use Rattle.lte_machine.specs.PhoneState.{Partial, NasContext, Radio, Idle, Connecting, Connected, Phone}
use Rattle.lte_machine.specs.StationState.{Station, Context, Attempt, SourceKeys}
use Rattle.lte_machine.specs.CoreState.{Core, CorePartial, CoreContext, CoreLink}
use Rattle.lte_machine.specs.World.{with_one, put_if, put_station, newest_if, record_at, uses_in}
use Rattle.lte_machine.specs.Known.{AsKnown, NasKnown, PairKnown, PartialKnown, NasContextKnown, RadioKnown, PhoneKnown, SourceKeysKnown, AttemptKnown, ContextKnown, PrepKnown, StationKnown, CorePartialKnown, ProcedureKnown, CoreContextKnown, LinkKnown, CoreKnown, CipheringKnown, SentKnown}
use Rattle.lte_machine.proofs.Rows.{From, from_more}

-- a value is so, if there is one
abbrev pub OfSome : {A : Type 0} → (A → Type 0) → Option A → Type 0
OfSome P o = IfSome o P

module _ {A : Type 0} (P : A → Type 0) where
  pub all_append : (xs ys : List A) → AllOf P xs → AllOf P ys → AllOf P (xs ++ ys)
  all_append [] ys h k = k
  all_append (x ∷ xs) ys h k = (h.0, all_append xs ys h.1 k)

  pub one_more : (xs : List A) (y : A) → AllOf P xs → P y → AllOf P (xs ++ y ∷ [])
  one_more xs y h k = all_append xs (y ∷ []) h (k, tt)

  pub all_one : (o : Option A) (xs : List A) → AllOf P xs → OfSome P o → AllOf P (with_one o xs)
  all_one None xs h k = h
  all_one (Some x) xs h k = one_more xs x h k

  kept_if : (b : Bool) (x : A) (xs : List A) → P x → AllOf P xs → AllOf P (cond b (x ∷ xs) xs)
  kept_if true x xs p h = (p, h)
  kept_if false x xs p h = h

  -- those that pass a test
  pub all_filter : (test : A → Bool) (xs : List A) → AllOf P xs → AllOf P (filter test xs)
  all_filter test [] h = tt
  all_filter test (x ∷ xs) h = kept_if (test x) x (filter test xs) h.0 (all_filter test xs h.1)

  found_if : (b : Bool) (x : A) (o : Option A) → P x → OfSome P o → OfSome P (cond b (Some x) o)
  found_if true x o p h = p
  found_if false x o p h = h

  -- the first that passes it
  pub all_find : (test : A → Bool) (xs : List A) → AllOf P xs → OfSome P (find test xs)
  all_find test [] h = tt
  all_find test (x ∷ xs) h = found_if (test x) x (find test xs) h.0 (all_find test xs h.1)

  pub all_get : (xs : List A) (i : ℕ) → AllOf P xs → OfSome P (slice_get xs i)
  all_get [] i h = tt
  all_get (x ∷ xs) zero h = h.0
  all_get (x ∷ xs) (suc i) h = all_get xs i h.1

  newest_of : (b : Bool) (i : ℕ) (xs : List A) → AllOf P xs → OfSome P (newest_if b i xs)
  newest_of true i xs h = all_get xs i h
  newest_of false i xs h = tt

  -- a record that is delivered is one of those sent
  pub all_chosen : (i : ℤ) (xs : List A) → AllOf P xs → OfSome P (record_at i xs)
  all_chosen (pos i) xs h = all_get xs i h
  all_chosen (negsuc i) xs h = newest_of (nat_lt i (length xs)) (length xs - 1 - i) xs h

-- what is so of each is so of each in another way
pub all_more : {A : Type 0} (P Q : A → Type 0) → ((x : A) → P x → Q x) → (xs : List A) → AllOf P xs → AllOf Q xs
all_more P Q f [] h = tt
all_more P Q f (x ∷ xs) h = (f x h.0, all_more P Q f xs h.1)

-- what is so of each in two ways
pub all_both : {A : Type 0} (P Q R : A → Type 0) → ((x : A) → P x → Q x → R x) → (xs : List A) → AllOf P xs → AllOf Q xs → AllOf R xs
all_both P Q R f [] h k = tt
all_both P Q R f (x ∷ xs) h k = (f x h.0 k.0, all_both P Q R f xs h.1 k.1)

-- what is so of everything
pub all_each : {A : Type 0} (P : A → Type 0) → ((x : A) → P x) → (xs : List A) → AllOf P xs
all_each P f [] = tt
all_each P f (x ∷ xs) = (f x, all_each P f xs)

-- what is so of all of a list is so of each
pub each_of : {A B : Type 0} (P : A → B → Type 0) (xs : List B) → AllOf (λ x. (y : A) → AllOf (P y) xs → P y x) xs
each_of P [] = tt
each_of P (x ∷ xs) = (
  (λ y h. h.0),
  all_more (λ z. (y : _) → AllOf (P y) xs → P y z) (λ z. (y : _) → AllOf (P y) (x ∷ xs) → P y z)
      (λ z f y h. f y h.1) xs (each_of P xs),
)

module _ (P : Station Term ℕ → Type 0) (id : ℕ) (new : Station Term ℕ) (n : P new) where
  put_one : (b : Bool) (s : Station Term ℕ) → P s → P (put_if b new s)
  put_one true s p = n
  put_one false s p = p

  -- a new state of one station, and the other ones as they were
  pub all_put : (ss : List (Station Term ℕ)) → AllOf P ss → AllOf P (put_station id new ss)
  all_put [] h = tt
  all_put (s ∷ ss) h = (put_one _ s h.0, all_put ss h.1)

-- DERIVATIONS

-- what is known and one key more
abbrev pub Plus : (Term → Type 0) → Term → Term → Type 0
Plus P t u = P u ⊎ (u ≡ t)

-- each derivation is from keys that are known, or that one before it made
abbrev pub Chain : (Term → Type 0) → List (Derivation Term) → Type 0
Chain P [] = Unit {0}
Chain P (d ∷ ds) = From P d × Chain (Plus P d.out) ds

-- each key that is made is so
abbrev pub AllOut : (Term → Type 0) → List (Derivation Term) → Type 0
AllOut Q [] = Unit {0}
AllOut Q (d ∷ ds) = Q d.out × AllOut Q ds

plus_more : (P Q : Term → Type 0) → ((t : Term) → P t → Q t) → (t u : Term) → Plus P t u → Plus Q t u
plus_more P Q f t u (inl h) = inl (f u h)
plus_more P Q f t u (inr e) = inr e

pub chain_more : (P Q : Term → Type 0) → ((t : Term) → P t → Q t) → (ds : List (Derivation Term)) → Chain P ds → Chain Q ds
chain_more P Q f [] h = tt
chain_more P Q f (d ∷ ds) h = (from_more P Q f d h.0, chain_more (Plus P d.out) (Plus Q d.out) (plus_more P Q f d.out) ds h.1)

-- what is known after these derivations
abbrev pub PlusAll : (Term → Type 0) → List (Derivation Term) → Term → Type 0
PlusAll P [] = P
PlusAll P (d ∷ ds) = PlusAll (Plus P d.out) ds

pub still_known : (P : Term → Type 0) (ds : List (Derivation Term)) (t : Term) → P t → PlusAll P ds t
still_known P [] t h = h
still_known P (d ∷ ds) t h = still_known (Plus P d.out) ds t (inl h)

pub last_known : (P : Term → Type 0) (ds : List (Derivation Term)) (d : Derivation Term) → PlusAll P (ds ++ d ∷ []) d.out
last_known P [] d = inr refl
last_known P (c ∷ ds) d = last_known (Plus P c.out) ds d

pub chain_append : (P : Term → Type 0) (ds es : List (Derivation Term)) → Chain P ds → Chain (PlusAll P ds) es → Chain P (ds ++ es)
chain_append P [] es h k = k
chain_append P (d ∷ ds) es h k = (h.0, chain_append (Plus P d.out) ds es h.1 k)

pub outs_left : (Q : Term → Type 0) (ds es : List (Derivation Term)) → AllOut Q (ds ++ es) → AllOut Q ds
outs_left Q [] es o = tt
outs_left Q (d ∷ ds) es o = (o.0, outs_left Q ds es o.1)

pub outs_right : (Q : Term → Type 0) (ds es : List (Derivation Term)) → AllOut Q (ds ++ es) → AllOut Q es
outs_right Q [] es o = o
outs_right Q (d ∷ ds) es o = outs_right Q ds es o.1

-- the keys of the access stratum of a KeNB (TS 33.401 A.7)
pub as_chain : (same : Term → Term → Bool) (P : Term → Type 0) (kenb : Term) (algs : Algs) → P kenb → Chain P (as_derivations (term_reading_by same) kenb algs)
as_chain same P kenb algs p = ((p, tt, refl), ((inl p, tt, refl), ((inl (inl p), tt, refl), tt)))

-- and of a KeNB* that is made first
pub star_chain : (same : Term → Term → Bool) (P : Term → Type 0) (base : Term) (pci earfcn : ℕ) (algs : Algs) → P base →
    Chain P (star_made (term_reading_by same) base pci earfcn ∷ as_derivations (term_reading_by same) (Star base pci earfcn) algs)
star_chain same P base pci earfcn algs p = ((p, tt, refl), as_chain same (Plus P (Star base pci earfcn)) (Star base pci earfcn) algs (inr refl))

-- MORE IS KNOWN

module _ (P Q : Term → Type 0) (f : (t : Term) → P t → Q t) where
  pub pair_more : (o : Option (NumberedKey Term ℕ)) → PairKnown P o → PairKnown Q o
  pair_more None h = tt
  pair_more (Some pair) h = f pair.key h

  as_more : (keys : AsKeys Term) → AsKnown P keys → AsKnown Q keys
  as_more keys h = (f keys.rrc_enc h.0, f keys.rrc_int h.1, f keys.up_enc h.2)

  nas_more : (keys : Keys Term) → NasKnown P keys → NasKnown Q keys
  nas_more keys h = (f keys.enc h.0, f keys.int h.1)

  partial_more : (o : Option (Partial Term)) → PartialKnown P o → PartialKnown Q o
  partial_more None h = tt
  partial_more (Some p) h = f p.root h

  nas_context_more : (o : Option (NasContext Term)) → NasContextKnown P o → NasContextKnown Q o
  nas_context_more None h = tt
  nas_context_more (Some c) h = (f c.root h.0, nas_more c.keys h.1)

  radio_more : (radio : Radio Term ℕ) → RadioKnown P radio → RadioKnown Q radio
  radio_more Idle h = tt
  radio_more (Connecting w) h = (f w.root h.0, f w.kenb h.1)
  radio_more (Connected l) ((root, sync), kenb, keys) = ((f l.chain.root root, f l.chain.sync sync), f l.kenb kenb, as_more l.keys keys)

  pub phone_more : (s : Phone Term ℕ) → PhoneKnown P s → PhoneKnown Q s
  phone_more s h = (partial_more s.partial h.0, nas_context_more s.context h.1, radio_more s.radio h.2)

  source_keys_more : (o : Option (SourceKeys Term ℕ)) → SourceKeysKnown P o → SourceKeysKnown Q o
  source_keys_more None h = tt
  source_keys_more (Some keys) h = (f keys.star.key h.0, pair_more keys.spent h.1)

  attempt_more : (o : Option (Attempt Term ℕ)) → AttemptKnown P o → AttemptKnown Q o
  attempt_more None h = tt
  attempt_more (Some a) h = source_keys_more a.keys h

  context_more : (o : Option (Context Term ℕ)) → ContextKnown P o → ContextKnown Q o
  context_more None h = tt
  context_more (Some c) ((kenb, pair), keys, attempt) = ((f c.key.kenb kenb, pair_more c.key.pair pair), as_more c.keys keys, attempt_more c.attempt attempt)

  prep_more : (p : Prep Term ℕ) → PrepKnown P p → PrepKnown Q p
  prep_more p ((kenb, pair), keys) = ((f p.key.kenb kenb, pair_more p.key.pair pair), as_more p.keys keys)

  pub station_more : (s : Station Term ℕ) → StationKnown P s → StationKnown Q s
  station_more s h = (context_more s.context h.0, all_more (PrepKnown P) (PrepKnown Q) prep_more s.preps h.1)

  core_partial_more : (o : Option (CorePartial Term)) → CorePartialKnown P o → CorePartialKnown Q o
  core_partial_more None h = tt
  core_partial_more (Some p) h = f p.root h

  procedure_more : (o : Option (Keys Term)) → ProcedureKnown P o → ProcedureKnown Q o
  procedure_more None h = tt
  procedure_more (Some keys) h = nas_more keys h

  core_context_more : (o : Option (CoreContext Term)) → CoreContextKnown P o → CoreContextKnown Q o
  core_context_more None h = tt
  core_context_more (Some c) h = (f c.nas.root h.0, nas_more c.nas.keys h.1)

  link_more : (o : Option (CoreLink Term ℕ)) → LinkKnown P o → LinkKnown Q o
  link_more None h = tt
  link_more (Some link) h = (f link.chain.root h.0, f link.chain.sync h.1)

  pub core_more : (s : Core Term ℕ) → CoreKnown P s → CoreKnown Q s
  core_more s h = (core_partial_more s.partial h.0, procedure_more s.procedure h.1, core_context_more s.context h.2, link_more s.link h.3)

  ciphering_more : (o : Option (Ciphering Term)) → CipheringKnown P o → CipheringKnown Q o
  ciphering_more None h = tt
  ciphering_more (Some e) h = f e.under.key h

  pub sent_more : (x : Outgoing Term ℕ) → SentKnown P x → SentKnown Q x
  sent_more (SealedNas dir header u e text) h = (f u.key h.0, ciphering_more e h.1)
  sent_more (PlainNas octets) h = tt
  sent_more (SealedRrc dir station air srb u e text) h = (f u.key h.0, ciphering_more e h.1)
  sent_more (UserPacket dir station air drb e text) h = f e.under.key h
  sent_more (Between to fields key) h = pair_more key h

-- the uses of a record are of its keys
module _ (Q : Term → Type 0) where
  ciphering_uses : (o : Option (Ciphering Term)) → CipheringKnown Q o → AllOf (λ u. Q u.key) (ciphering_use o)
  ciphering_uses None h = tt
  ciphering_uses (Some e) h = (h, tt)

  uses_known : (x : Outgoing Term ℕ) → SentKnown Q x → AllOf (λ u. Q u.key) (uses_of x)
  uses_known (SealedNas dir header u e text) h = all_append (λ v. Q v.key) (ciphering_use e) (u ∷ []) (ciphering_uses e h.1) (h.0, tt)
  uses_known (PlainNas octets) h = tt
  uses_known (SealedRrc dir station air srb u e text) h = all_append (λ v. Q v.key) (ciphering_use e) (u ∷ []) (ciphering_uses e h.1) (h.0, tt)
  uses_known (UserPacket dir station air drb e text) h = (h, tt)
  uses_known (Between to fields key) h = tt

  pub uses_in_known : (o : Option (Outgoing Term ℕ)) → OfSome (SentKnown Q) o → AllOf (λ u. Q u.key) (uses_in o)
  uses_in_known None h = tt
  uses_in_known (Some x) h = uses_known x h
