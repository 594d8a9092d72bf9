-- What a row of the phone keeps of the keys that it takes and uses, and the rows of NAS.
use Rattle.std.proofs.Common.{◌≡◌, refl, sym, ap, ◌∙◌, subst, ℕ, ◌+◌, ◌<◌, ◌≤◌, inl, inr, Bool, true, false, List, Option, Some, None, arith}
use Rattle.std.specs.Prelude.{IfSome}
use Rattle.alg_choice.specs.{declared.algs.Algs.Algs, Algs.identity_of, Algs.eia2_identity}
use Rattle.rec_base.specs.declared.uses.Dir.TheVariants.{Up}
use Rattle.key_model.specs.Term.{Term, Kenb, Alg}
use Rattle.key_model.specs.Reading.{term_reading_by}
use Rattle.nas_guard.specs.Keys.{Keys}
use Rattle.lte_machine.specs.Wire.{KeyUse, Outgoing, SealedNas, PlainNas, nas_use, nas_ciphering}
use Rattle.lte_machine.specs.{Reply.Took, PhoneRows.NasRow, World.uses_in}
use Rattle.lte_machine.specs.PhoneState.{nas_keys_of, Partial, NasContext, Radio, Idle, Connecting, Connected, Phone}
use Rattle.lte_machine.specs.PhoneKeys.{PhoneDone, one_nas_sent, context_of, nas_does}
use Rattle.lte_machine.proofs.{PhoneCases.NasCases, PhoneCases.nas_case, Tests.Anything}
use Rattle.lte_properties.specs.ChainBelow.{AllOf}
use Rattle.lte_properties.proofs.{Freshness.Sequence.authentication_of, Freshness.Sequence.IsBefore, Freshness.Order.past_is_before, Freshness.Order.later_mark, Freshness.Lists.both_apart}
use Rattle.lte_properties.proofs.Freshness.Uses.{Home, home_at, Homes, HomesStay, IsNas, NasUp, AsUp, UpUse, AllApart}
use Rattle.lte_properties.proofs.Freshness.Stands.{Mark, IsPast, partial_root, phone_mark, RadioStands, PhoneStands, RecordStands, RadioOlder, kasme_in_use}

-- a use that the phone had not made before, and has made now
abbrev pub NewUp : ℕ → Homes → Homes → Phone Term ℕ → Phone Term ℕ → KeyUse Term → Type 0
NewUp roots taken new s t u = (u.dir ≡ Up) × UpUse roots new t u × (UpUse roots taken s u → ⊥)

-- what a step of the phone keeps, with the homes of keys afterwards
pub record PhoneKeeps (roots : ℕ) (taken : Homes) (s t : Phone Term ℕ) (sent : Option (Outgoing Term ℕ)) (took : Option (Took Term ℕ)) : Type 0 where
  pub new : Homes
  pub grows : HomesStay taken new
  pub stands : PhoneStands roots new t
  pub nas : (k : Term) (count : ℕ) → NasUp roots s.partial s.context k count → NasUp roots t.partial t.context k count
  pub link : (k : Term) (type count bearer : ℕ) → AsUp taken s.radio k type count bearer → AsUp new t.radio k type count bearer
  pub uses : AllOf (NewUp roots taken new s t) (uses_in sent)
  pub apart : AllApart (uses_in sent)
  pub sends : (given : Homes) → IfSome sent (RecordStands new given)
  pub takes : IfSome took (λ x. new x.key ≡ Some (home_at x.station x.air))
  pub rises : IfSome took (λ x. (k : Term) (h : Home) → taken k ≡ Some h → IsBefore k x.key)

-- the type of an algorithm key
abbrev pub type_of : Term → ℕ
type_of (Alg t type id) = type
type_of other = 0

-- uses of keys of two types are two
pub types_apart : (u v : KeyUse Term) (m n : ℕ) → type_of u.key ≡ m → type_of v.key ≡ n → (m ≡ n → ⊥) → v ≡ u → ⊥
types_apart u v m n e f d g = d (sym e ∙ sym (ap (λ (x : KeyUse Term). type_of x.key) g) ∙ f)

pub true_false : true ≡ false → ⊥
true_false e = cc

module _ (roots : ℕ) (taken : Homes) where
  -- nothing changes
  pub still : (s : Phone Term ℕ) → PhoneStands roots taken s → PhoneKeeps roots taken s s None None
  still s h = record {
    new = taken;
    grows = λ t k e. e;
    stands = h;
    nas = λ k count u. u;
    link = λ k type count bearer u. u;
    uses = tt;
    apart = tt;
    sends = λ given. tt;
    takes = tt;
    rises = tt;
  }

  -- a record goes as it is
  plain_sent : (octets : List ℕ) (s : Phone Term ℕ) → PhoneStands roots taken s → PhoneKeeps roots taken s s (Some (PlainNas octets)) None
  plain_sent octets s h = record {
    new = taken;
    grows = λ t k e. e;
    stands = h;
    nas = λ k count u. u;
    link = λ k type count bearer u. u;
    uses = tt;
    apart = tt;
    sends = λ given. tt;
    takes = tt;
    rises = tt;
  }

  -- NAS

  -- and so the radio
  later_radio : (partial : Option ℕ) (root m n : ℕ) (radio : Radio Term ℕ) → m ≤ n →
      RadioStands roots partial (Some (record { root = root; count = m })) taken radio →
      RadioStands roots partial (Some (record { root = root; count = n })) taken radio
  later_radio partial root m n Idle le h = tt
  later_radio partial root m n (Connecting w) le h = (later_mark roots partial root m n w.kenb le h.0, h.1)
  later_radio partial root m n (Connected l) le h = h

  -- the KASME of the context in use is another than that of a newer partial context
  other_root : (root : Term) (o : Option (Partial Term)) → IfSome (partial_root o) (λ p. authentication_of root < p) → IfSome o (λ p. root ≡ p.root → ⊥)
  other_root root None h = tt
  other_root root (Some p) h = λ e. let k = ap authentication_of e in absurd (omega arith)

  module _ (s : Phone Term ℕ) (c : NasContext Term) where
    -- the context's next COUNT rises
    counts_on : (n : ℕ) → c.send ≤ n → PhoneStands roots taken (record s { context = Some c })
        → PhoneStands roots taken (record s { context = Some (record c { send = n }) })
    counts_on n le h = record {
      kasmes = h.kasmes;
      keys = h.keys;
      past = λ t k e. later_mark roots (partial_root s.partial) (authentication_of c.root) c.send n t le (h.past t k e);
      radio = later_radio (partial_root s.partial) (authentication_of c.root) c.send n s.radio le h.radio;
      older = h.older;
      sent = let x = h.sent in omega arith;
    }

    -- uses stay below the next COUNT
    counts_nas : (n : ℕ) → c.send ≤ n → (k : Term) (count : ℕ) → NasUp roots s.partial (Some c) k count
        → NasUp roots s.partial (Some (record c { send = n })) k count
    counts_nas n le k count u = (u.0, u.1, λ e. let x = u.2 e in omega arith)

    -- the next COUNT under a NAS key of the context is new
    new_nas : (radio : Radio Term ℕ) (type id bearer : ℕ) → IsNas type → PhoneStands roots taken (record s { context = Some c }) →
        NewUp roots taken taken (record s { context = Some c }) (record s { context = Some (one_nas_sent c); radio = radio })
        (record { key = Alg c.root type id; count = c.send; bearer = bearer; dir = Up })
    new_nas radio type id bearer lt h = let (low, older) = h.kasmes.1 in (
      refl,
      (λ n. (low, other_root c.root s.partial older, λ e. omega arith), λ a. absurd (omega arith)),
      λ old. let x = (old.0 lt).2 refl in absurd (omega arith),
    )

    -- both uses of a NAS sending
    abbrev BothNas : Radio Term ℕ → Keys Term → Type 0
    BothNas radio keys =
        NewUp roots taken taken (record s { context = Some c }) (record s { context = Some (one_nas_sent c); radio = radio }) (nas_use Up keys.enc c.send)
        × NewUp roots taken taken (record s { context = Some c }) (record s { context = Some (one_nas_sent c); radio = radio }) (nas_use Up keys.int c.send)
        × (nas_use Up keys.int c.send ≡ nas_use Up keys.enc c.send → ⊥)

    -- both are new, under the keys of the context
    both_nas : (radio : Radio Term ℕ) → PhoneStands roots taken (record s { context = Some c }) → BothNas radio c.keys
    both_nas radio h = subst (BothNas radio) (sym h.keys) (
      new_nas radio 1 (identity_of c.keys.algs.eea) _ (omega arith) h,
      new_nas radio 2 eia2_identity _ (omega arith) h,
      types_apart _ _ 1 2 refl refl (λ e. absurd (omega arith)),
    )

    -- a NAS text takes the next COUNT
    pub sealed : (header : ℕ) (text : List ℕ) → PhoneStands roots taken (record s { context = Some c }) →
        PhoneKeeps roots taken (record s { context = Some c }) (record s { context = Some (one_nas_sent c) })
        (Some (SealedNas Up header (nas_use Up c.keys.int c.send) (Some (nas_ciphering Up c.keys c.send)) text)) None
    sealed header text h = let b = both_nas s.radio h in record {
      new = taken;
      grows = λ t k e. e;
      stands = counts_on (c.send + 1) (omega arith) h;
      nas = counts_nas (c.send + 1) (omega arith);
      link = λ k type count bearer u. u;
      uses = (b.0, (b.1, tt));
      apart = both_apart _ _ b.2;
      sends = λ given. tt;
      takes = tt;
      rises = tt;
    }

    -- COUNTs are left out
    pub left_out : (n : ℕ) → c.send ≤ n → PhoneStands roots taken (record s { context = Some c }) →
        PhoneKeeps roots taken (record s { context = Some c }) (record s { context = Some (record c { send = n }) }) None None
    left_out n le h = record {
      new = taken;
      grows = λ t k e. e;
      stands = counts_on n le h;
      nas = counts_nas n le;
      link = λ k type count bearer u. u;
      uses = tt;
      apart = tt;
      sends = λ given. tt;
      takes = tt;
      rises = tt;
    }

    -- a SERVICE REQUEST, and the KeNB of its COUNT
    pub requested : (text : List ℕ) → PhoneStands roots taken (record s { context = Some c }) →
        PhoneKeeps roots taken (record s { context = Some c })
        (record s { context = Some (one_nas_sent c); radio = Connecting (record { root = c.root; kenb = Kenb c.root c.send }) })
        (Some (SealedNas Up 1 (nas_use Up c.keys.int c.send) None text)) None
    requested text h =
        let radio : Radio Term ℕ = Connecting (record { root = c.root; kenb = Kenb c.root c.send }) in
        let (low, older) = h.kasmes.1 in
        let b = both_nas radio h in record {
          new = taken;
          grows = λ t k e. e;
          stands = record {
            kasmes = h.kasmes;
            keys = h.keys;
            past = λ t k e. later_mark roots (partial_root s.partial) (authentication_of c.root) c.send (c.send + 1) t (omega arith) (h.past t k e);
            radio = (
              (low, older, (omega arith, λ e. omega arith)),
              λ t k e. past_is_before roots (partial_root s.partial) c.root c.send t (h.past t k e),
            );
            older = (refl, inl refl);
            sent = omega arith;
          };
          nas = counts_nas (c.send + 1) (omega arith);
          link = λ k type count bearer u. (u.0, u.1, tt);
          uses = (b.1, tt);
          apart = (tt, tt);
          sends = λ given. tt;
          takes = tt;
          rises = tt;
        }

  -- a new context in use, of the partial context's KASME
  module _ (same : Term → Term → Bool) (algs : Algs) (count : ℕ) (s : Phone Term ℕ) (p : Partial Term) where
    -- a key that comes before the new context comes before its first KeNB
    past_all : (mark : Option Mark) (t : Term) → IsPast roots (Some (authentication_of p.root)) mark t →
        IsPast roots None (Some (record { root = authentication_of p.root; count = 1 })) t
    past_all mark t h = (h.0, tt, (let x = h.1 in omega arith, λ e. let x = h.1 in absurd (omega arith)))

    -- a connection stands beside a new context
    taken_radio : (mark : Option Mark) (radio : Radio Term ℕ) → RadioStands roots (Some (authentication_of p.root)) mark taken radio →
        RadioStands roots None (Some (record { root = authentication_of p.root; count = 1 })) taken radio
    taken_radio mark Idle h = tt
    taken_radio mark (Connecting w) h = (past_all mark w.kenb h.0, h.1)
    taken_radio mark (Connected l) h = h

    -- and its KASME is of an older authentication
    taken_older : (mark : Option Mark) (radio : Radio Term ℕ) (now : Option Term) →
        ((t : Term) (k : Home) → taken t ≡ Some k → IsPast roots (Some (authentication_of p.root)) mark t) →
        RadioStands roots (Some (authentication_of p.root)) mark taken radio → RadioOlder radio now → RadioOlder radio (Some p.root)
    taken_older mark Idle now past h o = tt
    taken_older mark (Connecting w) now past ((_, older, _), _) (same, _) = (same, inr (omega arith))
    taken_older mark (Connected l) now past h o =
        (o.0, inr (let x = (past l.kenb (home_at l.station l.air) h.here).1 in let y = o.0 in omega arith))

    abbrev before : Phone Term ℕ
    before = record s { partial = Some p }

    abbrev after : Radio Term ℕ → Phone Term ℕ
    after radio = record s { partial = None; context = Some (context_of (term_reading_by same) algs count p.root); radio = radio }

    -- its first COUNT under a NAS key is new
    new_first : (radio : Radio Term ℕ) (type id bearer : ℕ) → IsNas type → PhoneStands roots taken before →
        NewUp roots taken taken before (after radio)
        (record { key = Alg p.root type id; count = 0; bearer = bearer; dir = Up })
    new_first radio type id bearer lt h =
        (refl, (λ n. (h.kasmes.0, tt, λ e. omega arith), λ a. absurd (omega arith)), λ old. (old.0 lt).1 refl)

    -- the radio afterwards stands, and so does all
    first_sent : (radio : Radio Term ℕ) (header : ℕ) (text : List ℕ) → PhoneStands roots taken before →
        RadioStands roots None (Some (record { root = authentication_of p.root; count = 1 })) taken radio → RadioOlder radio (Some p.root) →
        ((k : Term) (type count bearer : ℕ) → AsUp taken s.radio k type count bearer → AsUp taken radio k type count bearer) →
        PhoneKeeps roots taken before (after radio)
        (Some (SealedNas Up header (nas_use Up (nas_keys_of (term_reading_by same) p.root algs).int 0)
        (Some (nas_ciphering Up (nas_keys_of (term_reading_by same) p.root algs) 0)) text)) None
    first_sent radio header text h r older link = record {
      new = taken;
      grows = λ t k e. e;
      stands = record {
        kasmes = (tt, (h.kasmes.0, tt));
        keys = refl;
        past = λ t k e. past_all (phone_mark s.context) t (h.past t k e);
        radio = r;
        older = older;
        sent = omega arith;
      };
      nas = λ k count u. (u.0, tt, λ e. absurd (u.1 e));
      link = link;
      uses = (new_first radio 1 (identity_of algs.eea) _ (omega arith) h, (new_first radio 2 eia2_identity _ (omega arith) h, tt));
      apart = both_apart _ _ (types_apart _ _ 1 2 refl refl (λ e. absurd (omega arith)));
      sends = λ given. tt;
      takes = tt;
      rises = tt;
    }

    -- the phone waits with the first KeNB of the new context
    waits : PhoneStands roots taken before →
        RadioStands roots None (Some (record { root = authentication_of p.root; count = 1 })) taken
        (Connecting (record { root = p.root; kenb = Kenb p.root 0 }))
    waits h =
        ((h.kasmes.0, tt, (omega arith, λ e. omega arith)), λ t k e. let x = (h.past t k e).1 in (omega arith, λ f. absurd (omega arith)))

  -- of a phone that stands so
  abbrev pub Keeps : Phone Term ℕ → PhoneDone Term ℕ → Type 0
  Keeps s d = PhoneStands roots taken s → PhoneKeeps roots taken s d.0 d.1.sent d.1.took

  -- rows of NAS
  nas_cases : (same : Term → Term → Bool) (s : Phone Term ℕ) → NasCases (term_reading_by same) Anything Keeps s
  nas_cases same s = record {
    nothing = λ t answer h. still t h;
    rejected = λ answer cause k h. plain_sent _ s h;
    rejected_under = λ answer cause c k h. sealed s c 2 _ h;
    taken = λ algs count p k h.
        first_sent same algs count s p (Connecting (record { root = p.root; kenb = Kenb p.root 0 })) 4 _ h (waits same algs count s p h) (refl, inl refl)
        (λ k type count bearer u. (u.0, u.1, tt));
    taken_connected = λ algs count p k h.
        first_sent same algs count s p s.radio 4 _ h (taken_radio same algs count s p (phone_mark s.context) s.radio h.radio)
        (taken_older same algs count s p (phone_mark s.context) s.radio (kasme_in_use s.context) h.past h.radio h.older) (λ k type count bearer u. u);
    opened = λ count text c k h. record {
      new = taken;
      grows = λ t k e. e;
      stands = h;
      nas = λ k count u. u;
      link = λ k type count bearer u. u;
      uses = tt;
      apart = tt;
      sends = λ given. tt;
      takes = tt;
      rises = tt;
    };
  }

  pub nas_keeps : (same : Term → Term → Bool) (row : NasRow) (s : Phone Term ℕ) → PhoneStands roots taken s →
      let d = nas_does (term_reading_by same) row s in PhoneKeeps roots taken s d.0 d.1.sent d.1.took
  nas_keeps same row s h = nas_case (term_reading_by same) Anything Keeps s (nas_cases same s) row tt h
