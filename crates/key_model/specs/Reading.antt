-- How the keys and chain numbers of a machine are read: in octets with NCCs, or in terms with whole chain numbers.
use Rattle.std.specs.Prelude.{◌≡◌, ℕ, ◌+◌, Bool, List}
use Rattle.std.specs.Str.{bytes_eq}
use Rattle.hmac_kdf.specs.{declared.input.KdfInput.KdfInput, Kdf.kdf}
use Rattle.key_model.specs.Term.{Term, Kenb, Nh, Star, Alg}
use Rattle.key_model.specs.{Chain.ncc_of, Value.same_value}

-- the derivations of TS 33.401 Annex A on keys K, and the chain numbers C of 7.2.8.1.1
pub record Reading (K C : Type 0) : Type 0 where
  -- KeNB, from KASME: the uplink NAS COUNT (A.3)
  pub kenb : K → ℕ → K
  -- NH, from KASME: the SYNC-input (A.4)
  pub nh : K → K → K
  -- KeNB*, from NH or KeNB: the target cell's PCI and EARFCN-DL (A.5)
  pub star : K → ℕ → ℕ → K
  -- an algorithm key, from KASME or KeNB: the algorithm type and identity (A.7)
  pub alg : K → ℕ → ℕ → K
  -- the chain number of a KeNB
  pub first : C
  -- the chain number so many NH steps on
  pub plus : C → ℕ → C
  -- the NCC of a chain number
  pub ncc : C → ℕ
  -- whether two keys have the same octets
  pub same : K → K → Bool

-- keys as octets, and chain numbers as NCCs (Annex A, 7.2.8.1.1)
abbrev pub octet_reading : Reading (List ℕ) ℕ
octet_reading = record {
  kenb = λ key count. kdf key (KdfInput.Kenb count);
  nh = λ key sync. kdf key (KdfInput.Nh sync);
  star = λ key pci earfcn. kdf key (KdfInput.Star pci earfcn);
  alg = λ key type id. kdf key (KdfInput.Alg type id);
  first = 0;
  plus = λ ncc steps. ncc_of (ncc + steps);
  ncc = λ ncc. ncc;
  same = bytes_eq;
}

-- keys as terms, and chain numbers without bound; two keys are the same where this test says so
abbrev pub term_reading_by : (Term → Term → Bool) → Reading Term ℕ
term_reading_by same = record {
  kenb = Kenb;
  nh = Nh;
  star = Star;
  alg = Alg;
  first = 0;
  plus = λ number steps. number + steps;
  ncc = ncc_of;
  same = same;
}

-- the reading in terms: two keys are the same where their values are
abbrev pub term_reading : Reading Term ℕ
term_reading = term_reading_by same_value

-- f on keys and g on chain numbers carry r to q: what r gives, carried, is what q gives of what is carried
pub record Carries {K C L D : Type 0} (r : Reading K C) (q : Reading L D) (f : K → L) (g : C → D) : Type 0 where
  pub kenb : (key : K) (count : ℕ) → f (r.kenb key count) ≡ q.kenb (f key) count
  pub nh : (key sync : K) → f (r.nh key sync) ≡ q.nh (f key) (f sync)
  pub star : (key : K) (pci earfcn : ℕ) → f (r.star key pci earfcn) ≡ q.star (f key) pci earfcn
  pub alg : (key : K) (type id : ℕ) → f (r.alg key type id) ≡ q.alg (f key) type id
  pub first : g r.first ≡ q.first
  pub plus : (number : C) (steps : ℕ) → g (r.plus number steps) ≡ q.plus (g number) steps
  pub ncc : (number : C) → q.ncc (g number) ≡ r.ncc number
  pub same : (a b : K) → q.same (f a) (f b) ≡ r.same a b
