-- A station can derive the key of a row exactly where it holds it, or can derive what it is derived from.
use Rattle.std.proofs.Common.{◌≡◌, ℕ, ◌<◌, ◌⊎◌, inl, inr, Option, Some, None, List, length, refl, sym, ap, subst, ◌∙◌, arith}
use Rattle.std.proofs.{lemmas.Bool.false≢true, lemmas.Option.slice_get_within}
use Rattle.std.specs.{Prelude.◌↔◌, Prelude.IsTrue, List.slice_get}
use Rattle.hmac_kdf.specs.declared.input.KdfInput.{KdfInput}
use Rattle.key_model.specs.Derivable.{Derivable, in_set, by_kenb, by_nh, by_star, by_alg}
use Rattle.key_model.specs.Term.{Term, Root, Kenb, Nh, Star, Alg}
use Rattle.key_terms.specs.{declared.row.LadderRow.LadderRow, declared.row.Origin.Origin, Ladder.IsLadder}
use Rattle.key_terms.specs.declared.row.Origin.TheVariants as origins
use Rattle.key_audit.specs.Terms.{sync_row, sync_term, origin_term, term_at}
use Rattle.key_audit.specs.Derives.{held_by, held_in, HeldTerms, CanDerive}
use Rattle.key_audit.proofs.TermsOf.{term_is, one_row}

-- what is derivable is in the set, or what it is made of is derivable
pub root_in : {held : Term → Type 0} (n : ℕ) (octets : List ℕ) → Derivable held (Root n octets) → held (Root n octets)
root_in n octets (in_set h) = h

pub kenb_in : {held : Term → Type 0} (r : Term) (n : ℕ) → Derivable held (Kenb r n) → held (Kenb r n) ⊎ Derivable held r
kenb_in r n (in_set h) = inl h
kenb_in r n (by_kenb d) = inr d

pub nh_in : {held : Term → Type 0} (r t : Term) → Derivable held (Nh r t) → held (Nh r t) ⊎ (Derivable held r × Derivable held t)
nh_in r t (in_set h) = inl h
nh_in r t (by_nh d e) = inr (d, e)

pub star_in : {held : Term → Type 0} (t : Term) (pci earfcn : ℕ) → Derivable held (Star t pci earfcn) → held (Star t pci earfcn) ⊎ Derivable held t
star_in t pci earfcn (in_set h) = inl h
star_in t pci earfcn (by_star d) = inr d

pub alg_in : {held : Term → Type 0} (t : Term) (kind identity : ℕ) → Derivable held (Alg t kind identity) → held (Alg t kind identity) ⊎ Derivable held t
alg_in t kind identity (in_set h) = inl h
alg_in t kind identity (by_alg d) = inr d

-- what holds of the row of the SYNC-input, and of all rows that a row is derived from
abbrev pub AtSync : (ℕ → Type 0) → Option ℕ → Type 0
AtSync P None = ⊥
AtSync P (Some j) = P j

abbrev pub Above : List LadderRow → (ℕ → Type 0) → ℕ → Origin → Type 0
Above rows P k origins.Root = ⊥
Above rows P k (origins.From key (KdfInput.Kenb count)) = P key.0
Above rows P k (origins.From key (KdfInput.Nh sync)) = P key.0 × AtSync P (sync_row rows k sync)
Above rows P k (origins.From key (KdfInput.Star pci earfcn)) = P key.0
Above rows P k (origins.From key (KdfInput.Alg kind identity)) = P key.0

-- a row that is held stands
pub held_stands : (rows : List LadderRow) (s j : ℕ) (o : Option LadderRow)
    → slice_get rows j ≡ o
    → IsTrue (held_in s o)
    → (q : LadderRow) × (slice_get rows j ≡ Some q) × IsTrue (held_by s q)
held_stands rows s j None at held = absurd (false≢true held)
held_stands rows s j (Some q) at held = (q, at, held)

-- what is held of a row's term is that row
held_is : (rows : List LadderRow)
    → IsLadder rows
    → (s k : ℕ) (r : LadderRow)
    → slice_get rows k ≡ Some r
    → (t : Term)
    → t ≡ term_at rows k
    → HeldTerms rows s t
    → IsTrue (held_by s r)
held_is rows ladder s k r at t is h =
    let row = held_stands rows s h.0 (slice_get rows h.0) refl h.1 in
    let same : h.0 ≡ k = one_row rows ladder h.0 k row.0 r row.1 at (sym h.2 ∙ is) in
    let one : Some row.0 ≡ Some r = sym row.1 ∙ ap (slice_get rows) same ∙ at in
    let this : row.0 ≡ r = cc in
    subst (λ q. IsTrue (held_by s q)) this row.2

-- no row is the root of a SYNC-input that no row before has
no_origin : (rows : List LadderRow) (j : ℕ) (octets sync : List ℕ) (o : Origin)
    → j < length rows
    → Root (length rows) sync ≡ origin_term rows (term_at rows) j octets o
    → ⊥
no_origin rows j octets sync origins.Root below is = let one : length rows ≡ j = cc in omega (arith, one, below)
no_origin rows j octets sync (origins.From key (KdfInput.Kenb count)) below is = cc
no_origin rows j octets sync (origins.From key (KdfInput.Nh sync')) below is = cc
no_origin rows j octets sync (origins.From key (KdfInput.Star pci earfcn)) below is = cc
no_origin rows j octets sync (origins.From key (KdfInput.Alg kind identity)) below is = cc

outside : (rows : List LadderRow) → IsLadder rows → (s : ℕ) (sync : List ℕ) → HeldTerms rows s (Root (length rows) sync) → ⊥
outside rows ladder s sync h =
    let row = held_stands rows s h.0 (slice_get rows h.0) refl h.1 in
    no_origin rows h.0 row.0.octets sync row.0.origin (slice_get_within rows h.0 row.0 row.1) (h.2 ∙ term_is rows ladder.made h.0 row.0 row.1)

-- down
sync_derives : (rows : List LadderRow) (s : ℕ) (sync : List ℕ) (o : Option ℕ)
    → AtSync (CanDerive rows s) o
    → Derivable (HeldTerms rows s) (sync_term rows sync (term_at rows) o)
sync_derives rows s sync None d = absurd d
sync_derives rows s sync (Some j) d = d

derives : (rows : List LadderRow) (s k : ℕ) (octets : List ℕ) (o : Origin)
    → Above rows (CanDerive rows s) k o
    → Derivable (HeldTerms rows s) (origin_term rows (term_at rows) k octets o)
derives rows s k octets origins.Root d = absurd d
derives rows s k octets (origins.From key (KdfInput.Kenb count)) d = by_kenb d
derives rows s k octets (origins.From key (KdfInput.Nh sync)) d = by_nh d.0 (sync_derives rows s sync (sync_row rows k sync) d.1)
derives rows s k octets (origins.From key (KdfInput.Star pci earfcn)) d = by_star d
derives rows s k octets (origins.From key (KdfInput.Alg kind identity)) d = by_alg d

-- and up
sync_derived : (rows : List LadderRow)
    → IsLadder rows
    → (s : ℕ) (sync : List ℕ) (o : Option ℕ)
    → Derivable (HeldTerms rows s) (sync_term rows sync (term_at rows) o)
    → AtSync (CanDerive rows s) o
sync_derived rows ladder s sync None d = outside rows ladder s sync (root_in (length rows) sync d)
sync_derived rows ladder s sync (Some j) d = d

derived : (rows : List LadderRow)
    → IsLadder rows
    → (s k : ℕ) (octets : List ℕ) (o : Origin)
    → Derivable (HeldTerms rows s) (origin_term rows (term_at rows) k octets o)
    → HeldTerms rows s (origin_term rows (term_at rows) k octets o) ⊎ Above rows (CanDerive rows s) k o
derived rows ladder s k octets origins.Root d = inl (root_in k octets d)
derived rows ladder s k octets (origins.From key (KdfInput.Kenb count)) d = kenb_in (term_at rows key.0) count d
derived rows ladder s k octets (origins.From key (KdfInput.Nh sync)) d =
    elim (nh_in (term_at rows key.0) (sync_term rows sync (term_at rows) (sync_row rows k sync)) d) [
      | inl h ↦ inl h
      | inr both ↦ inr (both.0, sync_derived rows ladder s sync (sync_row rows k sync) both.1)
    ]
derived rows ladder s k octets (origins.From key (KdfInput.Star pci earfcn)) d = star_in (term_at rows key.0) pci earfcn d
derived rows ladder s k octets (origins.From key (KdfInput.Alg kind identity)) d = alg_in (term_at rows key.0) kind identity d

pub one_step : (rows : List LadderRow)
    → IsLadder rows
    → (s k : ℕ) (r : LadderRow)
    → slice_get rows k ≡ Some r
    → CanDerive rows s k ↔ (IsTrue (held_by s r) ⊎ Above rows (CanDerive rows s) k r.origin)
one_step rows ladder s k r at = (up, down)
  where
    is : term_at rows k ≡ origin_term rows (term_at rows) k r.octets r.origin
    is = term_is rows ladder.made k r at

    up : CanDerive rows s k → IsTrue (held_by s r) ⊎ Above rows (CanDerive rows s) k r.origin
    up d = elim (derived rows ladder s k r.octets r.origin (subst (Derivable (HeldTerms rows s)) is d)) [
      | inl h ↦ inl (held_is rows ladder s k r at _ (sym is) h)
      | inr above ↦ inr above
    ]

    down : IsTrue (held_by s r) ⊎ Above rows (CanDerive rows s) k r.origin → CanDerive rows s k
    down (inl h) = in_set (k, ap (held_in s) at ∙ h, refl)
    down (inr above) = subst (Derivable (HeldTerms rows s)) (sym is) (derives rows s k r.octets r.origin above)
