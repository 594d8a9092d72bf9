-- What the neighbours of a row say, and the nearest row that is held.
use Rattle.std.proofs.Common.{◌≡◌, ℕ, ◌<◌, inl, inr, Option, Some, None, List, refl, sym, ap, subst, ◌∙◌, false}
use Rattle.std.proofs.{lemmas.Bool.false≢true, lemmas.Option.none-some}
use Rattle.std.specs.Prelude.{IsTrue, IsSome}
use Rattle.hmac_kdf.specs.declared.input.KdfInput.{KdfInput}
use Rattle.key_terms.specs.{declared.row.LadderRow.LadderRow, declared.row.Origin.Origin, Ladder.row_of, Ladder.IsMade}
use Rattle.key_terms.specs.declared.row.Origin.TheVariants as origins
use Rattle.key_audit.specs.Terms.{sync_row}
use Rattle.key_audit.specs.Derives.{holds, key_of, key_row, IsNearest, by_itself, by_key}
use Rattle.key_audit.specs.Local.{sync_mark, and_mark, above_mark}
use Rattle.key_audit.proofs.{TermsOf.if_before_cases, OneStep.AtSync, OneStep.Above}

-- what holds of the rows before holds of those that a row is derived from
sync_carried : (k : ℕ) (o : Option ℕ) (P Q : ℕ → Type 0) → ((j : ℕ) → j < k → P j → Q j) → AtSync P o → ((j : ℕ) → o ≡ Some j → j < k) → AtSync Q o
sync_carried k None P Q carries h before = h
sync_carried k (Some j) P Q carries h before = carries j (before j refl) h

sync_before : (rows : List LadderRow) (k : ℕ) (sync : List ℕ) (j : ℕ) → sync_row rows k sync ≡ Some j → j < k
sync_before rows k sync j is = elim (if_before_cases k (row_of rows sync)) [
  | inl none ↦ absurd (none-some j (sym none ∙ is))
  | inr some ↦ let both : Some some.0 ≡ Some j = sym some.1 ∙ is in let one : some.0 ≡ j = cc in subst (λ i. i < k) one some.2
]

pub above_carried : (rows : List LadderRow) (P Q : ℕ → Type 0) (k : ℕ) (octets : List ℕ) (o : Origin)
    → IsMade rows k o octets
    → ((j : ℕ) → j < k → P j → Q j)
    → Above rows P k o
    → Above rows Q k o
above_carried rows P Q k octets origins.Root made carries h = h
above_carried rows P Q k octets (origins.From key (KdfInput.Kenb count)) made carries h = carries key.0 made.0 h
above_carried rows P Q k octets (origins.From key (KdfInput.Nh sync)) made carries h =
    (carries key.0 made.0 h.0, sync_carried k (sync_row rows k sync) P Q carries h.1 (sync_before rows k sync))
above_carried rows P Q k octets (origins.From key (KdfInput.Star pci earfcn)) made carries h = carries key.0 made.0 h
above_carried rows P Q k octets (origins.From key (KdfInput.Alg kind identity)) made carries h = carries key.0 made.0 h

-- a mark that is there
abbrev pub Marked : (ℕ → Option ℕ) → ℕ → Type 0
Marked mark j = IsSome (mark j)

pub marked : {o : Option ℕ} (x : ℕ) → o ≡ Some x → IsSome o
marked x is = subst IsSome (sym is) refl

pub mark_there : (o : Option ℕ) → IsSome o → (x : ℕ) × (o ≡ Some x)
mark_there None some = absurd (false≢true some)
mark_there (Some x) some = (x, refl)

-- a mark that comes from above is that of the row of the key
and_there : (o m : Option ℕ) (x : ℕ) → and_mark o m ≡ Some x → IsSome o × (m ≡ Some x)
and_there None m x is = absurd (none-some x is)
and_there (Some y) m x is = (refl, is)

sync_there : (mark : ℕ → Option ℕ) (o : Option ℕ) → IsSome (sync_mark mark o) → AtSync (Marked mark) o
sync_there mark None some = absurd (false≢true some)
sync_there mark (Some j) some = some

pub above_marked : (rows : List LadderRow) (mark : ℕ → Option ℕ) (k x : ℕ) (o : Origin)
    → above_mark rows mark k o ≡ Some x
    → Above rows (Marked mark) k o × ((key : ℕ) × (key_of o ≡ Some key) × (mark key ≡ Some x))
above_marked rows mark k x origins.Root is = absurd (none-some x is)
above_marked rows mark k x (origins.From key (KdfInput.Kenb count)) is = (marked x is, (key.0, refl, is))
above_marked rows mark k x (origins.From key (KdfInput.Nh sync)) is =
    let both = and_there (sync_mark mark (sync_row rows k sync)) (mark key.0) x is in
    ((marked x both.1, sync_there mark (sync_row rows k sync) both.0), (key.0, refl, both.1))
above_marked rows mark k x (origins.From key (KdfInput.Star pci earfcn)) is = (marked x is, (key.0, refl, is))
above_marked rows mark k x (origins.From key (KdfInput.Alg kind identity)) is = (marked x is, (key.0, refl, is))

-- and the other way
there_sync : (mark : ℕ → Option ℕ) (o m : Option ℕ) → AtSync (Marked mark) o → and_mark (sync_mark mark o) m ≡ m
there_sync mark None m some = absurd some
there_sync mark (Some j) m some = let there = mark_there (mark j) some in ap (λ n. and_mark n m) there.1

pub marked_above : (rows : List LadderRow) (mark : ℕ → Option ℕ) (k : ℕ) (o : Origin)
    → Above rows (Marked mark) k o
    → (key : ℕ) × (key_of o ≡ Some key) × Marked mark key × (above_mark rows mark k o ≡ mark key)
marked_above rows mark k origins.Root up = absurd up
marked_above rows mark k (origins.From key (KdfInput.Kenb count)) up = (key.0, refl, up, refl)
marked_above rows mark k (origins.From key (KdfInput.Nh sync)) up = (key.0, refl, up.0, there_sync mark (sync_row rows k sync) (mark key.0) up.1)
marked_above rows mark k (origins.From key (KdfInput.Star pci earfcn)) up = (key.0, refl, up, refl)
marked_above rows mark k (origins.From key (KdfInput.Alg kind identity)) up = (key.0, refl, up, refl)

-- marks that are one in each row before give one mark from above
sync_same : (rows : List LadderRow) (k : ℕ) (f g : ℕ → Option ℕ)
    → ((j : ℕ) → j < k → f j ≡ g j)
    → (o : Option ℕ)
    → ((j : ℕ) → o ≡ Some j → j < k)
    → sync_mark f o ≡ sync_mark g o
sync_same rows k f g same None less = refl
sync_same rows k f g same (Some j) less = same j (less j refl)

pub above_same : (rows : List LadderRow) (k : ℕ) (octets : List ℕ) (o : Origin)
    → IsMade rows k o octets
    → (f g : ℕ → Option ℕ)
    → ((j : ℕ) → j < k → f j ≡ g j)
    → above_mark rows f k o ≡ above_mark rows g k o
above_same rows k octets origins.Root made f g same = refl
above_same rows k octets (origins.From key (KdfInput.Kenb count)) made f g same = same key.0 made.0
above_same rows k octets (origins.From key (KdfInput.Nh sync)) made f g same =
    ap (λ m. and_mark m (f key.0)) (sync_same rows k f g same (sync_row rows k sync) (sync_before rows k sync))
    ∙ ap (and_mark (sync_mark g (sync_row rows k sync))) (same key.0 made.0)
above_same rows k octets (origins.From key (KdfInput.Star pci earfcn)) made f g same = same key.0 made.0
above_same rows k octets (origins.From key (KdfInput.Alg kind identity)) made f g same = same key.0 made.0

-- a row that is held is the nearest
pub nearest_held : (rows : List LadderRow) (s k from : ℕ) → IsTrue (holds rows s k) → IsNearest rows s k from → from ≡ k
nearest_held rows s k from held (by_itself is) = refl
nearest_held rows s k from held (by_key free is near) = absurd (false≢true (sym free ∙ held))

-- of one that is not, it is that of the row of its key
pub nearest_above : (rows : List LadderRow) (s k key from : ℕ)
    → holds rows s k ≡ false
    → key_row rows k ≡ Some key
    → IsNearest rows s k from
    → IsNearest rows s key from
nearest_above rows s k key from not_held is (by_itself held) = absurd (false≢true (sym not_held ∙ held))
nearest_above rows s k key from not_held is (by_key {key = other} free was near) =
    let both : Some other ≡ Some key = sym was ∙ is in let one : other ≡ key = cc in subst (λ j. IsNearest rows s j from) one near

-- the row of a key comes before
pub key_before : (rows : List LadderRow) (k key : ℕ) (octets : List ℕ) (o : Origin) → IsMade rows k o octets → key_of o ≡ Some key → key < k
key_before rows k key octets origins.Root made is = absurd (none-some key is)
key_before rows k key octets (origins.From up input) made is = let one : up.0 ≡ key = cc in subst (λ j. j < k) one made.0

-- there is one nearest
pub nearest_one : (rows : List LadderRow) (s : ℕ) {k a b : ℕ} → IsNearest rows s k a → IsNearest rows s k b → a ≡ b
nearest_one rows s (by_itself {k = k} held) other = sym (nearest_held rows s k _ held other)
nearest_one rows s (by_key {k = k} {key = key} free is near) other = nearest_one rows s near (nearest_above rows s k key _ free is other)
