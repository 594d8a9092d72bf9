-- The rows of the ladder of a run: which key each stands for, from which rows it comes, and who can derive it.
use Rattle.std.proofs.Common.{◌≡◌, ℕ, zero, suc, ◌+◌, ◌<◌, ◌⊎◌, inl, inr, Some, List, [], ◌∷◌, length, map, sym, refl, ap, subst, ◌∙◌, arith}
use Rattle.std.proofs.{lemmas.Bool.lt-ltb, lemmas.List.length-map}
use Rattle.std.proofs.lemmas.Option.{none-some, slice_get-map, slice_get_within}
use Rattle.std.specs.Prelude.{◌↔◌, IsTrue, IsSome, slice_get, unwrap_or}
use Rattle.std.specs.{Option.option_map, List.AllByRecursion as AllOf}
use Rattle.key_audit.specs.Derives.{held_by, held_in, holds}
use Rattle.key_audit.specs.Local.{exact_mark}
use Rattle.key_audit.specs.Terms.{if_before, sync_row, sync_term, origin_term, term_at}
use Rattle.key_audit.proofs.Exactness.{ByRows, exact_marks_fit, marks_by_rows}
use Rattle.key_audit.proofs.OneStep.{AtSync, Above, root_in, kenb_in, nh_in, star_in, alg_in}
use Rattle.key_audit.proofs.TermsOf.{term_is}
use Rattle.key_model.specs.Derivable.{Derivable, in_set, by_kenb, by_nh, by_star, by_alg}
use Rattle.key_model.specs.Derivation.{Input, FromCount, FromSync, FromCell, FromAlg, map_input, kdf_input}
use Rattle.key_model.specs.Term.{Term, Root, Kenb, Nh, Star, Alg}
use Rattle.key_model.specs.Value.{value_of}
use Rattle.key_terms.specs.{declared.row.LadderRow.LadderRow, declared.row.Origin.Origin}
use Rattle.key_terms.specs.declared.row.Origin.TheVariants as origins
use Rattle.key_terms.specs.Ladder.{row, row_of, octets_at, origin_at, IsLadder}
use Rattle.key_terms.proofs.{Holding.plain, Holding.read_same, LadderLemmas.stands}
use Rattle.lte_machine.specs.{Carried.map_holding, Distinct.keys_of, Distinct.Member}
use Rattle.lte_machine.specs.Ladder.{RowOrigin, OfRoot, Of, map_row, row_key}
use Rattle.lte_machine.specs.World.{Holder, AtPhone, AtCore, AtStation, Holding}
use Rattle.lte_machine.proofs.Rows.{Well, From, SyncIn, made_of}
use Rattle.lte_properties.specs.Separation.{IsStationOf}
use Rattle.store_laws.specs.Joins.{HasRow}
use Rattle.store_laws.specs.Rows.{origin_in, numbered, all_noted}
use Rattle.store_laws.proofs.Adding.{valued, term_stands}
use Rattle.store_laws.proofs.Numbered.{octets_numbered, origin_noted, origin_stands, plain_noted, row_noted}
use Rattle.audit_report.specs.{Alone.HeldAlone, OfRun.unnumbered, OfRun.AreOf}
use Rattle.audit_report.proofs.HeldRows.{IsFree, IsNoted, all_free, free_flags, free_held, held_where}
use Rattle.audit_report.proofs.Rooted.{AllRooted, ComesEarlier, SyncEarlier, earlier_at, rooted_placed}

-- A LIST AND ITS PLACES

mapped : {A B : Type 0} (f : A → B) (xs : List A) (k : ℕ) (y : B) → slice_get (map f xs) k ≡ Some y → (x : A) × (slice_get xs k ≡ Some x) × (f x ≡ y)
mapped f [] k y at = absurd (none-some y at)
mapped f (x ∷ xs) zero y at = (x, refl, cc)
mapped f (x ∷ xs) (suc k) y at = mapped f xs k y at

member_place : (t : Term) (ts : List Term) → Member t ts → (k : ℕ) × (slice_get ts k ≡ Some t)
member_place t [] m = absurd m
member_place t (u ∷ ts) (inl e) = (0, ap Some (sym e))
member_place t (u ∷ ts) (inr m) = let later = member_place t ts m in (suc later.0, later.1)

all_at : {A : Type 0} (P : A → Type 0) (xs : List A) (k : ℕ) (x : A) → AllOf P xs → slice_get xs k ≡ Some x → P x
all_at P [] k x all at = absurd (none-some x at)
all_at P (y ∷ xs) zero x all at = let is : y ≡ x = cc in subst P is all.0
all_at P (y ∷ xs) (suc k) x all at = all_at P xs k x all.1 at

-- a root is a KASME
abbrev pub IsKasme : RowOrigin Term → Type 0
IsKasme (OfRoot key) = (number : ℕ) × (octets : List ℕ) × (key ≡ Root number octets)
IsKasme (Of d) = Unit {0}

-- what a row is made of
abbrev RowIs : List Term → RowOrigin Term → Type 0
RowIs ts (OfRoot key) = Unit {0}
RowIs ts (Of d) = From (λ t. Member t ts) d

-- THE ROWS OF A RUN

-- rows of these origins, over terms, with these holders
pub record RunRows (os : List (RowOrigin Term)) (held : List (Holding Term)) (rows : List LadderRow) : Type 0 where
  pub are : rows ≡ all_noted (numbered (valued os)) (map (map_holding value_of) held)
  pub ladder : IsLadder rows
  pub rooted : AllRooted [] (valued os)
  pub well : Well os
  pub roots : AllOf IsKasme os
  pub among : AllOf (λ h. Member h.key (keys_of os)) held

module _ (os : List (RowOrigin Term)) (held : List (Holding Term)) (rows : List LadderRow) (run : RunRows os held rows) where
  abbrev first : List LadderRow
  first = numbered (valued os)

  abbrev holders : List (Holding (List ℕ))
  holders = map (map_holding value_of) held

  plain_same : map plain rows ≡ map plain first
  plain_same = ap (map plain) run.are ∙ plain_noted first holders

  -- OCTETS

  key_values : (os : List (RowOrigin Term)) → map row_key (valued os) ≡ map value_of (keys_of os)
  key_values [] = refl
  key_values (OfRoot key ∷ os) = ap (λ ks. value_of key ∷ ks) (key_values os)
  key_values (Of d ∷ os) = ap (λ ks. value_of d.out ∷ ks) (key_values os)

  octets_first : (k : ℕ) → octets_at rows k ≡ option_map value_of (slice_get (keys_of os) k)
  octets_first k =
      read_same (λ p. p.1) first rows plain_same k
      ∙ sym (slice_get-map (λ r. r.octets) first k)
      ∙ ap (λ ks. slice_get ks k) (octets_numbered (valued os) ∙ key_values os)
      ∙ slice_get-map value_of (keys_of os) k

  -- the row of a key is at its place
  pub row_number : (k : ℕ) (t : Term) → slice_get (keys_of os) k ≡ Some t → row_of rows (value_of t) ≡ Some k
  row_number k t at = run.ladder.apart k (value_of t) (octets_first k ∙ ap (option_map value_of) at)

  row_first : (key : List ℕ) → row_of rows key ≡ row_of first key
  row_first key = ap (λ rs. row_of rs key) run.are ∙ row_noted first holders key

  -- so a key of the run with this row is the key at its place
  one_key : (u : Term) (j : ℕ) → Member u (keys_of os) → row_of first (value_of u) ≡ Some j → slice_get (keys_of os) j ≡ Some u
  one_key u j member is =
      let place = member_place u (keys_of os) member in
      let both : Some place.0 ≡ Some j = sym (row_number place.0 u place.1) ∙ row_first (value_of u) ∙ is in
      let same : place.0 ≡ j = cc in
      subst (λ i. slice_get (keys_of os) i ≡ Some u) same place.1

  -- FROM WHICH ROWS A ROW COMES

  -- the key stands at a place before row k
  abbrev KeyAt : ℕ → Term → Type 0
  KeyAt k u = (j : ℕ) × (slice_get (keys_of os) j ≡ Some u) × (j < k) × (row_of first (value_of u) ≡ Some j)

  abbrev SyncAt : ℕ → Input Term → Type 0
  SyncAt k (FromSync sync) = KeyAt k sync
  SyncAt k other = Unit {0}

  abbrev Comes : ℕ → RowOrigin Term → Origin → Type 0
  Comes k (OfRoot key) origin = (origin ≡ origins.Root) × ((number : ℕ) × (octets : List ℕ) × (key ≡ Root number octets))
  Comes k (Of d) origin =
      (key : KeyAt k d.key) × (origin ≡ origins.From (row key.0) (kdf_input (map_input value_of d.input)))
      × SyncAt k d.input × (d.out ≡ made_of d.key d.input)

  sync_at : (k : ℕ) (i : Input Term) → SyncEarlier first k (map_input value_of i) → SyncIn (λ t. Member t (keys_of os)) i → SyncAt k i
  sync_at k (FromCount n) e m = tt
  sync_at k (FromSync sync) e m = (e.0, one_key sync e.0 m e.1, e.2, e.1)
  sync_at k (FromCell pci earfcn) e m = tt
  sync_at k (FromAlg type id) e m = tt

  comes_by : (k : ℕ) (o : RowOrigin Term) (origin : Origin)
      → slice_get os k ≡ Some o
      → origin ≡ origin_in first (map_row value_of o)
      → ComesEarlier first k (map_row value_of o)
      → Comes k o origin
  comes_by k (OfRoot key) origin at is e = (is, all_at IsKasme os k (OfRoot key) run.roots at)
  comes_by k (Of d) origin at is e =
      let ok = all_at (RowIs (keys_of os)) os k (Of d) run.well.made at in (
        (e.0.0, one_key d.key e.0.0 ok.0 e.0.1, e.0.2, e.0.1),
        is ∙ ap (λ n. origins.From (row (unwrap_or n 0)) (kdf_input (map_input value_of d.input))) e.0.1,
        sync_at k d.input e.1 ok.1,
        ok.2,
      )

  comes : (k : ℕ) (o : RowOrigin Term) (r : LadderRow) → slice_get os k ≡ Some o → slice_get rows k ≡ Some r → Comes k o r.origin
  comes k o r at row_at =
      let there : slice_get (valued os) k ≡ Some (map_row value_of o) = slice_get-map (map_row value_of) os k ∙ ap (option_map (map_row value_of)) at in
      let place : 0 + k ≡ k = omega arith in
      let stood = origin_stands [] (valued os) k (map_row value_of o) (rooted_placed [] (valued os) run.rooted) there in
      let origin : Some r.origin ≡ Some (origin_in first (map_row value_of o)) =
      sym (ap (option_map (λ x. x.origin)) row_at)
      ∙ ap (λ rs. origin_at rs k) run.are
      ∙ origin_noted first holders k
      ∙ subst (λ n. origin_at first n ≡ Some (origin_in first (map_row value_of o))) place stood.0 in
      let is : r.origin ≡ origin_in first (map_row value_of o) = cc in
      comes_by k o r.origin at is (subst (λ n. ComesEarlier first n (map_row value_of o)) place
      (earlier_at [] (valued os) k (map_row value_of o) run.rooted there))

  -- the origin of a row that stands
  origin_there : (k : ℕ) (r : LadderRow)
      → slice_get rows k ≡ Some r
      → (o : RowOrigin Term) × (slice_get os k ≡ Some o) × (slice_get (keys_of os) k ≡ Some (row_key o))
  origin_there k r row_at =
      let octets : slice_get (map value_of (keys_of os)) k ≡ Some r.octets =
      slice_get-map value_of (keys_of os) k ∙ sym (octets_first k) ∙ ap (option_map (λ x. x.octets)) row_at in
      let key = mapped value_of (keys_of os) k r.octets octets in
      let origin = mapped row_key os k key.0 key.1 in
      (origin.0, origin.1, key.1 ∙ ap Some (sym origin.2))

  before_is : (k j : ℕ) → j < k → if_before k (Some j) ≡ Some j
  before_is k j below = rw (lt-ltb j k below) refl

  sync_is : (k : ℕ) (u : Term) (at : KeyAt k u) → sync_row rows k (value_of u) ≡ Some at.0
  sync_is k u at = ap (if_before k) (row_first (value_of u) ∙ at.3) ∙ before_is k at.0 at.2

  pub as_many : length rows ≡ length (keys_of os)
  as_many =
      sym (length-map rows plain) ∙ ap length plain_same ∙ length-map first plain
      ∙ sym (length-map first (λ r. r.octets)) ∙ ap length (octets_numbered (valued os) ∙ key_values os) ∙ length-map (keys_of os) value_of

  -- THE KEY THAT IS REBUILT FROM THE ROWS

  module _ (k : ℕ) (octets : List ℕ)
      (before : (j : ℕ) (u : Term)
      → j < k
      → slice_get (keys_of os) j ≡ Some u
      → unnumbered (term_at rows j) ≡ unnumbered u) where
    abbrev rebuilt_of : Origin → Term
    rebuilt_of origin = unnumbered (origin_term rows (term_at rows) k octets origin)

    made_rebuilt : (key : Term) (i : Input Term) (at : KeyAt k key)
        → SyncAt k i
        → rebuilt_of (origins.From (row at.0) (kdf_input (map_input value_of i))) ≡ unnumbered (made_of key i)
    made_rebuilt key (FromCount n) at sync = ap (λ u. Kenb u n) (before at.0 key at.2 at.1)
    made_rebuilt key (FromSync u) at sync =
        let other : unnumbered (sync_term rows (value_of u) (term_at rows) (sync_row rows k (value_of u))) ≡ unnumbered u =
        ap (λ o. unnumbered (sync_term rows (value_of u) (term_at rows) o)) (sync_is k u sync) ∙ before sync.0 u sync.2 sync.1 in
        λ j. Nh (before at.0 key at.2 at.1 j) (other j)
    made_rebuilt key (FromCell pci earfcn) at sync = ap (λ u. Star u pci earfcn) (before at.0 key at.2 at.1)
    made_rebuilt key (FromAlg type id) at sync = ap (λ u. Alg u type id) (before at.0 key at.2 at.1)

    one_rebuilt : (o : RowOrigin Term) (origin : Origin) → Comes k o origin → octets ≡ value_of (row_key o) → rebuilt_of origin ≡ unnumbered (row_key o)
    one_rebuilt (OfRoot key) origin c value =
        let kasme : key ≡ Root c.1.0 c.1.1 = c.1.2 in
        ap rebuilt_of c.0 ∙ ap (Root 0) (value ∙ ap value_of kasme) ∙ sym (ap unnumbered kasme)
    one_rebuilt (Of d) origin c value = ap rebuilt_of c.1 ∙ made_rebuilt d.key d.input c.0 c.2 ∙ sym (ap unnumbered c.3)

  rebuilt_below : (n k : ℕ) (t : Term) → k < n → slice_get (keys_of os) k ≡ Some t → unnumbered (term_at rows k) ≡ unnumbered t
  rebuilt_below zero k t below at = absurd (omega (arith, below))
  rebuilt_below (suc n) k t below at =
      let r = stands (λ x. x.octets) rows k (value_of t) (octets_first k ∙ ap (option_map value_of) at) in
      let o = mapped row_key os k t at in
      ap unnumbered (term_is rows run.ladder.made k r.0 r.1)
      ∙ one_rebuilt k r.0.octets (λ j u less there. rebuilt_below n j u (omega (arith, less, below)) there) o.0
      r.0.origin (comes k o.0 r.0 o.1 r.1) (r.2 ∙ ap value_of (sym o.2))
      ∙ ap unnumbered o.2

  -- WHO CAN DERIVE THE KEY OF A ROW

  all_stand : (hs : List (Holding Term)) → AllOf (λ h. Member h.key (keys_of os)) hs → AllOf (λ h. HasRow first h.key) (map (map_holding value_of) hs)
  all_stand [] all = tt
  all_stand (h ∷ hs) all = (term_stands os h.key all.0, all_stand hs all.1)

  free : AllOf IsFree first
  free = all_free [] (valued os) tt

  module _ (s : ℕ) (few : s < 8) where
    -- a station is noted in the row of a key that it held
    noted_held : (k : ℕ) (t : Term)
        → slice_get (keys_of os) k ≡ Some t
        → (hs : List (Holding Term))
        → AllOf (λ h. Member h.key (keys_of os)) hs
        → IsNoted s k first (map (map_holding value_of) hs)
        → HeldAlone s hs t
    noted_held k t at [] all n = absurd n
    noted_held k t at (h ∷ hs) all (inl e) =
        let both : Some h.key ≡ Some t = sym (one_key h.key k all.0 e.1) ∙ at in
        let key : h.key ≡ t = cc in
        inl (subst (IsStationOf (λ other. other ≡ s)) (sym e.0) refl, key)
    noted_held k t at (h ∷ hs) all (inr n) = inr (noted_held k t at hs all.1 n)

    is_station : (who : Holder) → IsStationOf (λ other. other ≡ s) who → who ≡ AtStation s
    is_station AtPhone is = absurd is
    is_station AtCore is = absurd is
    is_station (AtStation id) is = ap AtStation is

    held_noted : (k : ℕ) (t : Term)
        → slice_get (keys_of os) k ≡ Some t
        → (hs : List (Holding Term))
        → HeldAlone s hs t
        → IsNoted s k first (map (map_holding value_of) hs)
    held_noted k t at [] h = absurd h
    held_noted k t at (h ∷ hs) (inl e) =
        inl (is_station h.holder e.0, sym (row_first (value_of h.key)) ∙ ap (λ u. row_of rows (value_of u)) e.1 ∙ row_number k t at)
    held_noted k t at (h ∷ hs) (inr n) = inr (held_noted k t at hs n)

    held_row : (k : ℕ) (t : Term) (r : LadderRow) → slice_get (keys_of os) k ≡ Some t → slice_get rows k ≡ Some r → HeldAlone s held t ↔ IsTrue (held_by s r)
    held_row k t r at row_at = (there, back)
      where
        is : IsTrue (holds (all_noted first holders) s k) ↔ (IsTrue (holds first s k) ⊎ IsNoted s k first holders)
        is = held_where holders first s k (free_flags first free) few (all_stand held run.among)

        there : HeldAlone s held t → IsTrue (held_by s r)
        there h = sym (ap (held_in s) row_at) ∙ subst (λ rs. IsTrue (holds rs s k)) (sym run.are) (is.1 (inr (held_noted k t at held h)))

        back : IsTrue (held_by s r) → HeldAlone s held t
        back h = elim (is.0 (subst (λ rs. IsTrue (holds rs s k)) run.are (ap (held_in s) row_at ∙ h))) [
          | inl f ↦ absurd (free_held first s k free f)
          | inr n ↦ noted_held k t at held run.among n
        ]

    -- the key of row k is derivable
    abbrev Can : ℕ → Type 0
    Can k = (t : Term) × (slice_get (keys_of os) k ≡ Some t) × Derivable (HeldAlone s held) t

    place_derives : (k : ℕ) (t : Term) → slice_get (keys_of os) k ≡ Some t → Can k → Derivable (HeldAlone s held) t
    place_derives k t at can =
        let both : Some can.0 ≡ Some t = sym can.1 ∙ at in
        let same : can.0 ≡ t = cc in
        subst (Derivable (HeldAlone s held)) same can.2

    -- up
    up_made : (k : ℕ) (key : Term) (i : Input Term) (at : KeyAt k key) → SyncAt k i → Derivable (HeldAlone s held) (made_of key i)
        → HeldAlone s held (made_of key i) ⊎ Above rows Can k (origins.From (row at.0) (kdf_input (map_input value_of i)))
    up_made k key (FromCount n) at sync d = elim (kenb_in key n d) [ inl h ↦ inl h | inr e ↦ inr (key, at.1, e) ]
    up_made k key (FromSync u) at sync d =
        elim (nh_in key u d) [
          | inl h ↦ inl h
          | inr e ↦ inr ((key, at.1, e.0), subst (AtSync Can) (sym (sync_is k u sync)) (u, sync.1, e.1))
        ]
    up_made k key (FromCell pci earfcn) at sync d = elim (star_in key pci earfcn d) [ inl h ↦ inl h | inr e ↦ inr (key, at.1, e) ]
    up_made k key (FromAlg type id) at sync d = elim (alg_in key type id d) [ inl h ↦ inl h | inr e ↦ inr (key, at.1, e) ]

    up_by : (k : ℕ) (o : RowOrigin Term) (origin : Origin)
        → Comes k o origin
        → Derivable (HeldAlone s held) (row_key o)
        → HeldAlone s held (row_key o) ⊎ Above rows Can k origin
    up_by k (OfRoot key) origin c d =
        let kasme : key ≡ Root c.1.0 c.1.1 = c.1.2 in
        inl (subst (HeldAlone s held) (sym kasme) (root_in c.1.0 c.1.1 (subst (Derivable (HeldAlone s held)) kasme d)))
    up_by k (Of d) origin c h =
        elim (up_made k d.key d.input c.0 c.2 (subst (Derivable (HeldAlone s held)) c.3 h)) [
          | inl e ↦ inl (subst (HeldAlone s held) (sym c.3) e)
          | inr above ↦ inr (subst (Above rows Can k) (sym c.1) above)
        ]

    -- and down
    down_made : (k : ℕ) (key : Term) (i : Input Term) (at : KeyAt k key)
        → SyncAt k i
        → Above rows Can k (origins.From (row at.0) (kdf_input (map_input value_of i)))
        → Derivable (HeldAlone s held) (made_of key i)
    down_made k key (FromCount n) at sync above = by_kenb (place_derives at.0 key at.1 above)
    down_made k key (FromSync u) at sync above =
        by_nh (place_derives at.0 key at.1 above.0) (place_derives sync.0 u sync.1 (subst (AtSync Can) (sync_is k u sync) above.1))
    down_made k key (FromCell pci earfcn) at sync above = by_star (place_derives at.0 key at.1 above)
    down_made k key (FromAlg type id) at sync above = by_alg (place_derives at.0 key at.1 above)

    down_by : (k : ℕ) (o : RowOrigin Term) (origin : Origin) → Comes k o origin → Above rows Can k origin → Derivable (HeldAlone s held) (row_key o)
    down_by k (OfRoot key) origin c above = absurd (subst (Above rows Can k) c.0 above)
    down_by k (Of d) origin c above = subst (Derivable (HeldAlone s held)) (sym c.3) (down_made k d.key d.input c.0 c.2 (subst (Above rows Can k) c.1 above))

    step : ByRows rows s Can
    step k r row_at = (up, down)
      where
        o : (o : RowOrigin Term) × (slice_get os k ≡ Some o) × (slice_get (keys_of os) k ≡ Some (row_key o))
        o = origin_there k r row_at

        c : Comes k o.0 r.origin
        c = comes k o.0 r o.1 row_at

        up : Can k → IsTrue (held_by s r) ⊎ Above rows Can k r.origin
        up can = elim (up_by k o.0 r.origin c (place_derives k (row_key o.0) o.2 can)) [
          | inl h ↦ inl ((held_row k (row_key o.0) r o.2 row_at).0 h)
          | inr above ↦ inr above
        ]

        down : IsTrue (held_by s r) ⊎ Above rows Can k r.origin → Can k
        down (inl h) = (row_key o.0, o.2, in_set ((held_row k (row_key o.0) r o.2 row_at).1 h))
        down (inr above) = (row_key o.0, o.2, down_by k o.0 r.origin c above)

    marks : (k : ℕ) (t : Term) → slice_get (keys_of os) k ≡ Some t → IsSome (exact_mark rows s k) ↔ Derivable (HeldAlone s held) t
    marks k t at =
        let within : k < length rows = subst (λ n. k < n) (sym as_many) (slice_get_within (keys_of os) k t at) in
        let both = marks_by_rows rows run.ladder (exact_mark rows s) s Can step (exact_marks_fit rows run.ladder s) k within in
        (λ some. place_derives k t at (both.0 some), λ d. both.1 (t, at, d))

  pub rows_are_of : AreOf (keys_of os) held rows
  rows_are_of = record {
    as_many = as_many;
    rebuilt = λ k t at. rebuilt_below (suc k) k t (omega arith) at;
    marks = λ s k t few at. marks s few k t at;
  }
