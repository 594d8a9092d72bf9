-- The way up from a row.
use Rattle.std.proofs.Common.{◌≡◌, ℕ, zero, suc, ◌<◌, ◌==◌, Option, Some, None, List, [], ◌∷◌, ◌++◌, ◌+◌, ◌-◌, drop, get_or, refl, sym, ap, ◌∙◌, arith}
use Rattle.std.proofs.{lemmas.Bool.eq-eqb, lemmas.Bool.ne_eqb, lemmas.Option.none-some, lemmas.List.append_assoc, lemmas.List.drop_more}
use Rattle.std.specs.{Prelude.if◌then◌else◌, List.slice_get}
use Rattle.key_terms.specs.{declared.row.LadderRow.LadderRow, Ladder.AreMade}
use Rattle.report_text.specs.Ladder.{form_at}
use Rattle.key_audit.specs.Derives.{key_in, key_row}
use Rattle.key_audit.specs.Text.{on_from, way_within, way_up, for_each, stations, name_if, by_if, names_text, paths_text, line_of, row_line, row_lines}
use Rattle.key_audit.proofs.Neighbours.{key_before}

-- how far a walk has still to go, at the most
abbrev pub left : Option ℕ → ℕ
left None = 0
left (Some k) = suc k

-- the row of a key comes before
pub before : (rows : List LadderRow) → AreMade rows → (k key : ℕ) → key_row rows k ≡ Some key → key < k
before rows made k key is = by (slice_get rows k) refl
  where
    by : (o : Option LadderRow) → slice_get rows k ≡ o → key < k
    by None at = absurd (none-some key (sym (ap key_in at) ∙ is))
    by (Some r) at = key_before rows k key r.octets r.origin (made k r at) (sym (ap key_in at) ∙ is)

-- ways that are one from each row before are one from the row of a key
on_same : (rows : List LadderRow)
    → AreMade rows
    → (k : ℕ) (f g : ℕ → List ℕ)
    → ((j : ℕ) → j < k → f j ≡ g j)
    → (o : Option ℕ)
    → key_row rows k ≡ o
    → on_from f o ≡ on_from g o
on_same rows made k f g same None is = refl
on_same rows made k f g same (Some key) is = same key (before rows made k key is)

-- enough steps are enough
way_same : (rows : List LadderRow) → AreMade rows → (to n m k : ℕ) → k < n → k < m → way_within n rows to k ≡ way_within m rows to k
way_same rows made to zero m k small large = absurd (omega (arith, small))
way_same rows made to (suc n) zero k small large = absurd (omega (arith, large))
way_same rows made to (suc n) (suc m) k small large =
    ap (λ rest. k ∷ (if k == to then [] else rest))
    (on_same rows made k (way_within n rows to) (way_within m rows to)
    (λ j less. way_same rows made to n m j (omega (arith, less, small)) (omega (arith, less, large)))
    (key_row rows k) refl)

-- the way goes on from the row of the key
pub way_on : (rows : List LadderRow) → AreMade rows → (to k : ℕ) → way_up rows to k ≡ k ∷ (if k == to then [] else on_from (way_up rows to) (key_row rows k))
unfolding way_up
way_on rows made to k =
    ap (λ rest. k ∷ (if k == to then [] else rest))
    (on_same rows made k (way_within k rows to) (way_up rows to) (λ j less. way_same rows made to k (suc j) j less (omega arith)) (key_row rows k) refl)

-- it ends at the row that was looked for
pub way_ends : (rows : List LadderRow) → AreMade rows → (to k : ℕ) → k ≡ to → way_up rows to k ≡ k ∷ []
way_ends rows made to k same = way_on rows made to k ∙ ap (λ b. k ∷ (if b then [] else on_from (way_up rows to) (key_row rows k))) (eq-eqb k to same)

-- or goes on
pub way_next : (rows : List LadderRow)
    → AreMade rows
    → (to k : ℕ)
    → (k ≡ to → ⊥)
    → (o : Option ℕ)
    → key_row rows k ≡ o
    → way_up rows to k ≡ k ∷ on_from (way_up rows to) o
way_next rows made to k differs o is =
    way_on rows made to k
    ∙ ap (λ b. k ∷ (if b then [] else on_from (way_up rows to) (key_row rows k))) (ne_eqb k to differs)
    ∙ ap (λ key. k ∷ on_from (way_up rows to) key) is

-- what is written for one station more
pub one_station : (text : ℕ → List ℕ) (station : ℕ) (so_far after whole : List ℕ)
    → station < 8
    → after ≡ so_far ++ text station
    → so_far ++ for_each text (drop station stations) ≡ whole
    → after ++ for_each text (drop (station + 1) stations) ≡ whole
one_station text station so_far after whole below added done =
    let rest : List ℕ = for_each text (drop (station + 1) stations) in
    ap (λ t. t ++ rest) added ∙ append_assoc so_far (text station) rest
    ∙ ap (λ s. so_far ++ (text s ++ rest)) (sym (numbered station below))
    ∙ ap (λ more. so_far ++ for_each text more) (sym (drop_more stations station 0 below)) ∙ done
  where
    numbered : (s : ℕ) → s < 8 → get_or stations s 0 ≡ s
    numbered zero below = refl
    numbered (suc zero) below = refl
    numbered (suc (suc zero)) below = refl
    numbered (suc (suc (suc zero))) below = refl
    numbered (suc (suc (suc (suc zero)))) below = refl
    numbered (suc (suc (suc (suc (suc zero))))) below = refl
    numbered (suc (suc (suc (suc (suc (suc zero)))))) below = refl
    numbered (suc (suc (suc (suc (suc (suc (suc zero))))))) below = refl
    numbered (suc (suc (suc (suc (suc (suc (suc (suc s)))))))) below = absurd (omega (arith, below))

-- one line more
pub one_line : (rows : List LadderRow) (marks : ℕ → ℕ → Option ℕ) (k all : ℕ) (so_far after whole : List ℕ)
    → k < all
    → after ≡ so_far ++ row_line rows marks k
    → so_far ++ row_lines rows marks k (all - k) ≡ whole
    → after ++ row_lines rows marks (k + 1) (all - (k + 1)) ≡ whole
one_line rows marks k all so_far after whole below added done =
    let rest : List ℕ = row_lines rows marks (k + 1) (all - (k + 1)) in
    let left : all - k ≡ suc (all - (k + 1)) = omega (arith, below) in
    let next : suc k ≡ k + 1 = omega arith in
    ap (λ t. t ++ rest) added ∙ append_assoc so_far (row_line rows marks k) rest
    ∙ ap (λ n. so_far ++ (row_line rows marks k ++ row_lines rows marks n (all - (k + 1)))) (sym next)
    ∙ ap (λ n. so_far ++ row_lines rows marks k n) (sym left) ∙ done

-- marks that are one give one text
each_same : (f g : ℕ → List ℕ) → ((s : ℕ) → s < 8 → f s ≡ g s) → for_each f stations ≡ for_each g stations
each_same f g same =
    rw (
      same 0 (omega arith),
      same 1 (omega arith),
      same 2 (omega arith),
      same 3 (omega arith),
      same 4 (omega arith),
      same 5 (omega arith),
      same 6 (omega arith),
      same 7 (omega arith),
    )
    refl

pub line_same : (rows : List LadderRow) (f g : ℕ → ℕ → Option ℕ) (k : ℕ) → ((s : ℕ) → s < 8 → f s k ≡ g s k) → row_line rows f k ≡ row_line rows g k
line_same rows f g k same =
    ap (λ names. line_of k (form_at rows k) names (paths_text rows k (λ s. f s k))) (each_same _ _ (λ s few. ap (λ m. name_if m s) (same s few)))
    ∙ ap (line_of k (form_at rows k) (names_text (λ s. g s k))) (each_same _ _ (λ s few. ap (λ m. by_if rows k m s) (same s few)))
