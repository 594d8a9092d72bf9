-- Laws of a text combined with a stream.
use Rattle.std.proofs.Common.{inl, inr, ◌≡◌, ℕ, suc, ◌+◌, ◌-◌, ◌*◌, ◌/◌, ◌%◌, ◌<◌, ◌≤◌, List, [], ◌∷◌, ◌++◌, length, length-drop, get_or, min, set, slice_index, take, drop, refl, ap, sym, ◌∙◌, arith, append_assoc, append-nil}
use Rattle.std.proofs.lemmas.Bool.{cases_lt}
use Rattle.std.proofs.lemmas.List.{get_or-append_right, get_or_append_left, get_or-take, drop-drop, drop-take, drop_all, drop_at, drop_min, drop_more, get_or_at, length-take-le, set_at, take-append-drop, take-take, take_all, take_at, take_min, take_more}
use borrow.Rule.Slice.PartMut.{put_mid}
use Rattle.std.specs.Int.Bits.{bit_xor, xor_assoc, xor_self, xor_zero_r}
use Rattle.rec_base.specs.BigEndian.{octets_of}
use Rattle.keystream.specs.Combined.{combined, octet_in}

pub length-combined : (f : ℕ → ℕ) (i : ℕ) (xs : List ℕ) → length (combined f i xs) ≡ length xs
unfolding combined
length-combined f i [] = refl
length-combined f i (x ∷ xs) = ap suc (length-combined f (i + 1) xs)

pub combined-append : (f : ℕ → ℕ) (i : ℕ) (xs ys : List ℕ)
    → combined f i (xs ++ ys) ≡ combined f i xs ++ combined f (i + length xs) ys
unfolding combined
combined-append f i [] ys = ap (λ j. combined f j ys) (omega arith)
combined-append f i (x ∷ xs) ys =
    let rest = combined-append f (i + 1) xs ys in
    let place : i + 1 + length xs ≡ i + suc (length xs) = omega arith in
    ap (λ zs. bit_xor x (f i) ∷ zs) (rest ∙ ap (λ j. combined f (i + 1) xs ++ combined f j ys) place)

combined_one : (f : ℕ → ℕ) (i x : ℕ) → combined f i (x ∷ []) ≡ bit_xor x (f i) ∷ []
unfolding combined
combined_one f i x = refl

-- only the octets of the stream at the places of the text count
pub combined_same : (f g : ℕ → ℕ) (i j : ℕ) (xs : List ℕ) → ((k : ℕ) → k < length xs → f (i + k) ≡ g (j + k))
    → combined f i xs ≡ combined g j xs
unfolding combined
combined_same f g i j [] h = refl
combined_same f g i j (x ∷ xs) h =
    let first : f i ≡ g j = ap f (omega arith) ∙ h 0 (omega arith) ∙ ap g (omega arith) in
    let rest =
    combined_same f g (i + 1) (j + 1) xs (λ k l. ap f (omega arith) ∙ h (suc k) (omega arith) ∙ ap g (omega arith)) in
    rw (first, rest) refl

xor-xor : (x y : ℕ) → bit_xor (bit_xor x y) y ≡ x
xor-xor x y = xor_assoc x y y ∙ ap (bit_xor x) (xor_self y) ∙ xor_zero_r x

pub combined-combined : (f : ℕ → ℕ) (i : ℕ) (xs : List ℕ) → combined f i (combined f i xs) ≡ xs
unfolding combined
combined-combined f i [] = refl
combined-combined f i (x ∷ xs) = rw (xor-xor x (f i), combined-combined f (i + 1) xs) refl

-- one octet more
pub combined_more : (f : ℕ → ℕ) (t : List ℕ) (i : ℕ) → i < length t
    → set (combined f 0 (take i t) ++ drop i t) i (bit_xor (get_or (combined f 0 (take i t) ++ drop i t) i 0) (f i))
    ≡ combined f 0 (take (i + 1) t) ++ drop (i + 1) t
combined_more f t i h =
    let done = combined f 0 (take i t) in
    let x = get_or t i 0 in
    let rest = drop (i + 1) t in
    let taken : length (take i t) ≡ i = length-take-le i t (omega arith) in
    let long : length done ≡ i = length-combined f 0 (take i t) ∙ taken in
    let split : drop i t ≡ x ∷ rest = drop_more t i 0 h in
    let old : get_or (done ++ x ∷ rest) i 0 ≡ x = get_or_at done x rest 0 i long in
    let put : set (done ++ x ∷ rest) i (bit_xor x (f i)) ≡ done ++ bit_xor x (f i) ∷ rest =
    set_at done x rest (bit_xor x (f i)) i long in
    let more : combined f 0 (take (i + 1) t) ≡ done ++ bit_xor x (f i) ∷ [] =
    ap (combined f 0) (take_more t i 0 h) ∙ combined-append f 0 (take i t) (x ∷ [])
    ∙ ap (λ zs. done ++ zs) (combined_one f (0 + length (take i t)) x ∙ ap (λ k. bit_xor x (f k) ∷ []) (omega arith)) in
    rw (split, old, put, more, append_assoc) refl

-- the whole text
pub combined_all : (f : ℕ → ℕ) (t : List ℕ) (n : ℕ) → length t ≤ n
    → combined f 0 (take n t) ++ drop n t ≡ combined f 0 t
combined_all f t n h = rw (take_all n t h, drop_all n t h, append-nil) refl

-- the piece from place p to place e, where the octets before it are done
pub combined_piece : (f g : ℕ → ℕ) (t : List ℕ) (p e : ℕ) → p ≤ e → e ≤ length t
    → ((k : ℕ) → k < e - p → g k ≡ f (p + k))
    → put_mid p (e - p) (combined f 0 (take p t) ++ drop p t)
    (combined g 0 (take (e - p) (drop p (combined f 0 (take p t) ++ drop p t))))
    ≡ combined f 0 (take e t) ++ drop e t
combined_piece f g t p e h l same =
    let done = combined f 0 (take p t) in
    let taken : length (take p t) ≡ p = length-take-le p t (omega arith) in
    let long : length done ≡ p = length-combined f 0 (take p t) ∙ taken in
    let front : take p (done ++ drop p t) ≡ done = take_at done (drop p t) p long in
    let back : drop p (done ++ drop p t) ≡ drop p t = drop_at done (drop p t) p long in
    let piece = take (e - p) (drop p t) in
    let width : length piece ≡ e - p = length-take-le (e - p) (drop p t) (omega (arith, length-drop p t)) in
    let now : combined g 0 piece ≡ combined f p piece =
    combined_same g f 0 p piece (λ k b. ap g (omega arith) ∙ same k (omega arith)) in
    let past : drop (e - p) (drop p t) ≡ drop e t = drop-drop (e - p) p t ∙ ap (λ n. drop n t) (omega arith) in
    let cut : drop p (take e t) ≡ piece = ap (λ n. drop p (take n t)) (omega arith) ∙ drop-take p (e - p) t in
    let joined : take p t ++ piece ≡ take e t =
    ap (λ zs. take p t ++ zs) (sym cut) ∙ ap (λ zs. zs ++ drop p (take e t)) (sym (take-take p e t h))
    ∙ take-append-drop p (take e t) in
    let more : combined f 0 (take e t) ≡ done ++ combined f p piece =
    ap (combined f 0) (sym joined) ∙ combined-append f 0 (take p t) piece
    ∙ ap (λ n. done ++ combined f n piece) (omega arith) in
    rw (front, back, now, past, more, append_assoc) refl

-- ---- streams of words

-- an octet depends on its word alone
pub octet_in_same : (f g : ℕ → ℕ) (k : ℕ) → f (k / 4) ≡ g (k / 4) → octet_in f k ≡ octet_in g k
unfolding octet_in
octet_in_same f g k e = rw e refl

-- an octet of the block of sixteen words with this number
pub octet_in_block : (f : ℕ → ℕ) (n k : ℕ) → octet_in f (64 * n + k) ≡ octet_in (λ i. f (16 * n + i)) k
unfolding octet_in
octet_in_block f n k =
    let word : (64 * n + k) / 4 ≡ 16 * n + k / 4 = omega arith in
    let place : (64 * n + k) % 4 ≡ k % 4 = omega arith in
    rw (word, place) refl

-- the text so far and the block of sixteen words behind it
pub combined_block : (f : ℕ → ℕ) (words t : List ℕ) (n stop : ℕ) → 64 * n ≤ length t → stop ≡ min (64 * n + 64) (length t)
    → ((i : ℕ) → i < 16 → slice_index words i ≡ f (16 * n + i))
    → put_mid (64 * n) (stop - 64 * n) (combined (octet_in f) 0 (take (64 * n) t) ++ drop (64 * n) t)
    (combined (octet_in (slice_index words)) 0
    (take (stop - 64 * n) (drop (64 * n) (combined (octet_in f) 0 (take (64 * n) t) ++ drop (64 * n) t))))
    ≡ combined (octet_in f) 0 (take (64 * (n + 1)) t) ++ drop (64 * (n + 1)) t
combined_block f words t n stop from stops same =
    let here : (k : ℕ) → k < stop - 64 * n → octet_in (slice_index words) k ≡ octet_in f (64 * n + k) =
    λ k h. octet_in_same (slice_index words) (λ i. f (16 * n + i)) k (same (k / 4) (omega arith))
    ∙ sym (octet_in_block f n k) in
    let piece = combined_piece (octet_in f) (octet_in (slice_index words)) t (64 * n) stop (omega arith) (omega arith) here in
    let next : stop ≡ min (64 * (n + 1)) (length t) = omega arith in
    piece ∙ rw (next, take_min (64 * (n + 1)) t, drop_min (64 * (n + 1)) t) refl

-- the octets of one word more, behind those of the words before it
pub octet_in_more : (w : ℕ → ℕ) (stream new rest : List ℕ) (i : ℕ) → 4 * i ≤ length stream → length new ≡ 4
    → new ≡ octets_of 4 (w i) → ((k : ℕ) → k < 4 * i → slice_index stream k ≡ octet_in w k)
    → (k : ℕ) → k < 4 * (i + 1) → slice_index (take (4 * i) stream ++ (new ++ rest)) k ≡ octet_in w k
unfolding octet_in
octet_in_more w stream new rest i long four e done k h =
    let taken : length (take (4 * i) stream) ≡ 4 * i = length-take-le (4 * i) stream long in
    elim (cases_lt k (4 * i)) [
      | inl low ↦ get_or_append_left (take (4 * i) stream) (new ++ rest) 0 k (omega arith)
          ∙ get_or-take (4 * i) stream k 0 low ∙ done k low
      | inr high ↦ let word : i ≡ k / 4 = omega arith in
          let place : k - 4 * i ≡ k % 4 = omega arith in
          get_or-append_right (take (4 * i) stream) (new ++ rest) (4 * i) k 0 taken high
          ∙ get_or_append_left new rest 0 (k - 4 * i) (omega arith)
          ∙ ap (λ octets. slice_index octets (k - 4 * i)) e
          ∙ ap (λ j. slice_index (octets_of 4 (w i)) j) place
          ∙ ap (λ j. slice_index (octets_of 4 (w j)) (k % 4)) word
    ]
