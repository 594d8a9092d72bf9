-- The state of a CMAC after a text, against the definition by blocks.
use Rattle.std.proofs.Common.{◌≡◌, ◌≢◌, ℕ, zero, suc, ◌+◌, ◌-◌, ◌*◌, ◌/◌, ◌<◌, ◌≤◌, List, [], ◌∷◌, ◌++◌, length, length-append, length-drop, get_or, take, drop, map, fold, replicate, refl, ap, sym, ◌∙◌, arith, append_assoc, append-nil, inl, inr, eqb, false}
use Rattle.std.specs.Int.Bits.{bit_xor, xor_assoc, xor_zero_r}
use Rattle.std.specs.List.{range_with_len}
use Rattle.std.proofs.{lemmas.Bool.cases_eq, lemmas.Bool.cases_lt, lemmas.Bool.Decides.nat_tests, lemmas.List.FromFn.get_or-map-range_with_len, lemmas.List.FromFn.map-range_with_len_more}
use Rattle.std.proofs.lemmas.List.{ext_get_or, get_or-set_same, get_or-set_other, get_or_append_left, get_or_at, get_or_past, length-set, length-take-le, take_more, drop-append-le, drop-take, drop_at, take_all}
use Rattle.std.proofs.lemmas.List.Sums.{fold-append, fold_push, fold_more}
use Rattle.aes_core.specs.Aes.{aes}
use Rattle.aes_core.proofs.AesLemmas.{length-aes}
use Rattle.rec_base.specs.{Header.header_of, declared.uses.Dir.Dir}
use Rattle.cmac_eia2.specs.Cmac.{block_at, blocks_before, chained, cmac_of, doubled, masked_last, padded, xor_blocks, zero_block}
use Rattle.cmac_eia2.specs.{Eia2.eia2_of, declared.state.State.State}
use Rattle.cmac_eia2.specs.State.{absorbed, ended, fed, mixed_with, started, with_room}

-- ---- sums of blocks

length-xor_blocks : (a b : List ℕ) → length (xor_blocks a b) ≡ 16
unfolding xor_blocks
length-xor_blocks a b = refl

xor_blocks-at : (a b : List ℕ) (i : ℕ) → i < 16 → get_or (xor_blocks a b) i 0 ≡ bit_xor (get_or a i 0) (get_or b i 0)
unfolding xor_blocks
xor_blocks-at a b i h =
    get_or-map-range_with_len (λ k. bit_xor (get_or a k 0) (get_or b k 0)) 0 16 i i 0 h (omega arith)

-- two blocks with the same 16 octets are equal
same_blocks : (a b : List ℕ) → length a ≡ 16 → length b ≡ 16 → ((i : ℕ) → i < 16 → get_or a i 0 ≡ get_or b i 0)
    → a ≡ b
same_blocks a b p q h = ext_get_or 0 a b (p ∙ sym q) (λ i l. h i (omega arith))

-- only the octets at the 16 places count
xor_blocks-same : (a b b' : List ℕ) → ((i : ℕ) → i < 16 → get_or b i 0 ≡ get_or b' i 0)
    → xor_blocks a b ≡ xor_blocks a b'
xor_blocks-same a b b' h =
    same_blocks _ _ (length-xor_blocks a b) (length-xor_blocks a b')
    (λ i l. xor_blocks-at a b i l ∙ ap (bit_xor (get_or a i 0)) (h i l) ∙ sym (xor_blocks-at a b' i l))

xor_blocks-assoc : (a b c : List ℕ) → xor_blocks (xor_blocks a b) c ≡ xor_blocks a (xor_blocks b c)
xor_blocks-assoc a b c =
    same_blocks _ _ (length-xor_blocks (xor_blocks a b) c) (length-xor_blocks a (xor_blocks b c))
    (λ i l. xor_blocks-at (xor_blocks a b) c i l
    ∙ ap (λ x. bit_xor x (get_or c i 0)) (xor_blocks-at a b i l)
    ∙ xor_assoc (get_or a i 0) (get_or b i 0) (get_or c i 0)
    ∙ sym (xor_blocks-at a (xor_blocks b c) i l ∙ ap (bit_xor (get_or a i 0)) (xor_blocks-at b c i l)))

-- the sum with no octet
xor_blocks-nil : (a : List ℕ) → length a ≡ 16 → xor_blocks a [] ≡ a
xor_blocks-nil a h =
    same_blocks _ _ (length-xor_blocks a []) h (λ i l. xor_blocks-at a [] i l ∙ xor_zero_r (get_or a i 0))

-- an octet at the end leaves the other places as they are
get_or_push-other : (b : List ℕ) (x i : ℕ) → i ≢ length b → get_or (b ++ x ∷ []) i 0 ≡ get_or b i 0
get_or_push-other b x i n =
    elim (cases_lt i (length b)) [
      | inl below ↦ get_or_append_left b (x ∷ []) 0 i below
      | inr above ↦ get_or_past (b ++ x ∷ []) i 0 (omega (arith, length-append b (x ∷ [])))
          ∙ sym (get_or_past b i 0 above)
    ]

-- one octet more of a block that is not full
xor_blocks-push : (a b : List ℕ) (x : ℕ) → length b < 16
    → xor_blocks a (b ++ x ∷ []) ≡ mixed_with (xor_blocks a b) (length b) x
xor_blocks-push a b x h =
    let y = bit_xor (get_or (xor_blocks a b) (length b) 0) x in
    let long = length-xor_blocks a b in
    let past : get_or b (length b) 0 ≡ 0 = get_or_past b (length b) 0 (omega arith) in
    let old : get_or (xor_blocks a b) (length b) 0 ≡ get_or a (length b) 0 =
    xor_blocks-at a b (length b) h ∙ ap (bit_xor (get_or a (length b) 0)) past
    ∙ xor_zero_r (get_or a (length b) 0) in
    let new : get_or (b ++ x ∷ []) (length b) 0 ≡ x = get_or_at b x [] 0 (length b) refl in
    let at_end : get_or (xor_blocks a (b ++ x ∷ [])) (length b) 0 ≡ y =
    xor_blocks-at a (b ++ x ∷ []) (length b) h ∙ rw (new, old) refl in
    same_blocks _ _ (length-xor_blocks a (b ++ x ∷ [])) (length-set (xor_blocks a b) (length b) y ∙ long)
    (λ i l. elim (cases_eq i (length b)) [
      | inl e ↦ rw e (at_end ∙ sym (get_or-set_same (xor_blocks a b) (length b) y 0 (omega arith)))
      | inr n ↦ xor_blocks-at a (b ++ x ∷ []) i l ∙ ap (bit_xor (get_or a i 0)) (get_or_push-other b x i n)
          ∙ sym (get_or-set_other (xor_blocks a b) (length b) i y 0 n ∙ xor_blocks-at a b i l)
    ])

-- ---- the state after n octets of a text

-- what is chained after m blocks
abbrev after_blocks : List ℕ → List ℕ → ℕ → List ℕ
after_blocks key text m = fold (chained key) zero_block (map (block_at text) (range_with_len 0 m))

after_blocks-more : (key text : List ℕ) (m : ℕ)
    → after_blocks key text (m + 1) ≡ aes key (xor_blocks (after_blocks key text m) (block_at text m))
after_blocks-more key text m =
    ap (fold (chained key) zero_block) (map-range_with_len_more (block_at text) 0 m m (omega arith))
    ∙ fold_push (chained key) zero_block (map (block_at text) (range_with_len 0 m)) (block_at text m)

length-after_blocks : (key text : List ℕ) (m : ℕ) → length (after_blocks key text m) ≡ 16
length-after_blocks key text zero = refl
length-after_blocks key text (suc m) =
    let e : suc m ≡ m + 1 = omega arith in
    ap (λ k. length (after_blocks key text k)) e ∙ ap length (after_blocks-more key text m)
    ∙ length-aes key (xor_blocks (after_blocks key text m) (block_at text m))

-- what the state is after n octets of a text: all of their blocks but the last are chained
abbrev state_at : List ℕ → List ℕ → ℕ → State
state_at key text n =
    let before = (n - 1) / 16 in
    record {
      aes = key;
      mixed = xor_blocks (after_blocks key text before) (drop (16 * before) (take n text));
      filled = n - 16 * before;
    }

-- one octet more of a block that is not full
absorbed-within : (key text : List ℕ) (n : ℕ) → n < length text → n - 16 * ((n - 1) / 16) ≢ 16
    → absorbed (state_at key text n) (get_or text n 0) ≡ state_at key text (n + 1)
unfolding absorbed with_room
absorbed-within key text n h room =
    let b = (n - 1) / 16 in
    let x = get_or text n 0 in
    let last = drop (16 * b) (take n text) in
    let test : eqb (n - 16 * b) 16 ≡ false = grind (arith, nat_tests) in
    let same : (n + 1 - 1) / 16 ≡ b = omega arith in
    let taken : length (take n text) ≡ n = length-take-le n text (omega arith) in
    let long : length last ≡ n - 16 * b = length-drop (16 * b) (take n text) ∙ ap (λ k. k - 16 * b) taken in
    let more : drop (16 * b) (take (n + 1) text) ≡ last ++ x ∷ [] =
    ap (drop (16 * b)) (take_more text n 0 h) ∙ drop-append-le (16 * b) (take n text) (x ∷ []) (omega arith) in
    let mixed : xor_blocks (after_blocks key text b) (drop (16 * b) (take (n + 1) text))
    ≡ mixed_with (xor_blocks (after_blocks key text b) last) (n - 16 * b) x =
    ap (xor_blocks (after_blocks key text b)) more
    ∙ xor_blocks-push (after_blocks key text b) last x (omega arith)
    ∙ ap (λ k. mixed_with (xor_blocks (after_blocks key text b) last) k x) long in
    let filled : n - 16 * b + 1 ≡ n + 1 - 16 * b = omega arith in
    rw (test, same, mixed, filled) refl

-- the first octet of a block
absorbed-first : (key text : List ℕ) (n : ℕ) → n < length text → n - 16 * ((n - 1) / 16) ≡ 16
    → absorbed (state_at key text n) (get_or text n 0) ≡ state_at key text (n + 1)
unfolding absorbed with_room
absorbed-first key text n h full =
    let b = (n - 1) / 16 in
    let x = get_or text n 0 in
    let last = drop (16 * b) (take n text) in
    let sum = after_blocks key text (b + 1) in
    let next : (n + 1 - 1) / 16 ≡ b + 1 = omega arith in
    let taken : length (take n text) ≡ n = length-take-le n text (omega arith) in
    let whole : last ≡ block_at text b =
    ap (λ k. drop (16 * b) (take k text)) (omega arith) ∙ drop-take (16 * b) 16 text in
    let done : aes key (xor_blocks (after_blocks key text b) last) ≡ sum =
    ap (λ block. aes key (xor_blocks (after_blocks key text b) block)) whole
    ∙ sym (after_blocks-more key text b) in
    let more : drop (16 * (b + 1)) (take (n + 1) text) ≡ x ∷ [] =
    ap (drop (16 * (b + 1))) (take_more text n 0 h)
    ∙ drop_at (take n text) (x ∷ []) (16 * (b + 1)) (omega arith) in
    let mixed : xor_blocks sum (drop (16 * (b + 1)) (take (n + 1) text)) ≡ mixed_with sum 0 x =
    ap (xor_blocks sum) more ∙ xor_blocks-push sum [] x (omega arith)
    ∙ ap (λ block. mixed_with block 0 x) (xor_blocks-nil sum (length-after_blocks key text (b + 1))) in
    let filled : n + 1 - 16 * (b + 1) ≡ 0 + 1 = omega arith in
    rw (full, done, next, mixed, filled) refl

-- one octet more
absorbed-more : (key text : List ℕ) (n : ℕ) → n < length text
    → absorbed (state_at key text n) (get_or text n 0) ≡ state_at key text (n + 1)
absorbed-more key text n h =
    elim (cases_eq (n - 16 * ((n - 1) / 16)) 16) [
      | inl full ↦ absorbed-first key text n h full
      | inr room ↦ absorbed-within key text n h room
    ]

start-is : (key text : List ℕ) → started key ≡ state_at key text 0
unfolding xor_blocks
start-is key text = refl

-- the state after n octets
fold-absorbed : (key text : List ℕ) (n : ℕ) → n ≤ length text
    → fold absorbed (started key) (take n text) ≡ state_at key text n
fold-absorbed key text zero h = start-is key text
fold-absorbed key text (suc n) h =
    let e : suc n ≡ n + 1 = omega arith in
    let before = fold-absorbed key text n (omega arith) in
    let step = fold_more absorbed (started key) text n 0 (omega arith) in
    ap (λ k. fold absorbed (started key) (take k text)) e ∙ step ∙ ap (λ s. absorbed s (get_or text n 0)) before
    ∙ absorbed-more key text n (omega arith) ∙ ap (state_at key text) (sym e)

-- ---- the end

-- zeros at the end change no octet
get_or-zeros : (zs : List ℕ) (k i : ℕ) → get_or zs i 0 ≡ get_or (zs ++ replicate k 0) i 0
get_or-zeros [] zero i = refl
get_or-zeros [] (suc k) zero = refl
get_or-zeros [] (suc k) (suc i) = get_or-zeros [] k i
get_or-zeros (z ∷ zs) k zero = refl
get_or-zeros (z ∷ zs) k (suc i) = get_or-zeros zs k i

-- the padding
xor_blocks-padded : (a last : List ℕ) → length last < 16
    → mixed_with (xor_blocks a last) (length last) 0x80 ≡ xor_blocks a (padded last)
xor_blocks-padded a last h =
    sym (xor_blocks-push a last 0x80 h) ∙ xor_blocks-same a (last ++ 0x80 ∷ []) (padded last)
    (λ i l. get_or-zeros (last ++ 0x80 ∷ []) (15 - length last) i ∙ ap (λ zs. get_or zs i 0) (append_assoc last (0x80 ∷ []) (replicate (15 - length last) 0)))

-- the last block, from the state
ended-is : (key mixed last : List ℕ) (n : ℕ) → n ≡ length last → n ≤ 16
    → ended (record { aes = key; mixed = xor_blocks mixed last; filled = n }) ≡ chained key mixed (masked_last key last)
unfolding ended
ended-is key mixed last n e h =
    elim (cases_eq (length last) 16) [
      | inl full ↦ rw (e, full) (ap (aes key) (xor_blocks-assoc mixed last (doubled (aes key zero_block))))
      | inr short ↦
          let test : eqb (length last) 16 ≡ false = grind (arith, nat_tests) in
          let pad = xor_blocks-padded mixed last (omega arith) in
          rw (e, test, pad) (ap (aes key) (xor_blocks-assoc mixed (padded last) (doubled (doubled (aes key zero_block)))))
    ]

-- the state after a whole text ends with its CMAC
ended-fold : (key text : List ℕ) → ended (fold absorbed (started key) text) ≡ cmac_of key text
unfolding cmac_of
ended-fold key text =
    let n = length text in
    let b = (n - 1) / 16 in
    let last = drop (16 * b) text in
    let whole : take n text ≡ text = take_all n text (omega arith) in
    let state = fold-absorbed key text n (omega arith) in
    let long : n - 16 * b ≡ length last = sym (length-drop (16 * b) text) in
    let blocks = map (block_at text) (range_with_len 0 b) in
    rw whole at (ap ended state) ∙ ended-is key (after_blocks key text b) last (n - 16 * b) long (omega arith)
    ∙ sym (fold_push (chained key) zero_block blocks (masked_last key last))

-- pieces, and the end
pub fed-append : (key text piece : List ℕ) → fold absorbed (fed key text) piece ≡ fed key (text ++ piece)
unfolding fed
fed-append key text piece = sym (fold-append absorbed (started key) text piece)

pub ended-fed : (key text : List ℕ) → ended (fed key text) ≡ cmac_of key text
unfolding fed
ended-fed key text = ended-fold key text

-- ---- a whole block behind a full one

-- a block that has taken these octets
abbrev with_octets : List ℕ → List ℕ → List ℕ → State
with_octets key before octets =
    record { aes = key; mixed = xor_blocks before octets; filled = length octets }

with_octets-more : (key before octets : List ℕ) (x : ℕ) → length octets < 16
    → absorbed (with_octets key before octets) x ≡ with_octets key before (octets ++ x ∷ [])
unfolding absorbed with_room
with_octets-more key before octets x h =
    let test : eqb (length octets) 16 ≡ false = grind (arith, nat_tests) in
    let mixed = xor_blocks-push before octets x h in
    let filled : length octets + 1 ≡ length (octets ++ x ∷ []) = omega (arith, length-append octets (x ∷ [])) in
    rw (test, mixed, filled) refl

with_octets-fold : (key before octets xs : List ℕ) → length octets + length xs ≤ 16
    → fold absorbed (with_octets key before octets) xs ≡ with_octets key before (octets ++ xs)
with_octets-fold key before octets [] h = ap (with_octets key before) (sym (append-nil octets))
with_octets-fold key before octets (x ∷ xs) h =
    ap (λ s. fold absorbed s xs) (with_octets-more key before octets x (omega arith))
    ∙ with_octets-fold key before (octets ++ x ∷ []) xs (omega (arith, length-append octets (x ∷ [])))
    ∙ ap (with_octets key before) (append_assoc octets (x ∷ []) xs)

-- the first octet behind a full block is the first of the next one
next_block : (key mixed : List ℕ) (x : ℕ)
    → absorbed (record { aes = key; mixed = mixed; filled = 16 }) x ≡ absorbed (with_octets key (aes key mixed) []) x
unfolding absorbed with_room
next_block key mixed x = rw (xor_blocks-nil (aes key mixed) (length-aes key mixed)) refl

fold-block : (key mixed block : List ℕ) → length block ≡ 16
    → fold absorbed (record { aes = key; mixed = mixed; filled = 16 }) block
    ≡ record { aes = key; mixed = xor_blocks (aes key mixed) block; filled = 16 }
fold-block key mixed [] h = absurd (omega arith)
fold-block key mixed (x ∷ xs) h =
    ap (λ s. fold absorbed s xs) (next_block key mixed x)
    ∙ with_octets-fold key (aes key mixed) [] (x ∷ xs) (omega arith)
    ∙ rw h refl

abbrev filled_to : List ℕ → List ℕ → ℕ → State
filled_to key mixed n = record { aes = key; mixed = mixed; filled = n }

pub fold-next_block : (state : State) (block : List ℕ) → state.filled ≡ 16 → length block ≡ 16
    → fold absorbed state block
    ≡ record { aes = state.aes; mixed = xor_blocks (aes state.aes state.mixed) block; filled = state.filled }
fold-next_block state block full long =
    ap (λ n. fold absorbed (filled_to state.aes state.mixed n) block) full
    ∙ fold-block state.aes state.mixed block long
    ∙ ap (filled_to state.aes (xor_blocks (aes state.aes state.mixed) block)) (sym full)

-- ---- lengths

pub length-cmac_of : (key text : List ℕ) → length (cmac_of key text) ≡ 16
unfolding cmac_of
length-cmac_of key text =
    let before = blocks_before text in
    let blocks = map (block_at text) (range_with_len 0 before) in
    let last = masked_last key (drop (16 * before) text) in
    ap length (fold_push (chained key) zero_block blocks last)
    ∙ length-aes key (xor_blocks (fold (chained key) zero_block blocks) last)

-- ---- the code of 128-EIA2

first_four : (mac : List ℕ) → 4 ≤ length mac
    → get_or mac 0 0 ∷ get_or mac 1 0 ∷ get_or mac 2 0 ∷ get_or mac 3 0 ∷ [] ≡ take 4 mac
first_four [] h = absurd (omega arith)
first_four (a ∷ []) h = absurd (omega arith)
first_four (a ∷ b ∷ []) h = absurd (omega arith)
first_four (a ∷ b ∷ c ∷ []) h = absurd (omega arith)
first_four (a ∷ b ∷ c ∷ d ∷ rest) h = refl

-- the first four octets of the CMAC over the header and a text
pub eia2_of-is : (key header : List ℕ) (count bearer : ℕ) (dir : Dir) (text mac : List ℕ)
    → header ≡ header_of count bearer dir → mac ≡ cmac_of key (header ++ text)
    → get_or mac 0 0 ∷ get_or mac 1 0 ∷ get_or mac 2 0 ∷ get_or mac 3 0 ∷ [] ≡ eia2_of key count bearer dir text
unfolding eia2_of
eia2_of-is key header count bearer dir text mac h e =
    let long : 4 ≤ length mac = rw e (omega (arith, length-cmac_of key (header ++ text))) in
    first_four mac long ∙ rw (e, h) refl
