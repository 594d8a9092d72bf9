-- Frames: a length and a body joined, and what an input answers that has the octets taken.
use Rattle.std.proofs.Common.{◌≡◌, ◌≢◌, ℕ, ◌+◌, ◌<◌, ◌≤◌, Bool, true, false, ltb, eqb, inl, inr, List, [], ◌++◌, length, take, drop, Option, Some, None, Result, Ok, Err, refl, sym, ap, ◌∙◌, append-nil, arith, length-append, length-drop}
use Rattle.std.specs.Prelude.{IfOk, IfSome}
use Rattle.std.proofs.lemmas.Bool.{le-ltb, lt-ltb, ne_eqb}
use Rattle.std.proofs.lemmas.List.{take-append-le, drop-append-le, drop_at, take_all}
use Rattle.rec_base.specs.BigEndian.{number_of, octets_of, field_at, number_at}
use Rattle.rec_base.proofs.Numbers.{AreOctets, length-octets_of, octets_of-number_of}
use Rattle.edge_io.specs.{Octets.Gives, declared.peers.Role.Role}
use Rattle.edge_io.proofs.Known.{gives_twice}
use Rattle.role_wire.specs.{declared.frames.FrameIn.FrameIn, declared.frames.FrameFault.FrameFault, Spelling.body_spelling, Reading.body_of, Ranges.IsFrame, Ranges.IsRole}
use Rattle.role_wire.specs.declared.frames.FrameFault.TheVariants.{Ended, Truncated, TooLong, BadBody, ReadFault}
use Rattle.role_wire.specs.Frame.{body_limit, framed, frame_spelling, size_of, of_body, frame_at, IsWhole, IsCut, IsTaken, FrameRead, IsBodyTaken, BodyRead}
use Rattle.rec_fields.proofs.Layouts.{field_is, number_is}
use Rattle.role_wire.proofs.Grammar.{body_found, body_again}

-- what a body reader answered
pub found_in : (role : Role) (first : Bool) (octets : List ℕ) (answer : Result FrameIn ℕ) → IsRole role → AreOctets octets → answer ≡ body_of role first octets
    → IfOk answer (λ frame. (octets ≡ body_spelling frame) × IsFrame role first frame)
found_in role first octets (Ok frame) is fit e = body_found role first octets frame is fit (sym e)
found_in role first octets (Err place) is fit e = tt

-- two octets are those of their number
pub length_is : (head : List ℕ) → length head ≡ 2 → AreOctets head → head ≡ octets_of 2 (number_at head 0 2)
unfolding number_at field_at
length_is head size fit =
    let whole : take 2 head ≡ head = take_all 2 head (omega arith) in
    sym (octets_of-number_of head fit) ∙ ap (λ n. octets_of n (number_of head)) size ∙ ap (λ xs. octets_of 2 (number_of xs)) (sym whole)

-- the length that octets begin with is that of their first two
size_front : (head rest : List ℕ) → 2 ≤ length head → size_of (head ++ rest) ≡ size_of head
unfolding number_at field_at
size_front head rest h = ap number_of (take-append-le 2 head rest h)

is_joined : (role : Role) (first : Bool) (result : Result FrameIn FrameFault) (head body : List ℕ) (left : Option (List ℕ)) (size : ℕ)
    → length head ≡ 2 → number_at head 0 2 ≡ size → head ≡ octets_of 2 size → size ≤ body_limit
    → IsBodyTaken role first size result body left → IsTaken role first result (head ++ body) left
unfolding framed
is_joined role first (Ok frame) head body left size two number spelled allowed is =
    let front : size_of (head ++ body) ≡ size = size_front head body (omega arith) ∙ number in
    let all = length-append head body in
    let length_is : size ≡ length (body_spelling frame) = sym is.2 ∙ ap length is.0 in (
      (λ j. spelled j ++ is.0 j) ∙ ap (λ n. octets_of 2 n ++ body_spelling frame) length_is,
      is.1,
      record { has_length = omega arith; allowed = omega arith; whole = omega (arith, is.2) },
    )
is_joined role first (Err Ended) head body left size two number spelled allowed is = absurd is
is_joined role first (Err Truncated) head body left size two number spelled allowed is =
    let front : size_of (head ++ body) ≡ size = size_front head body (omega arith) ∙ number in
    let all = length-append head body in
    (inr (omega arith, omega arith, omega (arith, is.0)), is.1)
is_joined role first (Err (TooLong n)) head body left size two number spelled allowed is = absurd is
is_joined role first (Err (BadBody place)) head body left size two number spelled allowed is =
    let front : size_of (head ++ body) ≡ size = size_front head body (omega arith) ∙ number in
    let all = length-append head body in
    (record { has_length = omega arith; allowed = omega arith; whole = omega (arith, is.0) }, ap (body_of role first) (drop_at head body 2 two) ∙ is.1)
is_joined role first (Err ReadFault) head body left size two number spelled allowed is =
    let front : size_of (head ++ body) ≡ size = size_front head body (omega arith) ∙ number in
    let all = length-append head body in
    inr (inr (omega arith, omega arith, omega (arith, is)))

-- a length and the body behind it are a frame
pub joined : (role : Role) (first : Bool) (result : Result FrameIn FrameFault) (old mid new : Option (List ℕ)) (head : List ℕ) (size : ℕ)
    → Gives old mid head → length head ≡ 2 → number_at head 0 2 ≡ size → head ≡ octets_of 2 size → size ≤ body_limit
    → BodyRead role first size result mid new → FrameRead role first result old new
joined role first result old mid new head size gives two number spelled allowed read = record {
  taken = head ++ read.taken;
  gives = gives_twice old mid new head read.taken gives read.gives;
  is = is_joined role first result head read.taken new size two number spelled allowed read.is;
}

-- a frame that is cut by the end
cut_answers : (role : Role) (first : Bool) (taken rest : List ℕ) → IsCut taken → rest ≡ [] → frame_at role first (taken ++ rest) ≡ Err Truncated
unfolding frame_at
cut_answers role first taken rest (inl one) none =
    let octets : List ℕ = taken ++ rest in
    let is : octets ≡ taken = ap (λ r. taken ++ r) none ∙ append-nil taken in
    let size : length octets ≡ 1 = ap length is ∙ one in
    let a : eqb (length octets) 0 ≡ false = ne_eqb _ _ (omega arith) in
    let b : ltb (length octets) 2 ≡ true = lt-ltb _ _ (omega arith) in
    rw (a, b) refl
cut_answers role first taken rest (inr cut) none =
    let octets : List ℕ = taken ++ rest in
    let is : octets ≡ taken = ap (λ r. taken ++ r) none ∙ append-nil taken in
    let same : length octets ≡ length taken = ap length is in
    let front : size_of octets ≡ size_of taken = ap (λ xs. size_of xs) is in
    let two = cut.0 in
    let allowed = cut.1 in
    let short = cut.2 in
    let a : eqb (length octets) 0 ≡ false = ne_eqb _ _ (omega arith) in
    let b : ltb (length octets) 2 ≡ false = le-ltb _ _ (omega arith) in
    let c : ltb body_limit (size_of octets) ≡ false = le-ltb _ _ (omega arith) in
    let d : ltb (length octets) (2 + size_of octets) ≡ true = lt-ltb _ _ (omega arith) in
    rw (a, b, c, d) refl

-- a whole frame is answered by its body
whole_answers : (role : Role) (first : Bool) (taken rest : List ℕ) (answer : Result FrameIn ℕ) → IsWhole taken → body_of role first (drop 2 taken) ≡ answer
    → frame_at role first (taken ++ rest) ≡ of_body answer
unfolding frame_at
whole_answers role first taken rest answer is e =
    let octets : List ℕ = taken ++ rest in
    let all = length-append taken rest in
    let two = is.has_length in
    let allowed = is.allowed in
    let whole = is.whole in
    let front : size_of octets ≡ size_of taken = size_front taken rest two in
    let a : eqb (length octets) 0 ≡ false = ne_eqb _ _ (omega arith) in
    let b : ltb (length octets) 2 ≡ false = le-ltb _ _ (omega arith) in
    let c : ltb body_limit (size_of octets) ≡ false = le-ltb _ _ (omega arith) in
    let d : ltb (length octets) (2 + size_of octets) ≡ false = le-ltb _ _ (omega arith) in
    let size : length (drop 2 taken) ≡ size_of octets = omega (arith, length-drop 2 taken) in
    let body : field_at octets 2 (size_of octets) ≡ drop 2 taken =
    field_is octets (drop 2 taken) rest 2 (size_of octets) size (drop-append-le 2 taken rest two) in
    rw (a, b, c, d) (ap of_body (ap (body_of role first) body ∙ e))

answers : (role : Role) (first : Bool) (result : Result FrameIn FrameFault) (taken rest : List ℕ) → IsTaken role first result taken (Some rest)
    → result ≢ Err ReadFault → result ≡ frame_at role first (taken ++ rest)
unfolding frame_at framed
answers role first (Ok frame) taken rest is h =
    let n = length (body_spelling frame) in
    let body : drop 2 taken ≡ body_spelling frame = ap (drop 2) is.0 ∙ drop_at (octets_of 2 n) (body_spelling frame) 2 (length-octets_of 2 n) in
    sym (whole_answers role first taken rest (Ok frame) is.2 (ap (body_of role first) body ∙ body_again role first frame is.1))
answers role first (Err Ended) taken rest is h = ap (λ octets. frame_at role first octets) (λ j. sym is.0 j ++ sym is.1 j)
answers role first (Err Truncated) taken rest is h = sym (cut_answers role first taken rest is.0 is.1)
answers role first (Err (TooLong n)) taken rest is h =
    let octets : List ℕ = taken ++ rest in
    let all = length-append taken rest in
    let two : length taken ≡ 2 = is.0 in
    let long : body_limit < n = is.2 in
    let front : size_of octets ≡ n = size_front taken rest (omega arith) ∙ is.1 in
    let a : eqb (length octets) 0 ≡ false = ne_eqb _ _ (omega arith) in
    let b : ltb (length octets) 2 ≡ false = le-ltb _ _ (omega arith) in
    let c : ltb body_limit (size_of octets) ≡ true = lt-ltb _ _ (omega arith) in
    rw (a, b, c) (ap (λ m. Err (TooLong m)) (sym front))
answers role first (Err (BadBody place)) taken rest is h = sym (whole_answers role first taken rest (Err place) is.0 is.1)
answers role first (Err ReadFault) taken rest is h = absurd (h refl)

abbrev known : List ℕ → Option (List ℕ)
known octets = Some octets

some_is : (a b : List ℕ) → known a ≡ known b → a ≡ b
some_is a b e = cc

-- over an input that tells its octets the answer is the one that they have
pub exact : (role : Role) (first : Bool) (result : Result FrameIn FrameFault) (old new : Option (List ℕ)) → FrameRead role first result old new
    → result ≢ Err ReadFault → IfSome old (λ octets. result ≡ frame_at role first octets)
exact role first result None new read h = tt
exact role first result (Some octets) None read h = let no = read.gives in absurd cc
exact role first result (Some octets) (Some rest) read h =
    let is : octets ≡ read.taken ++ rest = some_is octets (read.taken ++ rest) read.gives in
    answers role first result read.taken rest read.is h ∙ ap (frame_at role first) (sym is)

-- what is written is read again
pub written_again : (role : Role) (first : Bool) (frame : FrameIn) (octets rest : List ℕ) → octets ≡ frame_spelling frame → length octets ≤ 2 + body_limit
    → IsFrame role first frame → frame_at role first (octets ++ rest) ≡ Ok frame
unfolding framed
written_again role first frame octets rest spelled short is =
    let body = body_spelling frame in
    let head : List ℕ = octets_of 2 (length body) in
    let two : length head ≡ 2 = length-octets_of 2 (length body) in
    let size : length octets ≡ 2 + length body = ap length spelled ∙ length-append head body ∙ ap (λ n. n + length body) two in
    let number : size_of octets ≡ length body = number_is octets body 0 2 (length body) (omega arith) spelled in
    let behind : drop 2 octets ≡ body = ap (drop 2) spelled ∙ drop_at head body 2 two in
    whole_answers role first octets rest (Ok frame) (record { has_length = omega arith; allowed = omega arith; whole = omega arith })
    (ap (body_of role first) behind ∙ body_again role first frame is)
