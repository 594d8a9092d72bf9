-- How the octets left and the octets written change over several calls.
use Rattle.std.proofs.Common.{◌≡◌, ℕ, ◌+◌, ◌-◌, ◌<◌, ◌≤◌, min, Option, Some, None, List, [], ◌++◌, take, drop, length, refl, ap, sym, subst, ◌∙◌, append_assoc, append-nil, arith, length-take, length-append}
use Rattle.std.proofs.lemmas.List.{take_rest, take_at, take_min, drop_at, take-append-le}
use Rattle.std.proofs.Math.Seq.{take-add}
use Rattle.std.specs.Io.KnownBytes.{prepend_known, append_known}
use Rattle.edge_io.specs.Octets.{Gives, Grows, GrowsByPrefix, GrowsByProperPrefix, LosesPrefix, LosesWithin}
use borrow.Rule.Slice.PartMut.{put_mid, post_of}

-- nothing was taken
pub gives_none : (known : Option (List ℕ)) → Gives known known []
gives_none None = refl
gives_none (Some xs) = refl

-- a call gives some octets, and the next call more
pub gives_twice : (old mid new : Option (List ℕ)) (front octets : List ℕ) → Gives old mid front → Gives mid new octets → Gives old new (front ++ octets)
gives_twice old mid None front octets first second = first ∙ ap (prepend_known front) second
gives_twice old mid (Some xs) front octets first second =
    first ∙ ap (prepend_known front) second ∙ ap Some (sym (append_assoc front octets xs))

-- the octets left lose a prefix, and then some octets more
pub loses_on : (old mid new : Option (List ℕ)) (front octets : List ℕ) → Gives old mid front → Gives mid new octets → LosesPrefix old new
loses_on old mid new front octets first second =
    record { taken = front ++ octets; gives = gives_twice old mid new front octets first second }

-- and together these are at most so many
pub loses_within : (limit : ℕ) (old mid new : Option (List ℕ)) (front octets : List ℕ)
    → length front + length octets ≤ limit
    → Gives old mid front
    → Gives mid new octets
    → LosesWithin limit old new
loses_within limit old mid new front octets few first second = record {
  taken = front ++ octets;
  gives = gives_twice old mid new front octets first second;
  within = omega (arith, length-append front octets, few);
}

-- a read into the rest of a buffer joins what it held, as `buf[filled..]` is written
pub gives_on : (old mid new : Option (List ℕ)) (filled n : ℕ) (buf fresh : List ℕ)
    → filled ≤ length buf
    → n ≤ length fresh
    → Gives old mid (take filled buf)
    → Gives mid new (take n fresh)
    → Gives old new (take (filled + n) (put_mid filled (length buf - filled) buf fresh))
gives_on old mid new filled n buf fresh within short first second =
    let after : List ℕ = post_of filled (length buf - filled) buf in
    let size : length (take filled buf) ≡ filled = omega (arith, length-take filled buf) in
    let parts : take (filled + n) (take filled buf ++ (fresh ++ after)) ≡ take filled buf ++ take n fresh =
    take-add filled n (take filled buf ++ (fresh ++ after))
    ∙ rw (take_at (take filled buf) (fresh ++ after) filled size, drop_at (take filled buf) (fresh ++ after) filled size)
    (ap (λ (xs : List ℕ). take filled buf ++ xs) (take-append-le n fresh after short)) in
    let P : List ℕ → Type 0 = λ xs. Gives old new xs in
    subst P (sym parts) (gives_twice old mid new (take filled buf) (take n fresh) first second)

-- nothing was written
pub nothing_out : (known : Option (List ℕ)) → Grows known known []
nothing_out None = refl
nothing_out (Some xs) = ap Some (sym (append-nil xs))

-- nothing was written of these octets
pub none_of : (known : Option (List ℕ)) (octets : List ℕ) → GrowsByPrefix known known octets
none_of known octets = record { count = 0; grows = nothing_out known }

-- all octets were written: they are a prefix of any that begin with them
pub all_out : (old new : Option (List ℕ)) (octets more : List ℕ) → Grows old new octets → GrowsByPrefix old new (octets ++ more)
all_out old new octets more grows =
    let P : List ℕ → Type 0 = λ xs. Grows old new xs in
    record { count = length octets; grows = subst P (sym (take_at octets more (length octets) refl)) grows }

-- a call writes some octets, and the next call more
pub grows_twice : (old mid new : Option (List ℕ)) (front octets : List ℕ) → Grows old mid front → Grows mid new octets → Grows old new (front ++ octets)
grows_twice None mid new front octets first second = second ∙ ap (λ (known : Option (List ℕ)). append_known known octets) first
grows_twice (Some xs) mid new front octets first second =
    second ∙ ap (λ (known : Option (List ℕ)). append_known known octets) first ∙ ap Some (append_assoc xs front octets)

-- some octets and a prefix of the next are a prefix of all
front_and : (front octets more : List ℕ) (n : ℕ) → n ≤ length octets → take (length front + n) ((front ++ octets) ++ more) ≡ front ++ take n octets
front_and front octets more n within =
    let size : length front ≡ length front = refl in
    let all : length front + n ≤ length (front ++ octets) = omega (arith, length-append front octets, within) in
    take-append-le (length front + n) (front ++ octets) more all
    ∙ take-add (length front) n (front ++ octets)
    ∙ rw (take_at front octets (length front) size, drop_at front octets (length front) size) refl

-- a call writes some octets, and the next call a prefix of more: together a prefix
pub prefix_on : (old mid new : Option (List ℕ)) (front octets more : List ℕ)
    → Grows old mid front
    → GrowsByPrefix mid new octets
    → GrowsByPrefix old new ((front ++ octets) ++ more)
prefix_on old mid new front octets more first second =
    let n : ℕ = min second.count (length octets) in
    let parts : take (length front + n) ((front ++ octets) ++ more) ≡ front ++ take second.count octets =
    front_and front octets more n (omega arith) ∙ ap (λ (xs : List ℕ). front ++ xs) (take_min second.count octets) in
    let P : List ℕ → Type 0 = λ xs. Grows old new xs in
    record { count = length front + n; grows = subst P (sym parts) (grows_twice old mid new front (take second.count octets) first second.grows) }

-- a prefix that is not all is a prefix
pub prefix_of : (old new : Option (List ℕ)) (octets : List ℕ) → GrowsByProperPrefix old new octets → GrowsByPrefix old new octets
prefix_of old new octets part = record { count = part.count; grows = part.grows }

-- a call writes some octets, and the next call a prefix of more that is not all: together such a prefix
pub proper_prefix_on : (old mid new : Option (List ℕ)) (front octets more : List ℕ)
    → Grows old mid front
    → GrowsByProperPrefix mid new octets
    → GrowsByProperPrefix old new ((front ++ octets) ++ more)
proper_prefix_on old mid new front octets more first second =
    let P : List ℕ → Type 0 = λ xs. Grows old new xs in
    let n : ℕ = second.count in
    let short : n < length octets = second.short in
    record {
      count = length front + n;
      short = omega (arith, short, length-append (front ++ octets) more, length-append front octets);
      grows = subst P (sym (front_and front octets more n (omega (arith, short)))) (grows_twice old mid new front (take n octets) first second.grows);
    }

-- a write of the rest of a piece goes on, as `octets[sent..]` is written
pub grows_on : (old mid new : Option (List ℕ)) (sent n : ℕ) (octets : List ℕ)
    → Grows old mid (take sent octets)
    → Grows mid new (take n (take (length octets - sent) (drop sent octets)))
    → Grows old new (take (sent + n) octets)
grows_on old mid new sent n octets first second =
    let P : List ℕ → Type 0 = λ xs. Grows old new xs in
    let Q : List ℕ → Type 0 = λ xs. Grows mid new (take n xs) in
    subst P (sym (take-add sent n octets))
    (grows_twice old mid new (take sent octets) (take n (drop sent octets)) first (subst Q (take_rest octets sent) second))
