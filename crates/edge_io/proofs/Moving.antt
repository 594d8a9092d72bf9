-- How the known octets of a connection change over several calls.
use Rattle.std.proofs.Common.{◌≡◌, ℕ, ◌+◌, ◌-◌, ◌≤◌, Option, List, ◌++◌, take, drop, length, ap, sym, subst, ◌∙◌, arith, length-take}
use Rattle.std.proofs.lemmas.List.{take_rest, take_at, drop_at, take-append-le}
use Rattle.std.proofs.{Math.Seq.take-add, KnownBytes.Appends-trans, KnownBytes.Consumes-trans}
use Rattle.std.specs.Io.KnownBytes.{Appends, Consumes}
use borrow.Rule.Slice.PartMut.{put_mid, post_of}

-- a write of the rest of octets goes on, as `octets[sent..]` is written
pub appends_on : (a b c : Option (List ℕ)) (sent n : ℕ) (octets : List ℕ)
    → Appends a b (take sent octets)
    → Appends b c (take n (take (length octets - sent) (drop sent octets)))
    → Appends a c (take (sent + n) octets)
appends_on a b c sent n octets first second =
    let P : List ℕ → Type 0 = λ xs. Appends a c xs in
    let Q : List ℕ → Type 0 = λ xs. Appends b c (take n xs) in
    subst P (sym (take-add sent n octets))
    (Appends-trans a b c (take sent octets) (take n (drop sent octets)) first (subst Q (take_rest octets sent) second))

-- a read into the rest of a buffer joins what it held, as `buf[filled..]` is written
pub consumes_on : (a b c : Option (List ℕ)) (filled n : ℕ) (buf fresh : List ℕ)
    → filled ≤ length buf
    → n ≤ length fresh
    → Consumes a b (take filled buf)
    → Consumes b c (take n fresh)
    → Consumes a c (take (filled + n) (put_mid filled (length buf - filled) buf fresh))
consumes_on a b c filled n buf fresh within short first second =
    let after : List ℕ = post_of filled (length buf - filled) buf in
    let size : length (take filled buf) ≡ filled = omega (arith, length-take filled buf) in
    let parts : take (filled + n) (take filled buf ++ (fresh ++ after)) ≡ take filled buf ++ take n fresh =
    take-add filled n (take filled buf ++ (fresh ++ after))
    ∙ rw (take_at (take filled buf) (fresh ++ after) filled size, drop_at (take filled buf) (fresh ++ after) filled size)
    (ap (λ (xs : List ℕ). take filled buf ++ xs) (take-append-le n fresh after short)) in
    let P : List ℕ → Type 0 = λ xs. Consumes a c xs in
    subst P (sym parts) (Consumes-trans a b c (take filled buf) (take n fresh) first second)
