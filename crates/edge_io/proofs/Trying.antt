-- A call that is made again while it is interrupted.
use Rattle.std.proofs.Common.{◌≡◌, ℕ, suc, ◌+◌, Result, Err, refl, subst, arith}
use Rattle.std.specs.{IoError.error_kind, declared.io.Error.Error, declared.io.ErrorKind.TheVariants.Interrupted}
use Rattle.edge_io.specs.Tries.{Interruptions}

pub interruptions_none : {X : Type 0} (answers : X → Result ℕ Error → X → Type 0) (x : X) → Interruptions answers 0 x x
unfolding Interruptions
interruptions_none answers x = refl

pub interruptions_more : {X : Type 0} (answers : X → Result ℕ Error → X → Type 0) (n : ℕ)
    (before mid after : X) (e : Error)
    → Interruptions answers n before mid
    → answers mid (Err e) after
    → error_kind e ≡ Interrupted
    → Interruptions answers (n + 1) before after
unfolding Interruptions
interruptions_more answers n before mid after e first last kind =
    let next : suc n ≡ n + 1 = omega arith in
    subst (λ k. Interruptions answers k before after) next (mid, first, record { error = e; answered = last; kind = kind })
