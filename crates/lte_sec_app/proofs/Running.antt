-- What is so of a command that reads a text, at each status.
use Rattle.std.proofs.Common.{◌≡◌, ℕ, ◌<◌, Some, List, length, inl, inr, refl, sym, subst, arith}
use Rattle.std.specs.Option.{IfSome}
use Rattle.edge_io.specs.{Told.Told, Octets.Grows}
use Rattle.lte_sec_app.specs.declared.status.Status.{Status}
use Rattle.lte_sec_app.specs.declared.status.Status.TheVariants.{Done, Memory, Refused, ReadFault, WriteFault, Coincidence, TooLong}
use Rattle.lte_sec_app.specs.Run.{Output, most_octets, Answers, CommandAt, CommandIsComplete, WhereRun}

-- what holds of a text holds at each status
pub where_run : (status : Status) (holds : Type 0) → holds → WhereRun holds status
where_run Done holds it = it
where_run Coincidence holds it = it
where_run status holds it = tt

-- the answer to known octets
known : (output : List ℕ → Output) (ends : Status) (octets : List ℕ) (input out out' : Told)
    → input.left ≡ Some octets
    → IfSome input.left (λ o. Answers output ends o out out')
    → (ends ≡ (output octets).ends) × Grows out.written out'.written (output octets).text
known output ends octets input out out' left answers =
    let a = subst (λ o. IfSome o (λ o'. Answers output ends o' out out')) left answers in (sym a.status, a.written)

pub complete : (output : List ℕ → Output) (status : Status) (input input' out out' : Told)
    → CommandAt output status input input' out out'
    → CommandIsComplete output status input input' out out'
complete output Done input input' out out' at octets left within read write = inl (known output Done octets input out out' left at.1)
complete output Refused input input' out out' at octets left within read write = inl (known output Refused octets input out out' left at.1)
complete output Coincidence input input' out out' at octets left within read write = inl (known output Coincidence octets input out out' left at.1)
complete output Memory input input' out out' at octets left within read write = inr refl
complete output ReadFault input input' out out' at octets left within read write = absurd (read at.0)
complete output WriteFault input input' out out' at octets left within read write = absurd (write at.0)
complete output TooLong input input' out out' at octets left within read write =
    let long = subst (λ o. IfSome o (λ o'. most_octets < length o')) left at.1 in absurd (omega (arith, long, within))
complete output status input input' out out' at octets left within read write = absurd at
