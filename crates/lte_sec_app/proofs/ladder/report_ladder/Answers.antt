use Rattle.std.proofs.Common.{refl}
use Rattle.lte_sec_app.proofs.Refusing.{ladder_refused}
use Rattle.lte_sec_app.proofs.ladder.report_ladder.Goals as goal

pub returns-in-Memory : goal.returns-in-Memory
returns-in-Memory g c =
    let wrote = c.in-Memory.ensures in
    record {
      text = wrote.output;
      no_refusal = λ memory refused. wrote.no_refusal refl (ladder_refused _ refused);
      sink = record {
        memory = λ memory. wrote.memory refl;
        cause = λ e. cc;
        no_fault = λ differs. wrote.no_fault (λ e. cc);
        used = wrote.out;
      };
    }
