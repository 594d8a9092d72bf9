use Rattle.role_wire.proofs.FrameLaws.{written_again}
use Rattle.role_wire.proofs.writing.input_frame.Goals as goal

pub returns-clause-again : goal.returns-clause-again
returns-clause-again c = λ role first rest is.
    written_again role first c.args.frame.now c.written.result rest c.written.ensures.spelled
    c.written.ensures.within is
