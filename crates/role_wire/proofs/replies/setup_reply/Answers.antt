use Rattle.std.proofs.Common.{ap, ◌∙◌}
use Rattle.rec_base.specs.BigEndian.{octets_of}
use Rattle.role_wire.specs.{Frame.framed, Reply.reply_spelling}
use Rattle.role_wire.proofs.replies.setup_reply.Goals as goal

pub returns-clause-octets : goal.returns-clause-octets
unfolding framed octets_of
returns-clause-octets c = c.reply_frame.ensures ∙ ap reply_spelling c.of.ensures
