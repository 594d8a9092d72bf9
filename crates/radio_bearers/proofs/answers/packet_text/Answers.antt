use Rattle.std.proofs.Common.{◌∙◌}
use Rattle.radio_bearers.proofs.Cutting.{cut_is}
use Rattle.radio_bearers.proofs.answers.packet_text.Goals as goal

pub returns : goal.returns
returns c = c.append.ensures ∙ rw (c.new-text.ensures, c.min.ensures) (cut_is 1500 c.args.octets.now)
