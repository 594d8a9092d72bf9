use Rattle.std.proofs.Common.{◌∙◌, sym, ap}
use Rattle.rec_base.specs.BigEndian.{octets_of}
use Rattle.rec_base.proofs.Numbers.{octets_of-is}
use Rattle.scenario_file.proofs.journey.Journey.text.Goals as goal

pub returns-clause-text : goal.returns-clause-text
returns-clause-text c = c.to_be_bytes.ensures ∙ sym (octets_of-is 8 _) ∙ ap (λ j. octets_of 8 j.state) c.draw.ensures.journey
