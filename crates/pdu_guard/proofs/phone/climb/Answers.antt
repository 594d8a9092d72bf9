use Rattle.std.proofs.Common.{ap, ◌∙◌, add-one}
use Rattle.key_model.specs.Reading.{octet_reading}
use Rattle.pdu_guard.proofs.phone.climb.Goals as goal

pub loop-preserved : goal.loop-preserved
loop-preserved c = rw (add-one c.loop.counter) (c.nh_next-nh.ensures.value ∙ ap (octet_reading.nh c.keyed-kasme.result) c.loop.invariant)
