use Rattle.item_keys.proofs.AtItems.{differ_far, parts_far}
use Rattle.item_keys.proofs.laws.keys_differ_exactly_far.Goals as goal

pub returns : goal.returns
returns c = record {
  differ = differ_far c.args.usual.now c.args.here.now (parts_far c.args.usual.now c.requires.promises) (parts_far c.args.here.now c.requires.promises_too);
}
