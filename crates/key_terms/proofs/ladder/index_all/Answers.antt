use Rattle.std.proofs.lemmas.Option.{slice_get-get_or}
use Rattle.key_terms.proofs.Lookups.{absent}
use Rattle.key_terms.proofs.ladder.index_all.Goals as goal

pub push-requires : goal.push-requires
push-requires c = record {
  new =
      absent c.loop-number.index c.args.rows.now c.loop-number.number _ c.requires.apart c.loop-number.invariant.0
      c.loop-number.invariant.1 (slice_get-get_or c.args.rows.now c.loop-number.number _ c.loop-number-test.true);
}
