use Rattle.std.proofs.{Common.get_or, Common.rules, lemmas.List.FromFn.fill_by_all}
use Rattle.std.specs.Int.Bits.{bit_xor}
use Rattle.cmac_eia2.specs.Cmac.{xor_blocks}
use Rattle.cmac_eia2.proofs.blocks.add.Goals as goal

pub returns : goal.returns
unfolding xor_blocks
returns c =
    fill_by_all (λ i. bit_xor (get_or c.args.a i 0) (get_or c.args.b i 0)) c.loop-i.sum 16 0 c.loop-i.invariant.0 (search rules)
