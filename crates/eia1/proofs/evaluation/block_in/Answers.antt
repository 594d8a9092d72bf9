use Rattle.std.proofs.Common.{◌∙◌}
use Rattle.eia1.proofs.BlockLemmas.{block_in-is, number_of_eight}
use Rattle.eia1.proofs.evaluation.block_in.Goals as goal

pub returns-then-place-text : goal.returns-then-place-text
returns-then-place-text c =
    c.from_be_bytes.ensures ∙ number_of_eight _ _ _ _ _ _ _ _ ∙ block_in-is c.args.text.now c.args.i

pub returns-else-place-text : goal.returns-else-place-text
returns-else-place-text c =
    c.from_be_bytes-else-place-text.ensures
    ∙ rw (
      c.octet_in.ensures,
      c.octet_in-else-place-text.ensures,
      c.octet_in-else-place-text-2.ensures,
      c.octet_in-else-place-text-3.ensures,
      c.octet_in-else-place-text-4.ensures,
      c.octet_in-else-place-text-5.ensures,
      c.octet_in-else-place-text-6.ensures,
      c.octet_in-else-place-text-7.ensures,
    )
    (number_of_eight _ _ _ _ _ _ _ _ ∙ block_in-is c.args.text.now c.args.i)
