-- What stays of an object that a call uses on one side alone.
use Rattle.std.specs.Prelude.{◌≡◌, IsTrue}
use Rattle.edge_io.specs.{Told.Told, Cause.NoCountFell}

-- of one that is used as a source
pub record UsedAsSource (before after : Told) : Type 0 where
  pub ready : IsTrue after.ready
  pub written : after.written ≡ before.written
  pub counts : NoCountFell before after

-- And of one that is used as a sink. Each piece that it was given is whole lines, and none is empty, where it was so of each before.
pub record UsedAsSink (before after : Told) : Type 0 where
  pub ready : IsTrue after.ready
  pub left : after.left ≡ before.left
  pub most : after.most ≡ before.most
  pub ended : after.ended ≡ before.ended
  pub lines : after.lines ≡ before.lines
  pub counts : NoCountFell before after
