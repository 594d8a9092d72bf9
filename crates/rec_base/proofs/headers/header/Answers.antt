use Rattle.std.proofs.{Common.refl, Math.Nat.div-one}
use Rattle.rec_base.specs.{BigEndian.octets_of, Header.header_of}
use Rattle.rec_base.proofs.headers.header.Goals as goal

pub returns : goal.returns
unfolding header_of octets_of
returns c = rw (c.to_be_bytes.ensures, c.direction.ensures.value, div-one) refl
