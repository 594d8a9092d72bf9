use Rattle.std.proofs.{Common.refl, Math.Nat.div-one}
use Rattle.rec_base.specs.BigEndian.{octets_of}
use Rattle.rec_fields.proofs.writing.put_u16.Goals as goal

pub returns-clause-octets : goal.returns-clause-octets
unfolding octets_of
returns-clause-octets g c = rw (c.append.ensures, c.to_be_bytes.ensures, div-one) refl
