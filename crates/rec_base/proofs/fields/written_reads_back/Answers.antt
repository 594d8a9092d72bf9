use Rattle.rec_base.proofs.Numbers.{number_of-octets_of}
use Rattle.rec_base.proofs.fields.written_reads_back.Goals as goal

pub returns : goal.returns
returns c = number_of-octets_of
