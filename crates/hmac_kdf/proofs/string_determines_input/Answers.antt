use Rattle.hmac_kdf.proofs.KdfLemmas.{one_input}
use Rattle.hmac_kdf.proofs.string_determines_input.Goals as goal

pub returns : goal.returns
returns c = one_input
