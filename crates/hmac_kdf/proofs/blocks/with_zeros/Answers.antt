use Rattle.std.proofs.Common.{◌≡◌, ℕ, ◌-◌, List, ◌++◌, length, drop}
use Rattle.std.proofs.{Math.ListN.replicate, lemmas.List.drop-replicate}
use Rattle.hmac_kdf.proofs.blocks.with_zeros.Goals as goal

-- octets written over the front of a block of zeros
zeros_behind : (octets copied : List ℕ) → copied ≡ octets → copied ++ drop (length octets) (replicate 64 0) ≡ octets ++ replicate (64 - length octets) 0
zeros_behind octets copied e = rw (e, drop-replicate {X = ℕ} (length octets) 64 0)

pub returns : goal.returns
returns c = zeros_behind c.args.octets.now c.copy_from_slice.new.self c.copy_from_slice.ensures.after
