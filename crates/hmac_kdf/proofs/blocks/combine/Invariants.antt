use Rattle.std.proofs.Common.{◌≡◌, ◌++◌, take, drop}
use Rattle.hmac_kdf.specs.Hmac.{padded_with}
use Rattle.hmac_kdf.proofs.blocks.combine.Given as goal

abbrev pub invariant-loop-octet : goal.invariant-loop-octet
invariant-loop-octet l = l.octets ≡ padded_with l.pad (take l.octet-index l.initial.octets) ++ drop l.octet-index l.initial.octets
