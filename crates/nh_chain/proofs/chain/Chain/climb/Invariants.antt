use Rattle.std.proofs.Common.{◌≡◌, All, map}
use Rattle.arrayvec.specs.ArrayVec.{array_vec_len}
use Rattle.hmac_kdf.specs.Kdf.{IsKdfInput}
use Rattle.key_model.specs.{Reading.octet_reading, Derivation.derived_of}
use Rattle.nh_chain.specs.{Chain.climbed, Chain.nhs_made, Climb.nh_reached}
use Rattle.nh_chain.proofs.chain.Chain.climb.Given as goal

abbrev pub invariant-loop : goal.invariant-loop
invariant-loop l =
    (l.self ≡ climbed octet_reading l.fn.self l.counter)
    × (l.reached ≡ nh_reached octet_reading l.fn.self.root l.fn.self.sync l.counter)
    × (l.made.items ≡ map derived_of (nhs_made octet_reading l.fn.self.root l.fn.self.sync l.counter))
    × (array_vec_len l.made ≡ l.counter)
    × All (λ d. IsKdfInput d.input) l.made.items
