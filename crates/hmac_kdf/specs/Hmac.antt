-- HMAC of RFC 2104 with SHA-256 of FIPS 180-4, whose blocks have 64 octets.
use Rattle.std.specs.Prelude.{ℕ, ◌-◌, List, ◌++◌, length, map, replicate, nat_lt, bit_xor, if◌then◌else◌}
use Rattle.sha2.specs.Sha256.{sha256}

-- a key longer than a block is hashed (RFC 2104, 2)
abbrev pub short_key : List ℕ → List ℕ
short_key key = if nat_lt 64 (length key) then sha256 key else key

-- the key with zeros up to the block's end (RFC 2104, 2, step 1)
abbrev pub key_block : List ℕ → List ℕ
key_block key = short_key key ++ replicate (64 - length (short_key key)) 0

-- the block with each octet combined with the octet of ipad or opad (RFC 2104, 2, steps 2 and 5)
abbrev pub padded_with : ℕ → List ℕ → List ℕ
padded_with pad block = map (λ octet. bit_xor octet pad) block

-- H(K XOR opad, H(K XOR ipad, text)) (RFC 2104, 2)
unfoldable pub hmac : List ℕ → List ℕ → List ℕ
hmac key text = sha256 (padded_with 0x5c (key_block key) ++ sha256 (padded_with 0x36 (key_block key) ++ text))
