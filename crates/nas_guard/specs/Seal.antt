-- A security protected NAS message (TS 24.301 4.4 and 9.1).
use Rattle.std.specs.Prelude.{ℕ, ◌+◌, ◌*◌, ◌%◌, ◌==◌, ◌||◌, Bool, if◌then◌else◌, List, ◌∷◌, ◌++◌}
use Rattle.rec_base.specs.declared.uses.Dir.{Dir}
use Rattle.nas_guard.specs.{Cipher.ciphered, Cipher.mac_of, Keys.Keys}

-- whether a security header type has the message ciphered (9.3.1)
abbrev pub is_ciphered : ℕ → Bool
is_ciphered header = (header == 2) || (header == 4)

-- BEARER of every NAS message (TS 33.401 8.1)
abbrev pub nas_bearer : ℕ
nas_bearer = 0

-- the text as sent of a text, and the text of a text as sent (4.4.5)
unfoldable pub sent_text : Keys (List ℕ) → ℕ → ℕ → Dir → List ℕ → List ℕ
sent_text keys header count dir text =
    if is_ciphered header then ciphered keys.algs.eea keys.enc count nas_bearer dir text else text

-- what the MAC covers: the sequence number, which is the lowest octet of COUNT, and the text as sent
-- (4.4.3.3)
abbrev pub covered : Keys (List ℕ) → ℕ → ℕ → Dir → List ℕ → List ℕ
covered keys header count dir text = count % 256 ∷ sent_text keys header count dir text

-- the first octet: the header type in the high half, and the protocol discriminator 7 in the low one
-- (9.2 and 9.3.1)
abbrev pub first_octet : ℕ → ℕ
first_octet header = 16 * header + 7

-- the octets of a protected message: the first octet, the MAC, and what the MAC covers (9.1)
unfoldable pub sealed : Keys (List ℕ) → ℕ → ℕ → Dir → List ℕ → List ℕ
sealed keys header count dir text =
    let message = covered keys header count dir text in
    first_octet header ∷ mac_of keys.int count nas_bearer dir message ++ message
