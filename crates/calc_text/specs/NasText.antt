-- Whether octets begin as a plain NAS message does.
use Rattle.std.specs.Prelude.{ℕ, ◌/◌, ◌%◌, ◌==◌, ◌&&◌, ◌||◌, Bool, false, List, ◌∷◌}

-- of EMM: security header type 0 and protocol discriminator 7, then a message type that begins with the bits 01 (TS 24.301 9.2, 9.3.1, 9.8)
abbrev pub is_emm : List ℕ → Bool
is_emm (first ∷ kind ∷ rest) = (first == 7) && (kind / 64 == 1)
is_emm text = false

-- of ESM: an EPS bearer identity and protocol discriminator 2, a procedure transaction identity, then a message type that begins with the
-- bits 11 (9.2, 9.3.2, 9.4, 9.8)
abbrev pub is_esm : List ℕ → Bool
is_esm (first ∷ transaction ∷ kind ∷ rest) = (first % 16 == 2) && (kind / 64 == 3)
is_esm text = false

unfoldable pub is_nas : List ℕ → Bool
is_nas text = is_emm text || is_esm text
