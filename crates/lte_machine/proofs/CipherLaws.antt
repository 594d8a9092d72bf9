-- What a MAC and a ciphering must do, so that what is sent opens.
use Rattle.std.specs.Prelude.{◌≡◌, ℕ, List, length}
use Rattle.lte_machine.specs.{Wire.KeyUse, Wire.Ciphering, Ciphers.Ciphers}

-- what a MAC and a ciphering must do: a MAC has four octets, a ciphered text has the length of the text, and ciphering
-- twice gives the text (TS 33.401 B.1.1 and B.2.1)
pub record AreCiphers {K : Type 0} (c : Ciphers K) : Type 0 where
  pub mac_length : (u : KeyUse K) (text : List ℕ) → length (c.mac u text) ≡ 4
  pub crypt_length : (e : Ciphering K) (text : List ℕ) → length (c.crypt e text) ≡ length text
  pub crypt_twice : (e : Ciphering K) (text : List ℕ) → c.crypt e (c.crypt e text) ≡ text
