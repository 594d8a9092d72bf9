-- The octets of a key.
use Rattle.std.specs.Prelude.{ℕ, Bool, List}
use Rattle.std.specs.Str.{bytes_eq}
use Rattle.hmac_kdf.specs.{declared.input.KdfInput.KdfInput, Kdf.kdf}
use Rattle.key_model.specs.Term.{Term, Root, Kenb, Nh, Star, Alg}

-- a root's octets as given; of any other key the KDF of the key that it comes from, and of its input (Annex A)
abbrev pub value_of : Term → List ℕ
value_of (Root r octets) = octets
value_of (Kenb r n) = kdf (value_of r) (KdfInput.Kenb n)
value_of (Nh r t) = kdf (value_of r) (KdfInput.Nh (value_of t))
value_of (Star t pci earfcn) = kdf (value_of t) (KdfInput.Star pci earfcn)
value_of (Alg t type id) = kdf (value_of t) (KdfInput.Alg type id)

-- whether two keys have the same octets
abbrev pub same_value : Term → Term → Bool
same_value t u = bytes_eq (value_of t) (value_of u)
