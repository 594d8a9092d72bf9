-- KASME of CK and IK (TS 33.401 A.2).
use Rattle.std.specs.Prelude.{ℕ, List, ◌∷◌, ◌++◌}
use Rattle.hmac_kdf.specs.{Hmac.hmac, Kdf.parameter}

-- the string S: FC, the PLMN identity of the serving network and SQN xor AK, each with its length
unfoldable pub kasme_string : List ℕ → List ℕ → List ℕ
kasme_string plmn sqn_xor_ak = 0x10 ∷ parameter plmn ++ parameter sqn_xor_ak

-- the derived key, where the key is CK and then IK
unfoldable pub kasme_of : List ℕ → List ℕ → List ℕ → List ℕ → List ℕ
kasme_of ck ik plmn sqn_xor_ak = hmac (ck ++ ik) (kasme_string plmn sqn_xor_ak)
