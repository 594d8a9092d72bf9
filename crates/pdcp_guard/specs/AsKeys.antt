-- The keys of the access stratum (TS 33.401 6.2).
use Rattle.std.specs.Prelude.{List, [], ◌∷◌}
use Rattle.alg_choice.specs.{declared.algs.Algs.Algs, Algs.identity_of, Algs.eia2_identity}
use Rattle.annex_a_keys.specs.{AlgType.distinguisher, declared.alg_type.AlgType.AlgType}
use Rattle.annex_a_keys.specs.declared.alg_type.AlgType.TheVariants.{RrcEnc, RrcInt, UpEnc}
use Rattle.key_model.specs.{Reading.Reading, Derivation.Derivation, Derivation.alg_made}

-- KRRCenc, KRRCint and KUPenc, for keys K, and the chosen algorithms
pub record AsKeys (K : Type 0) : Type 0 where
  pub rrc_enc : K
  pub rrc_int : K
  pub up_enc : K
  pub algs : Algs

-- the keys read in another way
abbrev pub map_as_keys : {K L : Type 0} → (K → L) → AsKeys K → AsKeys L
map_as_keys f keys = record {
  rrc_enc = f keys.rrc_enc;
  rrc_int = f keys.rrc_int;
  up_enc = f keys.up_enc;
  algs = keys.algs;
}

-- the key of RRC encryption, of RRC integrity, or else that of user plane encryption
abbrev pub as_key : {K : Type 0} → AsKeys K → AlgType → K
as_key keys RrcEnc = keys.rrc_enc
as_key keys RrcInt = keys.rrc_int
as_key keys other = keys.up_enc

-- the keys of a KeNB: the encryption keys for the identity of the chosen algorithm, the integrity key for
-- that of 128-EIA2 (A.7)
abbrev pub as_keys_of : {K C : Type 0} → Reading K C → K → Algs → AsKeys K
as_keys_of r kenb algs = record {
  rrc_enc = r.alg kenb (distinguisher RrcEnc) (identity_of algs.eea);
  rrc_int = r.alg kenb (distinguisher RrcInt) eia2_identity;
  up_enc = r.alg kenb (distinguisher UpEnc) (identity_of algs.eea);
  algs = algs;
}

-- their derivations, by rising type (A.7)
abbrev pub as_derivations : {K C : Type 0} → Reading K C → K → Algs → List (Derivation K)
as_derivations r kenb algs =
    alg_made r kenb (distinguisher RrcEnc) (identity_of algs.eea)
    ∷ alg_made r kenb (distinguisher RrcInt) eia2_identity
    ∷ alg_made r kenb (distinguisher UpEnc) (identity_of algs.eea)
    ∷ []
