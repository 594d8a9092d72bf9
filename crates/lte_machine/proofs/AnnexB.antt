-- The algorithms of Annex B are ciphers, and depend on a key by its octets alone.
use Rattle.std.proofs.Common.{◌≡◌, ℕ, Bool, true, ◌==◌, List, length, Option, Some, None, refl}
use Rattle.std.specs.Bool.{Decides}
use Rattle.std.proofs.lemmas.Bool.Decides.{Decides-and, Decides-eqb}
use Rattle.rec_base.specs.declared.uses.Dir.{Dir}
use Rattle.rec_base.specs.declared.uses.Dir.TheVariants.{Up, Down}
use Rattle.alg_choice.specs.{declared.algs.Eea.Eea, Algs.identity_of}
use Rattle.alg_choice.specs.declared.algs.Eea.TheVariants.{Eea0, Eea2}
use Rattle.ctr_eea2.proofs.CombinedLemmas.{length-eea2_of}
use Rattle.key_model.specs.{Use.map_use, Value.value_of, Value.same_value}
use Rattle.key_model.proofs.TermFacts.{same_value-Decides}
use Rattle.nas_guard.specs.Cipher.{ciphered}
use Rattle.nas_guard.proofs.SealFacts.{ciphered-ciphered, length-mac_of}
use Rattle.lte_machine.specs.Wire.{KeyUse, Ciphering, map_ciphering}
use Rattle.lte_machine.specs.Ciphers.{Ciphers, annex_b, under_keys, ciphered_by}
use Rattle.lte_machine.specs.Opening.{same_dir, same_uses, same_ciphering}
use Rattle.lte_machine.proofs.{Opens.Respects, CipherLaws.AreCiphers, Tests.both_true}

length-ciphered : (eea : Eea) (key : List ℕ) (count bearer : ℕ) (dir : Dir) (text : List ℕ) → length (ciphered eea key count bearer dir text) ≡ length text
unfolding ciphered
length-ciphered Eea0 key count bearer dir text = refl
length-ciphered Eea2 key count bearer dir text = length-eea2_of _ count bearer dir text

pub annex_b_ciphers : AreCiphers annex_b
annex_b_ciphers = record {
  mac_length = λ u text. length-mac_of u.key u.count u.bearer u.dir text;
  crypt_length = λ e text. length-ciphered e.eea e.under.key e.under.count e.under.bearer e.under.dir text;
  crypt_twice = λ e text. ciphered-ciphered e.eea e.under.key e.under.count e.under.bearer e.under.dir text;
}

pub under_keys_ciphers : {K L : Type 0} (f : K → L) (c : Ciphers L) → AreCiphers c → AreCiphers (under_keys f c)
under_keys_ciphers f c good = record {
  mac_length = λ u text. good.mac_length (map_use f u) text;
  crypt_length = λ e text. good.crypt_length (map_ciphering f e) text;
  crypt_twice = λ e text. good.crypt_twice (map_ciphering f e) text;
}

pub same_dir-Decides : (a b : Dir) → Decides (same_dir a b) (a ≡ b)
same_dir-Decides Up Up = (λ _. refl, λ _. refl)
same_dir-Decides Up Down = (λ e. (cc), λ e. (cc))
same_dir-Decides Down Up = (λ e. (cc), λ e. (cc))
same_dir-Decides Down Down = (λ _. refl, λ _. refl)

-- the parts of two uses that are one by a test of keys
pub uses_are : {K : Type 0} (same : K → K → Bool) (u v : KeyUse K) → same_uses same u v ≡ true
    → (same u.key v.key ≡ true) × (u.count ≡ v.count) × (u.bearer ≡ v.bearer) × (u.dir ≡ v.dir)
uses_are same u v e =
    let (((keys, count), bearer), dir) = (Decides-and _ _ (Decides-and _ _
    (Decides-and _ _ (itself (same u.key v.key)) (Decides-eqb u.count v.count)) (Decides-eqb u.bearer v.bearer))
    (same_dir-Decides u.dir v.dir)).0
    e in
    (keys, count, bearer, dir)
  where
    itself : (b : Bool) → Decides b (b ≡ true)
    itself b = (λ e. e, λ e. e)

same_eea : (a b : Eea) → (identity_of a == identity_of b) ≡ true → a ≡ b
same_eea Eea0 Eea0 e = refl
same_eea Eea0 Eea2 e = cc
same_eea Eea2 Eea0 e = cc
same_eea Eea2 Eea2 e = refl

-- what reads a key by something that the test of keys compares
module _ {K L : Type 0} (same : K → K → Bool) (f : K → L) (sound : (a b : K) → same a b ≡ true → f a ≡ f b) (c : Ciphers L) where
  use_is : (u v : KeyUse K) → same_uses same u v ≡ true → map_use f u ≡ map_use f v
  use_is u v e =
      let p = uses_are same u v e in
      λ j. record { key = sound u.key v.key p.0 j; count = p.1 j; bearer = p.2 j; dir = p.3 j }

  crypt_is : (e g : Option (Ciphering K)) → same_ciphering same e g ≡ true → ciphered_by (under_keys f c) e ≡ ciphered_by (under_keys f c) g
  crypt_is None None h = refl
  crypt_is None (Some g) h = cc
  crypt_is (Some e) None h = cc
  crypt_is (Some e) (Some g) h =
      let p = both_true (same_uses same e.under g.under) (identity_of e.eea == identity_of g.eea) h in
      let u = use_is e.under g.under p.0 in
      let a = same_eea e.eea g.eea p.1 in
      λ j text. c.crypt (record { under = u j; eea = a j }) text

  pub respects_by : Respects same (under_keys f c)
  respects_by = record {
    macs = λ u v e. let p = use_is u v e in λ j text. c.mac (p j) text;
    crypts = crypt_is;
  }

-- by values, and by terms
pub values_respect : (c : Ciphers (List ℕ)) → Respects same_value (under_keys value_of c)
values_respect c = respects_by same_value value_of (λ a b. (same_value-Decides a b).0) c
