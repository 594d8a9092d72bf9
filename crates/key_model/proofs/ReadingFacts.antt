-- The reading in terms is carried to the reading in octets by values and NCCs.
use Rattle.std.proofs.Common.{◌≡◌, Bool, ◌==◌, refl, ap, arith}
use Rattle.std.specs.Prelude.{◌&&◌}
use Rattle.key_model.specs.{Chain.ncc_of, Value.value_of}
use Rattle.key_model.specs.Use.{Use, map_use, same_use}
use Rattle.key_model.specs.Reading.{Reading, Carries, octet_reading, term_reading}

pub values_carry : Carries term_reading octet_reading value_of ncc_of
values_carry = record {
  kenb = λ key count. refl;
  nh = λ key sync. refl;
  star = λ key pci earfcn. refl;
  alg = λ key type id. refl;
  first = refl;
  plus = λ number steps. omega arith;
  ncc = λ number. refl;
  same = λ a b. refl;
}

-- uses are compared alike in a reading and in one that it is carried to
pub same_use-map : {K C L D Dir : Type 0} (r : Reading K C) (q : Reading L D) (f : K → L) (g : C → D)
    → Carries r q f g
    → (same_dir : Dir → Dir → Bool) (u v : Use K Dir)
    → same_use q.same same_dir (map_use f u) (map_use f v) ≡ same_use r.same same_dir u v
same_use-map r q f g c same_dir u v =
    ap (λ b. b && (u.count == v.count) && (u.bearer == v.bearer) && same_dir u.dir v.dir) (c.same u.key v.key)
