-- Records and packets open to their texts under the uses that they were sealed with.
use Rattle.std.proofs.Common.{◌≡◌, ℕ, Bool, true, List, Option, Some, None, refl, arith}
use Rattle.std.specs.Prelude.{◌==◌, ◌&&◌}
use Rattle.std.proofs.lemmas.Bool.Decides.{nat_tests}
use Rattle.rec_base.specs.declared.uses.Dir.{Dir}
use Rattle.rec_base.specs.declared.uses.Dir.TheVariants.{Up, Down}
use Rattle.alg_choice.specs.Algs.{identity_of}
use Rattle.key_model.specs.Term.{Term}
use Rattle.lte_machine.specs.{Bearers.Srb, Bearers.Drb, Ciphers.Ciphers, Ciphers.drb_octets}
use Rattle.lte_machine.specs.Wire.{KeyUse, Ciphering, Outgoing, SealedNas, SealedRrc, UserPacket}
use Rattle.lte_machine.specs.Opening.{Opening, OpensNas, OpensSrb, OpensDrb, Outcome, Opened, open_by_uses, open_case, judged, same_dir, same_uses, same_ciphering}
use Rattle.lte_machine.proofs.{Opens.drb_opens, CipherLaws.AreCiphers}
use Rattle.lte_properties.proofs.SameKeys.{IsReflexive}

-- an opener that opens what comes from its sender under the uses that it was sealed with, and a packet by its octets
pub record OpensBack (c : Ciphers Term) (opener : Opening Term → List ℕ → Option (Outgoing Term ℕ) → Outcome) : Type 0 where
  pub nas : (u : KeyUse Term) (e : Option (Ciphering Term)) (pdu : List ℕ) (dir : Dir) (header : ℕ) (text : List ℕ)
      → opener (OpensNas u e) pdu (Some (SealedNas dir header u e text)) ≡ Opened text
  pub srb : (u : KeyUse Term) (e : Option (Ciphering Term)) (pdu : List ℕ) (dir : Dir) (station air : ℕ) (srb : Srb) (text : List ℕ)
      → opener (OpensSrb u e) pdu (Some (SealedRrc dir station air srb u e text)) ≡ Opened text
  pub drb : (e : Ciphering Term) (dir : Dir) (station air : ℕ) (drb : Drb) (text : List ℕ)
      → opener (OpensDrb e) (drb_octets c e text) (Some (UserPacket dir station air drb e text)) ≡ Opened text

dir_itself : (d : Dir) → same_dir d d ≡ true
dir_itself Up = refl
dir_itself Down = refl

number_itself : (n : ℕ) → (n == n) ≡ true
number_itself n = grind (arith, nat_tests)

module _ (same : Term → Term → Bool) (itself : IsReflexive same) where
  use_itself : (u : KeyUse Term) → same_uses same u u ≡ true
  use_itself u = λ j. itself u.key j && number_itself u.count j && number_itself u.bearer j && dir_itself u.dir j

  ciphering_itself : (e : Option (Ciphering Term)) → same_ciphering same e e ≡ true
  ciphering_itself None = refl
  ciphering_itself (Some e) = λ j. use_itself e.under j && number_itself (identity_of e.eea) j

  -- the opener by uses is one
  pub by_uses_open : (c : Ciphers Term) → AreCiphers c → OpensBack c (open_by_uses same c)
  by_uses_open c good = record {
    nas = λ u e pdu dir header text. λ j. open_case c (OpensNas u e) pdu (judged (use_itself u j) (ciphering_itself e j) text);
    srb = λ u e pdu dir station air srb text. λ j. open_case c (OpensSrb u e) pdu (judged (use_itself u j) (ciphering_itself e j) text);
    drb = λ e dir station air drb text. drb_opens c good e e text refl;
  }
