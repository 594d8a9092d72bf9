-- A reader of a body by a layout: what it reads is spelled there, and what is spelled there it reads.
use Rattle.std.proofs.Common.{◌≡◌, ℕ, List, ◌∷◌, drop, Result, Ok, refl, sym, ap, subst, ◌∙◌}
use Rattle.rec_base.proofs.Numbers.{AreOctets}
use Rattle.rec_fields.specs.Layout.{Layout, Values, read_by, spelled_by}
use Rattle.rec_fields.proofs.Fields.{ok_is}
use Rattle.rec_fields.proofs.Layouts.{AreFields, found, again, FitBy}
use Rattle.role_wire.specs.Field.{ending}
use Rattle.role_wire.proofs.FieldLaws.{Anywhere, ending_is}

-- A reader of what stands behind a kind.
pub record IsForm {A : Type 0} (read : List ℕ → Result A ℕ) (spell : A → List ℕ) (Fits : A → Type 0) : Type 0 where
  pub takes : (octets : List ℕ) (x : A) → AreOctets octets → read octets ≡ Ok x → (drop 1 octets ≡ spell x) × Fits x
  pub again : (kind : ℕ) (x : A) → Fits x → read (kind ∷ spell x) ≡ Ok x

-- one whose grammar is a layout
abbrev pub IsLaidOut : {A : Type 0} → (List ℕ → Result A ℕ) → (l : Layout ℕ) → (A → Values l) → Type 0
IsLaidOut read l back = IsForm read (λ x. spelled_by l (back x)) (λ x. FitBy l (back x))

pub of_layout : {A : Type 0} (l : Layout ℕ)
    → AreFields Anywhere l
    → (make : Values l → A) (back : A → Values l)
    → ((vs : Values l) → back (make vs) ≡ vs)
    → ((x : A) → make (back x) ≡ x)
    → IsLaidOut (λ octets. read_by ending l octets 1 (λ vs. Ok (make vs))) l back
of_layout l law make back there here = record {
  takes = λ octets x fit e.
      let t = found ending_is l law octets 1 (λ vs. Ok (make vs)) x fit tt e in
      let is : t.0 ≡ back x = sym (there t.0) ∙ ap back (ok_is (make t.0) x t.1) in
      subst (λ vs. (drop 1 octets ≡ spelled_by l vs) × FitBy l vs) is (t.2, t.3);
  again = λ kind x fits.
      again ending_is l law (kind ∷ spelled_by l (back x)) 1 (λ vs. Ok (make vs)) (back x) fits refl ∙ ap Ok (here x);
}
