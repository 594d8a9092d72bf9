-- The lines of the handover table: in terms they are the table, and readings carry them.
use Rattle.std.proofs.Common.{◌≡◌, ℕ, zero, suc, ◌+◌, ◌-◌, ◌<◌, Bool, true, false, ◌==◌, refl, sym, ◌∙◌, ap, arith, add-zero, add-suc}
use Rattle.std.specs.Prelude.{◌↔◌}
use Rattle.std.proofs.{lemmas.Bool.eq-eqb, lemmas.Bool.Decides.nat_tests}
use Rattle.key_model.specs.Term.{Term, Nh, Star}
use Rattle.key_model.specs.{Chain.nh, Chain.ncc_of, Number.chain_number}
use Rattle.key_model.specs.Reading.{Reading, term_reading_by, Carries}
use Rattle.key_model.specs.HandoverTable.{NumberedKey, key_from_pair, key_from_active, phone_number, key_by_number, key_at_phone}
use Rattle.key_model.specs.HandoverLines.{map_numbered, initial_line, pair_line, star_line, change_line, PhoneKeys, map_phone, phone_keys, nh_after, steps_to, key_after, phone_line, CarriesLines}
use Rattle.key_model.proofs.{LeastFacts.least_from_remainder, LeastFacts.eight_ahead, TermFacts.chain_number_nh, TermFacts.same_number}

-- so many steps on from a key of the chain is the key of so much higher a number
pub nh_after-chain : (same : Term → Term → Bool) (r : Term) (n p steps : ℕ) → nh_after (term_reading_by same) r (nh r n p) steps ≡ nh r n (p + steps)
nh_after-chain same r n p zero = ap (nh r n) (sym (add-zero p))
nh_after-chain same r n p (suc steps) = ap (Nh r) (nh_after-chain same r n p steps) ∙ ap (nh r n) (sym (add-suc p steps))

-- the test of two numbers, where they are known to differ or not
same_or_not : (j p : ℕ) (b : Bool)
    → (j == p) ≡ b
    → (r : Term) (n : ℕ) (t : Term) (pci earfcn : ℕ)
    → key_by_number (j == p) r n t j pci earfcn ≡ key_by_number b r n t j pci earfcn
same_or_not j p b e r n t pci earfcn = ap (λ b. key_by_number b r n t j pci earfcn) e

-- the phone's line in terms is the table's
pub phone_line-terms : (same : Term → Term → Bool) (r : Term) (n : ℕ) (t : Term) (p i pci earfcn : ℕ)
    → phone_line (term_reading_by same) (phone_keys r n t p) (ncc_of i) pci earfcn ≡ key_at_phone r n t p i pci earfcn
phone_line-terms same r n t p i pci earfcn = by_steps (steps_to (ncc_of p) (ncc_of i)) (least_from_remainder p (ncc_of i))
  where
    by_steps : (steps : ℕ)
        → phone_number p (ncc_of i) ≡ p + steps
        → key_after (term_reading_by same) (phone_keys r n t p) steps pci earfcn ≡ key_at_phone r n t p i pci earfcn
    by_steps zero e =
        let stays : phone_number p (ncc_of i) ≡ p = e ∙ add-zero p in
        λ k. record { key = sym (same_or_not _ p true (eq-eqb _ p stays) r n t pci earfcn) k; number = sym stays k }
    by_steps (suc steps) e =
        let moves : (phone_number p (ncc_of i) == p) ≡ false = grind (arith, nat_tests) in
        let climbs = nh_after-chain same r n p (suc steps) ∙ ap (nh r n) (sym e) in
        let key = ap (λ u. Star u pci earfcn) climbs ∙ sym (same_or_not (phone_number p (ncc_of i)) p false moves r n t pci earfcn) in
        λ k. record { key = key k; number = sym e k }

-- a phone fewer than eight steps behind takes the key of the pair, and one that is further behind another key
pub same_key : (r : Term) (n : ℕ) (t : Term) (p i pci earfcn : ℕ)
    → chain_number t ≡ p
    → p < i
    → ((key_at_phone r n t p i pci earfcn).key ≡ (key_from_pair r n i pci earfcn).key) ↔ (i - p < 8)
same_key r n t p i pci earfcn number above = (near, agrees)
  where
    at_test : (b : Bool)
        → (phone_number p (ncc_of i) == p) ≡ b
        → key_by_number b r n t (phone_number p (ncc_of i)) pci earfcn ≡ Star (nh r n i) pci earfcn
        → i - p < 8
    at_test true _ e =
        let base : t ≡ nh r n i = cc in
        let far : p ≡ i = sym number ∙ ap chain_number base ∙ chain_number_nh r n i in
        absurd (omega arith)
    at_test false _ e =
        let base : nh r n (phone_number p (ncc_of i)) ≡ nh r n i = cc in
        (eight_ahead p i (omega arith)).0 (same_number r n _ i base)

    near : (key_at_phone r n t p i pci earfcn).key ≡ (key_from_pair r n i pci earfcn).key → i - p < 8
    near e = at_test (phone_number p (ncc_of i) == p) refl e

    agrees : i - p < 8 → (key_at_phone r n t p i pci earfcn).key ≡ (key_from_pair r n i pci earfcn).key
    agrees few =
        let reached : phone_number p (ncc_of i) ≡ i = (eight_ahead p i (omega arith)).1 few in
        let moves : (phone_number p (ncc_of i) == p) ≡ false = grind (arith, nat_tests) in
        same_or_not (phone_number p (ncc_of i)) p false moves r n t pci earfcn ∙ ap (λ m. Star (nh r n m) pci earfcn) reached

-- a phone on a command of its own number takes the key of its active KeNB
pub same_active_key : (r : Term) (n : ℕ) (t : Term) (p pci earfcn : ℕ) → chain_number t ≡ p → key_at_phone r n t p p pci earfcn ≡ key_from_active t pci earfcn
same_active_key r n t p pci earfcn number =
    let stays : phone_number p (ncc_of p) ≡ p = (eight_ahead p p (omega arith)).1 (omega arith) in
    let here : (phone_number p (ncc_of p) == p) ≡ true = eq-eqb _ p stays in
    λ k. record { key = same_or_not (phone_number p (ncc_of p)) p true here r n t pci earfcn k; number = (stays ∙ sym number) k }

-- the lines are carried where the readings are
module _ {K C L D : Type 0} (r : Reading K C) (q : Reading L D) (f : K → L) (g : C → D) (c : Carries r q f g) where
  pub initial_line-map : (root : K) (count : ℕ) → map_numbered f g (initial_line r root count) ≡ initial_line q (f root) count
  initial_line-map root count = λ k. record { key = c.kenb root count k; number = c.first k }

  pub pair_line-map : (root : K) (kept : NumberedKey K C) → map_numbered f g (pair_line r root kept) ≡ pair_line q (f root) (map_numbered f g kept)
  pair_line-map root kept = λ k. record { key = c.nh root kept.key k; number = c.plus kept.number 1 k }

  pub star_line-map : (base : NumberedKey K C) (pci earfcn : ℕ)
      → map_numbered f g (star_line r base pci earfcn) ≡ star_line q (map_numbered f g base) pci earfcn
  star_line-map base pci earfcn = λ k. record { key = c.star base.key pci earfcn k; number = g base.number }

  pub change_line-map : (kenb : K) (pci earfcn : ℕ) → map_numbered f g (change_line r kenb pci earfcn) ≡ change_line q (f kenb) pci earfcn
  change_line-map kenb pci earfcn = λ k. record { key = c.star kenb pci earfcn k; number = c.first k }

  pub nh_after-map : (root sync : K) (steps : ℕ) → f (nh_after r root sync steps) ≡ nh_after q (f root) (f sync) steps
  nh_after-map root sync zero = refl
  nh_after-map root sync (suc steps) = c.nh root (nh_after r root sync steps) ∙ ap (q.nh (f root)) (nh_after-map root sync steps)

  pub key_after-map : (phone : PhoneKeys K C) (steps pci earfcn : ℕ)
      → map_numbered f g (key_after r phone steps pci earfcn) ≡ key_after q (map_phone f g phone) steps pci earfcn
  key_after-map phone zero pci earfcn = λ k. record { key = c.star phone.active pci earfcn k; number = g phone.number }
  key_after-map phone (suc steps) pci earfcn =
      let key = c.star (nh_after r phone.root phone.sync (suc steps)) pci earfcn
      ∙ ap (λ sync. q.star sync pci earfcn) (nh_after-map phone.root phone.sync (suc steps)) in
      λ k. record { key = key k; number = c.plus phone.number (suc steps) k }

  pub phone_line-map : (phone : PhoneKeys K C) (ncc pci earfcn : ℕ)
      → map_numbered f g (phone_line r phone ncc pci earfcn) ≡ phone_line q (map_phone f g phone) ncc pci earfcn
  phone_line-map phone ncc pci earfcn =
      key_after-map phone (steps_to (r.ncc phone.number) ncc) pci earfcn
      ∙ ap (λ own. key_after q (map_phone f g phone) (steps_to own ncc) pci earfcn) (sym (c.ncc phone.number))

  pub carries_lines : CarriesLines r q f g
  carries_lines = record { initial = initial_line-map; pair = pair_line-map; star = star_line-map; change = change_line-map; phone = phone_line-map }
