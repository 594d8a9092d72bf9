-- The lines of the handover table in any reading (TS 33.401 7.2.8).
use Rattle.std.specs.Prelude.{ℕ, zero, suc, ◌-◌, ◌≡◌}
use Rattle.key_model.specs.{Term.Term, Chain.nh, Least.least, Reading.Reading, HandoverTable.NumberedKey}

-- a key and its number, each read in another way
abbrev pub map_numbered : {K C L D : Type 0} → (K → L) → (C → D) → NumberedKey K C → NumberedKey L D
map_numbered f g x = record { key = f x.key; number = g x.number }

-- KeNB at the trigger (7.2.8.1.1)
abbrev pub initial_line : {K C : Type 0} → Reading K C → K → ℕ → NumberedKey K C
initial_line r root count = record { key = r.kenb root count; number = r.first }

-- the core's next pair, after the key of the chain that it keeps (7.2.8.4.2, 7.2.8.4.3)
abbrev pub pair_line : {K C : Type 0} → Reading K C → K → NumberedKey K C → NumberedKey K C
pair_line r root kept = record { key = r.nh root kept.key; number = r.plus kept.number 1 }

-- a station's KeNB* for a cell, from a pair or from its active KeNB (7.2.8.4.1 to 7.2.8.4.3)
abbrev pub star_line : {K C : Type 0} → Reading K C → NumberedKey K C → ℕ → ℕ → NumberedKey K C
star_line r base pci earfcn = record { key = r.star base.key pci earfcn; number = base.number }

-- KeNB* for a cell, of a KeNB that a change of the key begins with: the chain starts again (7.2.9.2)
abbrev pub change_line : {K C : Type 0} → Reading K C → K → ℕ → ℕ → NumberedKey K C
change_line r kenb pci earfcn = record { key = r.star kenb pci earfcn; number = r.first }

-- what a phone keeps: KASME, its chain number, the key of that number as SYNC-input, the active KeNB (7.2.8.4.4)
pub record PhoneKeys (K C : Type 0) : Type 0 where
  pub root : K
  pub number : C
  pub sync : K
  pub active : K

-- a phone's keys, each read in another way
abbrev pub map_phone : {K C L D : Type 0} → (K → L) → (C → D) → PhoneKeys K C → PhoneKeys L D
map_phone f g phone =
    record { root = f phone.root; number = g phone.number; sync = f phone.sync; active = f phone.active }

-- the keys of a phone with number p and active KeNB t
abbrev pub phone_keys : Term → ℕ → Term → ℕ → PhoneKeys Term ℕ
phone_keys r n t p = record { root = r; number = p; sync = nh r n p; active = t }

-- the NH so many steps on from a SYNC-input (A.4)
abbrev pub nh_after : {K C : Type 0} → Reading K C → K → K → ℕ → K
nh_after r root sync zero = sync
nh_after r root sync (suc steps) = r.nh root (nh_after r root sync steps)

-- the NH steps from a phone's own NCC to the one received (7.2.8.4.4)
abbrev pub steps_to : ℕ → ℕ → ℕ
steps_to own ncc = least own ncc 8 - own

-- the phone's KeNB* after so many NH steps: horizontal after none, and else vertical (7.2.8.4.4)
abbrev pub key_after : {K C : Type 0} → Reading K C → PhoneKeys K C → ℕ → ℕ → ℕ → NumberedKey K C
key_after r phone zero pci earfcn = record { key = r.star phone.active pci earfcn; number = phone.number }
key_after r phone (suc steps) pci earfcn =
    let reached = nh_after r phone.root phone.sync (suc steps) in
    record { key = r.star reached pci earfcn; number = r.plus phone.number (suc steps) }

-- a phone on a command with this NCC (7.2.8.4.4)
abbrev pub phone_line : {K C : Type 0} → Reading K C → PhoneKeys K C → ℕ → ℕ → ℕ → NumberedKey K C
phone_line r phone ncc pci earfcn = key_after r phone (steps_to (r.ncc phone.number) ncc) pci earfcn

-- f on keys and g on chain numbers carry each line from the reading r to the reading q
pub record CarriesLines {K C L D : Type 0} (r : Reading K C) (q : Reading L D) (f : K → L) (g : C → D) : Type 0 where
  pub initial : (root : K) (count : ℕ) →
      map_numbered f g (initial_line r root count) ≡ initial_line q (f root) count
  pub pair : (root : K) (kept : NumberedKey K C) →
      map_numbered f g (pair_line r root kept) ≡ pair_line q (f root) (map_numbered f g kept)
  pub star : (base : NumberedKey K C) (pci earfcn : ℕ) →
      map_numbered f g (star_line r base pci earfcn) ≡ star_line q (map_numbered f g base) pci earfcn
  pub change : (kenb : K) (pci earfcn : ℕ) →
      map_numbered f g (change_line r kenb pci earfcn) ≡ change_line q (f kenb) pci earfcn
  pub phone : (phone : PhoneKeys K C) (ncc pci earfcn : ℕ) →
      map_numbered f g (phone_line r phone ncc pci earfcn) ≡ phone_line q (map_phone f g phone) ncc pci earfcn
