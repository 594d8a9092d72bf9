-- The chain of a phone that C holds (TS 33.401 7.2.8.4.4).
use Rattle.std.specs.Prelude.{ℕ, ◌&&◌, nat_le, Bool, List}
use Rattle.annex_a_keys.specs.Cell.{greatest_earfcn, greatest_pci}
use Rattle.key_model.specs.HandoverLines.{PhoneKeys, nh_after, phone_line, steps_to}
use Rattle.key_model.specs.Reading.{octet_reading}
use Rattle.lte_sec_c.specs.{declared.phone.PhoneContext.PhoneContext, declared.phone.ReachedKeys.ReachedKeys}

-- an NCC of a phone and one that it is given, of 3 bits, and a cell in range
abbrev pub is_reaching : PhoneContext → ℕ → ℕ → ℕ → Bool
is_reaching p ncc pci earfcn =
    nat_le p.ncc 7 && (nat_le ncc 7 && (nat_le pci greatest_pci && nat_le earfcn greatest_earfcn))

-- the keys of the phone
abbrev pub phone_keys_in : PhoneContext → PhoneKeys (List ℕ) ℕ
phone_keys_in p = record { root = p.kasme; number = p.ncc; sync = p.sync; active = p.active }

-- what it comes to: the NH steps, the NH and KeNB*
abbrev pub reached_by : PhoneContext → ℕ → ℕ → ℕ → ReachedKeys
reached_by p ncc pci earfcn = record {
  sync = nh_after octet_reading p.kasme p.sync (steps_to p.ncc ncc);
  star = (phone_line octet_reading (phone_keys_in p) ncc pci earfcn).key;
  steps = steps_to p.ncc ncc;
}
