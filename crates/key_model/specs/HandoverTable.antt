-- Who derives which key, and with which chain number (TS 33.401 7.2.8). Everywhere r is the KASME of a connection and
-- n the COUNT of its KeNB.
use Rattle.std.specs.Prelude.{ℕ, ◌+◌, ◌==◌, Bool, true, false}
use Rattle.key_model.specs.Term.{Term, Kenb, Star}
use Rattle.key_model.specs.{Chain.nh, Chain.ncc_of, Number.chain_number, Least.least}

-- a key and its chain number
pub record NumberedKey (K C : Type 0) : Type 0 where
  pub key : K
  pub number : C

-- the key of number i of the chain, as {NH, NCC} pairs hold it (7.2.8.1.1)
abbrev pub chain_key : Term → ℕ → ℕ → NumberedKey Term ℕ
chain_key r n i = record { key = nh r n i; number = i }

-- an active KeNB with its own number (7.2.8.1.1)
abbrev pub active_key : Term → NumberedKey Term ℕ
active_key t = record { key = t; number = chain_number t }

-- the phone on its own trigger with COUNT n, and the core when it connects for that trigger (7.2.8.1.1); the core on a
-- Security Mode Complete with COUNT n while a connection stands, r being the new KASME (7.2.9.2)
abbrev pub initial_key : Term → ℕ → NumberedKey Term ℕ
initial_key r n = record { key = Kenb r n; number = 0 }

-- the core with number c, on a Path Switch Request or a Handover Required (7.2.8.4.2, 7.2.8.4.3)
abbrev pub next_pair : Term → ℕ → ℕ → NumberedKey Term ℕ
next_pair r n c = record { key = nh r n (c + 1); number = c + 1 }

-- a station starting an X2 or intra-station handover with a stored pair of number i: vertical (7.2.8.4.1, 7.2.8.4.2);
-- a target on an S1 Handover Request with the pair of number i (7.2.8.4.3)
abbrev pub key_from_pair : Term → ℕ → ℕ → ℕ → ℕ → NumberedKey Term ℕ
key_from_pair r n i pci earfcn = record { key = Star (nh r n i) pci earfcn; number = i }

-- a station starting one with no stored pair and the active KeNB t: horizontal (7.2.8.4.1, 7.2.8.4.2)
abbrev pub key_from_active : Term → ℕ → ℕ → NumberedKey Term ℕ
key_from_active t pci earfcn = record { key = Star t pci earfcn; number = chain_number t }

-- a station on a change of its key, for the KeNB t that the core sent (7.2.9.2)
abbrev pub changed_key : Term → ℕ → ℕ → NumberedKey Term ℕ
changed_key t pci earfcn = record { key = Star t pci earfcn; number = 0 }

-- the phone on a change of its key, r being the KASME of its NAS context in use (7.2.9.2)
abbrev pub changed_at_phone : Term → ℕ → ℕ → NumberedKey Term ℕ
changed_at_phone r pci earfcn = changed_key (Kenb r 0) pci earfcn

-- the chain number that a phone with number p reaches from an NCC (7.2.8.4.4)
abbrev pub phone_number : ℕ → ℕ → ℕ
phone_number p ncc = least p ncc 8

-- the phone's key: of its active KeNB t where its number stays, and else of the NH of its new number j (7.2.8.4.4)
abbrev pub key_by_number : Bool → Term → ℕ → Term → ℕ → ℕ → ℕ → Term
key_by_number true r n t j pci earfcn = Star t pci earfcn
key_by_number false r n t j pci earfcn = Star (nh r n j) pci earfcn

-- a phone with number p and active KeNB t, on a command with the NCC of number i (7.2.8.4.4)
abbrev pub key_at_phone : Term → ℕ → Term → ℕ → ℕ → ℕ → ℕ → NumberedKey Term ℕ
key_at_phone r n t p i pci earfcn =
    let j = phone_number p (ncc_of i) in
    record { key = key_by_number (j == p) r n t j pci earfcn; number = j }
