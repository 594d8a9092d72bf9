-- The written machine, over key terms, and the machine in octets, with which the program is to be compared.
use Rattle.std.specs.Prelude.{ℕ, Bool, List, Option, Some, None, option_map, Result, Ok, Err}
use Rattle.rec_base.specs.declared.faults.RecFault.{RecFault}
use Rattle.lte_events.specs.declared.addresses.Address.{Address}
use Rattle.key_model.specs.{Chain.ncc_of, HandoverLines.map_numbered, HandoverTable.NumberedKey, Reading.octet_reading, Reading.term_reading_by, Term.Term, Term.Root, Value.value_of, Value.same_value}
use Rattle.s1x2_rec.specs.{Content.Content, Fields.Fields, Reading.read_core}
use Rattle.lte_machine.specs.Wire.{KeyUse, Outgoing, Between, integrity_of, address_of, map_outgoing}
use Rattle.lte_machine.specs.Ciphers.{Ciphers, under_keys, octets_of, written}
use Rattle.lte_machine.specs.Opening.{Opening, Outcome, open_octets, open_by_uses}
use Rattle.lte_machine.specs.World.{Machine}

-- what the program keeps of a record that was sent: its address, its octets, and its integrity use if it is sealed
pub record Kept : Type 0 where
  pub to : Address
  pub octets : List ℕ
  pub tuple : Option (KeyUse (List ℕ))

abbrev pub kept_of : Ciphers (List ℕ) → Outgoing (List ℕ) ℕ → Kept
kept_of c x = record { to = address_of x; octets = octets_of c written x; tuple = integrity_of x }

abbrev pub tuple_of : Option Kept → Option (KeyUse (List ℕ))
tuple_of None = None
tuple_of (Some x) = x.tuple

-- keys in 32 octets, chain numbers as NCCs; a record on S1 or X2 is read from its octets, and octets open by themselves
abbrev pub machine_in_octets : Ciphers (List ℕ) → Machine (List ℕ) ℕ Kept
machine_in_octets c = record {
  reading = octet_reading;
  root = λ number octets. octets;
  keep = option_map (kept_of c);
  octets = λ x. x.octets;
  address = λ x. x.to;
  content = λ x. read_core x.octets;
  sender = tuple_of;
  opener = λ opening pdu came. open_octets c opening pdu;
}

-- the record on S1 or X2 that was sent
abbrev pub content_of : {K C : Type 0} → Outgoing K C → Result (Content K C) RecFault
content_of (Between to fields key) = Ok (record { fields = fields; key = key })
content_of other = Err RecFault.Short

abbrev pub sender_of : {K C : Type 0} → Option (Outgoing K C) → Option (KeyUse K)
sender_of None = None
sender_of (Some x) = integrity_of x

-- a machine over terms, with any roots, octets, senders and opener
abbrev pub machine_by : (Term → Term → Bool)
    → (ℕ → List ℕ → Term)
    → (Outgoing Term ℕ → List ℕ)
    → (Option (Outgoing Term ℕ) → Option (KeyUse Term))
    → (Opening Term → List ℕ → Option (Outgoing Term ℕ) → Outcome)
    → Machine Term ℕ (Outgoing Term ℕ)
machine_by same root octets sender opener = record {
  reading = term_reading_by same;
  root = root;
  keep = λ x. x;
  octets = octets;
  address = address_of;
  content = content_of;
  sender = sender;
  opener = opener;
}

-- by these ciphers and this writing of S1 and X2, where this test says which keys are one
abbrev pub machine_over : (Term → Term → Bool) → Ciphers Term → (Fields → Option (NumberedKey Term ℕ) → List ℕ) → Machine Term ℕ (Outgoing Term ℕ)
machine_over same c between = machine_by same Root (octets_of c between) sender_of (open_by_uses same c)

-- the same, but that octets open by themselves
abbrev pub opening_by_octets : (Term → Term → Bool) → Ciphers Term → (Fields → Option (NumberedKey Term ℕ) → List ℕ) → Machine Term ℕ (Outgoing Term ℕ)
opening_by_octets same c between = record (machine_over same c between) { opener = λ opening pdu came. open_octets c opening pdu }

-- a record on S1 or X2 by the values of its keys
abbrev pub written_in_values : Fields → Option (NumberedKey Term ℕ) → List ℕ
written_in_values fields key = written fields (option_map (map_numbered value_of ncc_of) key)

-- keys as terms, which are one where their values are; chain numbers without bound; a sealed record opens by the uses of
-- its sender
abbrev pub written_machine : Ciphers (List ℕ) → Machine Term ℕ (Outgoing Term ℕ)
written_machine c = machine_over same_value (under_keys value_of c) written_in_values

-- what is kept of a record of terms, in octets
abbrev pub kept_in_values : Ciphers (List ℕ) → Outgoing Term ℕ → Kept
kept_in_values c x = kept_of c (map_outgoing value_of ncc_of x)
