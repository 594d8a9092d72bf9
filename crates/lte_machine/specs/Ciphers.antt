-- The octets of what is sent, by a MAC and a ciphering (TS 24.301 9.1, TS 36.323 6.2).
use Rattle.std.specs.Prelude.{ℕ, ◌%◌, List, ◌∷◌, ◌++◌, Option, Some, None}
use Rattle.key_model.specs.{Use.map_use, HandoverTable.NumberedKey}
use Rattle.nas_guard.specs.{Cipher.ciphered, Cipher.mac_of, Seal.first_octet}
use Rattle.pdcp_guard.specs.Drb.{drb_first_octet, drb_second_octet}
use Rattle.s1x2_rec.specs.{Fields.Fields, Spelling.spelling_of}
use Rattle.lte_machine.specs.Wire.{KeyUse, Ciphering, map_ciphering, Outgoing, SealedNas, PlainNas, SealedRrc, UserPacket, Between}

-- a MAC of a text by a use of a key, and a text ciphered or deciphered
pub record Ciphers (K : Type 0) : Type 0 where
  pub mac : KeyUse K → List ℕ → List ℕ
  pub crypt : Ciphering K → List ℕ → List ℕ

-- 128-EIA2, and 128-EEA2 or EEA0, under the octets of a key (TS 33.401 Annex B)
abbrev pub annex_b : Ciphers (List ℕ)
annex_b = record {
  mac = λ u text. mac_of u.key u.count u.bearer u.dir text;
  crypt = λ e text. ciphered e.eea e.under.key e.under.count e.under.bearer e.under.dir text;
}

-- the same under keys that are read in another way first
abbrev pub under_keys : {K L : Type 0} → (K → L) → Ciphers L → Ciphers K
under_keys f c = record {
  mac = λ u text. c.mac (map_use f u) text;
  crypt = λ e text. c.crypt (map_ciphering f e) text;
}

-- a text ciphered where ciphering is on
abbrev pub ciphered_by : {K : Type 0} → Ciphers K → Option (Ciphering K) → List ℕ → List ℕ
ciphered_by c None text = text
ciphered_by c (Some e) text = c.crypt e text

-- a NAS message: the first octet, the MAC, and what it covers: sequence number and text as sent (TS 24.301 9.1)
unfoldable pub nas_octets : {K : Type 0} → Ciphers K → ℕ → KeyUse K → Option (Ciphering K) → List ℕ → List ℕ
nas_octets c header u e text =
    let covered = u.count % 256 ∷ ciphered_by c e text in first_octet header ∷ c.mac u covered ++ covered

-- a PDU of an SRB: the header octet, and data and MAC-I as sent; the MAC covers header and data (TS 36.323 6.2.2)
unfoldable pub srb_octets : {K : Type 0} → Ciphers K → KeyUse K → Option (Ciphering K) → List ℕ → List ℕ
srb_octets c u e text =
    u.count % 32 ∷ ciphered_by c e (text ++ c.mac u (u.count % 32 ∷ text))

-- a PDU of a DRB: two header octets and the ciphered text (TS 36.323 6.2.3)
unfoldable pub drb_octets : {K : Type 0} → Ciphers K → Ciphering K → List ℕ → List ℕ
drb_octets c e text = drb_first_octet e.under.count ∷ drb_second_octet e.under.count ∷ c.crypt e text

-- the octets of a record; one on S1 or X2 is written by the key's octets and the number's NCC
abbrev pub octets_of : {K C : Type 0} → Ciphers K → (Fields → Option (NumberedKey K C) → List ℕ) → Outgoing K C → List ℕ
octets_of c between (SealedNas dir header u e text) = nas_octets c header u e text
octets_of c between (PlainNas octets) = octets
octets_of c between (SealedRrc dir station air srb u e text) = srb_octets c u e text
octets_of c between (UserPacket dir station air drb e text) = drb_octets c e text
octets_of c between (Between to fields key) = between fields key

-- a record on S1 or X2 in octets
abbrev pub written : Fields → Option (NumberedKey (List ℕ) ℕ) → List ℕ
written fields key = spelling_of (record { fields = fields; key = key })
