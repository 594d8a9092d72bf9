-- What the actors send, and under which keys: generic in keys K and chain numbers C.
use Rattle.std.specs.Prelude.{ℕ, Bool, true, false, List, [], ◌∷◌, ◌++◌, Option, Some, None, option_map}
use Rattle.alg_choice.specs.declared.algs.Eea.{Eea}
use Rattle.rec_base.specs.{declared.uses.Dir.Dir, declared.bearers.Bearer.Bearer, Bearer.bearer5_of}
use Rattle.rec_base.specs.declared.uses.Dir.TheVariants.{Up, Down}
use Rattle.nas_guard.specs.{Keys.Keys, Seal.nas_bearer}
use Rattle.pdcp_guard.specs.AsKeys.{AsKeys}
use Rattle.lte_events.specs.declared.addresses.Address.{Address}
use Rattle.lte_events.specs.declared.addresses.Address.TheVariants.{Phone, PhoneNas, CoreNas, StationAir}
use Rattle.key_model.specs.{HandoverTable.NumberedKey, HandoverLines.map_numbered, Use.Use, Use.map_use}
use Rattle.s1x2_rec.specs.Fields.{Fields}
use Rattle.lte_machine.specs.Bearers.{Srb, Drb, of_srb, of_drb}

-- one use of a key: with COUNT, BEARER and DIRECTION (TS 33.401 B.1.1 and B.2.1)
abbrev pub KeyUse : Type 0 → Type 0
KeyUse K = Use K Dir

-- a ciphering: the use, and the algorithm, which leaves a text as it is where it is EEA0
pub record Ciphering (K : Type 0) : Type 0 where
  pub under : KeyUse K
  pub eea : Eea

-- a ciphering where it is on
abbrev pub ciphering_if : {K : Type 0} → Bool → Ciphering K → Option (Ciphering K)
ciphering_if true e = Some e
ciphering_if false e = None

-- a record as its sender makes it. The kind fixes the address
pub data Outgoing (K C : Type 0) : Type 0 where
  -- a NAS message under protection: header type, integrity use, ciphering if there is one, text (TS 24.301 4.4)
  SealedNas : Dir → ℕ → KeyUse K → Option (Ciphering K) → List ℕ → Outgoing K C
  -- a NAS message as it is, from the phone (TS 24.301 4.4.4.3)
  PlainNas : List ℕ → Outgoing K C
  -- an RRC text on an SRB of a station and air address (TS 36.323 5.6 and 5.7)
  SealedRrc : Dir → ℕ → ℕ → Srb → KeyUse K → Option (Ciphering K) → List ℕ → Outgoing K C
  -- a user packet on a DRB of a station and air address (TS 36.323 5.6)
  UserPacket : Dir → ℕ → ℕ → Drb → Ciphering K → List ℕ → Outgoing K C
  -- a record on S1 or X2: plain fields, and its key with the number of it, if it holds one
  Between : Address → Fields → Option (NumberedKey K C) → Outgoing K C

abbrev pub map_ciphering : {K L : Type 0} → (K → L) → Ciphering K → Ciphering L
map_ciphering f c = record { under = map_use f c.under; eea = c.eea }

abbrev pub map_outgoing : {K C L D : Type 0} → (K → L) → (C → D) → Outgoing K C → Outgoing L D
map_outgoing f g (SealedNas dir header u e text) = SealedNas dir header (map_use f u) (option_map (map_ciphering f) e) text
map_outgoing f g (PlainNas octets) = PlainNas octets
map_outgoing f g (SealedRrc dir station air srb u e text) =
    SealedRrc dir station air srb (map_use f u) (option_map (map_ciphering f) e) text
map_outgoing f g (UserPacket dir station air drb e text) = UserPacket dir station air drb (map_ciphering f e) text
map_outgoing f g (Between to fields key) = Between to fields (option_map (map_numbered f g) key)

-- the use of a NAS key (TS 33.401 8.1)
abbrev pub nas_use : {K : Type 0} → Dir → K → ℕ → KeyUse K
nas_use dir key count = record { key = key; count = count; bearer = nas_bearer; dir = dir }

-- the use of a key on a radio bearer (TS 36.323 5.6 and 5.7)
abbrev pub srb_use : {K : Type 0} → Dir → K → Srb → ℕ → KeyUse K
srb_use dir key srb count = record { key = key; count = count; bearer = bearer5_of (of_srb srb); dir = dir }

abbrev pub drb_use : {K : Type 0} → Dir → K → Drb → ℕ → KeyUse K
drb_use dir key drb count = record { key = key; count = count; bearer = bearer5_of (of_drb drb); dir = dir }

abbrev pub ciphering_by : {K : Type 0} → Eea → KeyUse K → Ciphering K
ciphering_by eea u = record { under = u; eea = eea }

-- the ciphering of a NAS message, with the key of encryption also where the algorithm is EEA0 (TS 24.301 4.4.5)
abbrev pub nas_ciphering : {K : Type 0} → Dir → Keys K → ℕ → Ciphering K
nas_ciphering dir keys count = ciphering_by keys.algs.eea (nas_use dir keys.enc count)

-- the ciphering of a PDU of an SRB, and of one of a DRB (TS 36.323 5.6)
abbrev pub srb_ciphering : {K : Type 0} → Dir → AsKeys K → Srb → ℕ → Ciphering K
srb_ciphering dir keys srb count = ciphering_by keys.algs.eea (srb_use dir keys.rrc_enc srb count)

abbrev pub drb_ciphering : {K : Type 0} → Dir → AsKeys K → Drb → ℕ → Ciphering K
drb_ciphering dir keys drb count = ciphering_by keys.algs.eea (drb_use dir keys.up_enc drb count)

-- where a record goes
abbrev pub nas_address : Dir → Address
nas_address Up = CoreNas
nas_address Down = PhoneNas

abbrev pub air_address : Dir → ℕ → ℕ → Bearer → Address
air_address Up station air bearer = StationAir station air bearer
air_address Down station air bearer = Phone station air bearer

abbrev pub address_of : {K C : Type 0} → Outgoing K C → Address
address_of (SealedNas dir header u e text) = nas_address dir
address_of (PlainNas octets) = CoreNas
address_of (SealedRrc dir station air srb u e text) = air_address dir station air (of_srb srb)
address_of (UserPacket dir station air drb e text) = air_address dir station air (of_drb drb)
address_of (Between to fields key) = to

-- its integrity use, if it is sealed
abbrev pub integrity_of : {K C : Type 0} → Outgoing K C → Option (KeyUse K)
integrity_of (SealedNas dir header u e text) = Some u
integrity_of (SealedRrc dir station air srb u e text) = Some u
integrity_of other = None

abbrev pub ciphering_use : {K : Type 0} → Option (Ciphering K) → List (KeyUse K)
ciphering_use None = []
ciphering_use (Some e) = e.under ∷ []

-- the uses of a sending, that of encryption first
abbrev pub uses_of : {K C : Type 0} → Outgoing K C → List (KeyUse K)
uses_of (SealedNas dir header u e text) = ciphering_use e ++ u ∷ []
uses_of (PlainNas octets) = []
uses_of (SealedRrc dir station air srb u e text) = ciphering_use e ++ u ∷ []
uses_of (UserPacket dir station air drb e text) = e.under ∷ []
uses_of (Between to fields key) = []
