-- How a received record is opened: by its octets, or by the uses of its sender.
use Rattle.std.specs.Prelude.{ℕ, ◌-◌, Bool, true, false, ◌==◌, ◌&&◌, List, [], ◌++◌, length, take, drop, Option, Some, None}
use Rattle.std.specs.Str.{bytes_eq}
use Rattle.alg_choice.specs.Algs.{identity_of}
use Rattle.rec_base.specs.declared.uses.Dir.{Dir}
use Rattle.rec_base.specs.declared.uses.Dir.TheVariants.{Up, Down}
use Rattle.key_model.specs.Use.{same_use}
use Rattle.nas_guard.specs.Open.{mac_in, covered_in, sent_in}
use Rattle.lte_machine.specs.Wire.{KeyUse, Ciphering, Outgoing, SealedNas, SealedRrc}
use Rattle.lte_machine.specs.Ciphers.{Ciphers, ciphered_by}

-- what a receiver opens, by the uses that it expects: the integrity use, and the ciphering if it is on
pub data Opening (K : Type 0) : Type 0 where
  -- nothing: the answer is settled without it
  OpensNothing : Opening K
  OpensNas : KeyUse K → Option (Ciphering K) → Opening K
  OpensSrb : KeyUse K → Option (Ciphering K) → Opening K
  OpensDrb : Ciphering K → Opening K

-- how it comes out: the text, or the MAC computed and the MAC received
pub data Outcome : Type 0 where
  Opened : List ℕ → Outcome
  Differs : List ℕ → List ℕ → Outcome

-- the integrity use under which a record was accepted, also where its step then refuses it
abbrev pub accepted_of : {K : Type 0} → Opening K → Outcome → Option (KeyUse K)
accepted_of (OpensNas u e) (Opened text) = Some u
accepted_of (OpensSrb u e) (Opened text) = Some u
accepted_of other outcome = None

-- by the two MACs
abbrev pub by_macs : Bool → List ℕ → List ℕ → List ℕ → Outcome
by_macs true wanted got text = Opened text
by_macs false wanted got text = Differs wanted got

abbrev pub decided : List ℕ → List ℕ → List ℕ → Outcome
decided wanted got text = by_macs (bytes_eq wanted got) wanted got text

-- the MAC that the receiver of a NAS message computes (TS 24.301 4.4.3.3)
abbrev pub nas_wanted : {K : Type 0} → Ciphers K → KeyUse K → List ℕ → List ℕ
nas_wanted c u pdu = c.mac u (covered_in pdu)

-- data and MAC-I of an SRB PDU, deciphered (TS 36.323 5.6)
abbrev pub srb_plain : {K : Type 0} → Ciphers K → Option (Ciphering K) → List ℕ → List ℕ
srb_plain c e pdu = ciphered_by c e (drop 1 pdu)

abbrev pub srb_text : {K : Type 0} → Ciphers K → Option (Ciphering K) → List ℕ → List ℕ
srb_text c e pdu = take (length pdu - 5) (srb_plain c e pdu)

abbrev pub srb_got : {K : Type 0} → Ciphers K → Option (Ciphering K) → List ℕ → List ℕ
srb_got c e pdu = drop (length pdu - 5) (srb_plain c e pdu)

-- the MAC-I that its receiver computes over header and data (TS 36.323 5.7)
abbrev pub srb_wanted : {K : Type 0} → Ciphers K → KeyUse K → Option (Ciphering K) → List ℕ → List ℕ
srb_wanted c u e pdu = c.mac u (take 1 pdu ++ srb_text c e pdu)

-- by the octets alone
unfoldable pub open_octets : {K : Type 0} → Ciphers K → Opening K → List ℕ → Outcome
open_octets c OpensNothing pdu = Opened []
open_octets c (OpensNas u e) pdu = decided (nas_wanted c u pdu) (mac_in pdu) (ciphered_by c e (sent_in pdu))
open_octets c (OpensSrb u e) pdu = decided (srb_wanted c u e pdu) (srb_got c e pdu) (srb_text c e pdu)
open_octets c (OpensDrb e) pdu = Opened (c.crypt e (drop 2 pdu))

-- where the octets do not come from the expected use: the two MACs
unfoldable pub open_foreign : {K : Type 0} → Ciphers K → Opening K → List ℕ → Outcome
open_foreign c (OpensNas u e) pdu = Differs (nas_wanted c u pdu) (mac_in pdu)
open_foreign c (OpensSrb u e) pdu = Differs (srb_wanted c u e pdu) (srb_got c e pdu)
open_foreign c other pdu = Opened []

abbrev pub same_dir : Dir → Dir → Bool
same_dir Up Up = true
same_dir Down Down = true
same_dir a b = false

-- whether two uses are one, where this test says which keys are one
abbrev pub same_uses : {K : Type 0} → (K → K → Bool) → KeyUse K → KeyUse K → Bool
same_uses same u v = same_use same same_dir u v

abbrev pub same_ciphering : {K : Type 0} → (K → K → Bool) → Option (Ciphering K) → Option (Ciphering K) → Bool
same_ciphering same None None = true
same_ciphering same (Some e) (Some f) = same_uses same e.under f.under && (identity_of e.eea == identity_of f.eea)
same_ciphering same e f = false

-- how the sender's uses stand to the expected ones
pub data Sender : Type 0 where
  -- both are the expected ones: the text sent
  SentSo : List ℕ → Sender
  -- the integrity use is, and the ciphering is another
  CipheredElse : Sender
  -- the integrity use is another, or nobody sent it under protection
  SentElse : Sender

abbrev pub judged : Bool → Bool → List ℕ → Sender
judged true true text = SentSo text
judged true false text = CipheredElse
judged false b text = SentElse

abbrev pub nas_sender : {K C : Type 0} → (K → K → Bool) → KeyUse K → Option (Ciphering K) → Option (Outgoing K C) → Sender
nas_sender same u e (Some (SealedNas dir header i f text)) = judged (same_uses same u i) (same_ciphering same e f) text
nas_sender same u e (Some (SealedRrc dir station air srb i f text)) = judged (same_uses same u i) false text
nas_sender same u e other = SentElse

abbrev pub srb_sender : {K C : Type 0} → (K → K → Bool) → KeyUse K → Option (Ciphering K) → Option (Outgoing K C) → Sender
srb_sender same u e (Some (SealedRrc dir station air srb i f text)) = judged (same_uses same u i) (same_ciphering same e f) text
srb_sender same u e (Some (SealedNas dir header i f text)) = judged (same_uses same u i) false text
srb_sender same u e other = SentElse

-- the three cases of a sealed record: the text that was sent; the octets decide; both MACs
abbrev pub open_case : {K : Type 0} → Ciphers K → Opening K → List ℕ → Sender → Outcome
open_case c opening pdu (SentSo text) = Opened text
open_case c opening pdu CipheredElse = open_octets c opening pdu
open_case c opening pdu SentElse = open_foreign c opening pdu

-- by the uses of the sender; a packet on a DRB has no integrity, and opens by its octets
abbrev pub open_by_uses : {K C : Type 0} → (K → K → Bool) → Ciphers K → Opening K → List ℕ → Option (Outgoing K C) → Outcome
open_by_uses same c OpensNothing pdu came = open_octets c OpensNothing pdu
open_by_uses same c (OpensNas u e) pdu came = open_case c (OpensNas u e) pdu (nas_sender same u e came)
open_by_uses same c (OpensSrb u e) pdu came = open_case c (OpensSrb u e) pdu (srb_sender same u e came)
open_by_uses same c (OpensDrb e) pdu came = open_octets c (OpensDrb e) pdu
