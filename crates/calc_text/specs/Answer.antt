-- The answer to a line.
use Rattle.std.specs.Prelude.{ℕ, ◌<◌, ◌≤◌, ◌==◌, IfSome, Bool, true, false, if◌then◌else◌, Result, Ok, Err, List, [], ◌∷◌, ◌++◌, length, codes}
use Rattle.hmac_kdf.specs.Kdf.{kdf}
use Rattle.hmac_kdf.specs.declared.input.KdfInput.TheVariants as input
use Rattle.kasme_kdf.specs.Kasme.{kasme_of}
use Rattle.text_lines.specs.Words.{words_of}
use Rattle.calc_text.specs.{declared.fields.Field.Field, declared.requests.Request.Request, Ciphering.enciphered, Ciphering.mac_under, Reading.request_of}
use Rattle.calc_text.specs.declared.fields.Field.TheVariants as field
use Rattle.calc_text.specs.declared.requests.Request.TheVariants.{Kasme, Kenb, Nh, Star, Alg, Cipher, Mac, Nas, TryNas, SealNas, ServiceRequest, TryServiceRequest, ShortMacI, Srb, TrySrb, SealSrb, Drb, SealDrb, Reach}
use Rattle.calc_text.specs.PduAnswer.{written, nas_keys, srb_keys, drb_keys, nas_line, service_line, srb_line, drb_line, reach_line}
use Rattle.calc_text.specs.Recovery.{short_mac_i_by}
use Rattle.calc_text.specs.Trying.{nas_trial_line, service_trial_line, srb_trial_line}
use Rattle.pdu_guard.specs.{Nas.nas_pdu, Srb.srb_pdu, Drb.drb_pdu}

-- the ranges of what a line asks for: BEARER of 5 bits, a NAS COUNT of 24, a header type 1 to 4, an NCC of 3 bits, a cell's identity of 28
-- and a PCI up to 503
abbrev pub IsRequest : Request → Type 0
IsRequest (Cipher eea c) = c.inputs.bearer < 32
IsRequest (Mac eia c) = c.inputs.bearer < 32
IsRequest (Nas algorithms n) = IfSome n.count (λ count. count < 0x1000000)
IsRequest (SealNas n) = (n.count < 0x1000000) × (1 ≤ n.header) × (n.header ≤ 4)
IsRequest (TryNas n) = IfSome n.count (λ count. count < 0x1000000)
IsRequest (ServiceRequest eia s) = IfSome s.count (λ count. count < 0x1000000)
IsRequest (TryServiceRequest s) = IfSome s.count (λ count. count < 0x1000000)
IsRequest (ShortMacI r) = (r.cell_identity < 0x10000000) × (r.pci ≤ 503)
IsRequest (Srb algorithms s) = (s.bearer < 32) × (length s.pdu ≤ 8193)
IsRequest (TrySrb s) = (s.bearer < 32) × (length s.pdu ≤ 8193)
IsRequest (SealSrb s) = s.inputs.bearer < 32
IsRequest (Drb d) = d.inputs.bearer < 32
IsRequest (SealDrb d) = d.inputs.bearer < 32
IsRequest (Reach phone ncc cell) = (phone.ncc ≤ 7) × (ncc ≤ 7)
IsRequest other = Unit {0}

-- what a line gives
abbrev pub gives : Request → List ℕ
gives (Kasme k) = written (kasme_of k.ck k.ik k.plmn k.sqn_xor_ak)
gives (Kenb kasme count) = written (kdf kasme (input.Kenb count))
gives (Nh kasme sync) = written (kdf kasme (input.Nh sync))
gives (Star key cell) = written (kdf key (input.Star cell.pci cell.earfcn))
gives (Alg key a) = written (kdf key (input.Alg a.kind a.id))
gives (Cipher eea c) = written (enciphered eea c.inputs c.text)
gives (Mac eia c) = written (mac_under eia c.inputs c.text)
gives (Nas algorithms n) = nas_line algorithms n
gives (TryNas n) = nas_trial_line n
gives (SealNas n) = written (nas_pdu (nas_keys n.kasme n.algorithms) n.header n.count n.dir n.text)
gives (ServiceRequest eia s) = service_line eia s
gives (TryServiceRequest s) = service_trial_line s
gives (ShortMacI r) = written (short_mac_i_by r)
gives (Srb algorithms s) = srb_line algorithms s
gives (TrySrb s) = srb_trial_line s
gives (SealSrb s) = let i = s.inputs in written (srb_pdu (srb_keys i.kenb i.algorithms i.bearer) i.count i.dir s.text)
gives (Drb d) = drb_line (drb_keys d.inputs d.numbers) d.inputs.count d.inputs.dir d.octets
gives (SealDrb d) = written (drb_pdu (drb_keys d.inputs d.numbers) d.inputs.count d.inputs.dir d.octets)
gives (Reach phone ncc cell) = reach_line phone ncc cell

-- what is bad in a line
abbrev pub name_of : Field → List ℕ
name_of field.Word = codes "word"
name_of field.Fields = codes "fields"
name_of field.Ck = codes "ck"
name_of field.Ik = codes "ik"
name_of field.Plmn = codes "plmn"
name_of field.SqnXorAk = codes "sqn-xor-ak"
name_of field.Kasme = codes "kasme"
name_of field.Sync = codes "sync"
name_of field.Key = codes "key"
name_of field.Type = codes "type"
name_of field.Id = codes "id"
name_of field.Count = codes "count"
name_of field.Bearer = codes "bearer"
name_of field.Direction = codes "direction"
name_of field.Pci = codes "pci"
name_of field.Earfcn = codes "earfcn"
name_of field.Text = codes "text"
name_of field.Eea = codes "eea"
name_of field.Eia = codes "eia"
name_of field.Pdu = codes "pdu"
name_of field.Bits = codes "bits"
name_of field.NccInUse = codes "ncc-in-use"
name_of field.Ncc = codes "ncc"
name_of field.CellIdentity = codes "cell-identity"
name_of field.CRnti = codes "c-rnti"

-- what is written for a line, and whether it is a good one
pub record Answer : Type 0 where
  pub text : List ℕ
  pub good : Bool

unfoldable pub bad_text : Field → List ℕ
bad_text field = codes "bad " ++ name_of field

-- a line of the output
abbrev pub line : List ℕ → List ℕ
line text = text ++ codes "\n"

abbrev pub answered : Result Request Field → Answer
answered (Ok request) = record { text = line (gives request); good = true }
answered (Err field) = record { text = line (bad_text field); good = false }

-- a line that is empty or begins with `#` says nothing
abbrev pub is_silent : List ℕ → Bool
is_silent [] = true
is_silent (first ∷ octets) = first == 35

-- the answer to a line
unfoldable pub answer_to : List ℕ → Answer
answer_to octets = if is_silent octets then record { text = []; good = true } else answered (request_of (words_of octets))
