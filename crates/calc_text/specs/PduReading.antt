-- The lines of PDUs, and of a phone's chain.
use Rattle.std.specs.Prelude.{ℕ, if◌then◌else◌, Option, Some, None, Result, Ok, Err, List, codes}
use Rattle.std.specs.Str.{bytes_eq}
use Rattle.calc_text.specs.{declared.fields.Field.Field, declared.requests.Algorithms.Algorithms, declared.requests.NasPdu.NasPdu, declared.requests.NasText.NasText, declared.requests.BearerInputs.BearerInputs, declared.requests.DrbOctets.DrbOctets, declared.requests.ServicePdu.ServicePdu, declared.requests.SrbPdu.SrbPdu, declared.requests.Request.Request}
use Rattle.calc_text.specs.declared.fields.Field.TheVariants as field
use Rattle.calc_text.specs.declared.requests.Request.TheVariants.{Nas, TryNas, SealNas, ServiceRequest, TryServiceRequest, ShortMacI, Srb, TrySrb, SealSrb, Drb, SealDrb, Reach}
use Rattle.calc_text.specs.Field.{◌>>=◌, between, sized, word, key_in, number_in, nas_count_in, count_or_any_in, cell_in, direction_in, algorithms_in, algorithms_or_any_in, eia_in, is_last_any, last_eia, numbers_in, octets_in, few_octets_in}

-- a NAS message, whose algorithms are given or any
abbrev pub nas_request : Option Algorithms → NasPdu → Request
nas_request (Some algorithms) n = Nas algorithms n
nas_request None n = TryNas n

unfoldable pub nas_of : List (List ℕ) → Result Request Field
nas_of fields = do
  _ ← sized 5 fields
  k ← key_in 32 field.Kasme (word 0 fields)
  a ← algorithms_or_any_in (word 1 fields)
  c ← count_or_any_in (word 2 fields)
  d ← direction_in (word 3 fields)
  octets ← octets_in field.Pdu (word 4 fields)
  Ok (nas_request a (record { kasme = k; count = c; dir = d; pdu = octets }))

-- a NAS message to be protected; the security header type is 1 to 4 (TS 24.301 9.3.1)
unfoldable pub nas_text_of : List (List ℕ) → Result NasText Field
nas_text_of fields = do
  _ ← sized 6 fields
  k ← key_in 32 field.Kasme (word 0 fields)
  e ← algorithms_in (word 1 fields)
  c ← nas_count_in (word 2 fields)
  d ← direction_in (word 3 fields)
  t ← number_in 1 4 field.Type (word 4 fields)
  octets ← octets_in field.Text (word 5 fields)
  Ok (record { kasme = k; algorithms = e; count = c; dir = d; header = t; text = octets })

-- a Service Request, of four octets (TS 24.301 8.2.25), at a COUNT or at any
unfoldable pub service_pdu_of : List (List ℕ) → Result ServicePdu Field
service_pdu_of fields = do
  k ← key_in 32 field.Kasme (word 0 fields)
  c ← count_or_any_in (word 1 fields)
  p ← key_in 4 field.Pdu (word 2 fields)
  Ok (record { kasme = k; count = c; pdu = p })

-- the same under 128-EIA2, or under the algorithm of a fourth field, which may be any
unfoldable pub service_of : List (List ℕ) → Result Request Field
service_of fields = do
  _ ← between 3 4 fields
  s ← service_pdu_of fields
  if is_last_any 3 fields then Ok (TryServiceRequest s) else (last_eia 3 fields >>= λ i. Ok (ServiceRequest i s))

-- a phone that re-establishes its connection: cellIdentity of 28 bits, physCellId up to 503, and c-RNTI of 16 bits (TS 36.331 6.3.4 and 6.3.6)
unfoldable pub reestablishment_of : List (List ℕ) → Result Request Field
reestablishment_of fields = do
  _ ← sized 5 fields
  k ← key_in 32 field.Key (word 0 fields)
  i ← eia_in (word 1 fields)
  c ← number_in 0 0xfffffff field.CellIdentity (word 2 fields)
  p ← number_in 0 503 field.Pci (word 3 fields)
  r ← number_in 0 0xffff field.CRnti (word 4 fields)
  Ok (ShortMacI (record { kenb = k; eia = i; cell_identity = c; pci = p; c_rnti = r }))

-- what protects a PDU of a radio bearer, by the first five fields
unfoldable pub bearer_inputs_of : List (List ℕ) → Result BearerInputs Field
bearer_inputs_of fields = do
  k ← key_in 32 field.Key (word 0 fields)
  e ← algorithms_in (word 1 fields)
  c ← number_in 0 0xffffffff field.Count (word 2 fields)
  b ← number_in 0 31 field.Bearer (word 3 fields)
  d ← direction_in (word 4 fields)
  Ok (record { kenb = k; algorithms = e; count = c; bearer = b; dir = d })

-- octets of a data radio bearer
unfoldable pub drb_octets_of : Field → List (List ℕ) → Result DrbOctets Field
drb_octets_of field fields = do
  _ ← sized 7 fields
  inputs ← bearer_inputs_of fields
  numbers ← numbers_in (word 5 fields)
  octets ← octets_in field (word 6 fields)
  Ok (record { inputs = inputs; numbers = numbers; octets = octets })

-- a phone, an NCC and a cell; the phone has KASME, the KeNB in use, the NCC in use, and the NH of its chain, or the first KeNB where
-- there was none yet
unfoldable pub reach_of : List (List ℕ) → Result Request Field
reach_of fields = do
  _ ← sized 7 fields
  k ← key_in 32 field.Kasme (word 0 fields)
  a ← key_in 32 field.Key (word 1 fields)
  o ← number_in 0 7 field.NccInUse (word 2 fields)
  s ← key_in 32 field.Sync (word 3 fields)
  n ← number_in 0 7 field.Ncc (word 4 fields)
  cell ← cell_in (word 5 fields) (word 6 fields)
  Ok (Reach (record { root = k; active = a; sync = s; ncc = o }) n cell)

abbrev pub seal_nas_of : List (List ℕ) → Result Request Field
seal_nas_of fields = nas_text_of fields >>= λ n. Ok (SealNas n)

-- a PDU of a signalling radio bearer, whose algorithms are given or any; an SDU has at most 8,188 octets, and its PDU five more
-- (TS 36.323 4.3.1 and 6.2.2)
abbrev pub srb_request : Option Algorithms → SrbPdu → Request
srb_request (Some algorithms) s = Srb algorithms s
srb_request None s = TrySrb s

unfoldable pub srb_of : List (List ℕ) → Result Request Field
srb_of fields = do
  _ ← sized 6 fields
  k ← key_in 32 field.Key (word 0 fields)
  a ← algorithms_or_any_in (word 1 fields)
  c ← number_in 0 0xffffffff field.Count (word 2 fields)
  b ← number_in 0 31 field.Bearer (word 3 fields)
  d ← direction_in (word 4 fields)
  octets ← few_octets_in 8193 field.Pdu (word 5 fields)
  Ok (srb_request a (record { kenb = k; count = c; bearer = b; dir = d; pdu = octets }))

-- a text of a signalling radio bearer
unfoldable pub seal_srb_of : List (List ℕ) → Result Request Field
seal_srb_of fields = do
  _ ← sized 6 fields
  inputs ← bearer_inputs_of fields
  octets ← few_octets_in 8188 field.Text (word 5 fields)
  Ok (SealSrb (record { inputs = inputs; text = octets }))

abbrev pub drb_of : List (List ℕ) → Result Request Field
drb_of fields = drb_octets_of field.Pdu fields >>= λ d. Ok (Drb d)

abbrev pub seal_drb_of : List (List ℕ) → Result Request Field
seal_drb_of fields = drb_octets_of field.Text fields >>= λ d. Ok (SealDrb d)

-- the line of this first word
unfoldable pub pdu_named : List ℕ → List (List ℕ) → Result Request Field
pdu_named name fields =
    if bytes_eq name (codes "nas") then nas_of fields
    else if bytes_eq name (codes "seal-nas") then seal_nas_of fields
    else if bytes_eq name (codes "service-request") then service_of fields
    else if bytes_eq name (codes "short-mac-i") then reestablishment_of fields
    else if bytes_eq name (codes "srb") then srb_of fields
    else if bytes_eq name (codes "seal-srb") then seal_srb_of fields
    else if bytes_eq name (codes "drb") then drb_of fields
    else if bytes_eq name (codes "seal-drb") then seal_drb_of fields
    else if bytes_eq name (codes "reach") then reach_of fields
    else Err field.Word
