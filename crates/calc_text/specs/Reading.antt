-- What a line asks for: its first word says which line it is, and its fields stand behind it.
use Rattle.std.specs.Prelude.{ℕ, if◌then◌else◌, Result, Ok, Err, List, [], ◌∷◌, codes}
use Rattle.std.specs.Str.{bytes_eq}
use Rattle.calc_text.specs.{declared.fields.Field.Field, declared.requests.KeyedText.KeyedText, declared.requests.UsimKeys.UsimKeys, declared.requests.Request.Request, PduReading.pdu_named}
use Rattle.calc_text.specs.declared.fields.Field.TheVariants as field
use Rattle.alg_suite.specs.{declared.ciphering.Ciphering.Ciphering, declared.integrity.Integrity.Integrity}
use Rattle.alg_suite.specs.declared.ciphering.Ciphering.TheVariants.{Eea1, Eea2, Eea3}
use Rattle.alg_suite.specs.declared.integrity.Integrity.TheVariants.{Eia1, Eia2, Eia3}
use Rattle.calc_text.specs.declared.requests.Request.TheVariants.{Kasme, Kenb, Nh, Star, Alg, Cipher, Mac}
use Rattle.calc_text.specs.Field.{◌>>=◌, sized, word, key_in, number_in, nas_count_in, cell_in, direction_in, octets_in}

-- CK, IK, the PLMN identity and SQN xor AK (TS 33.401 A.2)
unfoldable pub usim_keys_of : List (List ℕ) → Result UsimKeys Field
usim_keys_of fields = do
  _ ← sized 4 fields
  c ← key_in 16 field.Ck (word 0 fields)
  i ← key_in 16 field.Ik (word 1 fields)
  p ← key_in 3 field.Plmn (word 2 fields)
  s ← key_in 6 field.SqnXorAk (word 3 fields)
  Ok (record { ck = c; ik = i; plmn = p; sqn_xor_ak = s })

-- KASME and an uplink NAS COUNT
unfoldable pub kenb_of : List (List ℕ) → Result Request Field
kenb_of fields = do
  _ ← sized 2 fields
  k ← key_in 32 field.Kasme (word 0 fields)
  c ← nas_count_in (word 1 fields)
  Ok (Kenb k c)

-- KASME and the SYNC-input, which is a KeNB or an NH
unfoldable pub nh_of : List (List ℕ) → Result Request Field
nh_of fields = do
  _ ← sized 2 fields
  k ← key_in 32 field.Kasme (word 0 fields)
  s ← key_in 32 field.Sync (word 1 fields)
  Ok (Nh k s)

-- a KeNB or an NH, and the target cell
unfoldable pub star_of : List (List ℕ) → Result Request Field
star_of fields = do
  _ ← sized 3 fields
  k ← key_in 32 field.Key (word 0 fields)
  cell ← cell_in (word 1 fields) (word 2 fields)
  Ok (Star k cell)

-- KASME or a KeNB, and an algorithm by its type distinguisher, 1 to 6, and its identity, of 4 bits (TS 33.401 A.7)
unfoldable pub alg_of : List (List ℕ) → Result Request Field
alg_of fields = do
  _ ← sized 3 fields
  k ← key_in 32 field.Key (word 0 fields)
  t ← number_in 1 6 field.Type (word 1 fields)
  i ← number_in 0 15 field.Id (word 2 fields)
  Ok (Alg k (record { kind = t; id = i }))

-- a text, and what an algorithm of Annex B takes beside it (TS 33.401 B.1.1 and B.2.1)
unfoldable pub keyed_text_of : List (List ℕ) → Result KeyedText Field
keyed_text_of fields = do
  _ ← sized 5 fields
  k ← key_in 16 field.Key (word 0 fields)
  c ← number_in 0 0xffffffff field.Count (word 1 fields)
  b ← number_in 0 31 field.Bearer (word 2 fields)
  d ← direction_in (word 3 fields)
  octets ← octets_in field.Text (word 4 fields)
  Ok (record { inputs = record { key = k; count = c; bearer = b; dir = d }; text = octets })

abbrev pub cipher_of : Ciphering → List (List ℕ) → Result Request Field
cipher_of eea fields = keyed_text_of fields >>= λ t. Ok (Cipher eea t)

abbrev pub mac_of : Integrity → List (List ℕ) → Result Request Field
mac_of eia fields = keyed_text_of fields >>= λ t. Ok (Mac eia t)

-- the line of an algorithm
unfoldable pub by_cipher : List ℕ → List (List ℕ) → Result Request Field
by_cipher name fields =
    if bytes_eq name (codes "eea1") then cipher_of Eea1 fields
    else if bytes_eq name (codes "eea2") then cipher_of Eea2 fields
    else if bytes_eq name (codes "eea3") then cipher_of Eea3 fields
    else if bytes_eq name (codes "eia1") then mac_of Eia1 fields
    else if bytes_eq name (codes "eia2") then mac_of Eia2 fields
    else if bytes_eq name (codes "eia3") then mac_of Eia3 fields
    else pdu_named name fields

-- the line of this first word
unfoldable pub named : List ℕ → List (List ℕ) → Result Request Field
named name fields =
    if bytes_eq name (codes "kasme") then (usim_keys_of fields >>= λ k. Ok (Kasme k))
    else if bytes_eq name (codes "kenb") then kenb_of fields
    else if bytes_eq name (codes "nh") then nh_of fields
    else if bytes_eq name (codes "star") then star_of fields
    else if bytes_eq name (codes "alg") then alg_of fields
    else by_cipher name fields

abbrev pub request_of : List (List ℕ) → Result Request Field
request_of [] = Err field.Word
request_of (name ∷ fields) = named name fields
