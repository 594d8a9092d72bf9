-- What stands in a body behind its kind, which is the octet at place 0: one definition for each form.
use Rattle.std.specs.Prelude.{ℕ, zero, suc, ◌+◌, ◌*◌, ◌-◌, ◌^◌, ◌==◌, if◌then◌else◌, List, [], ◌∷◌, ◌++◌, length, Result, Ok, Err}
use Rattle.std.specs.List.{list_any}
use Rattle.rec_base.specs.declared.bearers.Bearer.{Bearer}
use Rattle.rec_base.specs.Bearer.{IsSrb, IsDrb, octet_of}
use Rattle.rec_base.specs.Lengths.{longest_packet, longest_text, longest_record}
use Rattle.alg_choice.specs.{declared.algs.Eea.Eea, declared.caps.Caps.Caps}
use Rattle.annex_a_keys.specs.Cell.{Place}
use Rattle.lte_events.specs.{Site.Site, Site.is_site, declared.acts.HoKind.HoKind}
use Rattle.role_wire.specs.Codes.{Codes, srbs, drbs, bearers, ho_kinds, ho_octet, eeas, eeas_but}
use Rattle.rec_fields.specs.Field.{◌>>=◌}
use Rattle.rec_fields.specs.Layout.{Layout, Curried, Empty, Last, Rest, Then, made_of, read_by}
use Rattle.role_wire.specs.Field.{number_in, coded_at, cell_at, ends_at, small, word, code, listed, key, caps, cell, ending}

-- what the fields of a body make, or its first fault
abbrev pub body_by : {B : Type 0} → (l : Layout ℕ) → Curried l B → List ℕ → Result B ℕ
body_by l make octets = read_by ending l octets 1 (λ vs. Ok (made_of l make vs))

-- no field
abbrev pub nothing_body : Layout ℕ
nothing_body = Empty

unfoldable pub nothing_of : List ℕ → Result (Unit {0}) ℕ
nothing_of octets = body_by nothing_body tt octets

-- capabilities
abbrev pub caps_body : Layout ℕ
caps_body = Last caps

unfoldable pub caps_of : List ℕ → Result Caps ℕ
caps_of octets = body_by caps_body (λ caps. caps) octets

-- KSI, KASME
abbrev pub auth_body : Layout ℕ
auth_body = Then (small 6) (Last key)

unfoldable pub auth_of : List ℕ → Result (ℕ × List ℕ) ℕ
auth_of octets = body_by auth_body (λ ksi kasme. (ksi, kasme)) octets

-- KSI, KASME, capabilities
abbrev pub auth_caps_body : Layout ℕ
auth_caps_body = Then (small 6) (Then key (Last caps))

unfoldable pub auth_caps_of : List ℕ → Result (ℕ × List ℕ × Caps) ℕ
auth_caps_of octets = body_by auth_caps_body (λ ksi kasme caps. (ksi, kasme, caps)) octets

-- a PDU or record
abbrev pub pdu_body : Layout ℕ
pdu_body = Rest longest_record

unfoldable pub pdu_of : List ℕ → Result (List ℕ) ℕ
pdu_of octets = body_by pdu_body (λ pdu. pdu) octets

-- air address, bearer, PDU
abbrev pub air_body : Layout ℕ
air_body = Then (word 0) (Then (listed octet_of bearers) (Rest longest_record))

unfoldable pub air_of : List ℕ → Result (ℕ × Bearer × List ℕ) ℕ
air_of octets = body_by air_body (λ air bearer pdu. (air, bearer, pdu)) octets

-- station, air address, bearer, PDU
abbrev pub station_air_body : Layout ℕ
station_air_body = Then (small 7) air_body

unfoldable pub station_air_of : List ℕ → Result (ℕ × ℕ × Bearer × List ℕ) ℕ
station_air_of octets = body_by station_air_body (λ station air bearer pdu. (station, air, bearer, pdu)) octets

-- DRB, text
abbrev pub user_body : Layout ℕ
user_body = Then (code octet_of IsDrb drbs) (Rest longest_packet)

unfoldable pub user_of : List ℕ → Result (Bearer × List ℕ) ℕ
user_of octets = body_by user_body (λ bearer text. (bearer, text)) octets

-- SRB, text
abbrev pub rrc_body : Layout ℕ
rrc_body = Then (code octet_of IsSrb srbs) (Rest longest_text)

unfoldable pub rrc_of : List ℕ → Result (Bearer × List ℕ) ℕ
rrc_of octets = body_by rrc_body (λ bearer text. (bearer, text)) octets

-- NAS text
abbrev pub nas_body : Layout ℕ
nas_body = Rest longest_text

unfoldable pub nas_of : List ℕ → Result (List ℕ) ℕ
nas_of octets = body_by nas_body (λ text. text) octets

-- what is skipped, how many
abbrev pub skip_body : {A : Type 0} → (A → ℕ) → Codes A → Layout ℕ
skip_body octet codes = Then (listed octet codes) (Last (word 0))

unfoldable pub skip_of : {A : Type 0} → (A → ℕ) → Codes A → List ℕ → Result (A × ℕ) ℕ
skip_of octet codes octets = body_by (skip_body octet codes) (λ bearer n. (bearer, n)) octets

-- cell
abbrev pub connect_body : Layout ℕ
connect_body = Last cell

unfoldable pub connect_of : List ℕ → Result Place ℕ
connect_of octets = body_by connect_body (λ cell. cell) octets

-- kind of handover, cell
abbrev pub start_body : Layout ℕ
start_body = Then (listed ho_octet ho_kinds) (Last cell)

unfoldable pub start_of : List ℕ → Result (HoKind × Place) ℕ
start_of octets = body_by start_body (λ kind cell. (kind, cell)) octets

-- a count of 1 or 2, and so many encryption algorithms, different ones
unfoldable pub order_at : List ℕ → ℕ → Result (List Eea) ℕ
order_at octets place = do
  count ← number_in 1 2 octets place 1
  first ← coded_at eeas octets (place + 1)
  (if count == 1 then Ok (first ∷ []) else (coded_at (eeas_but first) octets (place + 2) >>= λ second. Ok (first ∷ second ∷ [])))

-- one more station with its cell; a cell that stood before is bad at its PCI
unfoldable pub site_at : List Site → List ℕ → ℕ → Result (List Site) ℕ
site_at before octets place = do
  station ← number_in 0 7 octets place 1
  cell ← cell_at octets (place + 1)
  (if list_any (is_site cell) before then Err (place + 1) else Ok (before ++ record { station = station; cell = cell } ∷ []))

-- so many more of them
unfoldable pub sites_at : ℕ → List Site → List ℕ → ℕ → Result (List Site) ℕ
sites_at zero before octets place = Ok before
sites_at (suc n) before octets place = site_at before octets place >>= λ sites. sites_at n sites octets (place + 7)

-- a count of 1 to 32, and so many cells
unfoldable pub cells_at : List ℕ → ℕ → Result (List Site) ℕ
cells_at octets place = do
  count ← number_in 1 32 octets place 1
  sites_at count [] octets (place + 1)

-- priority, first number, cells
unfoldable pub first_of : List ℕ → Result (List Eea × ℕ × List Site) ℕ
first_of octets = do
  order ← order_at octets 1
  first ← number_in 1 (2 ^ 32 - 1) octets (2 + length order) 4
  cells ← cells_at octets (6 + length order)
  end ← ends_at octets (7 + length order + 7 * length cells)
  Ok (order, first, cells)
