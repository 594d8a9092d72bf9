-- The fields of one octet that stand for a value, each by its table.
use Rattle.std.specs.Prelude.{ℕ, ◌==◌, if◌then◌else◌, List, [], ◌∷◌, Option, Some, None}
use Rattle.rec_base.specs.{declared.bearers.Bearer.Bearer, Bearer.octet_of}
use Rattle.rec_base.specs.declared.bearers.Bearer.TheVariants.{Srb1, Srb2, Drb1, Drb2, Drb3, Drb4}
use Rattle.alg_choice.specs.declared.algs.Eea.{Eea}
use Rattle.alg_choice.specs.declared.algs.Eea.TheVariants.{Eea0, Eea2}
use Rattle.lte_events.specs.declared.acts.HoKind.{HoKind}
use Rattle.lte_events.specs.declared.acts.HoKind.TheVariants.{X2, S1, Intra}

-- octets, each with the value that it stands for
abbrev pub Codes : Type 0 → Type 0
Codes A = List (ℕ × A)

-- what an octet stands for
abbrev pub coded : {A : Type 0} → Codes A → ℕ → Option A
coded [] octet = None
coded (row ∷ rows) octet = if octet == row.0 then Some row.1 else coded rows octet

-- the signalling bearers
abbrev pub srbs : Codes Bearer
srbs = (0x01, Srb1) ∷ (0x02, Srb2) ∷ []

-- the data bearers
abbrev pub drbs : Codes Bearer
drbs = (0x81, Drb1) ∷ (0x82, Drb2) ∷ (0x83, Drb3) ∷ (0x84, Drb4) ∷ []

-- all bearers
abbrev pub bearers : Codes Bearer
bearers = (0x01, Srb1) ∷ (0x02, Srb2) ∷ (0x81, Drb1) ∷ (0x82, Drb2) ∷ (0x83, Drb3) ∷ (0x84, Drb4) ∷ []

-- what a Skip of the core names: NAS alone
abbrev pub nas_alone : Codes (Unit {0})
nas_alone = (0x00, tt) ∷ []

-- and its octet
abbrev pub nas_octet : Unit {0} → ℕ
nas_octet nas = 0x00

-- what a Skip of the phone names: NAS or a bearer
abbrev pub nas_or_bearer : Codes (Option Bearer)
nas_or_bearer =
    (0x00, None) ∷ (0x01, Some Srb1) ∷ (0x02, Some Srb2) ∷ (0x81, Some Drb1) ∷ (0x82, Some Drb2) ∷ (0x83, Some Drb3) ∷ (0x84, Some Drb4) ∷ []

-- and its octet
abbrev pub skip_octet : Option Bearer → ℕ
skip_octet None = 0x00
skip_octet (Some bearer) = octet_of bearer

-- the kinds of handover
abbrev pub ho_kinds : Codes HoKind
ho_kinds = (0x00, X2) ∷ (0x01, S1) ∷ (0x02, Intra) ∷ []

-- and their octets
abbrev pub ho_octet : HoKind → ℕ
ho_octet X2 = 0x00
ho_octet S1 = 0x01
ho_octet Intra = 0x02

-- the encryption algorithms, by their identity (TS 33.401 5.1.3.2)
abbrev pub eeas : Codes Eea
eeas = (0x00, Eea0) ∷ (0x02, Eea2) ∷ []

-- those other than a first one
abbrev pub eeas_but : Eea → Codes Eea
eeas_but Eea0 = (0x02, Eea2) ∷ []
eeas_but Eea2 = (0x00, Eea0) ∷ []
