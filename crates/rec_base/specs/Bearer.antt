-- The six radio bearers: which are SRBs and DRBs, their octets and their BEARER.
use Rattle.std.specs.Prelude.{ℕ, ◌-◌, ◌==◌, if◌then◌else◌, Option, Some, None}
use Rattle.rec_base.specs.declared.bearers.Bearer.{Bearer}
use Rattle.rec_base.specs.declared.bearers.Bearer.TheVariants.{Srb1, Srb2, Drb1, Drb2, Drb3, Drb4}

-- a signalling radio bearer
abbrev pub IsSrb : Bearer → Type 0
IsSrb Srb1 = Unit {0}
IsSrb Srb2 = Unit {0}
IsSrb other = ⊥

-- a data radio bearer
abbrev pub IsDrb : Bearer → Type 0
IsDrb Drb1 = Unit {0}
IsDrb Drb2 = Unit {0}
IsDrb Drb3 = Unit {0}
IsDrb Drb4 = Unit {0}
IsDrb other = ⊥

-- the bearer identity: srb-Identity and drb-Identity of TS 36.331 6.3.2
abbrev pub identity_of : Bearer → ℕ
identity_of Srb1 = 1
identity_of Srb2 = 2
identity_of Drb1 = 1
identity_of Drb2 = 2
identity_of Drb3 = 3
identity_of Drb4 = 4

-- BEARER is the bearer identity minus 1 (TS 36.323 5.6 and 5.7)
abbrev pub bearer5_of : Bearer → ℕ
bearer5_of bearer = identity_of bearer - 1

-- the octet of a record: the identity, with the highest bit set on a DRB
abbrev pub octet_of : Bearer → ℕ
octet_of Srb1 = 0x01
octet_of Srb2 = 0x02
octet_of Drb1 = 0x81
octet_of Drb2 = 0x82
octet_of Drb3 = 0x83
octet_of Drb4 = 0x84

-- the bearer with this octet
abbrev pub bearer_of : ℕ → Option Bearer
bearer_of octet =
    if octet == 0x01 then Some Srb1
    else (if octet == 0x02 then Some Srb2
    else (if octet == 0x81 then Some Drb1
    else (if octet == 0x82 then Some Drb2
    else (if octet == 0x83 then Some Drb3
    else (if octet == 0x84 then Some Drb4
    else None)))))
