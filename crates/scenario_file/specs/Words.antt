-- The words and the hex texts that stand as values of a scenario.
use Rattle.std.specs.Prelude.{ℕ, ◌/◌, ◌==◌, nat_lt, nat_le, ◌&&◌, ◌^◌, if◌then◌else◌, ℤ, pos, negsuc, List, [], ◌∷◌, length, codes, Option, Some, None, option_and_then}
use Rattle.std.specs.{Str.bytes_eq, Result.result_ok}
use Rattle.hex.specs.Hex.{decode_of, decode_sized}
use Rattle.alg_choice.specs.{declared.caps.Caps.Caps, declared.algs.Eea.Eea}
use Rattle.alg_choice.specs.declared.algs.Eea.TheVariants.{Eea0, Eea2}
use Rattle.annex_a_keys.specs.Cell.{Place, greatest_pci, greatest_earfcn}
use Rattle.lte_events.specs.declared.setups.FirstNcc.{FirstNcc}
use Rattle.lte_events.specs.declared.setups.FirstNcc.TheVariants.{One, Two}
use Rattle.rec_base.specs.declared.bearers.Bearer.{Bearer}
use Rattle.rec_base.specs.declared.bearers.Bearer.TheVariants.{Srb1, Srb2, Drb1, Drb2, Drb3, Drb4}
use Rattle.scenario_file.specs.{declared.words.Act.Act, declared.words.Actor.Actor, declared.words.RadioEnd.RadioEnd, declared.words.NasEnd.NasEnd}
use Rattle.scenario_file.specs.declared.words.Act.TheVariants as act
use Rattle.scenario_file.specs.declared.words.Actor.TheVariants as actor
use Rattle.scenario_file.specs.declared.words.RadioEnd.TheVariants as radio
use Rattle.scenario_file.specs.declared.words.NasEnd.TheVariants as nas

-- the words of `do`
abbrev pub act_of : List ℕ → Option Act
act_of word =
    if bytes_eq word (codes "auth") then Some act.Auth
    else (if bytes_eq word (codes "smc") then Some act.Smc
    else (if bytes_eq word (codes "release") then Some act.Release
    else (if bytes_eq word (codes "service") then Some act.Service
    else (if bytes_eq word (codes "resend") then Some act.Resend
    else (if bytes_eq word (codes "idle") then Some act.Idle
    else (if bytes_eq word (codes "connect") then Some act.Connect
    else (if bytes_eq word (codes "x2") then Some act.X2
    else (if bytes_eq word (codes "s1") then Some act.S1
    else (if bytes_eq word (codes "intra") then Some act.Intra
    else (if bytes_eq word (codes "command") then Some act.Command
    else (if bytes_eq word (codes "cancel") then Some act.Cancel
    else (if bytes_eq word (codes "ask") then Some act.Ask
    else (if bytes_eq word (codes "deliver") then Some act.Deliver
    else (if bytes_eq word (codes "user") then Some act.User
    else (if bytes_eq word (codes "rrc") then Some act.Rrc
    else (if bytes_eq word (codes "nas") then Some act.Nas
    else (if bytes_eq word (codes "skip") then Some act.Skip
    else (if bytes_eq word (codes "inject") then Some act.Inject
    else None))))))))))))))))))

-- one of the actors; one that has a radio interface; one that speaks NAS
abbrev pub actor_of : List ℕ → Option Actor
actor_of word =
    if bytes_eq word (codes "phone") then Some actor.Phone
    else (if bytes_eq word (codes "station") then Some actor.Station
    else (if bytes_eq word (codes "core") then Some actor.Core
    else None))

abbrev pub radio_end_of : List ℕ → Option RadioEnd
radio_end_of word =
    if bytes_eq word (codes "phone") then Some radio.Phone
    else (if bytes_eq word (codes "station") then Some radio.Station
    else None)

abbrev pub nas_end_of : List ℕ → Option NasEnd
nas_end_of word =
    if bytes_eq word (codes "phone") then Some nas.Phone
    else (if bytes_eq word (codes "core") then Some nas.Core
    else None)

-- an SRB, a DRB, either, or NAS
abbrev pub srb_of : List ℕ → Option Bearer
srb_of word =
    if bytes_eq word (codes "srb1") then Some Srb1
    else (if bytes_eq word (codes "srb2") then Some Srb2
    else None)

abbrev pub drb_of : List ℕ → Option Bearer
drb_of word =
    if bytes_eq word (codes "drb1") then Some Drb1
    else (if bytes_eq word (codes "drb2") then Some Drb2
    else (if bytes_eq word (codes "drb3") then Some Drb3
    else (if bytes_eq word (codes "drb4") then Some Drb4
    else None)))

abbrev pub bearer_of : List ℕ → Option Bearer
bearer_of word =
    if bytes_eq word (codes "srb1") then Some Srb1
    else (if bytes_eq word (codes "srb2") then Some Srb2
    else (if bytes_eq word (codes "drb1") then Some Drb1
    else (if bytes_eq word (codes "drb2") then Some Drb2
    else (if bytes_eq word (codes "drb3") then Some Drb3
    else (if bytes_eq word (codes "drb4") then Some Drb4
    else None)))))

-- `nas` alone
abbrev pub nas_of : List ℕ → Option (Unit {0})
nas_of word = if bytes_eq word (codes "nas") then Some tt else None

-- a bearer of the phone, or none for `nas`
abbrev pub in_some : Option Bearer → Option (Option Bearer)
in_some None = None
in_some (Some bearer) = Some (Some bearer)

abbrev pub path_of : List ℕ → Option (Option Bearer)
path_of word = if bytes_eq word (codes "nas") then Some None else in_some (bearer_of word)

-- EEA0 to EEA7 and EIA0 to EIA7 in 4 hex digits
abbrev pub caps_from : List ℕ → Option Caps
caps_from (eea ∷ eia ∷ []) = Some (record { eea = eea; eia = eia })
caps_from other = None

unfoldable pub caps_of : List ℕ → Option Caps
caps_of word = option_and_then caps_from (result_ok (decode_sized word 2))

-- a key of 32 octets in 64 hex digits
unfoldable pub key_of : List ℕ → Option (List ℕ)
key_of word = result_ok (decode_sized word 32)

-- octets in hex digits, at most so many
unfoldable pub octets_of : ℕ → List ℕ → Option (List ℕ)
octets_of most word = if nat_le (length word / 2) most then result_ok (decode_of word) else None

-- an integer as a number of 32 bits
abbrev pub natural : ℤ → Option ℕ
natural (pos n) = if nat_lt n (2 ^ 32) then Some n else None
natural (negsuc n) = None

-- a number from `low` to `high`
abbrev pub in_range : ℕ → ℕ → ℕ → Option ℕ
in_range low high n = if nat_le low n && nat_le n high then Some n else None

-- EEA0 and 128-EEA2, by their identities
abbrev pub eea_of : ℤ → Option Eea
eea_of (pos n) = if n == 0 then Some Eea0 else (if n == 2 then Some Eea2 else None)
eea_of (negsuc n) = None

-- the NCC of a first pair, 1 or 2
abbrev pub first_ncc_of : ℤ → Option FirstNcc
first_ncc_of (pos n) = if n == 1 then Some One else (if n == 2 then Some Two else None)
first_ncc_of (negsuc n) = None

-- PCI and EARFCN-DL, both in their ranges
abbrev pub place_of : ℕ → ℕ → Option Place
place_of pci earfcn =
    if nat_le pci greatest_pci && nat_le earfcn greatest_earfcn then Some (record { pci = pci; earfcn = earfcn }) else None
