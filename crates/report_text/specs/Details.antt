-- The values that an answer keeps, each as a space, its name, `=` and the value. Numbers are decimal;
-- capabilities, algorithms, MACs, kinds and octets are in lower hex digits, two for each octet.
use Rattle.std.specs.Prelude.{ℕ, List, [], ◌∷◌, ◌++◌, codes}
use Rattle.std.specs.Fmt.{decimal}
use Rattle.hex.specs.Hex.{encode_lower}
use Rattle.alg_choice.specs.declared.algs.Eea.TheVariants.{Eea0, Eea2}
use Rattle.alg_choice.specs.{declared.algs.Eea.Eea, declared.algs.Algs.Algs, declared.caps.Caps.Caps}
use Rattle.rec_base.specs.declared.faults.RecFault.{RecFault}
use Rattle.rec_base.specs.declared.faults.RecFault.TheVariants as fault
use Rattle.lte_events.specs.declared.answers.Answer.{Answer}
use Rattle.lte_events.specs.declared.answers.Answer.TheVariants as answer

-- EEA0 or 128-EEA2, and 128-EIA2, as the octet of a record (TS 24.301 9.9.3.23)
abbrev pub eea_digits : Eea → List ℕ
eea_digits Eea0 = codes "02"
eea_digits Eea2 = codes "22"

abbrev pub algs_digits : Algs → List ℕ
algs_digits algs = eea_digits algs.eea

-- the fault of a record, and the place of the field where it is one of a field
abbrev pub record_fault_number : RecFault → ℕ
record_fault_number fault.Short = 1
record_fault_number fault.Long = 2
record_fault_number fault.BadKind = 3
record_fault_number (fault.BadField place) = 4

abbrev pub fault_place : RecFault → ℕ
fault_place (fault.BadField place) = place
fault_place other = 0

-- the capabilities of the phone, and those received
unfoldable pub caps_text : Caps → Caps → List ℕ
caps_text own got =
    codes " own=" ++ (encode_lower (own.eea ∷ own.eia ∷ []) ++ (codes " got=" ++ encode_lower (got.eea ∷ got.eia ∷ [])))

-- COUNT, the MAC computed and the MAC received
unfoldable pub mac_text : ℕ → List ℕ → List ℕ → List ℕ
mac_text count wanted got =
    codes " count=" ++ (decimal count ++ (codes " wanted=" ++ (encode_lower wanted ++ (codes " got=" ++ encode_lower got))))

abbrev pub details_text : Answer → List ℕ
details_text (answer.WrongKsi held got) = codes " held=" ++ (decimal held ++ (codes " got=" ++ decimal got))
details_text (answer.CapsMismatch own got) = caps_text own got
details_text (answer.AlgUnsupported algs) = codes " algs=" ++ algs_digits algs
details_text (answer.MacFails count wanted got) = mac_text count wanted got
details_text (answer.BadRecord fault) = codes " fault=" ++ (decimal (record_fault_number fault) ++ (codes " place=" ++ decimal (fault_place fault)))
details_text (answer.BadHeader octet) = codes " octet=" ++ encode_lower (octet ∷ [])
details_text (answer.WrongKind kind) = codes " kind=" ++ encode_lower (kind ∷ [])
details_text (answer.Stale outstanding got) = codes " outstanding=" ++ (decimal outstanding ++ (codes " got=" ++ decimal got))
details_text (answer.OldConnection held got) = codes " held=" ++ (decimal held ++ (codes " got=" ++ decimal got))
details_text (answer.AttemptOpen number) = codes " number=" ++ decimal number
details_text (answer.Repeated seen got) = codes " seen=" ++ (decimal seen ++ (codes " got=" ++ decimal got))
details_text (answer.Sent sent) = codes " record=" ++ decimal sent
details_text (answer.RepeatedRoot row) = codes " row=" ++ decimal row
details_text other = []
