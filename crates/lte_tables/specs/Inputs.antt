-- The lines of the inputs of actors: whom a frame tells one, its kind, and its name.
use Rattle.std.specs.Prelude.{◌≡◌, ℕ, List, [], ◌∷◌, ◌++◌, map, codes}
use Rattle.std.specs.List.{flat_map}
use Rattle.rec_fields.specs.Layout.{Readers}
use Rattle.role_wire.specs.Reading.{phone_rows, station_rows, core_rows}
use Rattle.lte_tables.specs.Numeral.{numeral}

-- by kind
abbrev pub Inputs : Type 0
Inputs = List (ℕ × List ℕ)

abbrev pub phone_inputs : Inputs
phone_inputs =
    (0x01, codes "Auth")
    ∷ (0x02, codes "Nas")
    ∷ (0x03, codes "Air")
    ∷ (0x10, codes "ServiceRequest")
    ∷ (0x11, codes "ResendComplete")
    ∷ (0x12, codes "GoIdle")
    ∷ (0x13, codes "SendUser")
    ∷ (0x14, codes "SendRrc")
    ∷ (0x15, codes "SendNas")
    ∷ (0x16, codes "Skip")
    ∷ []

abbrev pub station_inputs : Inputs
station_inputs =
    (0x03, codes "Air")
    ∷ (0x04, codes "S1")
    ∷ (0x05, codes "X2")
    ∷ (0x13, codes "SendUser")
    ∷ (0x14, codes "SendRrc")
    ∷ (0x16, codes "Skip")
    ∷ (0x30, codes "Start")
    ∷ (0x31, codes "Command")
    ∷ (0x32, codes "Cancel")
    ∷ (0x33, codes "Ask")
    ∷ []

abbrev pub core_inputs : Inputs
core_inputs =
    (0x01, codes "Auth")
    ∷ (0x02, codes "Nas")
    ∷ (0x04, codes "S1")
    ∷ (0x15, codes "SendNas")
    ∷ (0x16, codes "Skip")
    ∷ (0x20, codes "StartSmc")
    ∷ (0x21, codes "Connect")
    ∷ (0x22, codes "Release")
    ∷ []

-- `input station 48 Start`
abbrev pub input_line : List ℕ → ℕ × List ℕ → List ℕ
input_line who input = codes "input " ++ (who ++ (codes " " ++ (numeral input.0 ++ (codes " " ++ (input.1 ++ codes "\n")))))

unfoldable pub input_lines : List ℕ
input_lines =
    flat_map (input_line (codes "phone")) phone_inputs
    ++ (flat_map (input_line (codes "station")) station_inputs ++ flat_map (input_line (codes "core")) core_inputs)

-- the kinds that are read are those of these lines
abbrev pub kinds_of : {X : Type 0} → List (ℕ × X) → List ℕ
kinds_of rows = map (λ row. row.0) rows

pub record AreInputs : Type 0 where
  pub phone : kinds_of phone_inputs ≡ kinds_of phone_rows
  pub station : kinds_of station_inputs ≡ kinds_of station_rows
  pub core : kinds_of core_inputs ≡ kinds_of core_rows
