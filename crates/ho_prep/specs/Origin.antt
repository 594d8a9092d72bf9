-- How a preparation came.
use Rattle.std.specs.Prelude.{◌≤◌, ◌<◌, ◌^◌, Some}
use Rattle.ho_prep.specs.{declared.origins.By.By, declared.origins.By.TheVariants.Intra}

-- the source is a station, 0 to 7, and attempts begin at 1
abbrev pub IsOrigin : By → Type 0
IsOrigin (Intra (Some (source, attempt))) = (source ≤ 7) × (1 ≤ attempt) × (attempt < 2 ^ 32)
IsOrigin other = Unit {0}
