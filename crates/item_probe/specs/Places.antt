-- The places of the probe's acts, in a list that begins with so many events of a scenario and the 26 acts of item_faults.
use Rattle.std.specs.Prelude.{ℕ, ◌+◌, ◌*◌}

-- so many acts stand behind those of the scenario
abbrev pub more_acts : ℕ
more_acts = 58

abbrev pub send_up : ℕ → ℕ
send_up steps = steps + 26

abbrev pub send_again : ℕ → ℕ
send_again steps = steps + 27

abbrev pub send_nas_up : ℕ → ℕ
send_nas_up steps = steps + 28

abbrev pub send_nas_down : ℕ → ℕ
send_nas_down steps = steps + 29

abbrev pub go_idle : ℕ → ℕ
go_idle steps = steps + 30

abbrev pub send_down : ℕ → ℕ → ℕ
send_down steps station = steps + 31 + 3 * station

abbrev pub begins_at : ℕ → ℕ → ℕ
begins_at steps station = steps + 32 + 3 * station

abbrev pub connects_at : ℕ → ℕ → ℕ
connects_at steps station = steps + 33 + 3 * station

abbrev pub authenticates : ℕ → ℕ
authenticates steps = steps + 55

abbrev pub begins_security : ℕ → ℕ
begins_security steps = steps + 56

abbrev pub send_anew : ℕ → ℕ
send_anew steps = steps + 57
