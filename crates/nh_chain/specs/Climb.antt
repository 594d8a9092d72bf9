-- The NH that a climb of a chain reaches, and what a phone derives from it (TS 33.401 7.2.8.4.4).
use Rattle.std.specs.Prelude.{ℕ, zero, suc, Option, None, Some}
use Rattle.rec_base.specs.declared.ways.Way.{Way}
use Rattle.rec_base.specs.declared.ways.Way.TheVariants.{Horizontal, Vertical}
use Rattle.key_model.specs.{Reading.Reading, HandoverLines.nh_after}

-- the NH after so many steps, none after none
abbrev pub nh_reached : {K C : Type 0} → Reading K C → K → K → ℕ → Option K
nh_reached r root sync zero = None
nh_reached r root sync (suc steps) = Some (nh_after r root sync (suc steps))

-- the key of which KeNB* is derived: the active KeNB where no NH was reached
abbrev pub base_by : {K : Type 0} → Option K → K → K
base_by None active = active
base_by (Some nh) active = nh

abbrev pub way_by : {K : Type 0} → Option K → Way
way_by None = Horizontal
way_by (Some nh) = Vertical
