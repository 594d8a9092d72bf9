-- FEW STEPS KEEP KEYS: how often the core steps its chain in a run, and that no key parts where that is not often.
use Rattle.std.specs.Prelude.{◌≡◌, ℕ, ◌+◌, ◌≤◌, ◌<◌, Bool, true, false, [], Option, Some, None}
use Rattle.std.specs.List.{count_by}
use Rattle.rec_base.specs.declared.ways.Way.{Way}
use Rattle.rec_base.specs.declared.ways.Way.TheVariants.{Chained}
use Rattle.lte_events.specs.declared.{lines.Who.Who, replies.KeyNote.KeyNote, setups.FirstNcc.FirstNcc}
use Rattle.lte_events.specs.declared.setups.FirstNcc.TheVariants.{One, Two}
use Rattle.item_lines.specs.declared.lines.Told.{Told}
use Rattle.item_outcomes.specs.Keys.{parted}
use Rattle.item_runs.specs.Course.{Seen}

-- the number at which each chain of the core begins: that of KeNB, or of the first NH where the core keeps that (TS 33.401 7.2.8.1.1)
abbrev pub begins_at : FirstNcc → ℕ
begins_at One = 0
begins_at Two = 1

-- at this line the core steps its chain (7.2.8.4.2, 7.2.8.4.3)
abbrev pub is_chained : Way → Bool
is_chained Chained = true
is_chained other = false

abbrev pub tells_chained : Option KeyNote → Bool
tells_chained None = false
tells_chained (Some note) = is_chained note.way

abbrev pub steps_chain : Told → Bool
steps_chain t = tells_chained t.line.note

-- at this line is an authentication
abbrev pub is_both : Who → Bool
is_both Who.Both = true
is_both other = false

abbrev pub authenticates : Told → Bool
authenticates t = is_both t.line.who

-- there is one authentication, and no chain of the core comes to number 8
pub record FewSteps (s : Seen) : Type 0 where
  pub one : count_by authenticates s.coming.told ≤ 1
  pub few : begins_at s.setup.core_first_ncc + count_by steps_chain s.coming.told < 8

-- THEN NO KEY PARTS
abbrev pub FewKeep : Seen → Type 0
FewKeep s = FewSteps s → parted s.coming.told ≡ []
