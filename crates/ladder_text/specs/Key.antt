-- What a line says, in numbers: the key by which it is found.
use Rattle.std.specs.Prelude.{◌≡◌, List, [], ◌∷◌}
use Rattle.annex_a_keys.specs.AlgType.{distinguisher}
use Rattle.ladder_text.specs.{declared.key.LineKey.LineKey, declared.line.LadderLine.LadderLine}
use Rattle.ladder_text.specs.declared.key.LineKey.TheVariants as key
use Rattle.ladder_text.specs.declared.line.LadderLine.TheVariants.{Root, Kenb, Nh, Star, Alg}

abbrev pub line_key : LadderLine → LineKey
line_key (Root octets) = key.Root octets
line_key (Kenb root count) = key.Kenb root.0 count
line_key (Nh root sync) = key.Nh root.0 sync.0
line_key (Star from cell) = key.Star from.0 cell.pci cell.earfcn
line_key (Alg from type id) = key.Alg from.0 (distinguisher type) id

-- each line stands under its key
abbrev pub AreKeyed : List (LineKey × LadderLine) → Type 0
AreKeyed [] = Unit {0}
AreKeyed (entry ∷ entries) = (entry.0 ≡ line_key entry.1) × AreKeyed entries
