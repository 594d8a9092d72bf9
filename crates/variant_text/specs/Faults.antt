-- Faults of a scenario's messages as a text: `lost 9`, `late 9 12`, `twice 9 12`, `again 9`; of several with a comma between.
use Rattle.std.specs.Prelude.{ℕ, List, [], ◌∷◌, ◌++◌, codes}
use Rattle.std.specs.Fmt.{decimal}
use Rattle.item_faults.specs.{declared.changes.Fault.Fault, declared.changes.Kind.Kind}
use Rattle.item_faults.specs.declared.changes.Kind.TheVariants as kind
use Rattle.variant_text.specs.Joined.{joined}

abbrev pub kind_name : Kind → List ℕ
kind_name kind.Lost = codes "lost"
kind_name kind.Late = codes "late"
kind_name kind.Twice = codes "twice"
kind_name kind.Again = codes "again"

-- the step behind which a late message or a copy comes
abbrev pub place_text : Kind → ℕ → List ℕ
place_text kind.Lost after = []
place_text kind.Late after = codes " " ++ decimal after
place_text kind.Twice after = codes " " ++ decimal after
place_text kind.Again after = []

unfoldable pub fault_text : Fault → List ℕ
fault_text f = kind_name f.kind ++ (codes " " ++ (decimal f.message ++ place_text f.kind f.after))

unfoldable pub faults_from : List ℕ → List Fault → List ℕ
faults_from text [] = text
faults_from text (f ∷ fs) = faults_from (joined (codes ", ") text (fault_text f)) fs

abbrev pub faults_text : List Fault → List ℕ
faults_text faults = faults_from [] faults
