-- Whether each of a list stands there once.
use Rattle.std.specs.Prelude.{◌≡◌, ◌⊎◌, ℕ, List, [], ◌∷◌, map}
use Rattle.item_faults.specs.declared.entries.Entry.{Entry}

abbrev pub Among : {A : Type 0} → A → List A → Type 0
Among x [] = ⊥
Among x (y ∷ ys) = (x ≡ y) ⊎ Among x ys

-- none of them stands behind itself
abbrev pub Once : {A : Type 0} → List A → Type 0
Once [] = Unit {0}
Once (x ∷ xs) = ¬ (Among x xs) × Once xs

-- the names of items
abbrev pub names : List Entry → List ℕ
names entries = map (λ e. e.name) entries
