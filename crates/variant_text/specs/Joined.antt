-- Parts of a text with a separator between them.
use Rattle.std.specs.Prelude.{ℕ, List, [], ◌∷◌, ◌++◌}

-- a part behind what stands so far
unfoldable pub joined : List ℕ → List ℕ → List ℕ → List ℕ
joined between [] part = part
joined between (c ∷ text) part = (c ∷ text) ++ between ++ part
