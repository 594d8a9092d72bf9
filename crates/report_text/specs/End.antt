-- The line of a report behind its last event.
use Rattle.std.specs.Prelude.{ℕ, List, ◌++◌, codes}
use Rattle.std.specs.Fmt.{decimal}

-- how many events there were, how many records were sent, and how many rows the ladder has
unfoldable pub end_text : ℕ → ℕ → ℕ → List ℕ
end_text events records rows =
    codes "end " ++ (decimal events ++ (codes " " ++ (decimal records ++ (codes " " ++ (decimal rows ++ codes "\n")))))
