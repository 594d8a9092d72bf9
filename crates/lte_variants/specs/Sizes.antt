-- How many choices there may be.
use Rattle.std.specs.Prelude.{◌⊎◌, ℕ, ◌≤◌}
use Rattle.item_faults.specs.Entries.{most_steps}
use Rattle.lte_variants.specs.{Named.most_named, Request.most_faults}

-- up to five faults of all messages, and up to eight of those that are named
abbrev pub FewEnough : ℕ → ℕ → Type 0
FewEnough faults messages = ((faults ≤ 5) × (messages ≤ most_steps)) ⊎ ((faults ≤ most_faults) × (messages ≤ most_named))
