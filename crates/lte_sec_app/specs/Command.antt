-- The words that the program takes.
use Rattle.std.specs.Prelude.{ℕ, ◌≤◌, nat_lt, ◌||◌, String, Option, Some, None, List, [], ◌∷◌, codes, if◌then◌else◌}
use Rattle.std.specs.{declared.alloc.Global.Global, Option.option_map, Option.option_and_then, Str.bytes_eq, String.string_bytes}
use Rattle.text_lines.specs.Words.{number_of}
use Rattle.lte_sec_app.specs.{declared.command.Command.Command, declared.command.TextCommand.TextCommand, Roles.role_of}
use Rattle.lte_sec_app.specs.declared.command.Command.TheVariants.{Text, Drive, Serve, Gen}
use Rattle.lte_sec_app.specs.declared.command.TextCommand.TheVariants.{Ladder, Run, Fleet, Two, Audit}
use Rattle.role_wire.specs.Ranges.{IsRole}

-- the greatest number of steps of a generated scenario
abbrev pub most_steps : ℕ
most_steps = 100000

-- the words behind `gen`: the steps, 1 to 100,000, and the seed, of 32 bits
abbrev pub generator_by : List ℕ → List ℕ → Option Command
generator_by steps seed = option_and_then (λ n. option_and_then (λ s.
    if nat_lt n 1 || nat_lt most_steps n then None else Some (Gen n s)) (number_of seed)) (number_of steps)

abbrev pub generator_of : List (String Global) → Option Command
generator_of (steps ∷ seed ∷ []) = generator_by (string_bytes steps) (string_bytes seed)
generator_of words = None

-- the command that reads a text, of this word
abbrev pub text_command : List ℕ → Option TextCommand
text_command word =
    if bytes_eq word (codes "ladder") then Some Ladder
    else if bytes_eq word (codes "run") then Some Run
    else if bytes_eq word (codes "fleet") then Some Fleet
    else if bytes_eq word (codes "two") then Some Two
    else if bytes_eq word (codes "audit") then Some Audit
    else None

-- a word alone
abbrev pub one_word : List ℕ → Option Command
one_word word = if bytes_eq word (codes "drive") then Some Drive else option_map Text (text_command word)

-- a word with others behind it
abbrev pub more_words : List ℕ → List (String Global) → Option Command
more_words word words =
    if bytes_eq word (codes "serve") then option_map Serve (role_of words)
    else if bytes_eq word (codes "gen") then generator_of words
    else None

-- the command that these words are, if they are one
abbrev pub named : List (String Global) → Option Command
named [] = None
named (word ∷ []) = one_word (string_bytes word)
named (word ∷ words) = more_words (string_bytes word) words

-- a role that is served is one of the system, and the steps are within their bounds
abbrev pub IsCommand : Command → Type 0
IsCommand (Serve role) = IsRole role
IsCommand (Gen steps seed) = (1 ≤ steps) × (steps ≤ most_steps)
IsCommand command = Unit {0}
