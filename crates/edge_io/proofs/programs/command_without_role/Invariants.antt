use Rattle.std.proofs.Common.{◌≡◌, map, take, string_bytes}
use Rattle.std.specs.{Process.command_program, Process.command_args, Path.path_buf_bytes}
use Rattle.edge_io.proofs.programs.command_without_role.Given as goal

abbrev pub invariant-words : goal.invariant-words
invariant-words l =
    (command_program l.command ≡ path_buf_bytes l.program.path)
    × (command_args l.command ≡ map string_bytes (take l.word-index l.word-items))
