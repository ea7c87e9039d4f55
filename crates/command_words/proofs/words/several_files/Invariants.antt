use Rattle.std.proofs.Common.{◌≡◌, ◌≢◌, map, take}
use Rattle.std.specs.List.{All}
use Rattle.std.specs.String.{string_bytes}
use Rattle.command_words.specs.Asked.{input_word}
use Rattle.command_words.proofs.words.several_files.Given as goal

abbrev pub invariant-loop-name : goal.invariant-loop-name
invariant-loop-name l =
    (map string_bytes l.files.items ≡ map (λ name. name.now) (take l.name-index l.names))
    × All (λ file. string_bytes file ≢ input_word) l.files.items
