-- Room in a text for a verdict line.
use Rattle.std.specs.Prelude.{ℕ}

-- with this much room a verdict line can be added: four numbers of at most 20 digits each, and the words between them
abbrev pub line_room : ℕ
line_room = 96
