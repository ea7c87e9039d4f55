-- The shape that a program declares.
use Rattle.std.specs.Prelude.{map}
use Rattle.text_words.specs.Declarations.{cells_of}
use Rattle.model_histories.specs.Shapes.{Shape}
use Rattle.program_text.specs.declared.program.Program.{Program}

-- what a program declares
abbrev pub shape_in : {A : Type 0} → Program A → Shape
shape_in program = record { cells = cells_of program.mems; monoids = map (λ reducer. reducer.monoid) program.reducers }
