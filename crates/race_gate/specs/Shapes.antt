-- The shape of a gate, as the definitions have it.
use Rattle.model_histories.specs.Shapes.{Shape}
use Rattle.text_words.specs.declared.value.Shape.{Shape as DeclaredShape}

abbrev pub shape_of : {A : Type 0} → DeclaredShape A → Shape
shape_of shape = record { cells = shape.cells; monoids = shape.monoids }
