-- The words of what the code prints of a statement behind its keyword.
use Rattle.std.specs.Prelude.{ℕ, List, [], ◌∷◌}
use Rattle.program_lines.specs.declared.print.Argument.{Argument}
use Rattle.program_lines.specs.declared.print.Argument.TheVariants.{Nothing, Word, Value, Place, Computed}
use Rattle.model_bodies.specs.declared.statement.Expression.{Expression}
use Rattle.program_lines.specs.Scopes.{NameScope}
use Rattle.program_lines.specs.Places.{OperandWord, Sign}
use Rattle.program_lines.specs.Grammar.{expression_values}
use Rattle.program_lines.specs.Printing.{operand_word, location_word, plain_words}

-- The words behind `=`.
abbrev pub computed_words : NameScope → Expression → List (List ℕ)
computed_words scope value = plain_words scope (OperandWord ∷ []) (Sign ∷ OperandWord ∷ []) (expression_values value)

abbrev pub words_of_argument : NameScope → Argument → List (List ℕ)
words_of_argument scope Nothing = []
words_of_argument scope (Word word) = word.now ∷ []
words_of_argument scope (Value operand) = operand_word scope.registers operand ∷ []
words_of_argument scope (Place location) = location_word scope.known.mems scope.registers location ∷ []
words_of_argument scope (Computed value) = computed_words scope value
