-- What the parts of a word name, and why they name no location.
use Rattle.std.specs.Prelude.{ℕ, true, ◌⊎◌, List}
use Rattle.text_words.specs.declared.fault.Cause.{Cause}
use Rattle.text_words.specs.declared.fault.Cause.TheVariants.{BadWord, BadNumber, UnknownName}
use Rattle.text_words.specs.Text.{IsName}
use Rattle.text_words.specs.Names.{SingleMeans}
use Rattle.trace_text.specs.Faults.{IsUndeclared}
use Rattle.model_bodies.specs.declared.statement.Location.{Location}
use Rattle.model_bodies.specs.declared.statement.Location.TheVariants.{Cell, Element}
use Rattle.program_lines.specs.Scopes.{NameScope}
use Rattle.program_lines.specs.Places.{ElementMeans}
use Rattle.program_lines.specs.Faults.{HasOperandShape, IsNoNumber, IsNoRegister}

abbrev pub SingleIs : NameScope → List ℕ → Location → Type 0
SingleIs scope name (Cell cell) = SingleMeans scope.known.mems name cell
SingleIs scope name (Element first count operand) = ⊥

abbrev pub ElementIs : NameScope → (name index : List ℕ) → Location → Type 0
ElementIs scope name index (Cell cell) = ⊥
ElementIs scope name index (Element first count operand) = ElementMeans scope name index first count operand

abbrev pub IsElementFault : NameScope → (name index : List ℕ) → Cause → Type 0
IsElementFault scope name index BadWord = IsName name → HasOperandShape index → ⊥
IsElementFault scope name index BadNumber = IsName name × IsNoNumber index
IsElementFault scope name index UnknownName =
    IsName name × HasOperandShape index × (IsNoNumber index → ⊥)
    × (IsUndeclared scope.known.mems name true ⊎ IsNoRegister scope.registers index)
IsElementFault scope name index cause = ⊥
