-- Rows of statements: what they say does not hang on the places that an `if` and an `else` name.
use Rattle.std.proofs.Common.{◌≡◌, ℕ, List, refl}
use Rattle.text_words.specs.Values.{Known}
use Rattle.model_bodies.specs.declared.statement.Statement.{Statement}
use Rattle.model_bodies.specs.declared.statement.Statement.TheVariants.{Let, Read, Write, Bump, Update, Put, Get, Spawn, Call, Sync, ParallelFor, If, Else, End}
use Rattle.program_text.specs.Drafts.{ending, with_end}
use Rattle.program_text.proofs.Linked.{map_ended}
use Rattle.program_text.specs.Printing.{statement_row, body_rows}

module _ (known : Known) (names registers : List (List ℕ)) where
  ending_row : (to : ℕ) (statement : Statement) → statement_row known names registers (ending to statement) ≡ statement_row known names registers statement
  ending_row to (Let line register value) = refl
  ending_row to (Read line register location) = refl
  ending_row to (Write line location value) = refl
  ending_row to (Bump line location value) = refl
  ending_row to (Update line reducer value) = refl
  ending_row to (Put line reducer value) = refl
  ending_row to (Get line register reducer) = refl
  ending_row to (Spawn line function argument) = refl
  ending_row to (Call line function argument) = refl
  ending_row to (Sync line) = refl
  ending_row to (ParallelFor line register count function) = refl
  ending_row to (If line register otherwise) = refl
  ending_row to (Else line after) = refl
  ending_row to (End line) = refl

  pub end_rows : (place to : ℕ) (body : List Statement) → body_rows known names registers (with_end place to body) ≡ body_rows known names registers body
  end_rows place to body = map_ended (statement_row known names registers) ending_row place to body
