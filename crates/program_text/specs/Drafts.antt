-- What was read of a program so far.
use Rattle.std.specs.Prelude.{ℕ, ◌+◌, Bool, Option, Some, None, List, [], ◌∷◌, ◌++◌, length, slice_get, slice_set}
use Rattle.text_words.specs.Values.{Known}
use Rattle.model_bodies.specs.declared.statement.Register.{Register}
use Rattle.model_bodies.specs.declared.statement.Statement.{Statement}
use Rattle.model_bodies.specs.declared.statement.Statement.TheVariants.{If, Else, End}
use Rattle.program_lines.specs.Scopes.{NameScope}
use Rattle.program_text.specs.declared.open_function.Part.{Part}
use Rattle.model_bodies.specs.Codes.{Code}

-- A function that has not ended: its parts that have not ended stand innermost first.
pub record Open : Type 0 where
  pub name : List ℕ
  pub parameter : List ℕ
  pub line : ℕ
  pub registers : List (List ℕ)
  pub body : List Statement
  pub parts : List Part

-- What was read so far: the declarations, the functions that have ended and the one that has not, and how many lines with words
-- there are from the first `func` on.
pub record Draft : Type 0 where
  pub known : Known
  pub functions : List Code
  pub current : Option Open
  pub lines : ℕ

-- What a program holds.
pub record Contents : Type 0 where
  pub known : Known
  pub functions : List Code

-- What was read so far, as what a program holds.
abbrev pub held : Draft → Contents
held so_far = record { known = so_far.known; functions = so_far.functions }

-- How many functions have begun.
abbrev pub begun_by : List Code → Option Open → ℕ
begun_by functions None = length functions
begun_by functions (Some current) = length functions + 1

abbrev pub begun : Draft → ℕ
begun so_far = begun_by so_far.functions so_far.current

-- The registers that the open function knows.
abbrev pub registers_of : Option Open → List (List ℕ)
registers_of None = []
registers_of (Some current) = current.registers

-- What a line is read in, where the text has these functions.
abbrev pub scope_of : List (List ℕ) → Draft → NameScope
scope_of names so_far = record { known = so_far.known; functions = names; begun = begun so_far; registers = registers_of so_far.current }

-- ---- one more line of a function

abbrev pub first_open : ℕ → List ℕ → List ℕ → Open
first_open at name parameter = record { name = name; parameter = parameter; line = at; registers = parameter ∷ []; body = []; parts = [] }

abbrev pub with_register : Open → Option (List ℕ) → Open
with_register current None = current
with_register current (Some name) = record current { registers = current.registers ++ name ∷ [] }

abbrev pub with_statement : Open → Statement → Open
with_statement current statement = record current { body = current.body ++ statement ∷ [] }

-- An `if`, whose first part begins.
abbrev pub with_choice : ℕ → Open → Register → Open
with_choice at current register =
    record current {
      body = current.body ++ If at register 0 ∷ [];
      parts = (record { place = length current.body; second = Bool.false }) ∷ current.parts;
    }

-- The statement, and where the part behind it ends.
abbrev pub ending : ℕ → Statement → Statement
ending to (If line register otherwise) = If line register to
ending to (Else line after) = Else line to
ending to statement = statement

abbrev pub ended_at : Option Statement → ℕ → ℕ → List Statement → List Statement
ended_at None place to body = body
ended_at (Some statement) place to body = slice_set body place (ending to statement)

-- The body in which the part behind the statement at that place ends.
abbrev pub with_end : ℕ → ℕ → List Statement → List Statement
with_end place to body = ended_at (slice_get body place) place to body

-- An `else`: the innermost part ends behind it, and the second begins.
abbrev pub divided_by : ℕ → Open → List Part → Open
divided_by at current [] = current
divided_by at current (part ∷ parts) =
    record current {
      body = with_end part.place (length current.body + 1) current.body ++ Else at 0 ∷ [];
      parts = (record { place = length current.body; second = Bool.true }) ∷ parts;
    }

abbrev pub with_else : ℕ → Open → Open
with_else at current = divided_by at current current.parts

-- An `end` of an `if`: the innermost part ends behind it.
abbrev pub with_part_ended : ℕ → Open → Part → List Part → Open
with_part_ended at current part parts = record current {
  body = with_end part.place (length current.body + 1) current.body ++ End at ∷ [];
  parts = parts;
}

-- The function, whose `end` stands on that line.
abbrev pub code_of : ℕ → Open → Code
code_of at current =
    record {
      name = current.name;
      parameter = current.parameter;
      line = current.line;
      end_line = at;
      registers = current.registers;
      body = current.body;
    }
