-- What is read of a program, and what is written of its elision.
use Rattle.std.specs.Prelude.{ℕ, ◌≡◌, ◌≤◌, Option, List, ◌++◌}
use Rattle.std.specs.Io.KnownBytes.{Appends}
use Rattle.text_words.specs.Declarations.{cells_of}
use Rattle.program_text.specs.Drafts.{Contents}
use Rattle.program_text.specs.Grammar.{TextMeans}
use Rattle.model_programs.specs.Elisions.{Elides, NeedsMore}
use Rattle.command_streams.specs.declared.fault.CliFault.{CliFault}
use Rattle.command_streams.specs.declared.fault.CliFault.TheVariants.{Usage, Read, Write, TooLong, Limit, Memory}
use Rattle.command_streams.specs.Streams.{IsRead, IsReadTooLong}
use Rattle.command_streams.specs.ElisionText.{elision_text}
use Rattle.tool_commands.specs.Programs.{monoids_of, IsFaultyProgram}

-- The program ends with a memory after a number of requests within the limit, and these are the lines of both.
pub record ElidesContents (contents : Contents) (limit : ℕ) (lines : List ℕ) : Type 0 where
  pub memory : List ℕ
  pub requests : ℕ
  pub few : requests ≤ limit
  pub elides : Elides contents.functions (monoids_of contents) (cells_of contents.known.mems) memory requests
  pub are : lines ≡ elision_text contents.known.mems memory requests

-- The text means a program, and these are the lines of its elision.
pub record ElidesText (text : List ℕ) (limit : ℕ) (lines : List ℕ) : Type 0 where
  pub contents : Contents
  pub means : TextMeans text contents
  pub elided : ElidesContents contents limit lines

-- A text was read and the lines of its elision were written.
pub record IsElided (before behind wrote writes : Option (List ℕ)) (limit : ℕ) : Type 0 where
  pub text : List ℕ
  pub lines : List ℕ
  pub read : IsRead before behind text
  pub elides : ElidesText text limit lines
  pub written : Appends wrote writes lines

-- A text was read, and only a part of the lines of its elision could be written.
pub record IsElisionCut (before behind wrote writes : Option (List ℕ)) (limit : ℕ) : Type 0 where
  pub text : List ℕ
  pub lines : List ℕ
  pub part : List ℕ
  pub rest : List ℕ
  pub read : IsRead before behind text
  pub elides : ElidesText text limit lines
  pub written : Appends wrote writes part
  pub prefix : part ++ rest ≡ lines

-- A text was read that means a program which makes more requests than the limit, if it ends.
pub record IsBeyondLimit (before behind : Option (List ℕ)) (limit : ℕ) : Type 0 where
  pub text : List ℕ
  pub read : IsRead before behind text
  pub contents : Contents
  pub means : TextMeans text contents
  pub more : NeedsMore contents.functions (monoids_of contents) (cells_of contents.known.mems) limit

-- Why the elision of a program is not had.
abbrev pub StopsElision : Contents → ℕ → CliFault → Type 0
StopsElision contents limit Limit = NeedsMore contents.functions (monoids_of contents) (cells_of contents.known.mems) limit
StopsElision contents limit Memory = Unit {0}
StopsElision contents limit fault = ⊥

-- Why an elision is not written, or not wholly: each fault has its cause.
abbrev pub HasElisionCause : (before behind wrote writes : Option (List ℕ)) → (limit : ℕ) → CliFault → Type 0
HasElisionCause before behind wrote writes limit (Usage text) = ⊥
HasElisionCause before behind wrote writes limit Read = Unit {0}
HasElisionCause before behind wrote writes limit Write = IsElisionCut before behind wrote writes limit
HasElisionCause before behind wrote writes limit TooLong = IsReadTooLong before behind
HasElisionCause before behind wrote writes limit Memory = Unit {0}
HasElisionCause before behind wrote writes limit Limit = IsBeyondLimit before behind limit
HasElisionCause before behind wrote writes limit fault = IsFaultyProgram before behind fault
