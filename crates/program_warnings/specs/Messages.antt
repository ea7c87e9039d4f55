-- What is told of the warnings of a program.
use Rattle.std.specs.Prelude.{ℕ, ◌≡◌, ◌-◌, nat_lt, Bool, if◌then◌else◌, Option, Some, None, List, [], ◌∷◌, ◌++◌, length, take, codes, decimal, slice_get, unwrap_or}
use Rattle.model_bodies.specs.Codes.{Code}
use Rattle.model_bodies.specs.Sound.{IsMain}
use Rattle.text_words.specs.declared.value.Reducer.{Reducer as DeclaredReducer}
use Rattle.program_text.specs.Drafts.{Contents}
use Rattle.source_quotes.specs.declared.look.Look.{Look}
use Rattle.source_quotes.specs.declared.look.Paint.TheVariants.{Yellow}
use Rattle.source_quotes.specs.declared.part.Span.{Span}
use Rattle.source_quotes.specs.Lines.{line_in}
use Rattle.source_quotes.specs.Quotes.{look_of, painted, place, quote, counted}
use Rattle.source_quotes.specs.Parts.{IsWithin, sign_below}
use Rattle.program_warnings.specs.declared.declarations.Sort.{Sort}
use Rattle.program_warnings.specs.declared.declarations.Sort.TheVariants.{Memory, Reducer}
use Rattle.program_warnings.specs.declared.warning.Warning.{Warning}
use Rattle.program_warnings.specs.declared.warning.Warning.TheVariants.{Register, Unreached, Unput, Wrapped, WrappedInRun}
use Rattle.program_warnings.specs.Reach.{AreReached, ArePut}
use Rattle.program_warnings.specs.Warnings.{warnings_of}

-- the most warnings that are told with their lines
abbrev pub most_told : ℕ
most_told = 20

-- ---- names

abbrev pub register_in : Option Code → (register : ℕ) → List ℕ
register_in (Some code) register = unwrap_or (slice_get code.registers (register - 1)) []
register_in None register = []

abbrev pub name_in : Option Code → List ℕ
name_in (Some code) = code.name
name_in None = []

abbrev pub reducer_in : Option DeclaredReducer → List ℕ
reducer_in (Some reducer) = reducer.name
reducer_in None = []

abbrev pub sort_word : Sort → List ℕ
sort_word Memory = codes "memory"
sort_word Reducer = codes "reducer"

-- ---- one warning

abbrev pub line_of_warning : Warning → ℕ
line_of_warning (Register line function register declared) = line
line_of_warning (Unreached line function) = line
line_of_warning (Unput line reducer) = line
line_of_warning (Wrapped line index length) = line
line_of_warning (WrappedInRun line function index length) = line

abbrev pub title : Contents → Warning → List ℕ
title program (Register line function register declared) =
    codes "`" ++ register_in (slice_get program.functions function) register ++ codes "` is a register here, and a " ++ sort_word declared.sort ++
    (codes " by the declaration at line " ++ decimal declared.line)
title program (Unreached line function) =
    codes "no spawn or call leads from `main` to `" ++ name_in (slice_get program.functions function) ++ codes "`"
title program (Unput line reducer) =
    codes "`" ++ reducer_in (slice_get program.known.reducers reducer) ++
    codes "` is read here, and no function that `main` reaches has a `put` of it"
title program (Wrapped line index length) =
    (codes "the index " ++ decimal index) ++ (codes " wraps at the length of the array, " ++ decimal length)
title program (WrappedInRun line function index length) =
    codes "in this run, the index in `" ++ name_in (slice_get program.functions function) ++ codes "`" ++ (codes " is " ++ decimal index) ++
    (codes " and wraps at the length of the array, " ++ decimal length)

-- the warning, its place, and its line with a sign below a part of it
abbrev pub warning_text : Look → (file : List ℕ) → (source : List (List ℕ)) → Contents → Warning → Span → List ℕ
warning_text look file source program warning span =
    painted look Yellow (codes "warning") ++ codes ": " ++ title program warning ++ codes "\n" ++ place look file (line_of_warning warning) ++
    quote look source (line_of_warning warning) ++ sign_below look Yellow (line_in source (line_of_warning warning)) span 94 ++ codes "\n\n"

-- The text tells of the warning, with a sign below a part of its line.
pub record TellsWarning (look : Look) (file : List ℕ) (source : List (List ℕ)) (program : Contents) (warning : Warning) (text : List ℕ) : Type 0 where
  pub span : Span
  pub within : IsWithin span (line_in source (line_of_warning warning))
  pub text_is : text ≡ warning_text look file source program warning span

-- ---- all warnings

-- The text tells of each warning, in their order.
abbrev pub TellsEach : Look → (file : List ℕ) → (source : List (List ℕ)) → Contents → List Warning → (text : List ℕ) → Type 0
TellsEach look file source program [] text = text ≡ []
TellsEach look file source program (warning ∷ warnings) text =
    (one : List ℕ) × (rest : List ℕ) × TellsWarning look file source program warning one × TellsEach look file source program warnings rest
    × (text ≡ one ++ rest)

-- how many warnings are not told
abbrev pub more_text : ℕ → List ℕ
more_text count = if nat_lt most_told count then codes "and " ++ counted (count - most_told) (codes "more warning") ++ codes "\n\n" else []

-- The text tells the first twenty of these warnings, and how many more there are.
pub record TellsFirst (look : Look) (file : List ℕ) (source : List (List ℕ)) (program : Contents) (warnings : List Warning) (told : List ℕ) : Type 0 where
  pub each : List ℕ
  pub tells_each : TellsEach look file source program (take most_told warnings) each
  pub told_is : told ≡ each ++ more_text (length warnings)

-- These are the warnings of the program, where a run wraps these indexes.
pub record AreWarnings (program : Contents) (wraps : ℕ → Option ℕ) (warnings : List Warning) : Type 0 where
  pub main : ℕ
  pub is_main : IsMain program.functions main
  pub is_reached : ℕ → Bool
  pub are_reached : AreReached program.functions main is_reached
  pub is_put : ℕ → Bool
  pub are_put : ArePut program.functions main (length program.known.reducers) is_put
  pub warnings_are : warnings ≡ warnings_of program is_reached is_put wraps

-- The warnings of the program are told, whose text has these lines, where a run wraps these indexes.
pub record TellsWarnings (is_painted : Bool) (file : List ℕ) (source : List (List ℕ)) (program : Contents) (wraps : ℕ → Option ℕ) (told : List ℕ) : Type 0 where
  pub warnings : List Warning
  pub are_warnings : AreWarnings program wraps warnings
  pub tells : TellsFirst (look_of is_painted source) file source program warnings told
