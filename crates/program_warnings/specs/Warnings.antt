-- The warnings of a program, in the order of its functions.
use Rattle.std.specs.Prelude.{ℕ, ◌+◌, ◌==◌, nat_lt, Bool, false, if◌then◌else◌, Option, Some, None, option_map, List, [], ◌∷◌, ◌++◌}
use Rattle.std.specs.List.{find, flat_map}
use Rattle.model_bodies.specs.declared.statement.Operand.TheVariants.{Number, Held}
use Rattle.model_bodies.specs.declared.statement.Location.{Location}
use Rattle.model_bodies.specs.declared.statement.Location.TheVariants.{Element}
use Rattle.model_bodies.specs.declared.statement.Statement.{Statement}
use Rattle.model_bodies.specs.declared.statement.Statement.TheVariants.{Let, Read, Write, Bump, Get, ParallelFor}
use Rattle.model_bodies.specs.Codes.{Code}
use Rattle.model_bodies.specs.Lines.{line_of}
use Rattle.program_text.specs.Drafts.{Contents}
use Rattle.program_warnings.specs.declared.declarations.Declared.{Declared}
use Rattle.program_warnings.specs.declared.warning.Warning.{Warning}
use Rattle.program_warnings.specs.declared.warning.Warning.TheVariants.{Register, Unreached, Unput, Wrapped, WrappedInRun}
use Rattle.program_warnings.specs.Declarations.{declared_in}

-- ---- registers

-- whether a statement assigns the register with this number
abbrev pub binds : ℕ → Statement → Bool
binds register (Let line assigned value) = assigned.index == register
binds register (Read line assigned location) = assigned.index == register
binds register (Get line assigned reducer) = assigned.index == register
binds register (ParallelFor line assigned count function) = assigned.index == register
binds register statement = false

-- the first line that binds the register: the parameter's is that of the `func`
abbrev pub binding_line : Code → (register : ℕ) → Option ℕ
binding_line code register = if register == 1 then Some code.line else option_map line_of (find (binds register) code.body)

-- A register is told where its name is declared and a line binds it.
abbrev pub register_warning : (function register : ℕ) → Option Declared → Option ℕ → List Warning
register_warning function register (Some declared) (Some line) = Register line function register declared ∷ []
register_warning function register declared line = []

-- those of a function's registers, numbered from this number on, by what declares a name
abbrev pub register_warnings : (List ℕ → Option Declared) → (function : ℕ) → Code → (register : ℕ) → List (List ℕ) → List Warning
register_warnings declares function code register [] = []
register_warnings declares function code register (name ∷ names) =
    register_warning function register (declares name) (binding_line code register) ++
    register_warnings declares function code (register + 1) names

-- ---- statements

-- The index that a run wraps first on a line is told.
abbrev pub run_warnings : (line function length : ℕ) → Option ℕ → List Warning
run_warnings line function length (Some index) = WrappedInRun line function index length ∷ []
run_warnings line function length None = []

-- An index that is written as a number is told where it is not below the length of the array, and one that is a register where a run wraps it.
abbrev pub index_warnings : (wraps : ℕ → Option ℕ) → (function line : ℕ) → Location → List Warning
index_warnings wraps function line (Element first length (Number index)) = if nat_lt index length then [] else Wrapped line index length ∷ []
index_warnings wraps function line (Element first length (Held register)) = run_warnings line function length (wraps line)
index_warnings wraps function line location = []

-- those of a statement of a function, by which reducers are put, and which index a run wraps first on each line
abbrev pub statement_warnings : (is_put : ℕ → Bool) → (wraps : ℕ → Option ℕ) → (function : ℕ) → Statement → List Warning
statement_warnings is_put wraps function (Read line register location) = index_warnings wraps function line location
statement_warnings is_put wraps function (Write line location value) = index_warnings wraps function line location
statement_warnings is_put wraps function (Bump line location value) = index_warnings wraps function line location
statement_warnings is_put wraps function (Get line register reducer) = if is_put reducer then [] else Unput line reducer ∷ []
statement_warnings is_put wraps function statement = []

-- ---- functions

-- A function is told that is not reached.
abbrev pub reach_warnings : Bool → (function : ℕ) → Code → List Warning
reach_warnings is_reached function code = if is_reached then [] else Unreached code.line function ∷ []

-- The statements of a function are told that is reached.
abbrev pub body_warnings : Bool → (is_put : ℕ → Bool) → (wraps : ℕ → Option ℕ) → (function : ℕ) → Code → List Warning
body_warnings is_reached is_put wraps function code = if is_reached then flat_map (statement_warnings is_put wraps function) code.body else []

abbrev pub function_warnings : (declares : List ℕ → Option Declared) → (is_reached is_put : ℕ → Bool) → (wraps : ℕ → Option ℕ) → (function : ℕ) → Code → List Warning
function_warnings declares is_reached is_put wraps function code =
    reach_warnings (is_reached function) function code ++ register_warnings declares function code 1 code.registers ++
    body_warnings (is_reached function) is_put wraps function code

-- those of functions that are numbered from this number on
abbrev pub warnings_from : (declares : List ℕ → Option Declared) → (is_reached is_put : ℕ → Bool) → (wraps : ℕ → Option ℕ) → (function : ℕ) → List Code → List Warning
warnings_from declares is_reached is_put wraps function [] = []
warnings_from declares is_reached is_put wraps function (code ∷ codes) =
    function_warnings declares is_reached is_put wraps function code ++ warnings_from declares is_reached is_put wraps (function + 1) codes

-- the warnings of a program, where these functions are reached and these reducers put, and a run wraps these indexes
abbrev pub warnings_of : Contents → (is_reached is_put : ℕ → Bool) → (wraps : ℕ → Option ℕ) → List Warning
warnings_of program is_reached is_put wraps =
    warnings_from (declared_in program.known.mems program.known.reducers) is_reached is_put wraps 0 program.functions
