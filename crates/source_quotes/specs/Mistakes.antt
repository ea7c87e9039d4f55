-- What is wrong with a line, the cause of each mistake, and its title.
use Rattle.std.specs.Prelude.{ℕ, List, codes}
use Rattle.text_words.specs.declared.fault.Cause.{Cause}
use Rattle.text_words.specs.declared.fault.Cause.TheVariants as cause
use Rattle.source_quotes.specs.declared.mistake.Mistake.{Mistake}
use Rattle.source_quotes.specs.declared.mistake.Mistake.TheVariants as mistake
use Rattle.source_quotes.specs.declared.mistake.ByteMistake.{ByteMistake}
use Rattle.source_quotes.specs.declared.mistake.ByteMistake.TheVariants as byte
use Rattle.source_quotes.specs.declared.mistake.HeaderMistake.{HeaderMistake}
use Rattle.source_quotes.specs.declared.mistake.HeaderMistake.TheVariants as header
use Rattle.source_quotes.specs.declared.mistake.WordMistake.{WordMistake}
use Rattle.source_quotes.specs.declared.mistake.WordMistake.TheVariants as word
use Rattle.source_quotes.specs.declared.mistake.NumberMistake.{NumberMistake}
use Rattle.source_quotes.specs.declared.mistake.NumberMistake.TheVariants as number
use Rattle.source_quotes.specs.declared.mistake.UnknownMistake.{UnknownMistake}
use Rattle.source_quotes.specs.declared.mistake.UnknownMistake.TheVariants as unknown
use Rattle.source_quotes.specs.declared.mistake.NestingMistake.{NestingMistake}
use Rattle.source_quotes.specs.declared.mistake.NestingMistake.TheVariants as nesting
use Rattle.source_quotes.specs.declared.mistake.LimitMistake.{LimitMistake}
use Rattle.source_quotes.specs.declared.mistake.LimitMistake.TheVariants as limit

abbrev pub byte_title : ByteMistake → List ℕ
byte_title byte.Other = codes "a line has printable ASCII characters and tabs alone, in comments too"
byte_title byte.OrderMark = codes "a byte-order mark stands before the header"
byte_title byte.Wide = codes "the text is encoded as UTF-16"
byte_title byte.Control = codes "a control character stands on this line"
byte_title byte.Return = codes "a carriage return stands within this line"

abbrev pub header_title : HeaderMistake → List ℕ
header_title header.Other = codes "the first line has to be `cilk 1`, or `cilk 2` for `bump`, `pfor` and `digits`"
header_title header.Empty = codes "the text is empty"
header_title header.Comment = codes "a comment stands before the header"
header_title header.Blank = codes "a blank line stands before the header"
header_title header.Version = codes "the version of a text is 1 or 2"
header_title header.Long = codes "the header has two words alone"
header_title header.Source = codes "this text is C or C++, and no program or trace of `cilkcheck`"

abbrev pub word_title : WordMistake → List ℕ
word_title word.Other = codes "a word is missing, is too much, or is none that may stand in its place"
word_title word.Statement = codes "no line of a program begins with this word"
word_title word.Request = codes "no line of a trace begins with this word"
word_title word.OfTrace = codes "a request of a trace stands in a program"
word_title word.OfProgram = codes "a statement of a program stands in a trace"
word_title word.Later = codes "this word belongs to version 2"
word_title word.Slashes = codes "a comment begins with `#`"
word_title word.Semicolon = codes "a line ends without a `;`"
word_title word.Parentheses = codes "a line has no parentheses"
word_title word.Missing = codes "a word is missing"
word_title word.Extra = codes "a word is too much"
word_title word.Argument = codes "a function has one parameter"
word_title word.Chain = codes "a `let` has one operator at most"
word_title word.UpperCase = codes "a name has lower-case letters, digits and `_` alone"
word_title word.Name = codes "this is no name"
word_title word.LongName = codes "a name has at most 32 bytes"
word_title word.Ok = codes "`ok` cannot be assigned"
word_title word.Negative = codes "there are no negative numbers"
word_title word.Operand = codes "an operand is a number or a register"
word_title word.Element = codes "a cell cannot be an operand"
word_title word.NoRegister = codes "a number stands where a register is wanted"
word_title word.NoName = codes "a number stands where a name is wanted"
word_title word.NoNumber = codes "a number is wanted here"
word_title word.NoMonoid = codes "this is no monoid"
word_title word.Operator = codes "this is no operator"
word_title word.Equals = codes "an `=` is wanted here"
word_title word.Spaces = codes "words are separated by spaces"
word_title word.Cell = codes "this is no cell"
word_title word.Array = codes "an array is declared by its name and its length"

abbrev pub number_title : NumberMistake → List ℕ
number_title number.Other = codes "a number is out of the range of its place, or is none"
number_title number.Digits = codes "a number has decimal digits alone"
number_title number.Range = codes "a number is out of its range"
number_title number.Index = codes "an index is past the end of its array"
number_title number.Mark = codes "a mark is `@` and the number of a line"

abbrev pub unknown_title : UnknownMistake → List ℕ
unknown_title unknown.Other = codes "a name is not declared as what its place wants"
unknown_title unknown.Register = codes "no line above assigns this register"
unknown_title unknown.Cell = codes "no cell has this name"
unknown_title unknown.Reducer = codes "no reducer has this name"
unknown_title unknown.Function = codes "no function has this name"
unknown_title unknown.CellRead = codes "a cell cannot be an operand"
unknown_title unknown.ReducerRead = codes "a reducer cannot be an operand"
unknown_title unknown.NoIndex = codes "an array needs an index"
unknown_title unknown.NoArray = codes "a single cell has no index"
unknown_title unknown.ReducerForCell = codes "a reducer stands where a cell is wanted"
unknown_title unknown.CellForReducer = codes "a cell stands where a reducer is wanted"
unknown_title unknown.RegisterForCell = codes "a register stands where a cell is wanted"

abbrev pub nesting_title : NestingMistake → List ℕ
nesting_title nesting.Other = codes "this may not stand here, or a function or an `if` above has no `end`"
nesting_title nesting.Declaration = codes "declarations stand before the first function"
nesting_title nesting.TraceDeclaration = codes "declarations stand before the first request"
nesting_title nesting.Function = codes "a function begins within another one"
nesting_title nesting.Statement = codes "a statement stands outside of every function"
nesting_title nesting.Else = codes "an `else` stands without its `if`"
nesting_title nesting.SecondElse = codes "an `if` has one `else` at most"
nesting_title nesting.End = codes "this `end` ends nothing"
nesting_title nesting.OpenFunction = codes "a function has no `end`"
nesting_title nesting.OpenIf = codes "an `if` has no `end`"

abbrev pub limit_title : LimitMistake → List ℕ
limit_title limit.Other = codes "a limit is passed here"
limit_title limit.Lines = codes "a text has at most 4000000 lines"
limit_title limit.Requests = codes "a trace has at most 2000000 requests"
limit_title limit.Cells = codes "all memories have at most 1000000 cells together"
limit_title limit.Reducers = codes "there are at most 256 reducers"
limit_title limit.Functions = codes "a program has at most 1000 functions"
limit_title limit.Statements = codes "a program has at most 100000 statements"
limit_title limit.Registers = codes "a function has at most 16 registers"
limit_title limit.Depth = codes "at most 64 `if` stand within one another"

-- the cause that a mistake belongs to
abbrev pub cause_of : Mistake → Cause
cause_of (mistake.Byte why) = cause.NotText
cause_of (mistake.Header why) = cause.BadHeader
cause_of (mistake.Word why) = cause.BadWord
cause_of (mistake.Number why) = cause.BadNumber
cause_of (mistake.Unknown why) = cause.UnknownName
cause_of (mistake.Nesting why) = cause.BadNesting
cause_of (mistake.Limit why) = cause.TooMany
cause_of mistake.Twice = cause.TwiceNamed
cause_of mistake.NoMain = cause.NoMain

-- what a message about a mistake begins with
abbrev pub title : Mistake → List ℕ
title (mistake.Byte why) = byte_title why
title (mistake.Header why) = header_title why
title (mistake.Word why) = word_title why
title (mistake.Number why) = number_title why
title (mistake.Unknown why) = unknown_title why
title (mistake.Nesting why) = nesting_title why
title (mistake.Limit why) = limit_title why
title mistake.Twice = codes "a name is declared already; memories, reducers and functions share one space of names"
title mistake.NoMain = codes "there is no function `main`"
