-- The form of quotes: painted words, numbers of lines at the left, and signs below a line.
use Rattle.std.specs.Prelude.{ℕ, ◌-◌, ◌==◌, if◌then◌else◌, Bool, true, false, List, [], ◌∷◌, ◌++◌, length, take, codes, decimal, replicate}
use Rattle.source_quotes.specs.declared.look.Look.{Look}
use Rattle.source_quotes.specs.declared.look.Paint.{Paint}
use Rattle.source_quotes.specs.declared.look.Paint.TheVariants.{Red, Yellow, Blue, Bold}
use Rattle.source_quotes.specs.Lines.{line_in, blanks, statement_length}

-- the look of quotes from a source: the column of numbers is as wide as the number of its lines
abbrev pub look_of : Bool → List (List ℕ) → Look
look_of is_painted source = record { is_painted = is_painted; width = length (decimal (length source)) }

-- how a terminal is told, behind an escape, to paint what follows
abbrev pub paint_code : Paint → List ℕ
paint_code Red = codes "[1;31m"
paint_code Yellow = codes "[1;33m"
paint_code Blue = codes "[1;34m"
paint_code Bold = codes "[1m"

-- what stands before painted words, and behind them; where there is no paint, nothing
abbrev pub before_paint : Bool → Paint → List ℕ
before_paint true paint = 27 ∷ paint_code paint
before_paint false paint = []

abbrev pub behind_paint : Bool → List ℕ
behind_paint true = 27 ∷ codes "[0m"
behind_paint false = []

-- words in a paint
abbrev pub painted : Look → Paint → List ℕ → List ℕ
painted look paint words = before_paint look.is_painted paint ++ words ++ behind_paint look.is_painted

-- the number of a line at the left, in a column as wide as the look has it
abbrev pub numbered : Look → ℕ → List ℕ
numbered look number = replicate (look.width - length (decimal number)) 32 ++ painted look Blue (decimal number ++ codes " |")

-- the left of what is no line of the source
abbrev pub gutter : Look → List ℕ
gutter look = replicate look.width 32 ++ painted look Blue (codes " |")

-- the line of the source with this number
abbrev pub quote : Look → List (List ℕ) → ℕ → List ℕ
quote look source number = numbered look number ++ codes " " ++ line_in source number ++ codes "\n"

-- below a line, this sign under its statement; what the sign says may follow
abbrev pub sign : Look → List ℕ → ℕ → List ℕ
sign look line mark =
    gutter look ++ codes " " ++ take (blanks line) line ++ painted look Red (replicate (statement_length line) mark)

-- the line of the source with this number, and this sign below it
abbrev pub marked : Look → List (List ℕ) → ℕ → ℕ → List ℕ
marked look source number mark = quote look source number ++ sign look (line_in source number) mark

-- what is told beside the source
abbrev pub noted : Look → List ℕ
noted look = replicate look.width 32 ++ painted look Blue (codes " =") ++ codes " "

-- how many, and of what: `1 time`, `2 times`
abbrev pub counted : ℕ → List ℕ → List ℕ
counted count word = decimal count ++ codes " " ++ word ++ (if count == 1 then [] else codes "s")

-- the name of a file and a line of it
abbrev pub pointer : Look → List ℕ → ℕ → List ℕ
pointer look file number = replicate look.width 32 ++ painted look Blue (codes "-->") ++ codes " " ++ file ++ codes ":" ++ decimal number

-- where in a file it is: its name and a line, and an empty line at the left
abbrev pub place : Look → List ℕ → ℕ → List ℕ
place look file number = pointer look file number ++ codes "\n" ++ gutter look ++ codes "\n"
