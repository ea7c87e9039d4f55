-- What may follow from an earlier fault, and behind which faults the rest of a text is in doubt.
use Rattle.std.specs.Prelude.{ℕ, ◌+◌, ◌==◌, ◌||◌, ◌&&◌, Bool, true, false, not, List, [], ◌∷◌, take, drop, if◌then◌else◌}
use Rattle.std.specs.List.{list_any}
use Rattle.std.specs.Str.{bytes_eq}
use Rattle.text_words.specs.declared.fault.Cause.{Cause}
use Rattle.text_words.specs.declared.fault.Cause.TheVariants.{BadHeader, BadNumber, UnknownName, BadNesting, NoMain, TooMany}
use Rattle.source_quotes.specs.declared.meant.Meant.{Meant}
use Rattle.source_quotes.specs.declared.meant.Meant.TheVariants.{Program, Trace}
use Rattle.source_quotes.specs.Lines.{line_in}
use Rattle.fault_lists.specs.declared.opening.Opening.{Opening}
use Rattle.fault_lists.specs.declared.opening.Opening.TheVariants.{Declares, Begins, Ends, Turns, Assigns, Gets, Other}
use Rattle.fault_lists.specs.declared.doubt.Structure.{Structure}
use Rattle.fault_lists.specs.declared.doubt.LineSort.{LineSort}
use Rattle.fault_lists.specs.declared.doubt.LineSort.TheVariants.{Beginning, Ending, OfProgram}
use Rattle.fault_lists.specs.LineNames.{names_on, opening_on}

-- ---- the structure of a text

abbrev pub is_sort : LineSort → Opening → Bool
is_sort Beginning Begins = true
is_sort Ending Ends = true
is_sort OfProgram Begins = true
is_sort OfProgram Ends = true
is_sort OfProgram Turns = true
is_sort OfProgram Assigns = true
is_sort sort opening = false

-- how many lines are of a sort
abbrev pub count_of : LineSort → List (List ℕ) → ℕ
count_of sort [] = 0
count_of sort (line ∷ lines) = (if is_sort sort (opening_on line) then 1 else 0) + count_of sort lines

-- as many lines begin a function or an `if` as end one
abbrev pub is_balanced : List (List ℕ) → Bool
is_balanced source = count_of Beginning source == count_of Ending source

-- no line is one that only a program has
abbrev pub is_pure_trace : List (List ℕ) → Bool
is_pure_trace source = count_of OfProgram source == 0

abbrev pub structure_of : List (List ℕ) → Structure
structure_of source = record { is_balanced = is_balanced source; is_pure_trace = is_pure_trace source }

-- Without this line the functions and the `if` of a program may begin and end elsewhere, or the text may be no trace.
abbrev pub breaks_structure : Meant → Structure → Opening → Bool
breaks_structure Program structure Begins = true
breaks_structure Program structure Ends = true
breaks_structure Program structure Turns = true
breaks_structure Program structure Other = not structure.is_balanced
breaks_structure Program structure opening = false
breaks_structure Trace structure opening = not structure.is_pure_trace

-- A fault of this cause, on such a line, says nothing of that line alone.
abbrev pub is_of_text : Cause → Opening → Bool
is_of_text BadHeader opening = true
is_of_text NoMain opening = true
is_of_text TooMany opening = true
is_of_text BadNesting Declares = false
is_of_text BadNesting opening = true
is_of_text cause opening = false

abbrev pub is_doubtful : Meant → Structure → Opening → ℕ → Cause → Bool
is_doubtful meant structure opening number cause =
    (number == 1) || is_of_text cause opening || breaks_structure meant structure opening

-- Behind a fault at this line, of this cause, all is in doubt.
abbrev pub leaves_doubt : Meant → List (List ℕ) → ℕ → Cause → Bool
leaves_doubt meant source number cause = is_doubtful meant (structure_of source) (opening_on (line_in source number)) number cause

-- ---- names

-- the names that are not declared or assigned where a line is left out: those that it declares, the register that it assigns, and those
-- that it might where no keyword says what it does
abbrev pub lost_with : Meant → Opening → List (List ℕ) → List (List ℕ)
lost_with meant Declares names = drop 1 names
lost_with Program Assigns names = take 1 (drop 1 names)
lost_with Program Gets names = take 1 (drop 1 names)
lost_with meant Other names = take 2 names
lost_with meant opening names = []

abbrev pub lost_by : Meant → List ℕ → List (List ℕ)
lost_by meant line = lost_with meant (opening_on line) (names_on line)

-- one of the names is lost
abbrev pub are_lost : List (List ℕ) → List (List ℕ) → Bool
are_lost lost names = list_any (λ name. list_any (bytes_eq name) lost) names

-- a fault of this cause may have its cause in a name
abbrev pub is_of_name : Cause → Bool
is_of_name BadNumber = true
is_of_name UnknownName = true
is_of_name cause = false

-- A fault of this cause, on this line, may follow from the lines that were left out.
abbrev pub follows : List (List ℕ) → List ℕ → Cause → Bool
follows lost line cause = is_of_name cause && are_lost lost (names_on line)
