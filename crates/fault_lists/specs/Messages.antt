-- What is told of the faults of a text.
use Rattle.std.specs.Prelude.{ℕ, ◌≡◌, ◌+◌, Bool, true, false, List, [], ◌∷◌, ◌++◌, length, codes, decimal}
use Rattle.text_words.specs.Text.{lines}
use Rattle.source_quotes.specs.declared.meant.Meant.{Meant}
use Rattle.source_quotes.specs.FaultTexts.{TellsFault}
use Rattle.fault_lists.specs.declared.fault.Fault.{Fault}
use Rattle.fault_lists.specs.FaultLists.{ListsFaults}

-- how many faults are told, and how more are seen where there are more
abbrev pub count_text : ℕ → Bool → List ℕ
count_text count false = codes "" ++ decimal count ++ codes " faults\n"
count_text count true = codes "the first " ++ decimal count ++ codes " faults; mend these, and explain the file again for more\n"

-- Each fault is told, with an empty line before it.
abbrev pub TellsEach : (is_painted : Bool) (file : List ℕ) (source : List (List ℕ)) → List Fault → List ℕ → Type 0
TellsEach is_painted file source [] told = told ≡ []
TellsEach is_painted file source (fault ∷ faults) told =
    (one : List ℕ) × (rest : List ℕ) × TellsFault is_painted file source fault.line fault.why one × TellsEach is_painted file source faults rest
    × (told ≡ (codes "\n" ++ one) ++ rest)

-- what is told behind the first fault: nothing where it is the only one
abbrev pub TellsOthers : (is_painted : Bool) (file : List ℕ) (source : List (List ℕ)) → List Fault → Bool → List ℕ → Type 0
TellsOthers is_painted file source [] more told = told ≡ []
TellsOthers is_painted file source (fault ∷ faults) more told =
    (each : List ℕ) × TellsEach is_painted file source (fault ∷ faults) each
    × (told ≡ each ++ (codes "\n" ++ count_text (length (fault ∷ faults) + 1) more))

-- The faults of the text that can be told apart are told in order, the first of which is this one.
pub record TellsFaults (is_painted : Bool) (file : List ℕ) (meant : Meant) (text : List ℕ) (first : Fault) (told : List ℕ) : Type 0 where
  pub others : List Fault
  pub more : Bool
  pub lists : ListsFaults meant text first others more
  pub one : List ℕ
  pub behind : List ℕ
  pub tells_first : TellsFault is_painted file (lines text) first.line first.why one
  pub tells_others : TellsOthers is_painted file (lines text) others more behind
  pub told_is : told ≡ one ++ behind
