-- What is told of a text that means nothing, and of an illegal request.
use Rattle.std.specs.Prelude.{ℕ, ◌≡◌, Bool, false, Option, List, [], ◌∷◌, codes}
use Rattle.serde_json.specs.Data.{Data, Members, boolean, string, object, member, no_members}
use Rattle.text_words.specs.declared.fault.Cause.{Cause}
use Rattle.text_words.specs.declared.fault.Cause.TheVariants as cause
use Rattle.text_words.specs.declared.value.TraceLine.{TraceLine}
use Rattle.text_words.specs.Text.{lines}
use Rattle.source_quotes.specs.declared.meant.Meant.{Meant}
use Rattle.source_quotes.specs.FaultTexts.{TellsFault}
use Rattle.source_quotes.specs.Lines.{line_in}
use Rattle.fault_lists.specs.declared.fault.Fault.{Fault}
use Rattle.fault_lists.specs.FaultLists.{ListsFaults}
use Rattle.race_explanations.specs.declared.illegal.Illegality.{Illegality}
use Rattle.race_explanations.specs.Illegal.{request_line, at_of, strand_of, title_words, help_words, illegal_text}
use Rattle.race_records.specs.Values.{text_told, count_told, list_told, IsTextOf}
use Rattle.race_records.specs.declared.form.RecordForm.{RecordForm}
use Rattle.race_records.specs.Forms.{in_form}

abbrev pub cause_word : Cause → List ℕ
cause_word cause.NotText = codes "NotText"
cause_word cause.BadHeader = codes "BadHeader"
cause_word cause.BadWord = codes "BadWord"
cause_word cause.BadNumber = codes "BadNumber"
cause_word cause.UnknownName = codes "UnknownName"
cause_word cause.TwiceNamed = codes "TwiceNamed"
cause_word cause.BadNesting = codes "BadNesting"
cause_word cause.NoMain = codes "NoMain"
cause_word cause.TooMany = codes "TooMany"

-- the members of a line of a file, with what a person is told of it
abbrev pub line_members : (file : List ℕ) → (source : List (List ℕ)) → (line : ℕ) → (rendered : List ℕ) → Members
line_members file source line rendered =
    member (codes "code") (text_told (line_in source line))
    (member (codes "file") (text_told file)
    (member (codes "line") (count_told line)
    (member (codes "rendered") (text_told rendered) no_members)))

-- a fault, with what a person is told of it
abbrev pub fault_told : (file : List ℕ) → (source : List (List ℕ)) → Fault → (rendered : List ℕ) → Data
fault_told file source fault rendered =
    object (member (codes "cause") (string (cause_word fault.why))
    (member (codes "code") (text_told (line_in source fault.line))
    (member (codes "file") (text_told file)
    (member (codes "line") (count_told fault.line)
    (member (codes "rendered") (text_told rendered) no_members)))))

-- The value tells of the fault.
abbrev pub RecordsFault : (file : List ℕ) → (source : List (List ℕ)) → Fault → Data → Type 0
RecordsFault file source fault told =
    (rendered : List ℕ) × (_ : TellsFault false file source fault.line fault.why rendered) × (told ≡ fault_told file source fault rendered)

-- The values tell of the faults, one by one.
abbrev pub RecordsFaults : (file : List ℕ) → (source : List (List ℕ)) → List Fault → List Data → Type 0
RecordsFaults file source [] [] = Unit {0}
RecordsFaults file source (fault ∷ faults) (one ∷ others) = RecordsFault file source fault one × RecordsFaults file source faults others
RecordsFaults file source faults told = ⊥

abbrev pub faulty_told : (faults : List Data) → (more : Bool) → Data
faulty_told faults more =
    object (member (codes "faults") (list_told (λ fault. fault) faults)
    (member (codes "more") (boolean more)
    (member (codes "outcome") (string (codes "faulty"))
    (member (codes "version") (count_told 1) no_members))))

-- The text tells in the form the faults that can be told apart, the first of which is this one.
pub record RecordsText (form : RecordForm) (file : List ℕ) (meant : Meant) (text : List ℕ) (first : Fault) (told : List ℕ) : Type 0 where
  pub others : List Fault
  pub more : Bool
  pub lists : ListsFaults meant text first others more
  pub faults : List Data
  pub are_faults : RecordsFaults file (lines text) (first ∷ others) faults
  pub is_text : IsTextOf (in_form form (faulty_told faults more)) told

-- the request with this number, from 1 on, on this line: its strand, why it is illegal, and what a person is told of it
abbrev pub request_told : (file : List ℕ) → (source : List (List ℕ)) → Option TraceLine → ℕ → Illegality → (rendered : List ℕ) → Data
request_told file source line number why rendered =
    object (member (codes "code") (text_told (line_in source (at_of line)))
    (member (codes "file") (text_told file)
    (member (codes "help") (string (help_words why))
    (member (codes "line") (count_told (at_of line))
    (member (codes "message") (string (title_words why))
    (member (codes "outcome") (string (codes "illegal"))
    (member (codes "rendered") (text_told rendered)
    (member (codes "request") (count_told number)
    (member (codes "strand") (count_told (strand_of line))
    (member (codes "version") (count_told 1) no_members))))))))))

-- The request with this number, from 1 on, of the trace of a text is illegal.
abbrev pub illegal_told : (file : List ℕ) → (source : List (List ℕ)) → List TraceLine → ℕ → Illegality → Data
illegal_told file source trace number why =
    request_told file source (request_line trace number) number why (illegal_text false file source trace number why)
