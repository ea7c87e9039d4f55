-- What is told of the warnings of a program.
use Rattle.std.specs.Prelude.{ℕ, List, [], codes, length, take}
use Rattle.serde_json.specs.Data.{Data, string, object, member, no_members}
use Rattle.program_text.specs.Drafts.{Contents}
use Rattle.program_warnings.specs.declared.warning.Warning.{Warning}
use Rattle.program_warnings.specs.declared.warning.Warning.TheVariants.{Register, Unreached, Unput, Wrapped, WrappedInRun}
use Rattle.program_warnings.specs.Messages.{title, line_of_warning}
use Rattle.race_records.specs.Values.{text_told, list_told}
use Rattle.race_records.specs.Sites.{line_of_file, parts_told}

abbrev pub rule_word : Warning → List ℕ
rule_word (Register line function register declared) = codes "declared-register"
rule_word (Unreached line function) = codes "unreached-function"
rule_word (Unput line reducer) = codes "unput-reducer"
rule_word (Wrapped line index length) = codes "wrapped-index"
rule_word (WrappedInRun line function index length) = codes "wrapped-index"

-- a warning of a program, which a file with these lines holds
abbrev pub warning_told : (file : List ℕ) → (source : List (List ℕ)) → Contents → Warning → Data
warning_told file source program warning =
    object (member (codes "message") (text_told (title program warning))
    (member (codes "place") (parts_told (line_of_file file source (line_of_warning warning)))
    (member (codes "rule") (string (rule_word warning)) no_members)))

-- the list of the first warnings, and how many there are
pub record Warned : Type 0 where
  pub count : ℕ
  pub warnings : Data

abbrev pub none_warned : Warned
none_warned = record { count = 0; warnings = list_told (λ warning. warning) [] }

abbrev pub warned_of : (file : List ℕ) → (source : List (List ℕ)) → Contents → List Warning → Warned
warned_of file source program warnings = record {
  count = length warnings;
  warnings = list_told (warning_told file source program) (take 20 warnings);
}
