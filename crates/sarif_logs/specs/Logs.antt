-- The log of a record.
use Rattle.std.specs.Prelude.{ℕ, Bool, ◌||◌, List, [], ◌∷◌, ◌++◌, codes, decimal, map, if◌then◌else◌}
use Rattle.serde_json.specs.Data.{Data, Members, boolean, string, array, object, item, no_items, member, no_members, put}
use Rattle.serde_json.specs.View.{items_of}
use Rattle.sarif_logs.specs.declared.log.Finding.{Finding}
use Rattle.sarif_logs.specs.declared.log.Finding.TheVariants.{Warning, Race, Fault}
use Rattle.sarif_logs.specs.Reading.{count_at, is_at, items_at, member_at}
use Rattle.sarif_logs.specs.Places.{text_told}
use Rattle.sarif_logs.specs.Rules.{rules_told}
use Rattle.sarif_logs.specs.Results.{race_result, warning_result, fault_result, illegal_result}

-- ---- results

abbrev pub finding_result : Finding → Data → Data
finding_result Warning told = warning_result told
finding_result Race told = race_result told
finding_result Fault told = fault_result told

abbrev pub illegal_results : Data → List Data
illegal_results told = if is_at (codes "outcome") (codes "illegal") told then illegal_result told ∷ [] else []

-- results, and those of further findings
abbrev pub with_findings : Finding → List Data → List Data → List Data
with_findings finding told before = before ++ map (finding_result finding) told

-- of the warnings, the races, the faults and the illegal request that a record tells
abbrev pub results_of : Data → List Data
results_of told =
    map (finding_result Warning) (items_at (codes "warnings") told) ++ map (finding_result Race) (items_at (codes "races") told) ++
    map (finding_result Fault) (items_at (codes "faults") told) ++ illegal_results told

-- ---- the run

-- whether a run came to its end, or each request of a trace was judged
abbrev pub is_whole : Data → Bool
is_whole told = is_at (codes "outcome") (codes "clean") told || is_at (codes "outcome") (codes "raced") told

abbrev pub cut_words : ℕ → List ℕ
cut_words requests = codes "The limit ended the run after " ++ decimal requests ++ codes " requests, and there may be more to tell."

abbrev pub cut_note : Data → Data
cut_note told =
    object (member (codes "level") (string (codes "warning"))
    (member (codes "message") (text_told (cut_words (count_at (codes "requests") told))) no_members))

-- that the limit ended the run
abbrev pub notes_of : Data → Data
notes_of told = if is_at (codes "outcome") (codes "unfinished") told then array (item (cut_note told) no_items) else array no_items

abbrev pub invocation_told : Data → Data
invocation_told told =
    object (member (codes "executionSuccessful") (boolean (is_whole told))
    (member (codes "toolExecutionNotifications") (notes_of told) no_members))

-- the members of a record that are no results
abbrev pub property_keys : List (List ℕ)
property_keys =
    codes "memory" ∷ codes "more" ∷ codes "outcome" ∷ codes "pairs" ∷ codes "recorded" ∷ codes "refusals" ∷ codes "requests" ∷
    codes "traces" ∷ codes "untold" ∷ codes "version" ∷ codes "warned" ∷ []

-- members, and those of a record that have these keys; null where the record has none
abbrev pub picked : (keys : List (List ℕ)) → Data → Members → Members
picked [] told members = members
picked (key ∷ keys) told members = picked keys told (put key (member_at key told) members)

-- what the record has that is no result
abbrev pub properties_told : Data → Data
properties_told told = object (picked property_keys told no_members)

abbrev pub tool_told : Data
tool_told =
    object (member (codes "driver") (object (member (codes "name") (string (codes "cilkcheck")) (member (codes "rules") rules_told no_members)))
    no_members)

abbrev pub run_told : Data → Data
run_told told =
    object (member (codes "invocations") (array (item (invocation_told told) no_items))
    (member (codes "properties") (properties_told told)
    (member (codes "results") (array (items_of (results_of told)))
    (member (codes "tool") tool_told no_members))))

-- The log of a record: SARIF 2.1.0, with one run.
abbrev pub log_told : Data → Data
log_told told =
    object (member (codes "$schema") (string (codes "https://json.schemastore.org/sarif-2.1.0.json"))
    (member (codes "runs") (array (item (run_told told) no_items))
    (member (codes "version") (string (codes "2.1.0")) no_members)))
