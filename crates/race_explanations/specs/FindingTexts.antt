-- What is told of a finding.
use Rattle.std.specs.Prelude.{ℕ, Bool, List, ◌++◌, codes, length, if◌then◌else◌}
use Rattle.source_quotes.specs.Quotes.{counted}
use Rattle.race_explanations.specs.declared.finding.Finding.{Finding}
use Rattle.race_explanations.specs.Titles.{left_out}

-- a finding with what is told last
abbrev pub finding_with : Finding → (help : List ℕ) → List ℕ
finding_with finding help =
    finding.kind.items ++ finding.name.items ++ left_out 1 (length finding.names.keys) ++ codes ", " ++ counted finding.times (codes "time") ++ codes "\n" ++
    finding.body.items ++ help ++ codes "\n"

-- as of one that is alone
abbrev pub finding_text : Finding → (is_sure : Bool) → List ℕ
finding_text finding is_sure = finding_with finding (if is_sure then finding.sure_help.items else finding.open_help.items)

-- as of one of several that part at one spawn
abbrev pub member_finding : Finding → List ℕ
member_finding finding = finding_with finding finding.own_help.items
