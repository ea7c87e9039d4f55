use Rattle.std.proofs.Common.{◌≡◌, drop}
use Rattle.program_text.specs.Programs.{contents}
use Rattle.race_report.specs.Refusals.{refusals_behind, refusals_told}
use Rattle.race_report.specs.RefusalValues.{text_with}
use Rattle.race_report.proofs.json_report.push_refusals.Given as goal

-- the refusals so far and those among the entries that are left are all refusals
abbrev pub invariant-loop-at : goal.invariant-loop-at
invariant-loop-at g l =
    let known = (contents l.program).known in
    let entries = l.entries.items in
    text_with l.printer (refusals_behind known entries l.at (drop l.at entries)) ≡
    text_with l.initial.printer (refusals_told known entries)
