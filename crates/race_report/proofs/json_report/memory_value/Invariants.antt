use Rattle.std.proofs.Common.{◌≡◌, drop, length}
use Rattle.serde_json.specs.Data.{no_members}
use Rattle.serde_json.specs.View.{members_view}
use Rattle.text_words.specs.Declarations.{cells_of}
use Rattle.race_report.specs.ReportText.{memory_put}
use Rattle.race_report.proofs.json_report.memory_value.Given as goal

-- the members so far with the memories that are left are all members
abbrev pub invariant-loop-mem : goal.invariant-loop-mem
invariant-loop-mem l = record {
  put : memory_put (members_view l.members.entries) (drop l.mem-index l.mems) l.rest ≡ memory_put no_members l.mems l.values;
  cells : length l.rest ≡ cells_of (drop l.mem-index l.mems);
}
