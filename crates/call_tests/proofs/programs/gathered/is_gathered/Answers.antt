use Rattle.race_report.proofs.JudgedRuns.{judged_meets}
use Rattle.call_tests.proofs.programs.gathered.is_gathered.Goals as goal

pub is_reported-reported-requires-clause-entries : goal.is_reported-reported-requires-clause-entries
is_reported-reported-requires-clause-entries g c = judged_meets _ c.in_ok-whole.whole.entries.items c.in_ok-whole.ensures.run.0.run.judged

pub is_reported-reported-requires-clause-memory : goal.is_reported-reported-requires-clause-memory
is_reported-reported-requires-clause-memory g c = c.in_ok-whole.ensures.memory.len
