use Rattle.race_gate.proofs.Tracked.{ready-runs, ready-in_shadow, ready-in_memory, answers-cell}
use Rattle.race_gate.proofs.tracks.Tracks.access_cell.Goals as goal

pub judge_access-requires-clause-runs : goal.judge_access-requires-clause-runs
judge_access-requires-clause-runs g c = ready-runs _ _ _ _ _ c.requires.ready.1

pub judge_access-requires-clause-in_shadow : goal.judge_access-requires-clause-in_shadow
judge_access-requires-clause-in_shadow g c = ready-in_shadow _ _ _ _ _ c.requires.ready.1 c.args.act c.requires.is

pub judge_access-requires-clause-in_memory : goal.judge_access-requires-clause-in_memory
judge_access-requires-clause-in_memory g c = ready-in_memory _ _ _ _ _ c.requires.ready.1 c.args.act c.requires.is

pub returns : goal.returns
returns g c state ready =
    answers-cell _ _ _ _ _ ready c.args.act _ _ _ c.requires.is c.judge_access.ensures.belongs c.judge_access.ensures.judged
    c.judge_access.ensures.locations c.judge_access.ensures.value c.judge_access.ensures.memory
