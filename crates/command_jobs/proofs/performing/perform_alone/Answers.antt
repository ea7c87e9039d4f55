use Rattle.command_jobs.proofs.performing.perform_alone.Goals as goal

pub returns-in-Replay-clause-job : goal.returns-in-Replay-clause-job
returns-in-Replay-clause-job g c = rw c.in-Replay.is c.replay_files.ensures.job

pub returns-in-ExplainTraces-clause-job : goal.returns-in-ExplainTraces-clause-job
returns-in-ExplainTraces-clause-job g c = rw c.in-ExplainTraces.is c.explain_traces.ensures.job
