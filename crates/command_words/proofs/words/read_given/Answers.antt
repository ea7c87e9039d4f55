use Rattle.std.proofs.lemmas.Result.{IfOk-weaker}
use Rattle.command_words.proofs.Ranges.{job_in}
use Rattle.command_words.proofs.words.read_given.Goals as goal

pub returns-in-Ok-clause-ranges : goal.returns-in-Ok-clause-ranges
returns-in-Ok-clause-ranges g c = IfOk-weaker c.read_by.result _ _ (job_in _) c.read_by.ensures.job
