use Rattle.law_strands.proofs.Finish.{answer_law, unsynced_law}
use Rattle.law_strands.proofs.laws.answer_law.Goals as goal

pub returns : goal.returns
returns c = record { one = answer_law; unsynced = unsynced_law }
