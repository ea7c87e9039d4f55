use Rattle.text_buffers.proofs.Builders.{four_adds}
use Rattle.race_explanations.proofs.findings.Findings.tell_clean.Goals as goal

pub returns : goal.returns
returns c =
    four_adds _ _ _ _ _ _ _ _ _ c.push_words.ensures c.push_count.ensures c.push_words-2.ensures c.tell_requests.ensures
