use Rattle.std.proofs.Common.{rules, length}
use Rattle.race_explanations.specs.Findings.{at_pairs}
use Rattle.text_buffers.proofs.Builders.{these, four_adds}
use Rattle.race_explanations.proofs.findings.Findings.tell_summary.Goals as goal

pub returns : goal.returns
returns c =
    four_adds _ _ _ _ _ _ _ _ _ c.push_count.ensures
    (these _ _ _ (at_pairs c.args.self.now.untold.items (length c.args.self.now.list)) c.tell_pairs.ensures (search rules)) c.push_words.ensures
    c.tell_requests.ensures
