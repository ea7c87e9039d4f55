use Rattle.std.proofs.Common.{ap}
use Rattle.race_explanations.specs.FoundGroups.{spawn_words}
use Rattle.text_buffers.proofs.Builders.{these, five_adds}
use Rattle.race_explanations.proofs.found_told.tell_first.Goals as goal

pub returns : goal.returns
returns c =
    five_adds _ _ _ _ _ _ _ _ _ _ _ c.push_count.ensures c.push_words.ensures (these _ _ _ _ c.tell_spawn.ensures (ap spawn_words c.lead_at.ensures))
    c.push_words-2.ensures c.tell_beside.ensures
