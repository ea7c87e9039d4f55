use Rattle.std.proofs.Common.{refl}
use Rattle.text_buffers.proofs.Builders.{two_adds, whole_text}
use Rattle.race_explanations.proofs.lead.lead_at.Goals as goal

pub returns : goal.returns
returns c =
    let rounds = c.cut-rounds.ensures.cut c.in_ok-end.ensures in
    let sync = c.cut-sync.ensures.cut rounds.0 in
    let beside = c.cut-beside.ensures.cut sync.0 in
    let onward = c.cut-onward.ensures.cut beside.0 in
    let spawn = c.cut-spawn.ensures.cut onward.0 in record {
      spawn_is = whole_text _ _ _ _ c.new-pieces.ensures c.push_line.ensures spawn.1;
      onward_is = whole_text _ _ _ _ c.cut-spawn.ensures.begins c.push_line-2.ensures onward.1;
      beside_is = whole_text _ _ _ _ c.cut-onward.ensures.begins c.push_beside.ensures beside.1;
      sync_is = whole_text _ _ _ _ c.cut-beside.ensures.begins (two_adds _ _ _ _ _ c.begin_help.ensures c.push_sync_place.ensures) sync.1;
      rounds_is = whole_text _ _ _ _ c.cut-sync.ensures.begins c.push_rounds.ensures rounds.1;
      within_is = c.are_in_one_call.ensures;
      trace_is = refl;
      course_is = refl;
    }
