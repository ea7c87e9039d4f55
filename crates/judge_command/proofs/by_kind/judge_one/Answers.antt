use Rattle.judge_command.proofs.Meeting.{has_words, judged_and_told}
use Rattle.judge_command.proofs.by_kind.judge_one.Goals as goal

pub tell-requires : goal.tell-requires
tell-requires g c =
    let (last, fits) = c.requires.core in
    let next = c.reply-reply.ensures last fits in
    has_words last next.0 _ c.reply-reply.result next.1 next.2.kept.right.judged

pub returns-in-Spawn : goal.returns-in-Spawn
returns-in-Spawn g c start wrote requests replies told =
    let reply = c.reply-reply in
    (reply.result, judged_and_told _ _ _ replies _ _ _ _ _ _ _ _ _ _ reply.result told (reply.ensures told.last told.fits) (c.tell.ensures _ replies))
