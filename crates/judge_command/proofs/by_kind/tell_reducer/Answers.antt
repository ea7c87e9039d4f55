use Rattle.std.proofs.Common.{refl}
use Rattle.model_histories.specs.declared.reply.Reply.TheVariants.{Done, Illegal}
use Rattle.judge_command.proofs.Meeting.{has_words, judged_and_told}
use Rattle.judge_command.proofs.by_kind.tell_reducer.Goals as goal

pub answer_reducer-requires-clause-faultless : goal.answer_reducer-requires-clause-faultless
answer_reducer-requires-clause-faultless g c = (c.requires.core.0, c.requires.core.1, c.in-Ok.ensures.fault c.requires.core.0 c.requires.core.1)

pub note-requires : goal.note-requires
note-requires g c =
    let before = c.requires.core in
    let next = c.in-Ok-answer_reducer.ensures before.0 before.1 (c.in-Ok.ensures.fault before.0 before.1) in
    has_words before.0 next.0 c.args.request (Done c.in-Ok-answer_reducer.receipt) next.1 next.2.kept.right.judged

pub returns-in-Ok-answer_reducer : goal.returns-in-Ok-answer_reducer
returns-in-Ok-answer_reducer g c start wrote requests replies judged = (
  Done c.in-Ok-answer_reducer.receipt,
  judged_and_told _ start requests replies _ _ _ _ wrote _ _ _ _ c.args.request (Done c.in-Ok-answer_reducer.receipt) judged
      (c.in-Ok-answer_reducer.ensures judged.last judged.fits (c.in-Ok.ensures.fault judged.last judged.fits)) (c.note.ensures wrote replies),
)

pub returns-in-Err-answer_reducer : goal.returns-in-Err-answer_reducer
returns-in-Err-answer_reducer g c start wrote requests replies judged = (
  Illegal c.in-Err-answer_reducer.fault,
  judged_and_told _ start requests replies _ _ _ _ wrote _ _ _ _ c.args.request (Illegal c.in-Err-answer_reducer.fault) judged
      (c.in-Err-answer_reducer.ensures judged.last judged.fits (c.in-Ok.ensures.fault judged.last judged.fits)) (c.note_fault.ensures wrote replies),
)

pub returns-in-Err : goal.returns-in-Err
returns-in-Err g c start wrote requests replies judged = (
  Illegal c.in-Err.fault,
  judged_and_told _ start requests replies _ _ _ _ wrote _ _ _ _ c.args.request (Illegal c.in-Err.fault) judged
      (judged.last, (refl, c.in-Err.ensures.fault judged.last judged.fits), judged.fits) (c.note_fault-in-Err.ensures wrote replies),
)
