use Rattle.std.proofs.Common.{◌≡◌, Some}
use Rattle.std.proofs.lemmas.Result.{IfOk-weaker}
use Rattle.program_text.specs.Programs.{contents}
use Rattle.program_warnings.specs.Messages.{TellsFirst}
use Rattle.program_warnings.proofs.Telling.{first_more}
use Rattle.program_warnings.proofs.message.tell_first.Goals as goal

pub returns : goal.returns
returns c =
    IfOk-weaker c.end.result (λ told. c.push_more.new.text ≡ Some told.items)
    (λ told. TellsFirst c.args.look c.args.file.now c.args.source.now (contents c.args.program.now) c.args.warnings.now told.items)
    (λ told is. first_more c.args.look c.args.file.now c.args.source.now (contents c.args.program.now) c.args.warnings.now _ c.min.result
    _ _ _ _ told.items c.min.ensures c.split_at.ensures.front c.new-told.ensures c.push_each.ensures.1 c.push_each.ensures.2 c.push_more.ensures is)
    c.end.ensures
