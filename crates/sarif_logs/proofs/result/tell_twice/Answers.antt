use Rattle.std.proofs.Common.{codes}
use Rattle.serde_json.specs.Data.{string}
use Rattle.sarif_logs.specs.Results.{quoted}
use Rattle.sarif_logs.proofs.Objects.{begins, puts, told_as}
use Rattle.sarif_logs.proofs.Telling.{said, last_said}
use Rattle.sarif_logs.proofs.result.tell_twice.Goals as goal

pub returns : goal.returns
returns c =
    let block = said string _ _ (quoted c.args.rendered.now) c.end.result c.new-markdown.ensures c.push_three.ensures c.end.ensures in
    let begun = puts _ _ _ (begins _ _ c.new.ensures) (told_as _ _ block) c.with_made.ensures in
    last_said (codes "text") string _ _ _ _ _ c.finish.result begun c.end-2.ensures c.with_made-2.ensures c.finish.ensures
