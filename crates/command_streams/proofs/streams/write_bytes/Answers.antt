use Rattle.std.proofs.Common.{rules, ◌<◌, ◌++◌, take, arith}
use Rattle.std.proofs.lemmas.Grind.{common_steps}
use Rattle.command_streams.specs.Watched.{held}
use Rattle.command_streams.proofs.Bytes.{appends-more, rest-left, write-fresh}
use Rattle.command_streams.proofs.streams.write_bytes.Goals as goal

pub loop-rest-preserved : goal.loop-rest-preserved
loop-rest-preserved g c =
    let some : 0 < c.in-Ok.count = first_of (search rules, grind (arith, common_steps)) in
    let written = c.loop-rest.invariant.written in
    record {
      written = (
        written.0 ++ take c.in-Ok.count c.loop-rest.rest.now,
        appends-more (g.W.Write.contents (held c.args.output.now)) (g.W.Write.contents (held c.loop-rest.output)) (g.W.Write.contents (held c.write.new.self))
            written.0 (take c.in-Ok.count c.loop-rest.rest.now) written.1 c.in-Ok.ensures.bytes,
        rest-left written.0 c.loop-rest.rest.now _ _ c.in-Ok.count written.2 c.split_at.ensures.back,
      );
      fresh = write-fresh _ _ c.in-Ok.count _ some c.loop-rest.invariant.fresh c.in-Ok.ensures.failed;
    }
