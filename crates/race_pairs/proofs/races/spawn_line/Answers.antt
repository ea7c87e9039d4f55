use Rattle.std.proofs.Common.{suc, take, refl}
use Rattle.race_pairs.proofs.SpawnLines.{side_begun, line_none, line_with}
use Rattle.race_pairs.proofs.races.spawn_line.Goals as goal

pub returns-in_default : goal.returns-in_default
returns-in_default c = λ told last seen. line_none told last c.args.lineage.now c.args.lines.now c.args.sighting seen c.in_default.is _ refl

pub line_between-requires : goal.line_between-requires
line_between-requires c =
    let seen = c.requires.2 in (
      take (suc c.requires.1) c.requires.0,
      (side_begun c.requires.0 c.requires.1 c.args.lineage.now c.args.lines.now c.args.sighting seen c.in-Some.witness c.in-Some.is, seen.lines_are),
    )

pub returns : goal.returns
returns c = λ told last seen.
    line_with told last c.args.lineage.now c.args.lines.now c.args.sighting seen c.in-Some.witness c.in-Some.is c.line_between.result
    (c.line_between.ensures (take (suc last) told)
    (side_begun told last c.args.lineage.now c.args.lines.now c.args.sighting seen c.in-Some.witness c.in-Some.is, seen.lines_are))
