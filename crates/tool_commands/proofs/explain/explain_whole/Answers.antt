use Rattle.std.proofs.Common.{rules, reverse}
use Rattle.program_text.specs.Shapes.{shape_in}
use Rattle.locked_replay.proofs.Wholes.{program_law}
use Rattle.tool_commands.proofs.explain.explain_whole.Goals as goal

pub returns-then-whole : goal.returns-then-whole
returns-then-whole c = record {
  entries = c.args.whole.now.entries.items;
  memory = c.args.whole.now.memory.items;
  run = c.requires.run;
  within = c.requires.within;
  left = c.requires.memory;
  clean = c.requires.clean.0 c.if-whole.true;
  speaks = program_law c.args.program.now (reverse c.args.whole.now.entries.items) c.requires.run (c.requires.clean.0 c.if-whole.true);
  tells = record {
    wraps = c.in_ok-wraps.wraps;
    are_wraps = c.in_ok-wraps.ensures;
    run = c.in_ok-run.run'.items;
    tells_run = c.in_ok-run.ensures;
    behind = c.in_ok-told.ensures;
  };
}

pub wraps_of-requires-clause-judged : goal.wraps_of-requires-clause-judged
wraps_of-requires-clause-judged c = c.requires.run.0.run.judged

pub explain_clean-requires-clause-judged : goal.explain_clean-requires-clause-judged
explain_clean-requires-clause-judged c = (shape_in c.args.program.now, c.requires.run.0.run.judged)

pub digest_of_run-requires-clause-judged : goal.digest_of_run-requires-clause-judged
digest_of_run-requires-clause-judged c = (shape_in c.args.program.now, c.requires.run.0.run.judged)

pub tell_races-requires-clause-digest : goal.tell_races-requires-clause-digest
tell_races-requires-clause-digest c = (c.args.whole.now.entries.items, c.in_ok-digest.ensures.digest)

pub returns : goal.returns
returns c = record {
  entries = c.args.whole.now.entries.items;
  run = c.requires.run;
  within = c.requires.within;
  raced = search rules;
  explains = record {
    wraps = c.in_ok-wraps.wraps;
    are_wraps = c.in_ok-wraps.ensures;
    run = c.in_ok-run-2.run'.items;
    tells_run = c.in_ok-run-2.ensures c.args.whole.now.entries.items c.in_ok-digest.ensures.digest;
    behind = c.in_ok-told-2.ensures;
  };
}
