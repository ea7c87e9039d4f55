use Rattle.std.proofs.Common.{sym, ◌∙◌}
use Rattle.program_text.specs.Shapes.{shape_in}
use Rattle.tool_commands.proofs.ExplanationCauses.{some_refused}
use Rattle.tool_commands.proofs.explain.explain_unfinished.Goals as goal

pub of-requires-clause-judged : goal.of-requires-clause-judged
of-requires-clause-judged c = (shape_in c.args.program.now, c.requires.run.0.run.judged)

pub tell_limit-requires-clause-digest : goal.tell_limit-requires-clause-digest
tell_limit-requires-clause-digest c = (c.args.entries.now, c.in_ok-digest.ensures.0)

pub returns-then-refusal_status-eq0 : goal.returns-then-refusal_status-eq0
returns-then-refusal_status-eq0 c = record {
  entries = c.args.entries.now;
  run = c.requires.run.0;
  full = c.requires.full;
  unfinished = c.requires.run.1;
  explains = record {
    wraps = c.args.wraps.now;
    are_wraps = c.requires.wraps;
    run = c.in_ok-run.run'.items;
    tells_run = c.in_ok-run.ensures c.args.entries.now c.in_ok-digest.ensures.0;
    behind = c.in_ok-told.ensures;
  };
  refused_is = sym c.if-refusal_status-eq0.true ∙ c.refusal_status.ensures;
}

pub returns : goal.returns
returns c = record {
  entries = c.args.entries.now;
  run = c.requires.run.0;
  full = c.requires.full;
  unfinished = c.requires.run.1;
  explains = record {
    wraps = c.args.wraps.now;
    are_wraps = c.requires.wraps;
    run = c.in_ok-run.run'.items;
    tells_run = c.in_ok-run.ensures c.args.entries.now c.in_ok-digest.ensures.0;
    behind = c.in_ok-told.ensures;
  };
  refused_is = some_refused c.args.entries.now (λ none. c.if-refusal_status-eq0.false (c.refusal_status.ensures ∙ none));
}
