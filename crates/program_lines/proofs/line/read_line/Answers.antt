use Rattle.std.proofs.Common.{refl}
use Rattle.trace_text.proofs.LineFaults.{line_read, lowest_unknown}
use Rattle.program_lines.specs.Grammar.{ItemMeans}
use Rattle.program_lines.specs.Items.{item_of}
use Rattle.program_lines.proofs.Outcomes.{clear}
use Rattle.program_lines.proofs.line.read_line.Goals as goal

pub returns-in-Some-keyword_of : goal.returns-in-Some-keyword_of
returns-in-Some-keyword_of g c =
    let scope = c.args.scope.now in
    let is = (c.in-Some-keyword_of.ensures c.in-Some-keyword_of.keyword).0 refl in
    rw c.in-Some.ensures
    (line_read (clear scope) scope.known.version (λ ws item. ItemMeans c.args.at scope ws (item_of item)) c.in-Some.first.now c.take.new.self c.in-Some-keyword_of.keyword
    c.behind_keyword.result (rw (c.version.ensures, c.names.ensures) at is.0) is.1 c.behind_keyword.ensures)

pub returns-in-None-keyword_of : goal.returns-in-None-keyword_of
returns-in-None-keyword_of g c =
    let scope = c.args.scope.now in
    rw c.in-Some.ensures
    (lowest_unknown (clear scope) scope.known.version c.in-Some.first.now c.take.new.self (rw (c.version.ensures, c.names.ensures) at c.in-None-keyword_of.ensures))
