use Rattle.std.proofs.Common.{refl}
use Rattle.trace_text.proofs.LineFaults.{line_read, lowest_unknown}
use Rattle.trace_text.specs.Grammar.{ItemMeans}
use Rattle.trace_text.specs.Items.{item_of}
use Rattle.trace_text.proofs.Outcomes.{clear}
use Rattle.trace_text.proofs.line.read_line.Goals as goal

pub returns-in-Some-keyword_of : goal.returns-in-Some-keyword_of
returns-in-Some-keyword_of g c =
    let known = c.args.names.now in
    let is = (c.in-Some-keyword_of.ensures c.in-Some-keyword_of.keyword).0 refl in
    rw c.in-Some.ensures
    (line_read (clear known) known.version (λ ws item. ItemMeans c.args.at known ws (item_of item)) c.in-Some.first.now c.take.new.self c.in-Some-keyword_of.keyword
    c.behind_keyword.result (rw c.version.ensures at is.0) is.1 c.behind_keyword.ensures)

pub returns-in-None-keyword_of : goal.returns-in-None-keyword_of
returns-in-None-keyword_of g c =
    let known = c.args.names.now in
    rw c.in-Some.ensures (lowest_unknown (clear known) known.version c.in-Some.first.now c.take.new.self (rw c.version.ensures at c.in-None-keyword_of.ensures))
