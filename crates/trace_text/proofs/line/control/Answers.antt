use Rattle.std.proofs.Common.{[]}
use Rattle.std.specs.Prelude.{Some}
use Rattle.trace_text.specs.Lines.{a_strand, Mark, OfNumber, if_there}
use Rattle.trace_text.proofs.Outcomes.{takes}
use Rattle.trace_text.proofs.Requests.{control_item, control_fault}
use Rattle.trace_text.proofs.line.control.Goals as goal

pub returns-in-Ok : goal.returns-in-Ok
returns-in-Ok c = λ known.
    let fits = rw (← c.in-Ok.ensures) at
    (takes known a_strand [] (Some Mark) c.args.words.now c.strand-by.new.words c.strand-by.result c.mark-mark.result OfNumber if_there (c.strand-by.ensures known) (c.mark-mark.ensures known)) in
    rw c.request_item.ensures (control_item known c.args.at c.args.act c.args.words.now c.in-Ok.by c.in-Ok.mark c.requires fits)

pub returns-in-Err : goal.returns-in-Err
returns-in-Err c = λ known.
    let fault = rw (← c.in-Err.ensures) at
    (takes known a_strand [] (Some Mark) c.args.words.now c.strand-by.new.words c.strand-by.result c.mark-mark.result OfNumber if_there (c.strand-by.ensures known) (c.mark-mark.ensures known)) in
    control_fault known c.args.act c.args.words.now c.in-Err.why c.requires fault
