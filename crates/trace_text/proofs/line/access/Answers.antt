use Rattle.trace_text.proofs.Requests.{access_fits, access_item}
use Rattle.trace_text.proofs.line.access.Goals as goal

pub returns-in-Ok : goal.returns-in-Ok
returns-in-Ok g c =
    let known = c.args.names.now in
    let is = rw (c.both-2.ensures, c.both.ensures) at c.in-Ok.ensures in
    let fits = rw (← is) at
    (access_fits known c.args.words.now c.strand-by.new.words c.place-place.new.words c.value_for-value.new.words c.strand-by.result c.place-place.result c.value_for-value.result
    c.mark-mark.result (c.strand-by.ensures known) (c.mark-mark.ensures known) c.args.kind c.place-place.ensures (c.value_for-value.ensures known)) in
    rw (c.request_item.ensures, c.act_of.ensures)
    (access_item known c.args.at c.args.kind c.args.words.now c.in-Ok.by c.in-Ok.place c.in-Ok.value c.in-Ok.mark c.requires fits)

pub returns-in-Err : goal.returns-in-Err
returns-in-Err g c =
    let known = c.args.names.now in
    let is = rw (c.both-2.ensures, c.both.ensures) at c.in-Err.ensures in
    rw (← is) at
    (access_fits known c.args.words.now c.strand-by.new.words c.place-place.new.words c.value_for-value.new.words c.strand-by.result c.place-place.result c.value_for-value.result
    c.mark-mark.result (c.strand-by.ensures known) (c.mark-mark.ensures known) c.args.kind c.place-place.ensures (c.value_for-value.ensures known))
