use Rattle.std.proofs.Common.{get_or, subst, arith}
use Rattle.race_pairs.specs.Openers.{IsOpener}
use Rattle.race_pairs.proofs.Places.{no_frame}
use Rattle.race_pairs.proofs.OpenerLists.{frame_opener, beyond_all, between_two}
use Rattle.race_pairs.proofs.openers.find_opener.Goals as goal

pub count_before-before-requires : goal.count_before-before-requires
count_before-before-requires c = c.requires

pub returns-then-before-opened : goal.returns-then-before-opened
returns-then-before-opened c = λ entries are.
    beyond_all entries c.args.opened.now are c.args.number c.count_before-before.result c.count_before-before.ensures.point c.if-before-opened.true no_frame

pub returns-then-opener-number : goal.returns-then-opener-number
returns-then-opener-number c = λ entries are.
    subst (λ n. IsOpener entries n (get_or c.args.opened.now c.count_before-before.result no_frame).opener) c.if-opener-number.true
    (frame_opener entries c.args.opened.now are c.count_before-before.result no_frame
    (omega (arith, c.count_before-before.ensures.bound, c.if-before-opened.false)))

pub returns-else-opener-number : goal.returns-else-opener-number
returns-else-opener-number c = λ entries are.
    between_two entries c.args.opened.now are c.args.number c.count_before-before.result c.count_before-before.ensures.point
    (omega (arith, c.count_before-before.ensures.bound, c.if-before-opened.false)) no_frame c.if-opener-number.false
