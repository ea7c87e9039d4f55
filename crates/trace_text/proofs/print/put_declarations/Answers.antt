use Rattle.std.proofs.Common.{◌+◌, ◌++◌, List, drop, arith, refl, sym, ap, ◌∙◌}
use Rattle.std.specs.Prelude.{string_bytes}
use Rattle.text_words.specs.declared.value.Mem.{Mem}
use Rattle.trace_text.specs.Printing.{declarations, text_from}
use Rattle.trace_text.proofs.Printed.{drop_here, declared_step}
use Rattle.trace_text.proofs.print.put_declarations.Goals as goal

pub loop-mem-preserved : goal.loop-mem-preserved
loop-mem-preserved g c = λ known requests.
    let mems = c.args.mems.now in
    let mem = c.mem-item.result in
    let here = drop_here mems c.loop-mem.mem-index mem (omega arith) c.mem-item.is in
    declared_step known mem (drop (c.loop-mem.mem-index + 1) mems) requests c.from.result (string_bytes c.loop-mem.out) (string_bytes c.put_reducers_until.new.out)
    (string_bytes c.put_memory_line.new.out) _ c.loop-mem.at c.in_ok-next.next c.in_ok-at.at c.loop-mem.rest.now c.in_ok-next.left.now
    c.from.ensures c.in_ok-next.ensures.past (c.in_ok-next.ensures.prints known) (c.in_ok-at.ensures known)
    (ap (λ (ms : List Mem). string_bytes c.loop-mem.out ++ text_from known c.loop-mem.at (declarations ms c.loop-mem.rest.now ++ requests)) (sym here) ∙ c.loop-mem.invariant known requests)

pub loop-mem-init : goal.loop-mem-init
loop-mem-init g c = λ known requests. refl
