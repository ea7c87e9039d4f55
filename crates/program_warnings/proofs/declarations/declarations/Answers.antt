use Rattle.std.proofs.Common.{◌≡◌, ◌+◌, ◌∷◌, [], ◌++◌, sym, ◌∙◌, ap, take, subst}
use Rattle.std.specs.Prelude.{cond, Some, None}
use Rattle.std.specs.Option.{option_or}
use Rattle.std.specs.Str.{bytes_eq}
use Rattle.std.proofs.lemmas.List.{take_more}
use Rattle.program_warnings.specs.Declarations.{of_memory, of_reducer, memory_declared, reducer_declared, stored_at}
use Rattle.program_warnings.proofs.Declaring.{memory_more, reducer_behind}
use Rattle.program_warnings.proofs.declarations.declarations.Goals as goal

pub loop-mem-preserved : goal.loop-mem-preserved
loop-mem-preserved c = λ name.
    let mem = c.mem-item.result in
    let more : take (c.loop-mem.mem-index + 1) c.args.mems.now ≡ take c.loop-mem.mem-index c.args.mems.now ++ mem ∷ [] =
    take_more c.args.mems.now c.loop-mem.mem-index mem c.loop-mem-test.true ∙ ap (λ one. take c.loop-mem.mem-index c.args.mems.now ++ one ∷ []) (sym c.mem-item.is) in
    let now : stored_at c.declare.new.names name ≡ option_or (stored_at c.loop-mem.names name) (cond (bytes_eq name mem.name) (Some (of_memory mem)) None) =
    simp (c.as_bytes.ensures.value, c.as_str.ensures, c.of_memory.ensures) at (c.in_ok-declare.ensures name) in
    subst (λ all. stored_at c.declare.new.names name ≡ memory_declared all name) (sym more)
    (memory_more (take c.loop-mem.mem-index c.args.mems.now) mem name (stored_at c.loop-mem.names name) (stored_at c.declare.new.names name)
    (c.loop-mem.invariant name) now)

pub loop-reducer-preserved : goal.loop-reducer-preserved
loop-reducer-preserved c = λ name.
    let reducer = c.reducer-item.result in
    let more : take (c.loop-reducer.reducer-index + 1) c.args.reducers.now ≡ take c.loop-reducer.reducer-index c.args.reducers.now ++ reducer ∷ [] =
    take_more c.args.reducers.now c.loop-reducer.reducer-index reducer c.loop-reducer-test.true ∙
    ap (λ one. take c.loop-reducer.reducer-index c.args.reducers.now ++ one ∷ []) (sym c.reducer-item.is) in
    let now : stored_at c.declare-in-loop-reducer.new.names name
    ≡ option_or (stored_at c.loop-reducer.names name) (cond (bytes_eq name reducer.name) (Some (of_reducer reducer)) None) =
    simp (c.as_bytes-in-loop-reducer.ensures.value, c.as_str-in-loop-reducer.ensures, c.of_reducer.ensures) at (c.in_ok-declare-2.ensures name) in
    subst (λ all. stored_at c.declare-in-loop-reducer.new.names name ≡ option_or (memory_declared c.args.mems.now name) (reducer_declared all name)) (sym more)
    (reducer_behind (memory_declared c.args.mems.now name) (take c.loop-reducer.reducer-index c.args.reducers.now) reducer name
    (stored_at c.loop-reducer.names name) (stored_at c.declare-in-loop-reducer.new.names name) (c.loop-reducer.invariant name) now)
