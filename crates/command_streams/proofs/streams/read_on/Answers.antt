use Rattle.std.proofs.Common.{◌≡◌, ◌+◌, ◌-◌, ◌∙◌, Err, List, ℕ, length, refl, sym, ap, rules, arith, length-drop, length-append}
use Rattle.std.proofs.lemmas.Result.{err_from_is_err_and}
use Rattle.command_streams.specs.Watched.{held, calls_of}
use Rattle.command_streams.proofs.Bytes.{uncalled, called_both}
use Rattle.command_streams.specs.declared.fault.CliFault.{CliFault}
use Rattle.command_streams.specs.declared.fault.CliFault.TheVariants.{Read}
use Rattle.command_streams.proofs.Failing.{step_failed, none_failed, memory_failed, all_well, fault_failed, text_unread}
use Rattle.command_streams.proofs.Reading.{IsReadOn, on_first, on_read, on_taken, on_end, on_fault, on_stop, on_away}
use Rattle.command_streams.proofs.streams.read_on.Goals as goal

pub returns-in_err-text-clause-fault : goal.returns-in_err-text-clause-fault
returns-in_err-text-clause-fault g c =
    let gone = err_from_is_err_and c.from_residual.result c.from_residual.ensures.1 in
    rw (gone.1, gone.2) (λ first taken. tt)

pub returns-in_err-text-clause-failed : goal.returns-in_err-text-clause-failed
returns-in_err-text-clause-failed g c =
    let gone = err_from_is_err_and c.from_residual.result c.from_residual.ensures.1 in
    memory_failed _ _ gone.0 gone.1 gone.2 c.requires.fresh

pub returns-in_err-text-clause-calls : goal.returns-in_err-text-clause-calls
returns-in_err-text-clause-calls g c = uncalled _ (calls_of c.args.input.now)

pub copy_behind-requires : goal.copy_behind-requires
copy_behind-requires g c = c.requires.begun.0

pub loop-text-init : goal.loop-text-init
loop-text-init g c =
    let within = c.requires.begun.0 in
    let long = ap length c.in_ok-text.ensures in
    let rest = length-drop c.args.end c.args.head.now in
    record {
      read = on_first c.args.head.now (g.R.Read.remaining (held c.args.input.now)) c.in_ok-text.text.items c.args.end c.args.begun within c.requires.begun.1
          c.in_ok-text.ensures;
      short = omega (arith, within, long, rest, c.requires.short);
      size = search rules;
      fresh = c.requires.fresh;
      grown = omega (arith, within, long, rest);
      calls = uncalled _ (calls_of c.args.input.now);
    }

pub returns-in_err-read_until-clause-fault : goal.returns-in_err-read_until-clause-fault
returns-in_err-read_until-clause-fault g c =
    let gone = err_from_is_err_and c.from_residual-in_err-read_until.result c.from_residual-in_err-read_until.ensures.1 in
    let before = g.R.Read.remaining (held c.args.input.now) in
    let now = g.R.Read.remaining (held c.loop-text.input) in
    rw (gone.1, gone.2)
    (on_stop c.args.head.now before now c.loop-text.count c.loop-text.begun c.loop-text.text.items c.loop-text.invariant.read
    (g.R.Read.remaining (held c.read_until.new.input)) _ c.in_err-read_until.ensures.fault)

pub returns-in_err-read_until-clause-calls : goal.returns-in_err-read_until-clause-calls
returns-in_err-read_until-clause-calls g c =
    let inv = c.loop-text.invariant in
    called_both _ _ _ (calls_of c.args.input.now) (calls_of c.loop-text.input) (calls_of c.read_until.new.input)
    (omega (arith, inv.short, inv.grown)) inv.calls c.in_err-read_until.ensures.calls

pub loop-text-preserved : goal.loop-text-preserved
loop-text-preserved g c =
    let inv = c.loop-text.invariant in
    let before = g.R.Read.remaining (held c.args.input.now) in
    let now = g.R.Read.remaining (held c.loop-text.input) in
    let next = g.R.Read.remaining (held c.read_until.new.input) in
    let pieces = c.in_ok-read_until.ensures.taken in
    let new : List ℕ = c.read_until.new.text.items in
    let slice : c.as_slice.result.now ≡ new = c.as_slice.ensures.value in
    let long = ap length pieces.added in
    let longer = length-append c.loop-text.text.items pieces.pieces in
    let left = ap length c.remove_front.ensures in
    let dropped = length-drop c.in-Ok.taken new in
    let on : IsReadOn c.args.head.now before next c.loop-text.count c.loop-text.begun new =
    on_read c.args.head.now before now next c.loop-text.count c.loop-text.size c.loop-text.begun c.loop-text.text.items new _ pieces inv.read in
    let took = rw slice at (c.in-Ok.ensures on.bytes on.begun_with) in
    record {
      read = on_taken c.args.head.now before next c.loop-text.count c.loop-text.begun new on
          c.in-Ok.taken c.remove_front.new.text.items c.take.new.self took.0 c.remove_front.ensures took.1;
      short = omega (arith, pieces.short, left, dropped, took.0);
      size = search rules;
      fresh = c.in_ok-read_until.ensures.fresh;
      grown = omega (arith, inv.grown, long, longer, left, dropped, took.0);
      calls = called_both _ _ _ (calls_of c.args.input.now) (calls_of c.loop-text.input) (calls_of c.read_until.new.input)
          (omega (arith, inv.grown, long, longer, left, dropped, took.0)) inv.calls (c.in_ok-read_until.ensures.counted c.if-branch.true);
    }

pub returns-in-Err-clause-fault : goal.returns-in-Err-clause-fault
returns-in-Err-clause-fault g c =
    let inv = c.loop-text.invariant in
    let before = g.R.Read.remaining (held c.args.input.now) in
    let now = g.R.Read.remaining (held c.loop-text.input) in
    let next = g.R.Read.remaining (held c.read_until.new.input) in
    let pieces = c.in_ok-read_until.ensures.taken in
    let new : List ℕ = c.read_until.new.text.items in
    let slice : c.as_slice.result.now ≡ new = c.as_slice.ensures.value in
    let on : IsReadOn c.args.head.now before next c.loop-text.count c.loop-text.begun new =
    on_read c.args.head.now before now next c.loop-text.count c.loop-text.size c.loop-text.begun c.loop-text.text.items new _ pieces inv.read in
    on_away c.args.head.now before next c.loop-text.count c.loop-text.begun new on
    (g.R.Read.remaining (held c.skip_rest.new.input)) c.in-Err.fault c.skip_rest.result
    (rw slice at (c.in-Err.ensures on.bytes on.begun_with))
    (λ all long kept. c.skip_rest.ensures.fault all (search rules) kept)

pub returns-in-Err-clause-calls : goal.returns-in-Err-clause-calls
returns-in-Err-clause-calls g c =
    let inv = c.loop-text.invariant in
    let pieces = c.in_ok-read_until.ensures.taken in
    let long = ap length pieces.added in
    let longer = length-append c.loop-text.text.items pieces.pieces in
    called_both _ _ _ (calls_of c.args.input.now) (calls_of c.read_until.new.input) (calls_of c.skip_rest.new.input)
    (omega (arith, inv.grown, pieces.short, long, longer))
    (called_both (c.loop-text.count + length c.read_until.new.text.items - length c.args.head.now) _ _ (calls_of c.args.input.now) (calls_of c.loop-text.input) (calls_of c.read_until.new.input)
    (omega (arith, inv.grown, long, longer)) inv.calls (c.in_ok-read_until.ensures.counted c.if-branch.true))
    c.skip_rest.ensures.calls

pub returns-in-Ok-end-clause-ok : goal.returns-in-Ok-end-clause-ok
returns-in-Ok-end-clause-ok g c =
    let inv = c.loop-text.invariant in
    let before = g.R.Read.remaining (held c.args.input.now) in
    let now = g.R.Read.remaining (held c.loop-text.input) in
    let next = g.R.Read.remaining (held c.read_until.new.input) in
    let pieces = c.in_ok-read_until.ensures.taken in
    let new : List ℕ = c.read_until.new.text.items in
    let slice : c.as_slice-2.result.now ≡ new = c.as_slice-2.ensures.value in
    let on : IsReadOn c.args.head.now before next c.loop-text.count c.loop-text.begun new =
    on_read c.args.head.now before now next c.loop-text.count c.loop-text.size c.loop-text.begun c.loop-text.text.items new _ pieces inv.read in
    on_end c.args.head.now before next c.loop-text.count c.loop-text.begun new on _ pieces.short (pieces.end c.if-branch.false)
    (rw slice at (c.in-Ok-end.ensures on.bytes on.begun_with))

pub returns-in-Ok-end-clause-calls : goal.returns-in-Ok-end-clause-calls
returns-in-Ok-end-clause-calls g c =
    let inv = c.loop-text.invariant in
    called_both _ _ _ (calls_of c.args.input.now) (calls_of c.loop-text.input) (calls_of c.read_until.new.input)
    (omega (arith, inv.short, inv.grown)) inv.calls c.in_ok-read_until.ensures.calls

pub returns-clause-fault : goal.returns-clause-fault
returns-clause-fault g c =
    let inv = c.loop-text.invariant in
    let before = g.R.Read.remaining (held c.args.input.now) in
    let now = g.R.Read.remaining (held c.loop-text.input) in
    let next = g.R.Read.remaining (held c.read_until.new.input) in
    let pieces = c.in_ok-read_until.ensures.taken in
    let new : List ℕ = c.read_until.new.text.items in
    let slice : c.as_slice-2.result.now ≡ new = c.as_slice-2.ensures.value in
    let on : IsReadOn c.args.head.now before next c.loop-text.count c.loop-text.begun new =
    on_read c.args.head.now before now next c.loop-text.count c.loop-text.size c.loop-text.begun c.loop-text.text.items new _ pieces inv.read in
    rw c.from.ensures
    (on_fault c.args.head.now before next c.loop-text.count c.loop-text.begun new on _ pieces.short (pieces.end c.if-branch.false)
    (rw slice at (c.in-Err-end.ensures on.bytes on.begun_with)))

pub returns-clause-calls : goal.returns-clause-calls
returns-clause-calls g c =
    let inv = c.loop-text.invariant in
    called_both _ _ _ (calls_of c.args.input.now) (calls_of c.loop-text.input) (calls_of c.read_until.new.input)
    (omega (arith, inv.short, inv.grown)) inv.calls c.in_ok-read_until.ensures.calls

pub read_until-requires-clause-fresh : goal.read_until-requires-clause-fresh
read_until-requires-clause-fresh g c = c.loop-text.invariant.fresh

pub read_until-requires-clause-room : goal.read_until-requires-clause-room
read_until-requires-clause-room g c = omega (arith, c.loop-text.auto.piece, c.requires.room)

pub read_until-requires-clause-short : goal.read_until-requires-clause-short
read_until-requires-clause-short g c = c.loop-text.invariant.short

pub returns-in_err-read_until-clause-failed : goal.returns-in_err-read_until-clause-failed
returns-in_err-read_until-clause-failed g c =
    let gone = err_from_is_err_and c.from_residual-in_err-read_until.result c.from_residual-in_err-read_until.ensures.1 in
    step_failed _ Read _ c.in_err-read_until.field-0.0 (gone.1 ∙ ap (λ (f : CliFault). Err f) gone.2) c.in_err-read_until.ensures.failed

pub skip_rest-requires-clause-fresh : goal.skip_rest-requires-clause-fresh
skip_rest-requires-clause-fresh g c = c.in_ok-read_until.ensures.fresh

pub skip_rest-requires-clause-room : goal.skip_rest-requires-clause-room
skip_rest-requires-clause-room g c = omega (arith, c.read_until.auto.piece, c.loop-text.auto.piece, c.requires.room)

pub returns-in-Err-clause-failed : goal.returns-in-Err-clause-failed
returns-in-Err-clause-failed g c = fault_failed _ Read c.skip_rest.result c.skip_rest.ensures.failed

pub returns-in-Ok-end-clause-failed : goal.returns-in-Ok-end-clause-failed
returns-in-Ok-end-clause-failed g c = all_well _ Read _ c.in_ok-read_until.ensures.fresh

pub returns-clause-failed : goal.returns-clause-failed
returns-clause-failed g c =
    none_failed _ Read _ c.from.result refl (λ is. text_unread _ (sym c.from.ensures ∙ is)) c.in_ok-read_until.ensures.fresh

pub remove_front-requires : goal.remove_front-requires
remove_front-requires g c =
    let inv = c.loop-text.invariant in
    let before = g.R.Read.remaining (held c.args.input.now) in
    let now = g.R.Read.remaining (held c.loop-text.input) in
    let next = g.R.Read.remaining (held c.read_until.new.input) in
    let pieces = c.in_ok-read_until.ensures.taken in
    let new : List ℕ = c.read_until.new.text.items in
    let slice : c.as_slice.result.now ≡ new = c.as_slice.ensures.value in
    let on : IsReadOn c.args.head.now before next c.loop-text.count c.loop-text.begun new =
    on_read c.args.head.now before now next c.loop-text.count c.loop-text.size c.loop-text.begun c.loop-text.text.items new _ pieces inv.read in
    let took = rw slice at (c.in-Ok.ensures on.bytes on.begun_with) in
    took.0

pub loop-text-smaller : goal.loop-text-smaller
loop-text-smaller g c =
    let inv = c.loop-text.invariant in
    let before = g.R.Read.remaining (held c.args.input.now) in
    let now = g.R.Read.remaining (held c.loop-text.input) in
    let next = g.R.Read.remaining (held c.read_until.new.input) in
    let pieces = c.in_ok-read_until.ensures.taken in
    let new : List ℕ = c.read_until.new.text.items in
    let slice : c.as_slice.result.now ≡ new = c.as_slice.ensures.value in
    let on : IsReadOn c.args.head.now before next c.loop-text.count c.loop-text.begun new =
    on_read c.args.head.now before now next c.loop-text.count c.loop-text.size c.loop-text.begun c.loop-text.text.items new _ pieces inv.read in
    let took = rw slice at (c.in-Ok.ensures on.bytes on.begun_with) in
    let left = ap length c.remove_front.ensures in
    omega (arith, inv.size, pieces.reached c.if-branch.true, pieces.short, left, length-drop c.in-Ok.taken new, took.0)

pub overflow_add-count : goal.overflow_add-count
overflow_add-count g c =
    let inv = c.loop-text.invariant in
    let before = g.R.Read.remaining (held c.args.input.now) in
    let now = g.R.Read.remaining (held c.loop-text.input) in
    let next = g.R.Read.remaining (held c.read_until.new.input) in
    let pieces = c.in_ok-read_until.ensures.taken in
    let new : List ℕ = c.read_until.new.text.items in
    let slice : c.as_slice.result.now ≡ new = c.as_slice.ensures.value in
    let on : IsReadOn c.args.head.now before next c.loop-text.count c.loop-text.begun new =
    on_read c.args.head.now before now next c.loop-text.count c.loop-text.size c.loop-text.begun c.loop-text.text.items new _ pieces inv.read in
    let took = rw slice at (c.in-Ok.ensures on.bytes on.begun_with) in
    omega (arith, pieces.short, took.0)
