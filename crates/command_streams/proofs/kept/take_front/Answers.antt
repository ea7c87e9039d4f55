use Rattle.command_streams.proofs.KeptTexts.{left_is}
use Rattle.std.proofs.Common.{◌≡◌, ◌-◌, ◌∙◌, List, ℕ, length, ap, arith, length-append, length-drop}
use Rattle.command_streams.proofs.kept.take_front.Goals as goal

pub take_plain-requires : goal.take_plain-requires
take_plain-requires c = c.requires

pub overflow_sub-taken : goal.overflow_sub-taken
overflow_sub-taken c =
    let takes = c.take_plain.ensures in
    omega (arith, ap length takes.split, length-append takes.front c.take_plain.result.now)

pub remove_front-requires : goal.remove_front-requires
remove_front-requires c = omega (arith, ap length c.as_slice-text.ensures.value)

pub returns-clause-count : goal.returns-clause-count
returns-clause-count c =
    let slice = c.as_slice-text.ensures.value in
    let takes = rw slice at c.take_plain.ensures in
    omega (arith, ap length slice, ap length c.remove_front.ensures, ap length takes.split, length-append takes.front c.take_plain.result.now, length-drop (length c.as_slice-text.result.now - length c.take_plain.result.now) c.args.waiting.now.items)

pub returns-clause-taken : goal.returns-clause-taken
returns-clause-taken c =
    let all : List ℕ = c.args.waiting.now.items in
    let rest : List ℕ = c.take_plain.result.now in
    let slice : c.as_slice-text.result.now ≡ all = c.as_slice-text.ensures.value in
    let takes = rw slice at c.take_plain.ensures in
    let left : c.remove_front.new.text.items ≡ rest =
    c.remove_front.ensures ∙ left_is all takes.front rest _ takes.split (omega (arith, ap length slice)) in
    rw left takes
