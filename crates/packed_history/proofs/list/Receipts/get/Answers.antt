use Rattle.std.proofs.Common.{◌≡◌, ◌<◌, ◌∙◌, length, subst, sym, true}
use Rattle.packed_history.specs.declared.packed.Packed.{Packed}
use Rattle.packed_history.specs.Lists.{Listed}
use Rattle.packed_history.specs.Packing.{unpacked}
use Rattle.packed_history.specs.Shorts.{is_short}
use Rattle.packed_history.proofs.Kept.{read_short, read_twice}
use Rattle.packed_history.proofs.list.Receipts.get.Goals as goal

pub returns-then-is_short : goal.returns-then-is_short
returns-then-is_short g c =
    let inside = c.self.inside in
    let one = c.index-then-is_short.result.now in
    let within : c.args.at < length (c.args.self.now.items) = c.requires in
    let inner = subst (λ (list : Listed). c.args.at < length list.items) (sym c.self.view_is) within in
    let same = read_twice inside.longs.items inside.refusals.items inside.shorts.items c.args.at c.index.result.now one inner c.index.ensures
    c.index-then-is_short.ensures in
    rw (← c.self.view_is)
    (read_short inside.longs.items inside.refusals.items inside.shorts.items c.args.at one c.unpack.result inner c.index-then-is_short.ensures
    (subst (λ (p : Packed). is_short (unpacked p).deed ≡ true) same (sym c.is_short.ensures ∙ c.if-is_short.true)) c.unpack.ensures)

pub returns-else-is_short : goal.returns-else-is_short
returns-else-is_short g c = c.either.ensures
