use Rattle.std.proofs.Common.{◌≡◌, ◌<◌, length, get_or, refl, arith}
use Rattle.std.proofs.lemmas.List.{get_or_read, with_items_is}
use Rattle.order_list.specs.Places.{groups_of}
use Rattle.order_list.proofs.Halves.{evened, evened-behind}
use Rattle.order_list.proofs.grouping.Grouping.even_out.Goals as goal

pub invariant_of-self-clause-grouped : goal.invariant_of-self-clause-grouped
invariant_of-self-clause-grouped g c =
    let old = c.args.self.now in
    let group : c.place_at-group.result.group ≡ get_or (groups_of old.places.items) c.args.item 0 = rw c.deref.ensures.value at c.place_at-group.ensures.group in
    let known : c.place_at-group.result.group < length old.groups.items = omega (arith, group, old.grouped.known c.args.item c.requires) in
    let first = get_or_read old.firsts.items c.place_at-group.result.group _ (omega (arith, known, old.grouped.firsts_len)) c.index-first.ensures 0 in
    let row = rw (c.deref-2.ensures.value, first) at c.count_from-count.ensures in
    let e = rw (c.deref_mut.ensures.value, first) at c.spread.ensures.evened in
    rw (with_items_is old.places c.spread.new.places (omega (arith, e.len, old.places.ok)), e.nexts)
    (evened old.grouped c.place_at-group.result.group known c.spread.new.places c.count_from-count.result c.spread.result _ row e (omega (arith, c.spread.ensures.some)) (omega arith))

pub returns-clause-room : goal.returns-clause-room
returns-clause-room g c =
    let old = c.args.self.now in
    let group : c.place_at-group.result.group ≡ get_or (groups_of old.places.items) c.args.item 0 = rw c.deref.ensures.value at c.place_at-group.ensures.group in
    let known : c.place_at-group.result.group < length old.groups.items = omega (arith, group, old.grouped.known c.args.item c.requires) in
    let first = get_or_read old.firsts.items c.place_at-group.result.group _ (omega (arith, known, old.grouped.firsts_len)) c.index-first.ensures 0 in
    let row = rw (c.deref-2.ensures.value, first) at c.count_from-count.ensures in
    let e = rw (c.deref_mut.ensures.value, first) at c.spread.ensures.evened in
    let room = evened-behind old.grouped c.place_at-group.result.group known c.spread.new.places c.count_from-count.result c.spread.result row e c.args.item c.requires (omega (arith, group)) in
    rw (with_items_is old.places c.spread.new.places (omega (arith, e.len, old.places.ok))) (record { fits = room.0; behind = rw e.nexts (room.1) })

pub returns-clause-items : goal.returns-clause-items
returns-clause-items g c =
    let old = c.args.self.now in
    let e = rw c.deref_mut.ensures.value at c.spread.ensures.evened in
    rw (with_items_is old.places c.spread.new.places (omega (arith, e.len, old.places.ok)), e.nexts) refl

pub count_from-count-requires-clause-chain : goal.count_from-count-requires-clause-chain
count_from-count-requires-clause-chain g c = rw c.deref-2.ensures.value c.args.self.now.grouped.chain

pub count_from-count-requires-clause-known : goal.count_from-count-requires-clause-known
count_from-count-requires-clause-known g c =
    let old = c.args.self.now in
    let group : c.place_at-group.result.group ≡ get_or (groups_of old.places.items) c.args.item 0 = rw c.deref.ensures.value at c.place_at-group.ensures.group in
    let known : c.place_at-group.result.group < length old.groups.items = omega (arith, group, old.grouped.known c.args.item c.requires) in
    let first = get_or_read old.firsts.items c.place_at-group.result.group _ (omega (arith, known, old.grouped.firsts_len)) c.index-first.ensures 0 in
    omega (arith, first, old.grouped.first_known c.place_at-group.result.group known, old.grouped.len, c.deref-2.ensures.len)

pub spread-requires-clause-chain : goal.spread-requires-clause-chain
spread-requires-clause-chain g c = rw c.deref_mut.ensures.value c.args.self.now.grouped.chain

pub spread-requires-clause-row : goal.spread-requires-clause-row
spread-requires-clause-row g c = rw c.deref_mut.ensures.value (rw c.deref-2.ensures.value at c.count_from-count.ensures).row
