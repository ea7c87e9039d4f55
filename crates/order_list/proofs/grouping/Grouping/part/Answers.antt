use Rattle.std.proofs.Common.{◌≡◌, ◌≢◌, ◌<◌, ◌∙◌, length, get_or, refl, sym, arith}
use Rattle.std.proofs.lemmas.List.{get_or_read, with_items_is}
use Rattle.order_list.specs.Places.{groups_of}
use Rattle.order_list.proofs.Parted.{parted}
use Rattle.order_list.proofs.grouping.Grouping.part.Goals as goal

pub invariant_of-self-clause-grouped : goal.invariant_of-self-clause-grouped
invariant_of-self-clause-grouped g c =
    let old = c.args.self.now in
    let group : c.place_at-group.result.group ≡ get_or (groups_of old.places.items) c.args.item 0 = rw c.deref.ensures.value at c.place_at-group.ensures.group in
    let known : c.place_at-group.result.group < length old.groups.items = omega (arith, group, old.grouped.known c.args.item c.requires) in
    let first = get_or_read old.firsts.items c.place_at-group.result.group _ (omega (arith, known, old.grouped.firsts_len)) c.index.ensures 0 in
    let is : get_or (groups_of old.places.items) c.tail-begin.result.0 0 ≡ c.place_at-group.result.group = c.tail-begin.ensures.group ∙ sym group in
    let other : c.tail-begin.result.0 ≢ get_or old.firsts.items c.place_at-group.result.group 0 = λ same. omega (arith, same, first, c.if-begin-index.false) in
    let e = rw (c.deref_mut.ensures.value, c.insert_reserved-behind.ensures.item) at c.spread.ensures.evened in
    rw (with_items_is old.places c.spread.new.places (omega (arith, e.len, old.places.ok)), e.nexts, c.push_reserved.ensures.items, c.insert_reserved-behind.ensures.items, c.insert_reserved-behind.ensures.item)
    (parted old.grouped c.tail-begin.result.0 c.tail-begin.result.1 c.place_at-group.result.group c.tail-begin.ensures.row is c.spread.new.places c.spread.result _ other e
    (omega (arith, c.spread.ensures.some)) (omega arith) (omega (arith, c.reserved.ensures.few, c.reserved.ensures.value)))

pub insert_reserved-behind-requires-clause-known : goal.insert_reserved-behind-requires-clause-known
insert_reserved-behind-requires-clause-known g c =
    let old = c.args.self.now in
    let group = rw c.deref.ensures.value at c.place_at-group.ensures.group in
    omega (arith, group, old.grouped.known c.args.item c.requires)

pub returns-clause-items : goal.returns-clause-items
returns-clause-items g c =
    let old = c.args.self.now in
    let e = rw c.deref_mut.ensures.value at c.spread.ensures.evened in
    rw (with_items_is old.places c.spread.new.places (omega (arith, e.len, old.places.ok)), e.nexts) refl

pub spread-requires-clause-chain : goal.spread-requires-clause-chain
spread-requires-clause-chain g c = rw c.deref_mut.ensures.value c.args.self.now.grouped.chain

pub spread-requires-clause-row : goal.spread-requires-clause-row
spread-requires-clause-row g c = rw c.deref_mut.ensures.value c.tail-begin.ensures.row.row
