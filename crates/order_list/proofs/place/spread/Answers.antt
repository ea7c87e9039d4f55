use Rattle.std.proofs.Common.{◌≡◌, ◌<◌, ◌≤◌, ◌+◌, ◌-◌, ◌*◌, ◌/◌, suc, length, get_or, ap, sym, ◌∙◌, arith}
use Rattle.std.proofs.Math.Nat.{mul-div-le}
use Rattle.std.proofs.lemmas.Nat.{le-div}
use Rattle.order_list.specs.Order.{place_of}
use Rattle.order_list.specs.Places.{nexts_of, items_along}
use Rattle.order_list.proofs.Rings.{item_at}
use Rattle.order_list.proofs.Groupings.{chain_len, evened-none, evened-more}
use Rattle.order_list.proofs.place.spread.Goals as goal

pub loop-placed-init : goal.loop-placed-init
loop-placed-init c =
    let chain = c.requires.chain in
    let items = items_along c.args.places.now in
    let start = place_of c.args.first items in
    let none : start + 0 ≡ start = omega arith in
    let all : c.args.count - 0 ≡ c.args.count = omega arith in
    record {
      evened = evened-none c.args.places.now items start c.args.group (4294967295 / c.args.count);
      item = rw none (sym (item_at chain c.args.first c.requires.row.known));
      fits = rw all (omega (arith, mul-div-le 4294967295 c.args.count));
    }

pub put-requires : goal.put-requires
put-requires c =
    let chain = c.requires.chain in
    let place = place_of c.args.first (items_along c.args.places.now) + c.loop-placed.placed in
    omega (arith, c.loop-placed.invariant.item, c.loop-placed.invariant.evened.len, chain_len c.args.places.now chain, chain.numbered place (omega (arith, c.requires.row.within)))

pub place_at-item-requires : goal.place_at-item-requires
place_at-item-requires c =
    let chain = c.requires.chain in
    let place = place_of c.args.first (items_along c.args.places.now) + c.loop-placed.placed in
    omega (arith, c.put.ensures.len, c.loop-placed.invariant.item, c.loop-placed.invariant.evened.len, chain_len c.args.places.now chain, chain.numbered place (omega (arith, c.requires.row.within)))

pub overflow_add-local : goal.overflow_add-local
overflow_add-local c =
    let left = c.args.count - (c.loop-placed.placed + 1) in
    let distance = 4294967295 / c.args.count in
    let some : c.args.count - c.loop-placed.placed ≡ suc left = omega arith in
    let product : (c.args.count - c.loop-placed.placed) * distance ≡ suc left * distance = ap (λ n. n * distance) some in
    omega (arith, product, c.loop-placed.invariant.fits)

pub loop-placed-preserved : goal.loop-placed-preserved
loop-placed-preserved c =
    let chain = c.requires.chain in
    let old = c.args.places.now in
    let items = items_along old in
    let start = place_of c.args.first items in
    let placed = c.loop-placed.placed in
    let distance = 4294967295 / c.args.count in
    let left = c.args.count - (placed + 1) in
    let some : c.args.count - placed ≡ suc left = omega arith in
    let product : (c.args.count - placed) * distance ≡ suc left * distance = ap (λ n. n * distance) some in
    let inside : start + placed < length items = omega (arith, c.requires.row.within) in
    let nexts = c.put.ensures.nexts ∙ c.loop-placed.invariant.evened.nexts in
    let next : c.place_at-item.result.next ≡ get_or (nexts_of old) c.loop-placed.item 0 = rw nexts at c.place_at-item.ensures.next in
    record {
      evened = evened-more (nexts_of old) items chain old c.loop-placed.places c.put.new.places start placed c.args.group distance c.loop-placed.local c.loop-placed.item c.loop-placed.invariant.evened (chain_len old chain) inside c.loop-placed.invariant.item c.put.ensures.len c.put.ensures.groups c.put.ensures.locals c.put.ensures.nexts;
      item = next ∙ (ap (λ x. get_or (nexts_of old) x 0) c.loop-placed.invariant.item ∙ (chain.forward (start + placed) inside ∙ ap (λ x. get_or items x 0) (omega arith)));
      fits = omega (arith, product, c.loop-placed.invariant.fits);
    }

pub returns-clause-some : goal.returns-clause-some
returns-clause-some c =
    let few : c.args.count ≤ 3000001 = omega (arith, c.requires.row.within, c.requires.few, chain_len c.args.places.now c.requires.chain) in
    le-div 4 4294967295 c.args.count c.requires.row.some (omega (arith, few))

pub returns-clause-evened : goal.returns-clause-evened
returns-clause-evened c =
    let all : c.loop-placed.placed ≡ c.args.count = omega arith in
    let e = rw all at c.loop-placed.invariant.evened in
    record {
      len = e.len;
      nexts = e.nexts;
      inside = e.inside;
      steps = e.steps;
      below = λ place from to. omega (arith, e.below place from to, c.loop-placed.invariant.fits);
      groups_before = e.groups_before;
      locals_before = e.locals_before;
      groups_behind = e.groups_behind;
      locals_behind = e.locals_behind;
    }
