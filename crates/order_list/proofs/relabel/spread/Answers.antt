use Rattle.std.proofs.Common.{◌≡◌, ◌<◌, ◌≤◌, ◌+◌, ◌-◌, ◌*◌, ◌/◌, suc, length, get_or, ap, sym, ◌∙◌, arith}
use Rattle.std.proofs.Math.Nat.{mul-div-le}
use Rattle.std.proofs.lemmas.Nat.{le-div}
use Rattle.order_list.specs.Order.{place_of}
use Rattle.order_list.specs.Items.{items_of}
use Rattle.order_list.proofs.Rings.{item_at, known_at}
use Rattle.order_list.proofs.Rises.{label_of}
use Rattle.order_list.proofs.Spreads.{spread-none, spread-rises, spread-gap}
use Rattle.order_list.proofs.Stretches.{spread-step}
use Rattle.order_list.proofs.relabel.spread.Goals as goal
use Rattle.order_list.proofs.relabel.spread.Goals.{then-item-stretch, else-item-stretch}

pub overflow_sub-distance : goal.overflow_sub-distance
overflow_sub-distance g c = omega (arith, c.requires.room.fits)

pub overflow_sub-distance-2 : goal.overflow_sub-distance-2
overflow_sub-distance-2 g c = omega (arith, c.requires.room.fits)

pub nonzero_div-distance : goal.nonzero_div-distance
nonzero_div-distance g c = omega (arith, c.requires.stretch.from, c.requires.stretch.to)

pub loop-placed-init : goal.loop-placed-init
loop-placed-init g c =
    let room = c.args.room in
    let start = place_of c.args.stretch.first (items_of c.args.ring.now) in
    let none : start + 0 ≡ start = omega arith in
    let all : c.args.stretch.count - 0 ≡ c.args.stretch.count = omega arith in
    record {
      spread = spread-none _ start room.low;
      item = rw none (sym (item_at c.args.ring.now.tied.chain c.args.stretch.first c.requires.stretch.first_known));
      fits = rw all (omega (arith, mul-div-le (room.high - room.low - room.free) c.args.stretch.count, c.requires.room.fits));
    }

pub bounds-labels-item : goal.bounds-labels-item
bounds-labels-item g c =
    let place = place_of c.args.stretch.first (items_of c.args.ring.now) + c.loop-placed.placed in
    let known = known_at c.args.ring.now.tied.chain place (omega (arith, c.requires.stretch.within)) in
    omega (arith, known, c.loop-placed.invariant.item, c.loop-placed.auto.labels, c.requires.was_rising.labels_len)

pub overflow_add-label : goal.overflow_add-label
overflow_add-label g c =
    let left = c.args.stretch.count - (c.loop-placed.placed + 1) in
    let distance = (c.args.room.high - c.args.room.low - c.args.room.free) / c.args.stretch.count in
    let some : c.args.stretch.count - c.loop-placed.placed ≡ suc left = omega arith in
    let product : (c.args.stretch.count - c.loop-placed.placed) * distance ≡ suc left * distance = ap (λ n. n * distance) some in
    omega (arith, product, c.loop-placed.invariant.fits)

pub overflow_add-label-then-item-stretch : goal.overflow_add-label-then-item-stretch
overflow_add-label-then-item-stretch g c =
    let left = c.args.stretch.count - (c.loop-placed.placed + 1) in
    let distance = (c.args.room.high - c.args.room.low - c.args.room.free) / c.args.stretch.count in
    let some : c.args.stretch.count - c.loop-placed.placed ≡ suc left = omega arith in
    let product : (c.args.stretch.count - c.loop-placed.placed) * distance ≡ suc left * distance = ap (λ n. n * distance) some in
    omega (arith, product, c.loop-placed.invariant.fits)

pub next-item-requires : goal.next-item-requires
next-item-requires g c =
    let place = place_of c.args.stretch.first (items_of c.args.ring.now) + c.loop-placed.placed in
    omega (arith, known_at c.args.ring.now.tied.chain place (omega (arith, c.requires.stretch.within)), c.loop-placed.invariant.item)

pub loop-placed-preserved : goal.loop-placed-preserved
loop-placed-preserved g c =
    let ring = c.args.ring.now.tied.chain in
    let stretch = c.args.stretch in
    let start = place_of stretch.first (items_of c.args.ring.now) in
    let placed = c.loop-placed.placed in
    let left = stretch.count - (placed + 1) in
    let distance = (c.args.room.high - c.args.room.low - c.args.room.free) / stretch.count in
    let two : 2 ≤ distance = le-div 2 (c.args.room.high - c.args.room.low - c.args.room.free) stretch.count (omega arith) (omega (arith, c.requires.room.fits)) in
    let some : stretch.count - placed ≡ suc left = omega arith in
    let product : (stretch.count - placed) * distance ≡ suc left * distance = ap (λ n. n * distance) some in
    let inside : start + placed < length (items_of c.args.ring.now) = omega (arith, c.requires.stretch.within) in
    let place : place_of c.loop-placed.item (items_of c.args.ring.now) ≡ start + placed = ap (λ item. place_of item (items_of c.args.ring.now)) c.loop-placed.invariant.item ∙ ring.placed (start + placed) inside in
    record {
      spread = spread-step ring c.args.labels.now c.loop-placed.labels start placed c.args.room.low c.loop-placed.label c.if-item-stretch.label c.loop-placed.item c.loop-placed.invariant.spread (omega (arith, c.loop-placed.auto.labels, c.requires.was_rising.labels_len)) inside c.loop-placed.invariant.item
          (elim c.if-item-stretch.branch [ then-item-stretch w ↦ omega (arith, two) | else-item-stretch w ↦ omega (arith, two) ]);
      item = c.next-item.ensures.value ∙ ap (λ at_place. get_or (items_of c.args.ring.now) at_place 0) (omega (arith, place));
      fits = elim c.if-item-stretch.branch [ then-item-stretch w ↦ omega (arith, product, c.loop-placed.invariant.fits) | else-item-stretch w ↦ omega (arith, product, c.loop-placed.invariant.fits) ];
    }

pub returns-clause-rising : goal.returns-clause-rising
returns-clause-rising g c =
    let all : c.loop-placed.placed ≡ c.args.stretch.count = omega arith in
    let spread = rw all at c.loop-placed.invariant.spread in
    record {
      labels_len = omega (arith, c.loop-placed.auto.labels, c.requires.was_rising.labels_len);
      rises = spread-rises _ _ _ _ _ _ spread (omega (arith, c.loop-placed.invariant.fits, c.requires.room.behind)) c.requires.was_rising.rises (omega (arith, c.requires.stretch.from, c.requires.stretch.to)) c.requires.room.before;
    }

pub returns-clause-gap : goal.returns-clause-gap
returns-clause-gap g c =
    let stretch = c.requires.stretch in
    let item = c.args.stretch.item in
    let all : c.loop-placed.placed ≡ c.args.stretch.count = omega arith in
    let spread = rw all at c.loop-placed.invariant.spread in
    omega (arith, spread-gap _ _ _ _ _ _ spread (omega (arith, c.loop-placed.invariant.fits, c.requires.room.behind)) (place_of item (items_of c.args.ring.now)) stretch.from stretch.to, spread.below (place_of item (items_of c.args.ring.now)) stretch.from stretch.to, c.loop-placed.invariant.fits, label_of c.loop-placed.labels (items_of c.args.ring.now) item (omega (arith, stretch.to, stretch.within)))
