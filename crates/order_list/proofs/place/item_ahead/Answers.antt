use Rattle.std.proofs.Common.{◌≡◌, ◌+◌, get_or, ap, sym, ◌∙◌, arith}
use Rattle.order_list.specs.Order.{place_of}
use Rattle.order_list.specs.Places.{nexts_of, items_along}
use Rattle.order_list.proofs.Rings.{item_at}
use Rattle.order_list.proofs.Groupings.{chain_len}
use Rattle.order_list.proofs.place.item_ahead.Goals as goal

pub loop-step-init : goal.loop-step-init
loop-step-init c =
    let chain = c.requires.chain in
    let items = items_along c.args.places.now in
    sym (item_at chain c.args.first (omega (arith, c.requires.known, chain_len c.args.places.now chain))) ∙ ap (λ x. get_or items x 0) (omega arith)

pub place_at-item-requires : goal.place_at-item-requires
place_at-item-requires c =
    let chain = c.requires.chain in
    let place = place_of c.args.first (items_along c.args.places.now) + c.loop-step._step in
    let len = chain_len c.args.places.now chain in
    omega (arith, c.loop-step.invariant, len, chain.numbered place (omega (arith, c.requires.within, len)))

pub loop-step-preserved : goal.loop-step-preserved
loop-step-preserved c =
    let chain = c.requires.chain in
    let items = items_along c.args.places.now in
    let place = place_of c.args.first items + c.loop-step._step in
    let len = chain_len c.args.places.now chain in
    c.place_at-item.ensures.next ∙ (ap (λ x. get_or (nexts_of c.args.places.now) x 0) c.loop-step.invariant ∙ (chain.forward place (omega (arith, c.requires.within, len)) ∙ ap (λ x. get_or items x 0) (omega arith)))

pub returns-clause-known : goal.returns-clause-known
returns-clause-known c =
    let chain = c.requires.chain in
    let place = place_of c.args.first (items_along c.args.places.now) + c.args.count in
    let len = chain_len c.args.places.now chain in
    let all : c.loop-step._step ≡ c.args.count = omega arith in
    omega (arith, rw all at c.loop-step.invariant, len, chain.numbered place (omega (arith, c.requires.within, len)))
