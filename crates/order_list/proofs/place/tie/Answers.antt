use Rattle.std.proofs.Common.{◌≡◌, ◌∙◌, sym, ap, arith}
use Rattle.std.proofs.lemmas.List.{get_or_read, get_or_append_left}
use Rattle.order_list.proofs.Groupings.{no_place, local_read_at, tied-locals, tied-groups, tied-nexts}
use Rattle.order_list.proofs.place.tie.Goals as goal

pub overflow_add-here : goal.overflow_add-here
overflow_add-here g c =
    let here_is = get_or_read c.args.places.now.items c.args.after _ c.requires.known c.index-here.ensures no_place in
    omega (arith, ap (λ place. place.local) here_is, local_read_at c.args.places.now.items c.args.after c.requires.known, c.requires.fits)

pub returns-clause-locals : goal.returns-clause-locals
returns-clause-locals g c =
    let here_is = get_or_read c.args.places.now.items c.args.after _ c.requires.known c.index-here.ensures no_place in
    let again : c.index_mut.result.now ≡ c.index-here.result.now = rw c.push_reserved.ensures.items at c.index_mut.ensures.value
    ∙ (get_or_append_left c.args.places.now.items _ c.index_mut.result.now c.args.after c.requires.known
    ∙ sym (get_or_read c.args.places.now.items c.args.after _ c.requires.known c.index-here.ensures c.index_mut.result.now)) in
    rw (c.push_reserved.ensures.items, again) (tied-locals c.args.places.now.items c.args.after c.args.ahead c.len-item.result c.index-here.result.now c.requires.known here_is)

pub returns-clause-groups : goal.returns-clause-groups
returns-clause-groups g c =
    let here_is = get_or_read c.args.places.now.items c.args.after _ c.requires.known c.index-here.ensures no_place in
    let again : c.index_mut.result.now ≡ c.index-here.result.now = rw c.push_reserved.ensures.items at c.index_mut.ensures.value
    ∙ (get_or_append_left c.args.places.now.items _ c.index_mut.result.now c.args.after c.requires.known
    ∙ sym (get_or_read c.args.places.now.items c.args.after _ c.requires.known c.index-here.ensures c.index_mut.result.now)) in
    rw (c.push_reserved.ensures.items, again) (tied-groups c.args.places.now.items c.args.after c.args.ahead c.len-item.result c.index-here.result.now c.requires.known here_is)

pub returns-clause-nexts : goal.returns-clause-nexts
returns-clause-nexts g c =
    let here_is = get_or_read c.args.places.now.items c.args.after _ c.requires.known c.index-here.ensures no_place in
    let again : c.index_mut.result.now ≡ c.index-here.result.now = rw c.push_reserved.ensures.items at c.index_mut.ensures.value
    ∙ (get_or_append_left c.args.places.now.items _ c.index_mut.result.now c.args.after c.requires.known
    ∙ sym (get_or_read c.args.places.now.items c.args.after _ c.requires.known c.index-here.ensures c.index_mut.result.now)) in
    rw (c.push_reserved.ensures.items, again) (tied-nexts c.args.places.now.items c.args.after c.args.ahead c.len-item.result c.index-here.result.now c.requires.known here_is)
