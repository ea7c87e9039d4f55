use Rattle.std.proofs.Common.{◌∷◌, ◌++◌, [], List, map, take, sym, ap, ◌∙◌}
use Rattle.std.proofs.lemmas.List.{map_more, take_all}
use Rattle.model_reducers.specs.declared.monoid.Monoid.{Monoid}
use Rattle.text_words.specs.declared.value.Reducer.{Reducer}
use Rattle.trace_text.proofs.trace.monoids_of.Goals as goal

abbrev monoid_of : Reducer → Monoid
monoid_of reducer = reducer.monoid

pub loop-reducer-preserved : goal.loop-reducer-preserved
loop-reducer-preserved g c =
    let reducers = c.args.reducers.now in
    let i = c.loop-reducer.reducer-index in
    let reducer = c.reducer-item.result in
    c.in_ok-push.ensures.items
    ∙ (ap (λ (monoids : List Monoid). monoids ++ reducer.monoid ∷ []) c.loop-reducer.invariant
    ∙ (ap (λ (r : Reducer). map monoid_of (take i reducers) ++ r.monoid ∷ []) c.reducer-item.is
    ∙ sym (map_more monoid_of reducers i reducer c.loop-reducer-test.true)))

pub returns : goal.returns
returns g c =
    c.new.ensures ∙ (c.loop-reducer.invariant ∙ ap (map monoid_of) (take_all c.loop-reducer.reducer-index c.args.reducers.now c.loop-reducer-test.false))
