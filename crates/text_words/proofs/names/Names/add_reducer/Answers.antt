use Rattle.std.proofs.Common.{◌≡◌, ℕ, ◌∷◌, ◌++◌, [], List, length, ap, refl, ◌∙◌, arith}
use Rattle.text_words.specs.declared.names.Named.TheVariants.{Reducer}
use Rattle.text_words.specs.declared.value.Reducer.{Reducer as Reduction}
use Rattle.text_words.specs.Declarations.{reducer_at}
use Rattle.text_words.specs.Values.{Known}
use Rattle.text_words.proofs.IndexLemmas.{unnumbered, indexed_still, reducer_added}
use Rattle.text_words.proofs.names.Names.add_reducer.Goals as goal

pub add-requires : goal.add-requires
add-requires g c =
    let inside = c.self.inside in
    let known : Known = record { version = inside.version; mems = inside.mems.items; reducers = inside.reducers.items } in
    let same : c.as_bytes.result.now ≡ c.args.name.now = c.as_bytes.ensures.value in
    record { fresh = rw same (unnumbered known inside.cells inside.meanings.index inside.meanings.meanings.items c.self.invariant c.args.name.now (rw (← c.self.view_is) at c.requires.fresh)) }

pub invariant_of-self-in_err-add : goal.invariant_of-self-in_err-add
invariant_of-self-in_err-add g c =
    let inside = c.self.inside in
    indexed_still inside.version inside.mems.items inside.mems.items inside.reducers.items c.reserve.new.self.items inside.cells inside.meanings.index c.add.new.self.index
    inside.meanings.meanings.items c.add.new.self.meanings.items c.self.invariant refl c.reserve.ensures.items c.in_err-add.ensures.err.0 c.in_err-add.ensures.err.1

pub invariant_of-self-2 : goal.invariant_of-self-2
invariant_of-self-2 g c =
    let inside = c.self.inside in
    let known : Known = record { version = inside.version; mems = inside.mems.items; reducers = inside.reducers.items } in
    let name = c.args.name.now in
    let number : c.len.result ≡ length inside.reducers.items = omega (arith, inside.reducers.ok.0, c.len.ensures) in
    reducer_added known inside.cells inside.meanings.index inside.meanings.meanings.items name c.self.invariant c.requires.is_name (rw (← c.self.view_is) at c.requires.fresh)
    c.args.at c.args.monoid c.push_reserved.new.self.items c.add.new.self.index c.add.new.self.meanings.items
    ((rw c.new.ensures at c.push_reserved.ensures.items) ∙ ap (λ (reducers : List Reduction). reducers ++ reducer_at c.args.at name c.args.monoid ∷ []) c.reserve.ensures.items)
    (c.in_ok-add.ensures.ok.0 ∙ ap (λ (n : List ℕ). inside.meanings.index ++ n ∷ []) c.as_bytes.ensures.value)
    (c.in_ok-add.ensures.ok.1 ∙ ap (λ (n : ℕ). inside.meanings.meanings.items ++ Reducer n ∷ []) number)
    (rw (← c.self.view_is) at c.requires.room)
