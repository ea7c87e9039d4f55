use Rattle.std.proofs.Common.{◌≡◌, ℕ, ◌∷◌, ◌++◌, [], List, ap, refl, sym, ◌∙◌}
use Rattle.text_words.specs.declared.value.Mem.{Mem}
use Rattle.text_words.specs.Index.{name_of_memory}
use Rattle.text_words.specs.Values.{Known}
use Rattle.text_words.proofs.IndexLemmas.{unnumbered, indexed_still, memory_added}
use Rattle.text_words.proofs.names.Names.add_memory.Goals as goal

pub add-requires : goal.add-requires
add-requires g c =
    let inside = c.self.inside in
    let known : Known = record { version = inside.version; mems = inside.mems.items; reducers = inside.reducers.items } in
    let same : c.as_bytes.result.now ≡ c.args.name.now = c.as_bytes.ensures.value in
    record { fresh = rw same (unnumbered known inside.cells inside.meanings.index inside.meanings.meanings.items c.self.invariant c.args.name.now (rw (← c.self.view_is) at c.requires.fresh)) }

pub invariant_of-self-in_err-add : goal.invariant_of-self-in_err-add
invariant_of-self-in_err-add g c =
    let inside = c.self.inside in
    indexed_still inside.version inside.mems.items c.reserve.new.self.items inside.reducers.items inside.reducers.items inside.cells inside.meanings.index c.add.new.self.index
    inside.meanings.meanings.items c.add.new.self.meanings.items c.self.invariant c.reserve.ensures.items refl c.in_err-add.ensures.err.0 c.in_err-add.ensures.err.1

pub invariant_of-self-2 : goal.invariant_of-self-2
invariant_of-self-2 g c =
    let inside = c.self.inside in
    let known : Known = record { version = inside.version; mems = inside.mems.items; reducers = inside.reducers.items } in
    let name = c.args.name.now in
    let mem = c.memory-mem.result in
    memory_added known inside.cells inside.meanings.index inside.meanings.meanings.items name c.self.invariant c.requires.is_name (rw (← c.self.view_is) at c.requires.fresh)
    c.args.at c.args.length c.push_reserved.new.self.items c.add.new.self.index c.add.new.self.meanings.items mem c.named_of.result
    (c.push_reserved.ensures.items ∙ ap (λ (mems : List Mem). mems ++ mem ∷ []) c.reserve.ensures.items) c.memory-mem.ensures
    (c.named_of.ensures c.args.at name ∙ ap name_of_memory (sym c.memory-mem.ensures))
    (c.in_ok-add.ensures.ok.0 ∙ ap (λ (name : List ℕ). inside.meanings.index ++ name ∷ []) c.as_bytes.ensures.value)
    c.in_ok-add.ensures.ok.1 (rw (← c.self.view_is) at c.requires.room)
