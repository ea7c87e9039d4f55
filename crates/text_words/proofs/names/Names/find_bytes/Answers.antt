use Rattle.std.proofs.Common.{◌∙◌}
use Rattle.text_words.specs.Values.{Known}
use Rattle.text_words.proofs.IndexLemmas.{found_is_name}
use Rattle.text_words.proofs.names.Names.find_bytes.Goals as goal

pub returns-clause-named : goal.returns-clause-named
returns-clause-named g c = rw (← c.self.view_is) (c.find.ensures ∙ c.self.invariant.finds c.args.name.now)

pub returns-clause-is_name : goal.returns-clause-is_name
returns-clause-is_name g c =
    let inside = c.self.inside in
    let known : Known = record { version = inside.version; mems = inside.mems.items; reducers = inside.reducers.items } in
    found_is_name known inside.cells inside.meanings.index inside.meanings.meanings.items c.self.invariant c.args.name.now c.find.result
    (c.find.ensures ∙ c.self.invariant.finds c.args.name.now)

pub returns-clause-apart : goal.returns-clause-apart
returns-clause-apart g c = rw (← c.self.view_is) (c.self.invariant.apart c.args.name.now)

pub returns-clause-in_range : goal.returns-clause-in_range
returns-clause-in_range g c = rw (← c.self.view_is) c.self.invariant.in_range
