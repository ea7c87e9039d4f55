use Rattle.std.proofs.Common.{◌++◌, ◌∷◌, [], sym, ap, ◌∙◌, append_assoc}
use Rattle.std.specs.BTreeSet.{insert_key}
use Rattle.race_explanations.proofs.Named.{name_cmp, with_names_more}
use Rattle.race_explanations.proofs.merge.add_names.Goals as goal

pub loop-name-preserved : goal.loop-name-preserved
loop-name-preserved c =
    let was = c.loop-name.invariant in record {
      added = c.in_ok-insert.ensures.keys ∙ ap (λ names. insert_key name_cmp names c.in-Some.name) was.added ∙
          sym (with_names_more c.args.names.now.keys c.loop-name.yielded c.in-Some.name);
      whole = was.whole ∙ ap (λ rest. c.loop-name.yielded ++ rest) c.in-Some.ensures.steps ∙
          sym (append_assoc c.loop-name.yielded (c.in-Some.name ∷ []) _);
    }
