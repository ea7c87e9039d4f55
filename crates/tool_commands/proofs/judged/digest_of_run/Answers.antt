use Rattle.std.proofs.Common.{rules, [], ◌∷◌, ◌++◌, take, sym, subst, ◌∙◌}
use Rattle.std.proofs.lemmas.Option.{get_or_from_slice_get}
use Rattle.model_histories.specs.declared.answer.Entry.{Entry}
use Rattle.race_pairs.specs.Digests.{IsDigest, IsNext}
use Rattle.race_pairs.proofs.Digesting.{next_at, digest_at, shared_next}
use Rattle.tool_commands.proofs.judged.digest_of_run.Goals as goal

pub add-requires : goal.add-requires
add-requires c =
    let entries = c.args.entries.now.items in
    let at = c.loop-at.at in (
      take at entries,
      c.loop-at.invariant.digested,
      shared_next c.loop-at.digest (take at entries) c.get.result c.loop-at.invariant.shared
          (subst (IsNext (take at entries)) (get_or_from_slice_get entries at c.get.result c.get.result c.get.ensures)
          (next_at c.requires.judged.0 entries c.requires.judged.1 c.requires.few at c.get.result (search rules))),
    )

pub loop-at-preserved : goal.loop-at-preserved
loop-at-preserved c =
    let entries = c.args.entries.now.items in
    let at = c.loop-at.at in
    let same = get_or_from_slice_get entries at c.get.result c.get.result c.get.ensures in record {
      digested = digest_at entries at c.get.result c.add.new.self (search rules)
          (subst (λ (entry : Entry). IsDigest (take at entries ++ entry ∷ []) c.add.new.self) (sym same)
          (c.in_ok-add.ensures.next (take at entries) c.loop-at.invariant.digested
          (shared_next c.loop-at.digest (take at entries) c.get.result c.loop-at.invariant.shared
          (subst (IsNext (take at entries)) same (next_at c.requires.judged.0 entries c.requires.judged.1 c.requires.few at c.get.result (search rules))))));
      shared = c.in_ok-add.ensures.own ∙ c.loop-at.invariant.shared;
      kept = c.in_ok-add.ensures.most ∙ c.loop-at.invariant.kept;
    }
