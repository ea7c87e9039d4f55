use Rattle.std.proofs.Common.{take, ◌∙◌}
use Rattle.race_pairs.proofs.Digesting.{next_at, digest_at, shared_next}
use Rattle.race_pairs.proofs.digest.Digest.of.Goals as goal

pub add-requires : goal.add-requires
add-requires c = (
  take c.loop-entry.entry-index c.args.entries.now,
  c.loop-entry.invariant.digested,
  shared_next c.loop-entry.digest _ _ c.loop-entry.invariant.shared
      (next_at c.requires.judged.0 c.args.entries.now c.requires.judged.1 c.requires.few c.loop-entry.entry-index _ c.loop-entry-test.true),
)

pub loop-entry-preserved : goal.loop-entry-preserved
loop-entry-preserved c = record {
  digested = digest_at c.args.entries.now c.loop-entry.entry-index _ c.add.new.self c.loop-entry-test.true
      (c.in_ok-add.ensures.next (take c.loop-entry.entry-index c.args.entries.now) c.loop-entry.invariant.digested
      (shared_next c.loop-entry.digest _ _ c.loop-entry.invariant.shared
      (next_at c.requires.judged.0 c.args.entries.now c.requires.judged.1 c.requires.few c.loop-entry.entry-index _ c.loop-entry-test.true)));
  shared = c.in_ok-add.ensures.own ∙ c.loop-entry.invariant.shared;
  most_is = c.in_ok-add.ensures.most ∙ c.loop-entry.invariant.most_is;
}
