use Rattle.std.proofs.Common.{◌<◌, length, take, reverse, sym, subst, arith}
use Rattle.std.proofs.lemmas.List.{length-reverse, length-take-le}
use Rattle.model_histories.specs.Shapes.{most_entries}
use Rattle.race_pairs.specs.Lineages.{IsLineage}
use Rattle.race_pairs.proofs.Numbers.{no_entry, so_far, legal_next}
use Rattle.race_pairs.proofs.lineage.Lineage.of.Goals as goal

pub add-requires : goal.add-requires
add-requires c =
    let told = c.args.entries.now in
    let at = c.loop-entry.entry-index in
    let below : at < length told = c.loop-entry-test.true in
    let few : length (reverse (take at told)) < most_entries = omega (arith, length-reverse (take at told), length-take-le at told (omega arith), c.requires.few, below) in
    (reverse (take at told), c.loop-entry.invariant, (legal_next told at no_entry below c.requires.legal, few))

pub loop-entry-preserved : goal.loop-entry-preserved
loop-entry-preserved c =
    let told = c.args.entries.now in
    let at = c.loop-entry.entry-index in
    let below : at < length told = c.loop-entry-test.true in
    let few : length (reverse (take at told)) < most_entries = omega (arith, length-reverse (take at told), length-take-le at told (omega arith), c.requires.few, below) in
    subst (IsLineage c.add.new.self) (sym (so_far told at no_entry below))
    (c.in_ok-add.ensures (reverse (take at told)) c.loop-entry.invariant (legal_next told at no_entry below c.requires.legal, few))
