use Rattle.std.proofs.Common.{◌≡◌, ◌≤◌, ◌-◌, ◌++◌, suc, List, length, sym, subst, arith}
use Rattle.model_histories.specs.Entries.{Entries}
use Rattle.race_pairs.specs.declared.kept.Frame.{Frame}
use Rattle.race_pairs.specs.declared.kept.Turn.{Turn}
use Rattle.race_pairs.specs.declared.kept.Strand.{Strand}
use Rattle.race_pairs.specs.Frames.{frames}
use Rattle.race_pairs.specs.Lineages.{Kept, IsLineage, AreKept}
use Rattle.race_pairs.proofs.Added.{earlier_ones}
use Rattle.race_pairs.proofs.lineage.Lineage.chain.Goals as goal

pub numbers_from-requires : goal.numbers_from-requires
numbers_from-requires c =
    let lineage = subst (λ (k : Kept). IsLineage k c.requires.0) (sym c.self.view_is) c.requires.1 in
    let low : c.args.number - 1 ≤ length c.requires.0 = omega (arith, c.if-number-self.false, lineage.count_is) in
    let split = earlier_ones c.requires.0 (c.args.number - 1) low in
    let number : c.args.number ≡ suc (length split.1) = omega (arith, split.3, c.if-number-eq0.false) in
    let kept = subst (λ (es : Entries). AreKept c.self.inside.opened.items c.self.inside.turns.items c.self.inside.strands.items es) (sym split.2) lineage.kept_are in (
      frames split.1 c.args.strand,
      c.place_before-place.ensures split.0 split.1
          (subst (λ (F : List Frame). AreKept F c.as_slice.result.now c.as_slice-2.result.now (split.0 ++ split.1)) (sym c.as_slice-opened.ensures.value)
          (subst (λ (T : List Turn). AreKept c.self.inside.opened.items T c.as_slice-2.result.now (split.0 ++ split.1)) (sym c.as_slice.ensures.value)
          (subst (λ (S : List Strand). AreKept c.self.inside.opened.items c.self.inside.turns.items S (split.0 ++ split.1)) (sym c.as_slice-2.ensures.value) kept)))
          number,
    )
