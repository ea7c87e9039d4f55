use Rattle.std.proofs.Common.{◌≡◌, ◌+◌, List, length, sym, subst, arith, rules}
use Rattle.race_pairs.specs.declared.kept.Frame.{Frame}
use Rattle.race_pairs.specs.Frames.{frames}
use Rattle.race_pairs.specs.Lineages.{Encloses, AreKept}
use Rattle.race_pairs.proofs.OpenerLists.{few_frames}
use Rattle.race_pairs.proofs.growth.add_frame.Goals as goal

pub place_now-outer-requires-clause-kept : goal.place_now-outer-requires-clause-kept
place_now-outer-requires-clause-kept c =
    (c.requires.0, subst (λ (F : List Frame). AreKept F c.args.turns.now c.args.strands.now c.requires.0) (sym c.as_slice.ensures.value) c.requires.1)

pub place_now-outer-requires-clause-strand : goal.place_now-outer-requires-clause-strand
place_now-outer-requires-clause-strand c = c.requires.3

pub returns-clause-added : goal.returns-clause-added
returns-clause-added c = (
  c.place_now-outer.result,
  c.in_ok-push.ensures.items,
  λ entries kept. subst (λ (F : List Frame). Encloses F c.place_now-outer.result (frames entries c.args.opener.strand)) c.as_slice.ensures.value
      (c.place_now-outer.ensures entries (subst (λ (F : List Frame). AreKept F c.args.turns.now c.args.strands.now entries) (sym c.as_slice.ensures.value) kept)),
)

pub overflow_cast-result : goal.overflow_cast-result
overflow_cast-result c =
    let few = few_frames c.requires.0 c.args.opened.now.items c.requires.1.made.openers in
    let is : length c.push.new.self.items ≡ length c.args.opened.now.items + 1 = search rules in
    omega (arith, few, is, c.requires.2, c.len.ensures)
