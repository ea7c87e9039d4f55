use Rattle.std.proofs.Common.{◌≡◌, ◌<◌, length, sym, subst, arith}
use Rattle.reducer_views.proofs.KeptLists.{Progress, begins_at, advances, finishes_at, fewer_at, later_in_range, taken_kept}
use Rattle.reducer_views.proofs.pieces.gather_block.Goals as goal

pub loop-at-init : goal.loop-at-init
loop-at-init g c = record {
  in_range = later_in_range _ _ _ _ c.requires.sound.1 c.later_of-at.ensures;
  progress = λ monoids sound. begins_at _ _ _ _ _ sound c.home_of-home.ensures c.later_of-at.ensures;
}

pub take_over-requires-clause-home_known : goal.take_over-requires-clause-home_known
take_over-requires-clause-home_known g c =
    let positive : 0 < c.loop-at.at = omega arith in
    let now = c.loop-at.invariant.progress c.requires.sound.0 c.requires.sound.1 in
    omega (arith, now.behind positive, c.loop-at.invariant.in_range)

pub take_over-requires-clause-later_known : goal.take_over-requires-clause-later_known
take_over-requires-clause-later_known g c = c.loop-at.invariant.in_range

pub take_over-requires-clause-apart : goal.take_over-requires-clause-apart
take_over-requires-clause-apart g c = (c.loop-at.invariant.progress c.requires.sound.0 c.requires.sound.1).behind (omega arith)

pub loop-at-smaller : goal.loop-at-smaller
loop-at-smaller g c =
    let positive : 0 < c.loop-at.at = omega arith in
    let same_length : length c.take_over.new.pieces ≡ length c.loop-at.pieces = omega arith in
    let now = c.loop-at.invariant.progress c.requires.sound.0 c.requires.sound.1 in
    fewer_at _ _ _ _ _ _ _ _ now (taken_kept _ _ _ _ _ now.sound c.take_over.ensures) c.take_over.ensures.same c.later_of-at-in-loop-at.ensures positive c.loop-at.invariant.in_range same_length

pub loop-at-preserved : goal.loop-at-preserved
loop-at-preserved g c =
    let positive : 0 < c.loop-at.at = omega arith in
    let now = c.loop-at.invariant.progress c.requires.sound.0 c.requires.sound.1 in
    record {
      in_range = later_in_range _ _ _ _ (taken_kept _ _ _ _ _ now.sound c.take_over.ensures) c.later_of-at-in-loop-at.ensures;
      progress = λ monoids sound. subst (Progress _ _ _ _ _) (sym c.later_of-at-in-loop-at.ensures)
          (advances _ _ _ _ _ _ _ (c.loop-at.invariant.progress monoids sound) positive c.take_over.ensures);
    }

pub returns-clause-same : goal.returns-clause-same
returns-clause-same g c = (c.loop-at.invariant.progress c.requires.sound.0 c.requires.sound.1).same

pub returns-clause-sound : goal.returns-clause-sound
returns-clause-sound g c monoids sound = (c.loop-at.invariant.progress monoids sound).sound

pub returns-clause-block : goal.returns-clause-block
returns-clause-block g c monoids sound continuations follow = finishes_at _ _ _ _ _ _ _ c.home_of-home.ensures c.later_of-at.ensures (c.loop-at.invariant.progress monoids sound) (omega arith) continuations follow
