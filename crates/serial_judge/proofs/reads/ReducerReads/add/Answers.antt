-- What is kept of the reducer has the new read, what is kept of others stays.
use Rattle.serial_judge.proofs.Reading.{added}
use Rattle.serial_judge.proofs.reads.ReducerReads.add.Goals as goal

pub returns-clause-kept : goal.returns-clause-kept
returns-clause-kept g c branch all read t before =
    added branch all read c.self.inside.reads.items c.make_place.new.reads.items c.args.reducer c.index-reads.result.now c.with.result
    c.in_ok-make_place.ensures.longer c.make_place.ensures.each c.index-reads.ensures t.reducer_is (rw c.self.view_is before)
    (λ k. c.with.ensures branch all c.args.reducer read t k)
