-- The read is kept, and an earlier one of another branch answers it.
use Rattle.std.proofs.Common.{◌∙◌, ℕ, sym, subst, refl}
use Rattle.law_strands.specs.Branches.{branch}
use Rattle.serial_judge.specs.Judge.{Judge}
use Rattle.serial_judge.specs.Reads.{IsOtherBranch}
use Rattle.serial_judge.specs.ReducerRaces.{new_read}
use Rattle.serial_judge.specs.Runs.{with_read}
use Rattle.serial_judge.specs.Follows.{Follows}
use Rattle.serial_judge.proofs.ReadRaces.{read_rightly, follows_read}
use Rattle.serial_judge.proofs.judge.SerialJudge.reducer_read.Goals as goal

pub invariant_of-self-2 : goal.invariant_of-self-2
invariant_of-self-2 g c =
    let run = c.self.invariant.0 in
    let f = c.self.invariant.1 in (
      with_read (new_read run c.args.reducer c.args.site) run,
      follows_read _ run c.args.reducer c.args.site c.add.new.self f
          (c.in_ok-other.ensures.kept (branch run.history) run.reads (new_read run c.args.reducer c.args.site)
          (record { reducer_is = refl; site_is = refl; branch_is = sym (c.running_branch.ensures ∙ f.branch_is) }) f.reads),
    )

pub returns-clause-right : goal.returns-clause-right
returns-clause-right g c run follows =
    let f = subst (λ (z : Judge). Follows z run) (sym c.self.view_is) follows in
    rw c.site_of.ensures
    (read_rightly _ run f c.args.reducer c.in_ok-other.other
    (subst (λ (z : ℕ). IsOtherBranch (branch run.history) run.reads c.args.reducer z c.in_ok-other.other) (c.running_branch.ensures ∙ f.branch_is)
    (c.in_ok-other.ensures.other (branch run.history) run.reads (f.reads c.args.reducer))))

pub returns-clause-follows : goal.returns-clause-follows
returns-clause-follows g c run follows =
    let f = subst (λ (z : Judge). Follows z run) (sym c.self.view_is) follows in
    follows_read _ run c.args.reducer c.args.site c.add.new.self f
    (c.in_ok-other.ensures.kept (branch run.history) run.reads (new_read run c.args.reducer c.args.site)
    (record { reducer_is = refl; site_is = refl; branch_is = sym (c.running_branch.ensures ∙ f.branch_is) }) f.reads)
