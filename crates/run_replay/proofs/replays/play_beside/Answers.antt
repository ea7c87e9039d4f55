use Rattle.std.proofs.Common.{◌≡◌, subst}
use Rattle.model_histories.specs.declared.answer.Entry.{Entry}
use Rattle.run_replay.specs.Turns.{IsEntered}
use Rattle.run_replay.proofs.replays.play_beside.Goals as goal

pub returns-clause-ok : goal.returns-clause-ok
returns-clause-ok g c = λ entry is state next plays entered.
    let got = c.get.ensures in
    let same : entry ≡ c.get.result = cc in
    c.play.ensures.ok state next plays (subst (λ (entry : Entry). IsEntered entry state next) same entered)
