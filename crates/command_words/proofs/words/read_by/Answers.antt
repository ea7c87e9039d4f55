use Rattle.std.proofs.Common.{rules, map}
use Rattle.std.proofs.lemmas.Result.{IfOk-weaker}
use Rattle.clap.specs.Words.{app_of}
use Rattle.command_words.specs.Asked.{IsJobOf}
use Rattle.command_words.proofs.Simple.{matched_job, shown_job}
use Rattle.command_words.proofs.words.read_by.Goals as goal

pub returns-in-Ok-clause-job : goal.returns-in-Ok-clause-job
returns-in-Ok-clause-job g c =
    IfOk-weaker c.job_of.result _ (IsJobOf (map g.S.AsStr.text c.args.words.now))
    (λ job asked. matched_job (app_of c.args.command) (map g.S.AsStr.text c.args.words.now) c.in-Ok.matches job (search rules) c.in-Ok.ensures.matches asked) c.job_of.ensures.job

pub returns-in-Err-clause-job : goal.returns-in-Err-clause-job
returns-in-Err-clause-job g c =
    IfOk-weaker c.parser_answer.result _ (IsJobOf (map g.S.AsStr.text c.args.words.now))
    (λ job shown. shown_job (app_of c.args.command) (map g.S.AsStr.text c.args.words.now) c.in-Err.error job (search rules) c.in-Err.ensures.kinds shown) c.parser_answer.ensures.job
