use Rattle.std.proofs.Common.{rules}
use Rattle.race_records.proofs.Colons.{split_at_colon, no_colon, some_colon}
use Rattle.race_records.proofs.site.number_behind.Goals as goal

pub returns-in_err-before : goal.returns-in_err-before
returns-in_err-before c =
    no_colon c.args.text.now c.rsplit_once.result _ (split_at_colon c.args.text.now c.rsplit_once.result c.rsplit_once.ensures.cases) (search rules) (search rules)

pub returns-in_err-number : goal.returns-in_err-number
returns-in_err-number c =
    let found = some_colon c.args.text.now c.rsplit_once.result c.in_ok-before.before c.in_ok-before.digits c.number_of.result
    (split_at_colon c.args.text.now c.rsplit_once.result c.rsplit_once.ensures.cases) (search rules) c.number_of.ensures in
    rw (← found) (grind rules)

pub returns : goal.returns
returns c =
    let found = some_colon c.args.text.now c.rsplit_once.result c.in_ok-before.before c.in_ok-before.digits c.number_of.result
    (split_at_colon c.args.text.now c.rsplit_once.result c.rsplit_once.ensures.cases) (search rules) c.number_of.ensures in
    rw (← found) (grind rules)
