use Rattle.std.proofs.Common.{◌∙◌, refl, sym}
use Rattle.locked_replay.specs.declared.fault.RunFault.TheVariants.{Limit, Torn, Strange}
use Rattle.locked_replay.proofs.Checked.{ok-other, stopped-torn, memory-torn, stopped-faults, memory-faults, torn-faults, ok-goes_on, memory-goes_on, torn-goes_on, torn-theirs, torn-asked, torn-many, whole-told}
use Rattle.locked_replay.proofs.logs.check_logs.Goals as goal

pub returns-then-is_stopped-clause-stopped : goal.returns-then-is_stopped-clause-stopped
returns-then-is_stopped-clause-stopped g c = ((λ e. sym c.is_stopped.ensures ∙ c.if-is_stopped.true), (λ e. refl))

pub returns-then-is_stopped-clause-torn : goal.returns-then-is_stopped-clause-torn
returns-then-is_stopped-clause-torn g c = λ e. absurd (stopped-torn e)

pub returns-then-is_stopped-clause-faults : goal.returns-then-is_stopped-clause-faults
returns-then-is_stopped-clause-faults g c = stopped-faults

pub returns-in_default-clause-stopped : goal.returns-in_default-clause-stopped
returns-in_default-clause-stopped g c = memory-goes_on c.is_stopped.ensures c.if-is_stopped.false

pub returns-in_default-clause-torn : goal.returns-in_default-clause-torn
returns-in_default-clause-torn g c = λ e. absurd (memory-torn e)

pub returns-in_default-clause-faults : goal.returns-in_default-clause-faults
returns-in_default-clause-faults g c = memory-faults

pub returns-then-not-theirs-clause-stopped : goal.returns-then-not-theirs-clause-stopped
returns-then-not-theirs-clause-stopped g c = torn-goes_on c.is_stopped.ensures c.if-is_stopped.false

pub returns-then-not-theirs-clause-torn : goal.returns-then-not-theirs-clause-torn
returns-then-not-theirs-clause-torn g c = λ e. torn-theirs c.args.logs.now c.kept_history-entries.result.now.items c.kept_history-entries.ensures.entries c.in-Ok.ensures c.if-not-theirs.true

pub returns-then-not-theirs-clause-faults : goal.returns-then-not-theirs-clause-faults
returns-then-not-theirs-clause-faults g c = torn-faults

pub returns-in-Some-clause-whole : goal.returns-in-Some-clause-whole
returns-in-Some-clause-whole g c =
    whole-told c.args.logs.now c.kept_history-entries.result.now.items c.kept_history-entries.ensures.entries c.in-Ok.ensures c.if-not-theirs.false c.len-length.ensures c.in-Some.ensures c.if-asked-length.true

pub returns-in-Some-clause-stopped : goal.returns-in-Some-clause-stopped
returns-in-Some-clause-stopped g c = ok-goes_on tt c.is_stopped.ensures c.if-is_stopped.false

pub returns-in-Some-clause-torn : goal.returns-in-Some-clause-torn
returns-in-Some-clause-torn g c = λ e. absurd (ok-other tt Torn e)

pub returns-in-Some-clause-faults : goal.returns-in-Some-clause-faults
returns-in-Some-clause-faults g c = (ok-other tt Limit, ok-other tt Strange)

pub returns-in_default-asked_of-clause-stopped : goal.returns-in_default-asked_of-clause-stopped
returns-in_default-asked_of-clause-stopped g c = torn-goes_on c.is_stopped.ensures c.if-is_stopped.false

pub returns-in_default-asked_of-clause-torn : goal.returns-in_default-asked_of-clause-torn
returns-in_default-asked_of-clause-torn g c = λ e. torn-asked c.args.logs.now c.kept_history-entries.result.now.items c.kept_history-entries.ensures.entries c.len-length.ensures c.in-Some.ensures c.if-asked-length.false

pub returns-in_default-asked_of-clause-faults : goal.returns-in_default-asked_of-clause-faults
returns-in_default-asked_of-clause-faults g c = torn-faults

pub returns-in_default-asked_of-2-clause-stopped : goal.returns-in_default-asked_of-2-clause-stopped
returns-in_default-asked_of-2-clause-stopped g c = torn-goes_on c.is_stopped.ensures c.if-is_stopped.false

pub returns-in_default-asked_of-2-clause-torn : goal.returns-in_default-asked_of-2-clause-torn
returns-in_default-asked_of-2-clause-torn g c = λ e. torn-many c.args.logs.now c.kept_history-entries.result.now.items c.kept_history-entries.ensures.entries c.len-length.ensures c.len-length.type_inv c.in_default-asked_of.ensures

pub returns-in_default-asked_of-2-clause-faults : goal.returns-in_default-asked_of-2-clause-faults
returns-in_default-asked_of-2-clause-faults g c = torn-faults
