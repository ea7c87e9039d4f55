use Rattle.std.proofs.Common.{rules, ◌≡◌, ◌∙◌, ℕ, List, Option, None, refl, ap, sym, subst}
use Rattle.std.proofs.lemmas.Result.{IfErr-weaker}
use Rattle.command_streams.specs.declared.fault.CliFault.{CliFault}
use Rattle.command_streams.specs.declared.fault.CliFault.TheVariants.{Read}
use Rattle.command_streams.specs.Readings.{reading}
use Rattle.tool_commands.specs.Traced.{Writing, writing, HasTracedCause}
use Rattle.tool_commands.proofs.TracedCauses.{run_not_written, not_run, not_created, not_written, recorded_ran, recorded_kept, recorded_first}
use Rattle.command_jobs.proofs.Hosts.{not_opened}
use Rattle.command_jobs.proofs.performing.record_file.Goals as goal

-- a program that could not be opened is not run
unread : (source wrote writes : Option (List ℕ)) (limit : ℕ) (fault : CliFault) → fault ≡ Read →
    (behind : Option (List ℕ)) × (traces : Writing) × HasTracedCause (reading source behind) traces (writing wrote writes) limit fault
unread source wrote writes limit fault is =
    (None, writing None None, subst (λ (f : CliFault). HasTracedCause (reading source None) (writing None None) (writing wrote writes) limit f) (sym is) tt)

pub returns-in-Err-clause-job : goal.returns-in-Err-clause-job
returns-in-Err-clause-job g c = record {
  done = tt;
  fault = unread _ _ _ c.args.limit c.in-Err.fault c.in-Err.ensures.fault;
  lacking = λ lacks. rw c.in-Err.ensures.fault refl;
}

pub returns-in-Err-told-clause-job : goal.returns-in-Err-told-clause-job
returns-in-Err-told-clause-job g c = record {
  done = tt;
  fault = not_run _ _ _ _ _ c.args.limit c.in-Err-told.fault c.in-Err-told.ensures.fault (rw (sym c.as_str.ensures.value) c.in-Ok.ensures.bytes);
  lacking = λ lacks. absurd (let opened = c.in-Ok.ensures.lacking (rw c.as_str.ensures.value lacks) in cc);
}

pub returns-in-Err-create-clause-job : goal.returns-in-Err-create-clause-job
returns-in-Err-create-clause-job g c = record {
  done = tt;
  fault = not_created _ _ _ c.args.limit _ _ _ c.in-Ok-told.ensures.ok (rw (sym c.as_str.ensures.value) c.in-Ok.ensures.bytes) _ _ c.in-Err-create.fault c.in-Err-create.ensures.fault;
  lacking = λ lacks. absurd (let opened = c.in-Ok.ensures.lacking (rw c.as_str.ensures.value lacks) in cc);
}

pub returns-clause-job : goal.returns-clause-job
returns-clause-job g c = record {
  done = recorded_ran _ _ _ c.args.limit _ _ _ c.in-Ok-told.ensures.ok (rw (sym c.as_str.ensures.value) c.in-Ok.ensures.bytes) _ _ _ _ c.write_traced_run-answer.result
      c.write_traced_run-answer.ensures.status c.write_traced_run-answer.ensures.kept c.write_traced_run-answer.ensures.written;
  fault = IfErr-weaker c.write_traced_run-answer.result _ _
      (λ fault stops. not_written _ _ _ c.args.limit _ _ _ c.in-Ok-told.ensures.ok (rw (sym c.as_str.ensures.value) c.in-Ok.ensures.bytes) _ _ _ _ fault stops) c.write_traced_run-answer.ensures.fault;
  lacking = λ lacks. absurd (let opened = c.in-Ok.ensures.lacking (rw c.as_str.ensures.value lacks) in cc);
}

pub returns-clause-recorded : goal.returns-clause-recorded
returns-clause-recorded g c =
    recorded_kept _ _ _ c.args.limit _ _ _ c.in-Ok-told.ensures.ok (rw (sym c.as_str.ensures.value) c.in-Ok.ensures.bytes) _ _ _ _ _ _ c.write_traced_run-answer.result
    c.write_traced_run-answer.ensures.status c.write_traced_run-answer.ensures.kept c.write_traced_run-answer.ensures.written (c.in-Ok-create.ensures.blank ∙ ap (λ held_host. g.H.Host.blank held_host) (c.note.ensures.same ∙ c.open.ensures.same)) (rw (sym c.as_str-3.ensures.value) c.close.ensures.made)

pub returns-clause-recorded_first : goal.returns-clause-recorded_first
returns-clause-recorded_first g c =
    recorded_first _ _ _ c.args.limit _ _ _ c.in-Ok-told.ensures.ok (rw (sym c.as_str.ensures.value) c.in-Ok.ensures.bytes) _ _ _ _ _ _ c.write_traced_run-answer.result
    c.write_traced_run-answer.ensures.fault (c.in-Ok-create.ensures.blank ∙ ap (λ held_host. g.H.Host.blank held_host) (c.note.ensures.same ∙ c.open.ensures.same)) (rw (sym c.as_str-3.ensures.value) c.close.ensures.made)

pub returns-in-Err-clause-recorded_first : goal.returns-in-Err-clause-recorded_first
returns-in-Err-clause-recorded_first g c = λ write. absurd (let is = c.in-Err.ensures.fault in cc)

pub returns-in-Err-told-clause-recorded_first : goal.returns-in-Err-told-clause-recorded_first
returns-in-Err-told-clause-recorded_first g c = λ write. absurd (run_not_written _ c.args.limit c.in-Err-told.fault c.in-Err-told.ensures.fault write)

pub returns-in-Err-create-clause-recorded_first : goal.returns-in-Err-create-clause-recorded_first
returns-in-Err-create-clause-recorded_first g c = λ write. absurd (let is = c.in-Err-create.ensures.fault in cc)

pub returns-in-Err-clause-barred : goal.returns-in-Err-clause-barred
returns-in-Err-clause-barred g c = λ bars. refl

pub returns-in-Err-told-clause-barred : goal.returns-in-Err-told-clause-barred
returns-in-Err-told-clause-barred g c = λ bars. refl

pub returns-in-Err-create-clause-barred : goal.returns-in-Err-create-clause-barred
returns-in-Err-create-clause-barred g c = λ bars. refl

pub returns-clause-barred : goal.returns-clause-barred
returns-clause-barred g c = λ bars.
    absurd (let created = c.in-Ok-create.ensures.barred (rw (c.note.ensures.same ∙ c.open.ensures.same, c.as_str-2.ensures.value) bars) in cc)

pub returns-in-Err-clause-devices : goal.returns-in-Err-clause-devices
returns-in-Err-clause-devices g c =
    not_opened c.in-Err.fault _ _ c.in-Err.ensures.fault (search rules) c.requires.writer
