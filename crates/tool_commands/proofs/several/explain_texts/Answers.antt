use Rattle.std.proofs.Common.{◌≡◌, ◌∙◌, ℕ, [], Option, Err, inl, ap, refl, sym, subst}
use Rattle.std.specs.Global.{Vec}
use Rattle.std.specs.String.{string_bytes}
use Rattle.std.proofs.lemmas.Result.{err_from_is_err_and}
use Rattle.command_streams.specs.Watched.{held}
use Rattle.command_streams.specs.declared.fault.CliFault.{CliFault}
use Rattle.command_streams.specs.declared.fault.CliFault.TheVariants.{Write}
use Rattle.command_streams.proofs.Failing.{step_failed}
use Rattle.command_streams.specs.Readings.{reading}
use Rattle.tool_commands.specs.Together.{Together, together_of, TakesReading}
use Rattle.tool_commands.specs.Several.{style, manner_in, AreTaken, none}
use Rattle.tool_commands.proofs.Taking.{taken_more, taken_all, faulty_at, stops_at, lacks_at, lacks_more, lacks_none}
use Rattle.tool_commands.proofs.several.explain_texts.Goals as goal

pub loop-file-init : goal.loop-file-init
loop-file-init g c = (
  subst (λ (t : Together). AreTaken (style c.args.is_painted c.args.extent c.args.rendering) (g.H.Host.sources (held c.args.host.now)).file [] t) (sym c.new-traces.ensures) none,
  c.requires,
  refl,
  λ lacking. lacking,
)

pub loop-file-preserved : goal.loop-file-preserved
loop-file-preserved g c =
    let below = c.loop-file-test.true in
    let read = c.file-item.is in
    let called = c.as_str.ensures.value in
    let same = c.loop-file.invariant.2 in
    let took = c.in_ok-told.ensures.ok in (
      taken_more string_bytes c.args.files.now c.loop-file.file-index c.file-item.result c.as_str.result.now (style c.args.is_painted c.args.extent c.args.rendering)
          (g.H.Host.sources (held c.args.host.now)).file (g.H.Host.sources (held c.loop-file.host)).file took.0 (together_of c.loop-file.traces)
          (together_of c.take_file.new.traces) below read called (ap (λ h. (g.H.Host.sources h).file) same) c.loop-file.invariant.0
          (subst (λ (t : Option (Vec ℕ)). TakesReading (manner_in (style c.args.is_painted c.args.extent c.args.rendering) c.as_str.result.now)
          (reading ((g.H.Host.sources (held c.loop-file.host)).file c.as_str.result.now) took.0) (together_of c.loop-file.traces)
          (together_of c.take_file.new.traces) t) c.in_default.is took.1),
      c.in_ok-told.ensures.stands,
      c.take_file.ensures.same ∙ same,
      lacks_more string_bytes c.args.files.now c.loop-file.file-index c.file-item.result c.as_str.result.now g.H.Host.lacks (held c.loop-file.host)
          (held c.args.host.now) below read called same c.loop-file.invariant.3 (λ lacking. absurd (let e = c.in_ok-told.ensures.lacking lacking in cc)),
    )

pub returns-in_err-told-clause-fault : goal.returns-in_err-told-clause-fault
returns-in_err-told-clause-fault g c =
    let below = c.loop-file-test.true in
    let read = c.file-item.is in
    let called = c.as_str.ensures.value in
    let gone = err_from_is_err_and c.from_residual.result c.from_residual.ensures.1 in
    rw (gone.1, gone.2) (stops_at string_bytes c.args.files.now c.loop-file.file-index c.file-item.result c.as_str.result.now (style c.args.is_painted c.args.extent c.args.rendering)
    (g.H.Host.sources (held c.args.host.now)).file (g.H.Host.sources (held c.loop-file.host)).file c.in_err-told.ensures.fault.0
    (together_of c.loop-file.traces) c.in_err-told.field-0.0 below read called (ap (λ h. (g.H.Host.sources h).file) c.loop-file.invariant.2)
    c.loop-file.invariant.0 c.in_err-told.ensures.fault.1)

pub returns-in_err-told-clause-lacking : goal.returns-in_err-told-clause-lacking
returns-in_err-told-clause-lacking g c = λ lacking.
    let below = c.loop-file-test.true in
    let read = c.file-item.is in
    let called = c.as_str.ensures.value in
    let gone = err_from_is_err_and c.from_residual.result c.from_residual.ensures.1 in
    let e = c.in_err-told.ensures.lacking
    (lacks_at string_bytes c.args.files.now c.loop-file.file-index c.file-item.result c.as_str.result.now g.H.Host.lacks (held c.loop-file.host)
    (held c.args.host.now) below read called c.loop-file.invariant.2 c.loop-file.invariant.3 lacking) in
    rw (gone.1, gone.2) (cc)

pub returns-in-Some-clause-ok : goal.returns-in-Some-clause-ok
returns-in-Some-clause-ok g c =
    let below = c.loop-file-test.true in
    let read = c.file-item.is in
    let called = c.as_str.ensures.value in
    let took = c.in_ok-told.ensures.ok in
    faulty_at string_bytes c.args.files.now c.loop-file.file-index c.file-item.result c.as_str.result.now (style c.args.is_painted c.args.extent c.args.rendering)
    (g.H.Host.sources (held c.args.host.now)).file (g.H.Host.sources (held c.loop-file.host)).file took.0 (together_of c.loop-file.traces)
    (together_of c.take_file.new.traces) c.in-Some.told below read called (ap (λ h. (g.H.Host.sources h).file) c.loop-file.invariant.2) c.loop-file.invariant.0
    (subst (λ (t : Option (Vec ℕ)). TakesReading (manner_in (style c.args.is_painted c.args.extent c.args.rendering) c.as_str.result.now)
    (reading ((g.H.Host.sources (held c.loop-file.host)).file c.as_str.result.now) took.0) (together_of c.loop-file.traces)
    (together_of c.take_file.new.traces) t) c.in-Some.is took.1)

pub returns-in-Some-clause-lacking : goal.returns-in-Some-clause-lacking
returns-in-Some-clause-lacking g c = λ lacking.
    let below = c.loop-file-test.true in
    let read = c.file-item.is in
    let called = c.as_str.ensures.value in
    let e = c.in_ok-told.ensures.lacking
    (lacks_at string_bytes c.args.files.now c.loop-file.file-index c.file-item.result c.as_str.result.now g.H.Host.lacks (held c.loop-file.host)
    (held c.args.host.now) below read called c.loop-file.invariant.2 c.loop-file.invariant.3 lacking) in
    absurd (cc)

pub returns-in_err-told-clause-read_failed : goal.returns-in_err-told-clause-read_failed
returns-in_err-told-clause-read_failed g c =
    let gone = err_from_is_err_and c.from_residual.result c.from_residual.ensures.1 in
    rw (gone.1, gone.2) (step_failed _ _ _ c.in_err-told.field-0.0 refl c.in_err-told.ensures.read_failed)

pub returns-in_err-told-clause-not_write : goal.returns-in_err-told-clause-not_write
returns-in_err-told-clause-not_write g c =
    let gone = err_from_is_err_and c.from_residual.result c.from_residual.ensures.1 in
    rw (gone.1, gone.2) (λ is. c.in_err-told.ensures.not_write (let same : c.in_err-told.field-0.0 ≡ Write = cc in ap (λ (f : CliFault). Err f) same))

pub returns-in-Some-clause-read_failed : goal.returns-in-Some-clause-read_failed
returns-in-Some-clause-read_failed g c = let stands = c.in_ok-told.ensures.stands in (λ failed. absurd (cc), λ failed. absurd (cc))

pub returns-in_err-to_message-clause-lacking : goal.returns-in_err-to_message-clause-lacking
returns-in_err-to_message-clause-lacking g c = λ lacking.
    let end = c.loop-file-test.false in
    absurd (lacks_none string_bytes c.args.files.now c.loop-file.file-index (g.H.Host.lacks (held c.args.host.now)) end c.loop-file.invariant.3 lacking)

pub returns-clause-lacking : goal.returns-clause-lacking
returns-clause-lacking g c = λ lacking.
    let end = c.loop-file-test.false in
    absurd (lacks_none string_bytes c.args.files.now c.loop-file.file-index (g.H.Host.lacks (held c.args.host.now)) end c.loop-file.invariant.3 lacking)

pub returns-clause-ok : goal.returns-clause-ok
returns-clause-ok g c =
    let end = c.loop-file-test.false in
    inl (record {
      together = together_of c.loop-file.traces;
      taken = taken_all string_bytes c.args.files.now c.loop-file.file-index (style c.args.is_painted c.args.extent c.args.rendering)
          (g.H.Host.sources (held c.args.host.now)).file (together_of c.loop-file.traces) end c.loop-file.invariant.0;
      told_is = c.in_ok-to_message.ensures;
      status_is = c.status.ensures;
    })

pub returns-clause-read_failed : goal.returns-clause-read_failed
returns-clause-read_failed g c = let stands = c.loop-file.invariant.1 in (λ failed. absurd (cc), λ failed. absurd (cc))

pub returns-clause-not_write : goal.returns-clause-not_write
returns-clause-not_write g c = λ write. cc

pub returns-in-Some-clause-not_write : goal.returns-in-Some-clause-not_write
returns-in-Some-clause-not_write g c = λ write. cc
