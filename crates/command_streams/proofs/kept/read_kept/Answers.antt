use Rattle.std.proofs.Common.{◌≡◌, ◌∙◌, ℕ, List, Err, length, refl, ap, arith}
use Rattle.std.specs.Io.KnownBytes.{Consumes}
use Rattle.std.proofs.lemmas.Result.{err_from_is_err_and, IfOk-weaker, IfErr-weaker}
use Rattle.command_streams.specs.Watched.{held, calls_of}
use Rattle.command_streams.specs.declared.fault.CliFault.{CliFault}
use Rattle.command_streams.specs.declared.fault.CliFault.TheVariants.{Read}
use Rattle.command_streams.proofs.Failing.{step_failed, memory_failed, all_well}
use Rattle.command_streams.proofs.Bytes.{uncalled, called_both, called_within, stops_first}
use Rattle.command_streams.proofs.Reading.{head_read, head_whole}
use Rattle.command_streams.proofs.kept.read_kept.Goals as goal

pub returns-in_err-buffer-clause-calls : goal.returns-in_err-buffer-clause-calls
returns-in_err-buffer-clause-calls g c = uncalled _ (calls_of c.args.input.now)

pub returns-in_err-read_until-clause-fault : goal.returns-in_err-read_until-clause-fault
returns-in_err-read_until-clause-fault g c =
    let gone = err_from_is_err_and c.from_residual-in_err-read_until.result c.from_residual-in_err-read_until.ensures.1 in
    rw (gone.1, gone.2) (stops_first (g.R.Read.remaining (held c.args.input.now)) (g.R.Read.remaining (held c.read_until.new.input))
    c.new-head.result.items _ c.new-head.ensures.items c.in_err-read_until.ensures.fault)

pub returns-then-not-branch-clause-ok : goal.returns-then-not-branch-clause-ok
returns-then-not-branch-clause-ok g c =
    head_whole (g.R.Read.remaining (held c.args.input.now)) (g.R.Read.remaining (held c.read_until.new.input)) _ c.new-head.result.items
    c.read_until.new.text.items _ c.in_ok-read_until.ensures.taken c.new-head.ensures.items c.if-not-branch.true

pub returns-in_err-found-clause-fault : goal.returns-in_err-found-clause-fault
returns-in_err-found-clause-fault g c =
    let gone = err_from_is_err_and c.from_residual-in_err-found.result c.from_residual-in_err-found.ensures.1 in
    let before = g.R.Read.remaining (held c.args.input.now) in
    let between = g.R.Read.remaining (held c.read_until.new.input) in
    let head : List ℕ = c.read_until.new.text.items in
    let slice : c.as_slice.result.now ≡ head = c.as_slice.ensures.value in
    let stops = rw slice at c.in_err-found.ensures.fault in
    rw (gone.1, gone.2) (stops before (head_read before between _ _ c.new-head.result.items head _ c.in_ok-read_until.ensures.taken c.new-head.ensures.items))

pub returns-in_err-found-clause-calls : goal.returns-in_err-found-clause-calls
returns-in_err-found-clause-calls g c =
    let long : length c.as_slice.result.now ≡ length c.read_until.new.text.items = ap length c.as_slice.ensures.value in
    called_both _ _ _ (calls_of c.args.input.now) (calls_of c.read_until.new.input) (calls_of c.read_behind.new.input)
    (omega (arith, long, c.in_ok-read_until.ensures.taken.short)) (c.in_ok-read_until.ensures.counted c.if-not-branch.false) c.in_err-found.ensures.calls

pub returns-in-Some-clause-ok : goal.returns-in-Some-clause-ok
returns-in-Some-clause-ok g c =
    let before = g.R.Read.remaining (held c.args.input.now) in
    let between = g.R.Read.remaining (held c.read_until.new.input) in
    let head : List ℕ = c.read_until.new.text.items in
    let slice : c.as_slice.result.now ≡ head = c.as_slice.ensures.value in
    let found = rw (c.in-Some.is, slice) at c.in_ok-found.ensures.found in
    IfOk-weaker c.keep_found.result _ _
    (λ kept from. from between (calls_of c.read_until.new.input) found before
    (head_read before between _ _ c.new-head.result.items head _ c.in_ok-read_until.ensures.taken c.new-head.ensures.items))
    c.keep_found.ensures.ok

pub returns-in-Some-clause-fault : goal.returns-in-Some-clause-fault
returns-in-Some-clause-fault g c =
    let before = g.R.Read.remaining (held c.args.input.now) in
    let between = g.R.Read.remaining (held c.read_until.new.input) in
    let head : List ℕ = c.read_until.new.text.items in
    let slice : c.as_slice.result.now ≡ head = c.as_slice.ensures.value in
    let found = rw (c.in-Some.is, slice) at c.in_ok-found.ensures.found in
    IfErr-weaker c.keep_found.result _ _
    (λ fault stops. stops between (calls_of c.read_until.new.input) found before
    (head_read before between _ _ c.new-head.result.items head _ c.in_ok-read_until.ensures.taken c.new-head.ensures.items))
    c.keep_found.ensures.fault

pub returns-in-Some-clause-calls : goal.returns-in-Some-clause-calls
returns-in-Some-clause-calls g c =
    let between = g.R.Read.remaining (held c.read_until.new.input) in
    let slice : c.as_slice.result.now ≡ c.read_until.new.text.items = c.as_slice.ensures.value in
    let found = rw (c.in-Some.is, slice) at c.in_ok-found.ensures.found in
    called_both _ _ _ (calls_of c.args.input.now) (calls_of c.read_until.new.input) (calls_of c.keep_found.new.input)
    (omega (arith, c.in_ok-read_until.ensures.taken.short)) (c.in_ok-read_until.ensures.counted c.if-not-branch.false)
    (c.keep_found.ensures.calls between (calls_of c.read_until.new.input) found)

pub returns-clause-ok : goal.returns-clause-ok
returns-clause-ok g c =
    let before = g.R.Read.remaining (held c.args.input.now) in
    let between = g.R.Read.remaining (held c.read_until.new.input) in
    let head : List ℕ = c.read_until.new.text.items in
    let same : c.read_behind.new.input ≡ c.read_until.new.input = c.in_ok-found.ensures.none (rw c.in-None.is refl) in
    let read : Consumes before (g.R.Read.remaining (held c.read_behind.new.input)) head =
    rw same (head_read before between _ _ c.new-head.result.items head _ c.in_ok-read_until.ensures.taken c.new-head.ensures.items) in
    IfOk-weaker c.read_rest.result _ _ (λ kept from. from before read) c.read_rest.ensures.ok

pub returns-clause-fault : goal.returns-clause-fault
returns-clause-fault g c =
    let before = g.R.Read.remaining (held c.args.input.now) in
    let between = g.R.Read.remaining (held c.read_until.new.input) in
    let head : List ℕ = c.read_until.new.text.items in
    let same : c.read_behind.new.input ≡ c.read_until.new.input = c.in_ok-found.ensures.none (rw c.in-None.is refl) in
    let read : Consumes before (g.R.Read.remaining (held c.read_behind.new.input)) head =
    rw same (head_read before between _ _ c.new-head.result.items head _ c.in_ok-read_until.ensures.taken c.new-head.ensures.items) in
    IfErr-weaker c.read_rest.result _ _ (λ fault stops. stops before read) c.read_rest.ensures.fault

pub returns-clause-calls : goal.returns-clause-calls
returns-clause-calls g c =
    let same : c.read_behind.new.input ≡ c.read_until.new.input = c.in_ok-found.ensures.none (rw c.in-None.is refl) in
    let more = rw same at c.read_rest.ensures.calls in
    called_both _ _ _ (calls_of c.args.input.now) (calls_of c.read_until.new.input) (calls_of c.read_rest.new.input)
    (omega (arith, c.in_ok-read_until.ensures.taken.short)) (c.in_ok-read_until.ensures.counted c.if-not-branch.false) more

pub returns-in_err-buffer-clause-failed : goal.returns-in_err-buffer-clause-failed
returns-in_err-buffer-clause-failed g c =
    let gone = err_from_is_err_and c.from_residual.result c.from_residual.ensures.1 in
    memory_failed _ _ gone.0 gone.1 gone.2 c.requires

pub returns-in_err-read_until-clause-failed : goal.returns-in_err-read_until-clause-failed
returns-in_err-read_until-clause-failed g c =
    let gone = err_from_is_err_and c.from_residual-in_err-read_until.result c.from_residual-in_err-read_until.ensures.1 in
    step_failed _ Read _ c.in_err-read_until.field-0.0 (gone.1 ∙ ap (λ (f : CliFault). Err f) gone.2) c.in_err-read_until.ensures.failed

pub returns-then-not-branch-clause-failed : goal.returns-then-not-branch-clause-failed
returns-then-not-branch-clause-failed g c = all_well _ Read _ c.in_ok-read_until.ensures.fresh

pub returns-in_err-found-clause-failed : goal.returns-in_err-found-clause-failed
returns-in_err-found-clause-failed g c =
    let gone = err_from_is_err_and c.from_residual-in_err-found.result c.from_residual-in_err-found.ensures.1 in
    step_failed _ Read _ c.in_err-found.field-0.0 (gone.1 ∙ ap (λ (f : CliFault). Err f) gone.2) c.in_err-found.ensures.failed

pub returns-in-Some-clause-failed : goal.returns-in-Some-clause-failed
returns-in-Some-clause-failed g c = c.keep_found.ensures.failed

pub returns-clause-failed : goal.returns-clause-failed
returns-clause-failed g c = c.read_rest.ensures.failed

pub returns-in_err-read_until-clause-calls : goal.returns-in_err-read_until-clause-calls
returns-in_err-read_until-clause-calls g c =
    called_within _ _ (calls_of c.args.input.now) (calls_of c.read_until.new.input) (omega arith) c.in_err-read_until.ensures.calls

pub returns-then-not-branch-clause-calls : goal.returns-then-not-branch-clause-calls
returns-then-not-branch-clause-calls g c = called_within _ _ (calls_of c.args.input.now) (calls_of c.read_until.new.input) (omega arith) c.in_ok-read_until.ensures.calls

pub read_until-requires-clause-fresh : goal.read_until-requires-clause-fresh
read_until-requires-clause-fresh g c = c.requires

pub read_behind-requires-clause-fresh : goal.read_behind-requires-clause-fresh
read_behind-requires-clause-fresh g c = c.in_ok-read_until.ensures.fresh

pub read_behind-requires-clause-short : goal.read_behind-requires-clause-short
read_behind-requires-clause-short g c =
    let long : length c.as_slice.result.now ≡ length c.read_until.new.text.items = ap length c.as_slice.ensures.value in
    omega (arith, long, c.in_ok-read_until.ensures.taken.short)

pub keep_found-requires-clause-fresh : goal.keep_found-requires-clause-fresh
keep_found-requires-clause-fresh g c = c.in_ok-found.ensures.fresh

pub keep_found-requires-clause-found : goal.keep_found-requires-clause-found
keep_found-requires-clause-found g c =
    let slice : c.as_slice.result.now ≡ c.read_until.new.text.items = c.as_slice.ensures.value in
    (g.R.Read.remaining (held c.read_until.new.input), calls_of c.read_until.new.input, rw (c.in-Some.is, slice) at c.in_ok-found.ensures.found)

pub read_rest-requires-clause-fresh : goal.read_rest-requires-clause-fresh
read_rest-requires-clause-fresh g c = c.in_ok-found.ensures.fresh

pub read_rest-requires-clause-short : goal.read_rest-requires-clause-short
read_rest-requires-clause-short g c = omega (arith, c.in_ok-read_until.ensures.taken.short)

pub returns-in_err-buffer-clause-ok : goal.returns-in_err-buffer-clause-ok
returns-in_err-buffer-clause-ok g c =
    let gone = err_from_is_err_and c.from_residual.result c.from_residual.ensures.1 in
    rw gone.1 tt

pub returns-in_err-buffer-clause-kept : goal.returns-in_err-buffer-clause-kept
returns-in_err-buffer-clause-kept g c =
    let gone = err_from_is_err_and c.from_residual.result c.from_residual.ensures.1 in
    rw gone.1 tt

pub returns-in_err-buffer-clause-fault : goal.returns-in_err-buffer-clause-fault
returns-in_err-buffer-clause-fault g c =
    let gone = err_from_is_err_and c.from_residual.result c.from_residual.ensures.1 in
    rw (gone.1, gone.2) tt

pub returns-in_err-read_until-clause-ok : goal.returns-in_err-read_until-clause-ok
returns-in_err-read_until-clause-ok g c =
    let gone = err_from_is_err_and c.from_residual-in_err-read_until.result c.from_residual-in_err-read_until.ensures.1 in
    rw gone.1 tt

pub returns-in_err-read_until-clause-kept : goal.returns-in_err-read_until-clause-kept
returns-in_err-read_until-clause-kept g c =
    let gone = err_from_is_err_and c.from_residual-in_err-read_until.result c.from_residual-in_err-read_until.ensures.1 in
    rw gone.1 tt

pub returns-then-not-branch-clause-kept : goal.returns-then-not-branch-clause-kept
returns-then-not-branch-clause-kept g c = tt

pub returns-then-not-branch-clause-fault : goal.returns-then-not-branch-clause-fault
returns-then-not-branch-clause-fault g c = tt

pub returns-in_err-found-clause-ok : goal.returns-in_err-found-clause-ok
returns-in_err-found-clause-ok g c =
    let gone = err_from_is_err_and c.from_residual-in_err-found.result c.from_residual-in_err-found.ensures.1 in
    rw gone.1 tt

pub returns-in_err-found-clause-kept : goal.returns-in_err-found-clause-kept
returns-in_err-found-clause-kept g c =
    let gone = err_from_is_err_and c.from_residual-in_err-found.result c.from_residual-in_err-found.ensures.1 in
    rw gone.1 tt

pub returns-in-Some-clause-kept : goal.returns-in-Some-clause-kept
returns-in-Some-clause-kept g c = c.keep_found.ensures.kept

pub returns-clause-kept : goal.returns-clause-kept
returns-clause-kept g c = c.read_rest.ensures.kept
