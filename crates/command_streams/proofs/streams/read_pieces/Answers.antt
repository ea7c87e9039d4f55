use Rattle.std.proofs.Common.{◌≡◌, List, ℕ, length, Err, rules, ap, ◌∙◌, arith}
use Rattle.std.specs.Io.KnownBytes.{Consumes}
use Rattle.std.proofs.lemmas.Result.{err_from_is_err_and, IfOk-weaker, IfErr-weaker}
use Rattle.command_streams.specs.Watched.{held, calls_of}
use Rattle.command_streams.proofs.Bytes.{called_within, called_both, stops_first, stops_trace}
use Rattle.command_streams.specs.declared.fault.CliFault.{CliFault}
use Rattle.command_streams.specs.declared.fault.CliFault.TheVariants.{Read}
use Rattle.command_streams.specs.Streams.{IsFaultOf}
use Rattle.command_streams.proofs.Failing.{step_failed, never_failed, fault_failed}
use Rattle.command_streams.proofs.Reading.{head_read, head_whole, rest_whole, rest_stops, parsed, not_parsed}
use Rattle.command_streams.proofs.streams.read_pieces.Goals as goal

pub returns-in_err-read_until-clause-fault : goal.returns-in_err-read_until-clause-fault
returns-in_err-read_until-clause-fault g c =
    let gone = err_from_is_err_and c.from_residual.result c.from_residual.ensures.1 in
    let before = g.R.Read.remaining (held c.args.input.now) in
    let behind = g.R.Read.remaining (held c.read_until.new.input) in
    rw (gone.1, gone.2) (stops_trace before behind _
    (stops_first before behind c.args.head.now.items _ c.requires.empty c.in_err-read_until.ensures.fault))

pub returns-then-not-branch-clause-ok : goal.returns-then-not-branch-clause-ok
returns-then-not-branch-clause-ok g c =
    let before = g.R.Read.remaining (held c.args.input.now) in
    let behind = g.R.Read.remaining (held c.read_until.new.input) in
    let head = c.read_until.new.text.items in
    parsed before before behind head c.parse_text.result
    (head_whole before behind _ c.args.head.now.items head _ c.in_ok-read_until.ensures.taken c.requires.empty c.if-not-branch.true) c.parse_text.ensures.ok

pub returns-then-not-branch-clause-fault : goal.returns-then-not-branch-clause-fault
returns-then-not-branch-clause-fault g c =
    let before = g.R.Read.remaining (held c.args.input.now) in
    let behind = g.R.Read.remaining (held c.read_until.new.input) in
    let head = c.read_until.new.text.items in
    not_parsed before before behind head c.parse_text.result
    (head_whole before behind _ c.args.head.now.items head _ c.in_ok-read_until.ensures.taken c.requires.empty c.if-not-branch.true) c.parse_text.ensures.fault

pub returns-in-Err-clause-fault : goal.returns-in-Err-clause-fault
returns-in-Err-clause-fault g c =
    let before = g.R.Read.remaining (held c.args.input.now) in
    let between = g.R.Read.remaining (held c.read_until.new.input) in
    let head : List ℕ = c.read_until.new.text.items in
    let slice : c.as_slice-bytes.result.now ≡ head = c.as_slice-bytes.ensures.value in
    c.skip_rest.ensures.fault head (search rules) (rw slice at c.in-Err.ensures) before
    (head_read before between _ _ c.args.head.now.items head _ c.in_ok-read_until.ensures.taken c.requires.empty)

pub returns-in-Err-clause-calls : goal.returns-in-Err-clause-calls
returns-in-Err-clause-calls g c =
    let long : length c.as_slice-bytes.result.now ≡ length c.read_until.new.text.items = ap length c.as_slice-bytes.ensures.value in
    called_both _ _ _ (calls_of c.args.input.now) (calls_of c.read_until.new.input) (calls_of c.skip_rest.new.input)
    (omega (arith, long, c.in_ok-read_until.ensures.taken.short)) (c.in_ok-read_until.ensures.counted c.if-not-branch.false) c.skip_rest.ensures.calls

pub returns-in_err-read_until-2-clause-fault : goal.returns-in_err-read_until-2-clause-fault
returns-in_err-read_until-2-clause-fault g c =
    let gone = err_from_is_err_and c.from_residual-in_err-read_until-2.result c.from_residual-in_err-read_until-2.ensures.1 in
    let before = g.R.Read.remaining (held c.args.input.now) in
    let between = g.R.Read.remaining (held c.read_until.new.input) in
    let head : List ℕ = c.read_until.new.text.items in
    rw (gone.1, gone.2) (rest_stops before between (g.R.Read.remaining (held c.read_until-2.new.input)) head _
    (head_read before between _ _ c.args.head.now.items head _ c.in_ok-read_until.ensures.taken c.requires.empty) c.in_err-read_until-2.ensures.fault)

pub returns-in_err-read_until-2-clause-calls : goal.returns-in_err-read_until-2-clause-calls
returns-in_err-read_until-2-clause-calls g c =
    called_both _ _ _ (calls_of c.args.input.now) (calls_of c.read_until.new.input) (calls_of c.read_until-2.new.input)
    (omega (arith, c.in_ok-read_until.ensures.taken.short)) (c.in_ok-read_until.ensures.counted c.if-not-branch.false) c.in_err-read_until-2.ensures.calls

pub returns-clause-ok : goal.returns-clause-ok
returns-clause-ok g c =
    let before = g.R.Read.remaining (held c.args.input.now) in
    let between = g.R.Read.remaining (held c.read_until.new.input) in
    let behind = g.R.Read.remaining (held c.read_until-2.new.input) in
    let head : List ℕ = c.read_until.new.text.items in
    let text : List ℕ = c.read_until-2.new.text.items in
    parsed before between behind text c.parse_text-2.result
    (rest_whole before between behind head text _ (head_read before between _ _ c.args.head.now.items head _ c.in_ok-read_until.ensures.taken c.requires.empty)
    c.in_ok-read_until-2.ensures.taken) c.parse_text-2.ensures.ok

pub returns-clause-fault : goal.returns-clause-fault
returns-clause-fault g c =
    let before = g.R.Read.remaining (held c.args.input.now) in
    let between = g.R.Read.remaining (held c.read_until.new.input) in
    let behind = g.R.Read.remaining (held c.read_until-2.new.input) in
    let head : List ℕ = c.read_until.new.text.items in
    let text : List ℕ = c.read_until-2.new.text.items in
    not_parsed before between behind text c.parse_text-2.result
    (rest_whole before between behind head text _ (head_read before between _ _ c.args.head.now.items head _ c.in_ok-read_until.ensures.taken c.requires.empty)
    c.in_ok-read_until-2.ensures.taken) c.parse_text-2.ensures.fault

pub returns-clause-calls : goal.returns-clause-calls
returns-clause-calls g c =
    called_both _ _ _ (calls_of c.args.input.now) (calls_of c.read_until.new.input) (calls_of c.read_until-2.new.input)
    (omega (arith, c.in_ok-read_until.ensures.taken.short)) (c.in_ok-read_until.ensures.counted c.if-not-branch.false) c.in_ok-read_until-2.ensures.calls

pub read_until-requires-clause-fresh : goal.read_until-requires-clause-fresh
read_until-requires-clause-fresh g c = c.requires.fresh

pub read_until-requires-2-clause-fresh : goal.read_until-requires-2-clause-fresh
read_until-requires-2-clause-fresh g c = c.in_ok-read_until.ensures.fresh

pub read_until-requires-2-clause-short : goal.read_until-requires-2-clause-short
read_until-requires-2-clause-short g c = c.in_ok-read_until.ensures.taken.short

pub read_on-requires-clause-fresh : goal.read_on-requires-clause-fresh
read_on-requires-clause-fresh g c = c.in_ok-read_until.ensures.fresh

pub skip_rest-requires-clause-fresh : goal.skip_rest-requires-clause-fresh
skip_rest-requires-clause-fresh g c = c.in_ok-read_until.ensures.fresh

pub skip_rest-requires-clause-short : goal.skip_rest-requires-clause-short
skip_rest-requires-clause-short g c =
    let long : length c.as_slice-bytes.result.now ≡ length c.read_until.new.text.items = ap length c.as_slice-bytes.ensures.value in
    omega (arith, long, c.in_ok-read_until.ensures.taken.short)

pub returns-clause-failed : goal.returns-clause-failed
returns-clause-failed g c = never_failed c.parse_text-2.result Read _ (IsFaultOf c.read_until-2.new.text.items) (λ is. is) c.parse_text-2.ensures.fault c.in_ok-read_until-2.ensures.fresh

pub returns-in-Err-clause-failed : goal.returns-in-Err-clause-failed
returns-in-Err-clause-failed g c = fault_failed _ Read c.skip_rest.result c.skip_rest.ensures.failed

pub returns-in-Ok-Some-clause-failed : goal.returns-in-Ok-Some-clause-failed
returns-in-Ok-Some-clause-failed g c = c.read_on.ensures.failed

pub returns-in_err-read_until-clause-failed : goal.returns-in_err-read_until-clause-failed
returns-in_err-read_until-clause-failed g c =
    let gone = err_from_is_err_and c.from_residual.result c.from_residual.ensures.1 in
    step_failed _ Read _ c.in_err-read_until.field-0.0 (gone.1 ∙ ap (λ (f : CliFault). Err f) gone.2) c.in_err-read_until.ensures.failed

pub returns-in_err-read_until-2-clause-failed : goal.returns-in_err-read_until-2-clause-failed
returns-in_err-read_until-2-clause-failed g c =
    let gone = err_from_is_err_and c.from_residual-in_err-read_until-2.result c.from_residual-in_err-read_until-2.ensures.1 in
    step_failed _ Read _ c.in_err-read_until-2.field-0.0 (gone.1 ∙ ap (λ (f : CliFault). Err f) gone.2) c.in_err-read_until-2.ensures.failed

pub returns-then-not-branch-clause-failed : goal.returns-then-not-branch-clause-failed
returns-then-not-branch-clause-failed g c = never_failed c.parse_text.result Read _ (IsFaultOf c.read_until.new.text.items) (λ is. is) c.parse_text.ensures.fault c.in_ok-read_until.ensures.fresh

pub returns-in-Ok-Some-clause-ok : goal.returns-in-Ok-Some-clause-ok
returns-in-Ok-Some-clause-ok g c =
    let before = g.R.Read.remaining (held c.args.input.now) in
    let between = g.R.Read.remaining (held c.read_until.new.input) in
    let head : List ℕ = c.read_until.new.text.items in
    let slice : c.as_slice-bytes.result.now ≡ head = c.as_slice-bytes.ensures.value in
    let read : Consumes before between c.as_slice-bytes.result.now = rw slice
    (head_read before between _ _ c.args.head.now.items head _ c.in_ok-read_until.ensures.taken c.requires.empty) in
    IfOk-weaker c.read_on.result _ _ (λ trace means. means before read) c.read_on.ensures.ok

pub returns-in-Ok-Some-clause-fault : goal.returns-in-Ok-Some-clause-fault
returns-in-Ok-Some-clause-fault g c =
    let before = g.R.Read.remaining (held c.args.input.now) in
    let between = g.R.Read.remaining (held c.read_until.new.input) in
    let head : List ℕ = c.read_until.new.text.items in
    let slice : c.as_slice-bytes.result.now ≡ head = c.as_slice-bytes.ensures.value in
    let read : Consumes before between c.as_slice-bytes.result.now = rw slice
    (head_read before between _ _ c.args.head.now.items head _ c.in_ok-read_until.ensures.taken c.requires.empty) in
    IfErr-weaker c.read_on.result _ _ (λ fault stops. stops before read) c.read_on.ensures.fault

pub returns-in-Ok-Some-clause-calls : goal.returns-in-Ok-Some-clause-calls
returns-in-Ok-Some-clause-calls g c =
    let long : length c.as_slice-bytes.result.now ≡ length c.read_until.new.text.items = ap length c.as_slice-bytes.ensures.value in
    called_both _ _ _ (calls_of c.args.input.now) (calls_of c.read_until.new.input) (calls_of c.read_on.new.input)
    (omega (arith, long, c.in_ok-read_until.ensures.taken.short)) (c.in_ok-read_until.ensures.counted c.if-not-branch.false) c.read_on.ensures.calls

pub read_on-requires-clause-begun : goal.read_on-requires-clause-begun
read_on-requires-clause-begun g c = rw c.in-Ok-Some.field-0-is at c.in-Ok-Some.ensures

pub read_on-requires-clause-short : goal.read_on-requires-clause-short
read_on-requires-clause-short g c =
    let long : length c.as_slice-bytes.result.now ≡ length c.read_until.new.text.items = ap length c.as_slice-bytes.ensures.value in
    omega (arith, long, c.in_ok-read_until.ensures.taken.short)

pub returns-in_err-read_until-clause-ok : goal.returns-in_err-read_until-clause-ok
returns-in_err-read_until-clause-ok g c =
    let gone = err_from_is_err_and c.from_residual.result c.from_residual.ensures.1 in
    rw gone.1 tt

pub returns-in_err-read_until-clause-calls : goal.returns-in_err-read_until-clause-calls
returns-in_err-read_until-clause-calls g c = called_within _ _ (calls_of c.args.input.now) (calls_of c.read_until.new.input) (omega arith) c.in_err-read_until.ensures.calls

pub returns-then-not-branch-clause-calls : goal.returns-then-not-branch-clause-calls
returns-then-not-branch-clause-calls g c = called_within _ _ (calls_of c.args.input.now) (calls_of c.read_until.new.input) (omega arith) c.in_ok-read_until.ensures.calls

pub returns-in-Err-clause-ok : goal.returns-in-Err-clause-ok
returns-in-Err-clause-ok g c = tt

pub returns-in_err-read_until-2-clause-ok : goal.returns-in_err-read_until-2-clause-ok
returns-in_err-read_until-2-clause-ok g c =
    let gone = err_from_is_err_and c.from_residual-in_err-read_until-2.result c.from_residual-in_err-read_until-2.ensures.1 in
    rw gone.1 tt
