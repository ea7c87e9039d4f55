use Rattle.command_streams.specs.declared.fault.CliFault.TheVariants.{Read}
use Rattle.command_streams.specs.declared.fault.CliFault.{CliFault}
use Rattle.command_streams.proofs.Failing.{step_failed, all_well}
use Rattle.std.proofs.Common.{◌+◌, length, ap, rules, arith, length-append, Err, ◌∙◌}
use Rattle.std.proofs.lemmas.Result.{err_from_is_err_and}
use Rattle.command_streams.specs.Watched.{held, calls_of}
use Rattle.command_streams.specs.PlainTexts.{progress}
use Rattle.command_streams.proofs.Bytes.{uncalled, called_both, called_within}
use Rattle.command_streams.proofs.KeptTexts.{plain_first, plain_read, plain_taken, plain_stop}
use Rattle.command_streams.proofs.kept.read_plain.Goals as goal

pub loop-waiting-init : goal.loop-waiting-init
loop-waiting-init g c = record {
  reads = plain_first (progress c.args.begun.now c.args.done c.args.waiting.now.items (g.R.Read.remaining (held c.args.input.now)));
  short = c.requires.short;
  fresh = c.requires.fresh;
  grown = omega arith;
  calls = uncalled _ (calls_of c.args.input.now);
}

pub returns-in_err-more-clause-fault : goal.returns-in_err-more-clause-fault
returns-in_err-more-clause-fault g c =
    let gone = err_from_is_err_and c.from_residual.result c.from_residual.ensures.1 in
    let before = g.R.Read.remaining (held c.args.input.now) in
    let now = g.R.Read.remaining (held c.loop-waiting.input) in
    rw (gone.1, gone.2)
    (plain_stop (progress c.args.begun.now c.args.done c.args.waiting.now.items before)
    (progress c.loop-waiting.begun c.loop-waiting.count c.loop-waiting.waiting.items now) c.loop-waiting.invariant.reads
    (g.R.Read.remaining (held c.read_until.new.input)) _ c.in_err-more.ensures.fault)

pub returns-in_err-more-clause-calls : goal.returns-in_err-more-clause-calls
returns-in_err-more-clause-calls g c =
    let inv = c.loop-waiting.invariant in
    called_both _ _ _ (calls_of c.args.input.now) (calls_of c.loop-waiting.input) (calls_of c.read_until.new.input)
    (omega (arith, inv.short, inv.grown)) inv.calls c.in_err-more.ensures.calls

pub returns-then-not-more-clause-read : goal.returns-then-not-more-clause-read
returns-then-not-more-clause-read g c =
    let inv = c.loop-waiting.invariant in
    let before = g.R.Read.remaining (held c.args.input.now) in
    let now = g.R.Read.remaining (held c.loop-waiting.input) in
    let next = g.R.Read.remaining (held c.read_until.new.input) in
    let pieces = c.in_ok-more.ensures.taken in
    let on =
    plain_read (progress c.args.begun.now c.args.done c.args.waiting.now.items before)
    (progress c.loop-waiting.begun c.loop-waiting.count c.loop-waiting.waiting.items now) inv.reads next _ c.read_until.new.text.items _ pieces in (
      c.loop-waiting.count + c.take_front-count.result,
      record {
        reads = plain_taken (progress c.args.begun.now c.args.done c.args.waiting.now.items before)
            (progress c.loop-waiting.begun c.loop-waiting.count c.read_until.new.text.items next) on c.take_front-count.result
            c.take_front-count.new.begun c.take_front-count.new.waiting.items c.take_front-count.ensures.taken c.take_front-count.ensures.count;
        short = omega (arith, pieces.short, c.take_front-count.ensures.count);
        end = λ _. pieces.end (search rules);
        called_few = λ e. cc;
      },
    )

pub returns-then-not-more-clause-calls : goal.returns-then-not-more-clause-calls
returns-then-not-more-clause-calls g c =
    let inv = c.loop-waiting.invariant in
    called_both _ _ _ (calls_of c.args.input.now) (calls_of c.loop-waiting.input) (calls_of c.read_until.new.input)
    (omega (arith, inv.short, inv.grown)) inv.calls c.in_ok-more.ensures.calls

pub loop-waiting-preserved : goal.loop-waiting-preserved
loop-waiting-preserved g c =
    let inv = c.loop-waiting.invariant in
    let before = g.R.Read.remaining (held c.args.input.now) in
    let now = g.R.Read.remaining (held c.loop-waiting.input) in
    let next = g.R.Read.remaining (held c.read_until.new.input) in
    let pieces = c.in_ok-more.ensures.taken in
    let left = c.take_front-count.ensures.count in
    let long = ap length pieces.added in
    let longer = length-append c.loop-waiting.waiting.items pieces.pieces in
    let on =
    plain_read (progress c.args.begun.now c.args.done c.args.waiting.now.items before)
    (progress c.loop-waiting.begun c.loop-waiting.count c.loop-waiting.waiting.items now) inv.reads next _ c.read_until.new.text.items _ pieces in
    record {
      reads = plain_taken (progress c.args.begun.now c.args.done c.args.waiting.now.items before)
          (progress c.loop-waiting.begun c.loop-waiting.count c.read_until.new.text.items next) on c.take_front-count.result
          c.take_front-count.new.begun c.take_front-count.new.waiting.items c.take_front-count.ensures.taken left;
      short = omega (arith, pieces.short, left);
      fresh = c.in_ok-more.ensures.fresh;
      grown = omega (arith, inv.grown, long, longer, left);
      calls = called_both _ _ _ (calls_of c.args.input.now) (calls_of c.loop-waiting.input) (calls_of c.read_until.new.input)
          (omega (arith, inv.grown, long, longer, left)) inv.calls (c.in_ok-more.ensures.counted (search rules));
    }

pub returns-clause-calls : goal.returns-clause-calls
returns-clause-calls g c =
    let inv = c.loop-waiting.invariant in
    called_within _ _ (calls_of c.args.input.now) (calls_of c.loop-waiting.input) (omega (arith, inv.short, inv.grown)) inv.calls

pub read_until-requires-clause-fresh : goal.read_until-requires-clause-fresh
read_until-requires-clause-fresh g c = c.loop-waiting.invariant.fresh

pub read_until-requires-clause-room : goal.read_until-requires-clause-room
read_until-requires-clause-room g c = omega (arith, c.loop-waiting.auto.piece, c.requires.room)

pub read_until-requires-clause-short : goal.read_until-requires-clause-short
read_until-requires-clause-short g c = c.loop-waiting.invariant.short

pub returns-in_err-more-clause-read : goal.returns-in_err-more-clause-read
returns-in_err-more-clause-read g c =
    let gone = err_from_is_err_and c.from_residual.result c.from_residual.ensures.1 in
    rw gone.1 tt

pub returns-in_err-more-clause-fresh : goal.returns-in_err-more-clause-fresh
returns-in_err-more-clause-fresh g c =
    let gone = err_from_is_err_and c.from_residual.result c.from_residual.ensures.1 in
    rw gone.1 tt

pub returns-in_err-more-clause-failed : goal.returns-in_err-more-clause-failed
returns-in_err-more-clause-failed g c =
    let gone = err_from_is_err_and c.from_residual.result c.from_residual.ensures.1 in
    step_failed _ Read _ c.in_err-more.field-0.0 (gone.1 ∙ ap (λ (f : CliFault). Err f) gone.2) c.in_err-more.ensures.failed

pub returns-then-not-more-clause-fault : goal.returns-then-not-more-clause-fault
returns-then-not-more-clause-fault g c = tt

pub returns-then-not-more-clause-fresh : goal.returns-then-not-more-clause-fresh
returns-then-not-more-clause-fresh g c = c.in_ok-more.ensures.fresh

pub returns-then-not-more-clause-failed : goal.returns-then-not-more-clause-failed
returns-then-not-more-clause-failed g c = all_well _ Read _ c.in_ok-more.ensures.fresh

pub returns-clause-fault : goal.returns-clause-fault
returns-clause-fault g c = tt

pub returns-clause-fresh : goal.returns-clause-fresh
returns-clause-fresh g c = c.loop-waiting.invariant.fresh

pub returns-clause-failed : goal.returns-clause-failed
returns-clause-failed g c = all_well _ Read _ c.loop-waiting.invariant.fresh
