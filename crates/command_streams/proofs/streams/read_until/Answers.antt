use Rattle.std.proofs.Common.{Err, Bool, rules, ap, subst, arith, ◌∙◌}
use Rattle.std.proofs.lemmas.Result.{err_from_is_err_and}
use Rattle.command_streams.specs.Watched.{held, calls_of}
use Rattle.command_streams.specs.declared.fault.CliFault.{CliFault}
use Rattle.command_streams.specs.declared.fault.CliFault.TheVariants.{Read}
use Rattle.command_streams.specs.Streams.{buffered, TakesPieces}
use Rattle.command_streams.proofs.Failing.{step_failed, all_well}
use Rattle.command_streams.proofs.Bytes.{uncalled, called_within, pieces_more, pieces_stop, pieces_reached, pieces_none, pieces_on, pieces_called, piece_called}
use Rattle.command_streams.proofs.streams.read_until.Goals as goal

pub loop-input-init : goal.loop-input-init
loop-input-init g c = record {
  taken = pieces_none (g.R.Read.remaining (held c.args.input.now)) c.args.done c.args.text.now.items c.requires.short;
  fresh = c.requires.fresh;
  count = uncalled _ (calls_of c.args.input.now);
}

pub loop-input-preserved : goal.loop-input-preserved
loop-input-preserved g c =
    let before = g.R.Read.remaining (held c.args.input.now) in
    let now = g.R.Read.remaining (held c.loop-input.input) in
    let behind = g.R.Read.remaining (held c.read_piece.new.input) in
    let piece = c.in_ok-read_piece.ensures in
    record {
      taken = pieces_on before now behind c.args.done c.args.text.now.items c.loop-input.text.items c.read_piece.new.text.items _ c.loop-input.invariant.taken piece.taken (search rules);
      fresh = piece.fresh;
      count = pieces_called before now behind c.args.done c.args.text.now.items c.loop-input.text.items c.read_piece.new.text.items _
          (calls_of c.args.input.now) (calls_of c.loop-input.input) (calls_of c.read_piece.new.input)
          c.loop-input.invariant.taken piece.taken (search rules) c.loop-input.invariant.count piece.calls;
    }

pub returns-in_err-read_piece-clause-calls : goal.returns-in_err-read_piece-clause-calls
returns-in_err-read_piece-clause-calls g c =
    piece_called (g.R.Read.remaining (held c.args.input.now)) (g.R.Read.remaining (held c.loop-input.input)) (g.R.Read.remaining (held c.read_piece.new.input))
    c.args.done c.args.text.now.items c.loop-input.text.items (calls_of c.args.input.now) (calls_of c.loop-input.input) (calls_of c.read_piece.new.input)
    c.loop-input.invariant.taken c.loop-input.invariant.count c.in_err-read_piece.ensures.calls

pub returns-then-not-branch-clause-calls : goal.returns-then-not-branch-clause-calls
returns-then-not-branch-clause-calls g c =
    piece_called (g.R.Read.remaining (held c.args.input.now)) (g.R.Read.remaining (held c.loop-input.input)) (g.R.Read.remaining (held c.read_piece.new.input))
    c.args.done c.args.text.now.items c.loop-input.text.items (calls_of c.args.input.now) (calls_of c.loop-input.input) (calls_of c.read_piece.new.input)
    c.loop-input.invariant.taken c.loop-input.invariant.count c.in_ok-read_piece.ensures.calls

pub returns-in_err-read_piece-clause-fault : goal.returns-in_err-read_piece-clause-fault
returns-in_err-read_piece-clause-fault g c =
    let gone = err_from_is_err_and c.from_residual.result c.from_residual.ensures.1 in
    rw (gone.1, gone.2) (pieces_stop (g.R.Read.remaining (held c.args.input.now)) (g.R.Read.remaining (held c.loop-input.input))
    (g.R.Read.remaining (held c.read_piece.new.input)) c.args.done c.args.text.now.items c.loop-input.text.items c.in_err-read_piece.field-0.0
    c.loop-input.invariant.taken c.in_err-read_piece.ensures.fault)

pub returns-in_err-read_piece-clause-failed : goal.returns-in_err-read_piece-clause-failed
returns-in_err-read_piece-clause-failed g c =
    let gone = err_from_is_err_and c.from_residual.result c.from_residual.ensures.1 in
    step_failed _ Read _ c.in_err-read_piece.field-0.0 (gone.1 ∙ ap (λ (f : CliFault). Err f) gone.2) c.in_err-read_piece.ensures.failed

pub returns-then-not-branch-clause-taken : goal.returns-then-not-branch-clause-taken
returns-then-not-branch-clause-taken g c =
    let before = g.R.Read.remaining (held c.args.input.now) in
    let now = g.R.Read.remaining (held c.loop-input.input) in
    let behind = g.R.Read.remaining (held c.read_piece.new.input) in
    let none = c.if-not-branch.true in
    subst (λ (more : Bool). TakesPieces c.args.done c.args.size (buffered before c.args.text.now.items) (buffered behind c.read_piece.new.text.items) more) none
    (pieces_more before now behind c.args.done c.args.text.now.items c.loop-input.text.items c.args.size c.read_piece.new.text.items c.in_ok-read_piece.field-0
    c.loop-input.invariant.taken c.in_ok-read_piece.ensures.taken (λ some. cc))

pub returns-clause-taken : goal.returns-clause-taken
returns-clause-taken g c =
    pieces_reached (g.R.Read.remaining (held c.args.input.now)) (g.R.Read.remaining (held c.loop-input.input)) c.args.done c.args.size
    c.args.text.now.items c.loop-input.text.items (omega (arith, c.loop-input-test.false)) c.loop-input.invariant.taken

pub returns-clause-calls : goal.returns-clause-calls
returns-clause-calls g c =
    called_within _ _ (calls_of c.args.input.now) (calls_of c.loop-input.input) (omega (arith, c.loop-input.invariant.taken.short)) c.loop-input.invariant.count

pub read_piece-requires-clause-fresh : goal.read_piece-requires-clause-fresh
read_piece-requires-clause-fresh g c = c.loop-input.invariant.fresh

pub read_piece-requires-clause-room : goal.read_piece-requires-clause-room
read_piece-requires-clause-room g c = omega (arith, c.loop-input.auto.piece, c.requires.room)

pub returns-in_err-read_piece-clause-taken : goal.returns-in_err-read_piece-clause-taken
returns-in_err-read_piece-clause-taken g c =
    let gone = err_from_is_err_and c.from_residual.result c.from_residual.ensures.1 in
    rw gone.1 tt

pub returns-in_err-read_piece-clause-fresh : goal.returns-in_err-read_piece-clause-fresh
returns-in_err-read_piece-clause-fresh g c =
    let gone = err_from_is_err_and c.from_residual.result c.from_residual.ensures.1 in
    rw gone.1 tt

pub returns-in_err-read_piece-clause-counted : goal.returns-in_err-read_piece-clause-counted
returns-in_err-read_piece-clause-counted g c =
    let gone = err_from_is_err_and c.from_residual.result c.from_residual.ensures.1 in
    rw gone.1 tt

pub returns-then-not-branch-clause-fault : goal.returns-then-not-branch-clause-fault
returns-then-not-branch-clause-fault g c = tt

pub returns-then-not-branch-clause-fresh : goal.returns-then-not-branch-clause-fresh
returns-then-not-branch-clause-fresh g c = c.in_ok-read_piece.ensures.fresh

pub returns-then-not-branch-clause-failed : goal.returns-then-not-branch-clause-failed
returns-then-not-branch-clause-failed g c = all_well _ Read _ c.in_ok-read_piece.ensures.fresh

pub returns-clause-fault : goal.returns-clause-fault
returns-clause-fault g c = tt

pub returns-clause-fresh : goal.returns-clause-fresh
returns-clause-fresh g c = c.loop-input.invariant.fresh

pub returns-clause-failed : goal.returns-clause-failed
returns-clause-failed g c = all_well _ Read _ c.loop-input.invariant.fresh

pub returns-clause-counted : goal.returns-clause-counted
returns-clause-counted g c = λ more. c.loop-input.invariant.count
