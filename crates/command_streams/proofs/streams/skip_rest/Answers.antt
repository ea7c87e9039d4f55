use Rattle.std.proofs.Common.{◌++◌, ◌||◌, ◌∙◌, Bool, false, [], ap, take, arith, length-append}
use Rattle.command_streams.specs.Faults.{fault_of_text}
use Rattle.command_streams.specs.Streams.{IsRead}
use Rattle.command_streams.specs.Watched.{held, calls_of}
use Rattle.command_streams.proofs.Bytes.{consumes-none, consumes-more, uncalled, called_once, called_both, called_within, fault_told, fault_given}
use Rattle.command_streams.proofs.streams.skip_rest.Goals as goal

pub loop-count-init : goal.loop-count-init
loop-count-init g c = record {
  taken = ([], consumes-none (g.R.Read.remaining (held c.args.input.now)), omega arith);
  fresh = c.requires.fresh;
  calls = uncalled _ (calls_of c.args.input.now);
}

pub loop-count-preserved : goal.loop-count-preserved
loop-count-preserved g c =
    let taken = c.loop-count.invariant.taken in
    let read = c.in-Ok.ensures in
    let piece = take c.in-Ok.more c.read.new.buf in
    let some = c.in-Ok.more-test in
    record {
      taken = (
        taken.0 ++ piece,
        consumes-more (g.R.Read.remaining (held c.args.input.now)) (g.R.Read.remaining (held c.loop-count.input)) (g.R.Read.remaining (held c.read.new.self))
            taken.0 piece taken.1 read.bytes.0,
        omega (arith, taken.2, read.bound.1, length-append taken.0 piece),
      );
      fresh = read.failed ∙ ap (λ (b : Bool). b || false) c.loop-count.invariant.fresh;
      calls = called_both _ _ 1 (calls_of c.args.input.now) (calls_of c.loop-count.input) (calls_of c.read.new.self)
          (omega (arith, taken.2, some, c.loop-count-test.true)) c.loop-count.invariant.calls (called_once _ _ c.read.ensures.calls);
    }

pub returns-in-Ok-eq0-clause-fault : goal.returns-in-Ok-eq0-clause-fault
returns-in-Ok-eq0-clause-fault g c bytes counted faulty first before =
    let taken = c.loop-count.invariant.taken in
    let read = c.in-Ok-eq0.ensures in
    let piece = take c.in-Ok-eq0.field-0 c.read.new.buf in
    let whole = bytes ++ (taken.0 ++ piece) in
    let end = g.R.Read.remaining (held c.read.new.self) in
    let all : IsRead first end whole = record {
      taken = consumes-more first (g.R.Read.remaining (held c.args.input.now)) end bytes (taken.0 ++ piece) before
          (consumes-more (g.R.Read.remaining (held c.args.input.now)) (g.R.Read.remaining (held c.loop-count.input)) end taken.0 piece taken.1 read.bytes.0);
      end = read.bytes.1 c.in-Ok-eq0.field-0-test (omega (arith, c.read.auto.buf, c.loop-count.auto.piece, c.requires.room));
      short = omega (arith, counted, taken.2, read.bound.1, c.in-Ok-eq0.field-0-test, c.loop-count-test.true, length-append bytes (taken.0 ++ piece), length-append taken.0 piece);
    } in
    rw c.from.ensures
    (fault_told first end whole (fault_of_text c.args.fault) all (fault_given whole c.args.fault (faulty (taken.0 ++ piece))))

pub returns-clause-fault : goal.returns-clause-fault
returns-clause-fault g c bytes counted faulty first before =
    let taken = c.loop-count.invariant.taken in
    record {
      text = bytes ++ taken.0;
      taken = consumes-more first (g.R.Read.remaining (held c.args.input.now)) (g.R.Read.remaining (held c.loop-count.input)) bytes taken.0 before taken.1;
      long = omega (arith, counted, taken.2, length-append bytes taken.0, c.loop-count-test.false);
    }

pub returns-in-Ok-eq0-clause-calls : goal.returns-in-Ok-eq0-clause-calls
returns-in-Ok-eq0-clause-calls g c =
    called_both _ _ 1 (calls_of c.args.input.now) (calls_of c.loop-count.input) (calls_of c.read.new.self)
    (omega (arith, c.loop-count.invariant.taken.2, c.loop-count-test.true)) c.loop-count.invariant.calls (called_once _ _ c.read.ensures.calls)

pub returns-in-Err-clause-calls : goal.returns-in-Err-clause-calls
returns-in-Err-clause-calls g c =
    called_both _ _ 1 (calls_of c.args.input.now) (calls_of c.loop-count.input) (calls_of c.read.new.self)
    (omega (arith, c.loop-count.invariant.taken.2, c.loop-count-test.true)) c.loop-count.invariant.calls (called_once _ _ c.read.ensures.calls)

pub returns-clause-calls : goal.returns-clause-calls
returns-clause-calls g c = called_within _ _ (calls_of c.args.input.now) (calls_of c.loop-count.input) (omega arith) c.loop-count.invariant.calls
