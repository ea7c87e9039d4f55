use Rattle.std.proofs.Common.{◌+◌, length, length-append, ap, arith}
use Rattle.trace_text.specs.Drafts.{so_far, IsTaken}
use Rattle.trace_text.proofs.PlainPieces.{reads_count, reads_means, reads_faults, reads_some}
use Rattle.trace_text.proofs.RoomFaults.{means_on, fault_on}
use Rattle.trace_text.proofs.WholeLines.{count_on, some_on, stopped_on}
use Rattle.trace_text.proofs.trace.Draft.take_lines.Goals as goal

pub take_other-fault-requires-clause-some : goal.take_other-fault-requires-clause-some
take_other-fault-requires-clause-some g c = reads_some _ _ _ _ _ _ c.take_plain_lines-number.ensures c.loop-rest.invariant.some

pub returns-in-Some : goal.returns-in-Some
returns-in-Some g c =
    let first = so_far c.args.self.now.names c.args.self.now.lines in
    let mid = so_far c.take_plain_lines-number.new.self.names c.take_plain_lines-number.new.self.lines in
    stopped_on (c.take_plain_lines-number.result.1 + 1) (c.args.at + 1) first mid c.args.text.now c.take_plain_lines-number.result.0.now c.in-Some.fault
    (rw c.in-Some.is at c.take_other-fault.ensures)
    (λ bad cause fault. c.loop-rest.invariant.faults bad cause (reads_faults _ _ _ _ _ _ c.take_plain_lines-number.ensures bad cause fault))

pub loop-rest-preserved-then-not-is_empty : goal.loop-rest-preserved-then-not-is_empty
loop-rest-preserved-then-not-is_empty g c =
    let reads = c.take_plain_lines-number.ensures in
    let at = c.take_plain_lines-number.result.1 + 1 in
    let mid = so_far c.take_plain_lines-number.new.self.names c.take_plain_lines-number.new.self.lines in
    let after = so_far c.take_other-fault.new.self.names c.take_other-fault.new.self.lines in
    let behind = c.take_plain_lines-number.result.0.now in
    let rest = c.take_other-fault.result.0.now in
    let taken : IsTaken at mid behind rest after = rw c.in_default.is at c.take_other-fault.ensures in record {
      few = taken.4.0;
      some = some_on at mid after behind rest taken (reads_some _ _ _ _ _ _ reads c.loop-rest.invariant.some);
      count = omega (arith, c.loop-rest.invariant.count, reads_count _ _ _ _ _ _ reads, count_on at mid after behind rest taken);
      means = λ contents means.
          c.loop-rest.invariant.means contents (reads_means _ _ _ _ _ _ reads contents (means_on at mid after contents behind rest taken means));
      faults = λ bad cause fault.
          c.loop-rest.invariant.faults bad cause (reads_faults _ _ _ _ _ _ reads bad cause (fault_on at mid after behind rest bad cause taken fault));
    }

pub loop-rest-preserved : goal.loop-rest-preserved
loop-rest-preserved g c =
    let reads = c.take_plain_lines-number.ensures in record {
      few = reads.few;
      some = reads_some _ _ _ _ _ _ reads c.loop-rest.invariant.some;
      count = omega (arith, c.loop-rest.invariant.count, reads_count _ _ _ _ _ _ reads);
      means = λ contents means. c.loop-rest.invariant.means contents (reads_means _ _ _ _ _ _ reads contents means);
      faults = λ bad cause fault. c.loop-rest.invariant.faults bad cause (reads_faults _ _ _ _ _ _ reads bad cause fault);
    }

pub loop-rest-smaller-then-not-is_empty : goal.loop-rest-smaller-then-not-is_empty
loop-rest-smaller-then-not-is_empty g c =
    let reads = c.take_plain_lines-number.ensures in
    let at = c.take_plain_lines-number.result.1 + 1 in
    let mid = so_far c.take_plain_lines-number.new.self.names c.take_plain_lines-number.new.self.lines in
    let after = so_far c.take_other-fault.new.self.names c.take_other-fault.new.self.lines in
    let behind = c.take_plain_lines-number.result.0.now in
    let taken : IsTaken at mid behind c.take_other-fault.result.0.now after = rw c.in_default.is at c.take_other-fault.ensures in
    let split = ap length reads.split in
    let added = length-append reads.front behind in
    omega (arith, taken.2, split, added)
