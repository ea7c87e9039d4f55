-- Each number that the cell keeps gets its new one.
use Rattle.std.proofs.Common.{refl}
use Rattle.model_serial_runs.specs.declared.access_kind.AccessKind.TheVariants.{Read, Load, Update, Write}
use Rattle.serial_judge.proofs.Moving.{marked_within}
use Rattle.serial_judge.proofs.reclaim.Moves.renumber.Goals as goal

pub returns : goal.returns
returns g c marks moves is =
    let writer = c.number.ensures marks moves (marked_within marks c.args.cell is Write) in
    let reader = c.number-2.ensures marks moves (marked_within marks c.args.cell is Read) in
    let updater = c.number-3.ensures marks moves (marked_within marks c.args.cell is Update) in
    let loader = c.number-4.ensures marks moves (marked_within marks c.args.cell is Load) in
    rw (writer, reader, updater, loader) refl
