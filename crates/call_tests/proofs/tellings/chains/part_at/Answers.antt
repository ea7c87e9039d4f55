use Rattle.std.proofs.Common.{◌-◌, List, get_or, sym, subst, arith}
use Rattle.model_strands.specs.Strands.{Begun}
use Rattle.model_histories.specs.declared.answer.Entry.{Entry}
use Rattle.model_histories.specs.Entries.{control_part}
use Rattle.model_histories.specs.Legal.{IsLegal}
use Rattle.race_pairs.proofs.Numbers.{no_entry}
use Rattle.race_pairs.proofs.Asked.{told_begun}
use Rattle.call_tests.proofs.tellings.chains.part_at.Goals as goal

pub parting-parting-requires : goal.parting-parting-requires
parting-parting-requires c =
    let shape = c.args.gate.now.shape in
    let told = c.history-entries.result.now in
    let whole = c.history-entries.ensures.entries in
    let legal = subst (λ (xs : List Entry). IsLegal shape xs) (sym whole) c.history-entries.ensures.judged.legal in (
      c.args.gate.now.history,
      (
        c.requires,
        subst (λ (xs : List Entry). Begun (control_part xs) (get_or told (c.args.first - 1) no_entry).request.strand) whole
            (told_begun shape told legal (c.args.first - 1) no_entry (omega (arith, c.if-first-eq0.false, c.if-first-entries.false))),
        subst (λ (xs : List Entry). Begun (control_part xs) (get_or told (c.args.second - 1) no_entry).request.strand) whole
            (told_begun shape told legal (c.args.second - 1) no_entry (omega (arith, c.if-second-eq0.false, c.if-second-entries.false))),
      ),
    )
