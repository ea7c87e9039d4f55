-- The new numbers rise as the old ones do.
use Rattle.std.proofs.Common.{◌∙◌, ◌+◌, List, length, sym, subst, arith}
use Rattle.std.proofs.lemmas.List.{take_at}
use Rattle.serial_judge.specs.declared.spans.Span.{Span}
use Rattle.serial_judge.specs.Moves.{moved}
use Rattle.serial_judge.specs.Spans.{IsAscending}
use Rattle.serial_judge.proofs.Moving.{moved_rises}
use Rattle.serial_judge.proofs.spans.Spans.renumber.Goals as goal

pub invariant_of-self : goal.invariant_of-self
invariant_of-self g c =
    let marks = c.requires.0 in
    let old = c.deref_mut.ensures.value ∙ c.self.view_is in
    let ascending = subst (λ (z : List Span). IsAscending 1 z (length marks + 1)) (sym old) c.requires.2 in
    let is = c.renumber_all.ensures marks c.requires.1 ascending in (
      moved marks (length marks + 1),
      rw (take_at c.renumber_all.new.spans _ c.self.inside.spans.len (omega (arith, c.renumber_all.auto.spans, c.deref_mut.ensures.len)), is)
          (moved_rises marks c.deref_mut.result.now (length marks + 1) ascending),
    )
