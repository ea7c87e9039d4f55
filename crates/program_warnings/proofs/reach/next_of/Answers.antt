use Rattle.std.proofs.Common.{◌≡◌, sym, ◌∙◌, length, Some, subst, refl}
use Rattle.std.specs.Prelude.{slice_get}
use Rattle.std.proofs.lemmas.Option.{slice_get_read}
use Rattle.program_warnings.specs.Reach.{IsBodyClosed}
use Rattle.program_warnings.proofs.Reaching.{closed_none, function_more, passed_more, all_closed}
use Rattle.program_warnings.proofs.reach.next_of.Goals as goal
use Rattle.program_warnings.proofs.reach.next_of.Goals.{then-is_marked+else-is_some, else-is_marked}

pub loop-number-preserved : goal.loop-number-preserved
loop-number-preserved c =
    let code = c.index-functions-number.result in
    let known : slice_get c.args.functions.now c.loop-number.number ≡ Some code =
    slice_get_read c.args.functions.now (length c.args.functions.now) c.loop-number.number code refl c.loop-number-test.true c.index-functions-number.is in
    elim c.if-is_marked.branch [
      | then-is_marked+else-is_some w ↦
          let body : w.as_slice.result.now ≡ code.body = cc in
          function_more c.args.functions.now c.args.marks.now c.loop-number.number code known c.loop-number.invariant
          (λ marked. subst (λ all. IsBodyClosed all c.args.marks.now) body (closed_none w.next_in-next.result _ _ (sym w.is_some.ensures ∙ w.if-is_some.false) w.next_in-next.ensures))
      | else-is_marked w ↦
          passed_more c.args.functions.now c.args.marks.now c.loop-number.number c.loop-number.invariant (sym c.is_marked.ensures ∙ w.if-is_marked.false)
    ]

pub returns : goal.returns
returns c = all_closed c.args.functions.now c.args.marks.now c.loop-number.number c.loop-number-test.false c.loop-number.invariant
