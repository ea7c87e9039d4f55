use Rattle.std.proofs.Common.{List, None, subst}
use Rattle.std.proofs.lemmas.Result.{IfOk-weaker}
use Rattle.race_pairs.specs.declared.kept.Turn.{Turn}
use Rattle.race_pairs.specs.declared.kept.Strand.{Strand}
use Rattle.race_pairs.specs.Growths.{IsFrameMore}
use Rattle.race_pairs.proofs.Events.{call_kept}
use Rattle.race_pairs.proofs.growth.add_call.Goals as goal

pub returns : goal.returns
returns c =
    IfOk-weaker c.add_turn.result _ _ (λ u turned entries entry kept number next.
    call_kept c.args.opened.now.items _ c.args.turns.now.items _ c.args.strands.now.items _ c.args.strand c.args.number c.in_ok-frame.frame
    (subst (λ (T : List Turn). IsFrameMore c.args.opened.now.items T c.args.strands.now.items (record { number = c.args.number; strand = c.args.strand; spawned = None }) c.add_frame.new.opened.items) c.as_slice.ensures.value
    (subst (λ (S : List Strand). IsFrameMore c.args.opened.now.items c.as_slice.result.now S (record { number = c.args.number; strand = c.args.strand; spawned = None }) c.add_frame.new.opened.items) c.as_slice-2.ensures.value c.in_ok-frame.ensures.added))
    c.in_ok-frame.ensures.place turned entries entry kept number next) c.add_turn.ensures
