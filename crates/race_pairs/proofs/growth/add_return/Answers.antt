use Rattle.std.proofs.Common.{List, sym, subst}
use Rattle.std.proofs.lemmas.Result.{IfOk-weaker}
use Rattle.race_pairs.specs.declared.kept.Turn.{Turn}
use Rattle.race_pairs.specs.declared.kept.Strand.{Strand}
use Rattle.race_pairs.specs.Frames.{frames}
use Rattle.race_pairs.specs.Lineages.{AreKept}
use Rattle.race_pairs.proofs.Events.{return_kept}
use Rattle.race_pairs.proofs.growth.add_return.Goals as goal

pub returns : goal.returns
returns c =
    IfOk-weaker c.add_turn.result _ _ (λ u turned entries entry kept number next.
    return_kept c.args.opened.now c.args.turns.now.items _ c.args.strands.now.items _ c.args.strand c.args.number c.outer_of.result turned entries entry kept
    number next (c.outer_of.ensures (frames entries c.args.strand) (c.place_now-place.ensures entries
    (subst (λ (T : List Turn). AreKept c.args.opened.now T c.as_slice-2.result.now entries) (sym c.as_slice.ensures.value)
    (subst (λ (S : List Strand). AreKept c.args.opened.now c.args.turns.now.items S entries) (sym c.as_slice-2.ensures.value) kept))))) c.add_turn.ensures
