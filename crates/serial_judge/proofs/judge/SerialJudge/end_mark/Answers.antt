-- The judge with the records that are marked follows the run with them.
use Rattle.std.proofs.Common.{◌≡◌, ◌∙◌, ◌+◌, List, All, length, map, sym, ap, subst, arith}
use Rattle.std.proofs.lemmas.List.{take_at}
use Rattle.serial_judge.specs.declared.scope.Scope.{Scope}
use Rattle.serial_judge.specs.Judge.{Judge}
use Rattle.serial_judge.specs.Follows.{Follows}
use Rattle.serial_judge.specs.Moves.{moved_scope, moved_run, IsSpawnWithin}
use Rattle.serial_judge.proofs.Moving.{spans_within, top_within, callers_within, first_is_within, follows_reclaimed}
use Rattle.serial_judge.proofs.judge.SerialJudge.end_mark.Goals as goal

pub renumber-requires : goal.renumber-requires
renumber-requires g c =
    let len = subst (λ (z : Judge). length c.args.marks ≡ length z.records) (sym c.self.view_is) c.requires in
    (c.args.marks, c.keep-moves.ensures.moves, spans_within c.self.invariant.0 _ _ _ _ _ _ c.self.inside.callers.items c.self.invariant.1 c.args.marks len)

pub invariant_of-self : goal.invariant_of-self
invariant_of-self g c =
    let len = subst (λ (z : Judge). length c.args.marks ≡ length z.records) (sym c.self.view_is) c.requires in
    let run = c.self.invariant.0 in
    let f = c.self.invariant.1 in
    let moves = c.keep-moves.ensures.moves in
    let within = subst (λ (z : List Scope). All (λ (scope : Scope). IsSpawnWithin (length c.args.marks + 1) scope.spawn) z) (sym c.deref_mut.ensures.value)
    (callers_within run _ _ _ _ _ _ c.self.inside.callers.items f c.args.marks len) in (
      moved_run c.args.marks run,
      follows_reclaimed run _ _ _ _ _ _ c.self.inside.callers.items f c.args.marks len _ _ _ _ _
          (c.renumber.ensures c.args.marks moves (spans_within run _ _ _ _ _ _ c.self.inside.callers.items f c.args.marks len))
          c.keep-moves.ensures.kept
          (c.number-self-inside.ensures c.args.marks moves (first_is_within run _ _ _ _ _ _ c.self.inside.callers.items f c.args.marks len))
          (c.renumbered-self-inside.ensures c.args.marks moves (top_within run _ _ _ _ _ _ c.self.inside.callers.items f c.args.marks len))
          (take_at c.renumber_scopes.new.scopes _ c.self.inside.callers.len (omega (arith, c.renumber_scopes.auto.scopes, c.deref_mut.ensures.len)) ∙
          (c.renumber_scopes.ensures c.args.marks moves within ∙ ap (map (moved_scope c.args.marks)) c.deref_mut.ensures.value)),
    )

pub returns-clause-follows : goal.returns-clause-follows
returns-clause-follows g c run follows =
    let len = subst (λ (z : Judge). length c.args.marks ≡ length z.records) (sym c.self.view_is) c.requires in
    let f = subst (λ (z : Judge). Follows z run) (sym c.self.view_is) follows in
    let moves = c.keep-moves.ensures.moves in
    let within = subst (λ (z : List Scope). All (λ (scope : Scope). IsSpawnWithin (length c.args.marks + 1) scope.spawn) z) (sym c.deref_mut.ensures.value)
    (callers_within run _ _ _ _ _ _ c.self.inside.callers.items f c.args.marks len) in
    follows_reclaimed run _ _ _ _ _ _ c.self.inside.callers.items f c.args.marks len _ _ _ _ _
    (c.renumber.ensures c.args.marks moves (spans_within run _ _ _ _ _ _ c.self.inside.callers.items f c.args.marks len))
    c.keep-moves.ensures.kept
    (c.number-self-inside.ensures c.args.marks moves (first_is_within run _ _ _ _ _ _ c.self.inside.callers.items f c.args.marks len))
    (c.renumbered-self-inside.ensures c.args.marks moves (top_within run _ _ _ _ _ _ c.self.inside.callers.items f c.args.marks len))
    (take_at c.renumber_scopes.new.scopes _ c.self.inside.callers.len (omega (arith, c.renumber_scopes.auto.scopes, c.deref_mut.ensures.len)) ∙
    (c.renumber_scopes.ensures c.args.marks moves within ∙ ap (map (moved_scope c.args.marks)) c.deref_mut.ensures.value))
