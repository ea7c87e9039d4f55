use mathlib.Core.Bool.{not}
use Rattle.std.proofs.Common.{◌≡◌, Bool, true, false, IsTrue, sym, subst, refl}
use Rattle.model_strands.specs.Strands.{Running}
use Rattle.model_strands.specs.Blocks.{stack, IsSynced}
use Rattle.sp_labels.specs.Roster.{Follows}
use Rattle.sp_labels.proofs.Queries.{running-known}
use Rattle.sp_labels.proofs.Acting.{in-block, in-synced}
use Rattle.sp_labels.proofs.roster.Strands.is_synced.Goals as goal
use Rattle.sp_labels.proofs.roster.Strands.is_synced.Goals.{in-Block, in_default}

not_matched : (matched : Bool) → matched ≡ true → IsTrue (not matched) → ⊥
not_matched true e t = absurd (cc)
not_matched false e t = absurd (cc)

pub record_of-requires : goal.record_of-requires
record_of-requires g c =
    let (history, f) = c.self.invariant.0 in
    let run : Running history c.args.strand = c.requires history (subst (λ r. Follows r history) c.self.view_is f) in
    (running-known _ history f c.args.strand run).0

pub returns : goal.returns
returns g c history now =
    let f = subst (λ r. Follows r history) (sym c.self.view_is) now in
    let run : Running history c.args.strand = c.requires history now in
    elim c.match-matches.branch [
      | in-Block w ↦
          let at = (in-block _ history f c.args.strand _ _ run c.record_of.ensures w.in-Block.is).1 in
          let none : IsSynced (stack history c.args.strand) → ⊥ = λ synced. subst IsSynced at synced in
          ((λ t. absurd (not_matched _ w.matches-is t)), (λ synced. absurd (none synced)))
      | in_default w ↦
          let synced = in-synced _ history f c.args.strand _ run c.record_of.ensures w.in_default.not-Block in
          ((λ t. synced), (λ k. rw w.matches-is refl))
    ]
