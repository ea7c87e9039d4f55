use Rattle.std.proofs.Common.{◌+◌, ◌∙◌, length, refl, sym, ap}
use Rattle.std.proofs.lemmas.Bool.{false≢true}
use Rattle.reducer_views.specs.Held.{Holding}
use Rattle.reducer_views.proofs.KeptLists.{length-all_kept}
use Rattle.reducer_views.proofs.Grown.{grown_kept}
use Rattle.reducer_views.proofs.Following.{there_lent, home_read, home_lent, split_at}
use Rattle.reducer_views.proofs.views.Views.spawned.Goals as goal

pub home_of-home-requires : goal.home_of-home-requires
home_of-home-requires g c = record { known = there_lent _ _ _ _ _ _ c.self.view_is c.deref.ensures.value c.requires.there }

pub grow-requires-clause-home_known : goal.grow-requires-clause-home_known
grow-requires-clause-home_known g c = home_lent _ _ _ _ _ c.self.invariant.0 refl (home_read _ _ _ _ c.deref.ensures.value c.home_of-home.ensures)

pub grow-requires-clause-room : goal.grow-requires-clause-room
grow-requires-clause-room g c = (c.self.invariant.1 (ap (λ (h : Holding). h.has_room) c.self.view_is ∙ c.requires.room)).1

pub grow-requires-clause-next_is_new : goal.grow-requires-clause-next_is_new
grow-requires-clause-next_is_new g c = c.requires.newest ∙ ap (λ n. n + 1) (ap (λ (h : Holding). length h.strands) (sym c.self.view_is) ∙ length-all_kept c.self.inside.pieces.items)

pub invariant_of-self : goal.invariant_of-self
invariant_of-self g c =
    (grown_kept _ _ _ _ _ (home_lent _ _ _ _ _ c.self.invariant.0 refl (home_read _ _ _ _ c.deref.ensures.value c.home_of-home.ensures)) c.grow.ensures c.self.invariant.0, λ e. absurd (false≢true e))

pub returns-clause-follows : goal.returns-clause-follows
returns-clause-follows g c steps l k a =
    split_at _ _ _ _ _ _ steps _ _ _ _ _ _ c.self.view_is (home_read _ _ _ _ c.deref.ensures.value c.home_of-home.ensures) c.grow.ensures l k a
