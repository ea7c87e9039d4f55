use Rattle.std.proofs.Common.{ap, arith}
use Rattle.std.proofs.lemmas.Bool.{false≢true}
use Rattle.std.proofs.lemmas.List.{with_items_is}
use Rattle.reducer_views.proofs.Slots.{full, way_room}
use Rattle.reducer_views.proofs.Following.{there_lent, home_read, home_lent, updated_sound, updated_lent}
use Rattle.reducer_views.proofs.views.Views.update.Goals as goal

pub home_of-home-requires : goal.home_of-home-requires
home_of-home-requires g c = record { known = there_lent _ _ _ _ _ _ c.self.view_is c.deref.ensures.value c.requires.there }

pub gather_at-requires-clause-home_known : goal.gather_at-requires-clause-home_known
gather_at-requires-clause-home_known g c = home_lent _ _ _ _ _ c.self.invariant.0 c.deref_mut.ensures.value (home_read _ _ _ _ c.deref.ensures.value c.home_of-home.ensures)

pub gather_at-requires-clause-room : goal.gather_at-requires-clause-room
gather_at-requires-clause-room g c = way_room _ _ (omega arith) (full _ _ _ _ (ap (λ h. h.has_room) c.self.view_is) c.requires.room c.self.invariant.1)

pub invariant_of-self : goal.invariant_of-self
invariant_of-self g c = (
  updated_sound _ _ _ _ _ _ _ _ _ _ _ _ c.self.view_is (with_items_is c.self.inside.pieces c.gather_at.new.pieces (omega (arith, c.self.inside.pieces.ok))) c.deref_mut.ensures.value c.self.invariant.0
      c.requires.known (home_read _ _ _ _ c.deref.ensures.value c.home_of-home.ensures) c.index-monoid.ensures c.of_update-view.ensures.fits c.gather_at.ensures,
  λ e. absurd (false≢true e),
)

pub returns-clause-follows : goal.returns-clause-follows
returns-clause-follows g c steps l k run =
    updated_lent _ _ _ _ _ _ _ _ _ _ _ _ c.self.view_is (with_items_is c.self.inside.pieces c.gather_at.new.pieces (omega (arith, c.self.inside.pieces.ok))) c.deref_mut.ensures.value c.self.invariant.0
    c.requires.known (home_read _ _ _ _ c.deref.ensures.value c.home_of-home.ensures) c.index-monoid.ensures c.of_update-view.ensures.fits c.gather_at.ensures _ _ c.of_update-view.ensures.view steps l k run
