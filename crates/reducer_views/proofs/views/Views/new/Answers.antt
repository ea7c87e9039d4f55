use Rattle.std.proofs.Common.{[], false, refl, sym, subst}
use Rattle.std.proofs.lemmas.Bool.{false≢true}
use Rattle.reducer_views.specs.Pieces.{AreKept}
use Rattle.reducer_views.specs.Held.{Holds}
use Rattle.reducer_views.proofs.First.{first_sound, first_holds}
use Rattle.reducer_views.proofs.views.Views.new.Goals as goal

pub invariant_of-result : goal.invariant_of-result
invariant_of-result g c = (subst (AreKept c.in_ok-from_slice.field-0.items) (sym c.in_ok-first_piece.ensures) (first_sound c.in_ok-from_slice.field-0.items), λ e. absurd (false≢true e))

pub returns-clause-monoids : goal.returns-clause-monoids
returns-clause-monoids g c = c.in_ok-from_slice.ensures.items

pub returns-clause-opens : goal.returns-clause-opens
returns-clause-opens g c =
    subst (λ strands. Holds (record { monoids = c.in_ok-from_slice.field-0.items; strands = strands; has_room = false }) []) (sym c.in_ok-first_piece.ensures)
    (first_holds c.in_ok-from_slice.field-0.items)

pub returns-clause-room : goal.returns-clause-room
returns-clause-room g c = refl
