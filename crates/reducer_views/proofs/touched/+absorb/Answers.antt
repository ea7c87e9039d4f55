use Rattle.std.proofs.Common.{refl}
use Rattle.reducer_views.proofs.Slots.{absorbed}
use Rattle.reducer_views.proofs.touched.+absorb.Goals as goal

pub returns : goal.returns
returns g t c =
    absorbed _ _ _ _ _ _ _ _ _ _ _ _ _ _ _ _ _ c.in-Some-slots.is c.in-Some.is c.deref_mut-slot.ensures.value c.deref_mut-other.ensures.value c.deref_mut-slot.ensures.value
    c.joined-slot.ensures refl c.deref_mut-other.ensures.value refl c.absorb.ensures refl refl refl c.absorb-2.ensures
