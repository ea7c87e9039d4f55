-- What is kept at first.
use Rattle.std.proofs.Common.{◌≡◌, ℕ, zero, suc, [], List, false, refl, arith}
use Rattle.model_reducers.specs.declared.monoid.Monoid.{Monoid}
use Rattle.reducer_views.specs.Pieces.{first_kept, kept_at, AreKept}
use Rattle.reducer_views.specs.Held.{Holds}

first_at : (strand : ℕ) → kept_at first_kept strand ≡ record { home = 0; later = 0; touches = [] }
first_at zero = refl
first_at (suc strand) = refl

pub first_sound : (monoids : List Monoid) → AreKept monoids first_kept
first_sound monoids = record {
  homes = λ strand. rw (first_at strand) (omega arith);
  laters = λ strand. rw (first_at strand) (omega arith);
  behind_home = λ strand some. absurd (let none = rw (first_at strand) at some in omega arith);
  rising = λ strand some more. absurd (let none = rw (first_at strand) at some in omega arith);
  touched = λ strand reducer. rw (first_at strand) tt;
}

pub first_holds : (monoids : List Monoid) → Holds (record { monoids = monoids; strands = first_kept; has_room = false }) []
first_holds monoids = record {
  count = refl;
  homes = λ strand below. rw (first_at strand) refl;
  laters = λ strand below. rw (first_at strand) refl;
  views = λ strand current reducer. refl;
}
