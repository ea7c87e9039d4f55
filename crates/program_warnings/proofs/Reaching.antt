-- Functions that are marked as reached.
use Rattle.std.proofs.Common.{◌≡◌, ℕ, zero, suc, ◌+◌, ◌<◌, ◌≤◌, ◌⊎◌, inl, inr, Bool, true, false, List, [], ◌∷◌, ◌++◌, refl, sym, ap, ◌∙◌, subst, arith, length, take, get_or}
use Rattle.std.specs.Prelude.{Option, Some, None, IsTrue, slice_get, slice_set, unwrap_or, replicate, is_some, MatchOption}
use Rattle.std.specs.List.{Contains}
use Rattle.std.proofs.lemmas.Bool.{ltb-true}
use Rattle.std.proofs.lemmas.List.{length-set, length-replicate, take_more}
use Rattle.std.proofs.lemmas.List.Elements.{All-contains, Contains-push_cases}
use Rattle.std.proofs.lemmas.Option.{slice_get_within, get_or_from_slice_get}
use Rattle.model_bodies.specs.declared.statement.Statement.{Statement}
use Rattle.model_bodies.specs.declared.statement.Statement.TheVariants.{Spawn, Call, ParallelFor}
use Rattle.model_bodies.specs.Codes.{Code}
use Rattle.model_bodies.specs.Sound.{is_within, IsSoundBody, IsSound}
use Rattle.program_warnings.specs.Reach.{function_of, BodyBegins, Begins, IsReached, AreReached, is_marked, unmarked_count, IsBodyClosed, IsClosed, IsNext}
use Rattle.program_warnings.specs.Reach.IsReached.{root, onward}

-- ---- marks

-- one more mark
pub marked_one : (marks : List Bool) (number : ℕ) → slice_get marks number ≡ Some false → suc (unmarked_count (slice_set marks number true)) ≡ unmarked_count marks
marked_one [] number is = cc
marked_one (true ∷ marks) zero is = cc
marked_one (false ∷ marks) zero is = refl
marked_one (true ∷ marks) (suc number) is = marked_one marks number is
marked_one (false ∷ marks) (suc number) is = ap suc (marked_one marks number is)

-- the marks behind one more
pub mark_cases : (marks : List Bool) (number other : ℕ) → slice_get (slice_set marks number true) other ≡ Some true →
    (other ≡ number) ⊎ (slice_get marks other ≡ Some true)
mark_cases [] number other is = inr is
mark_cases (mark ∷ marks) zero zero is = inl refl
mark_cases (mark ∷ marks) zero (suc other) is = inr is
mark_cases (mark ∷ marks) (suc number) zero is = inr is
mark_cases (mark ∷ marks) (suc number) (suc other) is = elim (mark_cases marks number other is) [ inl e ↦ inl (ap suc e) | inr e ↦ inr e ]

-- a mark stays
pub mark_stays : (marks : List Bool) (number other : ℕ) → slice_get marks other ≡ Some true → slice_get (slice_set marks number true) other ≡ Some true
mark_stays [] number other is = is
mark_stays (mark ∷ marks) zero zero is = refl
mark_stays (mark ∷ marks) zero (suc other) is = is
mark_stays (mark ∷ marks) (suc number) zero is = is
mark_stays (mark ∷ marks) (suc number) (suc other) is = mark_stays marks number other is

-- the mark is there
pub mark_there : (marks : List Bool) (number : ℕ) → number < length marks → slice_get (slice_set marks number true) number ≡ Some true
mark_there [] number within = absurd (omega arith)
mark_there (mark ∷ marks) zero within = refl
mark_there (mark ∷ marks) (suc number) within = mark_there marks number (omega arith)

-- no number has a mark
pub none_marked : (count number : ℕ) → slice_get (replicate count false) number ≡ Some true → ⊥
none_marked zero number is = cc
none_marked (suc count) zero is = cc
none_marked (suc count) (suc number) is = none_marked count number is

-- ---- what is reached

within_target : (cells reducers functions callee : ℕ) (statement : Statement) → function_of statement ≡ Some callee →
    IsTrue (is_within cells reducers functions statement) → callee < functions
within_target cells reducers functions callee (Spawn line function argument) begins within =
    let e : function ≡ callee = cc in subst (λ n. n < functions) e (ltb-true function functions within)
within_target cells reducers functions callee (Call line function argument) begins within =
    let e : function ≡ callee = cc in subst (λ n. n < functions) e (ltb-true function functions within)
within_target cells reducers functions callee (ParallelFor line register count function) begins within =
    let e : function ≡ callee = cc in subst (λ n. n < functions) e (ltb-true function functions within)
within_target cells reducers functions callee statement begins within = cc

module _ (functions : List Code) (cells reducers : ℕ) (sound : IsSound cells reducers functions) where
  sound_body : (number : ℕ) (code : Code) → slice_get functions number ≡ Some code → IsSoundBody cells reducers (length functions) code.body
  sound_body number code known =
      subst (λ (one : Code). IsSoundBody cells reducers (length functions) one.body) (get_or_from_slice_get functions number code code known)
      (sound number code (slice_get_within functions number code known))

  begun_there : (caller callee : ℕ) → Begins functions caller callee → callee < length functions
  begun_there caller callee begins =
      within_target cells reducers (length functions) callee begins.begins.statement begins.begins.begins
      (All-contains (λ (statement : Statement). IsTrue (is_within cells reducers (length functions) statement)) begins.code.body begins.begins.statement
      (sound_body caller begins.code begins.known).within begins.begins.stands)

  module _ (marks : List Bool) (main : ℕ) (counted : length marks ≡ length functions) (closed : IsClosed functions marks)
      (first : slice_get marks main ≡ Some true) where
    marked_by : (mark : Option Bool) (caller callee : ℕ) → slice_get marks callee ≡ mark → slice_get marks caller ≡ Some true →
        Begins functions caller callee → slice_get marks callee ≡ Some true
    marked_by (Some true) caller callee is before begins = is
    marked_by (Some false) caller callee is before begins = absurd (closed caller callee before begins is)
    marked_by None caller callee is before begins = absurd (got_none marks callee (subst (λ n. callee < n) (sym counted) (begun_there caller callee begins)) is)
      where
        got_none : (all : List Bool) (number : ℕ) → number < length all → slice_get all number ≡ None → ⊥
        got_none [] number within none = omega arith
        got_none (mark ∷ all) zero within none = cc
        got_none (mark ∷ all) (suc number) within none = got_none all number (omega arith) none

    reached_marked : (number : ℕ) → IsReached functions main number → slice_get marks number ≡ Some true
    reached_marked number root = first
    reached_marked number (onward {caller = caller} before begins) = marked_by (slice_get marks number) caller number refl (reached_marked caller before) begins

    of_mark : (mark : Option Bool) → IsTrue (unwrap_or mark false) → mark ≡ Some true
    of_mark None is = cc
    of_mark (Some mark) is = ap Some is

    -- all that is reached is marked
    pub all_reached : ((number : ℕ) → slice_get marks number ≡ Some true → IsReached functions main number) → AreReached functions main (is_marked marks)
    all_reached only number within =
        ((λ is. only number (of_mark (slice_get marks number) is)), (λ reached. ap (λ mark. unwrap_or mark false) (reached_marked number reached)))

-- ---- steps

module _ (functions : List Code) (main : ℕ) where
  -- the invariant of the marks: what has one is reached
  abbrev pub IsSoFar : List Bool → Type 0
  IsSoFar marks =
      (length marks ≡ length functions) × (slice_get marks main ≡ Some true)
      × ((number : ℕ) → slice_get marks number ≡ Some true → IsReached functions main number)

  -- `main` alone has a mark
  pub first_mark : (marks : List Bool) → marks ≡ replicate (length functions) false → main < length functions → IsSoFar (slice_set marks main true)
  first_mark marks are within =
      let counted : length marks ≡ length functions = ap length are ∙ length-replicate (length functions) false in (
        length-set marks main true ∙ counted,
        mark_there marks main (omega arith),
        λ number is. elim (mark_cases marks main number is) [
          | inl e ↦ subst (IsReached functions main) (sym e) root
          | inr old ↦ absurd (none_marked (length functions) number (subst (λ all. slice_get all number ≡ Some true) are old))
        ],
      )

  -- one more has a mark
  pub next_mark : (marks : List Bool) (next : ℕ) → IsSoFar marks → IsNext functions marks next → IsSoFar (slice_set marks next true)
  next_mark marks next before is = (
    length-set marks next true ∙ before.0,
    mark_stays marks next main before.1,
    λ number now. elim (mark_cases marks next number now) [
      | inl e ↦ subst (IsReached functions main) (sym e) (onward (before.2 is.caller is.marked) is.begins)
      | inr old ↦ before.2 number old
    ],
  )

pub closed_at : (found : Option ℕ) (A : Type 0) (B : ℕ → Type 0) → found ≡ None → MatchOption found A B → A
closed_at None A B is closed = closed
closed_at (Some number) A B is closed = cc

pub closed_none : (found : Option ℕ) (A : Type 0) (B : ℕ → Type 0) → is_some found ≡ false → MatchOption found A B → A
closed_none None A B is closed = closed
closed_none (Some number) A B is closed = cc

-- one more statement spawns or calls none without a mark
pub body_more : (body : List Statement) (marks : List Bool) (place : ℕ) (statement : Statement) → place < length body →
    statement ≡ get_or body place statement → IsBodyClosed (take place body) marks →
    ((callee : ℕ) → function_of statement ≡ Some callee → slice_get marks callee ≡ Some false → ⊥) → IsBodyClosed (take (place + 1) body) marks
body_more body marks place statement within is before here callee begins unmarked =
    let e : take (place + 1) body ≡ take place body ++ statement ∷ [] = take_more body place statement within ∙ ap (λ one. take place body ++ one ∷ []) (sym is) in
    elim (Contains-push_cases (take place body) statement begins.statement (subst (λ all. Contains all begins.statement) e begins.stands)) [
      | inl old ↦ before callee (record { statement = begins.statement; stands = old; begins = begins.begins }) unmarked
      | inr same ↦ here callee (ap function_of same ∙ begins.begins) unmarked
    ]

unmarked_here : (marks : List Bool) (number : ℕ) → is_marked marks number ≡ false → slice_get marks number ≡ Some true → ⊥
unmarked_here marks number none some = let e : is_marked marks number ≡ true = ap (λ o. unwrap_or o false) some in cc

module _ (functions : List Code) (marks : List Bool) where
  abbrev pub IsClosedBefore : ℕ → Type 0
  IsClosedBefore number =
      (caller callee : ℕ) → caller < number → slice_get marks caller ≡ Some true → Begins functions caller callee → slice_get marks callee ≡ Some false → ⊥

  last_or_before : (caller number : ℕ) → caller < number + 1 → (caller ≡ number) ⊎ (caller < number)
  last_or_before zero zero less = inl refl
  last_or_before zero (suc number) less = inr (omega arith)
  last_or_before (suc caller) zero less = absurd (omega arith)
  last_or_before (suc caller) (suc number) less =
      elim (last_or_before caller number (omega arith)) [ inl e ↦ inl (ap suc e) | inr l ↦ inr (omega arith) ]

  -- one more function
  pub function_more : (number : ℕ) (code : Code) → slice_get functions number ≡ Some code → IsClosedBefore number →
      (slice_get marks number ≡ Some true → IsBodyClosed code.body marks) → IsClosedBefore (number + 1)
  function_more number code known before here caller callee less marked begins unmarked =
      elim (last_or_before caller number less) [
        | inl e ↦
            let there : slice_get functions number ≡ Some begins.code = ap (slice_get functions) (sym e) ∙ begins.known in
            let same : begins.code ≡ code = cc in
            here (subst (λ n. slice_get marks n ≡ Some true) e marked) callee
            (subst (λ (one : Code). BodyBegins one.body callee) same begins.begins) unmarked
        | inr l ↦ before caller callee l marked begins unmarked
      ]

  -- and one that has no mark
  pub passed_more : (number : ℕ) → IsClosedBefore number → is_marked marks number ≡ false → IsClosedBefore (number + 1)
  passed_more number before none caller callee less marked begins unmarked =
      elim (last_or_before caller number less) [
        | inl e ↦ unmarked_here marks number none (subst (λ n. slice_get marks n ≡ Some true) e marked)
        | inr l ↦ before caller callee l marked begins unmarked
      ]

  pub all_closed : (number : ℕ) → length functions ≤ number → IsClosedBefore number → IsClosed functions marks
  all_closed number all before caller callee marked begins unmarked =
      let within = slice_get_within functions caller begins.code begins.known in
      before caller callee (omega (arith, within)) marked begins unmarked
