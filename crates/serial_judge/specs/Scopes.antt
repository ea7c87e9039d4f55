-- What a judge keeps of the functions that a run is in.
use Rattle.std.specs.Prelude.{◌≡◌, ◌≤◌, ◌<◌, ℕ, suc, Bool, ◌||◌, leb, List, [], ◌∷◌, length, take, Option, Some, None, IsSome}
use Rattle.model_strands.specs.Address.{Address}
use Rattle.law_addresses.specs.Address.{parallel}
use Rattle.law_strands.specs.Branches.{Branch}
use Rattle.model_serial_runs.specs.Accesses.{Access}
use Rattle.serial_judge.specs.declared.scope.Scope.{Scope}
use Rattle.serial_judge.specs.declared.scope.Spawn.{Spawn}
use Rattle.serial_judge.specs.declared.spans.Span.{Span}
use Rattle.law_serial_runs.specs.Frames.{Entry, at_root, by_call, by_spawn, Frame}
use Rattle.serial_judge.specs.Branches.{number_of}
use Rattle.serial_judge.specs.Spans.{is_held, IsAscending}
use Rattle.serial_judge.specs.Numbers.{numbered}

-- what is looked at of a run: the addresses and the branches of its strands, the least unused number, and the records
pub record Sight : Type 0 where
  pub address : ℕ → Address
  pub branch : ℕ → Branch
  pub unused : ℕ
  pub records : List Access

-- the records of strands that are parallel to this one are those whose numbers pass the test
abbrev pub AreParallel : Sight → ℕ → (ℕ → Bool) → Type 0
AreParallel sight strand test =
    (number : ℕ) (access : Access) → numbered sight.records number ≡ Some access →
    parallel (sight.address access.strand) (sight.address strand) ≡ test number

-- the branch of a strand in a function, where its block is open or not
abbrev pub running_branch : Option ℕ → ℕ → ℕ
running_branch (Some branch) of_function = branch
running_branch None of_function = of_function

-- the function round the innermost one
abbrev pub OfOuter : List Scope → (Scope → Type 0) → Type 0
OfOuter [] Property = ⊥
OfOuter (scope ∷ scopes) Property = Property scope

-- A spawned function
pub record IsSpawned (sight : Sight) (spans : List Span) (scope : Scope) (spawn : Spawn) (next : ℕ) (outer : List Scope) : Type 0 where
  pub below : next < sight.unused
  -- where it returns, what is parallel behind its spawn is what was before, and what comes from the spawn on
  pub parallel : AreParallel sight next (λ number. is_held (take scope.spans spans) number || leb spawn.begin number)
  pub ascending : IsAscending 1 (take scope.spans spans) spawn.begin
  pub begin : spawn.begin ≤ suc (length sight.records)
  pub branch : OfOuter outer (λ around. IsSome around.block × (running_branch around.block around.branch ≡ number_of (sight.branch next)))

abbrev pub IsEntered : Sight → List Span → Scope → Option Spawn → Entry → List Scope → Type 0
IsEntered sight spans scope None at_root outer = outer ≡ []
IsEntered sight spans scope None by_call outer = OfOuter outer (λ around. scope.branch ≡ running_branch around.block around.branch)
IsEntered sight spans scope (Some spawn) (by_spawn next) outer = IsSpawned sight spans scope spawn next outer
IsEntered sight spans scope spawn entry outer = ⊥

-- an open block
pub record IsOpen (sight : Sight) (spans : List Span) (scope : Scope) (join : ℕ) : Type 0 where
  pub below : join < sight.unused
  -- behind its end, what is parallel is what was at the entry of the function
  pub parallel : AreParallel sight join (is_held (take scope.spans spans))
  pub branch : scope.branch ≡ number_of (sight.branch join)

abbrev pub IsBlock : Sight → List Span → Scope → Option ℕ → Option ℕ → Type 0
IsBlock sight spans scope None None = Unit {0}
IsBlock sight spans scope (Some branch) (Some join) = IsOpen sight spans scope join
IsBlock sight spans scope branch join = ⊥

-- the scopes are those of the functions
abbrev pub AreScopes : Sight → List Span → List Scope → List Frame → Type 0
AreScopes sight spans [] [] = Unit {0}
AreScopes sight spans (scope ∷ scopes) (frame ∷ frames) =
    IsBlock sight spans scope scope.block frame.block × IsEntered sight spans scope scope.spawn frame.entry scopes ×
    AreScopes sight spans scopes frames
AreScopes sight spans scopes frames = ⊥

-- as many spans as there are now, there were not fewer at the entry of a function round another, and just as many where it had no open block
abbrev pub AreNested : ℕ → List Scope → Type 0
AreNested count [] = Unit {0}
AreNested count (scope ∷ scopes) = (scope.spans ≤ count) × (scope.block ≡ None → scope.spans ≡ count) × AreNested scope.spans scopes

-- the running strand's branch has this number
abbrev pub IsBranch : ℕ → List Scope → Type 0
IsBranch number [] = ⊥
IsBranch number (scope ∷ scopes) = running_branch scope.block scope.branch ≡ number

-- the innermost function has no open block
abbrev pub IsClosed : List Scope → Type 0
IsClosed [] = ⊥
IsClosed (scope ∷ scopes) = scope.block ≡ None
