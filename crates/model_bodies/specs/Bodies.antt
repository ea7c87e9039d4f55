-- Where the parts of an `if` end.
use Rattle.std.specs.Prelude.{◌≡◌, ℕ, zero, suc, ◌+◌, ◌-◌, ◌<◌, ◌≤◌, Bool, true, false, IsTrue}
use Rattle.std.specs.Prelude.{List, [], ◌∷◌, Option, Some, None, length, drop, slice_get}
use Rattle.model_bodies.specs.declared.statement.Statement.{Statement}
use Rattle.model_bodies.specs.declared.statement.Statement.TheVariants.{If, Else, End}

-- The statements behind the `else` or `end` that closes the part in which these statements stand; depth counts the parts that were opened
-- since.
abbrev pub behind_part : (depth : ℕ) → List Statement → List Statement
behind_part depth [] = []
behind_part depth (If _ _ _ ∷ rest) = behind_part (suc depth) rest
behind_part zero (Else _ _ ∷ rest) = rest
behind_part zero (End _ ∷ rest) = rest
behind_part (suc depth) (End _ ∷ rest) = behind_part depth rest
behind_part depth (_ ∷ rest) = behind_part depth rest

-- A place lies behind another, and what stands there is what is behind the part that begins at the other.
abbrev pub EndsAt : List Statement → ℕ → ℕ → Type 0
EndsAt body place to = (place < to) × (to ≤ length body) × (drop to body ≡ behind_part 0 (drop (place + 1) body))

-- The place that an `if` or an `else` names.
abbrev pub part_end : Option Statement → Option ℕ
part_end (Some (If line register otherwise)) = Some otherwise
part_end (Some (Else line after)) = Some after
part_end _ = None

-- Each `if` and `else` knows where the part behind it ends.
abbrev pub IsLinked : List Statement → Type 0
IsLinked body = (place to : ℕ) → part_end (slice_get body place) ≡ Some to → EndsAt body place to

-- Whether an `end` stands there.
abbrev pub is_end : Option Statement → Bool
is_end (Some (End line)) = true
is_end _ = false

-- An `end` stands right before the place that an `else` names. In a linked body it closes the part behind the `else`, so no `if` has a
-- second `else`.
abbrev pub IsDivided : List Statement → Type 0
IsDivided body = (place line after : ℕ) → slice_get body place ≡ Some (Else line after) → IsTrue (is_end (slice_get body (after - 1)))

-- How many parts are open behind these statements, where so many are before them; None where an `else` or an `end` has no part to close.
abbrev pub open_behind : (open_parts : ℕ) → List Statement → Option ℕ
open_behind open_parts [] = Some open_parts
open_behind open_parts (If _ _ _ ∷ rest) = open_behind (suc open_parts) rest
open_behind zero (Else _ _ ∷ rest) = None
open_behind zero (End _ ∷ rest) = None
open_behind (suc open_parts) (End _ ∷ rest) = open_behind open_parts rest
open_behind open_parts (_ ∷ rest) = open_behind open_parts rest

-- Each `if` has its `end`, and each `else` and `end` its `if`.
abbrev pub IsBalanced : List Statement → Type 0
IsBalanced body = open_behind 0 body ≡ Some 0
