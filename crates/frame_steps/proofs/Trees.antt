-- What is left of a body behind each kind of statement.
use Rattle.std.proofs.Common.{◌≡◌, ℕ, zero, suc, ◌⊎◌, inl, inr, List, [], ◌∷◌, refl, sym, ap, ◌∙◌, subst, drop}
use Rattle.std.specs.Prelude.{IsTrue}
use Rattle.model_bodies.specs.declared.statement.Register.{Register}
use Rattle.model_bodies.specs.declared.statement.Statement.{Statement}
use Rattle.model_bodies.specs.declared.statement.Statement.TheVariants.{Let, Read, Write, Bump, Update, Put, Get, Spawn, Call, Sync, ParallelFor, If, Else, End}
use Rattle.model_bodies.specs.Bodies.{behind_part}
use Rattle.model_bodies.specs.Trees.{Tree, Done, Step, Choice, and_then, Around, choose, divide, read_of, behind, left_of}
use Rattle.frame_steps.specs.Activations.{is_plain}

pub and_then_assoc : (one two three : Tree) → and_then (and_then one two) three ≡ and_then one (and_then two three)
and_then_assoc Done two three = refl
and_then_assoc (Step statement rest) two three = ap (λ t. Step statement t) (and_then_assoc rest two three)
and_then_assoc (Choice line register first second rest) two three = ap (λ t. Choice line register first second t) (and_then_assoc rest two three)

-- a statement that is no `if`, `else` or `end`
pub plain_left : (statement : Statement) (rest : List Statement) → IsTrue (is_plain statement) → left_of (statement ∷ rest) ≡ Step statement (left_of rest)
plain_left (Let line register value) rest p = refl
plain_left (Read line register location) rest p = refl
plain_left (Write line location value) rest p = refl
plain_left (Bump line location value) rest p = refl
plain_left (Update line reducer value) rest p = refl
plain_left (Put line reducer value) rest p = refl
plain_left (Get line register reducer) rest p = refl
plain_left (Spawn line function argument) rest p = refl
plain_left (Call line function argument) rest p = refl
plain_left (Sync line) rest p = refl
plain_left (ParallelFor line register count function) rest p = refl
plain_left (If line register otherwise) rest p = cc
plain_left (Else line after) rest p = cc
plain_left (End line) rest p = cc

-- an `end`
pub end_left : (line : ℕ) (rest : List Statement) → left_of (End line ∷ rest) ≡ left_of rest
end_left line rest = refl

-- what follows the part so many levels out: its second part, and what follows its `if`
abbrev second_of : ℕ → List Around → Tree
second_of depth [] = Done
second_of zero (one ∷ more) = and_then one.second (and_then one.rest (behind more))
second_of (suc depth) (one ∷ more) = second_of depth more

-- what follows the `if` so many levels out
abbrev outer_of : ℕ → List Around → Tree
outer_of depth [] = Done
outer_of zero (one ∷ more) = and_then one.rest (behind more)
outer_of (suc depth) (one ∷ more) = outer_of depth more

chosen_second : (depth line : ℕ) (register : Register) (first : Tree) (around : List Around) → second_of (suc depth) around ≡ second_of depth (choose line register first around).around
chosen_second depth line register first [] = refl
chosen_second depth line register first (one ∷ more) = refl

chosen_outer : (depth line : ℕ) (register : Register) (first : Tree) (around : List Around) → outer_of (suc depth) around ≡ outer_of depth (choose line register first around).around
chosen_outer depth line register first [] = refl
chosen_outer depth line register first (one ∷ more) = refl

divided_second : (depth : ℕ) (second : Tree) (around : List Around) → second_of (suc depth) around ≡ second_of (suc depth) (divide second around).around
divided_second depth second [] = refl
divided_second depth second (one ∷ more) = refl

divided_outer : (depth : ℕ) (second : Tree) (around : List Around) → outer_of (suc depth) around ≡ outer_of (suc depth) (divide second around).around
divided_outer depth second [] = refl
divided_outer depth second (one ∷ more) = refl

divided_here : (second : Tree) (around : List Around) → and_then second (behind around) ≡ second_of zero (divide second around).around
divided_here second [] = refl
divided_here second (one ∷ more) = refl

-- an `else` leaves what follows its `if`
else_left : (line after : ℕ) (rest : List Statement) → left_of (Else line after ∷ rest) ≡ outer_of zero (divide (read_of rest).here (read_of rest).around).around
else_left line after rest = by (read_of rest).here (read_of rest).around
  where
    by : (second : Tree) (around : List Around) → and_then (divide second around).here (behind (divide second around).around) ≡ outer_of zero (divide second around).around
    by second [] = refl
    by second (one ∷ more) = refl

outer_kept : (second : Tree) (around : List Around) → outer_of zero around ≡ outer_of zero (divide second around).around
outer_kept second [] = refl
outer_kept second (one ∷ more) = refl

-- what is left behind a part
pub behind_left : (depth : ℕ) (statements : List Statement) → left_of (behind_part depth statements) ≡ second_of depth (read_of statements).around
behind_left depth [] = refl
behind_left depth (If line register otherwise ∷ rest) = behind_left (suc depth) rest ∙ chosen_second depth line register (read_of rest).here (read_of rest).around
behind_left zero (Else line after ∷ rest) = divided_here (read_of rest).here (read_of rest).around
behind_left (suc depth) (Else line after ∷ rest) = behind_left (suc depth) rest ∙ divided_second depth (read_of rest).here (read_of rest).around
behind_left zero (End line ∷ rest) = refl
behind_left (suc depth) (End line ∷ rest) = behind_left depth rest
behind_left depth (Let line register value ∷ rest) = behind_left depth rest
behind_left depth (Read line register location ∷ rest) = behind_left depth rest
behind_left depth (Write line location value ∷ rest) = behind_left depth rest
behind_left depth (Bump line location value ∷ rest) = behind_left depth rest
behind_left depth (Update line reducer value ∷ rest) = behind_left depth rest
behind_left depth (Put line reducer value ∷ rest) = behind_left depth rest
behind_left depth (Get line register reducer ∷ rest) = behind_left depth rest
behind_left depth (Spawn line function argument ∷ rest) = behind_left depth rest
behind_left depth (Call line function argument ∷ rest) = behind_left depth rest
behind_left depth (Sync line ∷ rest) = behind_left depth rest
behind_left depth (ParallelFor line register count function ∷ rest) = behind_left depth rest

-- an `if` is a choice: its first part stands behind it, and its second behind that part
pub record Chosen (line : ℕ) (register : Register) (otherwise : ℕ) (rest : List Statement) : Type 0 where
  pub first : Tree
  pub second : Tree
  pub later : Tree
  pub whole : left_of (If line register otherwise ∷ rest) ≡ Choice line register first second later
  pub here : left_of rest ≡ and_then first later
  pub there : left_of (behind_part 0 rest) ≡ and_then second later

pub if_left : (line : ℕ) (register : Register) (otherwise : ℕ) (rest : List Statement) → Chosen line register otherwise rest
if_left line register otherwise rest =
    let b = by (read_of rest).here (read_of rest).around in
    record { first = (read_of rest).here; second = b.0; later = b.1; whole = b.2; here = b.3; there = behind_left zero rest ∙ b.4 }
  where
    by : (first : Tree) (around : List Around) → (second : Tree) × (later : Tree) × (and_then (choose line register first around).here (behind (choose line register first around).around) ≡ Choice line register first second later) × (and_then first (behind around) ≡ and_then first later) × (second_of zero around ≡ and_then second later)
    by first [] = (Done, Done, refl, refl, refl)
    by first (one ∷ more) = (one.second, and_then one.rest (behind more), refl, refl, refl)

-- the line that closes a part: where it is an `end`, what follows the `if` is left behind it
abbrev pub Closes : Statement → List Statement → Tree → Type 0
Closes (End line) later outer = left_of later ≡ outer
Closes statement later outer = Unit {0}

-- a part is closed by a line behind which the others stand, or nothing closes it and nothing follows
pub record Closed (statements later : List Statement) (outer : Tree) : Type 0 where
  pub place : ℕ
  pub closing : Statement
  pub at : drop place statements ≡ closing ∷ later
  pub closes : Closes closing later outer

one_more : (statement : Statement) (statements later : List Statement) (outer outer' : Tree) → outer ≡ outer' → Closed statements later outer ⊎ ((later ≡ []) × (outer ≡ Done)) → Closed (statement ∷ statements) later outer' ⊎ ((later ≡ []) × (outer' ≡ Done))
one_more statement statements later outer outer' e (inl c) = inl (record { place = suc c.place; closing = c.closing; at = c.at; closes = subst (λ t. Closes c.closing later t) e c.closes })
one_more statement statements later outer outer' e (inr d) = inr (d.0, sym e ∙ d.1)

closed_part : (depth : ℕ) (statements : List Statement) → Closed statements (behind_part depth statements) (outer_of depth (read_of statements).around) ⊎ ((behind_part depth statements ≡ []) × (outer_of depth (read_of statements).around ≡ Done))
closed_part depth [] = inr (refl, refl)
closed_part depth (If line register otherwise ∷ rest) = one_more _ rest _ _ _ (chosen_outer depth line register (read_of rest).here (read_of rest).around) (closed_part (suc depth) rest)
closed_part zero (Else line after ∷ rest) = inl (record { place = 0; closing = Else line after; at = refl; closes = tt })
closed_part (suc depth) (Else line after ∷ rest) = one_more _ rest _ _ _ (divided_outer depth (read_of rest).here (read_of rest).around) (closed_part (suc depth) rest)
closed_part zero (End line ∷ rest) = inl (record { place = 0; closing = End line; at = refl; closes = refl })
closed_part (suc depth) (End line ∷ rest) = one_more _ rest _ _ _ refl (closed_part depth rest)
closed_part depth (Let line register value ∷ rest) = one_more _ rest _ _ _ refl (closed_part depth rest)
closed_part depth (Read line register location ∷ rest) = one_more _ rest _ _ _ refl (closed_part depth rest)
closed_part depth (Write line location value ∷ rest) = one_more _ rest _ _ _ refl (closed_part depth rest)
closed_part depth (Bump line location value ∷ rest) = one_more _ rest _ _ _ refl (closed_part depth rest)
closed_part depth (Update line reducer value ∷ rest) = one_more _ rest _ _ _ refl (closed_part depth rest)
closed_part depth (Put line reducer value ∷ rest) = one_more _ rest _ _ _ refl (closed_part depth rest)
closed_part depth (Get line register reducer ∷ rest) = one_more _ rest _ _ _ refl (closed_part depth rest)
closed_part depth (Spawn line function argument ∷ rest) = one_more _ rest _ _ _ refl (closed_part depth rest)
closed_part depth (Call line function argument ∷ rest) = one_more _ rest _ _ _ refl (closed_part depth rest)
closed_part depth (Sync line ∷ rest) = one_more _ rest _ _ _ refl (closed_part depth rest)
closed_part depth (ParallelFor line register count function ∷ rest) = one_more _ rest _ _ _ refl (closed_part depth rest)

-- the part behind an `else`, and what is left at it
pub else_closed : (line after : ℕ) (rest : List Statement) → Closed rest (behind_part 0 rest) (left_of (Else line after ∷ rest)) ⊎ ((behind_part 0 rest ≡ []) × (left_of (Else line after ∷ rest) ≡ Done))
else_closed line after rest =
    let e : outer_of zero (read_of rest).around ≡ left_of (Else line after ∷ rest) = outer_kept (read_of rest).here (read_of rest).around ∙ sym (else_left line after rest) in
    elim (closed_part zero rest) [
      | inl c ↦ inl (record { place = c.place; closing = c.closing; at = c.at; closes = subst (λ t. Closes c.closing (behind_part 0 rest) t) e c.closes })
      | inr d ↦ inr (d.0, sym e ∙ d.1)
    ]
