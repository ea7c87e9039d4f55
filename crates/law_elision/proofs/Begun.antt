-- The functions that dialogues of a sound program spawn are there.
use Rattle.std.proofs.Common.{◌≡◌, ℕ, zero, suc, ◌<◌, inl, inr, List, [], ◌∷◌, length, Some, None, All, subst}
use Rattle.std.specs.Prelude.{slice_get, IsTrue}
use Rattle.std.proofs.lemmas.Bool.{ltb-true}
use Rattle.std.proofs.lemmas.List.Elements.{All-head, All-tail}
use Rattle.law_strands.proofs.Members.{Present, present_append}
use Rattle.model_bodies.specs.declared.statement.Register.{Register}
use Rattle.model_bodies.specs.declared.statement.Statement.{Statement}
use Rattle.model_bodies.specs.declared.statement.Statement.TheVariants.{Let, Read, Write, Bump, Update, Put, Get, Spawn, Call, Sync, ParallelFor, If, Else, End}
use Rattle.model_bodies.specs.Codes.{Code}
use Rattle.model_bodies.specs.Sound.{is_within, IsSound}
use Rattle.model_bodies.specs.Trees.{Tree, Done, Step, Choice, and_then, Around, Read as ReadList, choose, divide, before, read_of, behind, left_of}
use Rattle.model_programs.specs.declared.target.Target.{Target}
use Rattle.model_programs.specs.Values.{Registers}
use Rattle.model_programs.specs.Scripts.{closing, script, numbers, Passes, assigned, first_part, second_part, counted}
use Rattle.model_programs.specs.Answers.{Origin}
use Rattle.model_programs.specs.Exchanges.{Exchange}
use Rattle.model_programs.specs.Dialogue.{Extent, Dialogue}
use Rattle.frame_steps.proofs.Located.{sound_of}

-- the function that a statement spawns is there, where there are so many
abbrev pub SpawnsWithin : ℕ → Statement → Type 0
SpawnsWithin count (Spawn line function argument) = function < count
SpawnsWithin count (ParallelFor line register number function) = function < count
SpawnsWithin count _ = Unit {0}

abbrev pub TreeWithin : ℕ → Tree → Type 0
TreeWithin count Done = Unit {0}
TreeWithin count (Step statement rest) = SpawnsWithin count statement × TreeWithin count rest
TreeWithin count (Choice line register first second rest) = TreeWithin count first × TreeWithin count second × TreeWithin count rest

abbrev AroundWithin : ℕ → List Around → Type 0
AroundWithin count [] = Unit {0}
AroundWithin count (one ∷ more) = TreeWithin count one.second × TreeWithin count one.rest × AroundWithin count more

and_then_within : (count : ℕ) (one two : Tree) → TreeWithin count one → TreeWithin count two → TreeWithin count (and_then one two)
and_then_within count Done two a b = b
and_then_within count (Step statement rest) two a b = (a.0, and_then_within count rest two a.1 b)
and_then_within count (Choice line register first second rest) two a b = (a.0, a.1, and_then_within count rest two a.2 b)

spawns_within : (cells reducers count : ℕ) (statement : Statement) → IsTrue (is_within cells reducers count statement) → SpawnsWithin count statement
spawns_within cells reducers count (Spawn line function argument) w = ltb-true function count w
spawns_within cells reducers count (ParallelFor line register number function) w = ltb-true function count w
spawns_within cells reducers count _ w = tt

choose_within : (count line : ℕ) (register : Register) (first : Tree) (around : List Around) → TreeWithin count first → AroundWithin count around →
    TreeWithin count (choose line register first around).here × AroundWithin count (choose line register first around).around
choose_within count line register first [] a b = ((a, tt, tt), tt)
choose_within count line register first (one ∷ more) a b = ((a, b.0, b.1), b.2)

divide_within : (count : ℕ) (second : Tree) (around : List Around) → TreeWithin count second → AroundWithin count around →
    TreeWithin count (divide second around).here × AroundWithin count (divide second around).around
divide_within count second [] a b = (tt, (a, tt, tt))
divide_within count second (one ∷ more) a b = (tt, (a, b.1, b.2))

before_within : (count : ℕ) (statement : Statement) (list : ReadList) → SpawnsWithin count statement → TreeWithin count list.here → AroundWithin count list.around →
    TreeWithin count (before statement list).here × AroundWithin count (before statement list).around
before_within count (If line register otherwise) list s a b = choose_within count line register list.here list.around a b
before_within count (Else line after) list s a b = divide_within count list.here list.around a b
before_within count (End line) list s a b = (tt, (tt, a, b))
before_within count (Let line register value) list s a b = ((s, a), b)
before_within count (Read line register location) list s a b = ((s, a), b)
before_within count (Write line location value) list s a b = ((s, a), b)
before_within count (Bump line location value) list s a b = ((s, a), b)
before_within count (Update line reducer value) list s a b = ((s, a), b)
before_within count (Put line reducer value) list s a b = ((s, a), b)
before_within count (Get line register reducer) list s a b = ((s, a), b)
before_within count (Spawn line function argument) list s a b = ((s, a), b)
before_within count (Call line function argument) list s a b = ((s, a), b)
before_within count (Sync line) list s a b = ((s, a), b)
before_within count (ParallelFor line register number function) list s a b = ((s, a), b)

read_within : (cells reducers count : ℕ) (body : List Statement) → All (λ statement. IsTrue (is_within cells reducers count statement)) body →
    TreeWithin count (read_of body).here × AroundWithin count (read_of body).around
read_within cells reducers count [] w = (tt, tt)
read_within cells reducers count (statement ∷ body) w =
    let t = read_within cells reducers count body (All-tail (λ one. IsTrue (is_within cells reducers count one)) statement body w) in
    before_within count statement (read_of body)
    (spawns_within cells reducers count statement (All-head (λ one. IsTrue (is_within cells reducers count one)) statement body w)) t.0 t.1

behind_within : (count : ℕ) (around : List Around) → AroundWithin count around → TreeWithin count (behind around)
behind_within count [] a = tt
behind_within count (one ∷ more) a = and_then_within count one.rest (behind more) a.1 (behind_within count more a.2)

numbers_within : (count line : ℕ) (register : Register) (function number remaining : ℕ) (rest : Tree) → function < count → TreeWithin count rest →
    TreeWithin count (numbers line register function number remaining rest)
numbers_within count line register function number zero rest lt w = (tt, w)
numbers_within count line register function number (suc remaining) rest lt w = (tt, (lt, numbers_within count line register function (suc number) remaining rest lt w))

passes_within : (count : ℕ) (rest later : Tree) (registers changed : Registers) → Passes rest registers later changed → TreeWithin count rest → TreeWithin count later
passes_within count rest later registers changed assigned w = w.1
passes_within count rest later registers changed (first_part n) w = and_then_within count _ _ w.0 w.2
passes_within count rest later registers changed (second_part z) w = and_then_within count _ _ w.1 w.2
passes_within count rest later registers changed counted w = numbers_within count _ _ _ 0 _ _ w.0 w.1

module _ (cells reducers : ℕ) (functions : List Code) (sound : IsSound cells reducers functions) where
  pub script_within : (index : ℕ) (code : Code) → slice_get functions index ≡ Some code → TreeWithin (length functions) (script code)
  script_within index code is =
      let s = sound_of cells reducers functions index code sound is in
      let t = read_within cells reducers (length functions) code.body s.within in
      and_then_within (length functions) (left_of code.body) (closing code.end_line)
      (and_then_within (length functions) (read_of code.body).here (behind (read_of code.body).around) t.0 (behind_within (length functions) (read_of code.body).around t.1))
      (tt, tt)

  abbrev HasTarget : Exchange → Type 0
  HasTarget x = (target : Target) → x.target ≡ Some target → target.function < length functions

  no_target : (target : Target) → None ≡ Some target → target.function < length functions
  no_target target e = absurd (cc)

  next_target : (x y : Exchange) (said : List Exchange) → HasTarget x → (Present y said → HasTarget y) → Present y (x ∷ said) → HasTarget y
  next_target x y said h f (inl e) = subst HasTarget e h
  next_target x y said h f (inr p) = f p

  pub targets_within : {origin : Origin} {extent : Extent} (end_line : ℕ) (rest : Tree) (registers : Registers) (said : List Exchange) →
      Dialogue functions origin extent end_line rest registers said → TreeWithin (length functions) rest → (y : Exchange) → Present y said → HasTarget y
  targets_within end_line rest registers said Dialogue.stopped w y p = absurd p
  targets_within end_line rest registers said (Dialogue.passed q d) w y p =
      targets_within end_line _ _ said d (passes_within (length functions) rest _ registers _ q w) y p
  targets_within end_line rest registers said (Dialogue.read {said = more} answer e d) w y p =
      next_target _ y more no_target (λ q. targets_within end_line _ _ more d w.1 y q) p
  targets_within end_line rest registers said (Dialogue.write {said = more} answer e d) w y p =
      next_target _ y more no_target (λ q. targets_within end_line _ _ more d w.1 y q) p
  targets_within end_line rest registers said (Dialogue.bump {said = more} answer e d) w y p =
      next_target _ y more no_target (λ q. targets_within end_line _ _ more d w.1 y q) p
  targets_within end_line rest registers said (Dialogue.update {said = more} answer e d) w y p =
      next_target _ y more no_target (λ q. targets_within end_line _ _ more d w.1 y q) p
  targets_within end_line rest registers said (Dialogue.put {said = more} answer e d) w y p =
      next_target _ y more no_target (λ q. targets_within end_line _ _ more d w.1 y q) p
  targets_within end_line rest registers said (Dialogue.get {said = more} answer e d) w y p =
      next_target _ y more no_target (λ q. targets_within end_line _ _ more d w.1 y q) p
  targets_within end_line rest registers said (Dialogue.spawned {said = more} {function = function} answer e d) w y p =
      next_target _ y more (λ target k. let f : function ≡ target.function = cc in subst (λ n. n < length functions) f w.0)
      (λ q. targets_within end_line _ _ more d w.1 y q) p
  targets_within end_line rest registers said (Dialogue.synced {said = more} answer e d) w y p =
      next_target _ y more no_target (λ q. targets_within end_line _ _ more d w.1 y q) p
  targets_within end_line rest registers said (Dialogue.called {inner = inner} {outer = outer} {said = more} {function = function} {callee = callee} f c d j) w y p =
      next_target _ y more no_target
      (λ q. elim ((present_append inner outer y).0 (subst (Present y) j q)) [
        | inl k ↦ targets_within _ _ _ inner c (script_within function callee f) y k
        | inr k ↦ targets_within end_line _ _ outer d w.1 y k
      ]) p
  targets_within end_line rest registers said (Dialogue.in_call {inner = inner} {function = function} {callee = callee} f c) w y p =
      next_target _ y inner no_target (λ q. targets_within _ _ _ inner c (script_within function callee f) y q) p
  targets_within end_line rest registers said (Dialogue.returned answer a) w y p = next_target _ y [] no_target (λ q. absurd q) p
