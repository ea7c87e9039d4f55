-- A program is evaluated in one way.
use Rattle.std.proofs.Common.{◌≡◌, ℕ, List, ◌∷◌, ◌++◌, Some, refl, sym, ap, ap₂, ◌∙◌, subst}
use Rattle.std.specs.Prelude.{slice_get}
use Rattle.model_accesses.specs.declared.request.Act.{Act}
use Rattle.model_reducers.specs.declared.monoid.Monoid.{Monoid}
use Rattle.model_bodies.specs.Codes.{Code}
use Rattle.model_bodies.specs.Trees.{Tree}
use Rattle.model_programs.specs.Values.{Registers, first_registers, value_of}
use Rattle.model_programs.specs.Scripts.{script}
use Rattle.model_programs.specs.Evaluation.{Effect, effect, Store, Evaluates, let_evaluated, read_evaluated, write_evaluated, bump_evaluated, update_evaluated, put_evaluated, get_evaluated, spawn_evaluated, call_evaluated, sync_evaluated, first_evaluated, second_evaluated, pfor_evaluated, return_evaluated}
use Rattle.model_programs.specs.Elisions.{HasMain, EvaluatesProgram}
use Rattle.law_elision.specs.Laws.{OneEvaluationLaw, OneElisionLaw, EvaluatedLaw}

code_same : {one other : Code} → Some one ≡ Some other → one ≡ other
code_same e = cc

index_same : {one other : ℕ} → Some one ≡ Some other → one ≡ other
index_same e = cc

module _ (functions : List Code) (monoids : List Monoid) where
  abbrev AreSame : (effects others : List Effect) (last other_last : Store) → Type 0
  AreSame effects others last other_last = (others ≡ effects) × (other_last ≡ last)

  one_more : (did : Effect) (effects others : List Effect) (last other_last : Store) → AreSame effects others last other_last → AreSame (did ∷ effects) (did ∷ others) last other_last
  one_more did effects others last other_last same = (ap (λ l. did ∷ l) same.0, same.1)

  pub one_evaluation : {end_line : ℕ} {rest : Tree} {registers : Registers} {store last other_last : Store} {effects others : List Effect} →
      Evaluates functions monoids end_line rest registers store effects last → Evaluates functions monoids end_line rest registers store others other_last →
      AreSame effects others last other_last
  one_evaluation (let_evaluated d) (let_evaluated e) = one_evaluation d e
  one_evaluation (read_evaluated d) (read_evaluated e) = one_more _ _ _ _ _ (one_evaluation d e)
  one_evaluation (write_evaluated d) (write_evaluated e) = one_more _ _ _ _ _ (one_evaluation d e)
  one_evaluation (bump_evaluated d) (bump_evaluated e) = one_more _ _ _ _ _ (one_evaluation d e)
  one_evaluation (update_evaluated d) (update_evaluated e) = one_more _ _ _ _ _ (one_evaluation d e)
  one_evaluation (put_evaluated d) (put_evaluated e) = one_more _ _ _ _ _ (one_evaluation d e)
  one_evaluation (get_evaluated d) (get_evaluated e) = one_more _ _ _ _ _ (one_evaluation d e)
  one_evaluation (sync_evaluated d) (sync_evaluated e) = one_more _ _ _ _ _ (one_evaluation d e)
  one_evaluation (first_evaluated i d) (first_evaluated j e) = one_evaluation d e
  one_evaluation (first_evaluated i d) (second_evaluated j e) = absurd (i j)
  one_evaluation (second_evaluated i d) (first_evaluated j e) = absurd (j i)
  one_evaluation (second_evaluated i d) (second_evaluated j e) = one_evaluation d e
  one_evaluation (pfor_evaluated d) (pfor_evaluated e) = one_evaluation d e
  one_evaluation return_evaluated return_evaluated = (refl, refl)
  one_evaluation (spawn_evaluated {end_line = end_line} {rest = rest} {registers = registers} {store = store} {last = last} {line = line} {argument = argument} {callee = callee} i d g s) (spawn_evaluated {between = between} {last = other_last} {inner = other_inner} {outer = other_outer} j e k t) =
      let here = one_evaluation d (subst (λ (c : Code). Evaluates functions monoids c.end_line (script c) (first_registers (value_of argument registers)) store other_inner between) (code_same (sym j ∙ i)) e) in
      let behind = one_evaluation g (subst (λ z. Evaluates functions monoids end_line rest registers z other_outer other_last) here.1 k) in
      one_more (effect Act.Spawn line) _ _ last other_last (t ∙ ap₂ (λ l m. l ++ m) here.0 behind.0 ∙ sym s, behind.1)
  one_evaluation (call_evaluated {end_line = end_line} {rest = rest} {registers = registers} {store = store} {last = last} {line = line} {argument = argument} {callee = callee} i d g s) (call_evaluated {between = between} {last = other_last} {inner = other_inner} {outer = other_outer} j e k t) =
      let here = one_evaluation d (subst (λ (c : Code). Evaluates functions monoids c.end_line (script c) (first_registers (value_of argument registers)) store other_inner between) (code_same (sym j ∙ i)) e) in
      let behind = one_evaluation g (subst (λ z. Evaluates functions monoids end_line rest registers z other_outer other_last) here.1 k) in
      one_more (effect Act.Call line) _ _ last other_last (t ∙ ap₂ (λ l m. l ++ m) here.0 behind.0 ∙ sym s, behind.1)

pub one_evaluation_law : OneEvaluationLaw
one_evaluation_law functions monoids end_line rest registers store effects others last other_last d e = one_evaluation functions monoids d e

-- a program has one `main`
pub one_main : (functions : List Code) (one other : Code) → HasMain functions one → HasMain functions other → one ≡ other
one_main functions one other (i, is, at) (j, other_is, other_at) = code_same (sym at ∙ ap (slice_get functions) (index_same (sym is ∙ other_is)) ∙ other_at)

pub one_elision_law : OneElisionLaw
one_elision_law functions monoids cells main other_main is other_is effects others last other_last d e =
    let same = one_main functions other_main main other_is is in
    let t = one_evaluation functions monoids d (subst (λ z. EvaluatesProgram functions monoids cells z others other_last) same e) in
    (same, t.0, t.1)

pub evaluated_law : EvaluatedLaw
evaluated_law functions monoids cells main is effects last d = record {
  main = main;
  is_main = is;
  effects = effects;
  views = last.views;
  evaluates = d;
  count = refl;
  only = λ others other_last e. one_evaluation functions monoids d e;
}
