-- Warnings by what is declared.
use Rattle.std.proofs.Common.{◌≡◌, ℕ, ◌+◌, ◌<◌, Bool, List, [], ◌∷◌, ◌++◌, length, refl, sym, subst, ap, ◌∙◌}
use Rattle.std.specs.Prelude.{Option}
use Rattle.std.specs.BTreeMap.{BTreeMap}
use denote.Ref.{Bor}
use Rattle.text_words.specs.declared.value.Mem.{Mem}
use Rattle.text_words.specs.declared.value.Reducer.{Reducer}
use Rattle.model_bodies.specs.Sound.{IsMain}
use Rattle.program_text.specs.Drafts.{Contents}
use Rattle.program_warnings.specs.Reach.{AreReached, is_marked, puts_from}
use Rattle.program_warnings.specs.Declarations.{declared_in, stored_at}
use Rattle.program_warnings.specs.Messages.{AreWarnings}
use Rattle.program_warnings.proofs.Putting.{all_put}
use Rattle.model_bodies.specs.Codes.{Code}
use Rattle.program_warnings.specs.declared.declarations.Declared.{Declared}
use Rattle.program_warnings.specs.declared.warning.Warning.{Warning}
use Rattle.program_warnings.specs.Warnings.{binding_line, register_warning, register_warnings, reach_warnings, body_warnings, warnings_from}

module _ (wraps : ℕ → Option ℕ) (one other : List ℕ → Option Declared) (same : (name : List ℕ) → one name ≡ other name) where
  registers_same : (function : ℕ) (code : Code) (register : ℕ) (names : List (List ℕ)) →
      register_warnings one function code register names ≡ register_warnings other function code register names
  registers_same function code register [] = refl
  registers_same function code register (name ∷ names) =
      ap (λ (declared : Option Declared). register_warning function register declared (binding_line code register) ++ register_warnings one function code (register + 1) names) (same name) ∙
      ap (λ (more : List Warning). register_warning function register (other name) (binding_line code register) ++ more) (registers_same function code (register + 1) names)

  -- the same is declared, so the warnings are the same
  pub warnings_same : (is_reached is_put : ℕ → Bool) (function : ℕ) (functions : List Code) →
      warnings_from one is_reached is_put wraps function functions ≡ warnings_from other is_reached is_put wraps function functions
  warnings_same is_reached is_put function [] = refl
  warnings_same is_reached is_put function (code ∷ codes) =
      ap (λ (here : List Warning). reach_warnings (is_reached function) function code ++ here ++ body_warnings (is_reached function) is_put wraps function code ++
      warnings_from one is_reached is_put wraps (function + 1) codes)
      (registers_same function code 1 code.registers) ∙
      ap (λ (more : List Warning). reach_warnings (is_reached function) function code ++ register_warnings other function code 1 code.registers ++
      body_warnings (is_reached function) is_put wraps function code ++ more)
      (warnings_same is_reached is_put (function + 1) codes)

-- the warnings of a program, by what its parts are
pub all_found : (program : Contents) (wraps : ℕ → Option ℕ) (main : ℕ) (functions : List Code) (mems : List Mem) (reducers : List Reducer)
    (names : BTreeMap (Bor (List ℕ)) Declared) (marks seen judged put written : List Bool) (warnings : List Warning) →
    functions ≡ program.functions → mems ≡ program.known.mems → reducers ≡ program.known.reducers → IsMain program.functions main →
    AreReached functions main (is_marked marks) → seen ≡ marks →
    ((reducer : ℕ) → reducer < length reducers → is_marked put reducer ≡ puts_from (is_marked seen) reducer 0 functions) → judged ≡ marks → written ≡ put →
    ((name : List ℕ) → stored_at names name ≡ declared_in mems reducers name) →
    warnings ≡ warnings_from (stored_at names) (is_marked judged) (is_marked written) wraps 0 functions → AreWarnings program wraps warnings
all_found program wraps main functions mems reducers names marks seen judged put written warnings same_functions same_mems same_reducers first reach same_seen puts same_judged same_written declares are =
    let reached : AreReached program.functions main (is_marked marks) = subst (λ (some : List Code). AreReached some main (is_marked marks)) same_functions reach in
    let put_marks : (reducer : ℕ) → reducer < length program.known.reducers → is_marked put reducer ≡ puts_from (is_marked marks) reducer 0 program.functions =
    λ reducer within. puts reducer (subst (λ (some : List Reducer). reducer < length some) (sym same_reducers) within) ∙
    ap (λ (some : List Bool). puts_from (is_marked some) reducer 0 functions) same_seen ∙
    ap (λ (some : List Code). puts_from (is_marked marks) reducer 0 some) same_functions in
    let declared : (name : List ℕ) → stored_at names name ≡ declared_in program.known.mems program.known.reducers name =
    λ name. declares name ∙ ap (λ (some : List Mem). declared_in some reducers name) same_mems ∙
    ap (λ (some : List Reducer). declared_in program.known.mems some name) same_reducers in
    record {
      main = main;
      is_main = first;
      is_reached = is_marked marks;
      are_reached = reached;
      is_put = is_marked put;
      are_put = all_put program.functions main (length program.known.reducers) marks put reached put_marks;
      warnings_are = are ∙ ap (λ (some : List Bool). warnings_from (stored_at names) (is_marked some) (is_marked written) wraps 0 functions) same_judged ∙
          ap (λ (some : List Bool). warnings_from (stored_at names) (is_marked marks) (is_marked some) wraps 0 functions) same_written ∙
          ap (λ (some : List Code). warnings_from (stored_at names) (is_marked marks) (is_marked put) wraps 0 some) same_functions ∙
          warnings_same wraps (stored_at names) (declared_in program.known.mems program.known.reducers) declared (is_marked marks) (is_marked put) 0 program.functions;
    }
