-- What the frames of a run say, statement by statement.
use Rattle.std.proofs.Common.{◌≡◌, inl, inr, ℕ, zero, suc, List, [], ◌∷◌, Some, refl, sym, ap, ◌∙◌, subst}
use Rattle.std.specs.Prelude.{slice_get, slice_index}
use Rattle.model_accesses.specs.declared.request.Act.{Act}
use Rattle.model_histories.specs.Entries.{Entries}
use Rattle.model_histories.specs.Shapes.{Shape}
use Rattle.model_bodies.specs.declared.statement.Register.{Register}
use Rattle.model_bodies.specs.declared.statement.Statement.{Statement}
use Rattle.model_bodies.specs.Codes.{Code, main_of}
use Rattle.model_bodies.specs.Trees.{Tree, Step, Choice, and_then}
use Rattle.model_programs.specs.declared.target.Target.{Target}
use Rattle.model_programs.specs.Values.{Registers, first_registers}
use Rattle.model_programs.specs.Scripts.{script, first_part, second_part}
use Rattle.model_programs.specs.Answers.{FromSpawn}
use Rattle.model_programs.specs.Exchanges.{Exchange}
use Rattle.model_programs.specs.Dialogue.{Part, Dialogue, passed, DialogueOf}
use Rattle.frame_steps.specs.Requests.{act_of, answered}
use Rattle.frame_steps.specs.Exchanges.{Follows}
use Rattle.frame_steps.proofs.Histories.{dialogue_with}
use Rattle.frame_steps.proofs.Dialogues.{follows_is, answer_stack, stack_only}
use Rattle.model_runs.specs.Frames.{Targets, HasSplit, HasFrame, said_by}
use Rattle.model_runs.specs.Runs.{IsRun}

module _ (functions : List Code) where
  -- a dialogue of a statement that asks goes on with one of the rest
  pub goes_on : (end_line : ℕ) (statement : Statement) (rest : Tree) (registers after : Registers) (x : Exchange) (said : List Exchange) (act : Act) →
      Dialogue functions FromSpawn Part end_line (Step statement rest) registers (x ∷ said) → act_of statement registers ≡ Some act →
      answered statement x.answer registers ≡ Some after →
      Follows FromSpawn (Some statement) end_line registers x × Dialogue functions FromSpawn Part end_line rest after said
  goes_on end_line statement rest registers after x said act d a e =
      let f = stack_only functions end_line (Some statement) rest registers [] act x said a d in (
        f,
        (answer_stack functions end_line statement rest registers after [] x.act x.answer f.act e).on Part said
            (subst (λ z. Dialogue functions FromSpawn Part end_line (Step statement rest) registers (z ∷ said)) (sym (follows_is FromSpawn statement end_line registers x f)) d),
      )

  -- a dialogue of an `if` whose register holds 0 goes on with one of its second part
  pub second_only : (end_line line : ℕ) (register : Register) (first second rest : Tree) (registers : Registers) (x : Exchange) (said : List Exchange) →
      Dialogue functions FromSpawn Part end_line (Choice line register first second rest) registers (x ∷ said) → slice_index registers register.index ≡ 0 →
      Dialogue functions FromSpawn Part end_line (and_then second rest) registers (x ∷ said)
  second_only end_line line register first second rest registers x said (passed (first_part held) d) e = absurd (held e)
  second_only end_line line register first second rest registers x said (passed (second_part held) d) e = d

  -- the root frame is of `main`, the first function, with argument 0
  pub root_says : (shape : Shape) (entries : Entries) (run : IsRun functions shape entries) → main_of functions ≡ Some 0 →
      (code : Code) → slice_get functions 0 ≡ Some code → Dialogue functions FromSpawn Part code.end_line (script code) (first_registers 0) (said_by run.targets entries 0)
  root_says shape entries run is code there =
      let place : Some 0 ≡ Some run.main = sym is ∙ run.is_main in
      let zero_is : run.main ≡ 0 = cc in
      let target : run.targets 0 ≡ record { function = 0; argument = 0 } =
      run.run.root ∙ ap (λ (m : ℕ). let made : Target = record { function = m; argument = 0 } in made) zero_is in
      dialogue_with functions 0 0 Part (said_by run.targets entries 0)
      (subst (λ (t : Target). DialogueOf functions t.function t.argument Part (said_by run.targets entries 0)) target (run.run.says 0 (inl refl))) code there

-- what holds of both frames holds of each
pub two_frames : (P : ℕ → Type 0) → P 0 → P 1 → (entries : Entries) → ((frame : ℕ) → HasSplit entries frame → frame ≡ 1) →
    (frame : ℕ) → HasFrame entries frame → P frame
two_frames P at_root at_child entries one frame (inl e) = subst P (sym e) at_root
two_frames P at_root at_child entries one frame (inr s) = subst P (sym (one frame s)) at_child

-- `main`, and the child with 7
abbrev pub child_targets : Targets
child_targets zero = record { function = 0; argument = 0 }
child_targets (suc frame) = record { function = 1; argument = 7 }
