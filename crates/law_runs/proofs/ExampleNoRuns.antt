-- Judged histories that are no runs.
use Rattle.std.proofs.Common.{◌≡◌, inl, inr, ℕ, ◌<◌, List, [], Some, refl, subst, arith}
use Rattle.model_accesses.specs.declared.request.Act.{Act}
use Rattle.model_strands.specs.Updated.{updated}
use Rattle.model_bodies.specs.declared.statement.Statement.TheVariants as stated
use Rattle.model_bodies.specs.declared.statement.Operand.TheVariants.{Number, Held}
use Rattle.model_bodies.specs.declared.statement.Location.TheVariants.{Cell}
use Rattle.model_bodies.specs.Codes.{Code}
use Rattle.model_bodies.specs.Trees.{Done}
use Rattle.model_programs.specs.declared.target.Target.{Target}
use Rattle.model_programs.specs.Values.{first_registers}
use Rattle.model_programs.specs.Dialogue.{Part, DialogueOf}
use Rattle.frame_steps.proofs.Histories.{dialogue_with}
use Rattle.frame_steps.proofs.Dialogues.{stack_only}
use Rattle.model_runs.specs.Frames.{said_by}
use Rattle.model_runs.specs.Runs.{IsRun}
use Rattle.law_runs.specs.Examples.{two_cells, child_wrote, pair, other_cell, series, never_synced, choosing, chosen, ok, parameter, named}
use Rattle.law_runs.proofs.ExampleDialogues.{goes_on, second_only, root_says}

module _ (ok_there : 0 < 17) (parameter_there : 1 < 17) (named_there : 2 < 17) where
  abbrev pairing : List Code
  pairing = pair ok_there parameter_there named_there

  abbrev serial : List Code
  serial = series ok_there parameter_there named_there

  abbrev chooser : List Code
  chooser = choosing ok_there parameter_there named_there

  pub other_cell_no_run : IsRun pairing two_cells other_cell → ⊥
  unfolding updated
  other_cell_no_run run =
      let d = root_says pairing two_cells other_cell run refl _ refl in
      let on = goes_on pairing 7 (stated.Spawn 5 1 (Number 7)) _ (first_registers 0) _ _ _ Act.Spawn d refl refl in
      let f = stack_only pairing 7 (Some (stated.Read 6 (named ok_there parameter_there named_there) (Cell 0))) _ (first_registers 0) [] (Act.Read 0) _ _ refl on.1 in
      let clash : Some (Act.Read 0) ≡ Some (Act.Read 1) = f.act in
      let place : ◌≡◌ {A = ℕ} 0 1 = cc in
      absurd (omega (arith, place))

  pub other_value_no_run : IsRun pairing two_cells (child_wrote 8 9) → ⊥
  unfolding updated
  other_value_no_run run =
      let d = root_says pairing two_cells (child_wrote 8 9) run refl _ refl in
      let on = goes_on pairing 7 (stated.Spawn 5 1 (Number 7)) _ (first_registers 0) _ _ _ Act.Spawn d refl refl in
      let target : Some (record { function = 1; argument = 7 }) ≡ Some (run.targets 1) = on.0.target in
      let is : run.targets 1 ≡ record { function = 1; argument = 7 } = cc in
      let child = dialogue_with pairing 1 7 Part (said_by run.targets (child_wrote 8 9) 1) (subst (λ (t : Target). DialogueOf pairing t.function t.argument Part (said_by run.targets (child_wrote 8 9) 1)) is (run.run.says 1 (inr (inr (inl (refl, tt)))))) _ refl in
      let f = stack_only pairing 10 (Some (stated.Write 9 (Cell 0) (Held (parameter ok_there parameter_there named_there)))) _ (first_registers 7) [] (Act.Write 0 7) _ [] refl child in
      let clash : Some (Act.Write 0 7) ≡ Some (Act.Write 0 8) = f.act in
      let value : ◌≡◌ {A = ℕ} 7 8 = cc in
      absurd (omega (arith, value))

  pub never_synced_no_run : IsRun serial two_cells never_synced → ⊥
  unfolding updated
  never_synced_no_run run =
      let register = named ok_there parameter_there named_there in
      let d = root_says serial two_cells never_synced run refl _ refl in
      let one = goes_on serial 9 (stated.Spawn 5 1 (Number 7)) _ (first_registers 0) _ _ _ Act.Spawn d refl refl in
      let two = goes_on serial 9 (stated.Sync 6) _ _ _ _ _ Act.Sync one.1 refl refl in
      let three = goes_on serial 9 (stated.Read 7 register (Cell 0)) _ _ _ _ _ (Act.Read 0) two.1 refl refl in
      let four = goes_on serial 9 (stated.Write 8 (Cell 1) (Held register)) _ _ _ _ _ (Act.Write 1 7) three.1 refl refl in
      let f = stack_only serial 9 (Some (stated.Sync 9)) Done _ [] Act.Sync _ [] refl four.1 in
      let clash : Some Act.Sync ≡ Some Act.Return = f.act in
      absurd (cc)

  pub first_part_no_run : IsRun chooser two_cells (chosen 1 8) → ⊥
  unfolding updated
  first_part_no_run run =
      let register = named ok_there parameter_there named_there in
      let d = root_says chooser two_cells (chosen 1 8) run refl _ refl in
      let on = goes_on chooser 12 (stated.Spawn 5 1 (Number 7)) _ (first_registers 0) _ _ _ Act.Spawn d refl refl in
      let later = goes_on chooser 12 (stated.Read 6 register (Cell 0)) _ (first_registers 0) _ _ _ (Act.Read 0) on.1 refl refl in
      let behind = second_only chooser 12 7 (ok ok_there parameter_there named_there) _ _ _ _ _ _ later.1 refl in
      let f = stack_only chooser 12 (Some (stated.Write 10 (Cell 1) (Number 2))) _ _ [] (Act.Write 1 2) _ [] refl behind in
      let clash : Some (Act.Write 1 2) ≡ Some (Act.Write 1 1) = f.act in
      let value : ◌≡◌ {A = ℕ} 2 1 = cc in
      absurd (omega (arith, value))
