-- What is told of the serial elision is so of a clean finished run.
use Rattle.std.proofs.Common.{◌≡◌, ℕ, zero, suc, ◌<◌, List, [], ◌∷◌, length, refl, sym, ap, ◌∙◌, subst, subst₂, arith}
use Rattle.std.specs.Prelude.{slice_index}
use Rattle.std.proofs.lemmas.List.{length-map}
use Rattle.model_histories.specs.Entries.{Entries}
use Rattle.model_histories.specs.Shapes.{Shape}
use Rattle.model_races.specs.Memory.{IsMemory}
use Rattle.model_bodies.specs.Codes.{Code}
use Rattle.model_programs.specs.Evaluation.{Store}
use Rattle.model_programs.specs.Elisions.{HasMain, EvaluatesProgram, Elides}
use Rattle.model_runs.specs.Serial.{Numbered, effect_of, effects_of}
use Rattle.model_runs.specs.Laws.{IsElided, IsToldByElision, ElidedRunLaw}
use Rattle.law_elision.specs.Laws.{CleanElisionLaw}
use Rattle.law_elision.proofs.Evaluations.{one_main, evaluated_law}
use Rattle.law_elision.proofs.Elided.{elision_law}

same_cells : (one other : List ℕ) → length one ≡ length other → ((cell : ℕ) → cell < length one → slice_index one cell ≡ slice_index other cell) → one ≡ other
same_cells [] [] size each = refl
same_cells [] (y ∷ other) size each = absurd (omega (arith, size))
same_cells (x ∷ one) [] size each = absurd (omega (arith, size))
same_cells (x ∷ one) (y ∷ other) size each =
    let first : x ≡ y = each zero (omega arith) in
    let rest : one ≡ other = same_cells one other (omega (arith, size)) (λ cell lt. each (suc cell) (omega arith)) in
    ap (λ z. z ∷ one) first ∙ ap (λ l. y ∷ l) rest

-- a history leaves one memory
pub one_memory : (cells : ℕ) (entries : Entries) (one other : List ℕ) → IsMemory cells entries one → IsMemory cells entries other → one ≡ other
one_memory cells entries one other a b =
    same_cells one other (a.len ∙ sym b.len)
    (λ cell lt. let inside : cell < cells = subst (λ n. cell < n) a.len lt in a.each cell inside ∙ sym (b.each cell inside))

module _ (functions : List Code) (shape : Shape) (entries : Entries) (e : IsElided functions shape entries) where
  requests_of : length (effects_of e.listed) ≡ length entries
  requests_of = length-map e.listed (λ (one : Numbered). effect_of one.entry) ∙ e.count

  evaluated : (main : Code) → HasMain functions main →
      EvaluatesProgram functions shape.monoids shape.cells main (effects_of e.listed) (record { memory = e.memory; views = e.views })
  evaluated main is =
      subst (λ code. EvaluatesProgram functions shape.monoids shape.cells code (effects_of e.listed) (record { memory = e.memory; views = e.views }))
      (one_main functions e.main main e.is_main is) e.evaluates

  leaves : (memory : List ℕ) (requests : ℕ) → Elides functions shape.monoids shape.cells memory requests → IsMemory shape.cells entries memory
  leaves memory requests told =
      let last : Store = record { memory = e.memory; views = e.views } in
      let same = (told.only (effects_of e.listed) last (evaluated told.main told.is_main)).1 in
      subst (IsMemory shape.cells entries) (ap (λ (store : Store). store.memory) same) e.holds

  pub told_by_elision : IsToldByElision functions shape entries
  told_by_elision = record {
    leaves = leaves;
    same = λ memory requests told held is. one_memory shape.cells entries memory held (leaves memory requests told) is;
    makes = λ memory requests told.
        let last : Store = record { memory = e.memory; views = e.views } in
        let same = (told.only (effects_of e.listed) last (evaluated told.main told.is_main)).0 in
        sym told.count ∙ ap length (sym same) ∙ requests_of;
    within = λ limit needs.
        subst (λ n. limit < n) requests_of (needs.more (effects_of e.listed) (record { memory = e.memory; views = e.views }) (evaluated needs.main needs.is_main));
  }

pub elided_run_law : ElidedRunLaw
elided_run_law functions shape sound entries run clean = told_by_elision functions shape entries (elision_law functions shape sound entries run clean)

pub clean_elision_law : CleanElisionLaw
clean_elision_law functions shape sound entries run clean memory is =
    let e = elision_law functions shape sound entries run clean in
    let elides = evaluated_law functions shape.monoids shape.cells e.main e.is_main (effects_of e.listed) (record { memory = e.memory; views = e.views }) e.evaluates in
    subst₂ (Elides functions shape.monoids shape.cells) (one_memory shape.cells entries e.memory memory e.holds is) (requests_of functions shape entries e) elides
