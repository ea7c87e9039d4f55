-- A clean finished run is the serial elision.
use Rattle.std.proofs.Common.{◌≡◌, ◌↔◌, inl, inr, ℕ, ◌<◌, List, [], ◌∷◌, length, map, AllPairs, refl, sym, ap, ◌∙◌, subst, arith}
use Rattle.std.specs.Prelude.{slice_get, slice_index_or, Some}
use Rattle.std.proofs.lemmas.List.{length-append, length-replicate, length-map, get_or-replicate, get_or-map}
use Rattle.model_reducers.specs.declared.monoid.Monoid.{Monoid}
use Rattle.model_reducers.specs.declared.monoid.Monoid.TheVariants.{Sum}
use Rattle.law_strands.proofs.Members.{Present}
use Rattle.model_histories.specs.Entries.{Entries}
use Rattle.model_histories.specs.Shapes.{Shape, IsInRange}
use Rattle.model_histories.specs.Legal.{IsLegal}
use Rattle.model_histories.specs.Extensions.{IsFinished, IsClean}
use Rattle.model_reducers.specs.declared.view.View.TheVariants.{Nothing}
use Rattle.model_reducers.specs.Products.{identity_of, monoid_of}
use Rattle.model_bodies.specs.Codes.{Code}
use Rattle.model_bodies.specs.Sound.{IsMain, IsSound}
use Rattle.program_text.proofs.Taken.{main_below}
use Rattle.frame_steps.proofs.Places.{found}
use Rattle.model_programs.specs.Evaluation.{Store}
use Rattle.model_programs.specs.Elisions.{first_store, EvaluatesProgram}
use Rattle.model_runs.specs.Runs.{IsRun}
use Rattle.model_runs.specs.Laws.{IsElided, ElisionLaw}
use Rattle.law_elision.specs.Expansions.{after_all, AreRight}
use Rattle.law_runs.specs.Numbers.{AreNumbered}
use Rattle.law_runs.proofs.Numbering.{numbers_law}
use Rattle.law_elision.proofs.Insertions.{by_insertions}
use Rattle.law_elision.specs.Placed.{Placed, placed_at, IsPlaced, own, numbered}
use Rattle.law_elision.proofs.Trees.{IsEarlier, framed_own, expanded, Expanded, expanded_below, expanded_sorted, all_there}
use Rattle.law_elision.proofs.Runs.{placed_effects, placed_effects_of, serial_list, run_done}
use Rattle.law_elision.proofs.Cells.{held_after, AreReadsRight, IsCellRight, cell_right}
use Rattle.law_elision.proofs.Gets.{gets_right}
use Rattle.law_elision.proofs.Stores.{AreGetsRight, AreInRange, IsSized, sized_all, cell_is_all, all_right}

placed_in_range : (shape : Shape) (entries : Entries) → IsLegal shape entries → (x : Placed) → IsPlaced entries x → IsInRange shape x.entry.request.act
placed_in_range shape [] l x p = absurd p
placed_in_range shape (entry ∷ entries) l x (inl e) = subst (λ y. IsInRange shape y.entry.request.act) (sym e) l.1.in_range
placed_in_range shape (entry ∷ entries) l x (inr p) = placed_in_range shape entries l.0 x p

all_in_range : (shape : Shape) (all : List Placed) → ((x : Placed) → Present x all → IsInRange shape x.entry.request.act) → AreInRange shape (placed_effects all)
all_in_range shape [] f = tt
all_in_range shape (x ∷ all) f = (f x (inl refl), all_in_range shape all (λ y p. f y (inr p)))

first_sized : (shape : Shape) → IsSized shape (first_store shape.monoids shape.cells)
first_sized shape = record { cells = length-replicate shape.cells 0; reducers = length-map shape.monoids identity_of }

-- the first views are identities
first_view : (monoids : List Monoid) (reducer : ℕ) → reducer < length monoids → slice_index_or (map identity_of monoids) reducer Nothing ≡ identity_of (monoid_of monoids reducer)
first_view monoids reducer lt = get_or-map identity_of monoids reducer Sum Nothing lt

-- the gets of each reducer are right, where the entries stand in this order
abbrev pub GetsAreRight : Shape → List Placed → Type 0
GetsAreRight shape all =
    (reducer : ℕ) → reducer < length shape.monoids →
    AreGetsRight (monoid_of shape.monoids reducer) reducer (identity_of (monoid_of shape.monoids reducer)) (placed_effects all)

-- the list has as many entries as there are
all_counted : (shape : Shape) (entries : Entries) → IsLegal shape entries → (list : List Placed) → AllPairs (IsEarlier entries) list →
    ((y : Placed) → Present y list ↔ IsPlaced entries y) → length list ≡ length entries
all_counted shape =
    by_insertions shape (λ entries list. length list ≡ length entries) refl
    (λ entry entries front back inserted before.
    let l = length-append front (placed_at entries entry ∷ back) in let k = length-append front back in omega (arith, l, k, before))

main_there : (functions : List Code) (main : ℕ) → IsMain functions main → (code : Code) × (slice_get functions main ≡ Some code)
main_there functions main is = found functions main (main_below functions main is)

pub elided : (functions : List Code) (shape : Shape) → IsSound shape.cells (length shape.monoids) functions → (entries : Entries) → IsRun functions shape entries →
    IsFinished entries → IsClean entries → AreNumbered entries →
    ((list : List Placed) → AllPairs (IsEarlier entries) list → ((y : Placed) → Present y list ↔ IsPlaced entries y) → GetsAreRight shape list) → IsElided functions shape entries
elided functions shape sound entries run finish clean numbers gets = record {
  main = code.0;
  is_main = (run.main, run.is_main, code.1);
  listed = map numbered tree.all;
  serial = serial_list shape entries legal tree.all tree.expands;
  count = length-map tree.all numbered ∙ all_counted shape entries legal tree.all sorted members;
  memory = last.memory;
  views = last.views;
  evaluates = subst (λ l. EvaluatesProgram functions shape.monoids shape.cells code.0 l last) (placed_effects_of tree.all)
      (run_done functions shape sound run.main run.targets entries run.run finish clean tree.all tree.expands code.0 code.1 first right);
  holds = record {
    len = (sized_all shape (placed_effects tree.all) first (first_sized shape)).cells;
    each = λ number lt.
        cell_is_all shape (placed_effects tree.all) first number (first_sized shape) in_range ∙
        ap (held_after (placed_effects tree.all) number) (get_or-replicate shape.cells number 0 0 lt) ∙ (cell number).leaves_value;
  };
}
  where
    legal : IsLegal shape entries
    legal = run.run.judged.legal

    code : (code : Code) × (slice_get functions run.main ≡ Some code)
    code = main_there functions run.main run.is_main

    tree : Expanded shape entries legal (own entries 0)
    tree = expanded shape entries legal

    first : Store
    first = first_store shape.monoids shape.cells

    last : Store
    last = after_all shape.monoids (placed_effects tree.all) first

    known : (y : Placed) → Present y tree.all → IsPlaced entries y
    known y p = (expanded_below shape entries legal (own entries 0) tree.all (framed_own shape entries legal 0).known tree.expands y p).0

    members : (y : Placed) → Present y tree.all ↔ IsPlaced entries y
    members y = (known y, all_there shape entries legal tree.all tree.expands y)

    sorted : AllPairs (IsEarlier entries) tree.all
    sorted = expanded_sorted shape entries legal (own entries 0) tree.all 0 (framed_own shape entries legal 0) tree.expands

    in_range : AreInRange shape (placed_effects tree.all)
    in_range = all_in_range shape tree.all (λ x p. placed_in_range shape entries legal x (known x p))

    cell : (cell : ℕ) → IsCellRight cell entries tree.all
    cell number = cell_right shape number entries legal tree.all sorted members run.run.judged.memory clean numbers

    right : AreRight shape.monoids first (placed_effects tree.all)
    right =
        all_right shape (placed_effects tree.all) first (first_sized shape) in_range
        (λ number lt. subst (λ h. AreReadsRight number h (placed_effects tree.all)) (sym (get_or-replicate shape.cells number 0 0 lt)) (cell number).reads_right)
        (λ reducer lt. subst (λ v. AreGetsRight (monoid_of shape.monoids reducer) reducer v (placed_effects tree.all)) (sym (first_view shape.monoids reducer lt))
        (gets tree.all sorted members reducer lt))

pub elision_law : ElisionLaw
elision_law functions shape sound entries run clean =
    let numbers = numbers_law functions shape sound entries run.0 in
    elided functions shape sound entries run.0 run.1 clean numbers
    (λ list sorted members reducer lt.
    gets_right shape reducer entries run.0.run.judged.legal list sorted members run.0.run.judged.reducers clean numbers)
