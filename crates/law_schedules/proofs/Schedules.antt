-- One clean and finished run speaks for all runs.
-- H: a history; R: the clean and finished one; T: its targets; e: an entry
use Rattle.std.proofs.Common.{◌≡◌, ℕ, List, [], ◌∷◌, ◌++◌, Option, Some, refl, sym, ap, subst, subst₂}
use Rattle.std.specs.Prelude.{if◌then◌else◌}
use Rattle.model_strands.specs.Address.{Address, first_difference, same_at}
use Rattle.model_strands.specs.Addresses.{address}
use Rattle.model_histories.specs.Entries.{Entries, control_part}
use Rattle.model_histories.specs.Shapes.{Shape}
use Rattle.model_histories.specs.Legal.{IsLegal}
use Rattle.model_histories.specs.Extensions.{IsFinished}
use Rattle.model_programs.specs.Evaluation.{Effect}
use Rattle.model_bodies.specs.Codes.{Code, main_of}
use Rattle.model_runs.specs.Frames.{Targets}
use Rattle.model_runs.specs.Serial.{effect_of}
use Rattle.model_runs.specs.Coordinates.{effects_at, IsPrefixOf}
use Rattle.model_runs.specs.Runs.{IsRunWith}
use Rattle.model_runs.specs.Laws.{Agrees, CleanLaw}
use Rattle.law_runs.proofs.Histories.{run_shorter}
use Rattle.law_interleavings.specs.Traces.{Spoken}
use Rattle.law_interleavings.specs.Asked.{told_at}
use Rattle.law_interleavings.proofs.Spoken.{NoneRefused}
use Rattle.law_interleavings.proofs.Parts.{IsPart}
use Rattle.law_interleavings.proofs.AtPlaces.{part_begins}
use Rattle.law_interleavings.proofs.Wholes.{begin_both, finished_whole, same_memory}
use Rattle.law_interleavings.proofs.Induction.{none_refused, is_clean, are_parts}
use Rattle.law_schedules.proofs.Heard.{Told, told}
use Rattle.law_schedules.proofs.Wanted.{wanted}

-- what was spoken, as an effect
abbrev effect_in : Spoken Told → Effect
effect_in one = record { act = one.act; line = one.note.line; value = one.value }

effects_told : (H : Entries) (place : Address) → effects_at H place ≡ told_at effect_of H place
effects_told [] p = refl
effects_told (e ∷ H) p =
    ap (λ l. l ++ (if same_at (first_difference (address (control_part H) e.request.strand) p) then effect_of e ∷ [] else [])) (effects_told H p)

-- a run that is a part of another did at each address what that one began with there
effects : (shape : Shape) (mine T : Targets) (H R : Entries) → IsLegal shape H → IsLegal shape R → IsPart shape (told mine) (told T) R H → (place : Address) →
    IsPrefixOf (effects_at H place) (effects_at R place)
effects shape mine T H R l r part p =
    subst₂ IsPrefixOf (sym (effects_told H p)) (sym (effects_told R p))
    (part_begins shape (told mine) (told T) effect_in effect_of (λ b x. refl) (λ b x. refl) H R l r part p)

agrees : (functions : List Code) (shape : Shape) (main : ℕ) (mine T : Targets) (clean entries : Entries) → IsRunWith functions shape main T clean →
    NoneRefused clean → IsFinished clean → IsRunWith functions shape main mine entries → Agrees shape clean entries
agrees functions shape main mine T clean entries whole rc fin run =
    record {
      is_clean = is_clean entries parts.0;
      begins = begins;
      equal = λ f p. begin_both (effects_at entries p) (effects_at clean p) (begins p)
          (effects shape T mine clean entries whole.judged.legal run.judged.legal (back f) p);
      memory = λ f cell below. same_memory shape (told mine) (told T) clean entries whole.judged rc run.judged.legal parts.0 parts.1 (back f) cell;
    }
  where
    parts : NoneRefused entries × IsPart shape (told mine) (told T) clean entries
    parts = are_parts shape (told mine) (told T) clean whole.judged rc (IsRunWith functions shape main mine) (record {
      shorter = λ H e one. run_shorter functions shape main mine e H one;
      judged = λ H one. one.judged;
      wanted = λ H e one c part. wanted shape functions main mine T clean whole rc fin H e one c part;
    }) entries run

    back : IsFinished entries → IsPart shape (told T) (told mine) entries clean
    back f = finished_whole shape (told mine) (told T) clean entries whole.judged.legal run.judged.legal parts.1 f

    begins : (p : Address) → IsPrefixOf (effects_at entries p) (effects_at clean p)
    begins p = effects shape mine T entries clean run.judged.legal whole.judged.legal parts.1 p

same_some : (found : Option ℕ) (a b : ℕ) → found ≡ Some a → found ≡ Some b → a ≡ b
same_some found a b p q = cc

pub clean_law : CleanLaw
clean_law functions shape sound clean finished_run c entries run =
    let one = finished_run.0 in
    let same_main : run.main ≡ one.main = same_some (main_of functions) run.main one.main run.is_main one.is_main in
    let run' : IsRunWith functions shape one.main run.targets entries = subst (λ m. IsRunWith functions shape m run.targets entries) same_main run.run in
    agrees functions shape one.main run.targets one.targets clean entries one.run (none_refused clean c) finished_run.1 run'
