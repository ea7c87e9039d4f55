-- What is answered of a write, and what is noted of a record.
use Rattle.std.proofs.Common.{◌≡◌, ◌≢◌, ◌⊎◌, inl, inr, ℕ, suc, ◌+◌, ◌*◌, ◌<◌, Bool, true, false, cond, List, [], ◌∷◌, ◌++◌, length, set, get_or, Option, Some, None, is_some, IfSome, IsTrue, refl, sym, ap, ◌∙◌, subst, arith, length-set, get_or-set_same, get_or-set_other}
use Rattle.std.proofs.lemmas.Bool.{false≢true}
use Rattle.law_strands.proofs.Updates.{same_or_not}
use Rattle.model_serial_runs.specs.declared.access_kind.AccessKind.{AccessKind}
use Rattle.model_serial_runs.specs.declared.access_kind.AccessKind.TheVariants.{Read, Load, Update, Write}
use Rattle.model_serial_runs.specs.Conflicts.{conflict}
use Rattle.serial_judge.specs.declared.cell.Cell.{Cell}
use Rattle.serial_judge.specs.declared.cell.Race.{Race}
use Rattle.serial_judge.specs.declared.cell.Judged.{Judged}
use Rattle.serial_judge.specs.declared.records.Record.{Record}
use Rattle.serial_judge.specs.declared.spans.Span.{Span}
use Rattle.serial_judge.specs.Answers.{IsRaceAt, StaysOrGoes, IsAnswer}
use Rattle.serial_judge.specs.Numbers.{numbered}
use Rattle.serial_judge.specs.Records.{place_of, IsNoted, AreNoted}
use Rattle.serial_judge.specs.Remembers.{kept_number}
use Rattle.serial_judge.specs.Spans.{is_held}
use Rattle.serial_judge.proofs.Kept.{numbered-append, numbered-push}

abbrev pub first_of_two : Option Race → Option Race → Option Race
first_of_two one other = cond (is_some one) one other

-- what is found of a number
pub record Finds (spans : List Span) (records : List Record) (number : ℕ) (race : Option Race) : Type 0 where
  pub found : is_some race ≡ is_held spans number
  pub is : IfSome race (IsRaceAt records number)

stays_or_goes : (spans : List Span) (held : Bool) (old new : ℕ) → is_held spans old ≡ held → new ≡ cond held old 0 → StaysOrGoes spans Write old new
stays_or_goes spans true old new h e = inl e
stays_or_goes spans false old new h e = inr (refl, h, e)

first_some : (one other : Option Race) → is_some one ≡ true → is_some (first_of_two one other) ≡ true
first_some None other e = absurd (false≢true e)
first_some (Some r) other e = refl

second_some : (one other : Option Race) → is_some other ≡ true → is_some (first_of_two one other) ≡ true
second_some None other e = e
second_some (Some r) other e = refl

module _ (spans : List Span) (records : List Record) (cell : Cell) (number : ℕ) (writer reader updater loader : Option Race)
    (by_writer : Finds spans records cell.writer writer) (by_reader : Finds spans records cell.reader reader)
    (by_updater : Finds spans records cell.updater updater) (by_loader : Finds spans records cell.loader loader) (judged : Judged)
    (race_is : judged.race ≡ first_of_two (first_of_two writer reader) (first_of_two updater loader))
    (writer_is : judged.cell.writer ≡ cond (is_held spans cell.writer) cell.writer number)
    (reader_is : judged.cell.reader ≡ cond (is_held spans cell.reader) cell.reader 0)
    (updater_is : judged.cell.updater ≡ cond (is_held spans cell.updater) cell.updater 0)
    (loader_is : judged.cell.loader ≡ cond (is_held spans cell.loader) cell.loader 0) (latest_is : judged.cell.latest ≡ 2 * number + 1) where
  all_found : (kept : AccessKind) → is_held spans (kept_number cell kept) ≡ true → is_some judged.race ≡ true
  all_found Write h =
      ap is_some race_is ∙ first_some (first_of_two writer reader) (first_of_two updater loader) (first_some writer reader (by_writer.found ∙ h))
  all_found Read h =
      ap is_some race_is ∙ first_some (first_of_two writer reader) (first_of_two updater loader) (second_some writer reader (by_reader.found ∙ h))
  all_found Update h =
      ap is_some race_is ∙ second_some (first_of_two writer reader) (first_of_two updater loader) (first_some updater loader (by_updater.found ∙ h))
  all_found Load h =
      ap is_some race_is ∙ second_some (first_of_two writer reader) (first_of_two updater loader) (second_some updater loader (by_loader.found ∙ h))

  found : (w r u l : Option Race) → Finds spans records cell.writer w → Finds spans records cell.reader r → Finds spans records cell.updater u →
      Finds spans records cell.loader l → is_some (first_of_two (first_of_two w r) (first_of_two u l)) ≡ true →
      (kept : AccessKind) × IsTrue (conflict kept Write) × (is_held spans (kept_number cell kept) ≡ true)
      × IfSome (first_of_two (first_of_two w r) (first_of_two u l)) (IsRaceAt records (kept_number cell kept))
  found (Some x) r u l fw fr fu fl e = (Write, refl, sym fw.found, fw.is)
  found None (Some x) u l fw fr fu fl e = (Read, refl, sym fr.found, fr.is)
  found None None (Some x) l fw fr fu fl e = (Update, refl, sym fu.found, fu.is)
  found None None None (Some x) fw fr fu fl e = (Load, refl, sym fl.found, fl.is)
  found None None None None fw fr fu fl e = absurd (false≢true e)

  others : (kept : AccessKind) → kept ≢ Write → StaysOrGoes spans Write (kept_number cell kept) (kept_number judged.cell kept)
  others Write ne = absurd (ne refl)
  others Read ne = stays_or_goes spans (is_held spans cell.reader) cell.reader judged.cell.reader refl reader_is
  others Update ne = stays_or_goes spans (is_held spans cell.updater) cell.updater judged.cell.updater refl updater_is
  others Load ne = stays_or_goes spans (is_held spans cell.loader) cell.loader judged.cell.loader refl loader_is

  pub write_answer : IsAnswer spans records cell Write number judged
  write_answer = record {
    found = λ e. subst
        (λ z. is_some z ≡ true → (kept : AccessKind) × IsTrue (conflict kept Write) × (is_held spans (kept_number cell kept) ≡ true)
        × IfSome z (IsRaceAt records (kept_number cell kept))) (sym race_is) (found writer reader updater loader by_writer by_reader by_updater by_loader) e;
    all_found = λ kept c h. all_found kept h;
    own = writer_is;
    others = others;
    latest = latest_is;
  }

-- Notes of records.

noted-more : (records : List Record) (made : Record) (place number : ℕ) → IsNoted records place number → IsNoted (records ++ made ∷ []) place number
noted-more rs made p n (inl e) = inl e
noted-more rs made p n (inr (m, is, at)) = inr (m, numbered-append rs (made ∷ []) n m is, at)

pub noted-set : (records : List Record) (notes : List ℕ) (place number : ℕ) (made : Record) → AreNoted records notes → place ≡ place_of made →
    number ≡ suc (length records) → place < length notes → AreNoted (records ++ made ∷ []) (set notes place number)
noted-set rs notes at n made old is len lt p lt' = go (same_or_not p at)
  where
    go : (p ≡ at) ⊎ (p ≢ at) → IsNoted (rs ++ made ∷ []) p (get_or (set notes at n) p 0)
    go (inl e) = subst (λ z. IsNoted (rs ++ made ∷ []) z (get_or (set notes at n) z 0)) (sym e)
        (subst (λ z. IsNoted (rs ++ made ∷ []) at z) (sym (get_or-set_same notes at n 0 lt))
        (inr (made, ap (numbered (rs ++ made ∷ [])) len ∙ numbered-push rs made, sym is)))
    go (inr ne) = subst (λ z. IsNoted (rs ++ made ∷ []) p z) (sym (get_or-set_other notes at p n 0 ne))
        (noted-more rs made p (get_or notes p 0) (old p (omega (arith, lt', length-set notes at n))))
