-- What is told of warnings.
use Rattle.std.proofs.Common.{◌≡◌, ℕ, min, List, [], ◌∷◌, ◌++◌, length, take, codes, Option, Some, refl, subst, sym, ap, ap₂, ◌∙◌, arith}
use Rattle.std.proofs.lemmas.List.{take_min}
use Rattle.source_quotes.specs.declared.look.Look.{Look}
use Rattle.source_quotes.specs.declared.look.Paint.TheVariants.{Yellow}
use Rattle.source_quotes.specs.declared.part.Span.{Span}
use Rattle.source_quotes.specs.Lines.{line_in}
use Rattle.source_quotes.specs.Quotes.{painted, place, quote}
use Rattle.source_quotes.specs.Parts.{IsWithin, sign_below}
use Rattle.text_buffers.specs.Builders.{Adds}
use Rattle.text_buffers.proofs.Builders.{these, two_adds, none_adds, whole_text}
use Rattle.program_text.specs.Drafts.{Contents}
use Rattle.program_warnings.specs.declared.warning.Warning.{Warning}
use Rattle.program_warnings.specs.Messages.{title, line_of_warning, warning_text, TellsWarning, TellsEach, TellsFirst, most_told, more_text}

module _ (look : Look) (file : List ℕ) (source : List (List ℕ)) (program : Contents) where
  -- one warning, whose line has this number
  pub warning_told : (warning : Warning) (number : ℕ) (line : List ℕ) (span : Span) (old new : Option (List ℕ)) → number ≡ line_of_warning warning →
      line ≡ line_in source number → IsWithin span line →
      Adds old (painted look Yellow (codes "warning") ++ codes ": " ++ title program warning ++ codes "\n" ++ place look file number ++
      quote look source number ++ sign_below look Yellow line span 94 ++ codes "\n\n") new →
      (text : List ℕ) × Adds old text new × TellsWarning look file source program warning text
  warning_told warning number line span old new is_number is_line within adds =
      let same : line ≡ line_in source (line_of_warning warning) = is_line ∙ ap (line_in source) is_number in (
        warning_text look file source program warning span,
        these old new _ (warning_text look file source program warning span) adds
            (ap₂ (λ n l. painted look Yellow (codes "warning") ++ codes ": " ++ title program warning ++ codes "\n" ++ place look file n ++
            quote look source n ++ sign_below look Yellow l span 94 ++ codes "\n\n") is_number same),
        record { span = span; within = subst (IsWithin span) same within; text_is = refl },
      )

  pub none_told : (warnings : List Warning) (old : Option (List ℕ)) → length warnings ≡ 0 →
      (text : List ℕ) × Adds old text old × TellsEach look file source program warnings text
  none_told [] old none = ([], none_adds old, refl)
  none_told (warning ∷ warnings) old none = absurd (omega (arith, none))

  -- one warning more before the others
  pub each_more : (warnings rest : List Warning) (warning : Warning) (old told new : Option (List ℕ)) (one each : List ℕ) → Adds old one told →
      TellsWarning look file source program warning one → Adds told each new → TellsEach look file source program rest each → warnings ≡ warning ∷ rest →
      (text : List ℕ) × Adds old text new × TellsEach look file source program warnings text
  each_more warnings rest warning old told new one each first tells second others is = (
    one ++ each,
    two_adds old told new one each first second,
    subst (λ some. TellsEach look file source program some (one ++ each)) (sym is) (one, each, tells, others, refl),
  )

  -- the first of them
  pub first_more : (warnings first : List Warning) (count : ℕ) (none some all : Option (List ℕ)) (each told : List ℕ) → count ≡ min most_told (length warnings) →
      first ≡ take count warnings → none ≡ Some [] → Adds none each some → TellsEach look file source program first each →
      Adds some (more_text (length warnings)) all → all ≡ Some told → TellsFirst look file source program warnings told
  first_more warnings first count none some all each told number are empty adds tells adds_more is = record {
    each = each;
    tells_each = subst (λ those. TellsEach look file source program those each) (are ∙ ap (λ n. take n warnings) number ∙ take_min most_told warnings) tells;
    told_is = whole_text none all (each ++ more_text (length warnings)) told empty
        (two_adds none some all each (more_text (length warnings)) adds adds_more) is;
  }
