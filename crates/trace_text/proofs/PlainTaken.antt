-- A request in plain form at the head of a text is its first line.
use Rattle.std.proofs.Common.{◌≡◌, ◌∷◌, ◌++◌, ◌<◌, ◌∙◌, ℕ, List, length, length-append, arith, ap, sym, refl, cond}
use Rattle.std.specs.Prelude.{Option, Some, None, unwrap_or, is_some}
use Rattle.text_words.specs.declared.value.TraceLine.{TraceLine}
use Rattle.model_accesses.specs.declared.request.Act.{Act}
use Rattle.text_words.specs.Text.{lines, words}
use Rattle.text_words.specs.Values.{Contents}
use Rattle.trace_text.specs.Grammar.{ItemMeans}
use Rattle.trace_text.specs.Items.{line_asked}
use Rattle.trace_text.specs.Drafts.{AddsItem, IsTaken, IsTold}
use Rattle.trace_text.specs.Lines.{OfNumber, asks, operands, if_there}
use Rattle.trace_text.specs.Printing.{plain_line}
use Rattle.trace_text.specs.Plain.{HasRequest}
use Rattle.trace_text.proofs.PlainWords.{line_ended}

module _ (at : ℕ) (before after : Contents) (text rest : List ℕ) (strand : ℕ) (act : Act) (mark : Option ℕ)
    (has : HasRequest before.known text strand act mark rest) where
  first_line : lines text ≡ has.0 ∷ lines rest
  first_line = ap lines has.1 ∙ line_ended has.0 rest has.2

  shorter : length rest < length text
  shorter = omega (arith, ap length has.1, length-append has.0 (10 ∷ rest))

  means : ItemMeans at before.known (words has.0) (line_asked at strand act mark)
  means = has.3 at

  pub plain_taken : AddsItem at before (line_asked at strand act mark) after → IsTaken at before text rest after
  plain_taken e = (has.0, first_line, shorter, line_asked at strand act mark, (e.0, has.2, means, e.1, e.2), e.3)

  abbrev line : TraceLine
  line = record { at = at; request = record { strand = strand; act = act; line = unwrap_or mark at }; marked = is_some mark }

  pub plain_told : AddsItem at before (line_asked at strand act mark) after → IsTold at before text rest after
  plain_told e = record {
    front = has.0;
    split = has.1;
    taken = plain_taken e;
    line = line;
    added = e.3;
    exact = λ settled.
        sym (has.4 settled) ∙ ap (λ (m : Option ℕ). plain_line before.known (asks act) (OfNumber strand ∷ (operands act ++ if_there m))) (sym (mark_is mark));
  }
    where
      mark_is : (m : Option ℕ) → cond (is_some m) (Some (unwrap_or m at)) None ≡ m
      mark_is None = refl
      mark_is (Some n) = refl
