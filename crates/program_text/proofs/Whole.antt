-- What every program keeps.
use Rattle.std.proofs.Common.{◌≡◌, ℕ, ◌≤◌, ◌∷◌, [], List, length, sym, ap, subst, ◌∙◌, arith}
use Rattle.std.specs.Prelude.{IsTrue}
use Rattle.text_words.specs.declared.value.Version.{Version}
use Rattle.text_words.specs.declared.value.Mem.{Mem}
use Rattle.text_words.specs.declared.value.Reducer.{Reducer}
use Rattle.text_words.specs.Text.{lines}
use Rattle.model_accesses.specs.Limits.{most_cells}
use Rattle.model_reducers.specs.Limits.{most_reducers}
use Rattle.text_words.specs.Values.{Known}
use Rattle.text_words.specs.Declarations.{cells_of}
use Rattle.trace_text.specs.Shapes.{is_numbered}
use Rattle.model_bodies.specs.Codes.{Code}
use Rattle.model_bodies.specs.Sound.{IsSound, max_functions}
use Rattle.program_text.specs.Functions.{functions_of}
use Rattle.program_text.specs.Drafts.{Draft, Contents, begun, begun_by, held}
use Rattle.program_text.specs.Grammar.{LinesOfProgram, TextMeans, nothing}
use Rattle.program_text.proofs.Kept.{AreSound, IsHeld, kept_lines, kept_nothing}
use Rattle.program_text.proofs.Listed.{as_many}

pub record IsWhole (contents : Contents) : Type 0 where
  pub numbered : IsTrue (is_numbered 0 contents.known.mems)
  pub few_cells : cells_of contents.known.mems ≤ most_cells
  pub few_reducers : length contents.known.reducers ≤ most_reducers
  pub few_functions : length contents.functions ≤ max_functions
  pub sound : IsSound (cells_of contents.known.mems) (length contents.known.reducers) contents.functions

whole_held : (names : List (List ℕ)) (contents : Contents) → IsHeld names contents → length names ≡ length contents.functions → IsWhole contents
whole_held names contents h e =
    let same = h.is in
    subst (λ (c : Contents). IsWhole c) (sym same)
    (record {
      numbered = h.kept.numbered;
      few_cells = h.kept.few_cells;
      few_reducers = h.kept.few_reducers;
      few_functions = (let count : begun h.last ≡ length h.last.functions = ap (begun_by h.last.functions) h.none_open in omega (arith, count, h.kept.few_functions));
      sound = subst (λ (n : ℕ). AreSound (cells_of h.last.known.mems) (length h.last.known.reducers) n h.last.functions)
          (e ∙ ap (λ (c : Contents). length c.functions) same) h.kept.sound;
    })

whole_by : (ls : List (List ℕ)) (contents : Contents) → LinesOfProgram ls contents → IsWhole contents
whole_by [] contents m = absurd m
whole_by (first ∷ rest) contents m =
    whole_held (functions_of rest) contents
    (kept_lines (functions_of rest) 2 (nothing contents.known.version) rest contents (kept_nothing (functions_of rest) contents.known.version) m.1)
    (as_many contents.known.version rest contents m.1)

-- what a text means keeps it
pub whole_of_text : (text : List ℕ) (contents : Contents) → TextMeans text contents → IsWhole contents
whole_of_text text contents m = whole_by (lines text) contents m

-- what is read, in the parts of a program
pub assembled : (text : List ℕ) (draft : Draft) (version : Version) (ms mems : List Mem) (rs reducers : List Reducer) (fs functions : List Code)
    → draft.known ≡ record { version = version; mems = ms; reducers = rs } → draft.functions ≡ fs → mems ≡ ms → reducers ≡ rs → functions ≡ fs → TextMeans text (held draft)
    → TextMeans text (record { known = record { version = version; mems = mems; reducers = reducers }; functions = functions })
assembled text draft version ms mems rs reducers fs functions e f g h k m =
    let made : List Mem → List Reducer → Known = λ a b. record { version = version; mems = a; reducers = b } in
    let known : draft.known ≡ made mems reducers = e ∙ (ap (λ (t : List Mem). made t rs) (sym g) ∙ ap (made mems) (sym h)) in
    let all : List Code → Known → Contents = λ c t. record { known = t; functions = c } in
    subst (λ (c : Contents). TextMeans text c) (ap (λ (c : List Code). all c draft.known) (f ∙ sym k) ∙ ap (all functions) known) m
