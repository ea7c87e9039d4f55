-- The lines of a run's trace follow one another, with no blank line between them.
use Rattle.std.proofs.Common.{◌≡◌, ℕ, ◌+◌, ◌-◌, ◌≤◌, ◌∷◌, ◌++◌, [], List, length, map, arith, refl, ap, ◌∙◌, subst, replicate, append_assoc}
use Rattle.text_words.specs.declared.value.Mem.{Mem}
use Rattle.text_words.specs.declared.value.Reducer.{Reducer}
use Rattle.text_words.specs.Values.{Known}
use Rattle.model_histories.specs.declared.answer.Entry.{Entry}
use Rattle.trace_text.specs.Printing.{Entry as Line, OfMemory, OfReducer, OfRequest, entry_line, entry_text, declarations, entries as lines_in, lines_from}
use Rattle.trace_text.proofs.PlainLines.{AreLater, memory_first}
use Rattle.program_text.specs.Drafts.{Contents}
use Rattle.run_traces.specs.Traces.{mems_from, reducers_from, requests_from, behind_declarations, trace_contents}

abbrev AreInRow : ℕ → List Line → Type 0
AreInRow at [] = Unit {0}
AreInRow at (line ∷ lines) = (entry_line line ≡ at) × AreInRow (at + 1) lines

in_row : (known : Known) (at : ℕ) (lines : List Line) → AreInRow at lines → lines_from known at lines ≡ map (entry_text known) lines
in_row known at [] h = refl
in_row known at (line ∷ lines) h =
    let none : at - at ≡ 0 = omega arith in
    ap (λ (n : ℕ). replicate {A = List ℕ} (n - at) [] ++ entry_text known line ∷ lines_from known (n + 1) lines) h.0
    ∙ (ap (λ (n : ℕ). replicate {A = List ℕ} n [] ++ entry_text known line ∷ lines_from known (at + 1) lines) none
    ∙ ap (λ (ls : List (List ℕ)). entry_text known line ∷ ls) (in_row known (at + 1) lines h.1))

mems_row : (at after : ℕ) (mems : List Mem) (more : List Line) → after ≡ at + length mems → AreInRow after more → AreInRow at (map OfMemory (mems_from at mems) ++ more)
mems_row at after [] more e h = let same : after ≡ at = omega (arith, e) in subst (λ (n : ℕ). AreInRow n more) same h
mems_row at after (mem ∷ mems) more e h = (refl, mems_row (at + 1) after mems more (omega (arith, e)) h)

reducers_row : (at after : ℕ) (reducers : List Reducer) (more : List Line) → after ≡ at + length reducers → AreInRow after more → AreInRow at (map OfReducer (reducers_from at reducers) ++ more)
reducers_row at after [] more e h = let same : after ≡ at = omega (arith, e) in subst (λ (n : ℕ). AreInRow n more) same h
reducers_row at after (reducer ∷ reducers) more e h = (refl, reducers_row (at + 1) after reducers more (omega (arith, e)) h)

requests_row : (at : ℕ) (entries : List Entry) → AreInRow at (map OfRequest (requests_from at entries))
requests_row at [] = tt
requests_row at (entry ∷ entries) = (refl, requests_row (at + 1) entries)

reducers_later : (at from : ℕ) (reducers : List Reducer) → at ≤ from → AreLater (λ (r : Reducer). r.line) at (reducers_from from reducers)
reducers_later at from [] l = tt
reducers_later at from (reducer ∷ reducers) l = (l, reducers_later at (from + 1) reducers (omega (arith, l)))

declared_in_order : (at behind : ℕ) (mems : List Mem) (reducers : List Reducer) → at + length mems ≤ behind
    → declarations (mems_from at mems) (reducers_from behind reducers) ≡ map OfMemory (mems_from at mems) ++ map OfReducer (reducers_from behind reducers)
declared_in_order at behind [] reducers l = refl
declared_in_order at behind (mem ∷ mems) reducers l =
    memory_first (record mem { line = at }) (mems_from (at + 1) mems) (reducers_from behind reducers) (reducers_later (at + 1) behind reducers (omega (arith, l)))
    ∙ ap (λ (lines : List Line). OfMemory (record mem { line = at }) ∷ lines) (declared_in_order (at + 1) behind mems reducers (omega (arith, l)))

abbrev pub lines_of : Known → List Entry → List Line
lines_of known entries =
    map OfMemory (mems_from 2 known.mems) ++
    (map OfReducer (reducers_from (2 + length known.mems) known.reducers) ++ map OfRequest (requests_from (behind_declarations known) entries))

pub lines_are : (program : Contents) (entries : List Entry) → lines_in (trace_contents program entries) ≡ lines_of program.known entries
lines_are program entries =
    let known = program.known in
    ap (λ (lines : List Line). lines ++ map OfRequest (requests_from (behind_declarations known) entries))
    (declared_in_order 2 (2 + length known.mems) known.mems known.reducers (omega arith))
    ∙ append_assoc (map OfMemory (mems_from 2 known.mems)) (map OfReducer (reducers_from (2 + length known.mems) known.reducers)) (map OfRequest (requests_from (behind_declarations known) entries))

pub lines_row : (printed : Known) (program : Contents) (entries : List Entry) → lines_from printed 2 (lines_in (trace_contents program entries)) ≡ map (entry_text printed) (lines_of program.known entries)
lines_row printed program entries =
    let known = program.known in
    ap (lines_from printed 2) (lines_are program entries)
    ∙ in_row printed 2 (lines_of known entries)
    (mems_row 2 (2 + length known.mems) known.mems _ refl
    (reducers_row (2 + length known.mems) (behind_declarations known) known.reducers _ refl (requests_row (behind_declarations known) entries)))
