-- What printing appends.
use Rattle.std.proofs.Common.{◌≡◌, ℕ, zero, suc, ◌+◌, ◌-◌, ◌∷◌, ◌++◌, [], List, length, map, arith, refl, sym, ◌∙◌, ap, subst, replicate, append_assoc, length-append, ◌<◌, ◌≤◌, get_or, drop, drop-cons, add-one}
use Rattle.std.specs.Prelude.{None, codes, flat_map}
use Rattle.std.proofs.lemmas.List.{append-nil}
use Rattle.text_words.specs.declared.value.Mem.{Mem}
use Rattle.text_words.specs.declared.value.Reducer.{Reducer}
use Rattle.text_words.specs.declared.value.Version.{Version}
use Rattle.text_words.specs.Values.{Known, version_spelling}
use Rattle.model_bodies.specs.declared.statement.Statement.{Statement}
use Rattle.program_text.specs.Drafts.{Contents}
use Rattle.text_words.specs.Declarations.{memory_at}
use Rattle.trace_text.specs.Printing.{Entry, OfMemory, declarations, known_of, lines_from as trace_lines, text_from as trace_text}
use Rattle.model_bodies.specs.Codes.{Code}
use Rattle.program_text.specs.Printing.{Row, names_of, begin_row, statement_row, body_rows, end_row, function_rows, rows_of_functions, rows, plain_text, declared_row, lines_from, text_from, PrintsRows}

abbrev ended_line : List ℕ → List ℕ
ended_line line = line ++ 10 ∷ []

joined : (first second : List (List ℕ)) → flat_map ended_line (first ++ second) ≡ flat_map ended_line first ++ flat_map ended_line second
joined [] second = refl
joined (line ∷ first) second = ap (λ (t : List ℕ). ended_line line ++ t) (joined first second) ∙ sym (append_assoc (ended_line line) (flat_map ended_line first) (flat_map ended_line second))

feeds_are : (n : ℕ) → flat_map ended_line (replicate {A = List ℕ} n []) ≡ replicate {A = ℕ} n 10
feeds_are zero = refl
feeds_are (suc n) = ap (λ (t : List ℕ). 10 ∷ t) (feeds_are n)

-- ---- a row

row_text : (at : ℕ) (row : Row) (rest : List Row) → text_from at (row ∷ rest) ≡ replicate {A = ℕ} (row.line - at) 10 ++ ((row.text ++ 10 ∷ []) ++ text_from (row.line + 1) rest)
row_text at row rest =
    joined (replicate {A = List ℕ} (row.line - at) []) (row.text ∷ lines_from (row.line + 1) rest)
    ∙ ap (λ (t : List ℕ). t ++ ((row.text ++ 10 ∷ []) ++ text_from (row.line + 1) rest)) (feeds_are (row.line - at))

-- the feeds before a row, its text and the feed behind it are its line
pub row_steps : (row : Row) (at line next : ℕ) (old fed put new : List ℕ) → line ≡ row.line → next ≡ row.line + 1
    → fed ≡ old ++ replicate {A = ℕ} (line - at) 10 → put ≡ fed ++ row.text → new ≡ put ++ 10 ∷ [] → PrintsRows old at (row ∷ []) new next
row_steps row at line next old fed put new e f g h k rest =
    let text : new ≡ ((old ++ replicate {A = ℕ} (row.line - at) 10) ++ row.text) ++ 10 ∷ [] =
    k ∙ ap (λ (t : List ℕ). t ++ 10 ∷ []) (h ∙ ap (λ (t : List ℕ). t ++ row.text) (g ∙ ap (λ (n : ℕ). old ++ replicate {A = ℕ} (n - at) 10) e)) in
    ap (λ (t : List ℕ). t ++ text_from next rest) text
    ∙ (ap (λ (n : ℕ). (((old ++ replicate {A = ℕ} (row.line - at) 10) ++ row.text) ++ 10 ∷ []) ++ text_from n rest) f
    ∙ (regroup old (replicate {A = ℕ} (row.line - at) 10) row.text (text_from (row.line + 1) rest) ∙ ap (λ (t : List ℕ). old ++ t) (sym (row_text at row rest))))
  where
    regroup : (old feeds word rest : List ℕ) → (((old ++ feeds) ++ word) ++ 10 ∷ []) ++ rest ≡ old ++ (feeds ++ ((word ++ 10 ∷ []) ++ rest))
    regroup old feeds word rest = simp append_assoc

-- the words of a `func`
pub begin_words : (code : Code) (fed new name parameter : List ℕ) → name ≡ code.name → parameter ≡ code.parameter
    → new ≡ fed ++ (codes "func " ++ (name ++ 32 ∷ parameter)) → new ≡ fed ++ (begin_row code).text
begin_words code fed new name parameter e f g =
    g ∙ (ap (λ (t : List ℕ). fed ++ (codes "func" ++ 32 ∷ (t ++ 32 ∷ parameter))) e
    ∙ ap (λ (t : List ℕ). fed ++ (codes "func" ++ 32 ∷ (code.name ++ 32 ∷ t))) (f ∙ sym (append-nil code.parameter)))

-- rows behind one another
pub rows_join : (first second : List Row) (old middle new : List ℕ) (at between next : ℕ) → PrintsRows old at first middle between → PrintsRows middle between second new next
    → PrintsRows old at (first ++ second) new next
rows_join first second old middle new at between next f g rest =
    g rest ∙ (f (second ++ rest) ∙ ap (λ (t : List Row). old ++ text_from at t) (sym (append_assoc first second rest)))

pub no_rows : (text : List ℕ) (at : ℕ) → PrintsRows text at [] text at
no_rows text at rest = refl

-- the rows of a function
pub function_steps : (known : Known) (names registers : List (List ℕ)) (body : List Statement) (code : Code) (old first second new : List ℕ) (at inside end next : ℕ)
    → registers ≡ code.registers → body ≡ code.body → PrintsRows old at (begin_row code ∷ []) first inside → PrintsRows first inside (body_rows known names registers body) second end
    → PrintsRows second end (end_row code ∷ []) new next → PrintsRows old at (function_rows known names code) new next
function_steps known names registers body code old first second new at inside end next e f g h k =
    let middle : PrintsRows first inside (body_rows known names code.registers code.body) second end =
    subst (λ (b : List Statement). PrintsRows first inside (body_rows known names code.registers b) second end) f
    (subst (λ (rs : List (List ℕ)). PrintsRows first inside (body_rows known names rs body) second end) e h) in
    rows_join (begin_row code ∷ []) (body_rows known names code.registers code.body ++ end_row code ∷ []) old first new at inside next g
    (rows_join (body_rows known names code.registers code.body) (end_row code ∷ []) first second new inside end next middle k)

drop_item : {X : Type 0} (xs : List X) (i : ℕ) (x : X) → i < length xs → x ≡ get_or xs i x → drop i xs ≡ x ∷ drop (i + 1) xs
drop_item xs i x l e = rw (add-one, drop-cons xs i x) (ap (λ y. y ∷ drop (suc i) xs) (sym e))

-- one more statement of a body is printed
pub body_step : (known : Known) (names registers : List (List ℕ)) (body : List Statement) (i : ℕ) (statement : Statement) (old new whole : List ℕ) (at next : ℕ) (more : List Row)
    → i < length body → statement ≡ get_or body i statement → PrintsRows old at (statement_row known names registers statement ∷ []) new next
    → old ++ text_from at (body_rows known names registers (drop i body) ++ more) ≡ whole → new ++ text_from next (body_rows known names registers (drop (i + 1) body) ++ more) ≡ whole
body_step known names registers body i statement old new whole at next more l e prints is =
    prints (body_rows known names registers (drop (i + 1) body) ++ more)
    ∙ (ap (λ (t : List Statement). old ++ text_from at (body_rows known names registers t ++ more)) (sym (drop_item body i statement l e)) ∙ is)

drop_past : {X : Type 0} (xs : List X) (i : ℕ) → length xs ≤ i → drop i xs ≡ []
drop_past [] zero l = refl
drop_past [] (suc i) l = refl
drop_past (x ∷ xs) zero l = absurd (omega (arith, l))
drop_past (x ∷ xs) (suc i) l = drop_past xs i (omega (arith, l))

-- all statements are printed
pub body_done : (known : Known) (names registers : List (List ℕ)) (body : List Statement) (i : ℕ) (out whole : List ℕ) (at : ℕ) (more : List Row) → length body ≤ i
    → out ++ text_from at (body_rows known names registers (drop i body) ++ more) ≡ whole → out ++ text_from at more ≡ whole
body_done known names registers body i out whole at more l is =
    ap (λ (t : List Statement). out ++ text_from at (body_rows known names registers t ++ more)) (sym (drop_past body i l)) ∙ is

-- all functions are printed
pub functions_done : (known : Known) (names : List (List ℕ)) (functions : List Code) (i : ℕ) (out whole : List ℕ) (at : ℕ) (more : List Row) → length functions ≤ i
    → out ++ text_from at (rows_of_functions known names (drop i functions) ++ more) ≡ whole → out ++ text_from at more ≡ whole
functions_done known names functions i out whole at more l is =
    ap (λ (t : List Code). out ++ text_from at (rows_of_functions known names t ++ more)) (sym (drop_past functions i l)) ∙ is

-- one more function is printed
pub functions_step : (known : Known) (names : List (List ℕ)) (functions : List Code) (i : ℕ) (code : Code) (old new whole : List ℕ) (at next : ℕ) (more : List Row)
    → i < length functions → code ≡ get_or functions i code → PrintsRows old at (function_rows known names code) new next
    → old ++ text_from at (rows_of_functions known names (drop i functions) ++ more) ≡ whole → new ++ text_from next (rows_of_functions known names (drop (i + 1) functions) ++ more) ≡ whole
functions_step known names functions i code old new whole at next more l e prints is =
    prints (rows_of_functions known names (drop (i + 1) functions) ++ more)
    ∙ (ap (λ (t : List Row). old ++ text_from at t) (sym (append_assoc (function_rows known names code) (rows_of_functions known names (drop (i + 1) functions)) more))
    ∙ (ap (λ (t : List Code). old ++ text_from at (rows_of_functions known names t ++ more)) (sym (drop_item functions i code l e)) ∙ is))

abbrev rows_with : Version → List Mem → List Reducer → List Code → List Row
rows_with version mems reducers functions =
    map (declared_row (known_of version mems reducers)) (declarations mems reducers) ++ rows_of_functions (known_of version mems reducers) (names_of functions) functions

-- the rows behind the first line
pub rows_printed : (contents : Contents) (mems : List Mem) (reducers : List Reducer) (functions : List Code) (word first middle new : List ℕ) (at next : ℕ)
    → mems ≡ contents.known.mems → reducers ≡ contents.known.reducers → functions ≡ contents.functions → word ≡ version_spelling contents.known.version
    → first ≡ codes "cilk " ++ (word ++ 10 ∷ [])
    → PrintsRows first 2 (map (declared_row (known_of contents.known.version mems reducers)) (declarations mems reducers)) middle at
    → PrintsRows middle at (rows_of_functions (known_of contents.known.version mems reducers) (names_of functions) functions) new next → new ≡ plain_text contents
rows_printed contents mems reducers functions word first middle new at next e f g h k l m =
    let version = contents.known.version in
    let all = rows_join (map (declared_row (known_of version mems reducers)) (declarations mems reducers)) (rows_of_functions (known_of version mems reducers) (names_of functions) functions)
    first middle new 2 at next l m [] in
    let own : rows_with version mems reducers functions ≡ rows contents =
    ap (λ (ms : List Mem). rows_with version ms reducers functions) e
    ∙ (ap (λ (rs : List Reducer). rows_with version contents.known.mems rs functions) f ∙ ap (λ (fs : List Code). rows_with version contents.known.mems contents.known.reducers fs) g) in
    let head : first ≡ (codes "cilk" ++ 32 ∷ version_spelling version) ++ 10 ∷ [] =
    k ∙ ap (λ (t : List ℕ). codes "cilk " ++ (t ++ 10 ∷ [])) h in
    sym (append-nil new)
    ∙ (all
    ∙ (ap (λ (t : List Row). first ++ text_from 2 t) (append-nil (rows_with version mems reducers functions) ∙ own)
    ∙ (ap (λ (t : List ℕ). t ++ text_from 2 (rows contents)) head
    ∙ ap (λ (t : List ℕ). ((codes "cilk" ++ 32 ∷ t) ++ 10 ∷ []) ++ text_from 2 (rows contents)) (sym (append-nil (version_spelling version))))))

-- ---- declarations

abbrev behind : ℕ → List Row → ℕ
behind at [] = at
behind at (row ∷ rows) = behind (row.line + 1) rows

split : (at : ℕ) (rows more : List Row) → text_from at (rows ++ more) ≡ text_from at rows ++ text_from (behind at rows) more
split at [] more = refl
split at (row ∷ rows) more =
    row_text at row (rows ++ more)
    ∙ (ap (λ (t : List ℕ). replicate {A = ℕ} (row.line - at) 10 ++ ((row.text ++ 10 ∷ []) ++ t)) (split (row.line + 1) rows more)
    ∙ (regroup (replicate {A = ℕ} (row.line - at) 10) (row.text ++ 10 ∷ []) (text_from (row.line + 1) rows) (text_from (behind (row.line + 1) rows) more)
    ∙ ap (λ (t : List ℕ). t ++ text_from (behind (row.line + 1) rows) more) (sym (row_text at row rows))))
  where
    regroup : (feeds word first rest : List ℕ) → feeds ++ (word ++ (first ++ rest)) ≡ (feeds ++ (word ++ first)) ++ rest
    regroup feeds word first rest = simp append_assoc

entry_lines : (known : Known) (at : ℕ) (entries : List Entry) → trace_lines known at entries ≡ lines_from at (map (declared_row known) entries)
entry_lines known at [] = refl
entry_lines known at (entry ∷ entries) =
    let row = declared_row known entry in
    ap (λ (t : List (List ℕ)). replicate {A = List ℕ} (row.line - at) [] ++ row.text ∷ t) (entry_lines known (row.line + 1) entries)

entry_text_from : (known : Known) (at : ℕ) (entries : List Entry) → trace_text known at entries ≡ text_from at (map (declared_row known) entries)
entry_text_from known at entries = ap (flat_map ended_line) (entry_lines known at entries)

map_append : (known : Known) (xs ys : List Entry) → map (declared_row known) (xs ++ ys) ≡ map (declared_row known) xs ++ map (declared_row known) ys
map_append known [] ys = refl
map_append known (x ∷ xs) ys = ap (λ (t : List Row). declared_row known x ∷ t) (map_append known xs ys)

length_replicate : (n : ℕ) → length (replicate {A = ℕ} n 10) ≡ n
length_replicate zero = refl
length_replicate (suc n) = ap suc (length_replicate n)

row_length : (at : ℕ) (row : Row) → length (text_from at (row ∷ [])) ≡ (row.line - at) + length ((row.text ++ 10 ∷ []) ++ [])
row_length at row =
    ap length (row_text at row [])
    ∙ (length-append (replicate {A = ℕ} (row.line - at) 10) ((row.text ++ 10 ∷ []) ++ [])
    ∙ ap (λ (n : ℕ). n + length ((row.text ++ 10 ∷ []) ++ [])) (length_replicate (row.line - at)))

module _ (known : Known) (entries : List Entry) (old new : List ℕ) (next : ℕ)
    (prints : (more : List Entry) → new ++ trace_text known next more ≡ old ++ trace_text known 2 (entries ++ more)) where
  abbrev declared : List Row
  declared = map (declared_row known) entries

  prints_rows : (more : List Entry) → new ++ text_from next (map (declared_row known) more) ≡ old ++ (text_from 2 declared ++ text_from (behind 2 declared) (map (declared_row known) more))
  prints_rows more =
      ap (λ (t : List ℕ). new ++ t) (sym (entry_text_from known next more))
      ∙ (prints more
      ∙ ap (λ (t : List ℕ). old ++ t)
      (entry_text_from known 2 (entries ++ more) ∙ (ap (text_from 2) (map_append known entries more) ∙ split 2 declared (map (declared_row known) more))))

  new_is : new ≡ old ++ text_from 2 declared
  new_is = sym (append-nil new) ∙ (prints_rows [] ∙ ap (λ (t : List ℕ). old ++ t) (append-nil (text_from 2 declared)))

  -- the next line is the one behind the last: else a further entry would not stand on its line
  next_is : next ≡ behind 2 declared
  next_is =
      let line = next + behind 2 declared in
      let entry = OfMemory (memory_at line [] [] None) in
      let row : Row = declared_row known entry in
      let same : new ++ text_from next (row ∷ []) ≡ new ++ text_from (behind 2 declared) (row ∷ []) =
      prints_rows (entry ∷ []) ∙ (sym (append_assoc old (text_from 2 declared) (text_from (behind 2 declared) (row ∷ [])))
      ∙ ap (λ (t : List ℕ). t ++ text_from (behind 2 declared) (row ∷ [])) (sym new_is)) in
      let lengths : length new + length (text_from next (row ∷ [])) ≡ length new + length (text_from (behind 2 declared) (row ∷ [])) =
      sym (length-append new (text_from next (row ∷ []))) ∙ (ap length same ∙ length-append new (text_from (behind 2 declared) (row ∷ []))) in
      let one : length (text_from next (row ∷ [])) ≡ (line - next) + length ((row.text ++ 10 ∷ []) ++ []) = row_length next row in
      let other : length (text_from (behind 2 declared) (row ∷ [])) ≡ (line - behind 2 declared) + length ((row.text ++ 10 ∷ []) ++ []) = row_length (behind 2 declared) row in
      cancel (length new) next (behind 2 declared) (length ((row.text ++ 10 ∷ []) ++ [])) _ _ lengths one other
    where
      cancel : (n a b k x y : ℕ) → n + x ≡ n + y → x ≡ (a + b - a) + k → y ≡ (a + b - b) + k → a ≡ b
      cancel n a b k x y e f g = omega (arith, e, f, g)

  pub declared_printed : PrintsRows old 2 declared new next
  declared_printed more =
      ap (λ (t : List ℕ). t ++ text_from next more) new_is
      ∙ (append_assoc old (text_from 2 declared) (text_from next more)
      ∙ ap (λ (t : List ℕ). old ++ t) (ap (λ (n : ℕ). text_from 2 declared ++ text_from n more) next_is ∙ sym (split 2 declared more)))
