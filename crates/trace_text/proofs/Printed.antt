-- What printing appends.
use Rattle.std.proofs.Common.{◌≡◌, ℕ, zero, suc, ◌+◌, ◌-◌, ◌≤◌, ◌∷◌, ◌++◌, [], List, Bool, true, false, cond, arith, refl, sym, ◌∙◌, ap, replicate, append_assoc, length, get_or, drop, drop-cons, add-one, ◌<◌}
use Rattle.std.specs.Prelude.{Some, None, flat_map, nat_lt}
use Rattle.std.proofs.lemmas.Bool.Decides.{nat_tests}
use Rattle.std.proofs.lemmas.List.{replicate-append-replicate, append-nil}
use Rattle.std.specs.Fmt.{decimal}
use Rattle.trace_text.specs.declared.keyword.Keyword.{Keyword}
use Rattle.model_accesses.specs.declared.request.Act.{Act}
use Rattle.model_accesses.specs.declared.request.Act.TheVariants.{Spawn, Sync, Call, Return, Read, Write, Bump, Update, Put, Get}
use Rattle.text_words.specs.declared.value.Mem.{Mem}
use Rattle.text_words.specs.declared.value.Reducer.{Reducer}
use Rattle.text_words.specs.declared.value.TraceLine.{TraceLine}
use Rattle.text_words.specs.Values.{Known}
use Rattle.trace_text.specs.Lines.{spelling, asks, operands, if_there, OfNumber}
use Rattle.trace_text.specs.Printing.{Entry, OfRequest, OfMemory, OfReducer, merged_into, declarations, StartsPast, TakesReducers, entry_line, entry_text, operand_text, plain_line, text_from, PrintsEntry, lines_from}

pub one_more_feed : (from at : ℕ) → from ≤ at → replicate {A = ℕ} (at + 1 - from) 10 ≡ replicate {A = ℕ} (at - from) 10 ++ 10 ∷ []
one_more_feed from at l =
    let e : at + 1 - from ≡ at - from + 1 = omega arith in
    ap (λ (n : ℕ). replicate {A = ℕ} n 10) e ∙ sym (replicate-append-replicate (at - from) 1 10)

-- ---- a request

abbrev pub mark_text : Bool → ℕ → List ℕ
mark_text marked line = cond marked (32 ∷ 64 ∷ decimal line) []

plain_request : (known : Known) (strand : ℕ) (a : Act) (marked : Bool) (line : ℕ)
    → plain_line known (asks a) (OfNumber strand ∷ (operands a ++ if_there (cond marked (Some line) None)))
    ≡ spelling (asks a) ++ 32 ∷ (decimal strand ++ (operand_text known a ++ mark_text marked line))
plain_request known strand Spawn true line = simp append-nil
plain_request known strand Spawn false line = simp append-nil
plain_request known strand Sync true line = simp append-nil
plain_request known strand Sync false line = simp append-nil
plain_request known strand Call true line = simp append-nil
plain_request known strand Call false line = simp append-nil
plain_request known strand Return true line = simp append-nil
plain_request known strand Return false line = simp append-nil
plain_request known strand (Read cell) true line = simp (append_assoc, append-nil)
plain_request known strand (Read cell) false line = simp (append_assoc, append-nil)
plain_request known strand (Write cell value) true line = simp (append_assoc, append-nil)
plain_request known strand (Write cell value) false line = simp (append_assoc, append-nil)
plain_request known strand (Bump cell value) true line = simp (append_assoc, append-nil)
plain_request known strand (Bump cell value) false line = simp (append_assoc, append-nil)
plain_request known strand (Update reducer value) true line = simp (append_assoc, append-nil)
plain_request known strand (Update reducer value) false line = simp (append_assoc, append-nil)
plain_request known strand (Put reducer value) true line = simp (append_assoc, append-nil)
plain_request known strand (Put reducer value) false line = simp (append_assoc, append-nil)
plain_request known strand (Get reducer) true line = simp (append_assoc, append-nil)
plain_request known strand (Get reducer) false line = simp (append_assoc, append-nil)

pub request_text : (known : Known) (line : TraceLine)
    → entry_text known (OfRequest line) ≡ spelling (asks line.request.act) ++ 32 ∷ (decimal line.request.strand ++ (operand_text known line.request.act ++ mark_text line.marked line.request.line))
request_text known line = plain_request known line.request.strand line.request.act line.marked line.request.line

-- ---- a line

feeds_are : (n : ℕ) (rest : List (List ℕ)) → flat_map (λ line. line ++ 10 ∷ []) (replicate {A = List ℕ} n [] ++ rest) ≡ replicate {A = ℕ} n 10 ++ flat_map (λ line. line ++ 10 ∷ []) rest
feeds_are zero rest = refl
feeds_are (suc n) rest = ap (λ (t : List ℕ). 10 ∷ t) (feeds_are n rest)

-- the feeds before an entry, the entry and the feed behind it are its line
pub entry_printed : (known : Known) (old : List ℕ) (at : ℕ) (entry : Entry) → PrintsEntry known old at entry (old ++ replicate {A = ℕ} (entry_line entry - at) 10 ++ entry_text known entry ++ 10 ∷ []) (entry_line entry + 1)
entry_printed known old at entry entries =
    simp append_assoc (ap (λ (t : List ℕ). old ++ t)
    (sym (feeds_are (entry_line entry - at) (entry_text known entry ∷ lines_from known (entry_line entry + 1) entries) ∙ simp append_assoc)))

pub entry_steps : (known : Known) (entry : Entry) (at line next : ℕ) (old fed put new : List ℕ) → line ≡ entry_line entry → next ≡ entry_line entry + 1
    → fed ≡ old ++ replicate {A = ℕ} (line - at) 10 → put ≡ fed ++ entry_text known entry → new ≡ put ++ 10 ∷ [] → PrintsEntry known old at entry new next
entry_steps known entry at line next old fed put new e f g h k entries =
    let text : new ≡ old ++ replicate {A = ℕ} (entry_line entry - at) 10 ++ entry_text known entry ++ 10 ∷ [] =
    k ∙ ap (λ (t : List ℕ). t ++ 10 ∷ []) (h ∙ ap (λ (t : List ℕ). t ++ entry_text known entry) (g ∙ ap (λ (n : ℕ). old ++ replicate {A = ℕ} (n - at) 10) e)) in
    ap (λ (t : List ℕ). t ++ text_from known next entries) text
    ∙ (ap (λ (n : ℕ). (old ++ replicate {A = ℕ} (entry_line entry - at) 10 ++ entry_text known entry ++ 10 ∷ []) ++ text_from known n entries) f
    ∙ entry_printed known old at entry entries)

regroup : (old word number operands mark : List ℕ) → (((old ++ word) ++ 32 ∷ number) ++ operands) ++ mark ≡ old ++ (word ++ 32 ∷ (number ++ (operands ++ mark)))
regroup old word number operands mark = simp append_assoc

pub request_steps : (known : Known) (line : TraceLine) (keyword : Keyword) (strand : ℕ) (word old first second third new : List ℕ) → word ≡ spelling keyword → keyword ≡ asks line.request.act
    → strand ≡ line.request.strand → first ≡ old ++ word → second ≡ first ++ 32 ∷ decimal strand → third ≡ second ++ operand_text known line.request.act
    → new ≡ third ++ mark_text line.marked line.request.line → new ≡ old ++ entry_text known (OfRequest line)
request_steps known line keyword strand word old first second third new e f g h i j k =
    let parts : new ≡ (((old ++ spelling (asks line.request.act)) ++ 32 ∷ decimal line.request.strand) ++ operand_text known line.request.act) ++ mark_text line.marked line.request.line =
    k ∙ ap (λ (t : List ℕ). t ++ mark_text line.marked line.request.line)
    (j ∙ ap (λ (t : List ℕ). t ++ operand_text known line.request.act)
    (i ∙ (ap (λ (n : ℕ). first ++ 32 ∷ decimal n) g ∙ ap (λ (t : List ℕ). t ++ 32 ∷ decimal line.request.strand) (h ∙ ap (λ (w : List ℕ). old ++ w) (e ∙ ap spelling f))))) in
    parts ∙ (regroup old (spelling (asks line.request.act)) (decimal line.request.strand) (operand_text known line.request.act) (mark_text line.marked line.request.line) ∙ ap (λ (t : List ℕ). old ++ t) (sym (request_text known line)))

-- ---- declarations

merged_past : (bound : ℕ) (mem : Mem) (rest : List Reducer → List Entry) (left : List Reducer) → bound ≡ mem.line → StartsPast bound left → merged_into mem rest left ≡ OfMemory mem ∷ rest left
merged_past bound mem rest [] e h = refl
merged_past bound mem rest (r ∷ left) e h =
    let before : nat_lt mem.line r.line ≡ true = grind (arith, nat_tests) in
    ap (λ (b : Bool). cond b (OfMemory mem ∷ rest (r ∷ left)) (OfReducer r ∷ merged_into mem rest left)) before

merged_takes : (bound : ℕ) (mem : Mem) (rest : List Reducer → List Entry) (requests : List Entry) → bound ≡ mem.line → TakesReducers bound (λ rs. merged_into mem rest rs ++ requests)
merged_takes bound mem rest requests e r rs l =
    let after : nat_lt mem.line r.line ≡ false = grind (arith, nat_tests) in
    ap (λ (b : Bool). cond b (OfMemory mem ∷ rest (r ∷ rs)) (OfReducer r ∷ merged_into mem rest rs) ++ requests) after

pub drop_here : {A : Type 0} (xs : List A) (i : ℕ) (x : A) → i < length xs → x ≡ get_or xs i x → drop i xs ≡ x ∷ drop (i + 1) xs
drop_here {A} xs i x l e = rw (add-one, drop-cons xs i x) (ap (λ (y : A). y ∷ drop (suc i) xs) (sym e))

pub declared_step : (known : Known) (mem : Mem) (more : List Mem) (requests : List Entry) (bound : ℕ) (old mid new whole : List ℕ) (at next after : ℕ) (rest left : List Reducer)
    → bound ≡ mem.line → StartsPast bound left
    → ((merged : List Reducer → List Entry) → TakesReducers bound merged → mid ++ text_from known next (merged left) ≡ old ++ text_from known at (merged rest))
    → PrintsEntry known mid next (OfMemory mem) new after
    → old ++ text_from known at (declarations (mem ∷ more) rest ++ requests) ≡ whole
    → new ++ text_from known after (declarations more left ++ requests) ≡ whole
declared_step known mem more requests bound old mid new whole at next after rest left e past prints entry is =
    entry (declarations more left ++ requests)
    ∙ (ap (λ (es : List Entry). mid ++ text_from known next (es ++ requests)) (sym (merged_past bound mem (declarations more) left e past))
    ∙ (prints (λ rs. merged_into mem (declarations more) rs ++ requests) (merged_takes bound mem (declarations more) requests e) ∙ is))
