-- Where memories are numbered, the last that begins up to a cell is the one that can have it.
use Rattle.std.proofs.Common.{◌≡◌, ℕ, zero, suc, ◌<◌, ◌≤◌, ◌+◌, ◌-◌, ◌∷◌, [], List, Bool, true, false, cond, arith, refl, sym, ap, subst, ◌∙◌, length, get_or}
use Rattle.std.specs.Prelude.{Some, None, ◌==◌, IsTrue}
use Rattle.std.specs.List.{find}
use Rattle.std.specs.List.Sorted.{IsNonDecreasingBy, IsPartitionPoint}
use Rattle.std.proofs.lemmas.Bool.Decides.{nat_tests}
use Rattle.text_words.specs.declared.value.Mem.{Mem}
use Rattle.trace_text.specs.Shapes.{is_numbered, has_cell}
use Rattle.trace_text.proofs.Kept.{both_true, first_is}

numbered_cons : (from : ℕ) (mem : Mem) (mems : List Mem) → IsTrue (is_numbered from (mem ∷ mems)) → (mem.first ≡ from) × IsTrue (is_numbered (from + mem.cells) mems)
numbered_cons from mem mems h =
    let parts = both_true (mem.first == from) (is_numbered (from + mem.cells) mems) h in
    (first_is mem from parts.0, parts.1)

begins_past : (from : ℕ) (mems : List Mem) (k : ℕ) (d : Mem) → IsTrue (is_numbered from mems) → k < length mems → from ≤ (get_or mems k d).first
begins_past from [] k d h l = absurd (omega arith)
begins_past from (mem ∷ mems) zero d h l =
    let parts = numbered_cons from mem mems h in
    omega arith
begins_past from (mem ∷ mems) (suc k) d h l =
    let parts = numbered_cons from mem mems h in
    omega (arith, begins_past (from + mem.cells) mems k d parts.1 (omega arith))

-- memories begin in their order
pub firsts_rise : (from : ℕ) (mems : List Mem) → IsTrue (is_numbered from mems) → IsNonDecreasingBy (λ (mem : Mem). mem.first) mems
firsts_rise from [] h i j d le l = absurd (omega arith)
firsts_rise from (mem ∷ mems) h zero j d le l =
    let parts = numbered_cons from mem mems h in
    omega (arith, begins_past from (mem ∷ mems) j d h l)
firsts_rise from (mem ∷ mems) h (suc i) zero d le l = absurd (omega arith)
firsts_rise from (mem ∷ mems) h (suc i) (suc j) d le l =
    firsts_rise (from + mem.cells) mems (numbered_cons from mem mems h).1 i j d (omega arith) (omega arith)

not_begun : (cell : ℕ) (mem : Mem) → cell < mem.first → has_cell cell mem ≡ false
not_begun cell mem l = grind (arith, nat_tests)

ended : (cell : ℕ) (mem : Mem) → mem.first + mem.cells ≤ cell → has_cell cell mem ≡ false
ended cell mem l = grind (arith, nat_tests)

skipped : (here : Bool) (mem : Mem) (cell : ℕ) (mems : List Mem) → here ≡ false → cond here (Some mem) (find (has_cell cell) mems) ≡ find (has_cell cell) mems
skipped true mem cell mems e = cc
skipped false mem cell mems e = refl

none_begun : (cell from : ℕ) (mems : List Mem) → IsTrue (is_numbered from mems) → (0 < length mems → cell < from) → find (has_cell cell) mems ≡ None
none_begun cell from [] h l = refl
none_begun cell from (mem ∷ mems) h l =
    let parts = numbered_cons from mem mems h in
    let before : cell < from = l (omega arith) in
    skipped (has_cell cell mem) mem cell mems (not_begun cell mem (omega arith)) ∙ none_begun cell (from + mem.cells) mems parts.1 (λ _. omega arith)

first_begins : (from : ℕ) (mems : List Mem) (d : Mem) → IsTrue (is_numbered from mems) → 0 < length mems → (get_or mems 0 d).first ≡ from
first_begins from [] d h l = absurd (omega arith)
first_begins from (mem ∷ mems) d h l = (numbered_cons from mem mems h).0

-- the memory with the number `k` is the last that begins up to the cell
last_has : (cell from : ℕ) (mems : List Mem) (k : ℕ) (d : Mem) → IsTrue (is_numbered from mems) → k < length mems → (get_or mems k d).first ≤ cell
    → (suc k < length mems → cell < (get_or mems (suc k) d).first) → find (has_cell cell) mems ≡ find (has_cell cell) (get_or mems k d ∷ [])
last_has cell from [] k d h l begun next = absurd (omega arith)
last_has cell from (mem ∷ mems) zero d h l begun next =
    let rest = (numbered_cons from mem mems h).1 in
    ap (λ o. cond (has_cell cell mem) (Some mem) o)
    (none_begun cell (from + mem.cells) mems rest (λ m. omega (arith, next (omega arith), first_begins (from + mem.cells) mems d rest m)))
last_has cell from (mem ∷ mems) (suc k) d h l begun next =
    let parts = numbered_cons from mem mems h in
    let behind = begins_past (from + mem.cells) mems k d parts.1 (omega arith) in
    skipped (has_cell cell mem) mem cell mems (ended cell mem (omega arith))
    ∙ last_has cell (from + mem.cells) mems k d parts.1 (omega arith) begun (λ m. next (omega arith))

-- where none begins up to the cell, none has it
pub none_has : (cell : ℕ) (mems : List Mem) → IsTrue (is_numbered 0 mems) → IsPartitionPoint (λ (mem : Mem). mem.first ≤ cell) (λ (mem : Mem). cell < mem.first) mems 0
    → find (has_cell cell) mems ≡ None
none_has cell [] h point = refl
none_has cell (mem ∷ mems) h point =
    let parts = numbered_cons 0 mem mems h in
    absurd (omega (arith, point.1 0 mem (omega arith) (omega arith)))

module _ (cell : ℕ) (mems : List Mem) (begun : ℕ) (mem : Mem) (numbered : IsTrue (is_numbered 0 mems)) (below : begun ≤ length mems) (some : begun ≡ 0 → ⊥)
    (point : IsPartitionPoint (λ (mem : Mem). mem.first ≤ cell) (λ (mem : Mem). cell < mem.first) mems begun) (is : mem ≡ get_or mems (begun - 1) mem) where
  begins : mem.first ≤ cell
  begins = subst (λ (m : Mem). m.first ≤ cell) (sym is) (point.0 (begun - 1) mem (omega arith) (omega arith))

  only : find (has_cell cell) mems ≡ find (has_cell cell) (mem ∷ [])
  only =
      last_has cell 0 mems (begun - 1) mem numbered (omega arith) (point.0 (begun - 1) mem (omega arith) (omega arith)) (λ m. point.1 (suc (begun - 1)) mem (omega arith) m)
      ∙ ap (λ (m : Mem). find (has_cell cell) (m ∷ [])) (sym is)

  -- the last that begins up to the cell has it where its cells reach so far
  pub last_found : cell - mem.first < mem.cells → find (has_cell cell) mems ≡ Some mem
  last_found k = only ∙ ap (λ b. cond b (Some mem) None) (has mem begins k)
    where
      has : (m : Mem) → m.first ≤ cell → cell - m.first < m.cells → has_cell cell m ≡ true
      has m b k = grind (arith, nat_tests)

  -- and where they do not, none has it
  pub last_misses : mem.cells ≤ cell - mem.first → find (has_cell cell) mems ≡ None
  last_misses k = only ∙ ap (λ b. cond b (Some mem) None) (ended cell mem (omega (arith, begins)))
