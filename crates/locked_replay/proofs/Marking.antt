-- Entries that are marked by their receipts.
-- e: an entry; r: a receipt; m: a mark; i: a place among receipts; d: what a list gives where it has no receipt
use Rattle.std.proofs.Common.{◌≡◌, ℕ, ◌+◌, ◌-◌, ◌<◌, ◌≤◌, Bool, true, false, List, [], ◌∷◌, ◌++◌, length, take, drop, get_or, refl, ap, sym, subst, append_assoc, arith, ◌∙◌}
use Rattle.std.proofs.Math.ListN.{set}
use Rattle.std.proofs.Math.Seq.{get_or-append_seam}
use Rattle.std.specs.List.{All}
use Rattle.std.specs.List.Sorted.{IsPermutation}
use Rattle.std.proofs.lemmas.List.{take_more, take-append-drop, length-append, length-set}
use Rattle.std.proofs.lemmas.List.Sums.{sum_by-append, sum_by_push}
use Rattle.std.proofs.lemmas.List.Sorted.{IsPermutation-trans, IsPermutation-sym, IsPermutation-cons, IsPermutation-to_front, sum_by-IsPermutation, All-permutation}
use Rattle.model_histories.specs.declared.answer.Entry.{Entry}
use Rattle.model_histories.specs.declared.reply.Receipt.{Receipt}
use Rattle.locked_replay.specs.Receipts.{receipt_of, numbered, marked, AreMarked, AreAstray}
use Rattle.locked_replay.proofs.Numbered.{length-numbered, numbered_at, has_number, this_number, numbered_once}
use Rattle.locked_replay.proofs.Marks.{marked_more, marked_has}

-- the receipt has the number of an entry, and is that of it
record IsTold (es : List Entry) (e : Entry) (r : Receipt) : Type 0 where
  positive : 0 < r.number
  within : r.number ≤ length es
  same : r ≡ receipt_of r.number (get_or es (r.number - 1) e)

all_told : (es : List Entry) (e : Entry) → All (IsTold es e) (numbered 1 es)
all_told es e k d inside =
    let low : k < length es = subst (λ n. k < n) (length-numbered 1 es) inside in
    let n : k ≡ (1 + k) - 1 = omega arith in
    subst (IsTold es e) (sym (numbered_at 1 es k d e low))
    (record { positive = omega arith; within = omega (arith, low); same = ap (λ i. receipt_of (1 + k) (get_or es i e)) n })

last_of : (met : List Receipt) (r : Receipt) (more : List Receipt) (P : Receipt → Type 0) → All P ((met ++ r ∷ []) ++ more) → P r
last_of met r more P all =
    let joined : (met ++ r ∷ []) ++ more ≡ met ++ r ∷ more = append_assoc met (r ∷ []) more in
    let low : length met < length (met ++ r ∷ more) = omega (arith, length-append met (r ∷ more)) in
    subst P (get_or-append_seam met r more r) (subst (All P) joined all (length met) r low)

told : (es : List Entry) (e : Entry) (met : List Receipt) (r : Receipt) (more : List Receipt) → IsPermutation ((met ++ r ∷ []) ++ more) (numbered 1 es) → IsTold es e r
told es e met r more moved =
    last_of met r more (IsTold es e) (All-permutation (IsTold es e) (numbered 1 es) ((met ++ r ∷ []) ++ more) (IsPermutation-sym _ _ moved) (all_told es e))

-- a receipt that has no entry's number
pub astray_number : (es : List Entry) (met : List Receipt) (r : Receipt) → (0 < r.number → r.number ≤ length es → ⊥) → AreAstray es (met ++ r ∷ [])
astray_number es met r none more moved =
    let e : Entry = record { request = r.request; answer = r.answer } in
    let is = told es e met r more moved in none is.positive is.within

-- one that isn't that of the entry with its number
pub astray_other : (es : List Entry) (met : List Receipt) (r : Receipt) (place : ℕ) (e : Entry) → r.number ≡ place + 1 →
    (r ≡ receipt_of r.number (get_or es place e) → ⊥) → AreAstray es (met ++ r ∷ [])
astray_other es met r place e at other more moved =
    let n : r.number - 1 ≡ place = omega (arith, at) in
    other ((told es e met r more moved).same ∙ ap (λ i. receipt_of r.number (get_or es i e)) n)

-- one that has the number of a marked entry
pub astray_twice : (marks : List Bool) (es : List Entry) (met : List Receipt) (r : Receipt) (place : ℕ) (m : Bool) → r.number ≡ place + 1 → place < length es →
    get_or marks place m ≡ true → AreMarked marks es met → AreAstray es (met ++ r ∷ [])
astray_twice marks es met r place m at low is are more moved =
    let e : Entry = record { request = r.request; answer = r.answer } in
    let all = numbered 1 es in
    let count : Receipt → ℕ = has_number r.number in
    let here = numbered_at 1 es place r e low in
    let this : count (get_or all place r) ≡ 1 = this_number r.number (get_or all place r) (ap (λ (x : Receipt). x.number) here ∙ omega (arith, at)) in
    let before = marked_has count marks all place m r (are.0 ∙ sym (length-numbered 1 es)) (omega (arith, low, length-numbered 1 es)) is in
    let same = sum_by-IsPermutation count met (marked marks all) are.1 in
    let most = numbered_once r.number 1 es in
    let whole = sum_by-IsPermutation count ((met ++ r ∷ []) ++ more) all moved in
    let parts = sum_by-append count (met ++ r ∷ []) more in
    let front = sum_by_push count met r in
    absurd (omega (arith, this, before, same, most, whole, parts, front, this_number r.number r refl))

-- one more entry is marked
pub marked_next : (marks : List Bool) (es : List Entry) (met : List Receipt) (r : Receipt) (place : ℕ) (m : Bool) (e : Entry) → r.number ≡ place + 1 → place < length es →
    get_or marks place m ≡ false → r ≡ receipt_of r.number (get_or es place e) → AreMarked marks es met → AreMarked (set marks place true) es (met ++ r ∷ [])
marked_next marks es met r place m e at low unset is are =
    let all = numbered 1 es in
    let number : 1 + place ≡ r.number = omega (arith, at) in
    let here : get_or all place r ≡ r = numbered_at 1 es place r e low ∙ ap (λ n. receipt_of n (get_or es place e)) number ∙ sym is in
    let more = marked_more marks all place m r (are.0 ∙ sym (length-numbered 1 es)) (omega (arith, low, length-numbered 1 es)) unset in (
      length-set marks place true ∙ are.0,
      IsPermutation-trans _ _ _ (IsPermutation-to_front met r) (IsPermutation-trans _ _ _ (IsPermutation-cons r _ _ are.1) (subst (λ (x : Receipt). IsPermutation (x ∷ marked marks all) (marked (set marks place true) all)) here more)),
    )

-- what is astray stays so, whatever follows
pub astray_on : (es : List Entry) (met after : List Receipt) → AreAstray es met → AreAstray es (met ++ after)
astray_on es met after astray more moved = astray (after ++ more) (subst (λ (l : List Receipt). IsPermutation l (numbered 1 es)) (append_assoc met after more) moved)

-- one more of some receipts
pub one_more : (met rs : List Receipt) (i : ℕ) (d : Receipt) → i < length rs → (met ++ take i rs) ++ get_or rs i d ∷ [] ≡ met ++ take (i + 1) rs
one_more met rs i d low = append_assoc met (take i rs) (get_or rs i d ∷ []) ∙ ap (λ l. met ++ l) (sym (take_more rs i d low))

-- so they're astray with all of them
pub astray_at : (es : List Entry) (met rs : List Receipt) (i : ℕ) (d : Receipt) → i < length rs → AreAstray es ((met ++ take i rs) ++ get_or rs i d ∷ []) → AreAstray es (met ++ rs)
astray_at es met rs i d low astray =
    let whole : (met ++ take (i + 1) rs) ++ drop (i + 1) rs ≡ met ++ rs = append_assoc met (take (i + 1) rs) (drop (i + 1) rs) ∙ ap (λ l. met ++ l) (take-append-drop (i + 1) rs) in
    subst (AreAstray es) whole (astray_on es (met ++ take (i + 1) rs) (drop (i + 1) rs) (subst (AreAstray es) (one_more met rs i d low) astray))
