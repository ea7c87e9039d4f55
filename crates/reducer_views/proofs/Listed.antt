-- A table of touches and its list agree.
use Rattle.std.proofs.Common.{◌≡◌, ◌≢◌, ◌↔◌, inl, inr, ℕ, ◌+◌, ◌-◌, ◌*◌, ◌/◌, ◌%◌, [], ◌∷◌, ◌++◌, map, Option, Some, None, Box, refl, sym, ap, ap₂, ◌∙◌, arith, lit<, ◌<◌}
use Rattle.std.proofs.lemmas.Bool.Decides.{eqb_tells}
use Rattle.reducer_views.specs.declared.touched.Touch.{Touch}
use Rattle.reducer_views.specs.declared.touched.Slot.{Slot, Slot', Held-Slot-odd, None', Some'}
use Rattle.reducer_views.specs.Touched.{touch_in, spread, column_from, column_behind, touches_of, Listed, look_up, alone, spread_list, listed_from, listed_behind, placed, of_columns, listed_of}
use Rattle.reducer_views.proofs.Touches.{is_first, is_odd, is_even, way, spread_first, spread_odd, spread_even, spread_alike}

abbrev or_else : Option Touch → Option Touch → Option Touch
or_else None other = other
or_else (Some touch) other = Some touch

or_else_none : (touch : Option Touch) → or_else touch None ≡ touch
or_else_none None = refl
or_else_none (Some touch) = refl

look_up-here : (number reducer : ℕ) (touch : Touch) (rest : Listed) → number ≡ reducer → look_up ((number, touch) ∷ rest) reducer ≡ Some touch
look_up-here number reducer touch rest e = elim (eqb_tells number reducer) [ inl t ↦ rw t.0 refl | inr t ↦ absurd (t.1 e) ]

look_up-there : (number reducer : ℕ) (touch : Touch) (rest : Listed) → number ≢ reducer → look_up ((number, touch) ∷ rest) reducer ≡ look_up rest reducer
look_up-there number reducer touch rest ne = elim (eqb_tells number reducer) [ inl t ↦ absurd (ne t.1) | inr t ↦ rw t.0 refl ]

look_up-append : (first second : Listed) (reducer : ℕ) → look_up (first ++ second) reducer ≡ or_else (look_up first reducer) (look_up second reducer)
look_up-append [] second reducer = refl
look_up-append ((number, touch) ∷ first) second reducer = elim (eqb_tells number reducer) [
  | inl t ↦ look_up-here number reducer touch (first ++ second) t.1 ∙ sym (ap (λ o. or_else o (look_up second reducer)) (look_up-here number reducer touch first t.1))
  | inr t ↦ look_up-there number reducer touch (first ++ second) t.1 ∙ (look_up-append first second reducer ∙
      sym (ap (λ o. or_else o (look_up second reducer)) (look_up-there number reducer touch first t.1)))
]

-- entries that are numbered anew
look_up-renumbered : (renumber : ℕ → ℕ) (entries : Listed) (reducer back : ℕ) → ((number : ℕ) → (renumber number ≡ reducer) ↔ (number ≡ back)) →
    look_up (map (λ entry. (renumber entry.0, entry.1)) entries) reducer ≡ look_up entries back
look_up-renumbered renumber [] reducer back same = refl
look_up-renumbered renumber ((number, touch) ∷ entries) reducer back same = elim (eqb_tells number back) [
  | inl t ↦ look_up-here (renumber number) reducer touch (map (λ entry. (renumber entry.0, entry.1)) entries) ((same number).1 t.1) ∙ sym (look_up-here number back touch entries t.1)
  | inr t ↦ look_up-there (renumber number) reducer touch (map (λ entry. (renumber entry.0, entry.1)) entries) (λ e. t.1 ((same number).0 e)) ∙
      (look_up-renumbered renumber entries reducer back same ∙ sym (look_up-there number back touch entries t.1))
]

look_up-absent : (renumber : ℕ → ℕ) (entries : Listed) (reducer : ℕ) → ((number : ℕ) → renumber number ≢ reducer) →
    look_up (map (λ entry. (renumber entry.0, entry.1)) entries) reducer ≡ None
look_up-absent renumber [] reducer off = refl
look_up-absent renumber ((number, touch) ∷ entries) reducer off =
    look_up-there (renumber number) reducer touch (map (λ entry. (renumber entry.0, entry.1)) entries) (off number) ∙ look_up-absent renumber entries reducer off

look_up-alone : (first : Option Touch) (reducer : ℕ) → reducer ≢ 0 → look_up (alone first) reducer ≡ None
look_up-alone None reducer ne = refl
look_up-alone (Some touch) reducer ne = look_up-there 0 reducer touch [] (λ e. ne (sym e))

look_up-alone_first : (first : Option Touch) (reducer : ℕ) → reducer ≡ 0 → look_up (alone first) reducer ≡ first
look_up-alone_first None reducer e = refl
look_up-alone_first (Some touch) reducer e = look_up-here 0 reducer touch [] (sym e)

module _ (first : Option Touch) (odd even : Listed) (reducer : ℕ) where
  parts : look_up (spread_list first odd even) reducer ≡
      or_else (look_up (alone first) reducer) (or_else (look_up (map (λ entry. (2 * entry.0 + 1, entry.1)) odd) reducer) (look_up (map (λ entry. (2 * entry.0 + 2, entry.1)) even) reducer))
  parts =
      look_up-append (alone first) (map (λ entry. (2 * entry.0 + 1, entry.1)) odd ++ map (λ entry. (2 * entry.0 + 2, entry.1)) even) reducer ∙
      ap (or_else (look_up (alone first) reducer)) (look_up-append (map (λ entry. (2 * entry.0 + 1, entry.1)) odd) (map (λ entry. (2 * entry.0 + 2, entry.1)) even) reducer)

  no_odd : (reducer % 2 ≡ 1 → ⊥) → look_up (map (λ entry. (2 * entry.0 + 1, entry.1)) odd) reducer ≡ None
  no_odd ne = look_up-absent (λ n. 2 * n + 1) odd reducer (λ n e. ne (omega arith))

  zero_not_odd : reducer ≡ 0 → reducer % 2 ≡ 1 → ⊥
  zero_not_odd e o = let q : 0 % 2 ≡ 1 = sym (ap (λ n. n % 2) e) ∙ o in let z : 0 % 2 ≡ 0 = refl in omega (arith, q, z)

  back_even : (n : ℕ) → reducer ≢ 0 → (reducer % 2 ≡ 1 → ⊥) → n ≡ (reducer - 1) / 2 → 2 * n + 2 ≡ reducer
  back_even n ne o e = omega arith

  no_even : (reducer ≡ 0) → look_up (map (λ entry. (2 * entry.0 + 2, entry.1)) even) reducer ≡ None
  no_even e = look_up-absent (λ n. 2 * n + 2) even reducer (λ n q. omega arith)

  no_even_at_odd : reducer % 2 ≡ 1 → look_up (map (λ entry. (2 * entry.0 + 2, entry.1)) even) reducer ≡ None
  no_even_at_odd e = look_up-absent (λ n. 2 * n + 2) even reducer (λ n q. omega arith)

  pub look_up-spread_list : look_up (spread_list first odd even) reducer ≡ spread first (look_up odd) (look_up even) reducer
  look_up-spread_list = elim (way reducer) [
    | is_first e ↦ parts ∙ (ap₂ or_else (look_up-alone_first first reducer e) (ap₂ or_else (no_odd (zero_not_odd e)) (no_even e)) ∙ (or_else_none first ∙ sym (spread_first first (look_up odd) (look_up even) reducer e)))
    | is_odd ne o ↦ parts ∙ (ap₂ or_else (look_up-alone first reducer ne)
        (ap₂ or_else (look_up-renumbered (λ n. 2 * n + 1) odd reducer ((reducer - 1) / 2) (λ n. ((λ e. omega arith), (λ e. omega arith)))) (no_even_at_odd o)) ∙
        (or_else_none (look_up odd ((reducer - 1) / 2)) ∙ sym (spread_odd first (look_up odd) (look_up even) reducer ne o)))
    | is_even ne o ↦ parts ∙ (ap₂ or_else (look_up-alone first reducer ne)
        (ap₂ or_else (no_odd o) (look_up-renumbered (λ n. 2 * n + 2) even reducer ((reducer - 1) / 2) (λ n. ((λ e. omega arith), (λ e. back_even n ne o e))))) ∙
        sym (spread_even first (look_up odd) (look_up even) reducer ne o))
  ]

mutual
  look_up-listed_from : {A : Type 0} (slot : Slot A) (place number : ℕ) → look_up (listed_from slot place) number ≡ column_from slot place number
  look_up-listed_from (Slot' row odd even later) place number =
      look_up-spread_list (touch_in row place) (listed_behind odd place) (listed_behind even place) number ∙
      spread_alike (touch_in row place) (touch_in row place) (look_up (listed_behind odd place)) (column_behind odd place) (look_up (listed_behind even place)) (column_behind even place) refl
      (look_up-listed_behind odd place) (look_up-listed_behind even place) number

  look_up-listed_behind : {A : Type 0} (slots : Held-Slot-odd A) (place number : ℕ) → look_up (listed_behind slots place) number ≡ column_behind slots place number
  look_up-listed_behind None' place number = refl
  look_up-listed_behind (Some' p slot) place number = look_up-listed_from slot place number

-- the entries of a column, by the reducers
placed_here : (place : ℕ) (entries : Listed) (reducer : ℕ) → reducer % 4 ≡ place → look_up (placed place entries) reducer ≡ look_up entries (reducer / 4)
placed_here place entries reducer e = look_up-renumbered (λ n. 4 * n + place) entries reducer (reducer / 4) (λ n. ((λ q. omega (arith, e, q)), (λ q. omega (arith, e, q))))

placed_elsewhere : (place : ℕ) (entries : Listed) (reducer : ℕ) → place < 4 → reducer % 4 ≢ place → look_up (placed place entries) reducer ≡ None
placed_elsewhere place entries reducer small ne = look_up-absent (λ n. 4 * n + place) entries reducer (λ n q. ne (omega (arith, small, q)))

placed_apart : (place other : ℕ) (entries : Listed) (reducer : ℕ) → place < 4 → reducer % 4 ≡ other → other ≢ place → look_up (placed place entries) reducer ≡ None
placed_apart place other entries reducer small e ne = placed_elsewhere place entries reducer small (λ q. ne (sym e ∙ q))

data Fourth (reducer : ℕ) : Type 0 where
  is_0 : reducer % 4 ≡ 0 → Fourth reducer
  is_1 : reducer % 4 ≡ 1 → Fourth reducer
  is_2 : reducer % 4 ≡ 2 → Fourth reducer
  is_3 : reducer % 4 ≡ 3 → Fourth reducer

fourth : (reducer : ℕ) → Fourth reducer
fourth reducer = elim (eqb_tells (reducer % 4) 0) [
  | inl t ↦ is_0 t.1
  | inr t ↦ elim (eqb_tells (reducer % 4) 1) [
    | inl u ↦ is_1 u.1
    | inr u ↦ elim (eqb_tells (reducer % 4) 2) [ inl v ↦ is_2 v.1 | inr v ↦ is_3 (last reducer t.1 u.1 v.1) ]
  ]
]
  where
    last : (reducer : ℕ) → reducer % 4 ≢ 0 → reducer % 4 ≢ 1 → reducer % 4 ≢ 2 → reducer % 4 ≡ 3
    last reducer a b c = omega arith

module _ (column : ℕ → Listed) (reducer : ℕ) where
  four : look_up (of_columns column) reducer ≡
      or_else (look_up (placed 0 (column 0)) reducer) (or_else (look_up (placed 1 (column 1)) reducer) (or_else (look_up (placed 2 (column 2)) reducer) (look_up (placed 3 (column 3)) reducer)))
  four =
      look_up-append (placed 0 (column 0)) (placed 1 (column 1) ++ (placed 2 (column 2) ++ placed 3 (column 3))) reducer ∙
      ap (or_else (look_up (placed 0 (column 0)) reducer)) (look_up-append (placed 1 (column 1)) (placed 2 (column 2) ++ placed 3 (column 3)) reducer ∙
      ap (or_else (look_up (placed 1 (column 1)) reducer)) (look_up-append (placed 2 (column 2)) (placed 3 (column 3)) reducer))

  in_place : (place : ℕ) → reducer % 4 ≡ place → look_up (placed place (column place)) reducer ≡ look_up (column (reducer % 4)) (reducer / 4)
  in_place place e = placed_here place (column place) reducer e ∙ ap (λ (p : ℕ). look_up (column p) (reducer / 4)) (sym e)

  apart : (place other : ℕ) → place < 4 → reducer % 4 ≡ other → other ≢ place → look_up (placed place (column place)) reducer ≡ None
  apart place other small e ne = placed_apart place other (column place) reducer small e ne

  look_up-of_columns : look_up (of_columns column) reducer ≡ look_up (column (reducer % 4)) (reducer / 4)
  look_up-of_columns = elim (fourth reducer) [
    | is_0 e ↦ four ∙ (ap₂ or_else (in_place 0 e) (ap₂ or_else (apart 1 0 (lit< tt) e (λ q. omega (arith, q))) (ap₂ or_else (apart 2 0 (lit< tt) e (λ q. omega (arith, q))) (apart 3 0 (lit< tt) e (λ q. omega (arith, q))))) ∙ or_else_none (look_up (column (reducer % 4)) (reducer / 4)))
    | is_1 e ↦ four ∙ (ap₂ or_else (apart 0 1 (lit< tt) e (λ q. omega (arith, q))) (ap₂ or_else (in_place 1 e) (ap₂ or_else (apart 2 1 (lit< tt) e (λ q. omega (arith, q))) (apart 3 1 (lit< tt) e (λ q. omega (arith, q))))) ∙ or_else_none (look_up (column (reducer % 4)) (reducer / 4)))
    | is_2 e ↦ four ∙ (ap₂ or_else (apart 0 2 (lit< tt) e (λ q. omega (arith, q))) (ap₂ or_else (apart 1 2 (lit< tt) e (λ q. omega (arith, q))) (ap₂ or_else (in_place 2 e) (apart 3 2 (lit< tt) e (λ q. omega (arith, q))))) ∙ or_else_none (look_up (column (reducer % 4)) (reducer / 4)))
    | is_3 e ↦ four ∙ ap₂ or_else (apart 0 3 (lit< tt) e (λ q. omega (arith, q))) (ap₂ or_else (apart 1 3 (lit< tt) e (λ q. omega (arith, q))) (ap₂ or_else (apart 2 3 (lit< tt) e (λ q. omega (arith, q))) (in_place 3 e)))
  ]

pub look_up-listed_of : {A : Type 0} (slots : Option (Box (Slot A) A)) (reducer : ℕ) → look_up (listed_of slots) reducer ≡ touches_of slots reducer
look_up-listed_of None reducer = refl
look_up-listed_of (Some slot) reducer = look_up-of_columns (listed_from slot.value) reducer ∙ look_up-listed_from slot.value (reducer % 4) (reducer / 4)
