-- What is kept after a spawn.
use Rattle.std.proofs.Common.{◌≡◌, ◌≢◌, ◌⊎◌, inl, inr, ℕ, ◌+◌, ◌<◌, ◌≤◌, Bool, true, false, List, [], ◌∷◌, ◌++◌, length, get_or, set, refl, sym, ap, ap₂, ◌∙◌, subst, subst₂, arith, lit≤, length-append}
use Rattle.std.proofs.lemmas.List.{get_or_append_left, get_or_past, get_or-set_other, get_or-set_same, length-set, map-append, map-set}
use Rattle.std.proofs.Math.Seq.{get_or-append_seam}
use Rattle.model_reducers.specs.declared.monoid.Monoid.{Monoid}
use Rattle.reducer_views.specs.Touched.{look_up, AreTouches}
use Rattle.reducer_views.specs.Pieces.{Kept, kept_of, all_kept, kept_at, home_at, later_at, touches_at, AreKept, more_strands, Grown}
use Rattle.law_strands.proofs.Updates.{same_or_not}
use Rattle.reducer_views.specs.declared.pieces.Piece.{Piece}
use Rattle.reducer_views.proofs.KeptLists.{nothing_kept, kept_here, length-all_kept}
use Rattle.law_strands.proofs.Places.{below_or_beyond}

added_old : (strands : List Kept) (kept : Kept) (x : ℕ) → x < length strands → kept_at (strands ++ (kept ∷ [])) x ≡ kept_at strands x
added_old strands kept x lt = get_or_append_left strands (kept ∷ []) nothing_kept x lt

added_new : (strands : List Kept) (kept : Kept) (x : ℕ) → x ≡ length strands → kept_at (strands ++ (kept ∷ [])) x ≡ kept
added_new strands kept x e = ap (kept_at (strands ++ (kept ∷ []))) e ∙ get_or-append_seam strands kept [] nothing_kept

length-added : (strands : List Kept) (kept : Kept) → length (strands ++ (kept ∷ [])) ≡ 1 + length strands
length-added strands kept = omega (arith, length-append strands (kept ∷ []))

-- two are added
module _ (strands : List Kept) (home : ℕ) where
  abbrev child_kept : Kept
  child_kept = record { home = home; later = 0; touches = [] }

  abbrev next_kept : Kept
  next_kept = record { home = 1 + length strands; later = 0; touches = [] }

  abbrev join_kept : Kept
  join_kept = record { home = home; later = 1 + length strands; touches = [] }

  abbrev pub two : List Kept
  two = (strands ++ (child_kept ∷ [])) ++ (next_kept ∷ [])

  abbrev pub three : List Kept
  three = two ++ (join_kept ∷ [])

  length-two : length two ≡ 2 + length strands
  length-two = omega (arith, length-added strands child_kept, length-added (strands ++ (child_kept ∷ [])) next_kept)

  two_old : (x : ℕ) → x < length strands → kept_at two x ≡ kept_at strands x
  two_old x lt = added_old (strands ++ (child_kept ∷ [])) next_kept x (omega (arith, length-added strands child_kept, lt)) ∙ added_old strands child_kept x lt

  two_child : (x : ℕ) → x ≡ length strands → kept_at two x ≡ child_kept
  two_child x e = added_old (strands ++ (child_kept ∷ [])) next_kept x (omega (arith, length-added strands child_kept, e)) ∙ added_new strands child_kept x e

  two_next : (x : ℕ) → x ≡ 1 + length strands → kept_at two x ≡ next_kept
  two_next x e = added_new (strands ++ (child_kept ∷ [])) next_kept x (omega (arith, length-added strands child_kept, e))

  pub grown_first : Grown strands three home true
  grown_first = record {
    len = omega (arith, length-added two join_kept, length-two);
    child = λ x e. added_old two join_kept x (omega (arith, length-two, e)) ∙ two_child x e;
    next = λ x e. added_old two join_kept x (omega (arith, length-two, e)) ∙ two_next x e;
    join = λ x t e. added_new two join_kept x (omega (arith, length-two, e));
    beyond = λ x le. get_or_past three x nothing_kept le;
    homes = λ x lt. ap (λ k. k.home) (old x lt);
    touched = λ x lt. ap (λ k. look_up k.touches) (old x lt);
    laters = λ x lt ne. ap (λ k. k.later) (old x lt);
    tail = λ f. absurd (let q : true ≡ false = f in cc);
  }
    where
      old : (x : ℕ) → x < length strands → kept_at three x ≡ kept_at strands x
      old x lt = added_old two join_kept x (omega (arith, length-two, lt)) ∙ two_old x lt

  pub grown_later : (kept : Kept) → home < length strands → kept.home ≡ home_at two home → kept.later ≡ 1 + length strands → kept.touches ≡ (kept_at two home).touches → Grown strands (set two home kept) home false
  grown_later kept low same_home new_later same_touches = record {
    len = length-set two home kept ∙ length-two;
    child = λ x e. away x (λ q. omega (arith, q, e, low)) ∙ two_child x e;
    next = λ x e. away x (λ q. omega (arith, q, e, low)) ∙ two_next x e;
    join = λ x t e. absurd (let q : false ≡ true = t in cc);
    beyond = λ x le. get_or_past (set two home kept) x nothing_kept le;
    homes = λ x lt. elim (same_or_not x home) [
      | inl e ↦ ap (λ k. k.home) (here x e) ∙ (same_home ∙ (ap (home_at two) (sym e) ∙ ap (λ k. k.home) (two_old x lt)))
      | inr ne ↦ ap (λ k. k.home) (away x ne ∙ two_old x lt)
    ];
    touched = λ x lt. elim (same_or_not x home) [
      | inl e ↦ ap (λ k. look_up k.touches) (here x e) ∙ (ap look_up same_touches ∙ (ap (touches_at two) (sym e) ∙ ap (λ k. look_up k.touches) (two_old x lt)))
      | inr ne ↦ ap (λ k. look_up k.touches) (away x ne ∙ two_old x lt)
    ];
    laters = λ x lt ne. ap (λ k. k.later) (away x (ne refl) ∙ two_old x lt);
    tail = λ f. ap (λ k. k.later) (here home refl) ∙ new_later;
  }
    where
      here : (x : ℕ) → x ≡ home → kept_at (set two home kept) x ≡ kept
      here x e = ap (kept_at (set two home kept)) e ∙ get_or-set_same two home kept nothing_kept (omega (arith, length-two, low))

      away : (x : ℕ) → x ≢ home → kept_at (set two home kept) x ≡ kept_at two x
      away x ne = get_or-set_other two home x kept nothing_kept ne

-- where a number stands after a spawn
data Stand (old new : List Kept) (home : ℕ) (first : Bool) (x : ℕ) : Type 0 where
  before : x < length old → (first ≡ false → x ≢ home) → Stand old new home first x
  tail_before : x < length old → first ≡ false → x ≡ home → Stand old new home first x
  at_child : kept_at new x ≡ record { home = home; later = 0; touches = [] } → Stand old new home first x
  at_next : kept_at new x ≡ record { home = 1 + length old; later = 0; touches = [] } → Stand old new home first x
  at_join : length old ≤ x → kept_at new x ≡ record { home = home; later = 1 + length old; touches = [] } → Stand old new home first x
  nowhere : kept_at new x ≡ nothing_kept → Stand old new home first x

module _ (monoids : List Monoid) (old new : List Kept) (home : ℕ) (first : Bool) (low : home < length old) (g : Grown old new home first) (k : AreKept monoids old) where
  longer : 2 + length old ≤ length new
  longer = let e : length new ≡ more_strands first + length old = g.len in let m : 2 ≤ more_strands first = two_at_least first in omega arith
    where
      two_at_least : (b : Bool) → 2 ≤ more_strands b
      two_at_least true = lit≤ tt
      two_at_least false = lit≤ tt

  stand_behind : (x : ℕ) → length old ≤ x → (x ≡ length old) ⊎ (x ≢ length old) → (x ≡ 1 + length old) ⊎ (x ≢ 1 + length old) → (x ≡ 2 + length old) ⊎ (x ≢ 2 + length old) → (b : Bool) → first ≡ b → Stand old new home first x
  stand_behind x le (inl e) n j b f = at_child (g.child x e)
  stand_behind x le (inr nc) (inl e) j b f = at_next (g.next x e)
  stand_behind x le (inr nc) (inr nn) (inl e) true f = at_join le (g.join x f e)
  stand_behind x le (inr nc) (inr nn) (inl e) false f = nowhere (g.beyond x (let q : length new ≡ more_strands first + length old = g.len in let m : more_strands first ≡ 2 = ap more_strands f in omega arith))
  stand_behind x le (inr nc) (inr nn) (inr nj) true f = nowhere (g.beyond x (let q : length new ≡ more_strands first + length old = g.len in let m : more_strands first ≡ 3 = ap more_strands f in omega arith))
  stand_behind x le (inr nc) (inr nn) (inr nj) false f = nowhere (g.beyond x (let q : length new ≡ more_strands first + length old = g.len in let m : more_strands first ≡ 2 = ap more_strands f in omega arith))

  stand_before : (x : ℕ) → x < length old → (x ≡ home) ⊎ (x ≢ home) → (b : Bool) → first ≡ b → Stand old new home first x
  stand_before x lt (inr ne) b f = before lt (λ q. ne)
  stand_before x lt (inl e) false f = tail_before lt f e
  stand_before x lt (inl e) true f = before lt (λ q. absurd (let z : true ≡ false = sym f ∙ q in cc))

  stand : (x : ℕ) → Stand old new home first x
  stand x = elim (below_or_beyond x (length old)) [
    | inl lt ↦ stand_before x lt (same_or_not x home) first refl
    | inr le ↦ stand_behind x le (same_or_not x (length old)) (same_or_not x (1 + length old)) (same_or_not x (2 + length old)) first refl
  ]

  home_new : (x : ℕ) → Stand old new home first x → home_at new x < length new
  home_new x (before lt ne) = let e : home_at new x ≡ home_at old x = g.homes x lt in let l : home_at old x < length old = k.homes x in let m : 2 + length old ≤ length new = longer in omega arith
  home_new x (tail_before lt f q) = let e : home_at new x ≡ home_at old x = g.homes x lt in let l : home_at old x < length old = k.homes x in let m : 2 + length old ≤ length new = longer in omega arith
  home_new x (at_child q) = let e : home_at new x ≡ home = ap (λ v. v.home) q in let m : 2 + length old ≤ length new = longer in omega arith
  home_new x (at_next q) = let e : home_at new x ≡ 1 + length old = ap (λ v. v.home) q in let m : 2 + length old ≤ length new = longer in omega arith
  home_new x (at_join le q) = let e : home_at new x ≡ home = ap (λ v. v.home) q in let m : 2 + length old ≤ length new = longer in omega arith
  home_new x (nowhere q) = let e : home_at new x ≡ 0 = ap (λ v. v.home) q in let m : 2 + length old ≤ length new = longer in omega arith

  tail_later : (x : ℕ) → first ≡ false → x ≡ home → later_at new x ≡ 1 + length old
  tail_later x f e = ap (later_at new) e ∙ g.tail f

  later_new : (x : ℕ) → Stand old new home first x → later_at new x < length new
  later_new x (before lt ne) = let e : later_at new x ≡ later_at old x = g.laters x lt ne in let l : later_at old x < length old = k.laters x in let m : 2 + length old ≤ length new = longer in omega arith
  later_new x (tail_before lt f q) = let e : later_at new x ≡ 1 + length old = tail_later x f q in let m : 2 + length old ≤ length new = longer in omega arith
  later_new x (at_child q) = let e : later_at new x ≡ 0 = ap (λ v. v.later) q in let m : 2 + length old ≤ length new = longer in omega arith
  later_new x (at_next q) = let e : later_at new x ≡ 0 = ap (λ v. v.later) q in let m : 2 + length old ≤ length new = longer in omega arith
  later_new x (at_join le q) = let e : later_at new x ≡ 1 + length old = ap (λ v. v.later) q in let m : 2 + length old ≤ length new = longer in omega arith
  later_new x (nowhere q) = let e : later_at new x ≡ 0 = ap (λ v. v.later) q in let m : 2 + length old ≤ length new = longer in omega arith

  behind_new : (x : ℕ) → Stand old new home first x → 0 < later_at new x → home_at new x < later_at new x
  behind_new x (before lt ne) more = subst₂ (λ y z. y < z) (sym (g.homes x lt)) (sym (g.laters x lt ne)) (k.behind_home x (subst (λ z. 0 < z) (g.laters x lt ne) more))
  behind_new x (tail_before lt f q) more =
      let e : later_at new x ≡ 1 + length old = tail_later x f q in let d : home_at new x ≡ home_at old x = g.homes x lt in let l : home_at old x < length old = k.homes x in omega arith
  behind_new x (at_child q) more = absurd (let e : later_at new x ≡ 0 = ap (λ v. v.later) q in omega arith)
  behind_new x (at_next q) more = absurd (let e : later_at new x ≡ 0 = ap (λ v. v.later) q in omega arith)
  behind_new x (at_join le q) more = let e : later_at new x ≡ 1 + length old = ap (λ v. v.later) q in let d : home_at new x ≡ home = ap (λ v. v.home) q in omega arith
  behind_new x (nowhere q) more = absurd (let e : later_at new x ≡ 0 = ap (λ v. v.later) q in omega arith)

  next_ends : (y : ℕ) → y ≡ 1 + length old → 0 < later_at new y → ⊥
  next_ends y e more = let q : later_at new y ≡ 0 = ap (λ v. v.later) (g.next y e) in omega arith

  -- what comes after a number that was there
  after_old : (x y : ℕ) → y ≡ later_at old x → 0 < y → Stand old new home first y → 0 < later_at new y → y < later_at new y
  after_old x y e positive (before lt ne) more =
      subst (λ z. y < z) (sym (g.laters y lt ne)) (subst (λ z. z < later_at old z) (sym e) (k.rising x (subst (λ z. 0 < z) e positive) (subst (λ z. 0 < later_at old z) e (subst (λ z. 0 < z) (g.laters y lt ne) more))))
  after_old x y e positive (tail_before lt f q) more = let d : later_at new y ≡ 1 + length old = tail_later y f q in omega arith
  after_old x y e positive (at_child q) more = absurd (let d : later_at new y ≡ 0 = ap (λ v. v.later) q in omega arith)
  after_old x y e positive (at_next q) more = absurd (let d : later_at new y ≡ 0 = ap (λ v. v.later) q in omega arith)
  after_old x y e positive (at_join le q) more = absurd (let l : later_at old x < length old = k.laters x in omega arith)
  after_old x y e positive (nowhere q) more = absurd (let d : later_at new y ≡ 0 = ap (λ v. v.later) q in omega arith)

  rising_new : (x : ℕ) → Stand old new home first x → 0 < later_at new x → 0 < later_at new (later_at new x) → later_at new x < later_at new (later_at new x)
  rising_new x (before lt ne) positive more = after_old x (later_at new x) (g.laters x lt ne) positive (stand (later_at new x)) more
  rising_new x (tail_before lt f q) positive more = absurd (next_ends (later_at new x) (tail_later x f q) more)
  rising_new x (at_child q) positive more = absurd (let e : later_at new x ≡ 0 = ap (λ v. v.later) q in omega arith)
  rising_new x (at_next q) positive more = absurd (let e : later_at new x ≡ 0 = ap (λ v. v.later) q in omega arith)
  rising_new x (at_join le q) positive more = absurd (next_ends (later_at new x) (ap (λ v. v.later) q) more)
  rising_new x (nowhere q) positive more = absurd (let e : later_at new x ≡ 0 = ap (λ v. v.later) q in omega arith)

  touched_new : (x : ℕ) → Stand old new home first x → AreTouches monoids (touches_at new x)
  touched_new x (before lt ne) = subst (AreTouches monoids) (sym (g.touched x lt)) (k.touched x)
  touched_new x (tail_before lt f q) = subst (AreTouches monoids) (sym (g.touched x lt)) (k.touched x)
  touched_new x (at_child q) = subst (λ v. AreTouches monoids (look_up v.touches)) (sym q) (λ r. tt)
  touched_new x (at_next q) = subst (λ v. AreTouches monoids (look_up v.touches)) (sym q) (λ r. tt)
  touched_new x (at_join le q) = subst (λ v. AreTouches monoids (look_up v.touches)) (sym q) (λ r. tt)
  touched_new x (nowhere q) = subst (λ v. AreTouches monoids (look_up v.touches)) (sym q) (λ r. tt)

  pub kept_grown : AreKept monoids new
  kept_grown = record {
    homes = λ x. home_new x (stand x);
    laters = λ x. later_new x (stand x);
    behind_home = λ x. behind_new x (stand x);
    rising = λ x. rising_new x (stand x);
    touched = λ x. touched_new x (stand x);
  }

-- pieces are added
all_kept-push : {A : Type 0} (pieces : List (Piece A)) (piece : Piece A) → all_kept (pieces ++ (piece ∷ [])) ≡ all_kept pieces ++ (kept_of piece ∷ [])
all_kept-push pieces piece = map-append kept_of pieces (piece ∷ [])

two_kept : {A : Type 0} (pieces one more : List (Piece A)) (child next : Piece A) (home : ℕ) → one ≡ pieces ++ (child ∷ []) → more ≡ one ++ (next ∷ []) →
    kept_of child ≡ record { home = home; later = 0; touches = [] } → kept_of next ≡ record { home = 1 + length (all_kept pieces); later = 0; touches = [] } → all_kept more ≡ two (all_kept pieces) home
two_kept pieces one more child next home a b c d =
    ap all_kept b ∙ (all_kept-push one next ∙ ap₂ (λ ks k. ks ++ (k ∷ [])) (ap all_kept a ∙ (all_kept-push pieces child ∙ ap (λ k. all_kept pieces ++ (k ∷ [])) c)) d)

pub pieces_first : {A : Type 0} (pieces one more all : List (Piece A)) (child next join : Piece A) (home : ℕ) (first : Bool) → one ≡ pieces ++ (child ∷ []) → more ≡ one ++ (next ∷ []) → all ≡ more ++ (join ∷ []) → first ≡ true →
    kept_of child ≡ record { home = home; later = 0; touches = [] } → kept_of next ≡ record { home = 1 + length (all_kept pieces); later = 0; touches = [] } →
    kept_of join ≡ record { home = home; later = 1 + length (all_kept pieces); touches = [] } → Grown (all_kept pieces) (all_kept all) home first
pieces_first pieces one more all child next join home first a b d f c n j =
    subst₂ (λ ks t. Grown (all_kept pieces) ks home t)
    (sym (ap all_kept d ∙ (all_kept-push more join ∙ ap₂ (λ ks k. ks ++ (k ∷ [])) (two_kept pieces one more child next home a b c n) j))) (sym f)
    (grown_first (all_kept pieces) home)

pub pieces_later : {A : Type 0} (pieces one more : List (Piece A)) (child next piece new : Piece A) (home number : ℕ) (first : Bool) → one ≡ pieces ++ (child ∷ []) → more ≡ one ++ (next ∷ []) → first ≡ false → home < length pieces → number ≡ 1 + length (all_kept pieces) →
    kept_of child ≡ record { home = home; later = 0; touches = [] } → kept_of next ≡ record { home = 1 + length (all_kept pieces); later = 0; touches = [] } → piece ≡ get_or more home piece →
    kept_of new ≡ record (kept_of piece) { later = number } → Grown (all_kept pieces) (all_kept (set more home new)) home first
pieces_later {A} pieces one more child next piece new home number first a b f lt number_is c n e new_is =
    subst₂ (λ ks t. Grown (all_kept pieces) ks home t)
    (sym (map-set kept_of more home new ∙ ap₂ (λ ks k. set ks home k) more_is new_is))
    (sym f)
    (grown_later (all_kept pieces) home (record (kept_of piece) { later = number }) (subst (λ m. home < m) (sym (length-all_kept pieces)) lt)
    (ap (λ k. k.home) same_entry) number_is (ap (λ k. k.touches) same_entry))
  where
    more_is : all_kept more ≡ two (all_kept pieces) home
    more_is = two_kept pieces one more child next home a b c n

    known : home < length more
    known = omega (arith, lt, ap length b, ap length a, length-append one (next ∷ []), length-append pieces (child ∷ []))

    same_entry : kept_of piece ≡ kept_at (two (all_kept pieces) home) home
    same_entry = ap kept_of e ∙ (sym (kept_here more home piece known) ∙ ap (λ ks. kept_at ks home) more_is)

-- the number behind the new child's
pub next_number : {A : Type 0} (pieces : List (Piece A)) (next : ℕ) → next ≡ length pieces + 1 → next ≡ 1 + length (all_kept pieces)
next_number pieces next e = omega (arith, e, length-all_kept pieces)

pub next_kept_is : {A : Type 0} (pieces : List (Piece A)) (next : ℕ) → next ≡ length pieces + 1 →
    (let kept : Kept = record { home = next; later = 0; touches = [] } in kept) ≡ record { home = 1 + length (all_kept pieces); later = 0; touches = [] }
next_kept_is pieces next e = ap (λ n. (let kept : Kept = record { home = n; later = 0; touches = [] } in kept)) (next_number pieces next e)

pub join_kept_is : {A : Type 0} (pieces : List (Piece A)) (home next : ℕ) → next ≡ length pieces + 1 →
    (let kept : Kept = record { home = home; later = next; touches = [] } in kept) ≡ record { home = home; later = 1 + length (all_kept pieces); touches = [] }
join_kept_is pieces home next e = ap (λ n. (let kept : Kept = record { home = home; later = n; touches = [] } in kept)) (next_number pieces next e)

pub grown_kept : {A : Type 0} (monoids : List Monoid) (pieces new : List (Piece A)) (home : ℕ) (first : Bool) → home < length pieces → Grown (all_kept pieces) (all_kept new) home first → AreKept monoids (all_kept pieces) →
    AreKept monoids (all_kept new)
grown_kept monoids pieces new home first low g k = kept_grown monoids (all_kept pieces) (all_kept new) home first (subst (λ m. home < m) (sym (length-all_kept pieces)) low) g k
