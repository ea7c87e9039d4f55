-- What is kept of the strands, when what is touched at one number changes.
use Rattle.std.proofs.Common.{◌≡◌, ◌≢◌, ◌⊎◌, inl, inr, ℕ, ◌-◌, ◌/◌, ◌%◌, ◌<◌, false, zero, suc, List, [], ◌∷◌, length, map, get_or, set, Option, Some, None, Box, refl, sym, ap, ap₂, ◌∙◌, subst, subst₂, arith}
use Rattle.std.specs.Option.{is_some}
use Rattle.std.proofs.lemmas.List.{get_or-map, get_or-set_other, get_or-set_same, length-map, length-set, map-set}
use Rattle.law_strands.proofs.Members.{Present, contains_present}
use Rattle.model_reducers.specs.declared.monoid.Monoid.{Monoid}
use Rattle.reducer_views.specs.declared.pieces.Piece.{Piece}
use Rattle.reducer_views.specs.declared.pieces.Piece.TheVariants.{Touched}
use Rattle.reducer_views.specs.declared.touched.Touch.{Touch}
use Rattle.reducer_views.specs.declared.touched.Slot.{Slot}
use Rattle.model_reducers.specs.Products.{identity_of, product_of, monoid_of}
use Rattle.reducer_views.specs.Touched.{Touches, Listed, column_from, touches_of, look_up, listed_of, later_in, Changes, ChangesPlace, both, added, view_or, gathered, IsTouch, AreTouches}
use Rattle.reducer_views.specs.Pieces.{Kept, kept_of, all_kept, kept_at, home_at, later_at, touches_at, view_in, AreKept, SameHomes, WithTouches, TakesOver, SetsAt, SetsIn, ChangesAt, AreLater, product_from, Combines}
use Rattle.law_strands.proofs.Updates.{same_or_not}
use Rattle.reducer_views.proofs.Listed.{look_up-listed_of}
use Rattle.reducer_views.proofs.Slots.{touches_change}
use Rattle.reducer_views.proofs.Touches.{both_touch, both_view}

abbrev pub nothing_kept : Kept
nothing_kept = record { home = 0; later = 0; touches = [] }

pub kept_here : {A : Type 0} (pieces : List (Piece A)) (strand : ℕ) (piece : Piece A) → strand < length pieces → kept_at (all_kept pieces) strand ≡ kept_of (get_or pieces strand piece)
kept_here pieces strand piece lt = get_or-map kept_of pieces strand piece nothing_kept lt

pub length-all_kept : {A : Type 0} (pieces : List (Piece A)) → length (all_kept pieces) ≡ length pieces
length-all_kept pieces = length-map pieces kept_of

-- what is found from the first slot of a piece on
pub touch_kept : {A : Type 0} (piece : Piece A) (home : ℕ) (box : Box (Slot A) A) (slot : Slot A) (found : Option Touch) (reducer : ℕ) → piece ≡ Touched home box → slot ≡ box.value →
    found ≡ column_from slot (reducer % 4) (reducer / 4) → found ≡ look_up (kept_of piece).touches reducer
touch_kept {A} piece home box slot found reducer piece_is slot_is found_is =
    found_is ∙ (ap (λ (s : Slot A). column_from s (reducer % 4) (reducer / 4)) slot_is ∙
    (sym (look_up-listed_of (Some box) reducer) ∙ sym (ap (λ (p : Piece A). look_up (kept_of p).touches reducer) piece_is)))

-- one entry is written
pub with_kept : (strands : List Kept) (strand : ℕ) (kept : Kept) → strand < length strands → kept.home ≡ home_at strands strand → kept.later ≡ later_at strands strand →
    WithTouches strands (set strands strand kept) strand (look_up kept.touches)
with_kept strands strand kept lt same_home same_later = record {
  same = record {
    len = length-set strands strand kept;
    homes = λ x. elim (same_or_not x strand) [
      | inl e ↦ ap (λ k. k.home) (here x e) ∙ (same_home ∙ ap (home_at strands) (sym e))
      | inr ne ↦ ap (λ k. k.home) (get_or-set_other strands strand x kept nothing_kept ne)
    ];
    laters = λ x. elim (same_or_not x strand) [
      | inl e ↦ ap (λ k. k.later) (here x e) ∙ (same_later ∙ ap (later_at strands) (sym e))
      | inr ne ↦ ap (λ k. k.later) (get_or-set_other strands strand x kept nothing_kept ne)
    ];
  };
  changed = ap (λ k. look_up k.touches) (here strand refl);
  others = λ x ne. ap (λ k. look_up k.touches) (get_or-set_other strands strand x kept nothing_kept ne);
}
  where
    here : (x : ℕ) → x ≡ strand → kept_at (set strands strand kept) x ≡ kept
    here x e = ap (kept_at (set strands strand kept)) e ∙ get_or-set_same strands strand kept nothing_kept lt

-- a piece is written whose home and later number are as before
pub with_piece : {A : Type 0} (pieces : List (Piece A)) (strand : ℕ) (piece new : Piece A) (touches : Listed) → strand < length pieces → kept_of new ≡ record (kept_of (get_or pieces strand piece)) { touches = touches } →
    WithTouches (all_kept pieces) (all_kept (set pieces strand new)) strand (look_up touches)
with_piece {A} pieces strand piece new touches lt new_is =
    subst (λ strands. WithTouches (all_kept pieces) strands strand (look_up touches)) (sym (map-set kept_of pieces strand new ∙ ap (set (all_kept pieces) strand) new_is))
    (with_kept (all_kept pieces) strand (record (kept_of (get_or pieces strand piece)) { touches = touches }) (subst (λ n. strand < n) (sym (length-all_kept pieces)) lt)
    (sym (ap (λ k. k.home) (kept_here pieces strand piece lt))) (sym (ap (λ k. k.later) (kept_here pieces strand piece lt))))

-- a table is put in the place of the one that was taken out
pub with_table : {A : Type 0} (pieces : List (Piece A)) (strand : ℕ) (piece new : Piece A) (bare : Kept) (slots : Option (Box (Slot A) A)) → strand < length pieces →
    bare ≡ record (kept_of (get_or pieces strand piece)) { touches = [] } → kept_of new ≡ record bare { touches = listed_of slots } →
    WithTouches (all_kept pieces) (all_kept (set pieces strand new)) strand (look_up (listed_of slots))
with_table pieces strand piece new bare slots lt bare_is new_is =
    with_piece pieces strand piece new (listed_of slots) lt (new_is ∙ ap (λ (k : Kept). (let kept : Kept = record k { touches = listed_of slots } in kept)) bare_is)

-- what a table that was taken out has
pub table_touches : {A : Type 0} (pieces : List (Piece A)) (strand : ℕ) (piece : Piece A) (slots : Option (Box (Slot A) A)) → strand < length pieces → listed_of slots ≡ (kept_of (get_or pieces strand piece)).touches →
    (reducer : ℕ) → touches_of slots reducer ≡ touches_at (all_kept pieces) strand reducer
table_touches pieces strand piece slots lt slots_is reducer =
    sym (look_up-listed_of slots reducer) ∙ (ap (λ ts. look_up ts reducer) slots_is ∙ sym (ap (λ k. look_up k.touches reducer) (kept_here pieces strand piece lt)))

pub same_then : (first second third : List Kept) → SameHomes first second → SameHomes second third → SameHomes first third
same_then first second third a b = record {
  len = b.len ∙ a.len;
  homes = λ x. b.homes x ∙ a.homes x;
  laters = λ x. b.laters x ∙ a.laters x;
}

pub kept_with : (monoids : List Monoid) (old new : List Kept) → AreKept monoids old → SameHomes old new → ((x : ℕ) → AreTouches monoids (touches_at new x)) → AreKept monoids new
kept_with monoids old new sound same touched = record {
  homes = λ x. subst₂ (λ y n. y < n) (sym (same.homes x)) (sym same.len) (sound.homes x);
  laters = λ x. subst₂ (λ y n. y < n) (sym (same.laters x)) (sym same.len) (sound.laters x);
  behind_home = λ x lt. subst₂ (λ y n. y < n) (sym (same.homes x)) (sym (same.laters x)) (sound.behind_home x (subst (λ y. 0 < y) (same.laters x) lt));
  rising = λ x lt more. subst₂ (λ y n. y < n) (sym (same.laters x)) (sym (twice x))
      (sound.rising x (subst (λ y. 0 < y) (same.laters x) lt) (subst (λ y. 0 < y) (twice x) more));
  touched = touched;
}
  where
    twice : (x : ℕ) → later_at new (later_at new x) ≡ later_at old (later_at old x)
    twice x = same.laters (later_at new x) ∙ ap (later_at old) (same.laters x)

pub taken_over : (strands first second : List Kept) (home later : ℕ) (empty touches : Touches) → home ≢ later → WithTouches strands first later empty → ((reducer : ℕ) → empty reducer ≡ None) →
    WithTouches first second home touches → ((reducer : ℕ) → touches reducer ≡ both (touches_at first home reducer) (touches_at strands later reducer)) → TakesOver strands second home later
taken_over strands first second home later empty touches ne w none v product = record {
  same = same_then strands first second w.same v.same;
  taken = λ r. ap (λ ts. ts r) v.changed ∙ (product r ∙ ap (λ ts. both (ts r) (touches_at strands later r)) (w.others home ne));
  emptied = λ r. ap (λ ts. ts r) (v.others later (λ e. ne (sym e)) ∙ w.changed) ∙ none r;
  others = λ x nh nl. v.others x nh ∙ w.others x nl;
}

-- what is taken over stays sound
pub taken_kept : (monoids : List Monoid) (old new : List Kept) (home later : ℕ) → AreKept monoids old → TakesOver old new home later → AreKept monoids new
taken_kept monoids old new home later sound taken = kept_with monoids old new sound taken.same touched
  where
    touched : (x : ℕ) → AreTouches monoids (touches_at new x)
    touched x reducer = elim (same_or_not x home) [
      | inl e ↦ subst (IsTouch (monoid_of monoids reducer)) (sym (ap (λ y. touches_at new y reducer) e ∙ taken.taken reducer))
          (both_touch (monoid_of monoids reducer) (touches_at old home reducer) (touches_at old later reducer) (sound.touched home reducer) (sound.touched later reducer))
      | inr nh ↦ elim (same_or_not x later) [
        | inl e ↦ subst (IsTouch (monoid_of monoids reducer)) (sym (ap (λ y. touches_at new y reducer) e ∙ taken.emptied reducer)) tt
        | inr nl ↦ subst (IsTouch (monoid_of monoids reducer)) (sym (ap (λ ts. ts reducer) (taken.others x nh nl))) (sound.touched x reducer)
      ]
    ]

pub taken_views : (monoids : List Monoid) (old new : List Kept) (home later : ℕ) → AreKept monoids old → TakesOver old new home later → (reducer : ℕ) →
    view_in monoids new home reducer ≡ product_of (monoid_of monoids reducer) (view_in monoids old home reducer) (view_in monoids old later reducer)
taken_views monoids old new home later sound taken reducer =
    ap (view_or (identity_of (monoid_of monoids reducer))) (taken.taken reducer) ∙
    both_view (monoid_of monoids reducer) (touches_at old home reducer) (touches_at old later reducer) (sound.touched home reducer) (sound.touched later reducer)

-- one touch is set
pub set_kept : (monoids : List Monoid) (old new : List Kept) (home reducer : ℕ) (touch : Touch) → AreKept monoids old → SetsAt old new home reducer touch → IsTouch (monoid_of monoids reducer) (Some touch) → AreKept monoids new
set_kept monoids old new home reducer touch sound sets fits = kept_with monoids old new sound sets.same touched
  where
    touched : (x : ℕ) → AreTouches monoids (touches_at new x)
    touched x other = elim (same_or_not x home) [
      | inl e ↦ elim (same_or_not other reducer) [
        | inl q ↦ subst (λ r. IsTouch (monoid_of monoids r) (touches_at new x r)) (sym q)
            (subst (IsTouch (monoid_of monoids reducer)) (sym (ap (λ y. touches_at new y reducer) e ∙ sets.changed)) fits)
        | inr ne ↦ subst (IsTouch (monoid_of monoids other)) (sym (sets.others x other (inr ne))) (sound.touched x other)
      ]
      | inr ne ↦ subst (IsTouch (monoid_of monoids other)) (sym (sets.others x other (inl ne))) (sound.touched x other)
    ]

pub set_changes : (monoids : List Monoid) (old new : List Kept) (home reducer : ℕ) (touch : Touch) → SetsAt old new home reducer touch → ChangesAt monoids old new home reducer touch.view
set_changes monoids old new home reducer touch sets = record {
  same = sets.same;
  changed = ap (view_or (identity_of (monoid_of monoids reducer))) sets.changed;
  others = λ x other apart. ap (view_or (identity_of (monoid_of monoids other))) (sets.others x other apart);
}

-- the later of two that follow one another in a block is the greater
pub greater_than : (later : ℕ → ℕ) (first : ℕ) (strands : List ℕ) (strand : ℕ) → ((x : ℕ) → 0 < later x → 0 < later (later x) → later x < later (later x)) →
    (0 < later first → first < later first) → AreLater later (later first) strands → Present strand strands → first < strand
greater_than later first [] strand rising up follow i = absurd i
greater_than later first (x ∷ strands) strand rising up follow i =
    elim i [
      | inl e ↦ subst (λ y. first < y) e lt
      | inr t ↦ deeper (greater_than later x strands strand rising next follow.2 t)
    ]
  where
    lt : first < x
    lt = subst (λ y. first < y) follow.0 (up (subst (λ y. 0 < y) (sym follow.0) follow.1))

    next : 0 < later x → x < later x
    next more = subst (λ y. y < later y) follow.0 (rising first (subst (λ y. 0 < y) (sym follow.0) follow.1) (subst (λ y. 0 < later y) (sym follow.0) more))

    deeper : x < strand → first < strand
    deeper l = (let m : first < x = lt in omega arith)

-- what is left to combine, and what is untouched
pub record Left (monoids : List Monoid) (start now : List Kept) (home at : ℕ) (continuations : List ℕ) : Type 0 where
  pub left : List ℕ
  pub follow : AreLater (later_at start) at left
  pub views : (reducer : ℕ) →
      product_from (monoid_of monoids reducer) (view_in monoids now home reducer) (map (λ strand. view_in monoids start strand reducer) left) ≡
      product_from (monoid_of monoids reducer) (view_in monoids start home reducer) (map (λ strand. view_in monoids start strand reducer) continuations)
  pub others : (strand : ℕ) → strand ≢ home → (Present strand continuations → ⊥) ⊎ Present strand left → touches_at now strand ≡ touches_at start strand
  pub within : (strand : ℕ) → Present strand left → Present strand continuations

-- how far a block is gathered, from its first continuation on to this one
pub record Progress (monoids : List Monoid) (start now : List Kept) (home first at : ℕ) : Type 0 where
  pub sound : AreKept monoids now
  pub same : SameHomes start now
  pub known : at < length now
  pub behind : 0 < at → home < at
  pub up : 0 < at → 0 < later_at start at → at < later_at start at
  pub rest : (continuations : List ℕ) → AreLater (later_at start) first continuations → Left monoids start now home at continuations

pub begins : (monoids : List Monoid) (strands : List Kept) (join : ℕ) → AreKept monoids strands → Progress monoids strands strands (home_at strands join) (later_at strands join) (later_at strands join)
begins monoids strands join sound = record {
  sound = sound;
  same = record { len = refl; homes = λ x. refl; laters = λ x. refl };
  known = sound.laters join;
  behind = sound.behind_home join;
  up = sound.rising join;
  rest = λ continuations follow. record { left = continuations; follow = follow; views = λ r. refl; others = λ x ne t. refl; within = λ x i. i };
}

-- one more continuation is taken over
pub advances : (monoids : List Monoid) (start now new : List Kept) (home first at : ℕ) → Progress monoids start now home first at → 0 < at → TakesOver now new home at →
    Progress monoids start new home first (later_at new at)
advances monoids start now new home first at p positive taken = record {
  sound = sound;
  same = same_then start now new p.same same;
  known = sound.laters at;
  behind = λ more. (let l : home < at = p.behind positive in
      let m : at < later_at start at = p.up positive (subst (λ y. 0 < y) next_is more) in
      let n : later_at new at ≡ later_at start at = next_is in omega arith);
  up = λ more further. subst (λ y. y < later_at start y) (sym next_is) (old_rising at (subst (λ y. 0 < y) next_is more) (subst (λ y. 0 < later_at start y) next_is further));
  rest = λ continuations follow. step continuations (p.rest continuations follow);
}
  where
    sound : AreKept monoids new
    sound = taken_kept monoids now new home at p.sound taken

    same : SameHomes now new
    same = taken.same

    next_is : later_at new at ≡ later_at start at
    next_is = same.laters at ∙ p.same.laters at

    twice : (x : ℕ) → later_at now (later_at now x) ≡ later_at start (later_at start x)
    twice x = p.same.laters (later_at now x) ∙ ap (later_at start) (p.same.laters x)

    old_rising : (x : ℕ) → 0 < later_at start x → 0 < later_at start (later_at start x) → later_at start x < later_at start (later_at start x)
    old_rising x lt more = subst₂ (λ y z. y < z) (p.same.laters x) (twice x) (p.sound.rising x (subst (λ y. 0 < y) (sym (p.same.laters x)) lt) (subst (λ y. 0 < y) (sym (twice x)) more))

    at_apart : at ≢ home
    at_apart q = let l : home < at = p.behind positive in omega arith

    go : (continuations left : List ℕ) → AreLater (later_at start) at left →
        ((reducer : ℕ) → product_from (monoid_of monoids reducer) (view_in monoids now home reducer) (map (λ strand. view_in monoids start strand reducer) left) ≡
        product_from (monoid_of monoids reducer) (view_in monoids start home reducer) (map (λ strand. view_in monoids start strand reducer) continuations)) →
        ((strand : ℕ) → strand ≢ home → (Present strand continuations → ⊥) ⊎ Present strand left → touches_at now strand ≡ touches_at start strand) →
        ((strand : ℕ) → Present strand left → Present strand continuations) → Left monoids start new home (later_at new at) continuations
    go continuations [] follow views others within = absurd (omega (arith, follow))
    go continuations (x ∷ left) follow views others within = record {
      left = left;
      follow = subst (λ y. AreLater (later_at start) y left) (ap (later_at start) (sym follow.0) ∙ sym next_is) follow.2;
      views = λ r. ap (λ v. product_from (monoid_of monoids r) v (map (λ strand. view_in monoids start strand r) left)) (taken_views monoids now new home at p.sound taken r ∙ ap (product_of (monoid_of monoids r) (view_in monoids now home r)) (here r)) ∙ views r;
      others = λ strand ne t. taken.others strand ne (off strand t) ∙ others strand ne (later_one strand t);
      within = λ strand i. within strand (inr i);
    }
      where
        here : (r : ℕ) → view_in monoids now at r ≡ view_in monoids start x r
        here r = ap (λ ts. gathered monoids ts r) (others at at_apart (inr (inl (sym follow.0)))) ∙ ap (λ y. view_in monoids start y r) follow.0

        later_one : (strand : ℕ) → (Present strand continuations → ⊥) ⊎ Present strand left → (Present strand continuations → ⊥) ⊎ Present strand (x ∷ left)
        later_one strand (inl out) = inl out
        later_one strand (inr i) = inr (inr i)

        off : (strand : ℕ) → (Present strand continuations → ⊥) ⊎ Present strand left → strand ≢ at
        off strand (inl out) q = out (within strand (inl (sym (q ∙ follow.0))))
        off strand (inr i) q =
            let l : at < strand = greater_than (later_at start) at left strand old_rising (p.up positive) (subst (λ y. AreLater (later_at start) (later_at start y) left) (sym follow.0) follow.2) i in omega arith

    step : (continuations : List ℕ) → Left monoids start now home at continuations → Left monoids start new home (later_at new at) continuations
    step continuations old = go continuations old.left old.follow old.views old.others old.within

-- at the end all continuations are combined
pub finishes : (monoids : List Monoid) (start now : List Kept) (home first at : ℕ) → Progress monoids start now home first at → at ≡ 0 →
    (continuations : List ℕ) → AreLater (later_at start) first continuations → Combines monoids start now home continuations
finishes monoids start now home first at p e continuations follow = go (p.rest continuations follow)
  where
    end : (left : List ℕ) → AreLater (later_at start) at left → left ≡ []
    end [] f = refl
    end (x ∷ left) f = absurd (omega (arith, f.0, f.1))

    go : Left monoids start now home at continuations → Combines monoids start now home continuations
    go l = record {
      views = λ r. ap (λ left. product_from (monoid_of monoids r) (view_in monoids now home r) (map (λ strand. view_in monoids start strand r) left)) (sym (end l.left l.follow)) ∙ l.views r;
      others = λ strand ne out. l.others strand ne (inl (λ i. out ((contains_present strand continuations).1 i)));
    }

-- how many numbers are left from this one on
abbrev pub numbers_left : ℕ → ℕ → ℕ
numbers_left count zero = 0
numbers_left count (suc at) = count - suc at

pub fewer_left : (count new_count at next : ℕ) → new_count ≡ count → 0 < at → at < count → (0 < next → at < next) → next < count → numbers_left new_count next < numbers_left count at
fewer_left count new_count zero next e positive lt up below = absurd (omega arith)
fewer_left count new_count (suc at) zero e positive lt up below = omega arith
fewer_left count new_count (suc at) (suc next) e positive lt up below =
    let more : suc at < suc next = up (omega arith) in
    let a : new_count - suc next ≡ count - suc next = ap (λ n. n - suc next) e in omega (arith, a, more, below)

pub later_in_range : {A : Type 0} (monoids : List Monoid) (pieces : List (Piece A)) (at later : ℕ) → AreKept monoids (all_kept pieces) → later ≡ later_at (all_kept pieces) at → later < length pieces
later_in_range monoids pieces at later sound e = subst₂ (λ y n. y < n) (sym e) (length-all_kept pieces) (sound.laters at)

pub home_in_range : {A : Type 0} (monoids : List Monoid) (pieces : List (Piece A)) (at home : ℕ) → AreKept monoids (all_kept pieces) → home ≡ home_at (all_kept pieces) at → home < length pieces
home_in_range monoids pieces at home sound e = subst₂ (λ y n. y < n) (sym e) (length-all_kept pieces) (sound.homes at)

pub goes_up : (monoids : List Monoid) (start now new : List Kept) (home first at next : ℕ) → Progress monoids start now home first at → SameHomes now new → next ≡ later_at new at →
    0 < at → 0 < next → at < next
goes_up monoids start now new home first at next p same next_is positive more =
    subst (λ y. at < y) (sym e) (p.up positive (subst (λ y. 0 < y) e more))
  where
    e : next ≡ later_at start at
    e = next_is ∙ (same.laters at ∙ p.same.laters at)

pub begins_at : (monoids : List Monoid) (strands : List Kept) (join home first : ℕ) → AreKept monoids strands → home ≡ home_at strands join → first ≡ later_at strands join →
    Progress monoids strands strands home first first
begins_at monoids strands join home first sound home_is first_is =
    subst₂ (λ h f. Progress monoids strands strands h f f) (sym home_is) (sym first_is) (begins monoids strands join sound)

pub finishes_at : (monoids : List Monoid) (start now : List Kept) (join home first at : ℕ) → home ≡ home_at start join → first ≡ later_at start join →
    Progress monoids start now home first at → at ≡ 0 →
    (continuations : List ℕ) → AreLater (later_at start) (later_at start join) continuations → Combines monoids start now (home_at start join) continuations
finishes_at monoids start now join home first at home_is first_is p e continuations follow =
    subst (λ h. Combines monoids start now h continuations) home_is
    (finishes monoids start now home first at p e continuations (subst (λ f. AreLater (later_at start) f continuations) (sym first_is) follow))

pub fewer_at : {A : Type 0} (monoids : List Monoid) (start : List Kept) (now new : List (Piece A)) (home first at next : ℕ) → Progress monoids start (all_kept now) home first at → AreKept monoids (all_kept new) → SameHomes (all_kept now) (all_kept new) →
    next ≡ later_at (all_kept new) at → 0 < at → at < length now → length new ≡ length now → numbers_left (length new) next < numbers_left (length now) at
fewer_at monoids start now new home first at next p sound same next_is positive lt e =
    fewer_left (length now) (length new) at next e positive lt (goes_up monoids start (all_kept now) (all_kept new) home first at next p same next_is positive)
    (subst (λ n. next < n) e (later_in_range monoids new at next sound next_is))

-- one touch is written in a piece
pub sets_at : {A : Type 0} (pieces : List (Piece A)) (home reducer : ℕ) (touch : Touch) (piece new : Piece A) → home < length pieces → SetsIn (kept_of (get_or pieces home piece)) (kept_of new) reducer touch →
    SetsAt (all_kept pieces) (all_kept (set pieces home new)) home reducer touch
sets_at {A} pieces home reducer touch piece new known sets = record {
  same = filled.same;
  changed = ap (λ ts. ts reducer) filled.changed ∙ sets.touches.changed;
  others = λ strand other apart. elim (same_or_not strand home) [
    | inl e ↦ elim apart [
      | inl ne ↦ absurd (ne e)
      | inr ne ↦ subst (λ y. touches_at (all_kept (set pieces home new)) y other ≡ touches_at (all_kept pieces) y other) (sym e)
          (ap (λ ts. ts other) filled.changed ∙ (sets.touches.others other ne ∙ sym (ap (λ k. look_up k.touches other) (kept_here pieces home piece known))))
    ]
    | inr ne ↦ ap (λ ts. ts other) (filled.others strand ne)
  ];
}
  where
    filled : WithTouches (all_kept pieces) (all_kept (set pieces home new)) home (look_up (kept_of new).touches)
    filled = with_piece pieces home piece new (kept_of new).touches known (ap₂ (λ home_is later_is. (let kept : Kept = record { home = home_is; later = later_is; touches = (kept_of new).touches } in kept)) sets.home sets.later)

pub adds_at : {A : Type 0} (pieces : List (Piece A)) (home reducer : ℕ) (touch : Touch) (piece new : Piece A) → home < length pieces →
    SetsIn (kept_of (get_or pieces home piece)) (kept_of new) reducer (added (look_up (kept_of (get_or pieces home piece)).touches reducer) touch) →
    SetsAt (all_kept pieces) (all_kept (set pieces home new)) home reducer (added (touches_at (all_kept pieces) home reducer) touch)
adds_at pieces home reducer touch piece new known sets =
    subst (λ t. SetsAt (all_kept pieces) (all_kept (set pieces home new)) home reducer (added t touch)) (sym (ap (λ k. look_up k.touches reducer) (kept_here pieces home piece known)))
    (sets_at pieces home reducer (added (look_up (kept_of (get_or pieces home piece)).touches reducer) touch) piece new known sets)

-- a table was taken out, a touch set in it, and it was put back
pub sets_table : {A : Type 0} (old bare new : Kept) (taken slots : Option (Box (Slot A) A)) (reducer : ℕ) (touch : Touch) → listed_of taken ≡ old.touches → bare ≡ record old { touches = [] } →
    Changes (touches_of taken) (touches_of slots) reducer touch → new ≡ record bare { touches = listed_of slots } → SetsIn old new reducer touch
sets_table {A} old bare new taken slots reducer touch taken_is bare_is change new_is = record {
  home = ap (λ (k : Kept). k.home) new_is ∙ ap (λ (k : Kept). k.home) bare_is;
  later = ap (λ (k : Kept). k.later) new_is ∙ ap (λ (k : Kept). k.later) bare_is;
  touches = record {
    changed = after reducer ∙ change.changed;
    others = λ other ne. after other ∙ (change.others other ne ∙ (sym (look_up-listed_of taken other) ∙ ap (λ ts. look_up ts other) taken_is));
  };
}
  where
    after : (other : ℕ) → look_up new.touches other ≡ touches_of slots other
    after other = ap (λ (k : Kept). look_up k.touches other) new_is ∙ look_up-listed_of slots other

-- a touch was combined in the table that begins with a slot
pub gathers_table : {A : Type 0} (piece : Piece A) (home : ℕ) (box : Box (Slot A) A) (slot new : Slot A) (reducer : ℕ) (touch : Touch) → piece ≡ Touched home box → slot ≡ box.value →
    ChangesPlace (column_from slot) (column_from new) (reducer / 4) (reducer % 4) (added (column_from slot (reducer % 4) (reducer / 4)) touch) → later_in new ≡ later_in slot →
    SetsIn (kept_of piece) (kept_of (Touched home (record box { value = new }))) reducer (added (look_up (kept_of piece).touches reducer) touch)
gathers_table {A} piece home box slot new reducer touch piece_is slot_is change later_is =
    subst (λ (p : Piece A). SetsIn (kept_of p) (kept_of (Touched home filled)) reducer (added (look_up (kept_of p).touches reducer) touch)) (sym piece_is) (record {
      home = refl;
      later = later_is ∙ ap (λ (s : Slot A). later_in s) slot_is;
      touches = record {
        changed = look_up-listed_of (Some filled) reducer ∙ (whole.changed ∙ ap (λ t. Some (added t touch)) (sym (look_up-listed_of (Some box) reducer)));
        others = λ other ne. look_up-listed_of (Some filled) other ∙ (whole.others other ne ∙ sym (look_up-listed_of (Some box) other));
      };
    })
  where
    filled : Box (Slot A) A
    filled = record box { value = new }

    whole : Changes (touches_of (Some box)) (touches_of (Some filled)) reducer (added (touches_of (Some box) reducer) touch)
    whole = touches_change (Some box) (Some filled) reducer (added (touches_of (Some box) reducer) touch)
        (subst (λ (s : Slot A). ChangesPlace (column_from s) (column_from new) (reducer / 4) (reducer % 4) (added (column_from s (reducer % 4) (reducer / 4)) touch)) slot_is change)

both_none : (touch : Option Touch) → touch ≡ both touch None
both_none None = refl
both_none (Some touch) = refl

is_none : {A : Type 0} (slots : Option (Box (Slot A) A)) → is_some slots ≡ false → slots ≡ None
is_none None e = refl
is_none (Some slot) e = absurd (cc)

pub takes_nothing : {A : Type 0} (pieces : List (Piece A)) (home later : ℕ) (other emptied : Piece A) (taken : Option (Box (Slot A) A)) → later < length pieces → home < later →
    listed_of taken ≡ (kept_of (get_or pieces later other)).touches → kept_of emptied ≡ record (kept_of (get_or pieces later other)) { touches = [] } → is_some taken ≡ false →
    TakesOver (all_kept pieces) (all_kept (set pieces later emptied)) home later
takes_nothing {A} pieces home later other emptied taken known apart taken_is emptied_is empty = record {
  same = bare.same;
  taken = λ r. ap (λ ts. ts r) (bare.others home (λ e. omega (arith, e, apart))) ∙ (both_none (touches_at (all_kept pieces) home r) ∙
      ap (both (touches_at (all_kept pieces) home r)) (ap (λ (s : Option (Box (Slot A) A)). touches_of s r) (sym (is_none taken empty)) ∙ table_touches pieces later other taken known taken_is r));
  emptied = λ r. ap (λ ts. ts r) bare.changed;
  others = λ strand away off. bare.others strand off;
}
  where
    bare : WithTouches (all_kept pieces) (all_kept (set pieces later emptied)) later (look_up [])
    bare = with_piece pieces later other emptied [] known emptied_is

pub takes_over : {A : Type 0} (pieces : List (Piece A)) (home later : ℕ) (other emptied piece new : Piece A) (bare : Kept) (taken slots absorbed : Option (Box (Slot A) A)) → home < length pieces → later < length pieces → home < later →
    listed_of taken ≡ (kept_of (get_or pieces later other)).touches → kept_of emptied ≡ record (kept_of (get_or pieces later other)) { touches = [] } →
    listed_of slots ≡ (kept_of (get_or (set pieces later emptied) home piece)).touches → bare ≡ record (kept_of (get_or (set pieces later emptied) home piece)) { touches = [] } →
    ((reducer : ℕ) → touches_of absorbed reducer ≡ both (touches_of slots reducer) (touches_of taken reducer)) → kept_of new ≡ record bare { touches = listed_of absorbed } →
    TakesOver (all_kept pieces) (all_kept (set (set pieces later emptied) home new)) home later
takes_over pieces home later other emptied piece new bare taken slots absorbed home_known later_known apart taken_is emptied_is slots_is bare_is absorbed_is new_is =
    taken_over (all_kept pieces) (all_kept (set pieces later emptied)) (all_kept (set (set pieces later emptied) home new)) home later
    (look_up []) (look_up (listed_of absorbed)) (λ e. omega (arith, e, apart)) (with_piece pieces later other emptied [] later_known emptied_is) (λ r. refl)
    (with_table (set pieces later emptied) home piece new bare absorbed known bare_is new_is)
    (λ r. look_up-listed_of absorbed r ∙ (absorbed_is r ∙ ap₂ both (table_touches (set pieces later emptied) home piece slots known slots_is r) (table_touches pieces later other taken later_known taken_is r)))
  where
    known : home < length (set pieces later emptied)
    known = subst (λ n. home < n) (sym (length-set pieces later emptied)) home_known
