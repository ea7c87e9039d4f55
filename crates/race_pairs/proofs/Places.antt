-- Items at places of a list, and frames round frames.
use Rattle.std.proofs.Common.{◌≡◌, inl, inr, ℕ, suc, ◌-◌, ◌<◌, ◌≤◌, List, [], ◌∷◌, ◌++◌, length, get_or, set, None, refl, sym, ap, ◌∙◌, subst, arith}
use Rattle.std.proofs.Math.Seq.{get_or-append_seam}
use Rattle.std.proofs.lemmas.List.{length-append, length-set, get_or_append_left, get_or_default, get_or-append_right, get_or-set_same, get_or-set_other}
use Rattle.race_pairs.specs.declared.kept.Frame.{Frame}
use Rattle.race_pairs.specs.declared.kept.Turn.{Turn}
use Rattle.race_pairs.specs.declared.kept.Strand.{Strand}
use Rattle.race_pairs.specs.Frames.{behind}
use Rattle.race_pairs.specs.Lineages.{IsAt, Encloses, outermost, inside, IsNumberAt, Begins, root, in_child, beside}

-- Items at places.

pub place_within : {X : Type 0} (items : List X) (place : ℕ) (item : X) → IsAt items place item → place - 1 < length items
place_within items place item it = omega (arith, it.place_is, it.within)

pub place_reaches : {X : Type 0} (items : List X) (place : ℕ) (item : X) → IsAt items place item → (0 < place) × (place ≤ length items)
place_reaches items place item it = (omega (arith, it.place_is), omega (arith, it.place_is, it.within))

pub item_at : {X : Type 0} (items : List X) (place : ℕ) (item d : X) → IsAt items place item → get_or items (place - 1) d ≡ item
item_at items place item d it =
    let e : place - 1 ≡ it.index = omega (arith, it.place_is) in
    ap (λ (n : ℕ). get_or items n d) e ∙ it.item_is d

-- the same by its index
pub item_here : {X : Type 0} (items : List X) (i : ℕ) (item d : X) → IsAt items (suc i) item → get_or items i d ≡ item
item_here items i item d it =
    let e : i ≡ it.index = omega (arith, it.place_is) in
    ap (λ (n : ℕ). get_or items n d) e ∙ it.item_is d

pub index_within : {X : Type 0} (items : List X) (i : ℕ) (item : X) → IsAt items (suc i) item → i < length items
index_within items i item it = omega (arith, it.place_is, it.within)

pub at_index : {X : Type 0} (items : List X) (i : ℕ) (d : X) → i < length items → IsAt items (suc i) (get_or items i d)
at_index items i d within = record { index = i; place_is = refl; within = within; item_is = λ e. get_or_default items i e d within }

pub at_more : {X : Type 0} (items more : List X) (place : ℕ) (item : X) → IsAt items place item → IsAt (items ++ more) place item
at_more items more place item it = record {
  index = it.index;
  place_is = it.place_is;
  within = omega (arith, it.within, length-append items more);
  item_is = λ d. get_or_append_left items more d it.index it.within ∙ it.item_is d;
}

pub at_end : {X : Type 0} (items : List X) (item : X) → IsAt (items ++ item ∷ []) (suc (length items)) item
at_end items item = record {
  index = length items;
  place_is = refl;
  within = omega (arith, length-append items (item ∷ []));
  item_is = λ d. get_or-append_seam items item [] d;
}

pub same_at : {X : Type 0} (items : List X) (place : ℕ) (one two : X) → IsAt items place one → IsAt items place two → one ≡ two
same_at items place one two it that =
    sym (item_at items place one one it) ∙ item_at items place two one that

-- what is at a place of a longer list
pub at_old : {X : Type 0} (items more : List X) (i : ℕ) (item : X) → IsAt (items ++ more) (suc i) item → i < length items → IsAt items (suc i) item
at_old items more i item it below =
    let is : get_or items i item ≡ item = sym (get_or_append_left items more item i below) ∙ item_here (items ++ more) i item item it in
    subst (IsAt items (suc i)) is (at_index items i item below)

pub at_new : {X : Type 0} (items more : List X) (i : ℕ) (item : X) → IsAt (items ++ more) (suc i) item → length items ≤ i →
    IsAt more (suc (i - length items)) item
at_new items more i item it beyond =
    let within = index_within (items ++ more) i item it in
    let below : i - length items < length more = omega (arith, within, length-append items more) in
    let is : get_or more (i - length items) item ≡ item =
    sym (get_or-append_right items more (length items) i item refl beyond) ∙ item_here (items ++ more) i item item it in
    subst (IsAt more (suc (i - length items))) is (at_index more (i - length items) item below)

-- what is at a place of a list with a change
pub at_set : {X : Type 0} (items : List X) (i : ℕ) (item found : X) → i < length items → IsAt (set items i item) (suc i) found → found ≡ item
at_set items i item found below it = sym (item_here (set items i item) i found item it) ∙ get_or-set_same items i item item below

pub at_unset : {X : Type 0} (items : List X) (i k : ℕ) (item found : X) → (k ≡ i → ⊥) → IsAt (set items i item) (suc k) found → IsAt items (suc k) found
at_unset items i k item found apart it =
    let below : k < length items = omega (arith, index_within (set items i item) k found it, length-set items i item) in
    let is : get_or items k found ≡ found =
    sym (get_or-set_other items i k item found apart) ∙ item_here (set items i item) k found found it in
    subst (IsAt items (suc k)) is (at_index items k found below)

-- what stands for an item past the end of a slice
abbrev pub no_frame : Frame
no_frame = record { opener = record { number = 0; strand = 0; spawned = None }; outer = 0 }

abbrev pub no_turn : Turn
no_turn = record { number = 0; frame = 0; before = 0 }

abbrev pub no_strand : Strand
no_strand = record { maker = 0; turn = 0 }

-- Frames round frames.

pub encloses_more : (opened more : List Frame) (place : ℕ) (numbers : List ℕ) → Encloses opened place numbers → Encloses (opened ++ more) place numbers
encloses_more opened more place numbers outermost = outermost
encloses_more opened more place numbers (inside {numbers = rest} {frame = frame} here back round) =
    inside (at_more opened more place frame here) back (encloses_more opened more frame.outer rest round)

pub encloses_within : (opened : List Frame) (place : ℕ) (numbers : List ℕ) → Encloses opened place numbers → place ≤ length opened
encloses_within opened place numbers outermost = omega arith
encloses_within opened place numbers (inside {frame = frame} here back round) = (place_reaches opened place frame here).1

-- one frame further out
pub record Outward (opened : List Frame) (place : ℕ) (numbers : List ℕ) (frame : Frame) : Type 0 where
  pub within : place - 1 < length opened
  pub back : frame.outer < place
  pub rest : List ℕ
  pub numbers_are : numbers ≡ frame.opener.number ∷ rest
  pub round : Encloses opened frame.outer rest

pub outward : (opened : List Frame) (place : ℕ) (numbers : List ℕ) → Encloses opened place numbers → (place ≡ 0 → ⊥) → (d : Frame) →
    Outward opened place numbers (get_or opened (place - 1) d)
outward opened place numbers outermost some d = absurd (some refl)
outward opened place numbers (inside {numbers = rest} {frame = frame} here back round) some d =
    subst (Outward opened place (frame.opener.number ∷ rest)) (sym (item_at opened place frame d here)) (record {
      within = place_within opened place frame here;
      back = back;
      rest = rest;
      numbers_are = refl;
      round = round;
    })

-- round no frame there is none
pub behind_empty : (opened : List Frame) (place : ℕ) (numbers : List ℕ) → Encloses opened place numbers → place ≡ 0 → numbers ≡ []
behind_empty opened place numbers outermost none = refl
behind_empty opened place numbers (inside {frame = frame} here back round) none = absurd (omega (arith, (place_reaches opened place frame here).0, none))

pub behind_is : (opened : List Frame) (place : ℕ) (numbers : List ℕ) → Encloses opened place numbers → (place ≡ 0 → ⊥) → (d : Frame) →
    Encloses opened (get_or opened (place - 1) d).outer (behind numbers)
behind_is opened place numbers encloses some d =
    let out = outward opened place numbers encloses some d in
    subst (Encloses opened (get_or opened (place - 1) d).outer) (sym (ap behind out.numbers_are)) out.round

pub behind_none : (opened : List Frame) (place : ℕ) (numbers : List ℕ) → Encloses opened place numbers → place ≡ 0 → Encloses opened 0 (behind numbers)
behind_none opened place numbers outermost none = outermost
behind_none opened place numbers (inside {frame = frame} here back round) none = absurd (omega (arith, (place_reaches opened place frame here).0, none))

-- Makers.

pub number_more : (opened more : List Frame) (place number : ℕ) → IsNumberAt opened place number → IsNumberAt (opened ++ more) place number
number_more opened more place number (inl t) = inl t
number_more opened more place number (inr t) = inr (t.0, at_more opened more place t.0 t.1, t.2)

pub begins_more : (opened more : List Frame) (strand place first : ℕ) → Begins opened strand place first → Begins (opened ++ more) strand place first
begins_more opened more strand place first root = root
begins_more opened more strand place first (in_child {frame = frame} here is e) = in_child (at_more opened more place frame here) is e
begins_more opened more strand place first (beside {frame = frame} here is e) = beside (at_more opened more place frame here) is e
