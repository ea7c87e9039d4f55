-- How names are stored in slots and in the tree, and found there.
use Rattle.std.proofs.Common.{◌≡◌, ℕ, ◌<◌, ◌≤◌, ◌+◌, ◌∷◌, ◌++◌, [], List, Bool, true, false, cond, length, arith, refl, sym, ap, subst, ◌∙◌, inl, inr, ◌⊎◌, ◌-◌, map, get_or, zero, suc, take, drop, append-nil}
use Rattle.std.specs.Prelude.{Option, Some, None, IfSome, option_map, option_copied, slice_get, slice_index}
use Rattle.std.specs.Slice.{IsItemAt}
use Rattle.std.specs.Str.{bytes_eq}
use Rattle.std.specs.Cmp.Lexicographic.{bytes_decides, slice_cmp}
use Rattle.std.specs.Ordering.{nat_cmp}
use Rattle.std.specs.Map.{lookup}
use Rattle.std.specs.BTreeMap.{BTreeMap, UpdatesBy, IsUnchanged, is_at}
use Rattle.std.proofs.lemmas.List.{get_or_past, drop_all, take_all}
use Rattle.std.proofs.lemmas.Option.{slice_get_within, slice_get-get_or, slice_get-map}
use Rattle.std.proofs.lemmas.Bool.{false≢true}
use Rattle.std.proofs.lemmas.Map.Text.{btree_map_updates_str}
use denote.Ref.{Bor}
use Rattle.text_words.specs.declared.name_index.Seen.{Seen}
use Rattle.text_words.specs.declared.name_index.Seen.TheVariants.{Same, Other}
use Rattle.text_words.specs.Slots.{name_number, first_slot, second_slot, overflow_at, HasName, IsTaken, IsStored, AreNumbered, IsOverflow, AreStored, IsNameIndex, KeepsTaken, AddsAt, KeepsOverflow, IsSeen}
use Rattle.text_words.proofs.Numbers.{get_cases, copied_get, number_at, number_stays, number_new}

abbrev Tree : Type 0
Tree = BTreeMap (Bor (List ℕ)) ℕ

-- ---- what is stored stays stored

taken : (slots : List ℕ) (slot number : ℕ) → HasName slots slot number → IsTaken slots slot
taken slots slot number e f = let g : number + 1 ≡ 0 = sym e ∙ f in absurd (omega (arith, g))

module _ (old new : List ℕ) (kept : KeepsTaken old new) where
  taken_stays : (slot : ℕ) → IsTaken old slot → IsTaken new slot
  taken_stays slot t e = t (sym (kept slot t) ∙ e)

  has_stays : (slot number : ℕ) → HasName old slot number → HasName new slot number
  has_stays slot number e = kept slot (taken old slot number e) ∙ e

  stored_here : (tree more : Tree) → KeepsOverflow tree more → (first second : ℕ) (name : List ℕ) (number : ℕ)
      → HasName old first number ⊎ (IsTaken old first × (HasName old second number ⊎ (IsTaken old second × (overflow_at tree name ≡ Some number))))
      → HasName new first number ⊎ (IsTaken new first × (HasName new second number ⊎ (IsTaken new second × (overflow_at more name ≡ Some number))))
  stored_here tree more keeps first second name number (inl e) = inl (has_stays first number e)
  stored_here tree more keeps first second name number (inr (t, inl e)) = inr (taken_stays first t, inl (has_stays second number e))
  stored_here tree more keeps first second name number (inr (t, inr (u, e))) = inr (taken_stays first t, inr (taken_stays second u, keeps name number e))

  pub stored_stays : (tree more : Tree) → length new ≡ length old → KeepsOverflow tree more → (name : List ℕ) (number : ℕ) → IsStored old tree name number → IsStored new more name number
  stored_stays tree more same keeps name number s =
      subst (λ (count : ℕ). HasName new (first_slot count name) number ⊎ (IsTaken new (first_slot count name) × (HasName new (second_slot count name) number ⊎ (IsTaken new (second_slot count name) × (overflow_at more name ≡ Some number)))))
      (sym same) (stored_here tree more keeps (first_slot (length old) name) (second_slot (length old) name) name number s)

-- ---- one more name in the tree

same_name : (b : Bool) (name other : List ℕ) (number : ℕ) (old new : Option ℕ) → bytes_eq name other ≡ b → new ≡ cond b (Some number) old → (new ≡ old) ⊎ ((other ≡ name) × (new ≡ Some number))
same_name true name other number old new e f = inr (sym ((bytes_decides name other).0 e), f)
same_name false name other number old new e f = inl f

pub adds_at : (tree more : Tree) (name : List ℕ) (number : ℕ) → UpdatesBy (λ (x y : Bor (List ℕ)). slice_cmp nat_cmp x.now y.now) (λ (key : Bor (List ℕ)). slice_cmp nat_cmp name key.now) tree more (Some number)
    → AddsAt tree more name number
adds_at tree more name number h other = same_name (bytes_eq name other) name other number (overflow_at tree other) (overflow_at more other) refl (btree_map_updates_str name tree more (Some number) h other)

pub adds_none : (tree : Tree) (name : List ℕ) (number : ℕ) → AddsAt tree tree name number
adds_none tree name number other = inl refl

pub adds_keep : (tree more : Tree) (name : List ℕ) (number : ℕ) → AddsAt tree more name number → ((other : ℕ) → overflow_at tree name ≡ Some other → other ≡ number) → KeepsOverflow tree more
adds_keep tree more name number adds only other n e =
    elim (adds other) [ inl f ↦ f ∙ e | inr f ↦ f.1 ∙ ap Some (sym (only n (ap (overflow_at tree) (sym f.0) ∙ e))) ]

pub adds_overflow : (names : List (List ℕ)) (tree more : Tree) (name : List ℕ) (number : ℕ) → IsOverflow names tree → name_number names name ≡ Some number → AddsAt tree more name number → IsOverflow names more
adds_overflow names tree more name number is numbered adds other n e =
    elim (adds other) [ inl f ↦ is other n (sym f ∙ e) | inr f ↦ ap (name_number names) f.0 ∙ (numbered ∙ (sym f.1 ∙ e)) ]

-- the tree has a name under its number alone
pub only_number : (names : List (List ℕ)) (tree : Tree) (name : List ℕ) (number : ℕ) → IsOverflow names tree → name_number names name ≡ Some number → (other : ℕ) → overflow_at tree name ≡ Some other → other ≡ number
only_number names tree name number is numbered other e = let f : Some other ≡ Some number = sym (is name other e) ∙ numbered in cc

-- ---- one more name

pub numbered_more : (names : List (List ℕ)) (name : List ℕ) → AreNumbered names → name_number names name ≡ None → AreNumbered (names ++ name ∷ [])
numbered_more names name are fresh other number e =
    elim (get_cases name names number other e) [
      | inl f ↦ number_stays names name other number (are other number f)
      | inr f ↦ ap (name_number (names ++ name ∷ [])) (sym f.1) ∙ (number_new names name fresh ∙ ap Some (sym f.0))
    ]

pub overflow_more : (names : List (List ℕ)) (name : List ℕ) (tree : Tree) → IsOverflow names tree → IsOverflow (names ++ name ∷ []) tree
overflow_more names name tree is other number e = number_stays names name other number (is other number e)

-- ---- a name that is looked for

none_by : (o : Option ℕ) → ((number : ℕ) → o ≡ Some number → ⊥) → o ≡ None
none_by None f = refl
none_by (Some number) f = absurd (f number refl)

module _ (names : List (List ℕ)) (slots : List ℕ) (overflow : Tree) (is : IsNameIndex names slots overflow) (name : List ℕ) where
  stored_of : (number : ℕ) → name_number names name ≡ Some number → IsStored slots overflow name number
  stored_of number e = let at = number_at names name number e in is.stored name number at.0 at.1

  pub free_first : slice_index slots (first_slot (length slots) name) ≡ 0 → name_number names name ≡ None
  free_first free = none_by (name_number names name) (λ number e. elim (stored_of number e) [ inl h ↦ taken slots _ number h free | inr t ↦ t.0 free ])

  pub no_slots : length slots ≡ 0 → name_number names name ≡ None
  no_slots none = free_first (get_or_past slots (first_slot (length slots) name) 0 (omega (arith, none)))

  pub same_number : (number : ℕ) → slice_get names number ≡ Some name → name_number names name ≡ Some number
  same_number number e = is.numbered name number e

  -- it is not in the first slot, which has another name
  not_first : IsSeen names slots (first_slot (length slots) name) name Other → (number : ℕ) → name_number names name ≡ Some number
      → HasName slots (second_slot (length slots) name) number ⊎ (IsTaken slots (second_slot (length slots) name) × (overflow_at overflow name ≡ Some number))
  not_first seen number e = elim (stored_of number e) [ inl h ↦ absurd (seen.1 number (number_at names name number e).1 h) | inr t ↦ t.1 ]

  pub free_second : IsSeen names slots (first_slot (length slots) name) name Other → slice_index slots (second_slot (length slots) name) ≡ 0 → name_number names name ≡ None
  free_second seen free = none_by (name_number names name) (λ number e. elim (not_first seen number e) [ inl h ↦ taken slots _ number h free | inr t ↦ t.0 free ])

  in_tree_by : IsSeen names slots (first_slot (length slots) name) name Other → IsSeen names slots (second_slot (length slots) name) name Other
      → (o found : Option ℕ) → name_number names name ≡ o → overflow_at overflow name ≡ found → found ≡ o
  in_tree_by seen also None None e f = refl
  in_tree_by seen also None (Some number) e f = sym (is.in_overflow name number f) ∙ e
  in_tree_by seen also (Some number) found e f =
      elim (not_first seen number e) [ inl h ↦ absurd (also.1 number (number_at names name number e).1 h) | inr t ↦ sym f ∙ t.1 ]

  pub in_tree : IsSeen names slots (first_slot (length slots) name) name Other → IsSeen names slots (second_slot (length slots) name) name Other
      → overflow_at overflow name ≡ name_number names name
  in_tree seen also = in_tree_by seen also (name_number names name) (overflow_at overflow name) refl refl

-- ---- what the calls say of slices

abbrev pub now_of : Bor (List ℕ) → List ℕ
now_of name = name.now

pub item_named : (items : List (Bor (List ℕ))) (i : ℕ) (x : Bor (List ℕ)) → i < length items → ((d : Bor (List ℕ)) → x ≡ get_or items i d) → slice_get (map now_of items) i ≡ Some x.now
item_named items i x l is = slice_get-map now_of items i ∙ ap (option_map now_of) (slice_get-get_or items i x l ∙ ap Some (sym (is x)))

pub item_got : (items : List (Bor (List ℕ))) (i : ℕ) (o : Option (Bor (Bor (List ℕ)))) → IsItemAt items i o → option_map now_of (option_copied o) ≡ slice_get (map now_of items) i
item_got items i o h = ap (option_map now_of) (copied_get items i o h) ∙ sym (slice_get-map now_of items i)

pub at_index : (items : List (Bor (List ℕ))) (i : ℕ) (d : Bor (List ℕ)) → i < length items → slice_get (map now_of items) i ≡ Some (get_or items i d).now
at_index items i d l = slice_get-map now_of items i ∙ ap (option_map now_of) (slice_get-get_or items i d l)

pub push_now : (items : List (Bor (List ℕ))) (last : Bor (List ℕ)) → map now_of (items ++ last ∷ []) ≡ map now_of items ++ last.now ∷ []
push_now [] last = refl
push_now (first ∷ items) last = ap (λ (names : List (List ℕ)). first.now ∷ names) (push_now items last)

-- what a slice lends, where all of it is written back
pub written_back : (n : ℕ) (new old : List ℕ) → length new ≡ length old → n ≡ length old → take n (new ++ drop (length new) old) ≡ new
written_back n new old same e =
    let none : drop (length new) old ≡ [] = drop_all (length new) old (let l : length old ≤ length new = omega (arith, same) in l) in
    rw none (rw (append-nil new) (take_all n new (let l : length new ≤ n = omega (arith, same, e) in l)))

pub numbered_item : (names : List (List ℕ)) → AreNumbered names → (i : ℕ) (o : Option (Bor (List ℕ))) → option_map now_of o ≡ slice_get names i → IfSome o (λ name. name_number names name.now ≡ Some i)
numbered_item names are i None e = tt
numbered_item names are i (Some name) e = are name.now i (sym e)

module _ (names : List (List ℕ)) (slots : List ℕ) (slot : ℕ) (some : slice_index slots slot ≡ 0 → ⊥) (name : List ℕ) where
  abbrev place : ℕ
  place = slice_index slots slot - 1

  has_place : HasName slots slot place
  has_place = let e : (slice_index slots slot ≡ 0) → ⊥ = some in omega (arith, e)

  place_is : (number : ℕ) → HasName slots slot number → number ≡ place
  place_is number h = omega (arith, h)

  pub seen_same : (other : List ℕ) → slice_get names place ≡ Some other → bytes_eq other name ≡ true → IsSeen names slots slot name (Same place)
  seen_same other e same = (e ∙ ap Some ((bytes_decides other name).0 same), has_place)

  pub seen_other : (other : List ℕ) → slice_get names place ≡ Some other → bytes_eq other name ≡ false → IsSeen names slots slot name Other
  seen_other other e apart = (
    some,
    λ number f h.
        let there : slice_get names place ≡ Some name = ap (slice_get names) (sym (place_is number h)) ∙ f in
        let same : other ≡ name = (let g : Some other ≡ Some name = sym e ∙ there in cc) in
        false≢true (sym apart ∙ (bytes_decides other name).1 same),
  )

  pub seen_none : slice_get names place ≡ None → IsSeen names slots slot name Other
  seen_none e = (
    some,
    λ number f h.
        let there : slice_get names place ≡ Some name = ap (slice_get names) (sym (place_is number h)) ∙ f in
        let none : None ≡ Some name = sym e ∙ there in absurd cc,
  )

pub seen_in : (items lent : List (Bor (List ℕ))) (slots given : List ℕ) (place slot : ℕ) (name : List ℕ) (s : Seen) → lent ≡ items → given ≡ slots → slot ≡ place
    → IsSeen (map now_of lent) given slot name s → IsSeen (map now_of items) slots place name s
seen_in items lent slots given place slot name s e f g h =
    subst (λ (xs : List (Bor (List ℕ))). IsSeen (map now_of xs) slots place name s) e
    (subst (λ (xs : List ℕ). IsSeen (map now_of lent) xs place name s) f
    (subst (λ (i : ℕ). IsSeen (map now_of lent) given i name s) g h))

-- ---- one more name that is stored

last_or_before : (i n : ℕ) → i < n + 1 → (i < n) ⊎ (i ≡ n)
last_or_before zero zero l = inr refl
last_or_before zero (suc n) l = inl (omega arith)
last_or_before (suc i) zero l = absurd (omega (arith, l))
last_or_before (suc i) (suc n) l = elim (last_or_before i n (omega (arith, l))) [ inl f ↦ inl (omega (arith, f)) | inr f ↦ inr (ap suc f) ]

module _ (slots more : List ℕ) (tree grown : Tree) (same : length more ≡ length slots) (kept : KeepsTaken slots more) (keeps : KeepsOverflow tree grown) where
  pub stored_next : (names : List (List ℕ)) (number : ℕ) (name : List ℕ) → slice_get names number ≡ Some name → IsStored more grown name number
      → AreStored number names slots tree → AreStored (number + 1) names more grown
  stored_next names number name at stored are other k l e =
      elim (last_or_before k number l) [
        | inl f ↦ stored_stays slots more kept tree grown same keeps other k (are other k f e)
        | inr f ↦
            let there : Some name ≡ Some other = sym at ∙ (ap (slice_get names) (sym f) ∙ e) in
            let one : name ≡ other = cc in
            subst (λ (n : List ℕ). IsStored more grown n k) one (subst (λ (i : ℕ). IsStored more grown name i) (sym f) stored)
      ]

  pub stored_more : (names : List (List ℕ)) (name : List ℕ) → IsStored more grown name (length names)
      → AreStored (length names) names slots tree → AreStored (length (names ++ name ∷ [])) (names ++ name ∷ []) more grown
  stored_more names name stored are other k l e =
      elim (get_cases name names k other e) [
        | inl f ↦ stored_stays slots more kept tree grown same keeps other k (are other k (slice_get_within names k other f) f)
        | inr f ↦ subst (λ (n : List ℕ). IsStored more grown n k) f.1 (subst (λ (i : ℕ). IsStored more grown name i) (sym f.0) stored)
      ]

pub index_more : (names : List (List ℕ)) (slots more : List ℕ) (tree grown : Tree) (name : List ℕ) → IsNameIndex names slots tree → name_number names name ≡ None
    → length more ≡ length slots → KeepsTaken slots more → AddsAt tree grown name (length names) → IsStored more grown name (length names)
    → IsNameIndex (names ++ name ∷ []) more grown
index_more names slots more tree grown name is fresh same kept adds stored =
    let keeps : KeepsOverflow tree grown = adds_keep tree grown name (length names) adds (λ other e. let f : None ≡ Some other = sym fresh ∙ is.in_overflow name other e in absurd cc) in
    record {
      numbered = numbered_more names name is.numbered fresh;
      stored = stored_more slots more tree grown same kept keeps names name stored is.stored;
      in_overflow = adds_overflow (names ++ name ∷ []) tree grown name (length names) (overflow_more names name tree is.in_overflow) (number_new names name fresh) adds;
    }

-- ---- the same for what the calls say of their results

-- one turn of the loop over the names
pub stored_turn : (names : List (List ℕ)) (count len : ℕ) (items lent new : List ℕ) (before tree grown : Tree) (number : ℕ) (name : List ℕ)
    → AreNumbered names → lent ≡ items → len ≡ length items
    → (length items ≡ count) × AreStored number names items tree × IsOverflow names tree × KeepsOverflow before tree
    → slice_get names number ≡ Some name → length new ≡ length lent → IsStored new grown name number → KeepsTaken lent new → AddsAt tree grown name number
    → (length (take len (new ++ drop (length new) items)) ≡ count) × AreStored (number + 1) names (take len (new ++ drop (length new) items)) grown
    × IsOverflow names grown × KeepsOverflow before grown
stored_turn names count len items lent new before tree grown number name are value whole inv at same stored kept adds =
    let as_long : length new ≡ length items = same ∙ ap length value in
    let stays : KeepsTaken items new = subst (λ (xs : List ℕ). KeepsTaken xs new) value kept in
    let numbered : name_number names name ≡ Some number = are name number at in
    let keeps : KeepsOverflow tree grown = adds_keep tree grown name number adds (only_number names tree name number inv.2 numbered) in
    subst (λ (xs : List ℕ). (length xs ≡ count) × AreStored (number + 1) names xs grown × IsOverflow names grown × KeepsOverflow before grown)
    (sym (written_back len new items as_long whole))
    (as_long ∙ inv.0, stored_next items new tree grown as_long stays keeps names number name at stored inv.1, adds_overflow names tree grown name number inv.2 numbered adds, λ other n e. keeps other n (inv.3 other n e))

pub index_unchanged : (names : List (List ℕ)) (len : ℕ) (items lent new : List ℕ) (tree grown : Tree) → IsNameIndex names items tree → lent ≡ items → len ≡ length items
    → length new ≡ length lent → KeepsTaken lent new → IsUnchanged tree grown → IsNameIndex names (take len (new ++ drop (length new) items)) grown
index_unchanged names len items lent new tree grown is value whole same kept unchanged =
    let as_long : length new ≡ length items = same ∙ ap length value in
    let stays : KeepsTaken items new = subst (λ (xs : List ℕ). KeepsTaken xs new) value kept in
    let alike : (name : List ℕ) → overflow_at grown name ≡ overflow_at tree name = λ name. ap (lookup (is_at (λ (key : Bor (List ℕ)). slice_cmp nat_cmp name key.now))) unchanged in
    subst (λ (xs : List ℕ). IsNameIndex names xs grown) (sym (written_back len new items as_long whole))
    (record {
      numbered = is.numbered;
      stored = λ name number l at. stored_stays items new stays tree grown as_long (λ other n e. alike other ∙ e) name number (is.stored name number l at);
      in_overflow = λ name number e. is.in_overflow name number (sym (alike name) ∙ e);
    })

pub index_added : (names : List (List ℕ)) (len number : ℕ) (items lent new : List ℕ) (tree grown : Tree) (name : List ℕ) → IsNameIndex names items tree → lent ≡ items → len ≡ length items
    → name_number names name ≡ None → number ≡ length names → length new ≡ length lent → KeepsTaken lent new → AddsAt tree grown name number → IsStored new grown name number
    → IsNameIndex (names ++ name ∷ []) (take len (new ++ drop (length new) items)) grown
index_added names len number items lent new tree grown name is value whole fresh last same kept adds stored =
    let as_long : length new ≡ length items = same ∙ ap length value in
    let stays : KeepsTaken items new = subst (λ (xs : List ℕ). KeepsTaken xs new) value kept in
    subst (λ (xs : List ℕ). IsNameIndex (names ++ name ∷ []) xs grown) (sym (written_back len new items as_long whole))
    (index_more names items new tree grown name is fresh as_long stays (subst (λ (n : ℕ). AddsAt tree grown name n) last adds) (subst (λ (n : ℕ). IsStored new grown name n) last stored))
