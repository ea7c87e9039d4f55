-- Names in the order of their bytes, each once.
use Rattle.std.proofs.Common.{◌≡◌, ℕ, ◌+◌, ◌<◌, List, [], ◌∷◌, ◌++◌, length, map, take, get_or, refl, sym, ap, ◌∙◌}
use Rattle.std.proofs.lemmas.List.{take_more, map-append}
use Rattle.std.specs.Global.{Vec}
use Rattle.std.specs.BTreeSet.{insert_key}
use Rattle.std.specs.Ordering.{nat_cmp, match_ordering}
use Rattle.std.specs.Cmp.Lexicographic.{slice_cmp}
use Rattle.std.specs.declared.cmp.Ordering.{Ordering}
use Rattle.std.specs.declared.cmp.Ordering.TheVariants.{Less, Equal, Greater}
use Rattle.race_explanations.specs.Titles.{with_text, with_texts}
use Rattle.race_explanations.specs.Findings.{with_names}

-- how names are compared
abbrev pub name_cmp : Vec ℕ → Vec ℕ → Ordering
name_cmp one other = slice_cmp nat_cmp one.items other.items

abbrev pub bytes_of : Vec ℕ → List ℕ
bytes_of name = name.items

-- one more name
pub with_names_more : (names some : List (Vec ℕ)) (one : Vec ℕ) → with_names names (some ++ one ∷ []) ≡ insert_key name_cmp (with_names names some) one
with_names_more names [] one = refl
with_names_more names (x ∷ some) one = with_names_more (insert_key name_cmp names x) some one

with_texts_more : (texts some : List (List ℕ)) (one : List ℕ) → with_texts texts (some ++ one ∷ []) ≡ with_text (with_texts texts some) one
with_texts_more texts [] one = refl
with_texts_more texts (x ∷ some) one = with_texts_more (with_text texts x) some one

-- a name among others, by its bytes
inserted : (names : List (Vec ℕ)) (one : Vec ℕ) → map bytes_of (insert_key name_cmp names one) ≡ with_text (map bytes_of names) one.items
inserted [] one = refl
inserted (x ∷ names) one = by (inserted names one) (slice_cmp nat_cmp one.items x.items)
  where
    by : map bytes_of (insert_key name_cmp names one) ≡ with_text (map bytes_of names) one.items → (order : Ordering) → map bytes_of (match_ordering order (one ∷ x ∷ names) (x ∷ names) (x ∷ insert_key name_cmp names one)) ≡
        match_ordering order (one.items ∷ x.items ∷ map bytes_of names) (x.items ∷ map bytes_of names) (x.items ∷ with_text (map bytes_of names) one.items)
    by behind Less = refl
    by behind Equal = refl
    by behind Greater = ap (λ (rest : List (List ℕ)). x.items ∷ rest) behind

-- what one more place is told as
pub told_more : {X : Type 0} (f : X → List ℕ) (items : List X) (index : ℕ) (d : X) (old new : List (Vec ℕ)) (one : Vec ℕ) → index < length items →
    map bytes_of old ≡ with_texts [] (map f (take index items)) → one.items ≡ f (get_or items index d) → new ≡ insert_key name_cmp old one →
    map bytes_of new ≡ with_texts [] (map f (take (index + 1) items))
told_more f items index d old new one below before told is =
    let front = map f (take index items) in
    let grown : map f (take (index + 1) items) ≡ front ++ f (get_or items index d) ∷ [] =
    ap (map f) (take_more items index d below) ∙ map-append f (take index items) (get_or items index d ∷ []) in
    ap (map bytes_of) is ∙ inserted old one ∙ ap (λ texts. with_text texts one.items) before ∙ ap (with_text (with_texts [] front)) told ∙
    sym (with_texts_more [] front (f (get_or items index d))) ∙ ap (with_texts []) (sym grown)
