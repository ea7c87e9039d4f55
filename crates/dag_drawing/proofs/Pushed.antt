-- What stands in a text behind several additions.
use Rattle.std.proofs.Common.{◌≡◌, ℕ, List, [], ◌∷◌, ◌++◌, ◌==◌, ◌∙◌, Option, true, false, length, map, min, take, ap, sym, subst, append_assoc, Some, arith}
use Rattle.std.proofs.lemmas.List.{take_min, take-map}
use Rattle.std.proofs.lemmas.Bool.Decides.{nat_tests}
use Rattle.std.proofs.lemmas.Result.{IfOk-weaker}
use Rattle.std.specs.Prelude.{String, Result, Ok, Err, IfOk, OnOk, codes, flat_map, string_bytes}
use Rattle.text_buffers.specs.Builders.{Adds}
use Rattle.text_buffers.proofs.Builders.{these, two_adds, none_adds, whole_text}
use Rattle.dag_drawing.specs.declared.drawing.Drawing.{Drawing}
use Rattle.dag_drawing.specs.Dots.{heading_text, line_text}
use Rattle.dag_drawing.specs.Labels.{Naming}
use Rattle.dag_drawing.specs.Plans.{Plan, most_title_characters, most_title_lines}
use Rattle.dag_drawing.specs.Pictures.{head_text, title_text, lines_text, picture_text}

pub on_ok : {T E : Type 0} (r : Result T E) (P Q : Type 0) → (P → Q) → OnOk r P → OnOk r Q
on_ok (Ok value) P Q f p = f p
on_ok (Err fault) P Q f p = p

pub on_all_ok : {T E : Type 0} (r : Result T E) (P Q S U : Type 0) → (P → Q → S → U) → OnOk r P → OnOk r Q → OnOk r S → OnOk r U
on_all_ok (Ok value) P Q S U f p q s = f p q s
on_all_ok (Err fault) P Q S U f p q s = p

-- ---- parts that are added one by one

-- with the rest added to what is there, the whole is added to what was there first
abbrev pub Completes : (first here : Option (List ℕ)) (rest whole : List ℕ) → Type 0
Completes first here rest whole = (end : Option (List ℕ)) → Adds here rest end → Adds first whole end

pub one_part : (first here more : Option (List ℕ)) (before part rest whole : List ℕ) → before ≡ part ++ rest → Completes first here before whole →
    Adds here part more → Completes first more rest whole
one_part first here more before part rest whole is completes adds =
    λ end rest_adds. completes end (these here end (part ++ rest) before (two_adds here more end part rest adds rest_adds) (sym is))

pub no_part_left : (first here : Option (List ℕ)) (rest whole : List ℕ) → rest ≡ [] → Completes first here rest whole → Adds first whole here
no_part_left first here rest whole none completes = completes here (these here here [] rest (none_adds here) (sym none))

-- a text that was built from its beginning on, with memory of any allocator
pub text_built : {T E : Type 0} (result : Result T E) (bytes : T → List ℕ) (old one : Option (List ℕ)) (words : List ℕ) → old ≡ Some [] → Adds old words one →
    IfOk result (λ text. one ≡ Some (bytes text)) → IfOk result (λ text. bytes text ≡ words)
text_built result bytes old one words new adds end =
    IfOk-weaker result (λ text. one ≡ Some (bytes text)) (λ text. bytes text ≡ words) (λ text is. whole_text old one words (bytes text) new adds is) end

-- ---- filled words

-- the parts of filled words: from here on the letters at the right places are numbers, the others words
infixr 65 ◌⊕◌
abbrev ◌⊕◌ : List ℕ → List ℕ → List ℕ
one ⊕ two = one ++ two

pub one_filled : (a x b : List ℕ) → (a ⊕ x ⊕ b) ≡ a ++ x ++ b
one_filled a x b = simp append_assoc

pub two_filled : (a x b y c : List ℕ) → (a ⊕ x ⊕ b ⊕ y ⊕ c) ≡ a ++ x ++ b ++ y ++ c
two_filled a x b y c = simp append_assoc

pub head_filled : (a w b h c d e : List ℕ) → (a ⊕ w ⊕ b ⊕ h ⊕ c ⊕ w ⊕ d ⊕ h ⊕ e) ≡ a ++ w ++ b ++ h ++ c ++ w ++ d ++ h ++ e
head_filled a w b h c d e = simp append_assoc

pub edge_filled : (a k b u c v d w e x f y g z h : List ℕ) → a ++ k ++ (b ⊕ u ⊕ c ⊕ v ⊕ d ⊕ w ⊕ e ⊕ x ⊕ f ⊕ y ⊕ g ⊕ z ⊕ h) ≡
    a ++ k ++ b ++ u ++ c ++ v ++ d ++ w ++ e ++ x ++ f ++ y ++ g ++ z ++ h
edge_filled a k b u c v d w e x f y g z h = simp append_assoc

-- the box of a strand, up to its lines
pub node_filled : (a v b w c x d y e z f g h : List ℕ) → (a ⊕ v ⊕ b ⊕ w ⊕ c ⊕ x ⊕ d ⊕ y ⊕ e ⊕ z ⊕ f ⊕ g ⊕ x ⊕ h) ≡
    (a ++ v ++ b ++ w ++ c ++ x ++ d ++ y ++ e ++ z ++ f) ++ g ++ x ++ h
node_filled a v b w c x d y e z f g h = simp append_assoc

-- a race's ends, its arc, and what is written beside it
pub race_filled : (a p b q c m s x y d h z v w e f j g k i t l : List ℕ) →
    (a ⊕ p ⊕ b ⊕ q ⊕ c ⊕ m ⊕ x ⊕ s ⊕ y ⊕ d ⊕ x ⊕ s ⊕ h ⊕ s ⊕ z ⊕ s ⊕ w ⊕ s ⊕ z ⊕ s ⊕ v ⊕ e ⊕ f ⊕ j ⊕ g ⊕ k ⊕ i) ++ t ++ l ≡
    (a ++ p ++ b ++ q ++ c) ++ (m ++ x ++ s ++ y ++ d ++ x ++ s ++ h ++ s ++ z ++ s ++ w ++ s ++ z ++ s ++ v ++ e) ++
    (f ++ j ++ g ++ k ++ i ++ t ++ l)
race_filled a p b q c m s x y d h z v w e f j g k i t l = simp append_assoc

pub head_same : (width other height another : ℕ) → width ≡ other → height ≡ another → head_text width height ≡ head_text other another
head_same width other height another one two = cc

pub planned : (old new : Option (List ℕ)) (one other : Plan) (naming : Naming) (drawing : Drawing) → one ≡ other →
    Adds old (picture_text one naming drawing) new → Adds old (picture_text other naming drawing) new
planned old new one other naming drawing is adds = subst (λ plan. Adds old (picture_text plan naming drawing) new) is adds

-- ---- the lines of a box

pub lines_pushed : (line : List ℕ) (old told rest one two three : List (List ℕ)) → one ≡ old ++ line ∷ [] → two ≡ one ++ told →
    three ≡ two ++ rest → three ≡ old ++ (line ∷ told ++ rest)
lines_pushed line old told rest one two three first second third =
    let joined : three ≡ old ++ line ∷ [] ++ told ++ rest = cc in
    joined ∙ simp append_assoc

-- ---- what was recorded

not_empty : {A : Type 0} (run : A) (runs : List A) → (length (run ∷ runs) == 0) ≡ true → ⊥
not_empty run runs none = let empty : length (run ∷ runs) ≡ 0 = grind (arith, nat_tests, none) in omega (arith, empty)

pub no_heading : {A : Type 0} (runs : List (String A)) (old : Option (List ℕ)) → (length runs == 0) ≡ true →
    Adds old (heading_text (map string_bytes runs)) old
no_heading [] old none = none_adds old
no_heading (run ∷ runs) old none = absurd (not_empty run runs none)

pub heading_adds : {A : Type 0} (runs : List (String A)) (old new : Option (List ℕ)) → (length runs == 0) ≡ false →
    Adds old (codes "  labelloc=t;\n  label=\"" ++ flat_map line_text (map string_bytes runs) ++ codes "\";\n") new →
    Adds old (heading_text (map string_bytes runs)) new
heading_adds [] old new some adds = absurd (let g : true ≡ false = some in cc)
heading_adds (run ∷ runs) old new some adds = adds

pub no_title : {A : Type 0} (runs : List (String A)) (old : Option (List ℕ)) → (length runs == 0) ≡ true →
    Adds old (title_text (map string_bytes runs)) old
no_title [] old none = none_adds old
no_title (run ∷ runs) old none = absurd (not_empty run runs none)

pub title_adds : {A : Type 0} (runs : List (String A)) (old new : Option (List ℕ)) → (length runs == 0) ≡ false →
    Adds old (codes "<text id=\"title\" y=\"8\">" ++ lines_text most_title_characters 16 (take most_title_lines (map string_bytes runs)) ++
    codes "</text>\n") new → Adds old (title_text (map string_bytes runs)) new
title_adds [] old new some adds = absurd (let g : true ≡ false = some in cc)
title_adds (run ∷ runs) old new some adds = adds

pub title_shown : {A : Type 0} (most : ℕ) (runs shown : List (String A)) → shown ≡ take (min most (length runs)) runs →
    map string_bytes shown ≡ take most (map string_bytes runs)
title_shown most runs shown is = ap (map string_bytes) (is ∙ take_min most runs) ∙ sym (take-map string_bytes most runs)
