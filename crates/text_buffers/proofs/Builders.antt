-- What is added to a text in several parts.
use Rattle.std.proofs.Common.{◌≡◌, ℕ, Bool, true, List, [], ◌∷◌, ◌++◌, Option, Some, None, refl, sym, ap, ◌∙◌, append_assoc, append-nil, subst, ◌+◌, ◌<◌, length, take, get_or, flat_map, if◌then◌else◌}
use Rattle.std.specs.Prelude.{Result, IfOk}
use Rattle.std.specs.Global.{Vec}
use Rattle.std.proofs.lemmas.Grind.{flat_map-append}
use Rattle.std.proofs.lemmas.List.{take_more}
use Rattle.std.proofs.lemmas.Result.{IfOk-weaker}
use Rattle.text_buffers.specs.Builders.{added, Adds}

pub never : {text : List ℕ} → None ≡ Some text → ⊥
never e = absurd (cc)

pub some_is : {one two : List ℕ} → Some one ≡ Some two → one ≡ two
some_is e = cc

added_added : (old : Option (List ℕ)) (a b : List ℕ) → added (added old a) b ≡ added old (a ++ b)
added_added None a b = refl
added_added (Some text) a b = ap Some (append_assoc text a b)

-- the same words by another name
pub these : (old new : Option (List ℕ)) (a b : List ℕ) → Adds old a new → a ≡ b → Adds old b new
these old new a b adds is = subst (λ (words : List ℕ). Adds old words new) is adds

pub two_adds : (old one two : Option (List ℕ)) (a b : List ℕ) → Adds old a one → Adds one b two → Adds old (a ++ b) two
two_adds old one None a b first second = record { adds = tt }
two_adds old None (Some text) a b first second = absurd (never second.adds)
two_adds old (Some front) (Some text) a b first second =
    record { adds = sym (added_added old a b) ∙ ap (λ t. added t b) first.adds ∙ second.adds }

pub three_adds : (old one two three : Option (List ℕ)) (a b c : List ℕ) → Adds old a one → Adds one b two → Adds two c three →
    Adds old (a ++ b ++ c) three
three_adds old one two three a b c first second third = two_adds old two three (a ++ b) c (two_adds old one two a b first second) third

pub four_adds : (old one two three four : Option (List ℕ)) (a b c d : List ℕ) → Adds old a one → Adds one b two → Adds two c three →
    Adds three d four → Adds old (a ++ b ++ c ++ d) four
four_adds old one two three four a b c d first second third fourth =
    two_adds old three four (a ++ b ++ c) d (three_adds old one two three a b c first second third) fourth

pub five_adds : (old one two three four five : Option (List ℕ)) (a b c d e : List ℕ) → Adds old a one → Adds one b two → Adds two c three →
    Adds three d four → Adds four e five → Adds old (a ++ b ++ c ++ d ++ e) five
five_adds old one two three four five a b c d e first second third fourth fifth =
    two_adds old four five (a ++ b ++ c ++ d) e (four_adds old one two three four a b c d first second third fourth) fifth

-- words and a number behind others
pub number_adds : (old one two : Option (List ℕ)) (a words digits : List ℕ) → Adds old a one → Adds one (words ++ digits) two →
    Adds old (a ++ words ++ digits) two
number_adds old one two a words digits first second =
    these old two (a ++ (words ++ digits)) (a ++ words ++ digits) (two_adds old one two a (words ++ digits) first second) (sym (append_assoc a words digits))

pub none_adds : (old : Option (List ℕ)) → Adds old [] old
none_adds None = record { adds = tt }
none_adds (Some text) = record { adds = ap Some (append-nil text) }

-- words that are added where a test holds
pub then_adds : (old new : Option (List ℕ)) (test : Bool) (a b : List ℕ) → test ≡ true → Adds old a new → Adds old (if test then a else b) new
then_adds old new test a b is adds = rw is adds

-- one item more of those that are added one by one
pub one_more : {X : Type 0} (f : X → List ℕ) (items : List X) (index : ℕ) (d : X) (old one two : Option (List ℕ)) → index < length items →
    Adds old (flat_map f (take index items)) one → Adds one (f (get_or items index d)) two → Adds old (flat_map f (take (index + 1) items)) two
one_more f items index d old one two below before adds =
    let item : List ℕ = f (get_or items index d) in
    let front : List ℕ = flat_map f (take index items) in
    these old two (front ++ item) (flat_map f (take (index + 1) items)) (two_adds old one two front item before adds)
    (ap (λ t. front ++ t) (sym (append-nil item)) ∙ sym (flat_map-append f (take index items) (get_or items index d ∷ [])) ∙
    ap (λ some. flat_map f some) (sym (take_more items index d below)))

-- a text that was built from its beginning on
pub whole_text : (old one : Option (List ℕ)) (words text : List ℕ) → old ≡ Some [] → Adds old words one → one ≡ Some text → text ≡ words
whole_text None one words text new adds is = absurd (cc)
whole_text (Some front) None words text new adds is = absurd (never is)
whole_text (Some front) (Some whole) words text new adds is =
    sym (some_is is) ∙ sym (some_is adds.adds) ∙ ap (λ l. l ++ words) (some_is new)

pub built : {E : Type 0} (old one : Option (List ℕ)) (words : List ℕ) (result : Result (Vec ℕ) E) → old ≡ Some [] → Adds old words one →
    IfOk result (λ text. one ≡ Some text.items) → IfOk result (λ text. text.items ≡ words)
built old one words result new adds end =
    IfOk-weaker result (λ text. one ≡ Some text.items) (λ text. text.items ≡ words) (λ text is. whole_text old one words text.items new adds is) end
