-- Lines that are kept whole, and one more.
use Rattle.std.proofs.Common.{◌≡◌, ◌≢◌, ◌++◌, ◌∷◌, ◌==◌, [], refl, ap, sym, ◌∙◌, ℕ, suc, List, length, true, false, Bool, ◌↔◌}
use Rattle.std.proofs.lemmas.Bool.{ne_eqb}
use Rattle.std.proofs.lemmas.List.{append_assoc, append-nil, nil_from_length}
use Rattle.text_words.specs.declared.value.TraceLine.{TraceLine}
use Rattle.packed_trace.specs.Heads.{marker, strand_in, line_of_head}
use Rattle.packed_trace.specs.Lines.{lines_from, AreWhole}

-- as many lines as heads
pub counted : (last : ℕ) (heads numbers : List ℕ) → length (lines_from last heads numbers) ≡ length heads
counted last [] numbers = refl
counted last (head ∷ heads) numbers = by_test (strand_in head == marker) refl (λ at rest. counted at heads rest)
  where
    by_test : (is_long : Bool) → (strand_in head == marker) ≡ is_long → ((at : ℕ) (rest : List ℕ) → length (lines_from at heads rest) ≡ length heads) →
        length (lines_from last (head ∷ heads) numbers) ≡ suc (length heads)
    by_test true test behind = rw test (ap suc (behind _ _))
    by_test false test behind = rw test (ap suc (behind _ _))

-- there is no line where there is no head, and only there
pub none_from : (last : ℕ) (heads numbers : List ℕ) → length heads ≡ 0 → lines_from last heads numbers ≡ []
none_from last heads numbers none = nil_from_length _ (counted last heads numbers ∙ none)

pub none_left : (last : ℕ) (heads numbers : List ℕ) → length heads ≡ 0 ↔ lines_from last heads numbers ≡ []
none_left last heads numbers = (none_from last heads numbers, (λ none. sym (counted last heads numbers) ∙ ap length none))

-- a head that is enough is the next line
head_first : (last head : ℕ) (more others : List ℕ) → strand_in head ≢ marker →
    lines_from last (head ∷ more) others ≡ line_of_head last head ∷ lines_from (line_of_head last head).at more others
head_first last head more others short = rw (ne_eqb (strand_in head) marker short) refl

-- a line more whose head is enough is the last one
pub head_last : (heads numbers : List ℕ) (last head : ℕ) (line : TraceLine) → AreWhole heads numbers last → strand_in head ≢ marker → line_of_head last head ≡ line →
    lines_from 0 (heads ++ head ∷ []) numbers ≡ lines_from 0 heads numbers ++ line ∷ []
head_last heads numbers last head line whole short same =
    ap (lines_from 0 (heads ++ head ∷ [])) (sym (append-nil numbers)) ∙ whole (head ∷ []) [] ∙
    ap (λ lines. lines_from 0 heads numbers ++ lines) (head_first last head [] [] short) ∙ ap (λ it. lines_from 0 heads numbers ++ it ∷ []) same

-- and the lines are whole with it
pub head_whole : (heads numbers : List ℕ) (last head : ℕ) (line : TraceLine) → AreWhole heads numbers last → strand_in head ≢ marker → line_of_head last head ≡ line →
    AreWhole (heads ++ head ∷ []) numbers line.at
head_whole heads numbers last head line whole short same = λ more others.
    ap (λ all. lines_from 0 all (numbers ++ others)) (append_assoc heads (head ∷ []) more) ∙ whole (head ∷ more) others ∙
    ap (λ lines. lines_from 0 heads numbers ++ lines) (head_first last head more others short) ∙
    ap (λ it. lines_from 0 heads numbers ++ it ∷ lines_from it.at more others) same ∙
    sym (append_assoc (lines_from 0 heads numbers) (line ∷ []) (lines_from line.at more others)) ∙
    ap (λ lines. lines ++ lines_from line.at more others) (sym (head_last heads numbers last head line whole short same))
