-- Lists of names that tell of some strands and branches, as they grow and change.
use Rattle.std.proofs.Common.{◌≡◌, ◌≢◌, ◌⊎◌, ◌↔◌, inl, inr, ℕ, suc, ◌<◌, List, [], ◌∷◌, ◌++◌, length, refl, sym, ap, ◌∙◌, subst, arith}
use Rattle.std.proofs.lemmas.List.{get_or_append_left, get_or_push, get_or-set_same, get_or-set_other, length-set}
use Rattle.std.proofs.Math.ListN.{set}
use Rattle.std.proofs.Common.{length-append}
use Rattle.law_strands.specs.Branches.{Branch}
use Rattle.law_strands.proofs.Updates.{same_or_not}
use Rattle.branch_names.specs.Names.{BranchName, Given, Kept, branch_number, IsGiven, name_at}

-- the names tell which of these strands have begun and which have one of these branches
pub record Tells (names : List BranchName) (HasBegun : ℕ → Type 0) (branch_of : ℕ → Branch) : Type 0 where
  pub given : (strand : ℕ) → strand < length names → IsGiven (name_at names strand) ↔ HasBegun strand
  pub below : (strand : ℕ) → strand < length names → branch_number (name_at names strand) < length names
  pub agree : (first second : ℕ) → first < length names → second < length names →
      (branch_number (name_at names first) ≡ branch_number (name_at names second)) ↔ (branch_of first ≡ branch_of second)

-- what is told of the strands that have names is all that counts
pub tells-again : (names : List BranchName) (HasBegun BegunNow : ℕ → Type 0) (branch_of branch_now : ℕ → Branch) → Tells names HasBegun branch_of →
    ((strand : ℕ) → strand < length names → HasBegun strand ↔ BegunNow strand) → ((strand : ℕ) → strand < length names → branch_now strand ≡ branch_of strand) →
    Tells names BegunNow branch_now
tells-again names HasBegun BegunNow branch_of branch_now tells begun stays = record {
  given = λ strand lt. ((λ t. (begun strand lt).0 ((tells.given strand lt).0 t)), (λ t. (tells.given strand lt).1 ((begun strand lt).1 t)));
  below = tells.below;
  agree = λ strand other lx ly. (
    (λ e. stays strand lx ∙ ((tells.agree strand other lx ly).0 e ∙ sym (stays other ly))),
    (λ e. (tells.agree strand other lx ly).1 (sym (stays strand lx) ∙ (e ∙ stays other ly))),
  );
}

-- a strand after one more name
pub data Pushed (names : List BranchName) (name : BranchName) (strand : ℕ) : Type 0 where
  older : strand < length names → name_at (names ++ name ∷ []) strand ≡ name_at names strand → Pushed names name strand
  newest : strand ≡ length names → name_at (names ++ name ∷ []) strand ≡ name → Pushed names name strand

length-pushed : (names : List BranchName) (name : BranchName) → length (names ++ name ∷ []) ≡ suc (length names)
length-pushed names name = omega (arith, length-append names (name ∷ []))

pub pushed : (names : List BranchName) (name : BranchName) (strand : ℕ) → strand < length (names ++ name ∷ []) → Pushed names name strand
pushed names name strand lt = go (same_or_not strand (length names))
  where
    go : (strand ≡ length names) ⊎ (strand ≢ length names) → Pushed names name strand
    go (inl e) = newest e (get_or_push names name (Kept 0) strand (sym e))
    go (inr ne) = let before : strand < length names = omega (arith, length-pushed names name) in older before (get_or_append_left names (name ∷ []) (Kept 0) strand before)

-- a strand begins with a branch and a number that no other has
pub tells-given : (names : List BranchName) (HasBegun : ℕ → Type 0) (branch_of : ℕ → Branch) (number : ℕ) → Tells names HasBegun branch_of → number ≡ length names → HasBegun number →
    ((strand : ℕ) → strand < length names → branch_of strand ≢ branch_of number) → Tells (names ++ Given number ∷ []) HasBegun branch_of
tells-given names HasBegun branch_of number tells new begun fresh = record {
  given = λ strand lx. given_at strand (pushed names (Given number) strand lx);
  below = λ strand lx. below_at strand (pushed names (Given number) strand lx);
  agree = λ strand other lx ly. (
    (λ e. to strand other e (pushed names (Given number) strand lx) (pushed names (Given number) other ly)),
    (λ e. from strand other e (pushed names (Given number) strand lx) (pushed names (Given number) other ly)),
  );
}
  where
    given_at : (strand : ℕ) → Pushed names (Given number) strand → IsGiven (name_at (names ++ Given number ∷ []) strand) ↔ HasBegun strand
    given_at strand (older lt e) = ((λ t. (tells.given strand lt).0 (subst IsGiven e t)), (λ t. subst IsGiven (sym e) ((tells.given strand lt).1 t)))
    given_at strand (newest at e) = ((λ t. subst HasBegun (new ∙ sym at) begun), (λ t. subst IsGiven (sym e) tt))

    below_at : (strand : ℕ) → Pushed names (Given number) strand → branch_number (name_at (names ++ Given number ∷ []) strand) < length (names ++ Given number ∷ [])
    below_at strand (older lt e) = let same : branch_number (name_at (names ++ Given number ∷ []) strand) ≡ branch_number (name_at names strand) = ap branch_number e in omega (arith, tells.below strand lt, length-pushed names (Given number))
    below_at strand (newest at e) = let same : branch_number (name_at (names ++ Given number ∷ []) strand) ≡ number = ap branch_number e in omega (arith, length-pushed names (Given number))

    to : (strand other : ℕ) → branch_number (name_at (names ++ Given number ∷ []) strand) ≡ branch_number (name_at (names ++ Given number ∷ []) other) → Pushed names (Given number) strand → Pushed names (Given number) other → branch_of strand ≡ branch_of other
    to strand other e (older lx ex) (older ly ey) = (tells.agree strand other lx ly).0 (sym (ap branch_number ex) ∙ (e ∙ ap branch_number ey))
    to strand other e (older lx ex) (newest ay ey) = absurd (let same : branch_number (name_at names strand) ≡ number = sym (ap branch_number ex) ∙ (e ∙ ap branch_number ey) in omega (arith, tells.below strand lx))
    to strand other e (newest ax ex) (older ly ey) = absurd (let same : number ≡ branch_number (name_at names other) = sym (ap branch_number ex) ∙ (e ∙ ap branch_number ey) in omega (arith, tells.below other ly))
    to strand other e (newest ax ex) (newest ay ey) = ap branch_of (ax ∙ sym ay)

    from : (strand other : ℕ) → branch_of strand ≡ branch_of other → Pushed names (Given number) strand → Pushed names (Given number) other → branch_number (name_at (names ++ Given number ∷ []) strand) ≡ branch_number (name_at (names ++ Given number ∷ []) other)
    from strand other e (older lx ex) (older ly ey) = ap branch_number ex ∙ ((tells.agree strand other lx ly).1 e ∙ sym (ap branch_number ey))
    from strand other e (older lx ex) (newest ay ey) = absurd (fresh strand lx (e ∙ ap branch_of (ay ∙ sym new)))
    from strand other e (newest ax ex) (older ly ey) = absurd (fresh other ly (sym e ∙ ap branch_of (ax ∙ sym new)))
    from strand other e (newest ax ex) (newest ay ey) = ap branch_number ex ∙ sym (ap branch_number ey)

-- a number is kept for a join that has not begun and has the branch of its opener
pub tells-kept : (names : List BranchName) (HasBegun : ℕ → Type 0) (branch_of : ℕ → Branch) (opener join number : ℕ) → Tells names HasBegun branch_of → opener < length names →
    number ≡ branch_number (name_at names opener) → join ≡ length names → (HasBegun join → ⊥) → branch_of join ≡ branch_of opener → Tells (names ++ Kept number ∷ []) HasBegun branch_of
tells-kept names HasBegun branch_of opener join number tells known number_is new not_begun same_branch = record {
  given = λ strand lx. given_at strand (pushed names (Kept number) strand lx);
  below = λ strand lx. let stands = stands_for strand (pushed names (Kept number) strand lx) in omega (arith, stands.2, tells.below stands.0 stands.1, length-pushed names (Kept number));
  agree = λ strand other lx ly.
      let first = stands_for strand (pushed names (Kept number) strand lx) in
      let second = stands_for other (pushed names (Kept number) other ly) in
      let agrees = tells.agree first.0 second.0 first.1 second.1 in
      ((λ e. first.3 ∙ (agrees.0 (sym first.2 ∙ (e ∙ second.2)) ∙ sym second.3)), (λ e. first.2 ∙ (agrees.1 (sym first.3 ∙ (e ∙ second.3)) ∙ sym second.2)));
}
  where
    -- an older strand with the same number and branch
    stands_for : (strand : ℕ) → Pushed names (Kept number) strand →
        (other : ℕ) × (other < length names) × (branch_number (name_at (names ++ Kept number ∷ []) strand) ≡ branch_number (name_at names other)) × (branch_of strand ≡ branch_of other)
    stands_for strand (older lt e) = (strand, lt, ap branch_number e, refl)
    stands_for strand (newest at e) = (opener, known, ap branch_number e ∙ number_is, ap branch_of (at ∙ sym new) ∙ same_branch)

    given_at : (strand : ℕ) → Pushed names (Kept number) strand → IsGiven (name_at (names ++ Kept number ∷ []) strand) ↔ HasBegun strand
    given_at strand (older lt e) = ((λ t. (tells.given strand lt).0 (subst IsGiven e t)), (λ t. subst IsGiven (sym e) ((tells.given strand lt).1 t)))
    given_at strand (newest at e) = ((λ t. absurd (subst IsGiven e t)), (λ t. absurd (not_begun (subst HasBegun (at ∙ sym new) t))))

-- a join begins with the number that was kept for it
pub tells-begun : (names : List BranchName) (HasBegun BegunNow : ℕ → Type 0) (branch_of : ℕ → Branch) (join number : ℕ) → Tells names HasBegun branch_of → join < length names →
    number ≡ branch_number (name_at names join) → BegunNow join → ((strand : ℕ) → strand < length names → strand ≢ join → HasBegun strand ↔ BegunNow strand) → Tells (set names join (Given number)) BegunNow branch_of
tells-begun names HasBegun BegunNow branch_of join number tells known number_is begun others = record {
  given = λ strand lx. given_at strand (omega (arith, length-set names join (Given number))) (same_or_not strand join);
  below = λ strand lx. omega (arith, number_at strand (same_or_not strand join), tells.below strand (omega (arith, length-set names join (Given number))), length-set names join (Given number));
  agree = λ strand other lx ly.
      let agrees = tells.agree strand other (omega (arith, length-set names join (Given number))) (omega (arith, length-set names join (Given number))) in
      let first = number_at strand (same_or_not strand join) in
      let second = number_at other (same_or_not other join) in
      ((λ e. agrees.0 (sym first ∙ (e ∙ second))), (λ e. first ∙ (agrees.1 e ∙ sym second)));
}
  where
    here : name_at (set names join (Given number)) join ≡ Given number
    here = get_or-set_same names join (Given number) (Kept 0) known

    elsewhere : (strand : ℕ) → strand ≢ join → name_at (set names join (Given number)) strand ≡ name_at names strand
    elsewhere strand ne = get_or-set_other names join strand (Given number) (Kept 0) ne

    number_at : (strand : ℕ) → (strand ≡ join) ⊎ (strand ≢ join) → branch_number (name_at (set names join (Given number)) strand) ≡ branch_number (name_at names strand)
    number_at strand (inl e) = rw e (ap branch_number here ∙ number_is)
    number_at strand (inr ne) = ap branch_number (elsewhere strand ne)

    given_at : (strand : ℕ) → strand < length names → (strand ≡ join) ⊎ (strand ≢ join) → IsGiven (name_at (set names join (Given number)) strand) ↔ BegunNow strand
    given_at strand lt (inl e) = ((λ t. subst BegunNow (sym e) begun), (λ t. rw e (subst IsGiven (sym here) tt)))
    given_at strand lt (inr ne) = (
      (λ t. (others strand lt ne).0 ((tells.given strand lt).0 (subst IsGiven (elsewhere strand ne) t))),
      (λ t. subst IsGiven (sym (elsewhere strand ne)) ((tells.given strand lt).1 ((others strand lt ne).1 t))),
    )
