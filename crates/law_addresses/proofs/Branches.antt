-- The branch of an address decides its peers: what is parallel to it among all strands.
use Rattle.std.proofs.Common.{◌≡◌, ◌≢◌, ◌⊎◌, ◌↔◌, ◌||◌, inl, inr, Bool, true, false, not, cond, [], ◌∷◌, ◌++◌, refl, sym, ap, ◌∙◌, append-nil, append_assoc, IsTrue}
use Rattle.std.proofs.lemmas.Bool.{and_right}
use Rattle.std.proofs.lemmas.Bool.Decides.{same_from_decides}
use Rattle.model_strands.specs.Address.{Word, child, next, join, Address, extended, same_word, differ, first_difference}
use Rattle.law_addresses.specs.Address.{is_fork, sibling, same, reaches, parallel, put_before, branch}
use Rattle.law_addresses.specs.Laws.{BranchesArePeers, IsNamed, NamesDecide}
use Rattle.law_addresses.proofs.Relations.{cases_same, reaches-antisymmetric, reaches-transitive, parallel-self, parallel-comm, same-decides, parallel_at, parallel-by_difference}
use Rattle.law_addresses.proofs.Extensions.{reaches-fork, reaches-nil, reaches-extension, parallel-append}

-- induction by the last word
pub by_last : (P : Address → Type 0) → P [] → ((a : Address) (word : Word) → P a → P (extended a word)) → (a : Address) → P a
by_last P at_nil step a = go a [] at_nil
  where
    go : (rest a : Address) → P a → P (a ++ rest)
    go [] a h = rw append-nil h
    go (word ∷ rest) a h = rw append_assoc at (go rest (extended a word) (step a word h))

-- an address is empty or ends in a word
pub cases_last : (a : Address) → (a ≡ []) ⊎ ((front : Address) × (word : Word) × (a ≡ extended front word))
cases_last = by_last (λ a. (a ≡ []) ⊎ ((front : Address) × (word : Word) × (a ≡ extended front word))) (inl refl) (λ a word h. inr (a, word, refl))

put_before-extended : (x word : Word) (a : Address) → put_before x (extended a word) ≡ x ∷ extended a word
put_before-extended x word [] = refl
put_before-extended x word (y ∷ a) = refl

-- a join at the end leaves the branch as it is
pub branch-join : (a : Address) → branch (extended a join) ≡ branch a
branch-join [] = refl
branch-join (x ∷ a) = ap (put_before x) (branch-join a)

-- the branch of a child or a continuation is its whole address
pub branch-fork : (word : Word) → is_fork word ≡ true → (a : Address) → branch (extended a word) ≡ extended a word
branch-fork child h [] = refl
branch-fork next h [] = refl
branch-fork join h [] = cc
branch-fork word h (x ∷ a) = ap (put_before x) (branch-fork word h a) ∙ put_before-extended x word a

parallel_at-join : (peer a : Address) → parallel_at (first_difference peer (extended a join)) ≡ parallel_at (first_difference peer a)
parallel_at-join [] [] = refl
parallel_at-join [] (y ∷ a) = refl
parallel_at-join (child ∷ peer) [] = refl
parallel_at-join (next ∷ peer) [] = refl
parallel_at-join (join ∷ []) [] = refl
parallel_at-join (join ∷ (x ∷ peer)) [] = refl
parallel_at-join (x ∷ peer) (y ∷ a) = go (same_word x y) (parallel_at-join peer a)
  where
    go : (t : Bool) → parallel_at (first_difference peer (extended a join)) ≡ parallel_at (first_difference peer a) →
        parallel_at (cond t (first_difference peer (extended a join)) (differ x y)) ≡ parallel_at (cond t (first_difference peer a) (differ x y))
    go true ih = ih
    go false ih = refl

-- a join is parallel to what its block's first spawner is parallel to
pub parallel-join : (peer a : Address) → parallel peer (extended a join) ≡ parallel peer a
parallel-join peer a = parallel-by_difference peer (extended a join) ∙ parallel_at-join peer a ∙ sym (parallel-by_difference peer a)

pub parallel-branch : (peer a : Address) → parallel peer (branch a) ≡ parallel peer a
parallel-branch peer = by_last (λ a. parallel peer (branch a) ≡ parallel peer a) refl step
  where
    step : (a : Address) (word : Word) → parallel peer (branch a) ≡ parallel peer a → parallel peer (branch (extended a word)) ≡ parallel peer (extended a word)
    step a child h = ap (parallel peer) (branch-fork child refl a)
    step a next h = ap (parallel peer) (branch-fork next refl a)
    step a join h = ap (parallel peer) (branch-join a) ∙ h ∙ sym (parallel-join peer a)

-- strands of one branch have the same peers
pub branch-peers : (a b : Address) → branch a ≡ branch b → (peer : Address) → parallel peer a ≡ parallel peer b
branch-peers a b e peer = sym (parallel-branch peer a) ∙ ap (parallel peer) e ∙ parallel-branch peer b

-- a branch is that of the first strand, or ends in a child or a continuation
abbrev pub IsBranch : Address → Type 0
IsBranch a = (a ≡ []) ⊎ ((spawner : Address) × (word : Word) × (is_fork word ≡ true) × (a ≡ extended spawner word))

pub branch-made : (a : Address) → IsBranch (branch a)
branch-made = by_last (λ a. IsBranch (branch a)) (inl refl) step
  where
    step : (a : Address) (word : Word) → IsBranch (branch a) → IsBranch (branch (extended a word))
    step a child h = inr (a, child, refl, branch-fork child refl a)
    step a next h = inr (a, next, refl, branch-fork next refl a)
    step a join h = rw (branch-join a) h

pub branch-branch : (a : Address) → branch (branch a) ≡ branch a
branch-branch a = go (branch-made a)
  where
    go : IsBranch (branch a) → branch (branch a) ≡ branch a
    go (inl e) = rw e refl
    go (inr (spawner, word, fork, e)) = rw e (branch-fork word fork spawner)

pub parallel-sibling : (word : Word) → is_fork word ≡ true → (spawner : Address) → parallel (extended spawner (sibling word)) (extended spawner word) ≡ true
parallel-sibling child h spawner = parallel-append spawner (next ∷ []) (child ∷ [])
parallel-sibling next h spawner = parallel-append spawner (child ∷ []) (next ∷ [])
parallel-sibling join h spawner = cc

parallel-reached : (a b : Address) → reaches a b ≡ true → parallel b a ≡ false
parallel-reached a b h = and_right (not (reaches b a)) (not (reaches a b)) (rw h refl)

-- what reaches one side of a spawn from before it reaches the other side
pub reaches-sibling : (word : Word) → is_fork word ≡ true → (a spawner : Address) → a ≢ extended spawner word → reaches a (extended spawner word) ≡ true →
    reaches a (extended spawner (sibling word)) ≡ true
reaches-sibling word fork a spawner ne h =
    reaches-transitive a spawner (extended spawner (sibling word)) (to_spawner (same a (extended spawner word)) refl (sym (reaches-fork word fork a spawner) ∙ h))
    (reaches-extension spawner (sibling word ∷ []))
  where
    to_spawner : (t : Bool) → same a (extended spawner word) ≡ t → (t || reaches a spawner) ≡ true → reaches a spawner ≡ true
    to_spawner true e k = absurd (ne ((same-decides a (extended spawner word)).0 e))
    to_spawner false e k = k

-- Strands with the same peers are of one branch, if each side of a spawn comes with the other and a join comes after its block's first spawner.
module _ (Has : Address → Type 0) (has_sibling : (spawner : Address) (word : Word) → is_fork word ≡ true → Has (extended spawner word) → Has (extended spawner (sibling word)))
    (has_opener : (a : Address) → Has (extended a join) → Has a) where
  has_branch : (a : Address) → Has a → Has (branch a)
  has_branch = by_last (λ a. Has a → Has (branch a)) (λ h. h) step
    where
      step : (a : Address) (word : Word) → (Has a → Has (branch a)) → Has (extended a word) → Has (branch (extended a word))
      step a child ih h = rw (branch-fork child refl a) h
      step a next ih h = rw (branch-fork next refl a) h
      step a join ih h = rw (branch-join a) (ih (has_opener a h))

  -- the side of a spawn that b is not on tells b from a strand whose branch reaches b's
  told : (a b : Address) → Has b → ((peer : Address) → Has peer → parallel peer a ≡ parallel peer b) → branch a ≢ branch b → reaches (branch a) (branch b) ≡ true → ⊥
  told a b at_b peers ne h = go (branch-made b)
    where
      go : IsBranch (branch b) → ⊥
      go (inl e) = ne (reaches-antisymmetric (branch a) (branch b) h (rw e (reaches-nil (branch a))))
      go (inr (spawner, word, fork, e)) =
          let other = extended spawner (sibling word) in
          let here : parallel other b ≡ true = sym (parallel-branch other b) ∙ rw e (parallel-sibling word fork spawner) in
          let reached = reaches-sibling word fork (branch a) spawner (λ k. ne (k ∙ sym e)) (rw e at h) in
          let there : parallel other a ≡ false = sym (parallel-branch other a) ∙ parallel-reached (branch a) other reached in
          let alike = peers other (has_sibling spawner word fork (rw e at (has_branch b at_b))) in
          cc

  pub peers-branch : (a b : Address) → Has a → Has b → ((peer : Address) → Has peer → parallel peer a ≡ parallel peer b) → branch a ≡ branch b
  peers-branch a b at_a at_b peers = go (cases_same (branch a) (branch b))
    where
      -- of two branches with no path either way, each is a peer of the other and not of itself
      parted : reaches (branch a) (branch b) ≡ false → reaches (branch b) (branch a) ≡ false → ⊥
      parted h k =
          let branches : parallel (branch a) (branch b) ≡ true = rw (h, k) refl in
          let with_b : parallel (branch a) b ≡ true = sym (parallel-branch (branch a) b) ∙ branches in
          let turned : parallel b a ≡ true = sym (parallel-branch b a) ∙ parallel-comm b (branch a) ∙ with_b in
          let alike = peers b at_b in
          let itself = parallel-self b in
          cc

      cases : branch a ≢ branch b → (s t : Bool) → reaches (branch a) (branch b) ≡ s → reaches (branch b) (branch a) ≡ t → ⊥
      cases ne true t h k = told a b at_b peers ne h
      cases ne false true h k = told b a at_a (λ peer has. sym (peers peer has)) (λ e. ne (sym e)) k
      cases ne false false h k = parted h k

      go : (branch a ≡ branch b) ⊎ (branch a ≢ branch b) → branch a ≡ branch b
      go (inl e) = e
      go (inr ne) = absurd (cases ne (reaches (branch a) (branch b)) (reaches (branch b) (branch a)) refl refl)

pub branches-peers : BranchesArePeers
branches-peers has closed a b at_a at_b = (
  λ e peer in_has. (λ h. sym (branch-peers a b e peer) ∙ h, λ h. branch-peers a b e peer ∙ h),
  λ peers. peers-branch (λ c. IsTrue (has c)) siblings closed.openers a b at_a at_b
      (λ peer in_has. same_from_decides (parallel peer a) (parallel peer b) (peers peer in_has) (λ h. h, λ h. h)),
)
  where
    siblings : (spawner : Address) (word : Word) → is_fork word ≡ true → IsTrue (has (extended spawner word)) → IsTrue (has (extended spawner (sibling word)))
    siblings spawner child h k = (closed.siblings spawner).0 k
    siblings spawner next h k = (closed.siblings spawner).1 k
    siblings spawner join h k = cc

-- Names of branches.

-- names that a join takes over from its opener, and that differ between branches, tell the branches
pub names-decide : {Name : Type 0} (Has : Address → Type 0) (name : Address → Name) → IsNamed Has name → ((a : Address) → Has (extended a join) → Has a) →
    (a b : Address) → Has a → Has b → (name a ≡ name b) ↔ (branch a ≡ branch b)
names-decide {Name} Has name named has_opener a b at_a at_b = (forward, backward)
  where
    of_branch : (a : Address) → Has a → Has (branch a) × (name (branch a) ≡ name a)
    of_branch = by_last (λ a. Has a → Has (branch a) × (name (branch a) ≡ name a)) (λ h. (h, refl)) step
      where
        step : (a : Address) (word : Word) → (Has a → Has (branch a) × (name (branch a) ≡ name a)) → Has (extended a word) →
            Has (branch (extended a word)) × (name (branch (extended a word)) ≡ name (extended a word))
        step a child ih h = (rw (branch-fork child refl a) h, ap name (branch-fork child refl a))
        step a next ih h = (rw (branch-fork next refl a) h, ap name (branch-fork next refl a))
        step a join ih h =
            let below = ih (has_opener a h) in
            (rw (branch-join a) below.0, ap name (branch-join a) ∙ below.1 ∙ sym (named.at_join a h))

    forward : name a ≡ name b → branch a ≡ branch b
    forward e =
        let of_a = of_branch a at_a in
        let of_b = of_branch b at_b in
        named.distinct (branch a) (branch b) of_a.0 of_b.0 (branch-branch a) (branch-branch b) (of_a.1 ∙ e ∙ sym of_b.1)

    backward : branch a ≡ branch b → name a ≡ name b
    backward e = sym (of_branch a at_a).1 ∙ ap name e ∙ (of_branch b at_b).1

pub names-tell : NamesDecide
names-tell has name openers named = names-decide (λ a. IsTrue (has a)) name named openers
