-- The addresses that remain without a spawn are parallel as they were with it.
use Rattle.std.proofs.Common.{◌≡◌, ◌⊎◌, inl, inr, ℕ, zero, suc, true, false, [], ◌∷◌, ◌++◌, replicate, refl, sym, ap, ap₂, ◌∙◌, subst}
use Rattle.model_strands.specs.Address.{Word, child, next, join, Address, extended, same_word}
use Rattle.law_addresses.specs.Address.{reaches, parallel, IsPrefix}
use Rattle.law_addresses.specs.Blocks.{joined, IsBeyond}
use Rattle.law_addresses.proofs.Extensions.{parallel-append, reaches-nil}
use Rattle.law_addresses.proofs.Relations.{parallel-comm}
use Rattle.law_traces.specs.Spawns.{renamed, IsSpawned}

-- ---- what remains, one word further

prefix_cons : (word : Word) (a b : Address) → IsPrefix a b → IsPrefix (word ∷ a) (word ∷ b)
prefix_cons w a b (rest, is) = (rest, ap (λ z. w ∷ z) is)

tails_same : {word : Word} {a b : Address} → word ∷ a ≡ word ∷ b → a ≡ b
tails_same e = cc

beyond_cons : (word : Word) (a b : Address) → IsBeyond a b → IsBeyond (word ∷ a) (word ∷ b)
beyond_cons w a b beyond = (prefix_cons w a b beyond.0, (λ e. beyond.1 (tails_same e)))

-- neither is the spawned function's, and not one is behind the join and the other beyond where the spawner's function has gone on to
pub record AreTold (spawner : Address) (blocks : ℕ) (a b : Address) : Type 0 where
  pub first : IsSpawned spawner a → ⊥
  pub second : IsSpawned spawner b → ⊥
  pub first_joined : IsPrefix (extended spawner join) a → IsBeyond (joined (extended spawner next) blocks) b → ⊥
  pub second_joined : IsPrefix (extended spawner join) b → IsBeyond (joined (extended spawner next) blocks) a → ⊥

told_behind : (word : Word) (spawner : Address) (blocks : ℕ) (a b : Address) → AreTold (word ∷ spawner) blocks (word ∷ a) (word ∷ b) → AreTold spawner blocks a b
told_behind w spawner blocks a b told = record {
  first = λ p. told.first (prefix_cons w (extended spawner child) a p);
  second = λ p. told.second (prefix_cons w (extended spawner child) b p);
  first_joined = λ p beyond. told.first_joined (prefix_cons w (extended spawner join) a p) (beyond_cons w (joined (extended spawner next) blocks) b beyond);
  second_joined = λ p beyond. told.second_joined (prefix_cons w (extended spawner join) b p) (beyond_cons w (joined (extended spawner next) blocks) a beyond);
}

-- ---- at the spawner

parallel_nil : (at : Address) → parallel [] at ≡ false
parallel_nil [] = refl
parallel_nil (word ∷ at) = refl

nil_parallel : (at : Address) → parallel at [] ≡ false
nil_parallel at = parallel-comm at [] ∙ parallel_nil at

-- an address that is not beyond so many joins reaches whatever begins with them
reaches_behind : (blocks : ℕ) (at rest : Address) → (IsBeyond (replicate blocks join) at → ⊥) → reaches at (replicate blocks join ++ rest) ≡ true
reaches_behind zero [] rest within = reaches-nil rest
reaches_behind zero (word ∷ at) rest within = absurd (within ((word ∷ at, refl), (λ e. cc)))
reaches_behind (suc blocks) [] rest within = refl
reaches_behind (suc blocks) (child ∷ at) rest within = refl
reaches_behind (suc blocks) (next ∷ at) rest within = refl
reaches_behind (suc blocks) (join ∷ at) rest within =
    reaches_behind blocks at rest (λ beyond. within (prefix_cons join (replicate blocks join) at beyond.0, (λ e. beyond.1 (tails_same e))))

reached_apart : (a b : Address) → reaches a b ≡ true → parallel a b ≡ false
reached_apart a b r = rw r refl

at_spawner : (blocks : ℕ) (a b : Address) → AreTold [] blocks a b → parallel (renamed [] blocks a) (renamed [] blocks b) ≡ parallel a b
at_spawner blocks [] b told = parallel_nil (renamed [] blocks b) ∙ sym (parallel_nil b)
at_spawner blocks a [] told = nil_parallel (renamed [] blocks a) ∙ sym (nil_parallel a)
at_spawner blocks (child ∷ a) b told = absurd (told.first (a, refl))
at_spawner blocks a (child ∷ b) told = absurd (told.second (b, refl))
at_spawner blocks (next ∷ a) (next ∷ b) told = refl
at_spawner blocks (join ∷ a) (join ∷ b) told = parallel-append (replicate blocks join) a b
at_spawner blocks (next ∷ a) (join ∷ b) told =
    reached_apart a (replicate blocks join ++ b) (reaches_behind blocks a b
    (λ beyond. told.second_joined (b, refl) (beyond_cons next (replicate blocks join) a beyond)))
at_spawner blocks (join ∷ a) (next ∷ b) told =
    parallel-comm (replicate blocks join ++ a) b ∙ reached_apart b (replicate blocks join ++ a) (reaches_behind blocks b a
    (λ beyond. told.first_joined (a, refl) (beyond_cons next (replicate blocks join) b beyond)))

-- ---- before the spawner

-- addresses whose first words differ are parallel by these alone
heads_decide : (word other : Word) → same_word word other ≡ false → (a b c d : Address) → parallel (word ∷ a) (other ∷ b) ≡ parallel (word ∷ c) (other ∷ d)
heads_decide child child e a b c d = absurd (cc)
heads_decide child next e a b c d = refl
heads_decide child join e a b c d = refl
heads_decide next child e a b c d = refl
heads_decide next next e a b c d = absurd (cc)
heads_decide next join e a b c d = refl
heads_decide join child e a b c d = refl
heads_decide join next e a b c d = refl
heads_decide join join e a b c d = absurd (cc)

same_or_other : (word other : Word) → (word ≡ other) ⊎ (same_word word other ≡ false)
same_or_other child child = inl refl
same_or_other child next = inr refl
same_or_other child join = inr refl
same_or_other next child = inr refl
same_or_other next next = inl refl
same_or_other next join = inr refl
same_or_other join child = inr refl
same_or_other join next = inr refl
same_or_other join join = inl refl

-- an address that goes on with the spawner's first word, and one that does not
goes_on : (word : Word) (spawner : Address) (blocks : ℕ) (at : Address) → renamed (word ∷ spawner) blocks (word ∷ at) ≡ word ∷ renamed spawner blocks at
goes_on child spawner blocks at = refl
goes_on next spawner blocks at = refl
goes_on join spawner blocks at = refl

turns_off : (word other : Word) (spawner : Address) (blocks : ℕ) (at : Address) → same_word word other ≡ false → renamed (word ∷ spawner) blocks (other ∷ at) ≡ other ∷ at
turns_off w o spawner blocks at e = rw e refl

abbrev StaysParallel : Address → ℕ → Address → Address → Type 0
StaysParallel spawner blocks a b = parallel (renamed spawner blocks a) (renamed spawner blocks b) ≡ parallel a b

pub parallel_renamed : (spawner : Address) (blocks : ℕ) (a b : Address) → AreTold spawner blocks a b → StaysParallel spawner blocks a b
parallel_renamed [] blocks a b told = at_spawner blocks a b told
parallel_renamed (w ∷ spawner) blocks [] b told = parallel_nil (renamed (w ∷ spawner) blocks b) ∙ sym (parallel_nil b)
parallel_renamed (w ∷ spawner) blocks (x ∷ a) [] told = nil_parallel (renamed (w ∷ spawner) blocks (x ∷ a)) ∙ sym (nil_parallel (x ∷ a))
parallel_renamed (w ∷ spawner) blocks (x ∷ a) (y ∷ b) told = go (λ t. parallel_renamed spawner blocks a b t) (same_or_other w x) (same_or_other w y)
  where
    go : (AreTold spawner blocks a b → StaysParallel spawner blocks a b) → (w ≡ x) ⊎ (same_word w x ≡ false) → (w ≡ y) ⊎ (same_word w y ≡ false) →
        StaysParallel (w ∷ spawner) blocks (x ∷ a) (y ∷ b)
    go further (inl e) (inl g) =
        let told' : AreTold (w ∷ spawner) blocks (w ∷ a) (w ∷ b) =
        subst (λ z. AreTold (w ∷ spawner) blocks (w ∷ a) (z ∷ b)) (sym g) (subst (λ z. AreTold (w ∷ spawner) blocks (z ∷ a) (y ∷ b)) (sym e) told) in
        let here : StaysParallel (w ∷ spawner) blocks (w ∷ a) (w ∷ b) =
        ap₂ parallel (goes_on w spawner blocks a) (goes_on w spawner blocks b) ∙ parallel-append (w ∷ []) (renamed spawner blocks a) (renamed spawner blocks b) ∙
        further (told_behind w spawner blocks a b told') ∙ sym (parallel-append (w ∷ []) a b) in
        subst (λ z. StaysParallel (w ∷ spawner) blocks (x ∷ a) (z ∷ b)) g (subst (λ z. StaysParallel (w ∷ spawner) blocks (z ∷ a) (w ∷ b)) e here)
    go further (inl e) (inr g) =
        let here : StaysParallel (w ∷ spawner) blocks (w ∷ a) (y ∷ b) =
        ap₂ parallel (goes_on w spawner blocks a) (turns_off w y spawner blocks b g) ∙ heads_decide w y g (renamed spawner blocks a) b a b in
        subst (λ z. StaysParallel (w ∷ spawner) blocks (z ∷ a) (y ∷ b)) e here
    go further (inr e) (inl g) =
        let here : StaysParallel (w ∷ spawner) blocks (x ∷ a) (w ∷ b) =
        ap₂ parallel (turns_off w x spawner blocks a e) (goes_on w spawner blocks b) ∙ parallel-comm (x ∷ a) (w ∷ renamed spawner blocks b) ∙
        heads_decide w x e (renamed spawner blocks b) a b a ∙ parallel-comm (w ∷ b) (x ∷ a) in
        subst (λ z. StaysParallel (w ∷ spawner) blocks (x ∷ a) (z ∷ b)) g here
    go further (inr e) (inr g) = ap₂ parallel (turns_off w x spawner blocks a e) (turns_off w y spawner blocks b g)
