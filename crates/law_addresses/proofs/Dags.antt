-- A dag whose edges are those of spawns and joins has the paths that the addresses say.
use Rattle.std.proofs.Common.{ℕ, ◌≡◌, ◌≢◌, ◌⊎◌, ◌↔◌, ◌<◌, inl, inr, Bool, true, false, [], refl, sym, ap, ◌∙◌, subst, ◌||◌, zero, suc, arith, IsTrue}
use Rattle.model_strands.specs.Address.{Word, child, next, join, Address, extended}
use Rattle.law_addresses.specs.Address.{is_fork, same, reaches}
use Rattle.law_addresses.specs.Dags.{AddressPath, here, along, IsStrandDag}
use Rattle.law_addresses.specs.Laws.{PathsAreReach}
use Rattle.law_addresses.proofs.Relations.{cases_same, same-decides, reaches-self, reaches-transitive, reaches-antisymmetric}
use Rattle.law_addresses.proofs.Branches.{cases_last}
use Rattle.law_addresses.proofs.Extensions.{reaches-nil, reaches-fork}

module _ (Begun : Address → Type 0) (Edge : Address → Address → Type 0) (dag : IsStrandDag Begun Edge) where
  path-reaches : (a b : Address) → AddressPath Edge a b → reaches a b ≡ true
  path-reaches a b (here) = reaches-self a
  path-reaches a b (along {b = c} path edge) = reaches-transitive a c b (path-reaches a c path) (dag.sound c b edge)

  -- a strand that reaches another one reaches a strand with an edge to it
  reach-step : (a b : Address) → Begun a → Begun b → a ≢ b → reaches a b ≡ true → (last : Address) × Edge last b × (reaches a last ≡ true)
  reach-step a b at_a at_b ne h = go (cases_last b)
    where
      to_spawner : (spawner : Address) (word : Word) → b ≡ extended spawner word → (t : Bool) → same a (extended spawner word) ≡ t →
          (t || reaches a spawner) ≡ true → reaches a spawner ≡ true
      to_spawner spawner word e true k m = absurd (ne ((same-decides a (extended spawner word)).0 k ∙ sym e))
      to_spawner spawner word e false k m = m

      by_fork : (spawner : Address) (word : Word) → is_fork word ≡ true → b ≡ extended spawner word → (last : Address) × Edge last b × (reaches a last ≡ true)
      by_fork spawner word fork e = (
        spawner,
        rw e (dag.spawned spawner word fork (rw e at at_b)),
        to_spawner spawner word e (same a (extended spawner word)) refl (sym (reaches-fork word fork a spawner) ∙ ap (reaches a) (sym e) ∙ h),
      )

      by_join : (opener : Address) → b ≡ extended opener join → (last : Address) × Edge last b × (reaches a last ≡ true)
      by_join opener e =
          let found = dag.ended opener a (rw e at at_b) at_a (λ k. ne (k ∙ sym e)) (ap (reaches a) (sym e) ∙ h) in
          let P : Address → Type 0 = λ x. Edge found.0 x in
          (found.0, subst P (sym e) found.1, found.2)

      by_word : (front : Address) (word : Word) → b ≡ extended front word → (last : Address) × Edge last b × (reaches a last ≡ true)
      by_word front child e = by_fork front child refl e
      by_word front next e = by_fork front next refl e
      by_word front join e = by_join front e

      go : (b ≡ []) ⊎ ((front : Address) × (word : Word) × (b ≡ extended front word)) → (last : Address) × Edge last b × (reaches a last ≡ true)
      go (inl e) = absurd (ne (reaches-antisymmetric a b h (rw e (reaches-nil a))))
      go (inr (front, word, e)) = by_word front word e

  reach-path_below : (n : ℕ) (a b : Address) → dag.time b < n → Begun a → Begun b → reaches a b ≡ true → AddressPath Edge a b
  reach-path_below zero a b below at_a at_b h = absurd (omega arith)
  reach-path_below (suc n) a b below at_a at_b h = go (λ c. reach-path_below n a c) (cases_same a b)
    where
      go : ((c : Address) → dag.time c < n → Begun a → Begun c → reaches a c ≡ true → AddressPath Edge a c) → (a ≡ b) ⊎ (a ≢ b) → AddressPath Edge a b
      go ih (inl e) = let P : Address → Type 0 = λ c. AddressPath Edge a c in subst P e here
      go ih (inr ne) =
          let step = reach-step a b at_a at_b ne h in
          let sooner = dag.later step.0 b step.1 in
          let lower : dag.time step.0 < n = omega arith in
          along (ih step.0 lower at_a (dag.ends step.0 b step.1).0 step.2) step.1

  -- there is a path exactly where one address reaches the other
  pub reach-path : (a b : Address) → Begun a → Begun b → AddressPath Edge a b ↔ (reaches a b ≡ true)
  reach-path a b at_a at_b = (path-reaches a b, λ h. reach-path_below (suc (dag.time b)) a b (omega arith) at_a at_b h)

pub paths-reach : PathsAreReach
paths-reach begun edge = reach-path (λ a. IsTrue (begun a)) (λ a b. IsTrue (edge a b))
