-- Dags of strands, each of which begins by a spawn or at the end of a block.
use Rattle.std.specs.Prelude.{◌≡◌, ◌≢◌, ◌<◌, ℕ, true}
use Rattle.model_strands.specs.Address.{Word, Address, join, extended}
use Rattle.law_addresses.specs.Address.{is_fork, reaches}

-- paths along edges
pub data AddressPath (Edge : Address → Address → Type 0) (a : Address) : Address → Type 0 where
  here : AddressPath Edge a a
  along : {b c : Address} → AddressPath Edge a b → Edge b c → AddressPath Edge a c

-- some begun strands and the edges between them
pub record IsStrandDag (Begun : Address → Type 0) (Edge : Address → Address → Type 0) : Type 0 where
  pub time : Address → ℕ
  pub later : (a b : Address) → Edge a b → time a < time b
  pub ends : (a b : Address) → Edge a b → Begun a × Begun b
  -- an edge leads to no strand that its first one does not reach
  pub sound : (a b : Address) → Edge a b → reaches a b ≡ true
  -- a child and a continuation have an edge from the spawner
  pub spawned : (spawner : Address) (word : Word) →
      is_fork word ≡ true → Begun (extended spawner word) → Edge spawner (extended spawner word)
  -- what reaches a join does so by one of the strands with an edge to it
  pub ended : (opener strand : Address) → Begun (extended opener join) → Begun strand → strand ≢ extended opener join →
      reaches strand (extended opener join) ≡ true →
      (last : Address) × Edge last (extended opener join) × (reaches strand last ≡ true)
