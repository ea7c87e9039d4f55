-- What a dialogue begins with is a dialogue that has not ended.
use Rattle.std.proofs.Common.{◌≡◌, ◌⊎◌, inl, inr, ℕ, List, [], ◌∷◌, ◌++◌, refl, sym, ◌∙◌, ap, subst}
use Rattle.model_accesses.specs.declared.request.Act.{Act}
use Rattle.model_bodies.specs.Codes.{Code}
use Rattle.model_bodies.specs.Trees.{Tree, Done}
use Rattle.model_programs.specs.Values.{Registers}
use Rattle.model_programs.specs.Answers.{Origin}
use Rattle.model_programs.specs.Exchanges.{Exchange, exchange}
use Rattle.model_programs.specs.Dialogue.{Extent, Part, Dialogue, stopped, passed, read, write, bump, update, put, get, spawned, called, in_call, synced, returned}

-- two ways to divide a list: the first divides later, or earlier
divided : {A : Type 0} (inner outer first later : List A) → inner ++ outer ≡ first ++ later →
    ((between : List A) × (first ≡ inner ++ between) × (outer ≡ between ++ later)) ⊎ ((between : List A) × (inner ≡ first ++ between))
divided [] outer first later e = inl (first, refl, e)
divided (x ∷ inner) outer [] later e = inr (x ∷ inner, refl)
divided (x ∷ inner) outer (y ∷ first) later e =
    let same : x ≡ y = cc in
    let rest : inner ++ outer ≡ first ++ later = cc in
    elim (divided inner outer first later rest) [
      | inl d ↦ inl (d.0, subst (λ z. y ∷ first ≡ z ∷ (inner ++ d.0)) (sym same) (ap (λ l. y ∷ l) d.1), d.2)
      | inr d ↦ inr (d.0, subst (λ z. x ∷ inner ≡ z ∷ (first ++ d.0)) same (ap (λ l. x ∷ l) d.1))
    ]

parts : {A : Type 0} (x y : A) (xs ys : List A) → x ∷ xs ≡ y ∷ ys → (x ≡ y) × (xs ≡ ys)
parts x y xs ys e = (cc, cc)

none_first : {A : Type 0} (first later : List A) → [] ≡ first ++ later → first ≡ []
none_first [] later e = refl
none_first (x ∷ first) later e = absurd (cc)

module _ (functions : List Code) where
  -- a dialogue in its statement's act, and then
  with_act : (origin : Origin) (end_line : ℕ) (rest : Tree) (registers : Registers) (one x : Exchange) (first : List Exchange) → one ≡ x →
      Dialogue functions origin Part end_line rest registers (one ∷ first) → Dialogue functions origin Part end_line rest registers (x ∷ first)
  with_act origin end_line rest registers one x first e d = subst (λ y. Dialogue functions origin Part end_line rest registers (y ∷ first)) e d

  pub begins : {origin : Origin} {extent : Extent} {end_line : ℕ} {rest : Tree} {registers : Registers} {said : List Exchange} (first later : List Exchange) →
      Dialogue functions origin extent end_line rest registers said → said ≡ first ++ later → Dialogue functions origin Part end_line rest registers first
  begins [] later d e = stopped
  begins (x ∷ first) later stopped e = absurd (cc)
  begins (x ∷ first) later (passed p d) e = passed p (begins (x ∷ first) later d e)
  begins (x ∷ first) later (read a h d) e = let k = parts _ x _ (first ++ later) e in with_act _ _ _ _ _ x first k.0 (read a h (begins first later d k.1))
  begins (x ∷ first) later (write a h d) e = let k = parts _ x _ (first ++ later) e in with_act _ _ _ _ _ x first k.0 (write a h (begins first later d k.1))
  begins (x ∷ first) later (bump a h d) e = let k = parts _ x _ (first ++ later) e in with_act _ _ _ _ _ x first k.0 (bump a h (begins first later d k.1))
  begins (x ∷ first) later (update a h d) e = let k = parts _ x _ (first ++ later) e in with_act _ _ _ _ _ x first k.0 (update a h (begins first later d k.1))
  begins (x ∷ first) later (put a h d) e = let k = parts _ x _ (first ++ later) e in with_act _ _ _ _ _ x first k.0 (put a h (begins first later d k.1))
  begins (x ∷ first) later (get a h d) e = let k = parts _ x _ (first ++ later) e in with_act _ _ _ _ _ x first k.0 (get a h (begins first later d k.1))
  begins (x ∷ first) later (spawned a h d) e = let k = parts _ x _ (first ++ later) e in with_act _ _ _ _ _ x first k.0 (spawned a h (begins first later d k.1))
  begins (x ∷ first) later (synced a h d) e = let k = parts _ x _ (first ++ later) e in with_act _ _ _ _ _ x first k.0 (synced a h (begins first later d k.1))
  begins (x ∷ first) later (called {inner = inner} {outer = outer} f i o j) e =
      let k = parts _ x _ (first ++ later) e in
      with_act _ _ _ _ _ x first k.0 (elim (divided inner outer first later (sym j ∙ k.1)) [
        | inl d ↦ called f i (begins d.0 later o d.2) d.1
        | inr d ↦ in_call f (begins first d.0 i d.1)
      ])
  begins (x ∷ first) later (in_call f i) e = let k = parts _ x _ (first ++ later) e in with_act _ _ _ _ _ x first k.0 (in_call f (begins first later i k.1))
  begins {origin} {extent} {end_line} (x ∷ first) later (returned {registers = registers} answer h) e =
      let k = parts _ x [] (first ++ later) e in
      let one = exchange Act.Return end_line answer in
      with_act _ _ _ _ one x first k.0
      (subst (λ l. Dialogue functions origin Part end_line Done registers (one ∷ l)) (sym (none_first first later k.1)) (returned answer h))
