-- What a cell holds, by the deeds that touch it.
use Rattle.std.proofs.Common.{◌≡◌, ◌≢◌, ◌⊎◌, inl, inr, ℕ, ◌+◌, ◌%◌, ◌^◌, Bool, true, false, cond, List, [], ◌∷◌, refl, sym, ap, ◌∙◌, subst, add-zero, arith}
use Rattle.std.specs.Prelude.{◌==◌, if◌then◌else◌}
use Rattle.std.proofs.lemmas.Bool.{eqb-true, eq-eqb}
use Rattle.std.proofs.Math.Nat.{mod-add-mod}
use Rattle.model_accesses.specs.declared.kind.Kind.TheVariants as kind
use Rattle.model_accesses.specs.declared.request.Act.{Act}
use Rattle.model_accesses.specs.declared.request.Act.TheVariants.{Read, Write, Bump}
use Rattle.model_histories.specs.declared.answer.Answer.{Answer}
use Rattle.model_histories.specs.declared.answer.Answer.TheVariants.{Granted, Refused}
use Rattle.model_histories.specs.Entries.{Entries}
use Rattle.model_histories.specs.Shapes.{Shape}
use Rattle.model_histories.specs.Legal.{Belongs, IsLegal}
use Rattle.model_races.specs.Memory.{CellEffect, sets, adds, leaves, effect_on_cell, effects, last_written, bumped_since, cell_value}
use Rattle.model_races.specs.Verdicts.{MemoryIsJudged}
use Rattle.model_histories.specs.Extensions.{IsCleanAnswer}
use Rattle.law_interleavings.specs.Traces.{Notes, Occurrence, trace, Precedes}
use Rattle.law_interleavings.proofs.Swaps.{Member, Paired, after_all, IsOrdered, IsSwappable, same_state}
use Rattle.law_interleavings.proofs.Traces.{ordered, distinct}
use Rattle.law_interleavings.proofs.Spoken.{NoneRefused}
use Rattle.law_interleavings.proofs.Comparisons.{order_of}
use Rattle.law_interleavings.proofs.Races.{Conflict, compared}

-- ---- the items of a list that pass a test

abbrev pub kept : {Note : Type 0} → (Occurrence Note → Bool) → List (Occurrence Note) → List (Occurrence Note)
kept test [] = []
kept test (x ∷ xs) = cond (test x) (x ∷ kept test xs) (kept test xs)

pub kept_in : {Note : Type 0} → (test : Occurrence Note → Bool) (xs : List (Occurrence Note)) (y : Occurrence Note) → Member (kept test xs) y → Member xs y × (test y ≡ true)
kept_in test [] y m = absurd m
kept_in test (x ∷ xs) y m = go (kept_in test xs y) (test x) refl m
  where
    go : (Member (kept test xs) y → Member xs y × (test y ≡ true)) → (b : Bool) → test x ≡ b → Member (cond b (x ∷ kept test xs) (kept test xs)) y →
        Member (x ∷ xs) y × (test y ≡ true)
    go again true e (inl q) = (inl q, ap test q ∙ e)
    go again true e (inr n) = let t = again n in (inr t.0, t.1)
    go again false e n = let t = again n in (inr t.0, t.1)

pub in_kept : {Note : Type 0} → (test : Occurrence Note → Bool) (xs : List (Occurrence Note)) (y : Occurrence Note) → Member xs y → test y ≡ true → Member (kept test xs) y
in_kept test [] y m t = absurd m
in_kept test (x ∷ xs) y m t = go (λ n. in_kept test xs y n t) (test x) refl m
  where
    go : (Member xs y → Member (kept test xs) y) → (b : Bool) → test x ≡ b → Member (x ∷ xs) y → Member (cond b (x ∷ kept test xs) (kept test xs)) y
    go again true e (inl q) = inl q
    go again true e (inr n) = inr (again n)
    go again false e (inl q) = let u : test x ≡ true = ap test (sym q) ∙ t in absurd (cc)
    go again false e (inr n) = again n

kept_paired : {Note : Type 0} → (test : Occurrence Note → Bool) (R : Occurrence Note → Occurrence Note → Type 0) (xs : List (Occurrence Note)) → Paired R xs → Paired R (kept test xs)
kept_paired test R [] p = p
kept_paired test R (x ∷ xs) p = go (kept_paired test R xs p.1) (test x)
  where
    go : Paired R (kept test xs) → (b : Bool) → Paired R (cond b (x ∷ kept test xs) (kept test xs))
    go again true = ((λ y m. p.0 y (kept_in test xs y m).0), again)
    go again false = again

-- ---- effects on a cell

-- what a cell holds after an effect_on_cell, by what it held before
abbrev after : CellEffect → ℕ → ℕ → ℕ
after (sets location value) cell held = if location == cell then value % 2 ^ 64 else held
after (adds location value) cell held = if location == cell then (held + value) % 2 ^ 64 else held
after leaves cell held = held

-- what an act does to memory where it is granted
abbrev cell_effect : Act → CellEffect
cell_effect (Write location value) = sets location value
cell_effect (Bump location value) = adds location value
cell_effect act = leaves

abbrev acts_on : {Note : Type 0} → ℕ → Occurrence Note → ℕ → ℕ
acts_on cell x held = after (cell_effect x.newest.act) cell held

-- the act is a write or a bump of the cell
abbrev touches : ℕ → Act → Bool
touches cell (Write location value) = location == cell
touches cell (Bump location value) = location == cell
touches cell act = false

abbrev pub touching : {Note : Type 0} → ℕ → Occurrence Note → Bool
touching cell x = touches cell x.newest.act

clean_effect : (act : Act) (answer : Answer) → Belongs act answer → IsCleanAnswer answer → effect_on_cell act answer ≡ cell_effect act
clean_effect (Write l v) Granted b c = refl
clean_effect (Write l v) (Refused rule w) b c = absurd c
clean_effect (Write l v) _ b c = absurd b
clean_effect (Bump l v) Granted b c = refl
clean_effect (Bump l v) (Refused rule w) b c = absurd c
clean_effect (Bump l v) _ b c = absurd b
clean_effect _ answer b c = refl

abbrev held : List CellEffect → ℕ → ℕ
held before cell = (last_written before cell + bumped_since before cell) % 2 ^ 64

added : (written value since size : ℕ) → (written + (value + since)) % size ≡ ((written + since) % size + value) % size
added written value since size =
    let same : written + (value + since) ≡ (written + since) + value = omega arith in
    ap (λ n. n % size) same ∙ sym (mod-add-mod (written + since) size value)

held_after : (one : CellEffect) (before : List CellEffect) (cell : ℕ) → held (one ∷ before) cell ≡ after one cell (held before cell)
held_after (sets location value) before cell =
    let written = last_written before cell in
    let since = bumped_since before cell in
    elim (location == cell)
    as (λ b. (cond b value written + cond b 0 since) % 2 ^ 64 ≡ cond b (value % 2 ^ 64) ((written + since) % 2 ^ 64))
    [ true ↦ ap (λ n. n % 2 ^ 64) (add-zero value) | false ↦ refl ]
held_after (adds location value) before cell =
    let written = last_written before cell in
    let since = bumped_since before cell in
    elim (location == cell)
    as (λ b. (written + cond b (value + since) since) % 2 ^ 64 ≡ cond b (((written + since) % 2 ^ 64 + value) % 2 ^ 64) ((written + since) % 2 ^ 64))
    [ true ↦ added written value since (2 ^ 64) | false ↦ refl ]
held_after leaves before cell = refl

-- an act that does not touch the cell leaves it
idle : (cell : ℕ) (act : Act) (s : ℕ) → touches cell act ≡ false → after (cell_effect act) cell s ≡ s
idle c (Write l v) s e = rw e refl
idle c (Bump l v) s e = rw e refl
idle c _ s e = refl

kept_state : {Note : Type 0} → (cell : ℕ) (xs : List (Occurrence Note)) → after_all (acts_on cell) 0 (kept (touching cell) xs) ≡ after_all (acts_on cell) 0 xs
kept_state c [] = refl
kept_state c (x ∷ xs) = go (kept_state c xs) (touching c x) refl
  where
    go : after_all (acts_on c) 0 (kept (touching c) xs) ≡ after_all (acts_on c) 0 xs → (b : Bool) → touching c x ≡ b →
        after_all (acts_on c) 0 (cond b (x ∷ kept (touching c) xs) (kept (touching c) xs)) ≡ acts_on c x (after_all (acts_on c) 0 xs)
    go again true e = ap (acts_on c x) again
    go again false e = again ∙ sym (idle c x.newest.act (after_all (acts_on c) 0 xs) e)

-- an act that touches the cell is a write or a bump of it
data Touch (cell : ℕ) (act : Act) : Type 0 where
  writes : (value : ℕ) → act ≡ Write cell value → Touch cell act
  bumps : (value : ℕ) → act ≡ Bump cell value → Touch cell act

touch : (cell : ℕ) (act : Act) → touches cell act ≡ true → Touch cell act
touch c (Write l v) e = writes v (ap (λ z. Write z v) (eqb-true l c e))
touch c (Bump l v) e = bumps v (ap (λ z. Bump z v) (eqb-true l c e))
touch c _ e = cc

pub conflict_of : (one other a b : Act) → one ≡ a → other ≡ b → Conflict a b → Conflict one other
conflict_of one other a b p q c = subst (λ z. Conflict z other) (sym p) (subst (λ z. Conflict a z) (sym q) c)

-- each touch of a cell conflicts with a read of it
pub read_conflict : (cell : ℕ) (act : Act) → touches cell act ≡ true → Conflict act (Read cell)
read_conflict c act e = go (touch c act e)
  where
    go : Touch c act → Conflict act (Read c)
    go (writes v q) = conflict_of act (Read c) (Write c v) (Read c) q refl (record {
      first = record { kind = kind.Write; location = c };
      second = record { kind = kind.Read; location = c };
      is_first = refl;
      is_second = refl;
      location = refl;
      rule = refl;
    })
    go (bumps v q) = conflict_of act (Read c) (Bump c v) (Read c) q refl (record {
      first = record { kind = kind.Bump; location = c };
      second = record { kind = kind.Read; location = c };
      is_first = refl;
      is_second = refl;
      location = refl;
      rule = refl;
    })

bump_step : (cell value s : ℕ) → after (adds cell value) cell s ≡ (s + value) % 2 ^ 64
bump_step c v s = rw (eq-eqb c c refl) refl

bumps_swap : (v w s size : ℕ) → ((s + w) % size + v) % size ≡ ((s + v) % size + w) % size
bumps_swap v w s size =
    let same : (s + w) + v ≡ (s + v) + w = omega arith in
    mod-add-mod (s + w) size v ∙ ap (λ n. n % size) same ∙ sym (mod-add-mod (s + v) size w)

bumps_commute : (cell v w s : ℕ) → after (adds cell v) cell (after (adds cell w) cell s) ≡ after (adds cell w) cell (after (adds cell v) cell s)
bumps_commute c v w s =
    bump_step c v (after (adds c w) c s) ∙ ap (λ z. (z + v) % 2 ^ 64) (bump_step c w s) ∙ bumps_swap v w s (2 ^ 64)
    ∙ sym (bump_step c w (after (adds c v) c s) ∙ ap (λ z. (z + w) % 2 ^ 64) (bump_step c v s))

-- two touches of a cell conflict, or may be swapped
conflict_or_swap : (cell : ℕ) (one other : Act) → touches cell one ≡ true → touches cell other ≡ true →
    Conflict one other ⊎ ((s : ℕ) → after (cell_effect one) cell (after (cell_effect other) cell s) ≡ after (cell_effect other) cell (after (cell_effect one) cell s))
conflict_or_swap c one other e f = go (touch c one e) (touch c other f)
  where
    clash : (a b : Act) → one ≡ a → other ≡ b → Conflict a b → Conflict one other
    clash a b p q k = conflict_of one other a b p q k

    go : Touch c one → Touch c other →
        Conflict one other ⊎ ((s : ℕ) → after (cell_effect one) c (after (cell_effect other) c s) ≡ after (cell_effect other) c (after (cell_effect one) c s))
    go (writes v p) (writes w q) = inl (clash (Write c v) (Write c w) p q (record {
      first = record { kind = kind.Write; location = c };
      second = record { kind = kind.Write; location = c };
      is_first = refl;
      is_second = refl;
      location = refl;
      rule = refl;
    }))
    go (writes v p) (bumps w q) = inl (clash (Write c v) (Bump c w) p q (record {
      first = record { kind = kind.Write; location = c };
      second = record { kind = kind.Bump; location = c };
      is_first = refl;
      is_second = refl;
      location = refl;
      rule = refl;
    }))
    go (bumps v p) (writes w q) = inl (clash (Bump c v) (Write c w) p q (record {
      first = record { kind = kind.Bump; location = c };
      second = record { kind = kind.Write; location = c };
      is_first = refl;
      is_second = refl;
      location = refl;
      rule = refl;
    }))
    go (bumps v p) (bumps w q) = inr (λ s.
        subst (λ a. after (cell_effect a) c (after (cell_effect other) c s) ≡ after (cell_effect other) c (after (cell_effect a) c s)) (sym p)
        (subst (λ b. after (adds c v) c (after (cell_effect b) c s) ≡ after (cell_effect b) c (after (adds c v) c s)) (sym q) (bumps_commute c v w s)))

module _ {Note : Type 0} (shape : Shape) where
  cell_state : (T : Notes Note) (H : Entries) → IsLegal shape H → NoneRefused H → (cell : ℕ) → cell_value H cell ≡ after_all (acts_on cell) 0 (trace T H)
  cell_state T [] l c cell = refl
  cell_state T (e ∷ H) l c cell =
      held_after (effect_on_cell e.request.act e.answer) (effects H) cell
      ∙ ap (λ one. after one cell (cell_value H cell)) (clean_effect e.request.act e.answer l.1.belongs c.0)
      ∙ ap (after (cell_effect e.request.act) cell) (cell_state T H l.0 c.1 cell)

  -- the deeds that touch a cell may be swapped, or one precedes the other
  swaps : (T : Notes Note) (R : Entries) → IsLegal shape R → MemoryIsJudged R → NoneRefused R → (cell : ℕ) (x y : Occurrence Note) → Member (trace T R) x →
      Member (trace T R) y → touching cell x ≡ true → touching cell y ≡ true → x ≢ y → IsSwappable (acts_on cell) Precedes x y
  swaps T R l j c cell x y m n t u ne = elim (conflict_or_swap cell x.newest.act y.newest.act t u) [
    | inr k ↦ inr (inr k)
    | inl k ↦ elim (compared shape T R l j c x y m n k) [
      | inl r ↦ elim (order_of shape T R l x y m n ne r) [ inl p ↦ inl p | inr p ↦ inr (inl p) ]
      | inr r ↦ elim (order_of shape T R l y x n m (λ q. ne (sym q)) r) [ inl p ↦ inr (inl p) | inr p ↦ inl p ]
    ]
  ]

  in_order : (T : Notes Note) (H : Entries) → IsLegal shape H → (cell : ℕ) → IsOrdered (acts_on cell) Precedes (kept (touching cell) (trace T H))
  in_order T H l cell =
      record {
        distinct = kept_paired (touching cell) (λ a b. a ≢ b) (trace T H) (distinct shape T H l);
        ordered = kept_paired (touching cell) (λ later earlier. Precedes later earlier → ⊥) (trace T H) (ordered shape T H l);
      }

  -- Two histories in which the same deeds touch a cell leave it with the same value, where these deeds are of one clean history.
  pub same_cell : (T : Notes Note) (R : Entries) → IsLegal shape R → MemoryIsJudged R → NoneRefused R → (mine theirs : Notes Note) (H K : Entries) →
      IsLegal shape H → NoneRefused H → IsLegal shape K → NoneRefused K → (cell : ℕ) →
      ((x : Occurrence Note) → Member (trace mine H) x → touching cell x ≡ true → Member (trace T R) x × Member (trace theirs K) x) →
      ((x : Occurrence Note) → Member (trace theirs K) x → touching cell x ≡ true → Member (trace mine H) x) →
      cell_value H cell ≡ cell_value K cell
  same_cell T R r j rc mine theirs H K l c k d cell to back =
      let mine_kept = kept (touching cell) (trace mine H) in
      let their_kept = kept (touching cell) (trace theirs K) in
      cell_state mine H l c cell ∙ sym (kept_state cell (trace mine H))
      ∙ same_state (acts_on cell) Precedes 0 mine_kept their_kept (in_order mine H l cell) (in_order theirs K k cell)
      (λ x m. let t = kept_in (touching cell) (trace mine H) x m in in_kept (touching cell) (trace theirs K) x (to x t.0 t.1).1 t.1)
      (λ x m. let t = kept_in (touching cell) (trace theirs K) x m in in_kept (touching cell) (trace mine H) x (back x t.0 t.1) t.1)
      (λ x y m n ne.
      let t = kept_in (touching cell) (trace mine H) x m in
      let u = kept_in (touching cell) (trace mine H) y n in
      swaps T R r j rc cell x y (to x t.0 t.1).0 (to y u.0 u.1).0 t.1 u.1 ne)
      ∙ kept_state cell (trace theirs K) ∙ sym (cell_state theirs K k d cell)
