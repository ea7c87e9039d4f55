-- The entries of a history by frames: expanded from the root's frame on, they are all entries in serial order.
-- a, b, s: addresses; w, y, z, and x where it is no word: placed entries
use Rattle.std.proofs.Common.{◌≡◌, ◌≢◌, ◌⊎◌, inl, inr, ℕ, zero, suc, ◌+◌, ◌<◌, ◌≤◌, true, List, [], ◌∷◌, ◌++◌, length, All, AllPairs, refl, sym, ap, ◌∙◌, subst, arith, append_assoc}
use Rattle.law_addresses.proofs.Branches.{cases_last}
use Rattle.std.proofs.lemmas.List.Kept.{AllPairs-cons}
use Rattle.model_strands.specs.Address.{Word, Address, child, next, join}
use Rattle.law_addresses.specs.Address.{IsPrefix, PartBy, english, reaches, english_before, is_fork}
use Rattle.law_addresses.proofs.Relations.{reaches-decides, before-decides}
use Rattle.law_addresses.proofs.Blocks.{prefix-transitive}
use Rattle.law_addresses.proofs.Extensions.{before-extension}
use Rattle.law_addresses.proofs.Orders.{before-transitive}
use Rattle.law_addresses.proofs.Sorted.{pairs-nil, pairs-head, pairs-tail}
use Rattle.model_strands.specs.Dag.{Reaches}
use Rattle.model_strands.specs.Addresses.{address}
use Rattle.law_strands.proofs.Words.{◌▹◌, prefix_refl, prefix_of_longer, last_same}
use Rattle.law_strands.proofs.Views.{reach_english}
use Rattle.law_strands.proofs.Updates.{same_or_not}
use Rattle.law_strands.proofs.Members.{Present, present_append, all_present, present_all}
use Rattle.law_values.proofs.Lists.{pairs_append}
use Rattle.model_histories.specs.declared.answer.Answer.{Answer}
use Rattle.model_histories.specs.declared.answer.Answer.TheVariants.{Split}
use Rattle.model_histories.specs.Entries.{Entries, control_part}
use Rattle.model_histories.specs.Shapes.{Shape}
use Rattle.model_histories.specs.Legal.{IsLegal}
use Rattle.race_gate.proofs.Races.{legal-part}
use Rattle.model_runs.specs.Frames.{IsSplit}
use Rattle.law_elision.specs.Placed.{Placed, IsPlaced, own, Expands, none, alone, began}
use Rattle.law_elision.proofs.Placements.{own_placed, placed_own, own_sorted, strand_begun, frame_reaches, beside_reaches, begins_bound, split_origin, below_child, beginning}

-- the English order of addresses

-- where one is before another by a word, all behind it is before all behind the other
abbrev pub IsApart : Address → Address → Type 0
IsApart a b = PartBy (λ word other. english word < english other) a b

apart_longer : (a b c d : Address) → IsApart a b → IsPrefix a c → IsPrefix b d → IsApart c d
apart_longer a b c d (front, rest_a, rest_b, word_a, word_b, ea, eb, lt) (u, eu) (v, ev) = (
  front,
  rest_a ++ u,
  rest_b ++ v,
  word_a,
  word_b,
  eu ∙ ap (λ z. z ++ u) ea ∙ append_assoc front (word_a ∷ rest_a) u,
  ev ∙ ap (λ z. z ++ v) eb ∙ append_assoc front (word_b ∷ rest_b) v,
  lt,
)

apart_before : (a b : Address) → IsApart a b → english_before a b ≡ true
apart_before a b p = (before-decides english a b).1 (inr p)

-- what stands below the child is apart from what the continuation reaches
fork_joins : (word : Word) → is_fork word ≡ true → english word < english join
fork_joins child k = omega arith
fork_joins next k = omega arith
fork_joins join k = absurd (cc)

child_apart : (s b : Address) → reaches (s ▹ next) b ≡ true → IsApart (s ▹ child) b
child_apart s b r = go ((reaches-decides (s ▹ next) b).0 r)
  where
    at_end : (front rest : Address) (word : Word) → is_fork word ≡ true → s ▹ next ≡ front ++ (word ∷ rest) → (rest ≡ []) ⊎ ((q : Address) × (x : Word) × (rest ≡ q ▹ x)) →
        (rest_b : Address) → b ≡ front ++ (join ∷ rest_b) → IsApart (s ▹ child) b
    at_end front rest word fork e (inl n) rest_b f =
        let t = last_same s front next word (e ∙ ap (λ z. front ++ (word ∷ z)) n) in
        (front, [], rest_b, child, join, ap (λ z. z ▹ child) t.0, f, omega arith)
    at_end front rest word fork e (inr (q, x, n)) rest_b f =
        let t = last_same s (front ++ (word ∷ q)) next x (e ∙ ap (λ z. front ++ (word ∷ z)) n ∙ sym (append_assoc front (word ∷ q) (x ∷ []))) in
        (front, q ▹ child, rest_b, word, join, ap (λ z. z ▹ child) t.0 ∙ append_assoc front (word ∷ q) (child ∷ []), f, fork_joins word fork)

    go : IsPrefix (s ▹ next) b ⊎ PartBy (λ word other. (is_fork word ≡ true) × (other ≡ join)) (s ▹ next) b → IsApart (s ▹ child) b
    go (inl (u, e)) = (s, [], u, child, next, refl, e ∙ append_assoc s (next ∷ []) u, omega arith)
    go (inr (front, rest_a, rest_b, word, other, ea, eb, (fork, is_join))) =
        at_end front rest_a word fork ea (cases_last rest_a) rest_b (eb ∙ ap (λ z. front ++ (z ∷ rest_b)) is_join)

longer_before : (s b : Address) → IsPrefix (s ▹ child) b → english_before s b ≡ true
longer_before s b (u, e) = subst (λ z. english_before s z ≡ true) (sym (e ∙ append_assoc s (child ∷ []) u)) (before-extension english s child u)

before_below : (a s b : Address) → english_before a s ≡ true → IsPrefix (s ▹ child) b → english_before a b ≡ true
before_below a s b k p = before-transitive english a s b k (longer_before s b p)

-- which of two entries is serially before

abbrev pub IsEarlier : Entries → Placed → Placed → Type 0
IsEarlier entries x y =
    (english_before (address (control_part entries) x.entry.request.strand) (address (control_part entries) y.entry.request.strand) ≡ true) ⊎
    ((x.entry.request.strand ≡ y.entry.request.strand) × (x.number < y.number))

-- an entry is one of these, or stands below the child of one of them
abbrev pub IsBelow : Entries → List Placed → Placed → Type 0
IsBelow entries rest y =
    Present y rest ⊎
    ((x : Placed) × Present x rest × IsSplit x.entry.answer ×
    IsPrefix (address (control_part entries) x.entry.request.strand ▹ child) (address (control_part entries) y.entry.request.strand))

below_more : (entries : Entries) (x y : Placed) (rest : List Placed) → IsBelow entries rest y → IsBelow entries (x ∷ rest) y
below_more entries x y rest (inl p) = inl (inr p)
below_more entries x y rest (inr (z, p, k, q)) = inr (z, inr p, k, q)

split_or_not : (answer : Answer) → IsSplit answer ⊎ (IsSplit answer → ⊥)
split_or_not (Split strands) = inl tt
split_or_not _ = inr (λ k. k)

module _ (shape : Shape) (entries : Entries) (legal : IsLegal shape entries) where
  -- what the frame of a split expands to stands below the split's child

  own_below : (x z : Placed) → IsPlaced entries x → IsSplit x.entry.answer → Present z (own entries x.begins) →
      IsPrefix (address (control_part entries) x.entry.request.strand ▹ child) (address (control_part entries) z.entry.request.strand)
  own_below x z kx k m = let t = own_placed entries x.begins z m in below_child shape entries legal x z kx k t.0 t.1

  under_child : (x y : Placed) → IsPlaced entries x → IsSplit x.entry.answer → IsBelow entries (own entries x.begins) y →
      IsPrefix (address (control_part entries) x.entry.request.strand ▹ child) (address (control_part entries) y.entry.request.strand)
  under_child x y kx k (inl m) = own_below x y kx k m
  under_child x y kx k (inr (z, m, s, b)) =
      prefix-transitive _ (address (control_part entries) z.entry.request.strand) _ (own_below x z kx k m)
      (prefix_of_longer (address (control_part entries) z.entry.request.strand) (address (control_part entries) y.entry.request.strand) child b)

  -- what is expanded is listed, or stands below a split that is listed
  pub expanded_below : (rest all : List Placed) → ((x : Placed) → Present x rest → IsPlaced entries x) → Expands entries rest all → (y : Placed) → Present y all →
      IsPlaced entries y × IsBelow entries rest y
  expanded_below rest all known none y p = absurd p
  expanded_below rest all known (alone {x = x} {rest = more} {all = later} n e) y (inl q) = (subst (IsPlaced entries) q (known x (inl refl)), inl (inl q))
  expanded_below rest all known (alone {x = x} {rest = more} {all = later} n e) y (inr q) =
      let t = expanded_below more later (λ z i. known z (inr i)) e y q in (t.0, below_more entries x y more t.1)
  expanded_below rest all known (began {x = x} {rest = more} {inner = inner} {outer = outer} {all = later} k i o j) y (inl q) =
      (subst (IsPlaced entries) q (known x (inl refl)), inl (inl q))
  expanded_below rest all known (began {x = x} {rest = more} {inner = inner} {outer = outer} {all = later} k i o j) y (inr q) =
      elim ((present_append inner outer y).0 (subst (Present y) j q)) [
        | inl p ↦ (let t = expanded_below (own entries x.begins) inner (λ z m. (own_placed entries x.begins z m).0) i y p in
            (t.0, inr (x, inl refl, k, under_child x y (known x (inl refl)) k t.1)))
        | inr p ↦ (let t = expanded_below more outer (λ z m. known z (inr m)) o y p in (t.0, below_more entries x y more t.1))
      ]

  -- the entries of a frame, in order
  pub record IsFramed (rest : List Placed) (number : ℕ) : Type 0 where
    pub known : (x : Placed) → Present x rest → IsPlaced entries x
    pub frames : (x : Placed) → Present x rest → x.frame ≡ number
    pub sorted : AllPairs (λ x y. x.number < y.number) rest

  framed_tail : (x : Placed) (rest : List Placed) (number : ℕ) → IsFramed (x ∷ rest) number → IsFramed rest number
  framed_tail x rest number f = record {
    known = λ y p. f.known y (inr p);
    frames = λ y p. f.frames y (inr p);
    sorted = pairs-tail (λ y z. y.number < z.number) x rest f.sorted;
  }

  pub framed_own : (number : ℕ) → IsFramed (own entries number) number
  framed_own number = record {
    known = λ x p. (own_placed entries number x p).0;
    frames = λ x p. (own_placed entries number x p).1;
    sorted = own_sorted entries number;
  }

  -- the first of them is before all that the others expand to
  listed_earlier : (x : Placed) (rest : List Placed) (number : ℕ) → IsFramed (x ∷ rest) number → (y : Placed) → Present y rest → IsEarlier entries x y
  listed_earlier x rest number f y p = go (reach_english (control_part entries) (legal-part shape entries legal) x.entry.request.strand y.entry.request.strand (strand_begun shape entries legal x kx) (strand_begun shape entries legal y ky) reach)
    where
      kx : IsPlaced entries x
      kx = f.known x (inl refl)

      ky : IsPlaced entries y
      ky = f.known y (inr p)

      lt : x.number < y.number
      lt = present_all (λ z. x.number < z.number) rest (pairs-head (λ z w. z.number < w.number) x rest f.sorted) y p

      reach : Reaches (control_part entries) x.entry.request.strand y.entry.request.strand
      reach = frame_reaches shape entries legal x y kx ky (f.frames x (inl refl) ∙ sym (f.frames y (inr p))) lt

      go : (x.entry.request.strand ≡ y.entry.request.strand) ⊎ (english_before (address (control_part entries) x.entry.request.strand) (address (control_part entries) y.entry.request.strand) ≡ true) → IsEarlier entries x y
      go (inl e) = inr (e, lt)
      go (inr e) = inl e

  head_earlier : (x : Placed) (rest : List Placed) (number : ℕ) → IsFramed (x ∷ rest) number → (y : Placed) → IsBelow entries rest y → IsEarlier entries x y
  head_earlier x rest number f y (inl p) = listed_earlier x rest number f y p
  head_earlier x rest number f y (inr (z, p, k, q)) =
      elim (listed_earlier x rest number f z p) [
        | inl e ↦ inl (before_below (address (control_part entries) x.entry.request.strand) (address (control_part entries) z.entry.request.strand) (address (control_part entries) y.entry.request.strand) e q)
        | inr t ↦ inl (longer_before (address (control_part entries) x.entry.request.strand) (address (control_part entries) y.entry.request.strand)
            (subst (λ w. IsPrefix (address (control_part entries) w ▹ child) (address (control_part entries) y.entry.request.strand)) (sym t.0) q))
      ]

  -- what stands below its child is before them too
  child_earlier : (x : Placed) (rest : List Placed) (number : ℕ) → IsFramed (x ∷ rest) number → IsSplit x.entry.answer → (y z : Placed) →
      IsPrefix (address (control_part entries) x.entry.request.strand ▹ child) (address (control_part entries) y.entry.request.strand) → IsBelow entries rest z → IsEarlier entries y z
  child_earlier x rest number f k y z b below = inl (apart_before (at y) (at z) (apart_longer (at x ▹ child) (at last.0) (at y) (at z) apart b last.2))
    where
      at : Placed → Address
      at w = address (control_part entries) w.entry.request.strand

      root_of : IsBelow entries rest z → (w : Placed) × Present w rest × IsPrefix (at w) (at z)
      root_of (inl p) = (z, p, prefix_refl (at z))
      root_of (inr (w, p, s, q)) = (w, p, prefix_of_longer (at w) (at z) child q)

      last : (w : Placed) × Present w rest × IsPrefix (at w) (at z)
      last = root_of below

      lt : x.number < last.0.number
      lt = present_all (λ w. x.number < w.number) rest (pairs-head (λ w v. w.number < v.number) x rest f.sorted) last.0 last.1

      apart : IsApart (at x ▹ child) (at last.0)
      apart = child_apart (at x) (at last.0)
          (beside_reaches shape entries legal x last.0 (f.known x (inl refl)) k (f.known last.0 (inr last.1)) (f.frames x (inl refl) ∙ sym (f.frames last.0 (inr last.1))) lt)

  pub expanded_sorted : (rest all : List Placed) (number : ℕ) → IsFramed rest number → Expands entries rest all → AllPairs (IsEarlier entries) all
  expanded_sorted rest all number f none = pairs-nil (IsEarlier entries)
  expanded_sorted rest all number f (alone {x = x} {rest = more} {all = later} n e) =
      let g = framed_tail x more number f in
      AllPairs-cons (IsEarlier entries) x later
      (all_present (IsEarlier entries x) later (λ y p. head_earlier x more number f y (expanded_below more later g.known e y p).1))
      (expanded_sorted more later number g e)
  expanded_sorted rest all number f (began {x = x} {rest = more} {inner = inner} {outer = outer} {all = later} k i o j) =
      AllPairs-cons (IsEarlier entries) x later (subst (All (IsEarlier entries x)) (sym j) (all_present (IsEarlier entries x) (inner ++ outer) first))
      (subst (AllPairs (IsEarlier entries)) (sym j)
      (pairs_append (IsEarlier entries) inner outer (expanded_sorted (own entries x.begins) inner x.begins (framed_own x.begins) i) (expanded_sorted more outer number g o)
      (λ y z p q. child_earlier x more number f k y z (under y p) (expanded_below more outer g.known o z q).1)))
    where
      g : IsFramed more number
      g = framed_tail x more number f

      under : (y : Placed) → Present y inner → IsPrefix (address (control_part entries) x.entry.request.strand ▹ child) (address (control_part entries) y.entry.request.strand)
      under y p =
          under_child x y (f.known x (inl refl)) k (expanded_below (own entries x.begins) inner (λ z m. (own_placed entries x.begins z m).0) i y p).1

      first : (y : Placed) → Present y (inner ++ outer) → IsEarlier entries x y
      first y p = elim ((present_append inner outer y).0 p) [
        | inl q ↦ inl (longer_before (address (control_part entries) x.entry.request.strand) (address (control_part entries) y.entry.request.strand) (under y q))
        | inr q ↦ head_earlier x more number f y (expanded_below more outer g.known o y q).1
      ]

  -- each frame expands

  pub record Expanded (rest : List Placed) : Type 0 where
    pub all : List Placed
    pub expands : Expands entries rest all

  -- the splits of a frame begin younger frames, of which there are so many
  expand_head : (x : Placed) (rest : List Placed) → Expanded rest → IsSplit x.entry.answer ⊎ (IsSplit x.entry.answer → ⊥) →
      (IsSplit x.entry.answer → Expanded (own entries x.begins)) → Expanded (x ∷ rest)
  expand_head x rest more (inr n) inside = record { all = x ∷ more.all; expands = alone n more.expands }
  expand_head x rest more (inl k) inside = let inner = inside k in record { all = x ∷ (inner.all ++ more.all); expands = began k inner.expands more.expands refl }

  expand_rest : (rest : List Placed) (number : ℕ) → IsFramed rest number →
      ((x : Placed) → IsPlaced entries x → IsSplit x.entry.answer → number < x.begins → Expanded (own entries x.begins)) → Expanded rest
  expand_rest [] number f inside = record { all = []; expands = none }
  expand_rest (x ∷ rest) number f inside =
      let b = begins_bound shape entries legal x (f.known x (inl refl)) in
      let e = f.frames x (inl refl) in
      expand_head x rest (expand_rest rest number (framed_tail x rest number f) inside) (split_or_not x.entry.answer)
      (λ k. inside x (f.known x (inl refl)) k (omega (arith, b.0, e)))

  expand : (fuel : ℕ) (number : ℕ) → length (control_part entries) ≤ number + fuel → Expanded (own entries number)
  expand zero number enough =
      expand_rest (own entries number) number (framed_own number)
      (λ x p k lt. let b = (split_origin shape entries legal x p k).1 in absurd (omega (arith, b)))
  expand (suc fuel) number enough =
      expand_rest (own entries number) number (framed_own number) (λ x p k lt. expand fuel x.begins (omega arith))

  pub expanded : Expanded (own entries 0)
  expanded = expand (length (control_part entries)) 0 (omega arith)

  -- all entries are there

  listed_there : (rest all : List Placed) → Expands entries rest all → (y : Placed) → Present y rest → Present y all
  listed_there rest all none y p = p
  listed_there rest all (alone {x = x} {rest = more} {all = later} n e) y (inl q) = inl q
  listed_there rest all (alone {x = x} {rest = more} {all = later} n e) y (inr q) = inr (listed_there more later e y q)
  listed_there rest all (began {x = x} {rest = more} {inner = inner} {outer = outer} k i o j) y (inl q) = inl q
  listed_there rest all (began {x = x} {rest = more} {inner = inner} {outer = outer} k i o j) y (inr q) =
      inr (subst (Present y) (sym j) ((present_append inner outer y).1 (inr (listed_there more outer o y q))))

  -- with a split there are the entries of its frame
  frame_there : (rest all : List Placed) → Expands entries rest all → (x y : Placed) → Present x all → IsSplit x.entry.answer → Present y (own entries x.begins) →
      Present y all
  frame_there rest all none x y p k q = absurd p
  frame_there rest all (alone {x = z} {rest = more} {all = later} n e) x y (inl p) k q = absurd (n (subst (λ w. IsSplit w.entry.answer) (sym p) k))
  frame_there rest all (alone {x = z} {rest = more} {all = later} n e) x y (inr p) k q = inr (frame_there more later e x y p k q)
  frame_there rest all (began {x = z} {rest = more} {inner = inner} {outer = outer} s i o j) x y (inl p) k q =
      inr (subst (Present y) (sym j) ((present_append inner outer y).1
      (inl (listed_there (own entries z.begins) inner i y (subst (λ w. Present y (own entries w.begins)) (sym p) q)))))
  frame_there rest all (began {x = z} {rest = more} {inner = inner} {outer = outer} s i o j) x y (inr p) k q =
      inr (subst (Present y) (sym j) ((present_append inner outer y).1
      (elim ((present_append inner outer x).0 (subst (Present x) j p)) [
        | inl t ↦ inl (frame_there (own entries z.begins) inner i x y t k q)
        | inr t ↦ inr (frame_there more outer o x y t k q)
      ])))

  there_if : (all : List Placed) → Expands entries (own entries 0) all → (y : Placed) → IsPlaced entries y →
      ((z : Placed) → IsPlaced entries z → z.frame < y.frame → Present z all) → (y.frame ≡ 0) ⊎ (y.frame ≢ 0) → Present y all
  there_if all e y p older (inl z) = listed_there (own entries 0) all e y (subst (λ f. Present y (own entries f)) z (placed_own entries y p))
  there_if all e y p older (inr nz) =
      let b = beginning shape entries legal y p nz in
      let k = begins_bound shape entries legal b.placed b.stands in
      let g = b.begins in
      frame_there (own entries 0) all e b.placed y (older b.placed b.stands (omega (arith, k.0, g))) b.splits
      (subst (λ f. Present y (own entries f)) (sym b.begins) (placed_own entries y p))

  there_by : (fuel : ℕ) (all : List Placed) → Expands entries (own entries 0) all → (y : Placed) → IsPlaced entries y → y.frame < fuel → Present y all
  there_by zero all e y p le = absurd (omega arith)
  there_by (suc fuel) all e y p le =
      there_if all e y p (λ z q lt. there_by fuel all e z q (omega arith)) (same_or_not y.frame 0)

  pub all_there : (all : List Placed) → Expands entries (own entries 0) all → (y : Placed) → IsPlaced entries y → Present y all
  all_there all e y p = there_by (suc y.frame) all e y p (omega arith)
