-- The spawners that an address passes, and how they change as it grows.
use Rattle.std.proofs.Common.{◌≡◌, inl, inr, ℕ, zero, suc, ◌<◌, true, replicate, [], ◌∷◌, ◌++◌, map, append-nil, append_assoc, refl, sym, ap, ◌∙◌, subst}
use Rattle.std.proofs.lemmas.Simd.{map-map}
use Rattle.std.proofs.lemmas.List.{map-append, map-id}
use Rattle.model_strands.specs.Address.{Word, child, next, join, Address, extended}
use Rattle.law_addresses.specs.Address.{english, english_before, IsPrefix}
use Rattle.law_addresses.specs.Blocks.{joined as joined_address}
use Rattle.law_addresses.proofs.Relations.{before-decides}
use Rattle.law_strands.proofs.Members.{Present, present_map, map_present, contains_present}
use Rattle.law_strands.proofs.Words.{◌▹◌}
use Rattle.law_serial_runs.specs.Spawns.{passed_spawners}
use Rattle.law_serial_runs.specs.Laws.{PassedLaw, PassedMoreLaw}

-- words behind an address pass what they pass there
pub passed_append : (a b : Address) → passed_spawners (a ++ b) ≡ passed_spawners a ++ map (λ spawner. a ++ spawner) (passed_spawners b)
passed_append [] b = sym (map-id (passed_spawners b))
passed_append (child ∷ a) b =
    ap (map (λ p. child ∷ p)) (passed_append a b) ∙
    (map-append (λ p. child ∷ p) (passed_spawners a) (map (λ p. a ++ p) (passed_spawners b)) ∙
    ap (λ z. map (λ p. child ∷ p) (passed_spawners a) ++ z) (map-map (λ p. child ∷ p) (λ p. a ++ p) (passed_spawners b)))
passed_append (join ∷ a) b =
    ap (map (λ p. join ∷ p)) (passed_append a b) ∙
    (map-append (λ p. join ∷ p) (passed_spawners a) (map (λ p. a ++ p) (passed_spawners b)) ∙
    ap (λ z. map (λ p. join ∷ p) (passed_spawners a) ++ z) (map-map (λ p. join ∷ p) (λ p. a ++ p) (passed_spawners b)))
passed_append (next ∷ a) b =
    ap (λ z. [] ∷ map (λ p. next ∷ p) z) (passed_append a b) ∙
    ap (λ z. [] ∷ z)
    (map-append (λ p. next ∷ p) (passed_spawners a) (map (λ p. a ++ p) (passed_spawners b)) ∙
    ap (λ z. map (λ p. next ∷ p) (passed_spawners a) ++ z) (map-map (λ p. next ∷ p) (λ p. a ++ p) (passed_spawners b)))

pub passed_more_law : PassedMoreLaw
passed_more_law a = record {
  at_child = passed_append a (child ∷ []) ∙ append-nil (passed_spawners a);
  at_next = passed_append a (next ∷ []) ∙ ap (λ z. passed_spawners a ++ z ∷ []) (append-nil a);
  at_join = passed_append a (join ∷ []) ∙ append-nil (passed_spawners a);
}

-- an address begins with that of the next of each spawner that it passes
passes : (a spawner : Address) → Present spawner (passed_spawners a) → IsPrefix (extended spawner next) a
passes [] p m = absurd m
passes (child ∷ a) p m =
    let (q, there, is) = present_map (λ z. child ∷ z) p (passed_spawners a) m in
    let (rest, e) = passes a q there in
    (rest, ap (λ z. child ∷ z) e ∙ ap (λ z. extended z next ++ rest) is)
passes (join ∷ a) p m =
    let (q, there, is) = present_map (λ z. join ∷ z) p (passed_spawners a) m in
    let (rest, e) = passes a q there in
    (rest, ap (λ z. join ∷ z) e ∙ ap (λ z. extended z next ++ rest) is)
passes (next ∷ a) p (inl e) = (a, ap (λ z. extended z next ++ a) e)
passes (next ∷ a) p (inr m) =
    let (q, there, is) = present_map (λ z. next ∷ z) p (passed_spawners a) m in
    let (rest, e) = passes a q there in
    (rest, ap (λ z. next ∷ z) e ∙ ap (λ z. extended z next ++ rest) is)

passed_by : (a spawner rest : Address) → a ≡ extended spawner next ++ rest → Present spawner (passed_spawners a)
passed_by [] [] r e = absurd (cc)
passed_by [] (w ∷ p) r e = absurd (cc)
passed_by (child ∷ a) [] r e = absurd (cc)
passed_by (join ∷ a) [] r e = absurd (cc)
passed_by (next ∷ a) [] r e = inl refl
passed_by (child ∷ a) (w ∷ p) r e =
    let heads : child ≡ w = cc in let tails : a ≡ extended p next ++ r = cc in
    subst (λ z. Present (z ∷ p) (passed_spawners (child ∷ a))) heads (map_present (λ z. child ∷ z) p (passed_spawners a) (passed_by a p r tails))
passed_by (join ∷ a) (w ∷ p) r e =
    let heads : join ≡ w = cc in let tails : a ≡ extended p next ++ r = cc in
    subst (λ z. Present (z ∷ p) (passed_spawners (join ∷ a))) heads (map_present (λ z. join ∷ z) p (passed_spawners a) (passed_by a p r tails))
passed_by (next ∷ a) (w ∷ p) r e =
    let heads : next ≡ w = cc in let tails : a ≡ extended p next ++ r = cc in
    subst (λ z. Present (z ∷ p) (passed_spawners (next ∷ a))) heads (inr (map_present (λ z. next ∷ z) p (passed_spawners a) (passed_by a p r tails)))

pub passed_law : PassedLaw
passed_law a p = (
  (λ m. passes a p ((contains_present p (passed_spawners a)).0 m)),
  (λ t. (contains_present p (passed_spawners a)).1 (passed_by a p t.0 t.1)),
)

-- joins at the end pass nothing
pub passed_joins : (a : Address) (blocks : ℕ) → passed_spawners (joined_address a blocks) ≡ passed_spawners a
passed_joins a k = passed_append a (replicate k join) ∙ (ap (λ z. passed_spawners a ++ map (λ p. a ++ p) z) (none k) ∙ append-nil (passed_spawners a))
  where
    none : (blocks : ℕ) → passed_spawners (replicate blocks join) ≡ []
    none zero = refl
    none (suc k) = ap (map (λ p. join ∷ p)) (none k)

-- Words behind an address.

pub word_behind : (front : Address) (word : Word) (a : Address) → IsPrefix (front ▹ word) a → (rest : Address) × (a ≡ front ++ (word ∷ rest))
word_behind p w a (rest, e) = (rest, e ∙ append_assoc p (w ∷ []) rest)

-- what goes on from an address by the earlier word is before what goes on by the later one
pub parted_english : (front : Address) (word other : Word) (a b : Address) → english word < english other → IsPrefix (front ▹ word) a → IsPrefix (front ▹ other) b →
    english_before a b ≡ true
parted_english p w v a b lt t u =
    let (rest_a, is_a) = word_behind p w a t in
    let (rest_b, is_b) = word_behind p v b u in
    (before-decides english a b).1 (inr (p, rest_a, rest_b, w, v, is_a, is_b, lt))
