-- Branches stand for addresses without the joins at their end, and so for the peers of strands.
use Rattle.std.proofs.Common.{◌≡◌, ◌≢◌, ◌⊎◌, ◌↔◌, inl, inr, ℕ, suc, ◌<◌, ◌≤◌, Bool, true, false, [], ◌∷◌, ◌++◌, length, refl, sym, ap, ◌∙◌, subst, subst₂, arith}
use Rattle.model_strands.specs.Address.{Word, child, next, join, Address}
use Rattle.law_addresses.specs.Address.{is_fork, sibling, parallel, english_before, hebrew_before, IsPrefix, branch as branch_of_address}
use Rattle.law_addresses.proofs.Relations.{parallel-comm}
use Rattle.law_addresses.proofs.Branches.{branch-join, branch-fork, branch-peers, peers-branch}
use Rattle.model_strands.specs.History.{Event, split, same, joined, waits, call, resumed, ended, ended_joined, finished, History}
use Rattle.model_strands.specs.Strands.{Begun, unused}
use Rattle.model_strands.specs.Legal.{Legal, start, then}
use Rattle.model_strands.specs.Peers.{Peers, HaveSamePeers}
use Rattle.model_strands.specs.Addresses.{address}
use Rattle.law_strands.specs.Branches.{left, right, branch}
use Rattle.model_strands.specs.Extensions.{Extends, IsFinished}
use Rattle.law_strands.specs.Laws.{StaysSame, StayOrdered, StabilityLaw, BranchLaw, FinishedBranchLaw, BranchAddressLaw, AcrossLaw}
use Rattle.law_strands.proofs.Updates.{same_or_not, updated_at, updated_off}
use Rattle.law_strands.proofs.Words.{Precedes, ◌▹◌, prefix_refl, prefix_of_longer, not_prefix_shorter, prefix_siblings, branch_prefix}
use Rattle.law_strands.proofs.Places.{Seen, at_child, at_next, at_join, at_spawner, elsewhere, true_not_false}
use Rattle.law_strands.proofs.Range.{ranges}
use Rattle.law_strands.proofs.Holders.{holders, Splitting, splitting, running_open}
use Rattle.law_strands.proofs.Calm.{IsCalm, calm_address, calm_unused}
use Rattle.law_strands.proofs.Addresses.{Addresses, addresses}
use Rattle.law_strands.proofs.Law.{begun_below, reach_precedes, precedes_reach}
use Rattle.law_strands.proofs.Kept.{begun_stays, address_stays, legal_before}
use Rattle.law_strands.proofs.Splits.{split_facts, SplitAt, turn_splits}
use Rattle.law_strands.proofs.Orders.{parallel_iff}
use Rattle.law_strands.proofs.Finish.{finish_law}

-- the branch after a split
pub data Branched (history : History) (strand the_child the_next the_join : ℕ) (first : Bool) (number : ℕ) : Type 0 where
  branch_child : number ≡ the_child → branch (split strand the_child the_next the_join first ∷ history) number ≡ left (suc (length history)) →
      Branched history strand the_child the_next the_join first number
  branch_next : number ≡ the_next → branch (split strand the_child the_next the_join first ∷ history) number ≡ right (suc (length history)) →
      Branched history strand the_child the_next the_join first number
  branch_join : number ≡ the_join → first ≡ true → branch (split strand the_child the_next the_join first ∷ history) number ≡ branch history strand →
      Branched history strand the_child the_next the_join first number
  branch_old : number ≢ the_child → number ≢ the_next → (first ≡ true → number ≢ the_join) →
      branch (split strand the_child the_next the_join first ∷ history) number ≡ branch history number →
      Branched history strand the_child the_next the_join first number

pub branched : (history : History) (strand the_child the_next the_join : ℕ) (first : Bool) (one : ℕ) →
    Branched history strand the_child the_next the_join first one
branched h s c n j true x = go (same_or_not x j) (same_or_not x n) (same_or_not x c)
  where
    go : (x ≡ j) ⊎ (x ≢ j) → (x ≡ n) ⊎ (x ≢ n) → (x ≡ c) ⊎ (x ≢ c) → Branched h s c n j true x
    go (inl e) b d = branch_join e refl (updated_at _ j _ x e)
    go (inr nj) (inl e) d = branch_next e (updated_off _ j _ x nj ∙ updated_at _ n _ x e)
    go (inr nj) (inr nn) (inl e) = branch_child e (updated_off _ j _ x nj ∙ (updated_off _ n _ x nn ∙ updated_at _ c _ x e))
    go (inr nj) (inr nn) (inr nc) = branch_old nc nn (λ k. nj) (updated_off _ j _ x nj ∙ (updated_off _ n _ x nn ∙ updated_off _ c _ x nc))
branched h s c n j false x = go (same_or_not x n) (same_or_not x c)
  where
    go : (x ≡ n) ⊎ (x ≢ n) → (x ≡ c) ⊎ (x ≢ c) → Branched h s c n j false x
    go (inl e) d = branch_next e (updated_at _ n _ x e)
    go (inr nn) (inl e) = branch_child e (updated_off _ n _ x nn ∙ updated_at _ c _ x e)
    go (inr nn) (inr nc) = branch_old nc nn (λ k. absurd (true_not_false (sym k))) (updated_off _ n _ x nn ∙ updated_off _ c _ x nc)

-- the branch of a known number, and its address without the joins at its end: new ones, or those of an earlier number
pub data Earlier (history : History) (strand the_child the_next the_join : ℕ) (first : Bool) (number : ℕ) : Type 0 where
  is_child : branch (split strand the_child the_next the_join first ∷ history) number ≡ left (suc (length history)) →
      branch_of_address (address (split strand the_child the_next the_join first ∷ history) number) ≡ address history strand ▹ child → Earlier history strand the_child the_next the_join first number
  is_next : branch (split strand the_child the_next the_join first ∷ history) number ≡ right (suc (length history)) →
      branch_of_address (address (split strand the_child the_next the_join first ∷ history) number) ≡ address history strand ▹ next → Earlier history strand the_child the_next the_join first number
  is_earlier : (other : ℕ) → other < unused history → branch (split strand the_child the_next the_join first ∷ history) number ≡ branch history other →
      branch_of_address (address (split strand the_child the_next the_join first ∷ history) number) ≡ branch_of_address (address history other) → Earlier history strand the_child the_next the_join first number

pub earlier : (history : History) (strand the_child the_next the_join : ℕ) (first : Bool) → Splitting history strand the_child the_next the_join first →
    (one : ℕ) → one < unused (split strand the_child the_next the_join first ∷ history) → Earlier history strand the_child the_next the_join first one
earlier h s c n j first w x lt = go (branched h s c n j first x) (w.numbers.see x)
  where
    go : Branched h s c n j first x → Seen h s c n j first x → Earlier h s c n j first x
    go (branch_child e b) (at_child xe a p d) = is_child b (ap branch_of_address d ∙ branch-fork child refl (address h s))
    go (branch_child e b) (at_next xe a p d) = absurd (omega (arith, e, xe, w.numbers.child_is, w.numbers.next_is))
    go (branch_child e b) (at_join xe lo f a p d) = absurd (w.numbers.join_not_child (sym xe ∙ e))
    go (branch_child e b) (at_spawner xe a p d) = absurd (omega (arith, e, xe, w.numbers.child_is, w.numbers.spawner_known))
    go (branch_child e b) (elsewhere ns (inl kn) a p d) = absurd (omega (arith, e, w.numbers.child_is))
    go (branch_child e b) (elsewhere ns (inr kn) a p d) = absurd (omega arith)
    go (branch_next e b) (at_next xe a p d) = is_next b (ap branch_of_address d ∙ branch-fork next refl (address h s))
    go (branch_next e b) (at_child xe a p d) = absurd (omega (arith, e, xe, w.numbers.child_is, w.numbers.next_is))
    go (branch_next e b) (at_join xe lo f a p d) = absurd (w.numbers.join_not_next (sym xe ∙ e))
    go (branch_next e b) (at_spawner xe a p d) = absurd (omega (arith, e, xe, w.numbers.next_is, w.numbers.spawner_known))
    go (branch_next e b) (elsewhere ns (inl kn) a p d) = absurd (omega (arith, e, w.numbers.next_is))
    go (branch_next e b) (elsewhere ns (inr kn) a p d) = absurd (omega arith)
    go (branch_join e f b) (at_join xe lo f' a p d) = is_earlier s w.numbers.spawner_known b (ap branch_of_address d ∙ branch-join (address h s))
    go (branch_join e f b) (at_child xe a p d) = absurd (w.numbers.join_not_child (sym e ∙ xe))
    go (branch_join e f b) (at_next xe a p d) = absurd (w.numbers.join_not_next (sym e ∙ xe))
    go (branch_join e f b) (at_spawner xe a p d) =
        absurd (elim w.block_is [ inl t ↦ omega (arith, e, xe, t.1, w.numbers.spawner_known) | inr t ↦ true_not_false (sym f ∙ t.0) ])
    go (branch_join e f b) (elsewhere ns (inl kn) a p d) = absurd (elim w.block_is [ inl t ↦ omega (arith, e, kn, t.1) | inr t ↦ true_not_false (sym f ∙ t.0) ])
    go (branch_join e f b) (elsewhere ns (inr kn) a p d) = absurd (omega arith)
    go (branch_old nc nn nj b) (at_child xe a p d) = absurd (nc xe)
    go (branch_old nc nn nj b) (at_next xe a p d) = absurd (nn xe)
    go (branch_old nc nn nj b) (at_join xe lo f a p d) = absurd (nj f xe)
    go (branch_old nc nn nj b) (at_spawner xe a p d) =
        is_earlier x (omega (arith, xe, w.numbers.spawner_known)) b (ap branch_of_address (d ∙ ap (address h) (sym xe)))
    go (branch_old nc nn nj b) (elsewhere ns (inl kn) a p d) = is_earlier x kn b (ap branch_of_address d)
    go (branch_old nc nn nj b) (elsewhere ns (inr kn) a p d) = absurd (omega arith)

left_same : {a b : ℕ} → left a ≡ left b → a ≡ b
left_same e = cc

right_same : {a b : ℕ} → right a ≡ right b → a ≡ b
right_same e = cc

left_not_right : {a b : ℕ} → left a ≡ right b → ⊥
left_not_right e = cc

-- branches name the addresses without the joins at their end
pub record BranchNames (history : History) : Type 0 where
  pub same_words : (number other : ℕ) → number < unused history → other < unused history → branch history number ≡ branch history other →
      branch_of_address (address history number) ≡ branch_of_address (address history other)
  pub same_branch : (number other : ℕ) → number < unused history → other < unused history →
      branch_of_address (address history number) ≡ branch_of_address (address history other) → branch history number ≡ branch history other
  pub left_known : (number of_split : ℕ) → branch history number ≡ left of_split → of_split ≤ length history
  pub right_known : (number of_split : ℕ) → branch history number ≡ right of_split → of_split ≤ length history

names_split : (history : History) (strand the_child the_next the_join : ℕ) (first : Bool) → Addresses history →
    Splitting history strand the_child the_next the_join first → BranchNames history →
    BranchNames (split strand the_child the_next the_join first ∷ history)
names_split h s c n j first d w k = record {
  same_words = λ x y lx ly e. same_words_at x y e (earlier h s c n j first w x lx) (earlier h s c n j first w y ly);
  same_branch = λ x y lx ly e. same_branch_at x y e (earlier h s c n j first w x lx) (earlier h s c n j first w y ly);
  left_known = λ x m e. left_at x m e (branched h s c n j first x);
  right_known = λ x m e. right_at x m e (branched h s c n j first x);
}
  where
    -- no earlier branch lies below the spawner
    not_earlier : (other : ℕ) → other < unused h → (word : Word) → branch_of_address (address h other) ≡ address h s ▹ word → ⊥
    not_earlier y ly v e =
        let below : IsPrefix (address h s ▹ v) (address h y) = subst (λ z. IsPrefix z (address h y)) e (branch_prefix (address h y)) in
        let is_spawner : y ≡ s = d.leaf s y (running_open h s w.runs) ly (prefix_of_longer (address h s) (address h y) v below) in
        not_prefix_shorter (address h s) v (subst (λ z. IsPrefix (address h s ▹ v) (address h z)) is_spawner below)

    same_words_at : (strand other : ℕ) → branch (split s c n j first ∷ h) strand ≡ branch (split s c n j first ∷ h) other → Earlier h s c n j first strand →
        Earlier h s c n j first other →
        branch_of_address (address (split s c n j first ∷ h) strand) ≡ branch_of_address (address (split s c n j first ∷ h) other)
    same_words_at x y e (is_child b g) (is_child b' g') = g ∙ sym g'
    same_words_at x y e (is_child b g) (is_next b' g') = absurd (left_not_right (sym b ∙ (e ∙ b')))
    same_words_at x y e (is_child b g) (is_earlier z lz b' g') = absurd (omega (arith, k.left_known z (suc (length h)) (sym b' ∙ (sym e ∙ b))))
    same_words_at x y e (is_next b g) (is_child b' g') = absurd (left_not_right (sym b' ∙ (sym e ∙ b)))
    same_words_at x y e (is_next b g) (is_next b' g') = g ∙ sym g'
    same_words_at x y e (is_next b g) (is_earlier z lz b' g') = absurd (omega (arith, k.right_known z (suc (length h)) (sym b' ∙ (sym e ∙ b))))
    same_words_at x y e (is_earlier z lz b g) (is_child b' g') = absurd (omega (arith, k.left_known z (suc (length h)) (sym b ∙ (e ∙ b'))))
    same_words_at x y e (is_earlier z lz b g) (is_next b' g') = absurd (omega (arith, k.right_known z (suc (length h)) (sym b ∙ (e ∙ b'))))
    same_words_at x y e (is_earlier z lz b g) (is_earlier z' lz' b' g') = g ∙ (k.same_words z z' lz lz' (sym b ∙ (e ∙ b')) ∙ sym g')

    child_not_next : address h s ▹ child ≡ address h s ▹ next → ⊥
    child_not_next e = let g = prefix_siblings (address h s) child next (subst (IsPrefix (address h s ▹ child)) e (prefix_refl (address h s ▹ child))) in cc

    same_branch_at : (strand other : ℕ) →
        branch_of_address (address (split s c n j first ∷ h) strand) ≡ branch_of_address (address (split s c n j first ∷ h) other) →
        Earlier h s c n j first strand → Earlier h s c n j first other → branch (split s c n j first ∷ h) strand ≡ branch (split s c n j first ∷ h) other
    same_branch_at x y e (is_child b g) (is_child b' g') = b ∙ sym b'
    same_branch_at x y e (is_child b g) (is_next b' g') = absurd (child_not_next (sym g ∙ (e ∙ g')))
    same_branch_at x y e (is_child b g) (is_earlier z lz b' g') = absurd (not_earlier z lz child (sym g' ∙ (sym e ∙ g)))
    same_branch_at x y e (is_next b g) (is_child b' g') = absurd (child_not_next (sym g' ∙ (sym e ∙ g)))
    same_branch_at x y e (is_next b g) (is_next b' g') = b ∙ sym b'
    same_branch_at x y e (is_next b g) (is_earlier z lz b' g') = absurd (not_earlier z lz next (sym g' ∙ (sym e ∙ g)))
    same_branch_at x y e (is_earlier z lz b g) (is_child b' g') = absurd (not_earlier z lz child (sym g ∙ (e ∙ g')))
    same_branch_at x y e (is_earlier z lz b g) (is_next b' g') = absurd (not_earlier z lz next (sym g ∙ (e ∙ g')))
    same_branch_at x y e (is_earlier z lz b g) (is_earlier z' lz' b' g') = b ∙ (k.same_branch z z' lz lz' (sym g ∙ (e ∙ g')) ∙ sym b')

    left_at : (strand number : ℕ) → branch (split s c n j first ∷ h) strand ≡ left number → Branched h s c n j first strand → number ≤ suc (length h)
    left_at x m e (branch_child xe b) = let t : suc (length h) ≡ m = left_same (sym b ∙ e) in omega arith
    left_at x m e (branch_next xe b) = absurd (left_not_right (sym e ∙ b))
    left_at x m e (branch_join xe f b) = omega (arith, k.left_known s m (sym b ∙ e))
    left_at x m e (branch_old nc nn nj b) = omega (arith, k.left_known x m (sym b ∙ e))

    right_at : (strand number : ℕ) → branch (split s c n j first ∷ h) strand ≡ right number → Branched h s c n j first strand → number ≤ suc (length h)
    right_at x m e (branch_child xe b) = absurd (left_not_right (sym b ∙ e))
    right_at x m e (branch_next xe b) = let t : suc (length h) ≡ m = right_same (sym b ∙ e) in omega arith
    right_at x m e (branch_join xe f b) = omega (arith, k.right_known s m (sym b ∙ e))
    right_at x m e (branch_old nc nn nj b) = omega (arith, k.right_known x m (sym b ∙ e))

calm_branch : (history : History) (event : Event) → IsCalm event → (strand : ℕ) → branch (event ∷ history) strand ≡ branch history strand
calm_branch h (split s c n j first) k x = absurd k
calm_branch h (call s) k x = refl
calm_branch h (resumed s) k x = refl
calm_branch h (same s) k x = refl
calm_branch h (joined s j) k x = refl
calm_branch h (waits s) k x = refl
calm_branch h (ended s) k x = refl
calm_branch h (ended_joined s j) k x = refl
calm_branch h (finished s) k x = refl

names_calm : (history : History) (event : Event) → IsCalm event → BranchNames history → BranchNames (event ∷ history)
names_calm h e calm k = record {
  same_words = λ x y lx ly g. ap branch_of_address (calm_address h e calm x) ∙
      (k.same_words x y (older x lx) (older y ly) (sym (calm_branch h e calm x) ∙ (g ∙ calm_branch h e calm y)) ∙ ap branch_of_address (sym (calm_address h e calm y)));
  same_branch = λ x y lx ly g. calm_branch h e calm x ∙
      (k.same_branch x y (older x lx) (older y ly) (ap branch_of_address (sym (calm_address h e calm x)) ∙ (g ∙ ap branch_of_address (calm_address h e calm y))) ∙
      sym (calm_branch h e calm y));
  left_known = λ x m g. omega (arith, k.left_known x m (sym (calm_branch h e calm x) ∙ g));
  right_known = λ x m g. omega (arith, k.right_known x m (sym (calm_branch h e calm x) ∙ g));
}
  where
    older : (strand : ℕ) → strand < unused (e ∷ h) → strand < unused h
    older x lt = subst (λ m. x < m) (calm_unused h e calm) lt

pub branch_names : {h : History} → Legal h → BranchNames h
branch_names start = record {
  same_words = λ x y lx ly e. refl;
  same_branch = λ x y lx ly e. refl;
  left_known = λ x m e. absurd (cc);
  right_known = λ x m e. absurd (cc);
}
branch_names (then {history = h} {event = split s c n j first} l a) =
    names_split h s c n j first (addresses l) (splitting h s c n j first (ranges l) (holders l) a) (branch_names l)
branch_names (then {history = h} {event = call s} l a) = names_calm h (call s) tt (branch_names l)
branch_names (then {history = h} {event = resumed s} l a) = names_calm h (resumed s) tt (branch_names l)
branch_names (then {history = h} {event = same s} l a) = names_calm h (same s) tt (branch_names l)
branch_names (then {history = h} {event = joined s j} l a) = names_calm h (joined s j) tt (branch_names l)
branch_names (then {history = h} {event = waits s} l a) = names_calm h (waits s) tt (branch_names l)
branch_names (then {history = h} {event = ended s} l a) = names_calm h (ended s) tt (branch_names l)
branch_names (then {history = h} {event = ended_joined s j} l a) = names_calm h (ended_joined s j) tt (branch_names l)
branch_names (then {history = h} {event = finished s} l a) = names_calm h (finished s) tt (branch_names l)

pub branch_address_law : BranchAddressLaw
branch_address_law h l u v bu bv =
    let lu = begun_below h (ranges l) u bu in
    let lv = begun_below h (ranges l) v bv in
    ((branch_names l).same_words u v lu lv, (branch_names l).same_branch u v lu lv)

pub across_law : AcrossLaw
across_law h k l m u v bu bv x y bx by au av = (
  (
    (λ r. precedes_reach k m x y bx by (subst₂ Precedes au av (reach_precedes h l u v r))),
    (λ r. precedes_reach h l u v bu bv (subst₂ Precedes (sym au) (sym av) (reach_precedes k m x y r))),
  ),
  (
    (λ e. (branch_address_law k m x y bx by).1 (sym (ap branch_of_address au) ∙ ((branch_address_law h l u v bu bv).0 e ∙ ap branch_of_address av))),
    (λ e. (branch_address_law h l u v bu bv).1 (ap branch_of_address au ∙ ((branch_address_law k m x y bx by).0 e ∙ sym (ap branch_of_address av)))),
  ),
)

-- Branches stand for peers.

-- a begun strand has this address
abbrev HasStrand : History → Address → Type 0
HasStrand history place = (strand : ℕ) × Begun history strand × (address history strand ≡ place)

opener : (history : History) → Legal history → (q : Address) (word : Word) → HasStrand history (q ▹ word) → SplitAt history q
opener h l q w (x, b, e) = turn_splits l x (begun_below h (ranges l) x b) q w (subst (IsPrefix (q ▹ w)) (sym e) (prefix_refl (q ▹ w)))

has_opener : (history : History) → Legal history → (q : Address) → HasStrand history (q ▹ join) → HasStrand history q
has_opener h l q t = let k = opener h l q join t in (k.spawner, (split_facts l k.spawner k.the_child k.the_next k.splits).spawner_begun, k.spawner_address)

has_sibling : (history : History) → Legal history → (q : Address) (word : Word) → is_fork word ≡ true → HasStrand history (q ▹ word) →
    HasStrand history (q ▹ sibling word)
has_sibling h l q child fork t =
    let k = opener h l q child t in
    let f = split_facts l k.spawner k.the_child k.the_next k.splits in
    (k.the_next, f.next_begun, f.next_address ∙ ap (λ z. z ▹ next) k.spawner_address)
has_sibling h l q next fork t =
    let k = opener h l q next t in
    let f = split_facts l k.spawner k.the_child k.the_next k.splits in
    (k.the_child, f.child_begun, f.child_address ∙ ap (λ z. z ▹ child) k.spawner_address)
has_sibling h l q join fork t = absurd (cc)

same_test : (test other_test : Bool) → (test ≡ true → other_test ≡ true) → (other_test ≡ true → test ≡ true) → test ≡ other_test
same_test true true f g = refl
same_test true false f g = sym (f refl)
same_test false true f g = g refl
same_test false false f g = refl

pub branch_here : (history : History) → Legal history → (strand other : ℕ) → Begun history strand → Begun history other →
    (branch history strand ≡ branch history other) ↔ HaveSamePeers history strand other
branch_here h l u v bu bv = (to, from)
  where
    -- whoever is parallel to one strand is so to another of its branch
    moved : (strand other third : ℕ) → Begun h strand → Begun h other → branch_of_address (address h strand) ≡ branch_of_address (address h other) →
        Peers h strand third → Peers h other third
    moved x y w bx by e (bw, p) = (
      bw,
      (parallel_iff h l y w by bw).1
          (parallel-comm (address h y) (address h w) ∙ (sym (branch-peers (address h x) (address h y) e (address h w)) ∙
          (parallel-comm (address h w) (address h x) ∙ (parallel_iff h l x w bx bw).0 p))),
    )

    to : branch h u ≡ branch h v → HaveSamePeers h u v
    to e w = let g = (branch_address_law h l u v bu bv).0 e in (λ p. moved u v w bu bv g p, λ p. moved v u w bv bu (sym g) p)

    -- peers of one strand are so by their addresses
    told : (strand other third : ℕ) → Begun h strand → Begun h other → Begun h third → (Peers h strand third → Peers h other third) →
        parallel (address h third) (address h strand) ≡ true → parallel (address h third) (address h other) ≡ true
    told x y w bx by bw f p =
        parallel-comm (address h w) (address h y) ∙
        (parallel_iff h l y w by bw).0 (f (bw, (parallel_iff h l x w bx bw).1 (parallel-comm (address h x) (address h w) ∙ p))).1

    from : HaveSamePeers h u v → branch h u ≡ branch h v
    from peers =
        (branch_address_law h l u v bu bv).1
        (peers-branch (HasStrand h) (has_sibling h l) (has_opener h l) (address h u) (address h v) (u, bu, refl) (v, bv, refl) alike)
      where
        alike : (a : Address) → HasStrand h a → parallel a (address h u) ≡ parallel a (address h v)
        alike a (w, bw, e) =
            subst (λ z. parallel z (address h u) ≡ parallel z (address h v)) e
            (same_test (parallel (address h w) (address h u)) (parallel (address h w) (address h v)) (told u v w bu bv bw (peers w).0) (told v u w bv bu bw (peers w).1))

-- a branch, once given, stays
pub branch_stays : {h : History} {e : Event} → Legal (e ∷ h) → (strand : ℕ) → strand < unused h → branch (e ∷ h) strand ≡ branch h strand
branch_stays (then {history = h} {event = split s c n j first} l a) x lt = go (branched h s c n j first x)
  where
    w : Splitting h s c n j first
    w = splitting h s c n j first (ranges l) (holders l) a

    go : Branched h s c n j first x → branch (split s c n j first ∷ h) x ≡ branch h x
    go (branch_child e b) = absurd (omega (arith, e, w.numbers.child_is))
    go (branch_next e b) = absurd (omega (arith, e, w.numbers.next_is))
    go (branch_join e f b) = absurd (elim w.block_is [ inl t ↦ omega (arith, e, t.1) | inr t ↦ true_not_false (sym f ∙ t.0) ])
    go (branch_old nc nn nj b) = b
branch_stays (then {history = h} {event = call s} l a) x lt = calm_branch h (call s) tt x
branch_stays (then {history = h} {event = resumed s} l a) x lt = calm_branch h (resumed s) tt x
branch_stays (then {history = h} {event = same s} l a) x lt = calm_branch h (same s) tt x
branch_stays (then {history = h} {event = joined s j} l a) x lt = calm_branch h (joined s j) tt x
branch_stays (then {history = h} {event = waits s} l a) x lt = calm_branch h (waits s) tt x
branch_stays (then {history = h} {event = ended s} l a) x lt = calm_branch h (ended s) tt x
branch_stays (then {history = h} {event = ended_joined s j} l a) x lt = calm_branch h (ended_joined s j) tt x
branch_stays (then {history = h} {event = finished s} l a) x lt = calm_branch h (finished s) tt x

pub legal_earlier : (later history : History) → Legal (later ++ history) → Legal history
legal_earlier [] h l = l
legal_earlier (e ∷ later) h l = legal_earlier later h (legal_before l)

lasting : (later history : History) → Legal (later ++ history) → (strand : ℕ) → Begun history strand → StaysSame (later ++ history) history strand
lasting [] h l x b = record { begun = b; same_address = refl; same_branch = refl }
lasting (e ∷ later) h l x b =
    let before : Legal (later ++ h) = legal_before l in
    let t = lasting later h before x b in
    let known = begun_below (later ++ h) (ranges before) x t.begun in
    record {
      begun = begun_stays l x t.begun;
      same_address = address_stays l x known ∙ t.same_address;
      same_branch = branch_stays l x known ∙ t.same_branch;
    }

-- what lasts over many events
pub stays_same : (history longer : History) → Extends longer history → Legal longer → (strand : ℕ) → Begun history strand → StaysSame longer history strand
stays_same h longer (later, e) l x b = subst (λ z. StaysSame z h x) e (lasting later h (subst (λ z. Legal z) (sym e) l) x b)

pub legal_part : (history longer : History) → Extends longer history → Legal longer → Legal history
legal_part h longer (later, e) l = legal_earlier later h (subst (λ z. Legal z) (sym e) l)

order_stays : (test : Address → Address → Bool) {a b c d : Address} → a ≡ c → b ≡ d → (test a b ≡ true) ↔ (test c d ≡ true)
order_stays test {a} {b} {c} {d} e f = (λ k. sym (ap (λ z. test z d) e) ∙ (sym (ap (test a) f) ∙ k), λ k. ap (test a) f ∙ (ap (λ z. test z d) e ∙ k))

pub stability_law : StabilityLaw
stability_law h longer ext l u bu = (su, ordered)
  where
    su : StaysSame longer h u
    su = stays_same h longer ext l u bu

    ordered : (other : ℕ) → Begun h other → StayOrdered longer h u other
    ordered v bv =
        let old = legal_part h longer ext l in
        let sv = stays_same h longer ext l v bv in
        record {
          reach = (
            λ r. precedes_reach h old u v bu bv (subst₂ Precedes su.same_address sv.same_address (reach_precedes longer l u v r)),
            λ r. precedes_reach longer l u v su.begun sv.begun (subst₂ Precedes (sym su.same_address) (sym sv.same_address) (reach_precedes h old u v r)),
          );
          english = order_stays english_before su.same_address sv.same_address;
          hebrew = order_stays hebrew_before su.same_address sv.same_address;
        }

pub branch_law : BranchLaw
branch_law h l u v bu bv longer ext ll =
    let su = stays_same h longer ext ll u bu in
    let sv = stays_same h longer ext ll v bv in
    let here = branch_here longer ll u v su.begun sv.begun in
    ((λ e. here.0 (su.same_branch ∙ (e ∙ sym sv.same_branch))), (λ p. sym su.same_branch ∙ (here.1 p ∙ sv.same_branch)))

pub finished_branch_law : FinishedBranchLaw
finished_branch_law h l u v bu bv = (
  ((λ e longer ext ll fin. (branch_law h l u v bu bv longer ext ll).0 e), (λ same_peers. (law_at some).1 (same_peers some.0 some.1 some.2 some.3))),
  ((λ ne longer ext ll fin p. ne ((branch_law h l u v bu bv longer ext ll).1 p)), (λ differ e. differ some.0 some.1 some.2 some.3 ((law_at some).0 e))),
)
  where
    some : (longer : History) × Extends longer h × Legal longer × IsFinished longer
    some = finish_law h l

    law_at : (t : (longer : History) × Extends longer h × Legal longer × IsFinished longer) → (branch h u ≡ branch h v) ↔ HaveSamePeers t.0 u v
    law_at t = branch_law h l u v bu bv t.0 t.1 t.2
