-- Where the strands below the next of a spawn stand: in the spawn's block, or in functions that were called or spawned there, and deeper.
-- g: the block; h: a history; f: the frames of strands; x, y: strands; k: the number of an event; o: that of the entry that led out of the
-- block; in a split, s is the spawner, c its child, n its next and j the join
use Rattle.std.proofs.Common.{◌≡◌, ◌≢◌, ◌⊎◌, inl, inr, ℕ, suc, ◌<◌, ◌≤◌, Bool, true, false, List, [], ◌∷◌, length, Option, Some, None, refl, sym, ap, ◌∙◌, subst, subst₂, arith}
use Rattle.std.specs.List.{All}
use Rattle.std.proofs.lemmas.List.Elements.{All-cons}
use Rattle.std.proofs.lemmas.Bool.{false≢true}
use Rattle.model_strands.specs.Address.{Word, child, next, join, Address}
use Rattle.law_addresses.specs.Address.{IsPrefix}
use Rattle.law_addresses.proofs.Extremes.{contains-head, contains-tail}
use Rattle.model_strands.specs.History.{Event, split, same, joined, waits, call, resumed, ended, ended_joined, finished, History}
use Rattle.model_strands.specs.Strands.{unused}
use Rattle.model_strands.specs.Blocks.{Stack, spawned, called, block, caller, stack, IsSynced}
use Rattle.model_strands.specs.Legal.{Legal, Allowed, open_split, next_split, then, called_return}
use Rattle.model_strands.specs.Addresses.{address}
use Rattle.law_strands.specs.Acts.{strand_of}
use Rattle.law_strands.proofs.Updates.{same_or_not, updated_at, updated_off}
use Rattle.law_strands.proofs.Words.{prefix_refl, prefix_longer, ◌▹◌}
use Rattle.law_strands.proofs.Range.{ranges}
use Rattle.law_strands.proofs.Holders.{Splitting, splitting, holders}
use Rattle.law_strands.proofs.Addresses.{addresses, by_word, Named, named_new, named_old, named, address_kept}
use Rattle.model_histories.specs.Entries.{with_event}
use Rattle.race_pairs.specs.Frames.{behind, with_frame}
use Rattle.race_pairs.specs.Onward.{IsLeast}
use Rattle.race_pairs.proofs.Framed.{split_goes_on, split_child, split_old}
use Rattle.race_pairs.proofs.Straight.{GoesOnTo, goes_on}

-- The stacks after a split.

pub stack_child : (h : History) (s c n j : ℕ) (first : Bool) → Splitting h s c n j first → (y : ℕ) → y ≡ c →
    stack (split s c n j first ∷ h) y ≡ spawned (suc (length h)) j
stack_child h s c n j true w y e =
    updated_off _ j _ y (λ g. w.numbers.join_not_child (sym g ∙ e)) ∙
    (updated_off _ n _ y (omega (arith, w.numbers.child_is, w.numbers.next_is)) ∙ updated_at (stack h) c (spawned (suc (length h)) j) y e)
stack_child h s c n j false w y e =
    updated_off _ n _ y (omega (arith, w.numbers.child_is, w.numbers.next_is)) ∙ updated_at (stack h) c (spawned (suc (length h)) j) y e

pub stack_next : (h : History) (s c n j : ℕ) → Splitting h s c n j true → (y : ℕ) → y ≡ n → stack (split s c n j true ∷ h) y ≡ block j (stack h s)
stack_next h s c n j w y e = updated_off _ j _ y (λ g. w.numbers.join_not_next (sym g ∙ e)) ∙ updated_at _ n (block j (stack h s)) y e

pub stack_goes_on : (h : History) (s c n j : ℕ) (y : ℕ) → y ≡ n → stack (split s c n j false ∷ h) y ≡ stack h s
stack_goes_on h s c n j y e = updated_at _ n (stack h s) y e

stack_join : (h : History) (s c n j : ℕ) (y : ℕ) → y ≡ j → stack (split s c n j true ∷ h) y ≡ stack h s
stack_join h s c n j y e = updated_at _ j (stack h s) y e

stack_old : (h : History) (s c n j : ℕ) (first : Bool) → Allowed h (split s c n j first) → (y : ℕ) → y < unused h →
    stack (split s c n j first ∷ h) y ≡ stack h y
stack_old h s c n j true (open_split run sy ce ne je) y lt =
    updated_off _ j _ y (omega arith) ∙ (updated_off _ n _ y (omega arith) ∙ updated_off _ c _ y (omega arith))
stack_old h s c n j false (next_split run st ce ne) y lt = updated_off _ n _ y (omega arith) ∙ updated_off _ c _ y (omega arith)

-- The block of a spawn.

-- the spawn's number, the frames of its spawner, the join of its block and where that stands, and the address of its next
pub record Home : Type 0 where
  pub number : ℕ
  pub base : List ℕ
  pub join : ℕ
  pub below : Stack
  pub start : Address

-- frames and stack of what an entry led to out of the block: a function that was called or spawned there, its blocks, and what they call or
-- spawn; no child leads to the address of what may return into the block
pub data Deep (g : Home) (o : ℕ) (a : Address) : List ℕ → Stack → Type 0 where
  called_out : {number : ℕ} → GoesOnTo g.start a → Deep g o a (o ∷ g.base) (called number (block g.join g.below))
  spawned_out : {numbers : List ℕ} {number its_join : ℕ} → IsLeast g.number numbers (Some o) → Deep g o a numbers (spawned number its_join)
  opened : {numbers : List ℕ} {its_join : ℕ} {inner : Stack} → Deep g o a numbers inner → Deep g o a numbers (block its_join inner)
  called_on : {numbers : List ℕ} {k number : ℕ} {inner : Stack} → o ≤ k → Deep g o a numbers inner → Deep g o a (k ∷ numbers) (called number inner)

deep_on : (g : Home) (o : ℕ) (a b : Address) → (GoesOnTo g.start a → GoesOnTo g.start b) → (numbers : List ℕ) (st : Stack) → Deep g o a numbers st →
    Deep g o b numbers st
deep_on g o a b on numbers st (called_out t) = called_out (on t)
deep_on g o a b on numbers st (spawned_out least) = spawned_out least
deep_on g o a b on numbers st (opened {inner = inner} d) = opened (deep_on g o a b on numbers inner d)
deep_on g o a b on numbers st (called_on {numbers = rest} {inner = inner} le d) = called_on le (deep_on g o a b on rest inner d)

-- the strand stands in the block, or an entry led out of it
pub data Way (g : Home) (h : History) (f : ℕ → List ℕ) (P : ℕ → ℕ → Type 0) (x : ℕ) : Type 0 where
  at_home : f x ≡ g.base → stack h x ≡ block g.join g.below → GoesOnTo g.start (address h x) → Way g h f P x
  away : (o : ℕ) → P o x → Deep g o (address h x) (f x) (stack h x) → Way g h f P x

-- no frame of the spawner is later than the spawn
abbrev pub IsLow : Home → Type 0
IsLow g = All (λ number. number ≤ g.number) g.base

least_first : (g : Home) → IsLow g → (o : ℕ) → g.number < o → IsLeast g.number (o ∷ g.base) (Some o)
least_first g low o late = (
  contains-head o g.base,
  late,
  All-cons (λ (n : ℕ). g.number < n → o ≤ n) o g.base (λ above. omega arith) (λ i d within above. absurd (let le = low i d within in omega arith)),
)

least_more : (bound o k : ℕ) → o ≤ k → (numbers : List ℕ) → IsLeast bound numbers (Some o) → IsLeast bound (k ∷ numbers) (Some o)
least_more bound o k le numbers least = (
  contains-tail k o numbers least.0,
  least.1,
  All-cons (λ (n : ℕ). bound < n → o ≤ n) k numbers (λ above. le) least.2,
)

pub least_deep : (g : Home) → IsLow g → (o : ℕ) → g.number < o → (a : Address) (numbers : List ℕ) (st : Stack) → Deep g o a numbers st →
    IsLeast g.number numbers (Some o)
least_deep g low o late a numbers st (called_out t) = least_first g low o late
least_deep g low o late a numbers st (spawned_out least) = least
least_deep g low o late a numbers st (opened {inner = inner} d) = least_deep g low o late a numbers inner d
least_deep g low o late a numbers st (called_on {numbers = rest} {k = k} {inner = inner} le d) =
    least_more g.number o k le rest (least_deep g low o late a rest inner d)

-- a return leads back into the block, or to what was led to before
returned : (g : Home) (o : ℕ) (a : Address) (numbers : List ℕ) (st : Stack) → Deep g o a numbers st → (number : ℕ) (under : Stack) →
    st ≡ called number under → ((behind numbers ≡ g.base) × (under ≡ block g.join g.below) × GoesOnTo g.start a) ⊎ Deep g o a (behind numbers) under
returned g o a numbers st (called_out t) number under e = inl (refl, cc, t)
returned g o a numbers st (spawned_out least) number under e = absurd (cc)
returned g o a numbers st (opened d) number under e = absurd (cc)
returned g o a numbers st (called_on {numbers = rest} {inner = inner} le d) number under e =
    let same_stack : inner ≡ under = cc in inr (subst (Deep g o a rest) same_stack d)

-- One event more.

-- the event is by the strand
abbrev pub IsBy : Option Event → ℕ → Type 0
IsBy None strand = ⊥
IsBy (Some event) strand = strand_of event ≡ strand

block_not_called : {j number : ℕ} {below under : Stack} → block j below ≡ called number under → ⊥
block_not_called e = cc

prefix_one : (a b : Address) (w : Word) → b ≡ a ▹ w → IsPrefix a b
prefix_one a b w e = (w ∷ [], e)

-- what is known of the event, and of what the entries before it and with it say of the entry that led out of the block
pub record Step (g : Home) (h : History) (event : Option Event) (k : ℕ) (f : ℕ → List ℕ) (P Q : ℕ → ℕ → Type 0) : Type 0 where
  pub legal : Legal (with_event event h)
  pub low : IsLow g
  pub late : g.number < k
  pub strand : ℕ
  pub strand_known : strand < unused h
  pub strand_at : address h strand ≡ g.start
  pub between : (o x : ℕ) → P o x → (g.number < o) × (o < k)
  pub more : (o x y : ℕ) → P o x → x < unused h → IsPrefix (address h x) (address (with_event event h) y) → Q o y
  pub new : (x y : ℕ) → IsBy event x → f x ≡ g.base → stack h x ≡ block g.join g.below → x < unused h → GoesOnTo g.start (address h x) →
      IsPrefix (address h x) (address (with_event event h) y) → Q k y
  pub ways : (x : ℕ) → x < unused h → IsPrefix g.start (address h x) → Way g h f P x

kept : (g : Home) (h h' : History) (f f' : ℕ → List ℕ) (P Q : ℕ → ℕ → Type 0) (y : ℕ) → ((o : ℕ) → P o y → Q o y) → address h' y ≡ address h y →
    f' y ≡ f y → stack h' y ≡ stack h y → Way g h f P y → Way g h' f' Q y
kept g h h' f f' P Q y up at ef es (at_home a b t) = at_home (ef ∙ a) (es ∙ b) (subst (GoesOnTo g.start) (sym at) t)
kept g h h' f f' P Q y up at ef es (away o p d) =
    away o (up o p) (subst₂ (Deep g o (address h' y)) (sym ef) (sym es)
    (subst (λ (a : Address). Deep g o a (f y) (stack h y)) (sym at) d))

-- an event that leaves all frames and stacks
still : (g : Home) (h : History) (event : Option Event) (k : ℕ) (f : ℕ → List ℕ) (P Q : ℕ → ℕ → Type 0) → Step g h event k f P Q → (y : ℕ) → y < unused h →
    address (with_event event h) y ≡ address h y → with_frame event k f y ≡ f y → stack (with_event event h) y ≡ stack h y →
    IsPrefix g.start (address (with_event event h) y) → Way g (with_event event h) (with_frame event k f) Q y
still g h event k f P Q w y lt at ef es p =
    kept g h (with_event event h) f (with_frame event k f) P Q y
    (λ o q. w.more o y y q lt (subst (IsPrefix (address h y)) (sym at) (prefix_refl (address h y)))) at ef es
    (w.ways y lt (subst (IsPrefix g.start) at p))

way_call : (g : Home) (h : History) (s k : ℕ) (f : ℕ → List ℕ) (P Q : ℕ → ℕ → Type 0) → Step g h (Some (call s)) k f P Q → (y : ℕ) → y < unused h →
    IsPrefix g.start (address h y) → Way g (call s ∷ h) (with_frame (Some (call s)) k f) Q y
way_call g h s k f P Q w y lt p = go (same_or_not y s)
  where
    deeper : y ≡ s → Way g h f P y → Way g (call s ∷ h) (with_frame (Some (call s)) k f) Q y
    deeper e was = by was
      where
        frames_are : with_frame (Some (call s)) k f y ≡ k ∷ f y
        frames_are = updated_at f s (k ∷ f s) y e ∙ ap (λ (z : ℕ). k ∷ f z) (sym e)

        stack_is : stack (call s ∷ h) y ≡ called (suc (length h)) (stack h y)
        stack_is = updated_at (stack h) s (called (suc (length h)) (stack h s)) y e ∙ ap (λ (z : ℕ). called (suc (length h)) (stack h z)) (sym e)

        by : Way g h f P y → Way g (call s ∷ h) (with_frame (Some (call s)) k f) Q y
        by (at_home a b t) =
            away k (w.new y y (sym e) a b lt t (prefix_refl (address h y)))
            (subst₂ (Deep g k (address h y)) (sym (frames_are ∙ ap (λ (z : List ℕ). k ∷ z) a)) (sym (stack_is ∙ ap (called (suc (length h))) b)) (called_out t))
        by (away o q d) =
            let le = (w.between o y q).1 in
            away o (w.more o y y q lt (prefix_refl (address h y)))
            (subst₂ (Deep g o (address h y)) (sym frames_are) (sym stack_is) (called_on (omega (arith, le)) d))

    go : (y ≡ s) ⊎ (y ≢ s) → Way g (call s ∷ h) (with_frame (Some (call s)) k f) Q y
    go (inl e) = deeper e (w.ways y lt p)
    go (inr ne) =
        still g h (Some (call s)) k f P Q w y lt refl (updated_off f s (k ∷ f s) y ne)
        (updated_off (stack h) s (called (suc (length h)) (stack h s)) y ne) p

way_return : (g : Home) (h : History) (s k : ℕ) (f : ℕ → List ℕ) (P Q : ℕ → ℕ → Type 0) → Step g h (Some (resumed s)) k f P Q → Allowed h (resumed s) →
    (y : ℕ) → y < unused h → IsPrefix g.start (address h y) → Way g (resumed s ∷ h) (with_frame (Some (resumed s)) k f) Q y
way_return g h s k f P Q w (called_return {number = number} {below = under} run st) y lt p = go (same_or_not y s)
  where
    back : y ≡ s → Way g h f P y → Way g (resumed s ∷ h) (with_frame (Some (resumed s)) k f) Q y
    back e was = by was
      where
        own : stack h y ≡ called number under
        own = ap (stack h) e ∙ st

        frames_are : with_frame (Some (resumed s)) k f y ≡ behind (f y)
        frames_are = updated_at f s (behind (f s)) y e ∙ ap (λ (z : ℕ). behind (f z)) (sym e)

        stack_is : stack (resumed s ∷ h) y ≡ under
        stack_is = updated_at (stack h) s (caller (stack h s)) y e ∙ ap caller st

        by : Way g h f P y → Way g (resumed s ∷ h) (with_frame (Some (resumed s)) k f) Q y
        by (at_home a b t) = absurd (block_not_called (sym b ∙ own))
        by (away o q d) = elim (returned g o (address h y) (f y) (stack h y) d number under own) [
          | inl t ↦ at_home (frames_are ∙ t.0) (stack_is ∙ t.1) t.2
          | inr t ↦ away o (w.more o y y q lt (prefix_refl (address h y))) (subst₂ (Deep g o (address h y)) (sym frames_are) (sym stack_is) t)
        ]

    go : (y ≡ s) ⊎ (y ≢ s) → Way g (resumed s ∷ h) (with_frame (Some (resumed s)) k f) Q y
    go (inl e) = back e (w.ways y lt p)
    go (inr ne) =
        still g h (Some (resumed s)) k f P Q w y lt refl (updated_off f s (behind (f s)) y ne)
        (updated_off (stack h) s (caller (stack h s)) y ne) p

-- what a split makes of the way of its spawner
way_child : (g : Home) (h : History) (s c n j k : ℕ) (first : Bool) (f : ℕ → List ℕ) (P Q : ℕ → ℕ → Type 0) →
    Step g h (Some (split s c n j first)) k f P Q → Splitting h s c n j first → (y : ℕ) → y ≡ c →
    IsPrefix (address h s) (address (split s c n j first ∷ h) y) → Way g h f P s →
    Way g (split s c n j first ∷ h) (with_frame (Some (split s c n j first)) k f) Q y
way_child g h s c n j k first f P Q w made y e up was = by was
  where
    frames_are : with_frame (Some (split s c n j first)) k f y ≡ k ∷ f s
    frames_are =
        split_child first s c n j y (λ _ g'. made.numbers.join_not_child (sym g' ∙ e)) (omega (arith, e, made.numbers.child_is, made.numbers.next_is)) e k f

    out : (o : ℕ) → IsLeast g.number (k ∷ f s) (Some o) →
        Deep g o (address (split s c n j first ∷ h) y) (with_frame (Some (split s c n j first)) k f y) (stack (split s c n j first ∷ h) y)
    out o least =
        subst₂ (Deep g o (address (split s c n j first ∷ h) y)) (sym frames_are) (sym (stack_child h s c n j first made y e)) (spawned_out least)

    by : Way g h f P s → Way g (split s c n j first ∷ h) (with_frame (Some (split s c n j first)) k f) Q y
    by (at_home a b t) =
        away k (w.new s y refl a b made.numbers.spawner_known t up)
        (out k (subst (λ (z : List ℕ). IsLeast g.number (k ∷ z) (Some k)) (sym a) (least_first g w.low k w.late)))
    by (away o q d) =
        let sides = w.between o s q in
        away o (w.more o s y q made.numbers.spawner_known up)
        (out o (least_more g.number o k (omega (arith, sides.1)) (f s) (least_deep g w.low o sides.0 (address h s) (f s) (stack h s) d)))

way_next : (g : Home) (h : History) (s c n j k : ℕ) (first : Bool) (f : ℕ → List ℕ) (P Q : ℕ → ℕ → Type 0) →
    Step g h (Some (split s c n j first)) k f P Q → Allowed h (split s c n j first) → Splitting h s c n j first → (y : ℕ) → y ≡ n →
    address (split s c n j first ∷ h) y ≡ address h s ▹ next → Way g h f P s →
    Way g (split s c n j first ∷ h) (with_frame (Some (split s c n j first)) k f) Q y
way_next g h s c n j k true f P Q w (open_split run sy ce ne je) made y e at (at_home a b t) = absurd (subst IsSynced b sy)
way_next g h s c n j k true f P Q w (open_split run sy ce ne je) made y e at (away o q d) =
    away o (w.more o s y q made.numbers.spawner_known (prefix_one (address h s) (address (split s c n j true ∷ h) y) next at))
    (subst₂ (Deep g o (address (split s c n j true ∷ h) y)) (sym (split_goes_on true s c n j y (inr e) k f)) (sym (stack_next h s c n j made y e))
    (opened (deep_on g o (address h s) (address (split s c n j true ∷ h) y)
    (goes_on g.start (address h s) (address (split s c n j true ∷ h) y) next tt at) (f s) (stack h s) d)))
way_next g h s c n j k false f P Q w a made y e at (at_home b d t) =
    at_home (split_goes_on false s c n j y (inr e) k f ∙ b) (stack_goes_on h s c n j y e ∙ d)
    (goes_on g.start (address h s) (address (split s c n j false ∷ h) y) next tt at t)
way_next g h s c n j k false f P Q w a made y e at (away o q d) =
    away o (w.more o s y q made.numbers.spawner_known (prefix_one (address h s) (address (split s c n j false ∷ h) y) next at))
    (subst₂ (Deep g o (address (split s c n j false ∷ h) y)) (sym (split_goes_on false s c n j y (inr e) k f)) (sym (stack_goes_on h s c n j y e))
    (deep_on g o (address h s) (address (split s c n j false ∷ h) y)
    (goes_on g.start (address h s) (address (split s c n j false ∷ h) y) next tt at) (f s) (stack h s) d))

way_join : (g : Home) (h : History) (s c n j k : ℕ) (first : Bool) (f : ℕ → List ℕ) (P Q : ℕ → ℕ → Type 0) →
    Step g h (Some (split s c n j first)) k f P Q → Allowed h (split s c n j first) → Splitting h s c n j first → first ≡ true → (y : ℕ) → y ≡ j →
    address (split s c n j first ∷ h) y ≡ address h s ▹ join → Way g h f P s →
    Way g (split s c n j first ∷ h) (with_frame (Some (split s c n j first)) k f) Q y
way_join g h s c n j k false f P Q w a made is y e at was = absurd (false≢true is)
way_join g h s c n j k true f P Q w (open_split run sy ce ne je) made is y e at (at_home a b t) = absurd (subst IsSynced b sy)
way_join g h s c n j k true f P Q w (open_split run sy ce ne je) made is y e at (away o q d) =
    away o (w.more o s y q made.numbers.spawner_known (prefix_one (address h s) (address (split s c n j true ∷ h) y) join at))
    (subst₂ (Deep g o (address (split s c n j true ∷ h) y)) (sym (split_goes_on true s c n j y (inl (refl, e)) k f)) (sym (stack_join h s c n j y e))
    (deep_on g o (address h s) (address (split s c n j true ∷ h) y)
    (goes_on g.start (address h s) (address (split s c n j true ∷ h) y) join tt at) (f s) (stack h s) d))

fresh : (h : History) (s c n j : ℕ) (first : Bool) → Splitting h s c n j first → (word : Word) → (word ≡ join → first ≡ true) → unused h ≤ by_word c n j word
fresh h s c n j first made child is = omega (arith, made.numbers.child_is)
fresh h s c n j first made next is = omega (arith, made.numbers.next_is)
fresh h s c n j first made join is = elim made.block_is [ inl t ↦ t.1 | inr t ↦ absurd (false≢true (sym t.0 ∙ is refl)) ]

way_split : (g : Home) (h : History) (s c n j k : ℕ) (first : Bool) (f : ℕ → List ℕ) (P Q : ℕ → ℕ → Type 0) →
    Step g h (Some (split s c n j first)) k f P Q → Legal h → Allowed h (split s c n j first) → (y : ℕ) → y < unused (split s c n j first ∷ h) →
    IsPrefix g.start (address (split s c n j first ∷ h) y) → Way g (split s c n j first ∷ h) (with_frame (Some (split s c n j first)) k f) Q y
way_split g h s c n j k first f P Q w l a y lt p = go (named h s c n j first made y lt)
  where
    made : Splitting h s c n j first
    made = splitting h s c n j first (ranges l) (holders l) a

    -- the strand at the start is none of those that the split makes
    not_start : (word : Word) → y ≡ by_word c n j word → (word ≡ join → first ≡ true) → address (split s c n j first ∷ h) y ≡ address h s ▹ word →
        g.start ≡ address h s ▹ word → ⊥
    not_start word e is at here =
        let new = fresh h s c n j first made word is in
        let known = w.strand_known in
        let same_strand : w.strand ≡ y = (addresses (then l a)).distinct w.strand y
        (let grows = made.numbers.grows in omega (arith, known, grows)) lt
        (address_kept h s c n j first made w.strand w.strand_known ∙ (w.strand_at ∙ (here ∙ sym at))) in
        omega (arith, new, known, same_strand, e)

    born : (word : Word) → y ≡ by_word c n j word → (word ≡ join → first ≡ true) → address (split s c n j first ∷ h) y ≡ address h s ▹ word →
        Way g h f P s → Way g (split s c n j first ∷ h) (with_frame (Some (split s c n j first)) k f) Q y
    born child e is at was = way_child g h s c n j k first f P Q w made y e (prefix_one (address h s) (address (split s c n j first ∷ h) y) child at) was
    born next e is at was = way_next g h s c n j k first f P Q w a made y e at was
    born join e is at was = way_join g h s c n j k first f P Q w a made (is refl) y e at was

    go : Named h s c n j first y → Way g (split s c n j first ∷ h) (with_frame (Some (split s c n j first)) k f) Q y
    go (named_old ly at b q) =
        still g h (Some (split s c n j first)) k f P Q w y ly at (split_old h s c n j k first f a y ly) (stack_old h s c n j first a y ly) p
    go (named_new word e is at) = elim (prefix_longer g.start (address h s) word (subst (IsPrefix g.start) at p)) [
      | inl q ↦ born word e is at (w.ways s made.numbers.spawner_known q)
      | inr here ↦ absurd (not_start word e is at here)
    ]

-- each strand below the next still stands in the block, or an entry led out of it
pub way_with : (g : Home) (h : History) (event : Option Event) (k : ℕ) (f : ℕ → List ℕ) (P Q : ℕ → ℕ → Type 0) → Step g h event k f P Q →
    Legal (with_event event h) → (y : ℕ) → y < unused (with_event event h) → IsPrefix g.start (address (with_event event h) y) →
    Way g (with_event event h) (with_frame event k f) Q y
way_with g h (Some (split s c n j first)) k f P Q w (then l a) y lt p = way_split g h s c n j k first f P Q w l a y lt p
way_with g h (Some (call s)) k f P Q w l y lt p = way_call g h s k f P Q w y lt p
way_with g h (Some (resumed s)) k f P Q w (then l a) y lt p = way_return g h s k f P Q w a y lt p
way_with g h (Some (same s)) k f P Q w l y lt p = still g h (Some (same s)) k f P Q w y lt refl refl refl p
way_with g h (Some (joined s j)) k f P Q w l y lt p = still g h (Some (joined s j)) k f P Q w y lt refl refl refl p
way_with g h (Some (waits s)) k f P Q w l y lt p = still g h (Some (waits s)) k f P Q w y lt refl refl refl p
way_with g h (Some (ended s)) k f P Q w l y lt p = still g h (Some (ended s)) k f P Q w y lt refl refl refl p
way_with g h (Some (ended_joined s j)) k f P Q w l y lt p = still g h (Some (ended_joined s j)) k f P Q w y lt refl refl refl p
way_with g h (Some (finished s)) k f P Q w l y lt p = still g h (Some (finished s)) k f P Q w y lt refl refl refl p
way_with g h None k f P Q w l y lt p = still g h None k f P Q w y lt refl refl refl p
