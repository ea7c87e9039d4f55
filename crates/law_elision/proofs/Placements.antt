-- Where the entries of a legal history stand.
-- h: a history; x, y: strands where they are numbers, and else placed entries; f: a frame; b: a Boolean; in a split, s is the spawner, c
-- its child, n its next and j the join
use Rattle.std.proofs.Common.{◌≡◌, ◌≢◌, ◌⊎◌, inl, inr, ℕ, suc, ◌<◌, ◌≤◌, Bool, true, false, Option, Some, None, List, [], ◌∷◌, ◌++◌, length, map, AllPairs, refl, sym, ap, ◌∙◌, subst, arith}
use Rattle.std.specs.Prelude.{◌==◌, MatchOption, if◌then◌else◌}
use Rattle.std.proofs.lemmas.Bool.{eqb-true, eq-eqb}
use Rattle.std.proofs.lemmas.List.{map-append, append-nil}
use Rattle.law_addresses.specs.Address.{IsPrefix, reaches}
use Rattle.model_strands.specs.Address.{child, next}
use Rattle.law_addresses.proofs.Sorted.{pairs-nil}
use Rattle.model_accesses.specs.declared.request.Act.{Act}
use Rattle.model_accesses.specs.declared.request.Act.TheVariants.{Spawn, Sync, Call, Return}
use Rattle.model_strands.specs.History.{Event, split, same, joined, waits, call, resumed, ended, ended_joined, finished, History}
use Rattle.model_strands.specs.Strands.{Running, Begun}
use Rattle.model_strands.specs.Legal.{Allowed, Legal, then as grown}
use Rattle.model_strands.specs.Dag.{Reaches}
use Rattle.model_strands.specs.Addresses.{address}
use Rattle.law_strands.proofs.Updates.{updated_at}
use Rattle.law_strands.proofs.Range.{ranges, numbered, next_seen}
use Rattle.law_strands.proofs.Sides.{origin}
use Rattle.law_strands.proofs.Words.{◌▹◌}
use Rattle.law_strands.proofs.Law.{begun_below, reach_precedes}
use Rattle.law_strands.proofs.Kept.{begun_stays, reach_stays, address_stays}
use Rattle.law_strands.proofs.Sinks.{running_sink}
use Rattle.law_strands.proofs.Members.{Present, present_append, pairs_push}
use Rattle.model_histories.specs.declared.answer.Answer.{Answer}
use Rattle.model_histories.specs.declared.answer.Answer.TheVariants.{Split, Same, Joined, Waits, Resumed, Ended, EndedJoined, Finished}
use Rattle.model_histories.specs.declared.answer.Entry.{Entry}
use Rattle.model_histories.specs.Entries.{Entries, event_between, event_of, with_event, control_part}
use Rattle.model_histories.specs.Shapes.{Shape}
use Rattle.model_histories.specs.Legal.{IsLegal, Belongs}
use Rattle.race_gate.proofs.Races.{legal-part}
use Rattle.model_programs.specs.Exchanges.{Exchange}
use Rattle.model_runs.specs.Frames.{IsSplit, frame_in, next_frame, Targets, exchange_of, said_by}
use Rattle.law_elision.specs.Placed.{Placed, placed_at, IsPlaced, own}
use Rattle.law_elision.proofs.Frames.{frame, frame_stays, frame_bound, frame_same, framed_by, tips, rooted, origin_stays}

-- one more event, if there is one

begun_with : (found : Option Event) {h : History} → Legal h → MatchOption found (Unit {0}) (Allowed h) → (x : ℕ) → Begun h x → Begun (with_event found h) x
begun_with None l a x b = b
begun_with (Some e) l a x b = begun_stays (grown l a) x b

frame_with : (found : Option Event) {h : History} → Legal h → MatchOption found (Unit {0}) (Allowed h) → (x : ℕ) → Begun h x → frame (with_event found h) x ≡ frame h x
frame_with None l a x b = refl
frame_with (Some e) {h} l a x b = frame_stays (grown l a) x (begun_below h (ranges l) x b)

pub address_with : (found : Option Event) {h : History} → Legal h → MatchOption found (Unit {0}) (Allowed h) → (x : ℕ) → Begun h x → address (with_event found h) x ≡ address h x
address_with None l a x b = refl
address_with (Some e) {h} l a x b = address_stays (grown l a) x (begun_below h (ranges l) x b)

reach_with : (found : Option Event) {h : History} → Legal h → MatchOption found (Unit {0}) (Allowed h) → (x y : ℕ) → Begun h x → Begun h y → Reaches h x y →
    Reaches (with_event found h) x y
reach_with None l a x y bx by r = r
reach_with (Some e) {h} l a x y bx by r = (reach_stays h e (grown l a) x y bx by).1 r

origin_with : (found : Option Event) (h : History) (number : ℕ) → number ≤ length h → origin (with_event found h) number ≡ origin h number
origin_with None h m le = refl
origin_with (Some e) h m le = origin_stays h e m le

length_with : (found : Option Event) (h : History) → length h ≤ length (with_event found h)
length_with None h = omega arith
length_with (Some e) h = omega arith

-- a split is an event
pub record SplitEntry (entry : Entry) : Type 0 where
  pub the_child : ℕ
  pub the_next : ℕ
  pub the_join : ℕ
  pub first : Bool
  pub is : event_of entry ≡ Some (split entry.request.strand the_child the_next the_join first)

split_between : (strand : ℕ) (act : Act) (answer : Answer) → Belongs act answer → IsSplit answer →
    (c : ℕ) × (n : ℕ) × (j : ℕ) × (first : Bool) × (event_between strand act answer ≡ Some (split strand c n j first))
split_between s Spawn (Split t) b k = (t.child, t.next, t.join, t.first, refl)
split_between s Act.Sync (Split t) b k = absurd b
split_between s Act.Call (Split t) b k = absurd b
split_between s Act.Return (Split t) b k = absurd b
split_between s (Act.Read x) (Split t) b k = absurd b
split_between s (Act.Write x v) (Split t) b k = absurd b
split_between s (Act.Bump x v) (Split t) b k = absurd b
split_between s (Act.Update x v) (Split t) b k = absurd b
split_between s (Act.Put x v) (Split t) b k = absurd b
split_between s (Act.Get x) (Split t) b k = absurd b
split_between s act _ b k = absurd k

pub split_entry : (entry : Entry) → Belongs entry.request.act entry.answer → IsSplit entry.answer → SplitEntry entry
split_entry entry b k =
    let t = split_between entry.request.strand entry.request.act entry.answer b k in
    record { the_child = t.0; the_next = t.1; the_join = t.2; first = t.3; is = t.4 }

-- numbers

pub placed_number : (entries : Entries) (x : Placed) → IsPlaced entries x → x.number ≤ length entries
placed_number [] x p = absurd p
placed_number (entry ∷ entries) x (inl e) = let k : x.number ≡ suc (length entries) = ap (λ y. y.number) e in omega arith
placed_number (entry ∷ entries) x (inr p) = let k = placed_number entries x p in omega (arith, k)

pub number_unique : (entries : Entries) (x y : Placed) → IsPlaced entries x → IsPlaced entries y → x.number ≡ y.number → x ≡ y
number_unique [] x y p q e = absurd p
number_unique (entry ∷ entries) x y (inl p) (inl q) e = p ∙ sym q
number_unique (entry ∷ entries) x y (inl p) (inr q) e =
    let k : x.number ≡ suc (length entries) = ap (λ z. z.number) p in absurd (omega (arith, placed_number entries y q, e, k))
number_unique (entry ∷ entries) x y (inr p) (inl q) e =
    let k : y.number ≡ suc (length entries) = ap (λ z. z.number) q in absurd (omega (arith, placed_number entries x p, e, k))
number_unique (entry ∷ entries) x y (inr p) (inr q) e = number_unique entries x y p q e

-- the entries of a frame

one_if : (b : Bool) (x y : Placed) → Present y (if b then x ∷ [] else []) → (b ≡ true) × (x ≡ y)
one_if true x y (inl e) = (refl, e)
one_if true x y (inr p) = absurd p
one_if false x y p = absurd p

pub own_placed : (entries : Entries) (f : ℕ) (x : Placed) → Present x (own entries f) → IsPlaced entries x × (x.frame ≡ f)
own_placed [] f x p = absurd p
own_placed (entry ∷ entries) f x p =
    elim ((present_append (own entries f) (if frame_in entries entry.request.strand == f then placed_at entries entry ∷ [] else []) x).0 p) [
      | inl q ↦ (let t = own_placed entries f x q in (inr t.0, t.1))
      | inr q ↦ (let t = one_if (frame_in entries entry.request.strand == f) (placed_at entries entry) x q in
          (inl (sym t.1), ap (λ y. y.frame) (sym t.1) ∙ eqb-true (frame_in entries entry.request.strand) f t.0))
    ]

pub placed_own : (entries : Entries) (x : Placed) → IsPlaced entries x → Present x (own entries x.frame)
placed_own [] x p = absurd p
placed_own (entry ∷ entries) x (inr p) =
    (present_append (own entries x.frame) (if frame_in entries entry.request.strand == x.frame then placed_at entries entry ∷ [] else []) x).1 (inl (placed_own entries x p))
placed_own (entry ∷ entries) x (inl e) =
    let k : (frame_in entries entry.request.strand == x.frame) ≡ true = eq-eqb (frame_in entries entry.request.strand) x.frame (sym (ap (λ y. y.frame) e)) in
    (present_append (own entries x.frame) (if frame_in entries entry.request.strand == x.frame then placed_at entries entry ∷ [] else []) x).1
    (inr (subst (λ b. Present x (if b then placed_at entries entry ∷ [] else [])) (sym k) (inl (sym e))))

push_if : (R : Placed → Placed → Type 0) (xs : List Placed) (b : Bool) (y : Placed) → AllPairs R xs → ((x : Placed) → Present x xs → R x y) →
    AllPairs R (xs ++ (if b then y ∷ [] else []))
push_if R xs true y k g = pairs_push R xs y k g
push_if R xs false y k g = subst (AllPairs R) (sym (append-nil xs)) k

pub own_sorted : (entries : Entries) (f : ℕ) → AllPairs (λ x y. x.number < y.number) (own entries f)
own_sorted [] f = pairs-nil (λ x y. x.number < y.number)
own_sorted (entry ∷ entries) f =
    push_if (λ x y. x.number < y.number) (own entries f) (frame_in entries entry.request.strand == f) (placed_at entries entry) (own_sorted entries f)
    (λ x p. let k = placed_number entries x (own_placed entries f x p).0 in omega (arith, k))

-- what a frame said is what its entries are
abbrev pub exchange_at : Targets → Placed → Exchange
exchange_at targets x = exchange_of targets x.begins x.entry

map_if : (targets : Targets) (b : Bool) (x : Placed) → map (exchange_at targets) (if b then x ∷ [] else []) ≡ (if b then exchange_at targets x ∷ [] else [])
map_if targets true x = refl
map_if targets false x = refl

pub said_own : (targets : Targets) (entries : Entries) (f : ℕ) → said_by targets entries f ≡ map (exchange_at targets) (own entries f)
said_own targets [] f = refl
said_own targets (entry ∷ entries) f =
    let b = frame_in entries entry.request.strand == f in
    ap (λ l. l ++ (if b then exchange_at targets (placed_at entries entry) ∷ [] else [])) (said_own targets entries f) ∙
    ap (λ l. map (exchange_at targets) (own entries f) ++ l) (sym (map_if targets b (placed_at entries entry))) ∙
    sym (map-append (exchange_at targets) (own entries f) (if b then placed_at entries entry ∷ [] else []))

module _ (shape : Shape) where
  -- strands

  pub strand_begun : (entries : Entries) → IsLegal shape entries → (x : Placed) → IsPlaced entries x → Begun (control_part entries) x.entry.request.strand
  strand_begun [] l x p = absurd p
  strand_begun (entry ∷ entries) l x (inl e) =
      begun_with (event_of entry) (legal-part shape entries l.0) l.1.allowed x.entry.request.strand
      (inl (subst (λ y. Running (control_part entries) y.entry.request.strand) (sym e) l.1.runs))
  strand_begun (entry ∷ entries) l x (inr p) =
      begun_with (event_of entry) (legal-part shape entries l.0) l.1.allowed x.entry.request.strand (strand_begun entries l.0 x p)

  pub strand_frame : (entries : Entries) → IsLegal shape entries → (x : Placed) → IsPlaced entries x → frame (control_part entries) x.entry.request.strand ≡ x.frame
  strand_frame [] l x p = absurd p
  strand_frame (entry ∷ entries) l x (inl e) =
      frame_with (event_of entry) (legal-part shape entries l.0) l.1.allowed x.entry.request.strand
      (inl (subst (λ y. Running (control_part entries) y.entry.request.strand) (sym e) l.1.runs)) ∙
      ap (λ y. frame (control_part entries) y.entry.request.strand) e ∙ sym (ap (λ y. y.frame) e)
  strand_frame (entry ∷ entries) l x (inr p) =
      frame_with (event_of entry) (legal-part shape entries l.0) l.1.allowed x.entry.request.strand (strand_begun entries l.0 x p) ∙ strand_frame entries l.0 x p

  -- in one frame an earlier entry's strand reaches a later one's
  pub frame_reaches : (entries : Entries) → IsLegal shape entries → (x y : Placed) → IsPlaced entries x → IsPlaced entries y → x.frame ≡ y.frame →
      x.number < y.number → Reaches (control_part entries) x.entry.request.strand y.entry.request.strand
  frame_reaches [] l x y p q e lt = absurd p
  frame_reaches (entry ∷ entries) l x y (inl p) q e lt =
      let k : x.number ≡ suc (length entries) = ap (λ z. z.number) p in
      absurd (omega (arith, placed_number (entry ∷ entries) y q, k, lt))
  frame_reaches (entry ∷ entries) l x y (inr p) (inr q) e lt =
      reach_with (event_of entry) (legal-part shape entries l.0) l.1.allowed x.entry.request.strand y.entry.request.strand (strand_begun entries l.0 x p)
      (strand_begun entries l.0 y q) (frame_reaches entries l.0 x y p q e lt)
  frame_reaches (entry ∷ entries) l x y (inr p) (inl q) e lt =
      let h = control_part entries in
      let legal = legal-part shape entries l.0 in
      let run = subst (λ z. Running h z.entry.request.strand) (sym q) l.1.runs in
      let same_frame : frame h x.entry.request.strand ≡ frame h y.entry.request.strand =
      strand_frame entries l.0 x p ∙ e ∙ ap (λ z. z.frame) q ∙ sym (ap (λ z. frame h z.entry.request.strand) q) in
      let b = strand_begun entries l.0 x p in
      reach_with (event_of entry) legal l.1.allowed x.entry.request.strand y.entry.request.strand b (inl run)
      (tips legal x.entry.request.strand y.entry.request.strand b (running_sink h legal y.entry.request.strand run) same_frame)

  -- what goes on beside the child of a split
  pub record Beside (entries : Entries) (x : Placed) : Type 0 where
    pub strand : ℕ
    pub begun : Begun (control_part entries) strand
    pub address_is : address (control_part entries) strand ≡ address (control_part entries) x.entry.request.strand ▹ next
    pub frame_is : frame (control_part entries) strand ≡ x.frame

  beside_with : (found : Option Event) {h : History} → Legal h → MatchOption found (Unit {0}) (Allowed h) → (s c n j : ℕ) (first : Bool) →
      found ≡ Some (split s c n j first) →
      Begun (with_event found h) n × (address (with_event found h) n ≡ address (with_event found h) s ▹ next) × (frame (with_event found h) n ≡ frame h s)
  beside_with None l a s c n j first e = absurd (cc)
  beside_with (Some event) {h} l a s c n j first e = go event a some
    where
      some : event ≡ split s c n j first
      some = cc

      go : (event : Event) → Allowed h event → event ≡ split s c n j first →
          Begun (event ∷ h) n × (address (event ∷ h) n ≡ address (event ∷ h) s ▹ next) × (frame (event ∷ h) n ≡ frame h s)
      go event a e =
          let a' : Allowed h (split s c n j first) = subst (Allowed h) e a in
          let w = numbered h s c n j first (ranges l) a' in
          let t = next_seen h s c n j first w in
          subst (λ z. Begun (z ∷ h) n × (address (z ∷ h) n ≡ address (z ∷ h) s ▹ next) × (frame (z ∷ h) n ≡ frame h s)) (sym e)
          (inl t.0, t.2 ∙ ap (λ z. z ▹ next) (sym (address_stays (grown l a') s w.spawner_known)), (framed_by h s c n j first l a').next)

  pub beside : (entries : Entries) → IsLegal shape entries → (x : Placed) → IsPlaced entries x → IsSplit x.entry.answer → Beside entries x
  beside [] l x p k = absurd p
  beside (entry ∷ entries) l x (inl e) k =
      let s = split_entry entry l.1.belongs (subst (λ y. IsSplit y.entry.answer) e k) in
      let t = beside_with (event_of entry) (legal-part shape entries l.0) l.1.allowed entry.request.strand s.the_child s.the_next s.the_join s.first s.is in
      subst (λ y. Beside (entry ∷ entries) y) (sym e) (record { strand = s.the_next; begun = t.0; address_is = t.1; frame_is = t.2 })
  beside (entry ∷ entries) l x (inr p) k =
      let t = beside entries l.0 x p k in
      let legal = legal-part shape entries l.0 in
      record {
        strand = t.strand;
        begun = begun_with (event_of entry) legal l.1.allowed t.strand t.begun;
        address_is = address_with (event_of entry) legal l.1.allowed t.strand t.begun ∙ t.address_is ∙
            ap (λ z. z ▹ next) (sym (address_with (event_of entry) legal l.1.allowed x.entry.request.strand (strand_begun entries l.0 x p)));
        frame_is = frame_with (event_of entry) legal l.1.allowed t.strand t.begun ∙ t.frame_is;
      }

  -- it reaches what comes later in the frame
  abbrev pub IsBesideBefore : Entries → Placed → Placed → Type 0
  IsBesideBefore entries x y =
      reaches (address (control_part entries) x.entry.request.strand ▹ next) (address (control_part entries) y.entry.request.strand) ≡ true

  pub beside_reaches : (entries : Entries) → IsLegal shape entries → (x y : Placed) → IsPlaced entries x → IsSplit x.entry.answer → IsPlaced entries y →
      x.frame ≡ y.frame → x.number < y.number → IsBesideBefore entries x y
  beside_reaches [] l x y p k q e lt = absurd p
  beside_reaches (entry ∷ entries) l x y (inl p) k q e lt =
      let n : x.number ≡ suc (length entries) = ap (λ z. z.number) p in
      absurd (omega (arith, placed_number (entry ∷ entries) y q, n, lt))
  beside_reaches (entry ∷ entries) l x y (inr p) k (inr q) e lt =
      let legal = legal-part shape entries l.0 in
      let ex = address_with (event_of entry) legal l.1.allowed x.entry.request.strand (strand_begun entries l.0 x p) in
      let ey = address_with (event_of entry) legal l.1.allowed y.entry.request.strand (strand_begun entries l.0 y q) in
      rw (ex, ey) (beside_reaches entries l.0 x y p k q e lt)
  beside_reaches (entry ∷ entries) l x y (inr p) k (inl q) e lt =
      let h = control_part entries in
      let legal = legal-part shape entries l.0 in
      let t = beside entries l.0 x p k in
      let run = subst (λ z. Running h z.entry.request.strand) (sym q) l.1.runs in
      let same_frame : frame h t.strand ≡ frame h y.entry.request.strand =
      t.frame_is ∙ e ∙ ap (λ z. z.frame) q ∙ sym (ap (λ z. frame h z.entry.request.strand) q) in
      let r = tips legal t.strand y.entry.request.strand t.begun (running_sink h legal y.entry.request.strand run) same_frame in
      let ex = address_with (event_of entry) legal l.1.allowed x.entry.request.strand (strand_begun entries l.0 x p) in
      let ey = address_with (event_of entry) legal l.1.allowed y.entry.request.strand (inl run) in
      let here : reaches (address h x.entry.request.strand ▹ next) (address h y.entry.request.strand) ≡ true =
      subst (λ z. reaches z (address h y.entry.request.strand) ≡ true) t.address_is (reach_precedes h legal t.strand y.entry.request.strand r) in
      rw (ex, ey) here

  -- the frame that a split begins

  pub begins_bound : (entries : Entries) → IsLegal shape entries → (x : Placed) → IsPlaced entries x →
      (x.frame < x.begins) × (x.begins ≤ suc (length (control_part entries)))
  begins_bound [] l x p = absurd p
  begins_bound (entry ∷ entries) l x (inl e) =
      let b = frame_bound (legal-part shape entries l.0) entry.request.strand in
      let g : x.begins ≡ next_frame entries = ap (λ z. z.begins) e in
      let f : x.frame ≡ frame_in entries entry.request.strand = ap (λ z. z.frame) e in
      let up = length_with (event_of entry) (control_part entries) in
      (omega (arith, b, g, f), omega (arith, g, up))
  begins_bound (entry ∷ entries) l x (inr p) =
      let t = begins_bound entries l.0 x p in
      let up = length_with (event_of entry) (control_part entries) in
      (t.0, omega (arith, t.1, up))

  -- the split that began a frame has its address

  origin_split : (found : Option Event) {h : History} → Legal h → MatchOption found (Unit {0}) (Allowed h) → (s c n j : ℕ) (first : Bool) →
      found ≡ Some (split s c n j first) → Begun h s → origin (with_event found h) (suc (length h)) ≡ address (with_event found h) s
  origin_split None l a s c n j first e b = absurd (cc)
  origin_split (Some event) {h} l a s c n j first e b = go event a some
    where
      some : event ≡ split s c n j first
      some = cc

      go : (event : Event) → Allowed h event → event ≡ split s c n j first → origin (event ∷ h) (suc (length h)) ≡ address (event ∷ h) s
      go event a e =
          let a' : Allowed h (split s c n j first) = subst (Allowed h) e a in
          subst (λ z. origin (z ∷ h) (suc (length h)) ≡ address (z ∷ h) s) (sym e)
          (updated_at (origin h) (suc (length h)) (address h s) (suc (length h)) refl ∙ sym (address_stays (grown l a') s (begun_below h (ranges l) s b)))

  pub split_origin : (entries : Entries) → IsLegal shape entries → (x : Placed) → IsPlaced entries x → IsSplit x.entry.answer →
      (origin (control_part entries) x.begins ≡ address (control_part entries) x.entry.request.strand) × (x.begins ≤ length (control_part entries))
  split_origin [] l x p k = absurd p
  split_origin (entry ∷ entries) l x (inl e) k =
      let s = split_entry entry l.1.belongs (subst (λ y. IsSplit y.entry.answer) e k) in
      let t = origin_split (event_of entry) (legal-part shape entries l.0) l.1.allowed entry.request.strand s.the_child s.the_next s.the_join s.first s.is (inl l.1.runs) in
      let longer : suc (length (control_part entries)) ≤ length (control_part (entry ∷ entries)) =
      subst (λ z. suc (length (control_part entries)) ≤ length (with_event z (control_part entries))) (sym s.is) (omega arith) in
      subst (λ y. (origin (control_part (entry ∷ entries)) y.begins ≡ address (control_part (entry ∷ entries)) y.entry.request.strand) × (y.begins ≤ length (control_part (entry ∷ entries))))
      (sym e) (t, longer)
  split_origin (entry ∷ entries) l x (inr p) k =
      let t = split_origin entries l.0 x p k in
      let up = length_with (event_of entry) (control_part entries) in (
        origin_with (event_of entry) (control_part entries) x.begins t.1 ∙ t.0 ∙
            sym (address_with (event_of entry) (legal-part shape entries l.0) l.1.allowed x.entry.request.strand (strand_begun entries l.0 x p)),
        omega (arith, t.1, up),
      )

  -- what is in the frame that a split began stands below its child
  pub below_child : (entries : Entries) → IsLegal shape entries → (x y : Placed) → IsPlaced entries x → IsSplit x.entry.answer → IsPlaced entries y →
      y.frame ≡ x.begins → IsPrefix (address (control_part entries) x.entry.request.strand ▹ child) (address (control_part entries) y.entry.request.strand)
  below_child entries l x y p k q e =
      let h = control_part entries in
      let legal = legal-part shape entries l in
      let b = strand_begun entries l y q in
      let f : frame h y.entry.request.strand ≡ x.begins = strand_frame entries l y q ∙ e in
      let bound = begins_bound entries l x p in
      let nz : frame h y.entry.request.strand ≢ 0 = λ z. omega (arith, z, f, bound.0) in
      let r = rooted legal y.entry.request.strand (begun_below h (ranges legal) y.entry.request.strand b) nz in
      let o : origin h (frame h y.entry.request.strand) ≡ address h x.entry.request.strand = ap (origin h) f ∙ (split_origin entries l x p k).0 in
      subst (λ z. IsPrefix (z ▹ child) (address h y.entry.request.strand)) o r

  -- each frame but that of the root function is begun by a split

  pub record Beginning (entries : Entries) (number : ℕ) : Type 0 where
    pub placed : Placed
    pub stands : IsPlaced entries placed
    pub splits : IsSplit placed.entry.answer
    pub begins : placed.begins ≡ number

  beginning_older : (entry : Entry) (entries : Entries) (number : ℕ) → Beginning entries number → Beginning (entry ∷ entries) number
  beginning_older entry entries number b = record { placed = b.placed; stands = inr b.stands; splits = b.splits; begins = b.begins }

  is_split : (strand : ℕ) (act : Act) (answer : Answer) (s c n j : ℕ) (first : Bool) → event_between strand act answer ≡ Some (split s c n j first) → IsSplit answer
  is_split strand Spawn (Split t) s c n j first e = tt
  is_split strand Sync Same s c n j first e = absurd (cc)
  is_split strand Sync (Joined k) s c n j first e = absurd (cc)
  is_split strand Sync Waits s c n j first e = absurd (cc)
  is_split strand Call Same s c n j first e = absurd (cc)
  is_split strand Return Resumed s c n j first e = absurd (cc)
  is_split strand Return Ended s c n j first e = absurd (cc)
  is_split strand Return (EndedJoined k) s c n j first e = absurd (cc)
  is_split strand Return Finished s c n j first e = absurd (cc)
  is_split strand act answer s c n j first e = absurd (cc)

  frame_old : (entry : Entry) (entries : Entries) (found : Option Event) → event_of entry ≡ found → Legal (control_part entries) →
      MatchOption found (Unit {0}) (Allowed (control_part entries)) → (x : ℕ) → frame (with_event found (control_part entries)) x ≢ 0 →
      ((other : ℕ) → frame (control_part entries) other ≢ 0 → Beginning entries (frame (control_part entries) other)) →
      Beginning (entry ∷ entries) (frame (with_event found (control_part entries)) x)
  frame_old entry entries None is l a x nz old = beginning_older entry entries _ (old x nz)
  frame_old entry entries (Some (split s c n j first)) is l a x nz old = go ((framed_by h s c n j first l a).within x)
    where
      h : History
      h = control_part entries

      go : (frame (split s c n j first ∷ h) x ≡ suc (length h)) ⊎ ((other : ℕ) × (frame (split s c n j first ∷ h) x ≡ frame h other)) →
          Beginning (entry ∷ entries) (frame (split s c n j first ∷ h) x)
      go (inl e) = record {
        placed = placed_at entries entry;
        stands = inl refl;
        splits = is_split entry.request.strand entry.request.act entry.answer s c n j first is;
        begins = sym e;
      }
      go (inr t) = subst (Beginning (entry ∷ entries)) (sym t.1) (beginning_older entry entries _ (old t.0 (λ z. nz (t.1 ∙ z))))
  frame_old entry entries (Some (same s)) is l a x nz old = beginning_older entry entries _ (old x nz)
  frame_old entry entries (Some (joined s j)) is l a x nz old = beginning_older entry entries _ (old x nz)
  frame_old entry entries (Some (waits s)) is l a x nz old = beginning_older entry entries _ (old x nz)
  frame_old entry entries (Some (call s)) is l a x nz old =
      let e = frame_same (control_part entries) (call s) tt x in
      subst (Beginning (entry ∷ entries)) (sym e) (beginning_older entry entries _ (old x (λ z. nz (e ∙ z))))
  frame_old entry entries (Some (resumed s)) is l a x nz old =
      let e = frame_same (control_part entries) (resumed s) tt x in
      subst (Beginning (entry ∷ entries)) (sym e) (beginning_older entry entries _ (old x (λ z. nz (e ∙ z))))
  frame_old entry entries (Some (ended s)) is l a x nz old = beginning_older entry entries _ (old x nz)
  frame_old entry entries (Some (ended_joined s j)) is l a x nz old = beginning_older entry entries _ (old x nz)
  frame_old entry entries (Some (finished s)) is l a x nz old = beginning_older entry entries _ (old x nz)

  beginning_of : (entries : Entries) → IsLegal shape entries → (x : ℕ) → frame (control_part entries) x ≢ 0 → Beginning entries (frame (control_part entries) x)
  beginning_of [] l x nz = absurd (nz refl)
  beginning_of (entry ∷ entries) l x nz =
      frame_old entry entries (event_of entry) refl (legal-part shape entries l.0) l.1.allowed x nz (λ o z. beginning_of entries l.0 o z)

  pub beginning : (entries : Entries) → IsLegal shape entries → (x : Placed) → IsPlaced entries x → x.frame ≢ 0 → Beginning entries x.frame
  beginning entries l x p nz =
      subst (Beginning entries) (strand_frame entries l x p)
      (beginning_of entries l x.entry.request.strand (λ z. nz (sym (strand_frame entries l x p) ∙ z)))
