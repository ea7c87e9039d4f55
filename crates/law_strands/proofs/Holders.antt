-- Each place has one holder, and a place that is held belongs to a block whose join has not begun.
use Rattle.std.proofs.Common.{◌≡◌, ◌≢◌, ◌⊎◌, inl, inr, ℕ, suc, ◌<◌, ◌≤◌, Bool, true, false, ◌∷◌, length, Some, refl, sym, ap, ap₂, ◌∙◌, subst, arith}
use Rattle.model_strands.specs.Updated.{updated}
use Rattle.model_strands.specs.History.{split, same, joined, waits, call, resumed, ended, ended_joined, finished, History}
use Rattle.model_strands.specs.Strands.{Status, absent, reserved, running, over, status, Running, unused}
use Rattle.model_strands.specs.Blocks.{stack, enclosing, Outstanding, IsWaitedFor, IsLast}
use Rattle.model_strands.specs.Legal.{Allowed, open_split, next_split, sync_joined, sync_waits, child_return, last_return, root_return, Legal, start, then}
use Rattle.law_strands.proofs.Updates.{updated_at, updated_off, updated_case}
use Rattle.law_strands.proofs.Places.{Place, outermost, continuation, child_of, place_of, place, join_of, place_called, place_resumed, Ranges, Seen, at_child, at_next, at_join, at_spawner, elsewhere, some_same, running_not_reserved, over_not_reserved, reserved_not_absent, true_not_false}
use Rattle.law_strands.proofs.Range.{Numbered, numbered, ranges, block_below}

-- reserved or running
abbrev pub IsOpen : Status → Type 0
IsOpen absent = ⊥
IsOpen reserved = Unit {0}
IsOpen running = Unit {0}
IsOpen over = ⊥

abbrev pub Open : History → ℕ → Type 0
Open history number = IsOpen (status history number)

-- the place's block has a join that has not begun; its continuation waits for no one yet, its child has not returned
abbrev pub IsLive : History → Place → Type 0
IsLive history outermost = Unit {0}
IsLive history (continuation join) = (status history join ≡ reserved) × (IsWaitedFor history join → ⊥)
IsLive history (child_of join number) = (status history join ≡ reserved) × Outstanding history number join

-- who is open holds a live place, and no other open one holds it
pub record Holders (history : History) : Type 0 where
  pub live : (holder : ℕ) → Open history holder → IsLive history (place history holder)
  pub alone : (holder other : ℕ) → Open history holder → Open history other → place history holder ≡ place history other → holder ≡ other

pub running_open : (history : History) (strand : ℕ) → Running history strand → Open history strand
running_open h s e = subst IsOpen (sym e) tt

pub reserved_open : (history : History) (strand : ℕ) → status history strand ≡ reserved → Open history strand
reserved_open h s e = subst IsOpen (sym e) tt

pub not_open : {t : Status} → t ≡ over → IsOpen t → ⊥
not_open e o = subst IsOpen e o

pub absent_not_open : {t : Status} → t ≡ absent → IsOpen t → ⊥
absent_not_open e o = subst IsOpen e o

-- the join of a live place is reserved
pub join_reserved : (history : History) (held : Place) (other_join : ℕ) → IsLive history held → join_of held ≡ Some other_join →
    status history other_join ≡ reserved
join_reserved h outermost k l e = absurd (cc)
join_reserved h (continuation j) k l e = let same_join : j ≡ k = cc in subst (λ z. status h z ≡ reserved) same_join l.0
join_reserved h (child_of j n) k l e = let same_join : j ≡ k = cc in subst (λ z. status h z ≡ reserved) same_join l.0

-- the split with what is known of its join
pub record Splitting (history : History) (strand the_child the_next the_join : ℕ) (first : Bool) : Type 0 where
  pub numbers : Numbered history strand the_child the_next the_join first
  pub runs : Running history strand
  pub join_waits : status (split strand the_child the_next the_join first ∷ history) the_join ≡ reserved
  pub no_sync_yet : IsWaitedFor history the_join → ⊥
  pub block_is : ((first ≡ true) × (unused history ≤ the_join)) ⊎ ((first ≡ false) × (place history strand ≡ continuation the_join))

pub splitting : (history : History) (strand the_child the_next the_join : ℕ) (first : Bool) → Ranges history → Holders history →
    Allowed history (split strand the_child the_next the_join first) → Splitting history strand the_child the_next the_join first
splitting h s c n j true r o (open_split run sy ce ne je) = record {
  numbers = numbered h s c n j true r (open_split run sy ce ne je);
  runs = run;
  join_waits = updated_at (updated (updated (updated (status h) s over) c running) n running) j reserved j refl;
  no_sync_yet = λ w. let lt : j < unused h = r.waited_below j w in omega arith;
  block_is = inl (refl, omega arith);
}
splitting h s c n j false r o (next_split run st ce ne) =
    let lives : (status h j ≡ reserved) × (IsWaitedFor h j → ⊥) = subst (IsLive h) (ap place_of st) (o.live s (running_open h s run)) in
    let jk : j < unused h = block_below h s j r (ap enclosing st) in
    let jn : j ≢ n = omega arith in
    let jc : j ≢ c = omega arith in
    let js : j ≢ s = λ e. running_not_reserved (ap (status h) e ∙ run) lives.0 in
    record {
      numbers = numbered h s c n j false r (next_split run st ce ne);
      runs = run;
      join_waits = updated_off (updated (updated (status h) s over) c running) n running j jn ∙ (updated_off (updated (status h) s over) c running j jc ∙ (updated_off (status h) s over j js ∙ lives.0));
      no_sync_yet = lives.1;
      block_is = inr (refl, ap place_of st);
    }

reserved_kept : (history : History) (strand the_child the_next the_join : ℕ) (first : Bool) → Ranges history →
    Splitting history strand the_child the_next the_join first → (other_join : ℕ) → status history other_join ≡ reserved →
    status (split strand the_child the_next the_join first ∷ history) other_join ≡ reserved
reserved_kept h s c n j first r w k e = go (w.numbers.see k)
  where
    go : Seen h s c n j first k → status (split s c n j first ∷ h) k ≡ reserved
    go (at_child xe a b d) = absurd (reserved_not_absent e (r.absent_beyond k (omega (arith, xe, w.numbers.child_is))))
    go (at_next xe a b d) = absurd (reserved_not_absent e (r.absent_beyond k (omega (arith, xe, w.numbers.next_is))))
    go (at_join xe lo f a b d) = a
    go (at_spawner xe a b d) = absurd (running_not_reserved (ap (status h) xe ∙ w.runs) e)
    go (elsewhere ne kn a b d) = a ∙ e

live_kept : (history : History) (strand the_child the_next the_join : ℕ) (first : Bool) → Ranges history →
    Splitting history strand the_child the_next the_join first → (held : Place) → IsLive history held →
    IsLive (split strand the_child the_next the_join first ∷ history) held
live_kept h s c n j first r w outermost l = tt
live_kept h s c n j first r w (continuation k) l = (reserved_kept h s c n j first r w k l.0, l.1)
live_kept h s c n j first r w (child_of k m) l = (reserved_kept h s c n j first r w k l.0, inr l.1)

-- who holds a place after a split: the new child, the new continuation of a new block, or the heir of an earlier holder
data Heir (history : History) (strand the_child the_next the_join : ℕ) (first : Bool) (number : ℕ) : Type 0 where
  new_child : number ≡ the_child → place (split strand the_child the_next the_join first ∷ history) number ≡ child_of the_join (suc (length history)) →
      Heir history strand the_child the_next the_join first number
  new_next : number ≡ the_next → unused history ≤ the_join → place (split strand the_child the_next the_join first ∷ history) number ≡ continuation the_join →
      Heir history strand the_child the_next the_join first number
  same_holder : number ≢ strand → Open history number → place (split strand the_child the_next the_join first ∷ history) number ≡ place history number →
      Heir history strand the_child the_next the_join first number
  next_holder : number ≡ the_next → place (split strand the_child the_next the_join first ∷ history) number ≡ place history strand → first ≡ false →
      Heir history strand the_child the_next the_join first number
  join_holder : number ≡ the_join → place (split strand the_child the_next the_join first ∷ history) number ≡ place history strand → first ≡ true →
      Heir history strand the_child the_next the_join first number

heir : (history : History) (strand the_child the_next the_join : ℕ) (first : Bool) → Splitting history strand the_child the_next the_join first →
    (one : ℕ) → Open (split strand the_child the_next the_join first ∷ history) one → Heir history strand the_child the_next the_join first one
heir h s c n j first w x o = go (w.numbers.see x) w.block_is
  where
    go : Seen h s c n j first x → ((first ≡ true) × (unused h ≤ j)) ⊎ ((first ≡ false) × (place h s ≡ continuation j)) → Heir h s c n j first x
    go (at_child xe a b d) k = new_child xe b
    go (at_next xe a b d) (inl k) = new_next xe k.1 b
    go (at_next xe a b d) (inr k) = next_holder xe (b ∙ sym k.1) k.0
    go (at_join xe lo f a b d) k = join_holder xe b f
    go (at_spawner xe a b d) k = absurd (not_open a o)
    go (elsewhere ne kn a b d) k = same_holder ne (subst IsOpen a o) b

-- an earlier holder's place is neither the new child's nor a new block's
old_not_child : (history : History) (its_join strand : ℕ) → Ranges history → Holders history → Open history strand →
    place history strand ≡ child_of its_join (suc (length history)) → ⊥
old_not_child h j x r o op e =
    let l : (status h j ≡ reserved) × Outstanding h (suc (length h)) j = subst (IsLive h) e (o.live x op) in
    let le : suc (length h) ≤ length h = r.outstanding_below (suc (length h)) j l.1 in
    omega arith

old_not_next : (history : History) (its_join strand : ℕ) → Ranges history → unused history ≤ its_join → place history strand ≡ continuation its_join → ⊥
old_not_next h j x r le e = let lt : j < unused h = r.join_below x j (ap join_of e) in omega arith

child_not_next : {p : Place} {j k n : ℕ} → p ≡ child_of j n → p ≡ continuation k → ⊥
child_not_next e g = cc

alone_split : (history : History) (strand the_child the_next the_join : ℕ) (first : Bool) → Ranges history → Holders history →
    Splitting history strand the_child the_next the_join first → (one other : ℕ) → Heir history strand the_child the_next the_join first one →
    Heir history strand the_child the_next the_join first other →
    place (split strand the_child the_next the_join first ∷ history) one ≡ place (split strand the_child the_next the_join first ∷ history) other →
    one ≡ other
alone_split h s c n j first r o w x y (new_child e b) (new_child f d) g = e ∙ sym f
alone_split h s c n j first r o w x y (new_child e b) (new_next f k d) g = absurd (child_not_next b (g ∙ d))
alone_split h s c n j first r o w x y (new_child e b) (same_holder f k d) g = absurd (old_not_child h j y r o k (sym d ∙ (sym g ∙ b)))
alone_split h s c n j first r o w x y (new_child e b) (next_holder f d k) g = absurd (old_not_child h j s r o (running_open h s w.runs) (sym d ∙ (sym g ∙ b)))
alone_split h s c n j first r o w x y (new_child e b) (join_holder f d k) g = absurd (old_not_child h j s r o (running_open h s w.runs) (sym d ∙ (sym g ∙ b)))
alone_split h s c n j first r o w x y (new_next e q b) (new_child f d) g = absurd (child_not_next d (sym g ∙ b))
alone_split h s c n j first r o w x y (new_next e q b) (new_next f k d) g = e ∙ sym f
alone_split h s c n j first r o w x y (new_next e q b) (same_holder f k d) g = absurd (old_not_next h j y r q (sym d ∙ (sym g ∙ b)))
alone_split h s c n j first r o w x y (new_next e q b) (next_holder f d k) g = absurd (old_not_next h j s r q (sym d ∙ (sym g ∙ b)))
alone_split h s c n j first r o w x y (new_next e q b) (join_holder f d k) g = absurd (old_not_next h j s r q (sym d ∙ (sym g ∙ b)))
alone_split h s c n j first r o w x y (same_holder e q b) (new_child f d) g = absurd (old_not_child h j x r o q (sym b ∙ (g ∙ d)))
alone_split h s c n j first r o w x y (same_holder e q b) (new_next f k d) g = absurd (old_not_next h j x r k (sym b ∙ (g ∙ d)))
alone_split h s c n j first r o w x y (same_holder e q b) (same_holder f k d) g = o.alone x y q k (sym b ∙ (g ∙ d))
alone_split h s c n j first r o w x y (same_holder e q b) (next_holder f d k) g = absurd (e (o.alone x s q (running_open h s w.runs) (sym b ∙ (g ∙ d))))
alone_split h s c n j first r o w x y (same_holder e q b) (join_holder f d k) g = absurd (e (o.alone x s q (running_open h s w.runs) (sym b ∙ (g ∙ d))))
alone_split h s c n j first r o w x y (next_holder e b q) (new_child f d) g = absurd (old_not_child h j s r o (running_open h s w.runs) (sym b ∙ (g ∙ d)))
alone_split h s c n j first r o w x y (next_holder e b q) (new_next f k d) g = e ∙ sym f
alone_split h s c n j first r o w x y (next_holder e b q) (same_holder f k d) g = absurd (f (o.alone y s k (running_open h s w.runs) (sym d ∙ (sym g ∙ b))))
alone_split h s c n j first r o w x y (next_holder e b q) (next_holder f d k) g = e ∙ sym f
alone_split h s c n j first r o w x y (next_holder e b q) (join_holder f d k) g = absurd (true_not_false (sym k ∙ q))
alone_split h s c n j first r o w x y (join_holder e b q) (new_child f d) g = absurd (old_not_child h j s r o (running_open h s w.runs) (sym b ∙ (g ∙ d)))
alone_split h s c n j first r o w x y (join_holder e b q) (new_next f k d) g = absurd (old_not_next h j s r k (sym b ∙ (g ∙ d)))
alone_split h s c n j first r o w x y (join_holder e b q) (same_holder f k d) g = absurd (f (o.alone y s k (running_open h s w.runs) (sym d ∙ (sym g ∙ b))))
alone_split h s c n j first r o w x y (join_holder e b q) (next_holder f d k) g = absurd (true_not_false (sym q ∙ k))
alone_split h s c n j first r o w x y (join_holder e b q) (join_holder f d k) g = e ∙ sym f

holders_split : (history : History) (strand the_child the_next the_join : ℕ) (first : Bool) → Ranges history → Holders history →
    Splitting history strand the_child the_next the_join first → Holders (split strand the_child the_next the_join first ∷ history)
holders_split h s c n j first r o w = record {
  live = λ x op. live_at x op (heir h s c n j first w x op);
  alone = λ x y p q e. alone_split h s c n j first r o w x y (heir h s c n j first w x p) (heir h s c n j first w y q) e;
}
  where
    live_at : (strand : ℕ) → Open (split s c n j first ∷ h) strand → Heir h s c n j first strand →
        IsLive (split s c n j first ∷ h) (place (split s c n j first ∷ h) strand)
    live_at x op (new_child e b) = subst (IsLive (split s c n j first ∷ h)) (sym b) (w.join_waits, inl (refl, refl))
    live_at x op (new_next e k b) = subst (IsLive (split s c n j first ∷ h)) (sym b) (w.join_waits, w.no_sync_yet)
    live_at x op (same_holder e k b) = subst (IsLive (split s c n j first ∷ h)) (sym b) (live_kept h s c n j first r w (place h x) (o.live x k))
    live_at x op (next_holder e b k) =
        subst (IsLive (split s c n j first ∷ h)) (sym b) (live_kept h s c n j first r w (place h s) (o.live s (running_open h s w.runs)))
    live_at x op (join_holder e b k) =
        subst (IsLive (split s c n j first ∷ h)) (sym b) (live_kept h s c n j first r w (place h s) (o.live s (running_open h s w.runs)))

-- the strand ends
pub open_after_end : (history : History) (strand one : ℕ) → IsOpen (updated (status history) strand over one) → (one ≢ strand) × Open history one
open_after_end h s x = updated_case (λ t. IsOpen t → (x ≢ s) × Open h x) (status h) s over x (λ e o. absurd o) (λ ne o. (ne, o))

pub reserved_before_end : (history : History) (strand other_join : ℕ) → updated (status history) strand over other_join ≡ reserved →
    status history other_join ≡ reserved
reserved_before_end h s k = updated_case (λ t. t ≡ reserved → status h k ≡ reserved) (status h) s over k (λ e g. absurd (over_not_reserved refl g)) (λ ne g. g)

reserved_after_end : (history : History) (strand other_join : ℕ) → Running history strand → status history other_join ≡ reserved →
    updated (status history) strand over other_join ≡ reserved
reserved_after_end h s k run e =
    updated_off (status h) s over k (λ g. running_not_reserved (ap (status h) g ∙ run) e) ∙ e

-- the strand ends and a join begins
pub open_after_join : (history : History) (strand its_join one : ℕ) → Running history strand → status history its_join ≡ reserved →
    IsOpen (updated (updated (status history) strand over) its_join running one) → (one ≢ strand) × Open history one
open_after_join h s j x run rj =
    updated_case (λ t. IsOpen t → (x ≢ s) × Open h x) (updated (status h) s over) j running x
    (λ e o. ((λ g. running_not_reserved (ap (status h) g ∙ run) (ap (status h) e ∙ rj)), reserved_open h x (ap (status h) e ∙ rj)))
    (λ ne o. open_after_end h s x o)

pub reserved_before_join : (history : History) (strand its_join other_join : ℕ) →
    updated (updated (status history) strand over) its_join running other_join ≡ reserved → (other_join ≢ its_join) × (status history other_join ≡ reserved)
reserved_before_join h s j k =
    updated_case (λ t. t ≡ reserved → (k ≢ j) × (status h k ≡ reserved)) (updated (status h) s over) j running k (λ e g. absurd (running_not_reserved refl g))
    (λ ne g. (ne, reserved_before_end h s k g))

reserved_after_join : (history : History) (strand its_join other_join : ℕ) → Running history strand → other_join ≢ its_join →
    status history other_join ≡ reserved → updated (updated (status history) strand over) its_join running other_join ≡ reserved
reserved_after_join h s j k run ne e = updated_off (updated (status h) s over) j running k ne ∙ reserved_after_end h s k run e

live_joined : (history : History) (strand its_join : ℕ) → Running history strand → place history strand ≡ continuation its_join →
    ((number : ℕ) → Outstanding history number its_join → ⊥) → (held : Place) → IsLive history held → (held ≡ place history strand → ⊥) →
    IsLive (joined strand its_join ∷ history) held
live_joined h s j run at none outermost l apart = tt
live_joined h s j run at none (continuation k) l apart =
    (reserved_after_join h s j k run (λ e. apart (ap continuation e ∙ sym at)) l.0, l.1)
live_joined h s j run at none (child_of k n) l apart =
    (reserved_after_join h s j k run (λ e. none n (subst (Outstanding h n) e l.1)) l.0, l.1)

live_waits : (history : History) (strand its_join : ℕ) → Running history strand →
    (enclosing (stack history strand) ≡ Some its_join) × (place history strand ≡ continuation its_join) → (held : Place) → IsLive history held →
    (held ≡ place history strand → ⊥) → IsLive (waits strand ∷ history) held
live_waits h s j run at outermost l apart = tt
live_waits h s j run at (continuation k) l apart =
    (reserved_after_end h s k run l.0, λ w. elim w [ inl e ↦ apart (ap continuation (some_same (sym e ∙ at.0)) ∙ sym at.1) | inr e ↦ l.1 e ])
live_waits h s j run at (child_of k n) l apart = (reserved_after_end h s k run l.0, l.1)

live_ended : (history : History) (strand : ℕ) → Running history strand → (held : Place) → IsLive history held → (held ≡ place history strand → ⊥) →
    IsLive (ended strand ∷ history) held
live_ended h s run outermost l apart = tt
live_ended h s run (continuation k) l apart = (reserved_after_end h s k run l.0, l.1)
live_ended h s run (child_of k m) l apart = (reserved_after_end h s k run l.0, ((λ e. apart (sym (ap place_of e))), l.1))

live_ended_joined : (history : History) (strand number its_join : ℕ) → Running history strand → place history strand ≡ child_of its_join number →
    IsLast history number its_join → (held : Place) → IsLive history held → (held ≡ place history strand → ⊥) →
    IsLive (ended_joined strand its_join ∷ history) held
live_ended_joined h s n j run at last outermost l apart = tt
live_ended_joined h s n j run at last (continuation k) l apart =
    (reserved_after_join h s j k run (λ e. l.1 (subst (IsWaitedFor h) (sym e) last.0)) l.0, l.1)
live_ended_joined h s n j run at last (child_of k m) l apart = (
  reserved_after_join h s j k run (λ e. apart (ap₂ (λ a b. child_of a b) e (last.1 m (subst (Outstanding h m) e l.1)) ∙ sym at)) l.0,
  ((λ e. apart (sym (ap place_of e))), l.1),
)

live_finished : (history : History) (strand : ℕ) → Running history strand → (held : Place) → IsLive history held → IsLive (finished strand ∷ history) held
live_finished h s run outermost l = tt
live_finished h s run (continuation k) l = (reserved_after_end h s k run l.0, l.1)
live_finished h s run (child_of k m) l = (reserved_after_end h s k run l.0, l.1)

-- another holder's place is another place
apart_from : (history : History) (strand one : ℕ) → Holders history → Running history strand → one ≢ strand → Open history one →
    place history one ≡ place history strand → ⊥
apart_from h s x o run ne op e = ne (o.alone x s op (running_open h s run) e)

pub holders : {h : History} → Legal h → Holders h
holders start = record { live = λ x op. tt; alone = λ x y p q e. only x p ∙ sym (only y q) }
  where
    only : (strand : ℕ) → IsOpen (updated (λ y. absent) 0 running strand) → strand ≡ 0
    only x = updated_case (λ t. IsOpen t → x ≡ 0) (λ y. absent) 0 running x (λ e op. e) (λ ne op. absurd op)
holders (then {history = h} {event = split s c n j first} l a) =
    holders_split h s c n j first (ranges l) (holders l) (splitting h s c n j first (ranges l) (holders l) a)
holders (then {history = h} {event = same s} l a) = let o = holders l in record { live = λ x op. quiet h s (place h x) (o.live x op); alone = o.alone }
  where
    quiet : (history : History) (strand : ℕ) (held : Place) → IsLive history held → IsLive (same strand ∷ history) held
    quiet h s outermost l = l
    quiet h s (continuation k) l = l
    quiet h s (child_of k m) l = l
holders (then {history = h} {event = call s} l a) =
    let o = holders l in record {
      live = λ x op. quiet h s (place (call s ∷ h) x) (subst (IsLive h) (sym (place_called h s (suc (length h)) x)) (o.live x op));
      alone = λ x y p q e. o.alone x y p q (sym (place_called h s (suc (length h)) x) ∙ (e ∙ place_called h s (suc (length h)) y));
    }
  where
    quiet : (history : History) (strand : ℕ) (held : Place) → IsLive history held → IsLive (call strand ∷ history) held
    quiet h s outermost l = l
    quiet h s (continuation k) l = l
    quiet h s (child_of k m) l = l
holders (then {history = h} {event = resumed s} l a) =
    let o = holders l in record {
      live = λ x op. quiet h s (place (resumed s ∷ h) x) (subst (IsLive h) (sym (place_resumed h s x)) (o.live x op));
      alone = λ x y p q e. o.alone x y p q (sym (place_resumed h s x) ∙ (e ∙ place_resumed h s y));
    }
  where
    quiet : (history : History) (strand : ℕ) (held : Place) → IsLive history held → IsLive (resumed strand ∷ history) held
    quiet h s outermost l = l
    quiet h s (continuation k) l = l
    quiet h s (child_of k m) l = l
holders (then {history = h} {event = joined s j} l (sync_joined run st none)) =
    let o = holders l in
    let rj : status h j ≡ reserved = join_reserved h (place h s) j (o.live s (running_open h s run)) (ap join_of (ap place_of st)) in
    record {
      live = λ x op. let was = open_after_join h s j x run rj op in
          live_joined h s j run (ap place_of st) none (place h x) (o.live x was.1) (apart_from h s x o run was.0 was.1);
      alone = λ x y p q e. o.alone x y (open_after_join h s j x run rj p).1 (open_after_join h s j y run rj q).1 e;
    }
holders (then {history = h} {event = waits s} l (sync_waits {join = j} run st m some)) =
    let o = holders l in
    record {
      live = λ x op. let was = open_after_end h s x op in
          live_waits h s j run (ap enclosing st, ap place_of st) (place h x) (o.live x was.1) (apart_from h s x o run was.0 was.1);
      alone = λ x y p q e. o.alone x y (open_after_end h s x p).1 (open_after_end h s y q).1 e;
    }
holders (then {history = h} {event = ended s} l (child_return run st last)) =
    let o = holders l in
    record {
      live = λ x op. let was = open_after_end h s x op in
          live_ended h s run (place h x) (o.live x was.1) (apart_from h s x o run was.0 was.1);
      alone = λ x y p q e. o.alone x y (open_after_end h s x p).1 (open_after_end h s y q).1 e;
    }
holders (then {history = h} {event = ended_joined s j} l (last_return {number = n} run st last)) =
    let o = holders l in
    let rj : status h j ≡ reserved = join_reserved h (place h s) j (o.live s (running_open h s run)) (ap join_of (ap place_of st)) in
    record {
      live = λ x op. let was = open_after_join h s j x run rj op in
          live_ended_joined h s n j run (ap place_of st) last (place h x) (o.live x was.1) (apart_from h s x o run was.0 was.1);
      alone = λ x y p q e. o.alone x y (open_after_join h s j x run rj p).1 (open_after_join h s j y run rj q).1 e;
    }
holders (then {history = h} {event = finished s} l (root_return run st)) =
    let o = holders l in
    record {
      live = λ x op. let was = open_after_end h s x op in live_finished h s run (place h x) (o.live x was.1);
      alone = λ x y p q e. o.alone x y (open_after_end h s x p).1 (open_after_end h s y q).1 e;
    }
