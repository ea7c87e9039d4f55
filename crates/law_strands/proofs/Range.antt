-- Each number that a legal history names is below the least unused one.
use Rattle.std.proofs.Common.{◌≡◌, ◌≢◌, inl, inr, ℕ, suc, ◌+◌, ◌<◌, ◌≤◌, Bool, true, false, ◌∷◌, length, Some, refl, sym, ap, ◌∙◌, arith}
use Rattle.model_strands.specs.Updated.{updated}
use Rattle.model_strands.specs.History.{split, same, joined, waits, call, resumed, ended, ended_joined, finished, History}
use Rattle.model_strands.specs.Strands.{absent, running, over, status, unused, reserved}
use Rattle.model_strands.specs.Blocks.{stack, enclosing, Outstanding}
use Rattle.model_strands.specs.Legal.{Allowed, open_split, next_split, sync_joined, sync_waits, child_return, last_return, root_return, Legal, start, then}
use Rattle.law_strands.proofs.Updates.{updated_off}
use Rattle.law_strands.proofs.Places.{outermost, place_of, place, join_of, enclosing_is, place_called, place_resumed, Ranges, running_below, Seen, at_child, at_next, at_join, at_spawner, elsewhere, see_open, see_next, continuation, child_of, some_same}
use Rattle.law_strands.proofs.Words.{◌▹◌}
use Rattle.model_strands.specs.Address.{child, next, join}
use Rattle.model_strands.specs.Addresses.{address}

-- what the split's numbers have to do with the ranges
pub record Numbered (history : History) (strand the_child the_next the_join : ℕ) (first : Bool) : Type 0 where
  pub child_is : the_child ≡ unused history
  pub next_is : the_next ≡ 1 + unused history
  pub grows : 2 + unused history ≤ unused (split strand the_child the_next the_join first ∷ history)
  pub join_known : the_join < unused (split strand the_child the_next the_join first ∷ history)
  pub join_not_child : the_join ≢ the_child
  pub join_not_next : the_join ≢ the_next
  pub spawner_known : strand < unused history
  pub see : (number : ℕ) → Seen history strand the_child the_next the_join first number

ranges_split : (history : History) (strand the_child the_next the_join : ℕ) (first : Bool) → Ranges history →
    Numbered history strand the_child the_next the_join first → Ranges (split strand the_child the_next the_join first ∷ history)
ranges_split h s c n j first r w = record {
  absent_beyond = λ x le. absent_at x le (w.see x);
  outermost_beyond = λ x le. outermost_at x le (w.see x);
  join_below = λ x k e. below_at x k e (w.see x);
  waited_below = λ k g. let lt : k < unused h = r.waited_below k g in let up : 2 + unused h ≤ unused (split s c n j first ∷ h) = w.grows in omega arith;
  outstanding_below = λ m k g. outstanding_at m k g;
}
  where
    absent_at : (strand : ℕ) → unused (split s c n j first ∷ h) ≤ strand → Seen h s c n j first strand → status (split s c n j first ∷ h) strand ≡ absent
    absent_at x le (at_child e a b d) = absurd (omega (arith, e, w.child_is, w.grows))
    absent_at x le (at_next e a b d) = absurd (omega (arith, e, w.next_is, w.grows))
    absent_at x le (at_join e lo f a b d) = absurd (omega (arith, e, w.join_known))
    absent_at x le (at_spawner e a b d) = absurd (omega (arith, e, w.spawner_known, w.grows))
    absent_at x le (elsewhere ne k a b d) = a ∙ r.absent_beyond x (omega (arith, w.grows))

    outermost_at : (strand : ℕ) → unused (split s c n j first ∷ h) ≤ strand → Seen h s c n j first strand →
        place (split s c n j first ∷ h) strand ≡ outermost
    outermost_at x le (at_child e a b d) = absurd (omega (arith, e, w.child_is, w.grows))
    outermost_at x le (at_next e a b d) = absurd (omega (arith, e, w.next_is, w.grows))
    outermost_at x le (at_join e lo f a b d) = absurd (omega (arith, e, w.join_known))
    outermost_at x le (at_spawner e a b d) = absurd (omega (arith, e, w.spawner_known, w.grows))
    outermost_at x le (elsewhere ne k a b d) = b ∙ r.outermost_beyond x (omega (arith, w.grows))

    below_at : (strand other_join : ℕ) → join_of (place (split s c n j first ∷ h) strand) ≡ Some other_join → Seen h s c n j first strand →
        other_join < unused (split s c n j first ∷ h)
    below_at x k g (at_child e a b d) = let same_join : j ≡ k = some_same (sym (ap join_of b) ∙ g) in omega (arith, w.join_known)
    below_at x k g (at_next e a b d) = let same_join : j ≡ k = some_same (sym (ap join_of b) ∙ g) in omega (arith, w.join_known)
    below_at x k g (at_join e lo f a b d) = let lt : k < unused h = r.join_below s k (sym (ap join_of b) ∙ g) in omega (arith, w.grows)
    below_at x k g (at_spawner e a b d) = let lt : k < unused h = r.join_below s k (sym (ap join_of b) ∙ g) in omega (arith, w.grows)
    below_at x k g (elsewhere ne kn a b d) = let lt : k < unused h = r.join_below x k (sym (ap join_of b) ∙ g) in omega (arith, w.grows)

    outstanding_at : (number other_join : ℕ) → Outstanding (split s c n j first ∷ h) number other_join → number ≤ suc (length h)
    outstanding_at m k (inl t) = omega (arith, t.0)
    outstanding_at m k (inr t) = omega (arith, r.outstanding_below m k t)

-- the strand ends
over_beyond : (history : History) (strand : ℕ) → Ranges history → strand < unused history → (one : ℕ) → unused history ≤ one →
    updated (status history) strand over one ≡ absent
over_beyond h s r lt x le = let ne : x ≢ s = omega arith in updated_off (status h) s over x ne ∙ r.absent_beyond x le

-- the strand ends and a join begins
begun_beyond : (history : History) (strand its_join : ℕ) → Ranges history → strand < unused history → its_join < unused history → (one : ℕ) →
    unused history ≤ one → updated (updated (status history) strand over) its_join running one ≡ absent
begun_beyond h s j r lt ltj x le = let ne : x ≢ j = omega arith in updated_off (updated (status h) s over) j running x ne ∙ over_beyond h s r lt x le

-- the block that the stack shows is below the least unused number
pub block_below : (history : History) (strand its_join : ℕ) → Ranges history → enclosing (stack history strand) ≡ Some its_join → its_join < unused history
block_below h s j r e = r.join_below s j (sym (enclosing_is (stack h s)) ∙ e)

pub numbered : (history : History) (strand the_child the_next the_join : ℕ) (first : Bool) → Ranges history →
    Allowed history (split strand the_child the_next the_join first) → Numbered history strand the_child the_next the_join first
numbered h s c n j true r (open_split run sy ce ne je) = record {
  child_is = ce;
  next_is = ne;
  grows = omega arith;
  join_known = omega arith;
  join_not_child = omega arith;
  join_not_next = omega arith;
  spawner_known = running_below h r s run;
  see = see_open h s c n j (running_below h r s run) ce ne je;
}
numbered h s c n j false r (next_split run st ce ne) = record {
  child_is = ce;
  next_is = ne;
  grows = omega arith;
  join_known = omega (arith, block_below h s j r (ap enclosing st));
  join_not_child = omega (arith, block_below h s j r (ap enclosing st));
  join_not_next = omega (arith, block_below h s j r (ap enclosing st));
  spawner_known = running_below h r s run;
  see = see_next h s c n j (running_below h r s run) (ap place_of st) ce ne;
}

-- what the split makes of the numbers that it names
pub child_seen : (history : History) (strand the_child the_next the_join : ℕ) (first : Bool) → Numbered history strand the_child the_next the_join first →
    (status (split strand the_child the_next the_join first ∷ history) the_child ≡ running) × (place (split strand the_child the_next the_join first ∷ history) the_child ≡ child_of the_join (suc (length history))) × (address (split strand the_child the_next the_join first ∷ history) the_child ≡ address history strand ▹ child)
child_seen h s c n j first w = go (w.see c)
  where
    go : Seen h s c n j first c →
        (status (split s c n j first ∷ h) c ≡ running) × (place (split s c n j first ∷ h) c ≡ child_of j (suc (length h))) × (address (split s c n j first ∷ h) c ≡ address h s ▹ child)
    go (at_child xe a b d) = (a, b, d)
    go (at_next xe a b d) = absurd (omega (arith, xe, w.child_is, w.next_is))
    go (at_join xe lo t a b d) = absurd (w.join_not_child (sym xe))
    go (at_spawner xe a b d) = absurd (omega (arith, xe, w.child_is, w.spawner_known))
    go (elsewhere ne (inl kn) a b d) = absurd (omega (arith, w.child_is))
    go (elsewhere ne (inr kn) a b d) = absurd (omega (arith, w.child_is, w.grows))

pub next_seen : (history : History) (strand the_child the_next the_join : ℕ) (first : Bool) → Numbered history strand the_child the_next the_join first →
    (status (split strand the_child the_next the_join first ∷ history) the_next ≡ running) × (place (split strand the_child the_next the_join first ∷ history) the_next ≡ continuation the_join) × (address (split strand the_child the_next the_join first ∷ history) the_next ≡ address history strand ▹ next)
next_seen h s c n j first w = go (w.see n)
  where
    go : Seen h s c n j first n →
        (status (split s c n j first ∷ h) n ≡ running) × (place (split s c n j first ∷ h) n ≡ continuation j) × (address (split s c n j first ∷ h) n ≡ address h s ▹ next)
    go (at_child xe a b d) = absurd (omega (arith, xe, w.child_is, w.next_is))
    go (at_next xe a b d) = (a, b, d)
    go (at_join xe lo t a b d) = absurd (w.join_not_next (sym xe))
    go (at_spawner xe a b d) = absurd (omega (arith, xe, w.next_is, w.spawner_known))
    go (elsewhere ne (inl kn) a b d) = absurd (omega (arith, w.next_is))
    go (elsewhere ne (inr kn) a b d) = absurd (omega (arith, w.next_is, w.grows))

pub join_seen : (history : History) (strand the_child the_next the_join : ℕ) (first : Bool) → Numbered history strand the_child the_next the_join first →
    unused history ≤ the_join →
    (status (split strand the_child the_next the_join first ∷ history) the_join ≡ reserved) × (place (split strand the_child the_next the_join first ∷ history) the_join ≡ place history strand) × (address (split strand the_child the_next the_join first ∷ history) the_join ≡ address history strand ▹ join)
join_seen h s c n j first w fresh = go (w.see j)
  where
    go : Seen h s c n j first j →
        (status (split s c n j first ∷ h) j ≡ reserved) × (place (split s c n j first ∷ h) j ≡ place h s) × (address (split s c n j first ∷ h) j ≡ address h s ▹ join)
    go (at_child xe a b d) = absurd (w.join_not_child xe)
    go (at_next xe a b d) = absurd (w.join_not_next xe)
    go (at_join xe lo t a b d) = (a, b, d)
    go (at_spawner xe a b d) = absurd (omega (arith, xe, fresh, w.spawner_known))
    go (elsewhere ne (inl kn) a b d) = absurd (omega (arith, fresh))
    go (elsewhere ne (inr kn) a b d) = absurd (omega (arith, w.join_known))

pub spawner_seen : (history : History) (strand the_child the_next the_join : ℕ) (first : Bool) → Numbered history strand the_child the_next the_join first →
    (status (split strand the_child the_next the_join first ∷ history) strand ≡ over) × (place (split strand the_child the_next the_join first ∷ history) strand ≡ place history strand) × (address (split strand the_child the_next the_join first ∷ history) strand ≡ address history strand)
spawner_seen h s c n j first w = go (w.see s)
  where
    go : Seen h s c n j first s →
        (status (split s c n j first ∷ h) s ≡ over) × (place (split s c n j first ∷ h) s ≡ place h s) × (address (split s c n j first ∷ h) s ≡ address h s)
    go (at_child xe a b d) = absurd (omega (arith, xe, w.child_is, w.spawner_known))
    go (at_next xe a b d) = absurd (omega (arith, xe, w.next_is, w.spawner_known))
    go (at_join xe lo t a b d) = absurd (omega (arith, w.spawner_known))
    go (at_spawner xe a b d) = (a, b, d)
    go (elsewhere ne kn a b d) = absurd (ne refl)

pub ranges : {h : History} → Legal h → Ranges h
ranges start = record {
  absent_beyond = λ x le. let ne : x ≢ 0 = omega arith in updated_off (λ y. absent) 0 running x ne;
  outermost_beyond = λ x le. refl;
  join_below = λ x k e. absurd (cc);
  waited_below = λ k g. absurd g;
  outstanding_below = λ n k g. absurd g;
}
ranges (then {history = h} {event = split s c n j first} l a) = ranges_split h s c n j first (ranges l) (numbered h s c n j first (ranges l) a)
ranges (then {history = h} {event = same s} l a) =
    let r = ranges l in record {
      absent_beyond = r.absent_beyond;
      outermost_beyond = r.outermost_beyond;
      join_below = r.join_below;
      waited_below = r.waited_below;
      outstanding_below = λ n k g. omega (arith, r.outstanding_below n k g);
    }
ranges (then {history = h} {event = call s} l a) =
    let r = ranges l in record {
      absent_beyond = r.absent_beyond;
      outermost_beyond = λ x le. place_called h s (suc (length h)) x ∙ r.outermost_beyond x le;
      join_below = λ x k e. r.join_below x k (sym (ap join_of (place_called h s (suc (length h)) x)) ∙ e);
      waited_below = r.waited_below;
      outstanding_below = λ n k g. omega (arith, r.outstanding_below n k g);
    }
ranges (then {history = h} {event = resumed s} l a) =
    let r = ranges l in record {
      absent_beyond = r.absent_beyond;
      outermost_beyond = λ x le. place_resumed h s x ∙ r.outermost_beyond x le;
      join_below = λ x k e. r.join_below x k (sym (ap join_of (place_resumed h s x)) ∙ e);
      waited_below = r.waited_below;
      outstanding_below = λ n k g. omega (arith, r.outstanding_below n k g);
    }
ranges (then {history = h} {event = joined s j} l (sync_joined run st none)) =
    let r = ranges l in record {
      absent_beyond = begun_beyond h s j r (running_below h r s run) (block_below h s j r (ap enclosing st));
      outermost_beyond = r.outermost_beyond;
      join_below = r.join_below;
      waited_below = r.waited_below;
      outstanding_below = λ n k g. omega (arith, r.outstanding_below n k g);
    }
ranges (then {history = h} {event = waits s} l (sync_waits run st m some)) =
    let r = ranges l in record {
      absent_beyond = over_beyond h s r (running_below h r s run);
      outermost_beyond = r.outermost_beyond;
      join_below = r.join_below;
      waited_below = λ k g. elim g [ inl e ↦ block_below h s k r e | inr e ↦ r.waited_below k e ];
      outstanding_below = λ n k g. omega (arith, r.outstanding_below n k g);
    }
ranges (then {history = h} {event = ended s} l (child_return run st last)) =
    let r = ranges l in record {
      absent_beyond = over_beyond h s r (running_below h r s run);
      outermost_beyond = r.outermost_beyond;
      join_below = r.join_below;
      waited_below = r.waited_below;
      outstanding_below = λ n k g. omega (arith, r.outstanding_below n k g.1);
    }
ranges (then {history = h} {event = ended_joined s j} l (last_return run st last)) =
    let r = ranges l in record {
      absent_beyond = begun_beyond h s j r (running_below h r s run) (block_below h s j r (ap enclosing st));
      outermost_beyond = r.outermost_beyond;
      join_below = r.join_below;
      waited_below = r.waited_below;
      outstanding_below = λ n k g. omega (arith, r.outstanding_below n k g.1);
    }
ranges (then {history = h} {event = finished s} l (root_return run st)) =
    let r = ranges l in record {
      absent_beyond = over_beyond h s r (running_below h r s run);
      outermost_beyond = r.outermost_beyond;
      join_below = r.join_below;
      waited_below = r.waited_below;
      outstanding_below = λ n k g. omega (arith, r.outstanding_below n k g);
    }
