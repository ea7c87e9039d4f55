-- Spans of numbers that lie one behind another.
-- s, t: spans; ss, xs, ys: lists of them; n: a number
use Rattle.std.proofs.Common.{◌≡◌, ℕ, zero, suc, ◌+◌, ◌<◌, ◌≤◌, Bool, true, false, ◌||◌, List, [], ◌∷◌, ◌++◌, length, get_or, set, take, ◌-◌, Some, length-set, length-append, refl, sym, ap, ◌∙◌, arith}
use Rattle.std.proofs.lemmas.Bool.Decides.{nat_tests}
use Rattle.std.specs.List.{AllWithin, slice_get}
use Rattle.std.proofs.lemmas.Option.{none-some, same_Some, slice_get_within, slice_get_read}
use Rattle.std.proofs.lemmas.Bool.{false≢true}
use Rattle.std.proofs.lemmas.List.{get_or_default, take-append-le}
use Rattle.serial_judge.specs.declared.spans.Span.{Span}
use Rattle.serial_judge.specs.Spans.{has_number, is_held, IsAscending, IsAdded}

pub ascending-bounds : (low : ℕ) (spans : List Span) (high : ℕ) → IsAscending low spans high → low ≤ high
ascending-bounds low [] high a = a
ascending-bounds low (s ∷ ss) high (l, o, a) = let k : s.end ≤ high = ascending-bounds s.end ss high a in omega arith

pub ascending-wider : (low : ℕ) (spans : List Span) (high wide : ℕ) → IsAscending low spans high → high ≤ wide → IsAscending low spans wide
ascending-wider low [] high wide a w = omega arith
ascending-wider low (s ∷ ss) high wide (l, o, a) w = (l, o, ascending-wider s.end ss high wide a w)

pub ascending-push : (low : ℕ) (spans : List Span) (span : Span) → IsAscending low spans span.begin → span.begin ≤ span.end →
    IsAscending low (spans ++ span ∷ []) span.end
ascending-push low [] t a o = (a, o, omega arith)
ascending-push low (s ∷ ss) t (l, p, a) o = (l, p, ascending-push s.end ss t a o)

pub ascending-take : (low : ℕ) (spans : List Span) (high n : ℕ) → IsAscending low spans high → IsAscending low (take n spans) high
ascending-take low [] high zero a = a
ascending-take low [] high (suc n) a = a
ascending-take low (s ∷ ss) high zero (l, o, a) = let k : s.end ≤ high = ascending-bounds s.end ss high a in omega arith
ascending-take low (s ∷ ss) high (suc n) (l, o, a) = (l, o, ascending-take s.end ss high n a)

pub none_below : (span : Span) (number : ℕ) → number < span.begin → has_number span number ≡ false
none_below s n h = grind (arith, nat_tests)

pub none_behind : (span : Span) (number : ℕ) → span.end ≤ number → has_number span number ≡ false
none_behind s n h = grind (arith, nat_tests)

pub held-below : (low : ℕ) (spans : List Span) (high number : ℕ) → IsAscending low spans high → number < low → is_held spans number ≡ false
held-below low [] high n a h = refl
held-below low (s ∷ ss) high n (l, o, a) h = rw (none_below s n (omega arith), held-below s.end ss high n a (omega arith)) refl

pub held-behind : (low : ℕ) (spans : List Span) (high number : ℕ) → IsAscending low spans high → high ≤ number → is_held spans number ≡ false
held-behind low [] high n a h = refl
held-behind low (s ∷ ss) high n (l, o, a) h =
    let k : s.end ≤ high = ascending-bounds s.end ss high a in
    rw (none_behind s n (omega arith), held-behind s.end ss high n a h) refl

pub or-false : (b : Bool) → (b || false) ≡ b
or-false true = refl
or-false false = refl

pub or-or : (a b c : Bool) → (a || (b || c)) ≡ ((a || b) || c)
or-or true b c = refl
or-or false b c = refl

pub held-append : (xs ys : List Span) (number : ℕ) → is_held (xs ++ ys) number ≡ is_held xs number || is_held ys number
held-append [] ys n = refl
held-append (s ∷ xs) ys n = ap (λ z. has_number s n || z) (held-append xs ys n) ∙ or-or (has_number s n) (is_held xs n) (is_held ys n)

pub held-push : (xs : List Span) (span : Span) (number : ℕ) → is_held (xs ++ span ∷ []) number ≡ is_held xs number || has_number span number
held-push xs s n = held-append xs (s ∷ []) n ∙ ap (λ z. is_held xs n || z) (or-false (has_number s n))

end_from : (low : ℕ) (spans : List Span) (high j : ℕ) (d : Span) → IsAscending low spans high → j < length spans → low ≤ (get_or spans j d).end
end_from low [] high j d a h = absurd (omega arith)
end_from low (s ∷ ss) high zero d (l, o, a) h = omega arith
end_from low (s ∷ ss) high (suc j) d (l, o, a) h = let k : s.end ≤ (get_or ss j d).end = end_from s.end ss high j d a (omega arith) in omega arith

pub ends_ascend : (low : ℕ) (spans : List Span) (high i j : ℕ) (d : Span) → IsAscending low spans high → i ≤ j → j < length spans →
    (get_or spans i d).end ≤ (get_or spans j d).end
ends_ascend low [] high i j d a h k = absurd (omega arith)
ends_ascend low (s ∷ ss) high zero zero d (l, o, a) h k = omega arith
ends_ascend low (s ∷ ss) high zero (suc j) d (l, o, a) h k = end_from s.end ss high j d a (omega arith)
ends_ascend low (s ∷ ss) high (suc i) zero d (l, o, a) h k = absurd (omega arith)
ends_ascend low (s ∷ ss) high (suc i) (suc j) d (l, o, a) h k = ends_ascend s.end ss high i j d a (omega arith) (omega arith)

-- the first span that ends above the number is the only one that may have it
pub held_at : (low : ℕ) (spans : List Span) (high number at : ℕ) (d : Span) → IsAscending low spans high → at < length spans →
    AllWithin (λ span. span.end ≤ number) spans 0 at → AllWithin (λ span. number < span.end) spans at (length spans) →
    is_held spans number ≡ has_number (get_or spans at d) number
held_at low [] high n at d a h before behind = absurd (omega arith)
held_at low (s ∷ ss) high n zero d (l, o, a) h before behind =
    let k : n < s.end = behind 0 s (omega arith) (omega arith) in
    ap (λ z. has_number s n || z) (held-below s.end ss high n a k) ∙ or-false (has_number s n)
held_at low (s ∷ ss) high n (suc at) d (l, o, a) h before behind =
    let k : s.end ≤ n = before 0 s (omega arith) (omega arith) in
    ap (λ z. z || is_held ss n) (none_behind s n k) ∙
    held_at s.end ss high n at d a (omega arith) (λ i e lo hi. before (suc i) e (omega arith) (omega arith))
    (λ i e lo hi. behind (suc i) e (omega arith) (omega arith))

pub held_none : (low : ℕ) (spans : List Span) (high number : ℕ) → IsAscending low spans high →
    AllWithin (λ span. span.end ≤ number) spans 0 (length spans) → is_held spans number ≡ false
held_none low [] high n a before = refl
held_none low (s ∷ ss) high n (l, o, a) before =
    let k : s.end ≤ n = before 0 s (omega arith) (omega arith) in
    ap (λ z. z || is_held ss n) (none_behind s n k) ∙ held_none s.end ss high n a (λ i e lo hi. before (suc i) e (omega arith) (omega arith))

module _ (spans : List Span) (high number : ℕ) (ascending : IsAscending 1 spans high) where
  -- the steps of a search
  pub more_before : (low middle : ℕ) (d : Span) → middle < length spans → (get_or spans middle d).end ≤ number →
      AllWithin (λ span. span.end ≤ number) spans 0 (middle + 1)
  more_before low middle d lt e i d' lo hi =
      let k : (get_or spans i d').end ≤ (get_or spans middle d').end = ends_ascend 1 spans high i middle d' ascending (omega arith) lt in
      let same : get_or spans middle d' ≡ get_or spans middle d = get_or_default spans middle d' d lt in
      omega (arith, ap (λ (s : Span). s.end) same)

  pub more_behind : (middle : ℕ) (d : Span) → middle < length spans → number < (get_or spans middle d).end →
      AllWithin (λ span. number < span.end) spans middle (length spans)
  more_behind middle d lt e i d' lo hi =
      let k : (get_or spans middle d').end ≤ (get_or spans i d').end = ends_ascend 1 spans high middle i d' ascending lo hi in
      let same : get_or spans middle d' ≡ get_or spans middle d = get_or_default spans middle d' d lt in
      omega (arith, ap (λ (s : Span). s.end) same)

  -- and its end
  pub found_here : (low up : ℕ) (d : Span) → up ≤ low → AllWithin (λ span. span.end ≤ number) spans 0 low →
      AllWithin (λ span. number < span.end) spans up (length spans) → low < length spans → is_held spans number ≡ has_number (get_or spans low d) number
  found_here low up d done before behind lt =
      held_at 1 spans high number low d ascending lt before (λ i e lo hi. behind i e (omega arith) hi)

  pub found_nowhere : (low : ℕ) → AllWithin (λ span. span.end ≤ number) spans 0 low → length spans ≤ low → is_held spans number ≡ false
  found_nowhere low before past = held_none 1 spans high number ascending (λ i d lo hi. before i d lo (omega arith))

-- up to the end of the last one
pub ascending-last : (low : ℕ) (spans : List Span) (high at : ℕ) (last : Span) → IsAscending low spans high → suc at ≡ length spans →
    slice_get spans at ≡ Some last → IsAscending low spans last.end
ascending-last low [] high at t a e g = absurd (none-some t g)
ascending-last low (s ∷ []) high zero t (l, o, a) e g = (l, o, (let same : s ≡ t = same_Some s t g in omega (arith, ap (λ (z : Span). z.end) same)))
ascending-last low (s ∷ []) high (suc at) t a e g = absurd (none-some t g)
ascending-last low (s ∷ r ∷ ss) high zero t a e g = absurd (omega arith)
ascending-last low (s ∷ r ∷ ss) high (suc at) t (l, o, a) e g = (l, o, ascending-last s.end (r ∷ ss) high at t a (omega arith) g)

true-or : (b c : Bool) → b ≡ true → (b || c) ≡ true
true-or true c e = refl
true-or false c e = absurd (false≢true e)

pub or-true : (b c : Bool) → c ≡ true → (b || c) ≡ true
or-true true c e = refl
or-true false c e = e

pub held-there : (spans : List Span) (number at : ℕ) (span : Span) → slice_get spans at ≡ Some span → has_number span number ≡ true →
    is_held spans number ≡ true
held-there [] n at s g h = absurd (none-some s g)
held-there (t ∷ ss) n zero s g h =
    true-or (has_number t n) (is_held ss n) (ap (λ (z : Span). has_number z n) (same_Some t s g) ∙ h)
held-there (t ∷ ss) n (suc at) s g h = or-true (has_number t n) (is_held ss n) (held-there ss n at s g h)

module _ (spans : List Span) (high number : ℕ) (last : Span) (ascending : IsAscending 1 spans high)
    (last_is : Some last ≡ slice_get spans (length spans - 1)) where
  at_last : suc (length spans - 1) ≡ length spans
  at_last = let k : length spans - 1 < length spans = slice_get_within spans (length spans - 1) last (sym last_is) in omega arith

  pub behind_last : last.end ≤ number → is_held spans number ≡ false
  behind_last h =
      held-behind 1 spans last.end number (ascending-last 1 spans high (length spans - 1) last ascending at_last (sym last_is)) h

  pub in_last : number < last.end → last.begin ≤ number → is_held spans number ≡ true
  in_last h k = held-there spans number (length spans - 1) last (sym last_is) (grind (arith, nat_tests))

-- the last span, made longer
abbrev pub longer : Span → Span → Span
longer last span = record { begin = last.begin; end = span.end; site = last.site }

longer-has : (last span : Span) (number : ℕ) → last.begin ≤ last.end → last.end ≡ span.begin → span.begin ≤ span.end →
    has_number (longer last span) number ≡ has_number last number || has_number span number
longer-has t s n o e p = grind (arith, nat_tests)

held-longer : (low : ℕ) (spans : List Span) (high at : ℕ) (last span : Span) (number : ℕ) → IsAscending low spans high → suc at ≡ length spans →
    slice_get spans at ≡ Some last → last.end ≡ span.begin → span.begin ≤ span.end →
    is_held (set spans at (longer last span)) number ≡ is_held spans number || has_number span number
held-longer low [] high at t s n a e g m p = absurd (none-some t g)
held-longer low (r ∷ []) high zero t s n (l, o, a) e g m p =
    let same : r ≡ t = same_Some r t g in
    let k : t.begin ≤ t.end = omega (arith, o, ap (λ (z : Span). z.end) same, ap (λ (z : Span). z.begin) same) in
    or-false (has_number (longer t s) n) ∙
    (longer-has t s n k m p ∙ ap (λ (z : Span). has_number z n || has_number s n) (sym same) ∙
    ap (λ z. z || has_number s n) (sym (or-false (has_number r n))))
held-longer low (r ∷ []) high (suc at) t s n a e g m p = absurd (none-some t g)
held-longer low (r ∷ q ∷ ss) high zero t s n a e g m p = absurd (omega arith)
held-longer low (r ∷ q ∷ ss) high (suc at) t s n (l, o, a) e g m p =
    ap (λ z. has_number r n || z) (held-longer r.end (q ∷ ss) high at t s n a (omega arith) g m p) ∙
    or-or (has_number r n) (is_held (q ∷ ss) n) (has_number s n)

ascending-longer : (low : ℕ) (spans : List Span) (high at : ℕ) (last span : Span) → IsAscending low spans high → suc at ≡ length spans →
    slice_get spans at ≡ Some last → last.end ≡ span.begin → span.begin ≤ span.end → IsAscending low (set spans at (longer last span)) span.end
ascending-longer low [] high at t s a e g m p = absurd (none-some t g)
ascending-longer low (r ∷ []) high zero t s (l, o, a) e g m p =
    let same : r ≡ t = same_Some r t g in
    let begins : r.begin ≡ t.begin = ap (λ (z : Span). z.begin) same in
    let ends : r.end ≡ t.end = ap (λ (z : Span). z.end) same in
    (omega arith, omega arith, omega arith)
ascending-longer low (r ∷ []) high (suc at) t s a e g m p = absurd (none-some t g)
ascending-longer low (r ∷ q ∷ ss) high zero t s a e g m p = absurd (omega arith)
ascending-longer low (r ∷ q ∷ ss) high (suc at) t s (l, o, a) e g m p =
    (l, o, ascending-longer r.end (q ∷ ss) high at t s a (omega arith) g m p)

pub take-set : (spans : List Span) (at : ℕ) (span : Span) (count : ℕ) → count ≤ at → take count (set spans at span) ≡ take count spans
take-set [] at s count h = refl
take-set (r ∷ ss) zero s zero h = refl
take-set (r ∷ ss) zero s (suc count) h = absurd (omega arith)
take-set (r ∷ ss) (suc at) s zero h = refl
take-set (r ∷ ss) (suc at) s (suc count) h = ap (λ z. r ∷ z) (take-set ss at s count (omega arith))

pub added_longer : (spans : List Span) (high fixed at : ℕ) (last span : Span) → IsAscending 1 spans high → suc at ≡ length spans → fixed ≤ at →
    slice_get spans at ≡ Some last → last.end ≡ span.begin → span.begin ≤ span.end → IsAdded spans (set spans at (longer last span)) fixed span
added_longer spans high fixed at t s a e f g m p = record {
  held = λ n. held-longer 1 spans high at t s n a e g m p;
  ascending = ascending-longer 1 spans high at t s a e g m p;
  as_before = λ count h. take-set spans at (longer t s) count (omega arith);
  no_fewer = omega (arith, length-set spans at (longer t s));
}

pub lengthened : (spans : List Span) (fixed at : ℕ) (last read span : Span) → IsAscending 1 spans span.begin → span.begin ≤ span.end →
    suc at ≡ length spans → fixed ≤ at → last ≡ get_or spans at last → read ≡ get_or spans at read → read.end ≡ span.begin →
    IsAdded spans (set spans at (longer last span)) fixed span
lengthened spans fixed at t r s a p e f is is' m =
    let lt : at < length spans = omega arith in
    let same : t ≡ r = is ∙ (get_or_default spans at t r lt ∙ sym is') in
    added_longer spans s.begin fixed at t s a e f (slice_get_read spans (length spans) at t refl lt is) (ap (λ (z : Span). z.end) same ∙ m) p

pub added_push : (spans : List Span) (fixed : ℕ) (span : Span) → IsAscending 1 spans span.begin → span.begin ≤ span.end → fixed ≤ length spans →
    IsAdded spans (spans ++ span ∷ []) fixed span
added_push spans fixed s a p f = record {
  held = held-push spans s;
  ascending = ascending-push 1 spans s a p;
  as_before = λ count h. (let k : count ≤ length spans = omega arith in rw take-append-le refl);
  no_fewer = omega (arith, length-append spans (s ∷ []));
}

or-none : (b : Bool) (c : Bool) → c ≡ false → b ≡ (b || c)
or-none true c e = refl
or-none false c e = sym e

pub added_none : (spans : List Span) (fixed : ℕ) (span : Span) → IsAscending 1 spans span.begin → span.begin ≡ span.end → fixed ≤ length spans →
    IsAdded spans spans fixed span
added_none spans fixed s a e f = record {
  held = λ n. or-none (is_held spans n) (has_number s n) (empty n);
  ascending = ascending-wider 1 spans s.begin s.end a (omega arith);
  as_before = λ count h. refl;
  no_fewer = f;
}
  where
    empty : (n : ℕ) → has_number s n ≡ false
    empty n = grind (arith, nat_tests)
