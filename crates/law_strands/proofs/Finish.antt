-- Each act of a running strand has one answer, and each legal history can go on until the root returns.
use Rattle.std.proofs.Common.{◌≡◌, ◌≢◌, ◌⊎◌, inl, inr, ℕ, zero, suc, ◌+◌, ◌<◌, ◌≤◌, true, false, [], ◌∷◌, ◌++◌, Some, refl, sym, ap, ◌∙◌, subst, subst₂, arith}
use Rattle.model_strands.specs.Updated.{updated}
use Rattle.model_strands.specs.History.{Event, split, same, joined, waits, call, resumed, ended, ended_joined, finished, History}
use Rattle.model_strands.specs.Strands.{Status, absent, reserved, running, over, status, Running, unused}
use Rattle.model_strands.specs.Blocks.{Stack, root, spawned, called, block, caller, stack, enclosing, IsSynced, Outstanding, IsWaitedFor, IsLast}
use Rattle.model_strands.specs.Legal.{Allowed, open_split, next_split, sync_same, sync_joined, sync_waits, function_call, called_return, child_return, last_return, root_return, Legal, start, then}
use Rattle.law_strands.specs.Acts.{Act, spawns, syncs, calls, returns, control_act_of, strand_of, Answers}
use Rattle.model_strands.specs.Extensions.{IsFinished, Extends}
use Rattle.law_strands.specs.Laws.{AnswerLaw, UnsyncedLaw}
use Rattle.model_strands.specs.Laws.{FinishLaw}
use Rattle.law_strands.proofs.Updates.{same_or_not, updated_at, updated_off, updated_case}
use Rattle.std.proofs.Common.{append_assoc}
use Rattle.law_strands.proofs.Places.{Place, outermost, continuation, child_of, place_of, place, join_of, Ranges, running_below, running_not_reserved}
use Rattle.law_strands.proofs.Range.{ranges}
use Rattle.law_strands.proofs.Holders.{Open, Holders, holders, running_open, reserved_open, join_reserved, open_after_end}
use Rattle.law_strands.proofs.Calm.{joined_reserved}
use Rattle.law_strands.proofs.Decisions.{waited_or_not, other_child, any_child}
use Rattle.law_strands.proofs.Busy.{HasFinished, Busy, busy, someone_runs}

-- One answer

block_unsynced : (history : History) (strand t its_join : ℕ) (below : Stack) → t ≡ strand → IsSynced (stack history strand) →
    stack history t ≡ block its_join below → ⊥
block_unsynced h s t j below e sy st = subst IsSynced (ap (stack h) (sym e) ∙ st) sy

same_answer : {h : History} {e f : Event} → Allowed h e → Allowed h f → strand_of f ≡ strand_of e → control_act_of f ≡ control_act_of e → f ≡ e
same_answer (open_split run sy ce ne je) (open_split run' sy' ce' ne' je') es ea = cc
same_answer {h} (open_split {strand = s} run sy ce ne je) (next_split {strand = t} {join = j} {below = below} run' st' ce' ne') es ea =
    absurd (block_unsynced h s t j below es sy st')
same_answer {h} (next_split {strand = s} {join = j} {below = below} run st ce ne) (open_split {strand = t} run' sy' ce' ne' je') es ea =
    absurd (block_unsynced h t s j below (sym es) sy' st)
same_answer (next_split run st ce ne) (next_split run' st' ce' ne') es ea = cc
same_answer (sync_same run sy) (sync_same run' sy') es ea = ap same es
same_answer {h} (sync_same {strand = s} run sy) (sync_joined {strand = t} {join = j} {below = below} run' st' none') es ea =
    absurd (block_unsynced h s t j below es sy st')
same_answer {h} (sync_same {strand = s} run sy) (sync_waits {strand = t} {join = j} {below = below} run' st' m' o') es ea =
    absurd (block_unsynced h s t j below es sy st')
same_answer {h} (sync_joined {strand = s} {join = j} {below = below} run st none) (sync_same {strand = t} run' sy') es ea =
    absurd (block_unsynced h t s j below (sym es) sy' st)
same_answer (sync_joined run st none) (sync_joined run' st' none') es ea = cc
same_answer {h} (sync_joined {strand = s} {join = j} {below = below} run st none) (sync_waits {strand = t} {join = k} {below = below'} run' st' m' o') es ea =
    let e : k ≡ j = cc in absurd (none m' (subst (Outstanding h m') e o'))
same_answer {h} (sync_waits {strand = s} {join = j} {below = below} run st m o) (sync_same {strand = t} run' sy') es ea =
    absurd (block_unsynced h t s j below (sym es) sy' st)
same_answer {h} (sync_waits {strand = s} {join = j} {below = below} run st m o) (sync_joined {strand = t} {join = k} {below = below'} run' st' none') es ea =
    let e : j ≡ k = cc in absurd (none' m (subst (Outstanding h m) e o))
same_answer (sync_waits run st m o) (sync_waits run' st' m' o') es ea = ap waits es
same_answer (function_call run) (function_call run') es ea = ap call es
same_answer (called_return run st) (called_return run' st') es ea = ap resumed es
same_answer (called_return run st) (child_return run' st' last') es ea = absurd (cc)
same_answer (called_return run st) (last_return run' st' last') es ea = absurd (cc)
same_answer (called_return run st) (root_return run' st') es ea = absurd (cc)
same_answer (child_return run st last) (called_return run' st') es ea = absurd (cc)
same_answer (child_return run st last) (child_return run' st' last') es ea = ap ended es
same_answer {h} (child_return {strand = s} {number = n} {join = j} run st last) (last_return {strand = t} {number = m} {join = k} run' st' last') es ea =
    let e : m ≡ n = cc in let g : k ≡ j = cc in absurd (last (subst₂ (IsLast h) e g last'))
same_answer (child_return run st last) (root_return run' st') es ea = absurd (cc)
same_answer (last_return run st last) (called_return run' st') es ea = absurd (cc)
same_answer {h} (last_return {strand = s} {number = n} {join = j} run st last) (child_return {strand = t} {number = m} {join = k} run' st' last') es ea =
    let e : n ≡ m = cc in let g : j ≡ k = cc in absurd (last' (subst₂ (IsLast h) e g last))
same_answer (last_return run st last) (last_return run' st' last') es ea = cc
same_answer (last_return run st last) (root_return run' st') es ea = absurd (cc)
same_answer (root_return run st) (called_return run' st') es ea = absurd (cc)
same_answer (root_return run st) (child_return run' st' last') es ea = absurd (cc)
same_answer (root_return run st) (last_return run' st' last') es ea = absurd (cc)
same_answer (root_return run st) (root_return run' st') es ea = ap finished es
same_answer a b es ea = absurd (cc)

last_or_not : (history : History) → Ranges history → (number its_join : ℕ) → IsLast history number its_join ⊎ (IsLast history number its_join → ⊥)
last_or_not h r n j = go (waited_or_not h j) (other_child h r n j)
  where
    go : IsWaitedFor h j ⊎ (IsWaitedFor h j → ⊥) →
        ((number : ℕ) × ((number ≢ n) × Outstanding h number j)) ⊎ ((number : ℕ) → Outstanding h number j → number ≡ n) → IsLast h n j ⊎ (IsLast h n j → ⊥)
    go (inl w) (inr only) = inl (w, only)
    go (inr nw) q = inr (λ t. nw t.0)
    go (inl w) (inl t) = inr (λ q. t.1.0 (q.1 t.0 t.1.1))

some_answer : (history : History) → Legal history → (strand : ℕ) → Running history strand → (act : Act) →
    (act ≡ returns → IsSynced (stack history strand)) → (event : Event) × Answers history strand act event
some_answer h l s run spawns sy = go (stack h s) refl
  where
    go : (st : Stack) → stack h s ≡ st → (event : Event) × Answers h s spawns event
    go (block j below) e = (split s (unused h) (1 + unused h) j false, (refl, refl, next_split {below = below} run e refl refl))
    go root e = (split s (unused h) (1 + unused h) (2 + unused h) true, (refl, refl, open_split run (subst IsSynced (sym e) tt) refl refl refl))
    go (spawned n j) e = (split s (unused h) (1 + unused h) (2 + unused h) true, (refl, refl, open_split run (subst IsSynced (sym e) tt) refl refl refl))
    go (called n below) e = (split s (unused h) (1 + unused h) (2 + unused h) true, (refl, refl, open_split run (subst IsSynced (sym e) tt) refl refl refl))
some_answer h l s run syncs sy = go (stack h s) refl
  where
    go : (st : Stack) → stack h s ≡ st → (event : Event) × Answers h s syncs event
    go (block j below) e = elim (any_child h (ranges l) j) [
      | inl t ↦ (waits s, (refl, refl, sync_waits {join = j} {below = below} run e t.0 t.1))
      | inr none ↦ (joined s j, (refl, refl, sync_joined {below = below} run e none))
    ]
    go root e = (same s, (refl, refl, sync_same run (subst IsSynced (sym e) tt)))
    go (spawned n j) e = (same s, (refl, refl, sync_same run (subst IsSynced (sym e) tt)))
    go (called n below) e = (same s, (refl, refl, sync_same run (subst IsSynced (sym e) tt)))
some_answer h l s run calls sy = (call s, (refl, refl, function_call run))
some_answer h l s run returns sy = go (stack h s) refl
  where
    go : (st : Stack) → stack h s ≡ st → (event : Event) × Answers h s returns event
    go (block j below) e = absurd (subst IsSynced e (sy refl))
    go root e = (finished s, (refl, refl, root_return run e))
    go (called n below) e = (resumed s, (refl, refl, called_return {number = n} {below = below} run e))
    go (spawned n j) e = elim (last_or_not h (ranges l) n j) [
      | inl t ↦ (ended_joined s j, (refl, refl, last_return {number = n} run e t))
      | inr t ↦ (ended s, (refl, refl, child_return {number = n} {join = j} run e t))
    ]

pub answer_law : AnswerLaw
answer_law h l s run a sy =
    let t = some_answer h l s run a sy in
    (t.0, t.1, (λ other q. same_answer t.1.2 q.2 (q.0 ∙ sym t.1.0) (q.1 ∙ sym t.1.1)))

-- a return with an open block has no answer
pub unsynced_law : UnsyncedLaw
unsynced_law h s j below st (split t c n k first) (e, act, a) = absurd (cc)
unsynced_law h s j below st (same t) (e, act, a) = absurd (cc)
unsynced_law h s j below st (joined t k) (e, act, a) = absurd (cc)
unsynced_law h s j below st (waits t) (e, act, a) = absurd (cc)
unsynced_law h s j below st (call t) (e, act, a) = absurd (cc)
unsynced_law h s j below st (resumed t) (e, act, called_return run at) = let clash = sym at ∙ (ap (stack h) e ∙ st) in absurd (cc)
unsynced_law h s j below st (ended t) (e, act, child_return run at last) = let clash = sym at ∙ (ap (stack h) e ∙ st) in absurd (cc)
unsynced_law h s j below st (ended_joined t k) (e, act, last_return run at last) = let clash = sym at ∙ (ap (stack h) e ∙ st) in absurd (cc)
unsynced_law h s j below st (finished t) (e, act, root_return run at) = let clash = sym at ∙ (ap (stack h) e ∙ st) in absurd (cc)

-- The root's return is the last event

place_cases : (held : Place) → (held ≡ outermost) ⊎ ((number : ℕ) × (join_of held ≡ Some number))
place_cases outermost = inl refl
place_cases (continuation j) = inr (j, refl)
place_cases (child_of j n) = inr (j, refl)

no_reserved : (history : History) → Holders history → Busy history → (strand : ℕ) → Running history strand → place history strand ≡ outermost →
    (fuel other_join : ℕ) → other_join < fuel → status history other_join ≡ reserved → ⊥
no_reserved h o b s run at zero k lt e = omega arith
no_reserved h o b s run at (suc fuel) k lt e = elim (place_cases (place h k)) [
  | inl p ↦ (let same_strand : k ≡ s = o.alone k s (reserved_open h k e) (running_open h s run) (p ∙ sym at) in
      running_not_reserved run (ap (status h) (sym same_strand) ∙ e))
  | inr t ↦ (let younger : t.0 < k = b.younger k t.0 e t.1 in
      no_reserved h o b s run at fuel t.0 (omega arith) (join_reserved h (place h k) t.0 (o.live k (reserved_open h k e)) t.1))
]

pub running_of : {h : History} {e : Event} → Allowed h e → Running h (strand_of e)
running_of (open_split run sy ce ne je) = run
running_of (next_split run st ce ne) = run
running_of (sync_same run sy) = run
running_of (sync_joined run st none) = run
running_of (sync_waits run st m o) = run
running_of (function_call run) = run
running_of (called_return run st) = run
running_of (child_return run st last) = run
running_of (last_return run st last) = run
running_of (root_return run st) = run

pub closed : {h : History} → Legal h → HasFinished h → (strand : ℕ) → Open h strand → ⊥
closed start f x op = f
closed (then {history = h} {event = finished s} l (root_return run st)) f x op =
    let was = open_after_end h s x op in
    elim (place_cases (place h x)) [
      | inl p ↦ was.0 ((holders l).alone x s was.1 (running_open h s run) (p ∙ sym (ap place_of st)))
      | inr t ↦ no_reserved h (holders l) (busy l) s run (ap place_of st) (suc t.0) t.0 (omega arith) (join_reserved h (place h x) t.0 ((holders l).live x was.1) t.1)
    ]
closed (then {history = h} {event = split s c n j first} l a) f x op = closed l f s (running_open h s (running_of a))
closed (then {history = h} {event = same s} l a) f x op = closed l f s (running_open h s (running_of a))
closed (then {history = h} {event = joined s j} l a) f x op = closed l f s (running_open h s (running_of a))
closed (then {history = h} {event = waits s} l a) f x op = closed l f s (running_open h s (running_of a))
closed (then {history = h} {event = call s} l a) f x op = closed l f s (running_open h s (running_of a))
closed (then {history = h} {event = resumed s} l a) f x op = closed l f s (running_open h s (running_of a))
closed (then {history = h} {event = ended s} l a) f x op = closed l f s (running_open h s (running_of a))
closed (then {history = h} {event = ended_joined s j} l a) f x op = closed l f s (running_open h s (running_of a))

-- no event comes after the root's return
pub finished_last : {h : History} → Legal h → HasFinished h → IsFinished h
finished_last start f = f
finished_last (then {history = h} {event = finished s} l a) f = tt
finished_last (then {history = h} {event = split s c n j first} l a) f = absurd (closed l f s (running_open h s (running_of a)))
finished_last (then {history = h} {event = same s} l a) f = absurd (closed l f s (running_open h s (running_of a)))
finished_last (then {history = h} {event = joined s j} l a) f = absurd (closed l f s (running_open h s (running_of a)))
finished_last (then {history = h} {event = waits s} l a) f = absurd (closed l f s (running_open h s (running_of a)))
finished_last (then {history = h} {event = call s} l a) f = absurd (closed l f s (running_open h s (running_of a)))
finished_last (then {history = h} {event = resumed s} l a) f = absurd (closed l f s (running_open h s (running_of a)))
finished_last (then {history = h} {event = ended s} l a) f = absurd (closed l f s (running_open h s (running_of a)))
finished_last (then {history = h} {event = ended_joined s j} l a) f = absurd (closed l f s (running_open h s (running_of a)))

-- What is left to do

abbrev calls_in : Stack → ℕ
calls_in root = 0
calls_in (spawned number join) = 0
calls_in (called number below) = suc (calls_in below)
calls_in (block join below) = calls_in below

abbrev weight : Status → Stack → ℕ
weight absent standing = 0
weight reserved standing = suc (suc (calls_in standing))
weight running standing = suc (calls_in standing)
weight over standing = 0

abbrev sum_up : (ℕ → ℕ) → ℕ → ℕ
sum_up terms zero = 0
sum_up terms (suc count) = terms count + sum_up terms count

abbrev left_to_do : History → ℕ
left_to_do history = sum_up (λ number. weight (status history number) (stack history number)) (unused history)

sum_le : (f g : ℕ → ℕ) → ((strand : ℕ) → g strand ≤ f strand) → (number : ℕ) → sum_up g number ≤ sum_up f number
sum_le f g le zero = omega arith
sum_le f g le (suc m) = omega (arith, le m, sum_le f g le m)

sum_falls : (f g : ℕ → ℕ) → ((strand : ℕ) → g strand ≤ f strand) → (s : ℕ) → g s < f s → (number : ℕ) → s < number → sum_up g number < sum_up f number
sum_falls f g le s lt zero sm = absurd (omega arith)
sum_falls f g le s lt (suc m) sm = elim (same_or_not s m) [
  | inl e ↦ (let here : g m < f m = subst (λ z. g z < f z) e lt in omega (arith, here, sum_le f g le m))
  | inr ne ↦ omega (arith, le m, sum_falls f g le s lt m (omega arith))
]

end_le : (history : History) (strand one : ℕ) →
    weight (updated (status history) strand over one) (stack history one) ≤ weight (status history one) (stack history one)
end_le h s x = updated_case (λ t. weight t (stack h x) ≤ weight (status h x) (stack h x)) (status h) s over x (λ e. omega arith) (λ ne. omega arith)

end_lt : (history : History) (strand : ℕ) → Running history strand →
    weight (updated (status history) strand over strand) (stack history strand) < weight (status history strand) (stack history strand)
end_lt h s run = rw (updated_at (status h) s over s refl, run) (omega arith)

join_le : (history : History) (strand its_join one : ℕ) → status history its_join ≡ reserved →
    weight (updated (updated (status history) strand over) its_join running one) (stack history one) ≤ weight (status history one) (stack history one)
join_le h s j x rj = updated_case (λ t. weight t (stack h x) ≤ weight (status h x) (stack h x)) (updated (status h) s over) j running x
    (λ e. let g : status h x ≡ reserved = ap (status h) e ∙ rj in rw g (omega arith)) (λ ne. end_le h s x)

join_lt : (history : History) (strand its_join : ℕ) → Running history strand → status history its_join ≡ reserved →
    weight (updated (updated (status history) strand over) its_join running strand) (stack history strand) < weight (status history strand) (stack history strand)
join_lt h s j run rj =
    let ne : s ≢ j = λ e. running_not_reserved run (ap (status h) e ∙ rj) in
    subst (λ t. weight t (stack h s) < weight (status h s) (stack h s)) (sym (updated_off (updated (status h) s over) j running s ne)) (end_lt h s run)

weight_caller : (before : Status) (st : Stack) → weight before (caller st) ≤ weight before st
weight_caller absent st = omega arith
weight_caller over st = omega arith
weight_caller reserved root = omega arith
weight_caller reserved (spawned n j) = omega arith
weight_caller reserved (called n below) = omega arith
weight_caller reserved (block j below) = omega arith
weight_caller running root = omega arith
weight_caller running (spawned n j) = omega arith
weight_caller running (called n below) = omega arith
weight_caller running (block j below) = omega arith

resumed_le : (history : History) (strand one : ℕ) →
    weight (status history one) (updated (stack history) strand (caller (stack history strand)) one) ≤ weight (status history one) (stack history one)
resumed_le h s x = updated_case (λ st. weight (status h x) st ≤ weight (status h x) (stack h x)) (stack h) s (caller (stack h s)) x
    (λ e. subst (λ z. weight (status h x) (caller (stack h z)) ≤ weight (status h x) (stack h x)) e (weight_caller (status h x) (stack h x))) (λ ne. omega arith)

resumed_lt : (history : History) (strand number : ℕ) (below : Stack) → Running history strand → stack history strand ≡ called number below →
    weight (status history strand) (updated (stack history) strand (caller (stack history strand)) strand) < weight (status history strand) (stack history strand)
resumed_lt h s n below run st = rw (updated_at (stack h) s (caller (stack h s)) s refl, st, run) (omega arith)

-- the running strand syncs if it has an open block, and returns if not
pub less_to_do : (history : History) → Legal history → (strand : ℕ) → Running history strand →
    (event : Event) × Allowed history event × (left_to_do (event ∷ history) < left_to_do history)
less_to_do h l s run = go (stack h s) refl
  where
    known : s < unused h
    known = running_below h (ranges l) s run

    ends : left_to_do (waits s ∷ h) < left_to_do h
    ends =
        sum_falls (λ x. weight (status h x) (stack h x)) (λ x. weight (updated (status h) s over x) (stack h x)) (end_le h s) s (end_lt h s run) (unused h) known

    joins : (its_join : ℕ) → enclosing (stack h s) ≡ Some its_join → left_to_do (joined s its_join ∷ h) < left_to_do h
    joins j e =
        let rj : status h j ≡ reserved = joined_reserved h s j (holders l) run e in
        sum_falls (λ x. weight (status h x) (stack h x)) (λ x. weight (updated (updated (status h) s over) j running x) (stack h x)) (λ x. join_le h s j x rj) s (join_lt h s j run rj) (unused h) known

    go : (st : Stack) → stack h s ≡ st → (event : Event) × Allowed h event × (left_to_do (event ∷ h) < left_to_do h)
    go root e = (finished s, root_return run e, ends)
    go (spawned n j) e = elim (last_or_not h (ranges l) n j) [
      | inl t ↦ (ended_joined s j, last_return {number = n} run e t, joins j (ap enclosing e))
      | inr t ↦ (ended s, child_return {number = n} {join = j} run e t, ends)
    ]
    go (called n below) e = (
      resumed s,
      called_return {number = n} {below = below} run e,
      sum_falls (λ x. weight (status h x) (stack h x)) (λ x. weight (status h x) (updated (stack h) s (caller (stack h s)) x)) (resumed_le h s) s (resumed_lt h s n below run e) (unused h) known,
    )
    go (block j below) e = elim (any_child h (ranges l) j) [
      | inl t ↦ (waits s, sync_waits {join = j} {below = below} run e t.0 t.1, ends)
      | inr none ↦ (joined s j, sync_joined {below = below} run e none, joins j (ap enclosing e))
    ]

extends_more : (history longer : History) (event : Event) → Extends longer (event ∷ history) → Extends longer history
extends_more h longer e t = (t.0 ++ (e ∷ []), append_assoc t.0 (e ∷ []) h ∙ t.1)

finish_by : (fuel : ℕ) (history : History) → Legal history → left_to_do history < fuel →
    (longer : History) × Extends longer history × Legal longer × IsFinished longer
finish_by zero h l lt = absurd (omega arith)
finish_by (suc fuel) h l lt = elim (someone_runs l) [
  | inl f ↦ (h, ([], refl), l, finished_last l f)
  | inr t ↦ (let n = less_to_do h l t.0 t.1 in
      let r = finish_by fuel (n.0 ∷ h) (then l n.1) (omega (arith, n.2)) in
      (r.0, extends_more h r.0 n.0 r.1, r.2, r.3))
]

pub finish_law : FinishLaw
finish_law h l = finish_by (suc (left_to_do h)) h l (omega arith)
