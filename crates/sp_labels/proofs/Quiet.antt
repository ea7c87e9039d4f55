-- What each event that begins no strand but a join makes of a roster.
use Rattle.std.proofs.Common.{◌≡◌, ◌≢◌, ◌↔◌, inl, inr, ℕ, zero, suc, pred, ◌-◌, ◌<◌, false, List, ◌∷◌, length, get_or, Option, Some, None, refl, sym, ap, ◌∙◌, subst, arith}
use Rattle.sp_labels.specs.declared.record.Standing.{Standing}
use Rattle.sp_labels.specs.declared.record.Standing.TheVariants.{Reserved, Awaited, Running as Runs, Over}
use Rattle.sp_labels.specs.declared.record.Scope.{Scope}
use Rattle.sp_labels.specs.declared.record.Scope.TheVariants.{Call}
use Rattle.sp_labels.specs.declared.record.Record.{Record}
use Rattle.model_strands.specs.History.{Event, same, joined, waits, call, resumed, ended, ended_joined, finished, History}
use Rattle.model_strands.specs.Updated.{updated}
use Rattle.model_strands.specs.Strands.{reserved, running, over, status, unused, Running}
use Rattle.model_strands.specs.Blocks.{Stack, root, spawned, called, block, caller, stack, enclosing, IsSynced, IsWaitedFor, Outstanding, IsLast}
use Rattle.model_strands.specs.Legal.{Allowed, sync_same, sync_joined, sync_waits, function_call, called_return, child_return, last_return, root_return, then}
use Rattle.law_strands.specs.Counts.{children_left, one_less}
use Rattle.law_strands.specs.Lists.{english_items, hebrew_items}
use Rattle.law_strands.proofs.Updates.{updated_at, updated_off}
use Rattle.law_strands.proofs.Places.{place_of, place}
use Rattle.law_strands.proofs.Holders.{Open, IsOpen, holders, running_open}
use Rattle.law_strands.proofs.Calm.{joined_reserved}
use Rattle.law_strands.proofs.Counts.{count_law}
use Rattle.sp_labels.specs.Roster.{Roster, Follows, IsRecord, IsStanding, StandsFor, record_at, IsPut}
use Rattle.sp_labels.proofs.Puts.{each-put, each-two}
use Rattle.sp_labels.proofs.Scopes.{IsCall, depth, stands-added, stands-removed}
use Rattle.sp_labels.proofs.Queries.{running-known}
use Rattle.sp_labels.proofs.Counts.{join-apart, outstanding-of, child-left}
use Rattle.sp_labels.proofs.Acting.{join-known}

pub standing-kept : (older newer : History) (strand : ℕ) → status newer strand ≡ status older strand →
    (IsWaitedFor older strand ↔ IsWaitedFor newer strand) →
    (standing : Standing) → IsStanding older strand standing → IsStanding newer strand standing
standing-kept older newer strand e w Reserved k = (e ∙ k.0, λ t. k.1 (w.1 t))
standing-kept older newer strand e w Awaited k = (e ∙ k.0, w.0 k.1)
standing-kept older newer strand e w Runs k = e ∙ k
standing-kept older newer strand e w Over k = e ∙ k

-- the scope goes on to stand for the stack
abbrev pub KeepsScope : (callers callers_then : List (Option Scope)) (below_call below_then : ℕ → Stack) (older newer : History) (strand : ℕ) (scope : Scope) →
    Type 0
KeepsScope callers callers_then below_call below_then older newer strand scope =
    (status older strand ≡ over → ⊥) → StandsFor callers below_call scope (stack older strand) → StandsFor callers_then below_then scope (stack newer strand)

-- a strand whose status, count and stack stay
pub record-kept : (callers callers_then : List (Option Scope)) (below_call below_then : ℕ → Stack) (older newer : History) (strand : ℕ) (kept : Record) →
    status newer strand ≡ status older strand →
    (IsWaitedFor older strand ↔ IsWaitedFor newer strand) → children_left newer strand ≡ children_left older strand →
    KeepsScope callers callers_then below_call below_then older newer strand kept.scope →
    IsRecord callers below_call older strand kept → IsRecord callers_then below_then newer strand kept
record-kept callers callers_then below_call below_then older newer strand kept e w left scope k = record {
  standing = standing-kept older newer strand e w kept.standing k.standing;
  scope = λ unended. scope (λ o. unended (e ∙ o)) (k.scope (λ o. unended (e ∙ o)));
  children = k.children ∙ sym left;
}

-- an ended strand's record
pub record-over : (callers : List (Option Scope)) (below_call : ℕ → Stack) (older newer : History) (strand : ℕ) (kept : Record) →
    status newer strand ≡ over → children_left newer strand ≡ children_left older strand →
    kept.children_left ≡ children_left older strand → IsRecord callers below_call newer strand (record kept { standing = Over })
record-over callers below_call older newer strand kept e left children = record {
  standing = e;
  scope = λ unended. absurd (unended e);
  children = children ∙ sym left;
}

pub iff-refl : {A : Type 0} → A ↔ A
iff-refl = ((λ a. a), (λ a. a))

-- the roster with these records and callers, and no room
abbrev pub moved : Roster → List Record → List (Option Scope) → Roster
moved roster records callers = record { records = records; callers = callers; english = roster.english; hebrew = roster.hebrew; has_room = false }

-- an event that begins no new number and leaves the orders
follows-on : (roster : Roster) (history : History) (event : Event) (records : List Record) (callers : List (Option Scope)) (below_call : ℕ → Stack) →
    Follows roster history → Allowed history event →
    unused (event ∷ history) ≡ unused history → english_items (event ∷ history) ≡ english_items history →
    hebrew_items (event ∷ history) ≡ hebrew_items history → length records ≡ length roster.records →
    ((strand : ℕ) → strand < length records → IsRecord callers below_call (event ∷ history) strand (record_at records strand)) →
    Follows (moved roster records callers) (event ∷ history)
follows-on roster history event records callers below_call f a un en he len each = record {
  legal = then f.legal a;
  count = len ∙ f.count ∙ sym un;
  below_call = below_call;
  each = each;
  english = record { same = f.english.same ∙ sym en; len = f.english.len ∙ sym len; numbered = f.english.numbered; listing = f.english.listing };
  hebrew = record { same = f.hebrew.same ∙ sym he; len = f.hebrew.len ∙ sym len; numbered = f.hebrew.numbered; listing = f.hebrew.listing };
}

-- a sync with no open block
pub follows-same : (roster : Roster) (history : History) (strand : ℕ) → Follows roster history → Running history strand →
    IsSynced (stack history strand) →
    Follows (record roster { has_room = false }) (same strand ∷ history)
follows-same roster history strand f run synced =
    follows-on roster history (same strand) roster.records roster.callers f.below_call f (sync_same run synced) refl refl refl refl
    (λ any lt. record-kept roster.callers roster.callers f.below_call f.below_call history (same strand ∷ history) any _ refl iff-refl refl (λ o k. k) (f.each any lt))

-- a call
pub follows-call : (roster : Roster) (history : History) (strand key : ℕ) (callers : List (Option Scope)) (kept : Record) (records : List Record) →
    Follows roster history → Running history strand →
    kept ≡ record_at roster.records strand → IsPut roster.records strand (record kept { scope = Call key }) records →
    get_or roster.callers key None ≡ None → get_or callers key None ≡ Some kept.scope →
    ((other : ℕ) → other ≢ key → get_or callers other None ≡ get_or roster.callers other None) →
    Follows (moved roster records callers) (call strand ∷ history)
follows-call roster history strand key callers kept records f run is put vacant held others =
    let newer = call strand ∷ history in
    let then_below = updated f.below_call key (stack history strand) in
    let lt = (running-known roster history f strand run).0 in
    let me : IsRecord roster.callers f.below_call history strand kept = rw is (f.each strand lt) in
    let unended : status history strand ≡ over → ⊥ = λ o. let clash : running ≡ over = sym run ∙ o in cc in
    let goes_on : (scope : Scope) (st : Stack) → StandsFor roster.callers f.below_call scope st → StandsFor callers then_below scope st =
    λ scope st. stands-added roster.callers callers f.below_call key (stack history strand) vacant others scope st in
    follows-on roster history (call strand) records callers then_below f (function_call run) refl refl refl put.len
    (each-put (IsRecord callers then_below newer) roster.records strand (record kept { scope = Call key }) records put
    (record {
      standing = standing-kept history newer strand refl iff-refl kept.standing me.standing;
      scope = λ o. subst (StandsFor callers then_below (Call key)) (sym (updated_at (stack history) strand (called (suc (length history)) (stack history strand)) strand refl))
          (key, kept.scope, refl, held, updated_at f.below_call key (stack history strand) key refl, goes_on kept.scope (stack history strand) (me.scope unended));
      children = me.children;
    })
    (λ any la ne. record-kept roster.callers callers f.below_call then_below history newer any _ refl iff-refl refl
    (λ o k. subst (StandsFor callers then_below _) (sym (updated_off (stack history) strand (called (suc (length history)) (stack history strand)) any ne)) (goes_on _ (stack history any) k)) (f.each any la)))

open_of : (history : History) (strand : ℕ) (standing : Standing) → IsStanding history strand standing → (status history strand ≡ over → ⊥) →
    Open history strand
open_of history strand Reserved k o = subst IsOpen (sym k.0) tt
open_of history strand Awaited k o = subst IsOpen (sym k.0) tt
open_of history strand Runs k o = subst IsOpen (sym k) tt
open_of history strand Over k o = absurd (o k)

-- a called function returns
pub follows-resumed : (roster : Roster) (history : History) (strand key : ℕ) (callers : List (Option Scope)) (kept : Record) (scope : Scope) (records : List Record) (f : Follows roster history) →
    Running history strand →
    kept ≡ record_at roster.records strand → IsPut roster.records strand (record kept { scope = scope }) records →
    IsCall roster.callers f.below_call key (stack history strand) →
    get_or roster.callers key None ≡ Some scope → ((other : ℕ) → other ≢ key → get_or callers other None ≡ get_or roster.callers other None) →
    Follows (moved roster records callers) (resumed strand ∷ history)
follows-resumed roster history strand key callers kept scope records f run is put in_call held others =
    let newer = resumed strand ∷ history in
    let lt = (running-known roster history f strand run).0 in
    let me : IsRecord roster.callers f.below_call history strand kept = rw is (f.each strand lt) in
    let here : caller (stack history strand) ≡ in_call.below = ap caller in_call.stack_is in
    let some : Some in_call.caller ≡ Some scope = sym in_call.caller_is ∙ held in
    let same_scope : in_call.caller ≡ scope = cc in
    let same_depth : depth in_call.below ≡ depth (f.below_call key) = ap depth (sym in_call.below_is) in
    let same_place : place_of (f.below_call key) ≡ place history strand = ap place_of in_call.below_is ∙ sym (ap place_of in_call.stack_is) in
    follows-on roster history (resumed strand) records callers f.below_call f (called_return run in_call.stack_is) refl refl refl put.len
    (each-put (IsRecord callers f.below_call newer) roster.records strand (record kept { scope = scope }) records put
    (record {
      standing = standing-kept history newer strand refl iff-refl kept.standing me.standing;
      scope = λ o. subst (StandsFor callers f.below_call scope) (sym (updated_at (stack history) strand (caller (stack history strand)) strand refl ∙ here))
          (subst (λ x. StandsFor callers f.below_call x in_call.below) same_scope
          (stands-removed roster.callers callers f.below_call key others in_call.caller in_call.below (λ e. omega arith) in_call.stands));
      children = me.children;
    })
    (λ any la ne. record-kept roster.callers callers f.below_call f.below_call history newer any _ refl iff-refl refl
    (λ o k. subst (StandsFor callers f.below_call _) (sym (updated_off (stack history) strand (caller (stack history strand)) any ne))
    (stands-removed roster.callers callers f.below_call key others _ (stack history any)
    (λ e. absurd (ne ((holders f.legal).alone any strand (open_of history any _ (f.each any la).standing o) (running_open history strand run) (e ∙ same_place)))) k)) (f.each any la)))

-- the root function returns
pub follows-finished : (roster : Roster) (history : History) (strand : ℕ) (kept : Record) (records : List Record) → Follows roster history →
    Running history strand → stack history strand ≡ root →
    kept ≡ record_at roster.records strand → IsPut roster.records strand (record kept { standing = Over }) records →
    Follows (moved roster records roster.callers) (finished strand ∷ history)
follows-finished roster history strand kept records f run at is put =
    let newer = finished strand ∷ history in
    let lt = (running-known roster history f strand run).0 in
    let me : IsRecord roster.callers f.below_call history strand kept = rw is (f.each strand lt) in
    follows-on roster history (finished strand) records roster.callers f.below_call f (root_return run at) refl refl refl put.len
    (each-put (IsRecord roster.callers f.below_call newer) roster.records strand (record kept { standing = Over }) records put
    (record-over roster.callers f.below_call history newer strand kept (updated_at (status history) strand over strand refl) refl me.children)
    (λ any la ne. record-kept roster.callers roster.callers f.below_call f.below_call history newer any _ (updated_off (status history) strand over any ne) iff-refl refl (λ o k. k) (f.each any la)))

-- what is known where a strand ends that stands in a block or is the child of one
pub record Ending (roster : Roster) (history : History) (f : Follows roster history) (strand join : ℕ) (kept joining : Record) : Type 0 where
  pub lt : strand < length roster.records
  pub join_lt : join < length roster.records
  pub apart : strand ≢ join
  pub awaits : status history join ≡ reserved
  pub me : IsRecord roster.callers f.below_call history strand kept
  pub its : IsRecord roster.callers f.below_call history join joining

pub ending : (roster : Roster) (history : History) (f : Follows roster history) (strand join : ℕ) (kept joining over_kept : Record) (mid : List Record) →
    Running history strand → enclosing (stack history strand) ≡ Some join →
    kept ≡ record_at roster.records strand → IsPut roster.records strand over_kept mid → joining ≡ record_at mid join →
    Ending roster history f strand join kept joining
ending roster history f strand join kept joining over_kept mid run at is put joining_is =
    let lt = (running-known roster history f strand run).0 in
    let join_lt = join-known roster history f strand join at in
    let apart = join-apart history f.legal strand join run at in
    record {
      lt = lt;
      join_lt = join_lt;
      apart = apart;
      awaits = joined_reserved history strand join (holders f.legal) run at;
      me = rw is (f.each strand lt);
      its = subst (IsRecord roster.callers f.below_call history join) (sym (joining_is ∙ put.others join (λ e. apart (sym e)))) (f.each join join_lt);
    }

-- the strand ends, and its block's join begins or goes on to wait
over-then : (history : History) (strand join : ℕ) → strand ≢ join → updated (updated (status history) strand over) join running strand ≡ over
over-then history strand join apart = updated_off (updated (status history) strand over) join running strand apart ∙ updated_at (status history) strand over strand refl

begun-then : (history : History) (strand join : ℕ) → updated (updated (status history) strand over) join running join ≡ running
begun-then history strand join = updated_at (updated (status history) strand over) join running join refl

others-then : (history : History) (strand join other : ℕ) → other ≢ strand → other ≢ join →
    updated (updated (status history) strand over) join running other ≡ status history other
others-then history strand join other ns nj = updated_off (updated (status history) strand over) join running other nj ∙ updated_off (status history) strand over other ns

-- a sync of a block whose children have returned
pub follows-joined : (roster : Roster) (history : History) (strand join : ℕ) (below : Stack) (kept joining : Record) (mid records : List Record) →
    Follows roster history → Running history strand → stack history strand ≡ block join below →
    kept ≡ record_at roster.records strand → IsPut roster.records strand (record kept { standing = Over }) mid → joining ≡ record_at mid join →
    IsPut mid join (record joining { standing = Runs }) records →
    joining.children_left ≡ 0 → Follows (moved roster records roster.callers) (joined strand join ∷ history)
follows-joined roster history strand join below kept joining mid records f run at is put joining_is put_join none =
    let newer = joined strand join ∷ history in
    let ends = ending roster history f strand join kept joining (record kept { standing = Over }) mid run (ap enclosing at) is put joining_is in
    let awaits : status history join ≡ over → ⊥ = λ o. let clash : reserved ≡ over = sym ends.awaits ∙ o in cc in
    let nobody : (m : ℕ) → Outstanding history m join → ⊥ = ((count_law history f.legal).0 join).0 (sym ends.its.children ∙ none) in
    follows-on roster history (joined strand join) records roster.callers f.below_call f (sync_joined run at nobody) refl refl refl (put_join.len ∙ put.len)
    (each-two (IsRecord roster.callers f.below_call newer) roster.records mid records strand join (record kept { standing = Over }) (record joining { standing = Runs }) put put_join ends.apart
    (record-over roster.callers f.below_call history newer strand kept (over-then history strand join ends.apart) refl ends.me.children)
    (record { standing = begun-then history strand join; scope = λ o. ends.its.scope awaits; children = ends.its.children })
    (λ any la ns nj. record-kept roster.callers roster.callers f.below_call f.below_call history newer any _ (others-then history strand join any ns nj) iff-refl refl (λ o k. k) (f.each any la)))

some_same : {a b : ℕ} → Some a ≡ Some b → a ≡ b
some_same e = cc

-- a sync of a block with a child that has not returned
pub follows-waits : (roster : Roster) (history : History) (strand join : ℕ) (below : Stack) (kept joining : Record) (mid records : List Record) →
    Follows roster history → Running history strand → stack history strand ≡ block join below →
    kept ≡ record_at roster.records strand → IsPut roster.records strand (record kept { standing = Over }) mid → joining ≡ record_at mid join →
    IsPut mid join (record joining { standing = Awaited }) records →
    joining.children_left ≢ 0 → Follows (moved roster records roster.callers) (waits strand ∷ history)
follows-waits roster history strand join below kept joining mid records f run at is put joining_is put_join some =
    let newer = waits strand ∷ history in
    let shown : enclosing (stack history strand) ≡ Some join = ap enclosing at in
    let ends = ending roster history f strand join kept joining (record kept { standing = Over }) mid run shown is put joining_is in
    let awaits : status history join ≡ over → ⊥ = λ o. let clash : reserved ≡ over = sym ends.awaits ∙ o in cc in
    let stays : updated (status history) strand over join ≡ reserved = updated_off (status history) strand over join (λ e. ends.apart (sym e)) ∙ ends.awaits in
    let child = outstanding-of history f.legal join (λ none. some (ends.its.children ∙ none)) in
    follows-on roster history (waits strand) records roster.callers f.below_call f (sync_waits run at child.0 child.1) refl refl refl (put_join.len ∙ put.len)
    (each-two (IsRecord roster.callers f.below_call newer) roster.records mid records strand join (record kept { standing = Over }) (record joining { standing = Awaited }) put put_join ends.apart
    (record-over roster.callers f.below_call history newer strand kept (updated_at (status history) strand over strand refl) refl ends.me.children)
    (record { standing = (stays, inl shown); scope = λ o. ends.its.scope awaits; children = ends.its.children })
    (λ any la ns nj. record-kept roster.callers roster.callers f.below_call f.below_call history newer any _ (updated_off (status history) strand over any ns)
    ((λ w. inr w), (λ w. elim w [ inl e ↦ absurd (nj (some_same (sym e ∙ shown))) | inr v ↦ v ])) refl (λ o k. k) (f.each any la)))

-- the count of a block whose child returns
returned-left : (history : History) (strand number join any : ℕ) → stack history strand ≡ spawned number join →
    one_less (stack history strand) (children_left history) any ≡ updated (children_left history) join (pred (children_left history join)) any
returned-left history strand number join any at = ap (λ st. one_less st (children_left history) any) at

one-fewer : (count : ℕ) → count - 1 ≡ pred count
one-fewer zero = refl
one-fewer (suc count) = omega arith

-- the last child outstanding returns, and its block's sync waits
pub follows-ended-joined : (roster : Roster) (history : History) (strand number join left : ℕ) (kept joining : Record) (mid records : List Record) →
    Follows roster history → Running history strand → stack history strand ≡ spawned number join →
    kept ≡ record_at roster.records strand → IsPut roster.records strand (record kept { standing = Over }) mid → joining ≡ record_at mid join →
    left ≡ joining.children_left - 1 → IsPut mid join (record joining { standing = Runs; children_left = left }) records →
    left ≡ 0 → joining.standing ≡ Awaited → Follows (moved roster records roster.callers) (ended_joined strand join ∷ history)
follows-ended-joined roster history strand number join left kept joining mid records f run at is put joining_is left_is put_join none awaited =
    let newer = ended_joined strand join ∷ history in
    let ends = ending roster history f strand join kept joining (record kept { standing = Over }) mid run (ap enclosing at) is put joining_is in
    let awaits : status history join ≡ over → ⊥ = λ o. let clash : reserved ≡ over = sym ends.awaits ∙ o in cc in
    let some = child-left history f.legal strand number join run at in
    let count : joining.children_left ≡ children_left history join = ends.its.children in
    let one : children_left history join ≡ 1 = grind (arith, some) in
    let last = ((count_law history f.legal).1 strand number join run at).0 one in
    let waited : IsWaitedFor history join = (subst (IsStanding history join) awaited ends.its.standing).1 in
    follows-on roster history (ended_joined strand join) records roster.callers f.below_call f (last_return run at (waited, last)) refl refl refl (put_join.len ∙ put.len)
    (each-two (IsRecord roster.callers f.below_call newer) roster.records mid records strand join (record kept { standing = Over }) (record joining { standing = Runs; children_left = left }) put put_join ends.apart
    (record-over roster.callers f.below_call history newer strand kept (over-then history strand join ends.apart)
    (returned-left history strand number join strand at ∙ updated_off (children_left history) join _ strand ends.apart) ends.me.children)
    (record {
      standing = begun-then history strand join;
      scope = λ o. ends.its.scope awaits;
      children = left_is ∙ ap (λ n. n - 1) count ∙ one-fewer (children_left history join) ∙ sym (returned-left history strand number join join at ∙ updated_at (children_left history) join _ join refl);
    })
    (λ any la ns nj. record-kept roster.callers roster.callers f.below_call f.below_call history newer any _ (others-then history strand join any ns nj) iff-refl
    (returned-left history strand number join any at ∙ updated_off (children_left history) join _ any nj) (λ o k. k) (f.each any la)))

-- a child returns and is not the last, or no sync waits
pub follows-ended : (roster : Roster) (history : History) (strand number join left : ℕ) (kept joining : Record) (mid records : List Record) →
    Follows roster history → Running history strand → stack history strand ≡ spawned number join →
    kept ≡ record_at roster.records strand → IsPut roster.records strand (record kept { standing = Over }) mid → joining ≡ record_at mid join →
    left ≡ joining.children_left - 1 → IsPut mid join (record joining { children_left = left }) records →
    (left ≡ 0 → joining.standing ≡ Awaited → ⊥) → Follows (moved roster records roster.callers) (ended strand ∷ history)
follows-ended roster history strand number join left kept joining mid records f run at is put joining_is left_is put_join not_last =
    let newer = ended strand ∷ history in
    let ends = ending roster history f strand join kept joining (record kept { standing = Over }) mid run (ap enclosing at) is put joining_is in
    let awaits : status history join ≡ over → ⊥ = λ o. let clash : reserved ≡ over = sym ends.awaits ∙ o in cc in
    let count : joining.children_left ≡ children_left history join = ends.its.children in
    let go_on : IsLast history number join → ⊥ = λ last.
    let one : children_left history join ≡ 1 = ((count_law history f.legal).1 strand number join run at).1 last.1 in
    let none : left ≡ 0 = omega arith in
    not_last none (waited-stands history join joining.standing ends.its.standing ends.awaits last.0) in
    follows-on roster history (ended strand) records roster.callers f.below_call f (child_return run at go_on) refl refl refl (put_join.len ∙ put.len)
    (each-two (IsRecord roster.callers f.below_call newer) roster.records mid records strand join (record kept { standing = Over }) (record joining { children_left = left }) put put_join ends.apart
    (record-over roster.callers f.below_call history newer strand kept (updated_at (status history) strand over strand refl)
    (returned-left history strand number join strand at ∙ updated_off (children_left history) join _ strand ends.apart) ends.me.children)
    (record {
      standing = standing-kept history newer join (updated_off (status history) strand over join (λ e. ends.apart (sym e))) iff-refl joining.standing ends.its.standing;
      scope = λ o. ends.its.scope awaits;
      children = left_is ∙ ap (λ n. n - 1) count ∙ one-fewer (children_left history join) ∙ sym (returned-left history strand number join join at ∙ updated_at (children_left history) join _ join refl);
    })
    (λ any la ns nj. record-kept roster.callers roster.callers f.below_call f.below_call history newer any _ (updated_off (status history) strand over any ns) iff-refl
    (returned-left history strand number join any at ∙ updated_off (children_left history) join _ any nj) (λ o k. k) (f.each any la)))
  where
    waited-stands : (older : History) (any : ℕ) (standing : Standing) → IsStanding older any standing → status older any ≡ reserved → IsWaitedFor older any → standing ≡ Awaited
    waited-stands older any Reserved k e w = absurd (k.1 w)
    waited-stands older any Awaited k e w = refl
    waited-stands older any Runs k e w = absurd (let clash : running ≡ reserved = sym k ∙ e in cc)
    waited-stands older any Over k e w = absurd (let clash : over ≡ reserved = sym k ∙ e in cc)
