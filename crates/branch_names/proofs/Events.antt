-- What each event makes of the names.
use Rattle.std.proofs.Common.{◌≡◌, ◌≢◌, ◌⊎◌, ◌↔◌, inl, inr, ℕ, suc, ◌+◌, ◌<◌, Bool, true, false, List, [], ◌∷◌, ◌++◌, length, refl, sym, ap, ◌∙◌, subst, arith, length-append}
use Rattle.std.proofs.Math.ListN.{set}
use Rattle.std.proofs.lemmas.List.{length-set, get_or_append_left}
use Rattle.model_strands.specs.History.{Event, split, same, joined, waits, call, resumed, ended, ended_joined, finished, History}
use Rattle.model_strands.specs.Updated.{updated}
use Rattle.model_strands.specs.Strands.{Status, absent, reserved, running, over, status, unused, Begun, Running}
use Rattle.model_strands.specs.Legal.{Allowed, open_split, Legal, start, then}
use Rattle.law_strands.specs.Branches.{left, right, branch}
use Rattle.law_strands.proofs.Updates.{same_or_not, updated_at, updated_off, updated_case}
use Rattle.law_strands.proofs.Places.{Seen, at_child, at_next, at_join, at_spawner, elsewhere}
use Rattle.law_strands.proofs.Range.{Numbered, ranges, numbered}
use Rattle.law_strands.proofs.Law.{begun_below}
use Rattle.law_strands.proofs.Kept.{begun_stays}
use Rattle.law_strands.proofs.Finish.{running_of}
use Rattle.law_strands.proofs.Branches.{branch_names, branch_stays}
use Rattle.branch_names.specs.Names.{BranchName, Given, Kept, Names, Follows, Takes, TakesJoin, Begins, OtherEventsLaw, branch_number, name_at}
use Rattle.branch_names.proofs.Tables.{Tells, tells-again, tells-given, tells-kept, tells-begun}

-- a list of names is that of a legal history
pub record AreNamesOf (names : List BranchName) (history : History) : Type 0 where
  pub legal : Legal history
  pub count : length names ≡ unused history
  pub tells : Tells names (Begun history) (branch history)

-- names follow a history where their list is that of the history
pub names-follow : (branches : Names) (history : History) → AreNamesOf branches.names history → Follows branches history
names-follow branches history names = record { legal = names.legal; count = names.count; given = names.tells.given; below = names.tells.below; agree = names.tells.agree }

pub followed-names : (branches : Names) (history : History) → Follows branches history → AreNamesOf branches.names history
followed-names branches history follows = record { legal = follows.legal; count = follows.count; tells = record { given = follows.given; below = follows.below; agree = follows.agree } }

-- Room alone tells nothing of the history.
pub room-follows : (old new : Names) (history : History) → new ≡ record old { has_room = true } → Follows old history → Follows new history
room-follows old new history made follows = rw made (names-follow (record old { has_room = true }) history (followed-names old history follows))

-- Strand 0 alone has begun.
pub opening : AreNamesOf (Given 0 ∷ []) []
opening = record {
  legal = start;
  count = refl;
  tells = record {
    given = λ strand lt. ((λ t. inl (updated_at (λ other. absent) 0 running strand (omega arith))), (λ t. let first : strand ≡ 0 = omega arith in rw first tt));
    below = λ strand lt. let first : strand ≡ 0 = omega arith in rw first (omega arith);
    agree = λ strand other lt lt'. let first : strand ≡ 0 = omega arith in let second : other ≡ 0 = omega arith in ((λ t. refl), (λ t. rw (first, second) refl));
  };
}

last-allowed : {history : History} {event : Event} → Legal (event ∷ history) → Allowed history event
last-allowed (then legal allowed) = allowed

-- What a split begins

numbers-of : (history : History) (spawner child next join : ℕ) (first : Bool) → Legal history → Legal (split spawner child next join first ∷ history) →
    Numbered history spawner child next join first
numbers-of history spawner child next join first legal after = numbered history spawner child next join first (ranges legal) (last-allowed after)

-- of the older strands, those have begun that had begun before
begun-split : (history : History) (spawner child next join : ℕ) (first : Bool) → Legal history → Legal (split spawner child next join first ∷ history) →
    (strand : ℕ) → strand < unused history → Begun history strand ↔ Begun (split spawner child next join first ∷ history) strand
begun-split history spawner child next join first legal after strand lt = ((λ begun. begun_stays after strand begun), (λ begun. go begun (numbers.see strand)))
  where
    numbers : Numbered history spawner child next join first
    numbers = numbers-of history spawner child next join first legal after

    go : Begun (split spawner child next join first ∷ history) strand → Seen history spawner child next join first strand → Begun history strand
    go begun (at_child at now place words) = absurd (omega (arith, at, numbers.child_is))
    go begun (at_next at now place words) = absurd (omega (arith, at, numbers.next_is))
    go begun (at_join at beyond opens now place words) = absurd (omega (arith, beyond))
    go begun (at_spawner at now place words) = inl (ap (status history) at ∙ running_of (last-allowed after))
    go (inl begun) (elsewhere off known now place words) = inl (sym now ∙ begun)
    go (inr begun) (elsewhere off known now place words) = inr (sym now ∙ begun)

-- the child and the next strand have begun, and each has a branch that no other strand has
tells-split : (names : List BranchName) (history : History) (spawner child next join : ℕ) (first : Bool) → AreNamesOf names history → Legal (split spawner child next join first ∷ history) →
    Begun (split spawner child next join first ∷ history) child → Begun (split spawner child next join first ∷ history) next →
    branch (split spawner child next join first ∷ history) child ≡ left (suc (length history)) → branch (split spawner child next join first ∷ history) next ≡ right (suc (length history)) →
    Tells ((names ++ Given child ∷ []) ++ Given next ∷ []) (Begun (split spawner child next join first ∷ history)) (branch (split spawner child next join first ∷ history))
tells-split names history spawner child next join first are after begun_child begun_next child_branch next_branch =
    tells-given (names ++ Given child ∷ []) (Begun (split spawner child next join first ∷ history)) (branch (split spawner child next join first ∷ history)) next
    (tells-given names (Begun (split spawner child next join first ∷ history)) (branch (split spawner child next join first ∷ history)) child older
    (omega (arith, numbers.child_is, are.count)) begun_child child_fresh)
    (omega (arith, numbers.next_is, are.count, length-append names (Given child ∷ []))) begun_next next_fresh
  where
    numbers : Numbered history spawner child next join first
    numbers = numbers-of history spawner child next join first are.legal after

    known : (strand : ℕ) → strand < length names → strand < unused history
    known strand lt = omega (arith, are.count)

    older : Tells names (Begun (split spawner child next join first ∷ history)) (branch (split spawner child next join first ∷ history))
    older = tells-again names (Begun history) (Begun (split spawner child next join first ∷ history)) (branch history) (branch (split spawner child next join first ∷ history)) are.tells
        (λ strand lt. begun-split history spawner child next join first are.legal after strand (known strand lt)) (λ strand lt. branch_stays after strand (known strand lt))

    child_fresh : (strand : ℕ) → strand < length names → branch (split spawner child next join first ∷ history) strand ≢ branch (split spawner child next join first ∷ history) child
    child_fresh strand lt e = omega (arith, (branch_names are.legal).left_known strand (suc (length history)) (sym (branch_stays after strand (known strand lt)) ∙ (e ∙ child_branch)))

    sides_differ : left (suc (length history)) ≡ right (suc (length history)) → ⊥
    sides_differ e = cc

    next_fresh : (strand : ℕ) → strand < length (names ++ Given child ∷ []) →
        branch (split spawner child next join first ∷ history) strand ≢ branch (split spawner child next join first ∷ history) next
    next_fresh strand lt e = go (same_or_not strand child)
      where
        go : (strand ≡ child) ⊎ (strand ≢ child) → ⊥
        go (inl at) = sides_differ (sym child_branch ∙ (ap (branch (split spawner child next join first ∷ history)) (sym at) ∙ (e ∙ next_branch)))
        go (inr off) =
            let before : strand < length names = omega (arith, numbers.child_is, are.count, length-append names (Given child ∷ [])) in
            omega (arith, (branch_names are.legal).right_known strand (suc (length history)) (sym (branch_stays after strand (known strand before)) ∙ (e ∙ next_branch)))

-- a later spawn of a block
follows-later : (names : List BranchName) (history : History) (spawner child next join : ℕ) → AreNamesOf names history → Legal (split spawner child next join false ∷ history) →
    AreNamesOf ((names ++ Given child ∷ []) ++ Given next ∷ []) (split spawner child next join false ∷ history)
follows-later names history spawner child next join are after = record {
  legal = after;
  count = omega (arith, are.count, length-append (names ++ Given child ∷ []) (Given next ∷ []), length-append names (Given child ∷ []));
  tells = tells-split names history spawner child next join false are after
      (inl (updated_off _ next running child apart ∙ updated_at _ child running child refl))
      (inl (updated_at _ next running next refl))
      (updated_off _ next (right (suc (length history))) child apart ∙ updated_at _ child (left (suc (length history))) child refl)
      (updated_at _ next (right (suc (length history))) next refl);
}
  where
    numbers : Numbered history spawner child next join false
    numbers = numbers-of history spawner child next join false are.legal after

    apart : child ≢ next
    apart = omega (arith, numbers.child_is, numbers.next_is)

opened-join : {history : History} {spawner child next join : ℕ} → Allowed history (split spawner child next join true) → join ≡ 2 + unused history
opened-join (open_split run synced child_is next_is join_is) = join_is

reserved-not-begun : (now : Status) → now ≡ reserved → (now ≡ running) ⊎ (now ≡ over) → ⊥
reserved-not-begun now e (inl begun) = let same_status : reserved ≡ running = sym e ∙ begun in cc
reserved-not-begun now e (inr begun) = let same_status : reserved ≡ over = sym e ∙ begun in cc

-- the first spawn of a block
follows-first : (names : List BranchName) (history : History) (spawner child next join kept : ℕ) → AreNamesOf names history → Legal (split spawner child next join true ∷ history) →
    kept ≡ branch_number (name_at names spawner) →
    AreNamesOf (((names ++ Given child ∷ []) ++ Given next ∷ []) ++ Kept kept ∷ []) (split spawner child next join true ∷ history)
follows-first names history spawner child next join kept are after kept_is = record {
  legal = after;
  count = omega (arith, are.count, two_more, length-append ((names ++ Given child ∷ []) ++ Given next ∷ []) (Kept kept ∷ []));
  tells = tells-kept ((names ++ Given child ∷ []) ++ Given next ∷ []) (Begun (split spawner child next join true ∷ history)) (branch (split spawner child next join true ∷ history)) spawner join kept
      (tells-split names history spawner child next join true are after
      (inl (updated_off _ join reserved child child_not_join ∙ (updated_off _ next running child apart ∙ updated_at _ child running child refl)))
      (inl (updated_off _ join reserved next next_not_join ∙ updated_at _ next running next refl))
      (updated_off _ join (branch history spawner) child child_not_join ∙ (updated_off _ next (right (suc (length history))) child apart ∙ updated_at _ child (left (suc (length history))) child refl))
      (updated_off _ join (branch history spawner) next next_not_join ∙ updated_at _ next (right (suc (length history))) next refl))
      (omega (arith, two_more, spawner_known))
      (kept_is ∙ sym (ap branch_number spawner_stays))
      (omega (arith, are.count, two_more, opened-join (last-allowed after)))
      (reserved-not-begun (status (split spawner child next join true ∷ history) join) (updated_at _ join reserved join refl))
      (updated_at _ join (branch history spawner) join refl ∙ sym (branch_stays after spawner numbers.spawner_known));
}
  where
    numbers : Numbered history spawner child next join true
    numbers = numbers-of history spawner child next join true are.legal after

    apart : child ≢ next
    apart = omega (arith, numbers.child_is, numbers.next_is)

    child_not_join : child ≢ join
    child_not_join e = numbers.join_not_child (sym e)

    next_not_join : next ≢ join
    next_not_join e = numbers.join_not_next (sym e)

    spawner_known : spawner < length names
    spawner_known = omega (arith, are.count, numbers.spawner_known)

    two_more : length ((names ++ Given child ∷ []) ++ Given next ∷ []) ≡ 2 + length names
    two_more = omega (arith, length-append (names ++ Given child ∷ []) (Given next ∷ []), length-append names (Given child ∷ []))

    spawner_stays : name_at ((names ++ Given child ∷ []) ++ Given next ∷ []) spawner ≡ name_at names spawner
    spawner_stays =
        get_or_append_left (names ++ Given child ∷ []) (Given next ∷ []) (Kept 0) spawner (omega (arith, spawner_known, length-append names (Given child ∷ []))) ∙
        get_or_append_left names (Given child ∷ []) (Kept 0) spawner spawner_known

-- The strand that splits is known.
pub spawner-known : (branches : Names) (spawner child next join : ℕ) (first : Bool) → Takes branches (split spawner child next join first) → spawner < length branches.names
spawner-known branches spawner child next join first (history, follows, after) = omega (arith, follows.count, (numbers-of history spawner child next join first follows.legal after).spawner_known)

-- The strands that it begins are numbered by the names so far.
pub begun-numbered : (branches : Names) (spawner child next join : ℕ) (first : Bool) → Takes branches (split spawner child next join first) → (child ≡ length branches.names) × (next ≡ suc (length branches.names))
begun-numbered branches spawner child next join first (history, follows, after) =
    let numbers = numbers-of history spawner child next join first follows.legal after in
    (omega (arith, follows.count, numbers.child_is), omega (arith, follows.count, numbers.next_is))

two-pushed : (items names one two : List BranchName) (child next : ℕ) → items ≡ names → one ≡ items ++ Given child ∷ [] → two ≡ one ++ Given next ∷ [] →
    two ≡ (names ++ Given child ∷ []) ++ Given next ∷ []
two-pushed items names one two child next same_items first second = second ∙ ap (λ list. list ++ Given next ∷ []) (first ∙ ap (λ list. list ++ Given child ∷ []) same_items)

-- What is pushed at the first spawn of a block follows it.
pub pushed-first : (items one two three : List BranchName) (branches new : Names) (history : History) (spawner child next join kept : ℕ) (first : Bool) → items ≡ branches.names →
    one ≡ items ++ Given child ∷ [] → two ≡ one ++ Given next ∷ [] → three ≡ two ++ Kept kept ∷ [] → first ≡ true → new.names ≡ three →
    Follows branches history → Legal (split spawner child next join first ∷ history) → kept ≡ branch_number (name_at branches.names spawner) → Follows new (split spawner child next join first ∷ history)
pushed-first items one two three branches new history spawner child next join kept true same_items is_one is_two is_three opens is_new follows after kept_is =
    names-follow new (split spawner child next join true ∷ history)
    (subst (λ list. AreNamesOf list (split spawner child next join true ∷ history)) (sym (is_new ∙ (is_three ∙ ap (λ list. list ++ Kept kept ∷ []) (two-pushed items branches.names one two child next same_items is_one is_two))))
    (follows-first branches.names history spawner child next join kept (followed-names branches history follows) after kept_is))
pushed-first items one two three branches new history spawner child next join kept false same_items is_one is_two is_three opens is_new follows after kept_is = absurd (cc)

-- What is pushed at a later spawn follows it.
pub pushed-later : (items one two : List BranchName) (branches new : Names) (history : History) (spawner child next join : ℕ) (first : Bool) → items ≡ branches.names →
    one ≡ items ++ Given child ∷ [] → two ≡ one ++ Given next ∷ [] → first ≡ false → new.names ≡ two →
    Follows branches history → Legal (split spawner child next join first ∷ history) → Follows new (split spawner child next join first ∷ history)
pushed-later items one two branches new history spawner child next join false same_items is_one is_two continues is_new follows after =
    names-follow new (split spawner child next join false ∷ history)
    (subst (λ list. AreNamesOf list (split spawner child next join false ∷ history)) (sym (is_new ∙ two-pushed items branches.names one two child next same_items is_one is_two))
    (follows-later branches.names history spawner child next join (followed-names branches history follows) after))
pushed-later items one two branches new history spawner child next join true same_items is_one is_two continues is_new follows after = absurd (cc)

-- What a join begins

-- a strand that ends has begun before
begun-ended : (history : History) (ending strand : ℕ) → Running history ending →
    (updated (status history) ending over strand ≡ running) ⊎ (updated (status history) ending over strand ≡ over) → Begun history strand
begun-ended history ending strand run =
    updated_case (λ now. (now ≡ running) ⊎ (now ≡ over) → Begun history strand) (status history) ending over strand (λ at begun. inl (ap (status history) at ∙ run)) (λ off begun. begun)

join-known : (history : History) (event : Event) (join : ℕ) → Begins event join → Legal (event ∷ history) → join < unused history
join-known history (joined strand begun) join at after =
    let lt : begun < unused history = begun_below (joined strand begun ∷ history) (ranges after) begun (inl (updated_at _ begun running begun refl)) in omega (arith, at)
join-known history (ended_joined strand begun) join at after =
    let lt : begun < unused history = begun_below (ended_joined strand begun ∷ history) (ranges after) begun (inl (updated_at _ begun running begun refl)) in omega (arith, at)
join-known history (split strand child next begun first) join at after = absurd at
join-known history (same strand) join at after = absurd at
join-known history (waits strand) join at after = absurd at
join-known history (call strand) join at after = absurd at
join-known history (resumed strand) join at after = absurd at
join-known history (ended strand) join at after = absurd at
join-known history (finished strand) join at after = absurd at

-- the strand that ends makes the join begin
tells-joined : (names : List BranchName) (history : History) (ending join kept : ℕ) → AreNamesOf names history → Running history ending → join < length names → kept ≡ branch_number (name_at names join) →
    Tells (set names join (Given kept))
    (λ strand. (updated (updated (status history) ending over) join running strand ≡ running) ⊎ (updated (updated (status history) ending over) join running strand ≡ over)) (branch history)
tells-joined names history ending join kept are run lt kept_is =
    tells-begun names (Begun history) (λ strand. (updated (updated (status history) ending over) join running strand ≡ running) ⊎ (updated (updated (status history) ending over) join running strand ≡ over))
    (branch history) join kept are.tells lt kept_is
    (inl (updated_at (updated (status history) ending over) join running join refl))
    (λ strand known off. (
      (λ begun. subst (λ now. (now ≡ running) ⊎ (now ≡ over)) (sym (updated_off (updated (status history) ending over) join running strand off)) (still strand begun)),
      (λ begun. begun-ended history ending strand run (subst (λ now. (now ≡ running) ⊎ (now ≡ over)) (updated_off (updated (status history) ending over) join running strand off) begun)),
    ))
  where
    still : (strand : ℕ) → Begun history strand → (updated (status history) ending over strand ≡ running) ⊎ (updated (status history) ending over strand ≡ over)
    still strand begun = updated_case (λ now. (now ≡ running) ⊎ (now ≡ over)) (status history) ending over strand (λ at. inr refl) (λ off. begun)

follows-joined : (names : List BranchName) (history : History) (event : Event) (join kept : ℕ) → AreNamesOf names history → Begins event join → Legal (event ∷ history) →
    kept ≡ branch_number (name_at names join) → AreNamesOf (set names join (Given kept)) (event ∷ history)
follows-joined names history (joined ending begun) join kept are at after kept_is =
    subst (λ place. AreNamesOf (set names place (Given kept)) (joined ending begun ∷ history)) at
    (record {
      legal = after;
      count = length-set names begun (Given kept) ∙ are.count;
      tells = tells-joined names history ending begun kept are (running_of (last-allowed after)) (omega (arith, are.count, at, join-known history (joined ending begun) join at after))
          (kept_is ∙ ap (λ place. branch_number (name_at names place)) (sym at));
    })
follows-joined names history (ended_joined ending begun) join kept are at after kept_is =
    subst (λ place. AreNamesOf (set names place (Given kept)) (ended_joined ending begun ∷ history)) at
    (record {
      legal = after;
      count = length-set names begun (Given kept) ∙ are.count;
      tells = tells-joined names history ending begun kept are (running_of (last-allowed after)) (omega (arith, are.count, at, join-known history (ended_joined ending begun) join at after))
          (kept_is ∙ ap (λ place. branch_number (name_at names place)) (sym at));
    })
follows-joined names history (split strand child next begun first) join kept are at after kept_is = absurd at
follows-joined names history (same strand) join kept are at after kept_is = absurd at
follows-joined names history (waits strand) join kept are at after kept_is = absurd at
follows-joined names history (call strand) join kept are at after kept_is = absurd at
follows-joined names history (resumed strand) join kept are at after kept_is = absurd at
follows-joined names history (ended strand) join kept are at after kept_is = absurd at
follows-joined names history (finished strand) join kept are at after kept_is = absurd at

-- A name that is given to the join follows an event that begins it.
pub given-joined : (items : List BranchName) (branches new : Names) (history : History) (event : Event) (join kept : ℕ) → items ≡ branches.names → new.names ≡ set items join (Given kept) →
    Follows branches history → Begins event join → Legal (event ∷ history) → kept ≡ branch_number (name_at branches.names join) → Follows new (event ∷ history)
given-joined items branches new history event join kept same_items is_new follows at after kept_is =
    names-follow new (event ∷ history)
    (subst (λ list. AreNamesOf list (event ∷ history)) (sym (is_new ∙ ap (λ list. set list join (Given kept)) same_items))
    (follows-joined branches.names history event join kept (followed-names branches history follows) at after kept_is))

-- The join that begins is known.
pub joined-known : (branches : Names) (join : ℕ) → TakesJoin branches join → join < length branches.names
joined-known branches join (event, at, (history, follows, after)) = omega (arith, follows.count, join-known history event join at after)

-- What any other event begins

-- after the event just the same strands have begun
follows-still : (branches : Names) (history : History) (event : Event) → Follows branches history → Legal (event ∷ history) → unused (event ∷ history) ≡ unused history →
    ((strand : ℕ) → Begun (event ∷ history) strand → Begun history strand) → Follows branches (event ∷ history)
follows-still branches history event follows after count before =
    names-follow branches (event ∷ history) (record {
      legal = after;
      count = follows.count ∙ sym count;
      tells = tells-again branches.names (Begun history) (Begun (event ∷ history)) (branch history) (branch (event ∷ history)) (followed-names branches history follows).tells
          (λ strand lt. ((λ begun. begun_stays after strand begun), before strand)) (λ strand lt. branch_stays after strand (omega (arith, follows.count)));
    })

pub other-events : OtherEventsLaw
other-events branches history (split strand child next join first) follows none after = absurd none
other-events branches history (joined strand join) follows none after = absurd none
other-events branches history (ended_joined strand join) follows none after = absurd none
other-events branches history (same strand) follows none after = follows-still branches history (same strand) follows after refl (λ other begun. begun)
other-events branches history (call strand) follows none after = follows-still branches history (call strand) follows after refl (λ other begun. begun)
other-events branches history (resumed strand) follows none after = follows-still branches history (resumed strand) follows after refl (λ other begun. begun)
other-events branches history (waits strand) follows none after =
    follows-still branches history (waits strand) follows after refl (λ other begun. begun-ended history strand other (running_of (last-allowed after)) begun)
other-events branches history (ended strand) follows none after =
    follows-still branches history (ended strand) follows after refl (λ other begun. begun-ended history strand other (running_of (last-allowed after)) begun)
other-events branches history (finished strand) follows none after =
    follows-still branches history (finished strand) follows after refl (λ other begun. begun-ended history strand other (running_of (last-allowed after)) begun)
