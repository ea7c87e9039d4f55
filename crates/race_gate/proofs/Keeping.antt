-- What is kept of reducers stays kept as the history goes on.
use Rattle.std.proofs.Common.{◌≡◌, ◌⊎◌, inl, inr, ℕ, suc, ◌<◌, ◌^◌, List, [], ◌∷◌, ◌++◌, length, get_or, Contains, cond, eqb, true, IsTrue, refl, sym, ◌∙◌, ap, subst, arith, lit<}
use Rattle.std.proofs.lemmas.List.{append-nil}
use Rattle.std.proofs.lemmas.List.Elements.{Contains-append_left, Contains-append_right, Contains-append_cases}
use Rattle.model_accesses.specs.Table.{is_reducer_read}
use Rattle.model_strands.specs.History.{Event, History}
use Rattle.model_strands.specs.Strands.{Running, Begun}
use Rattle.model_strands.specs.Legal.{Allowed}
use Rattle.law_strands.specs.Branches.{branch}
use Rattle.branch_names.specs.Names.{Follows}
use Rattle.model_accesses.specs.Reads.{ReducerRead, IsReadOf}
use Rattle.view_read_rule.specs.Reads.{AreOfOneBranch, Remembers}
use Rattle.view_read_rule.proofs.Granted.{later}
use Rattle.model_reducers.specs.Items as one
use Rattle.model_reducers.specs.Items.{Items}
use Rattle.model_reducers.specs.Entries.{Entry, put_entry, strand_of, HasPut}
use Rattle.model_reducers.specs.Steps.{Steps, control, update, put, other, items_of}
use Rattle.law_values.specs.Accesses.{control_steps}
use Rattle.law_values.proofs.Accesses.{item_cases}
use Rattle.reducer_views.specs.Held.{Holding, Holds}
use Rattle.reducer_views.proofs.Following.{quiet_law}
use Rattle.race_gate.specs.Books.{Books, PutsAreRead, Keeps}

-- ---- reads of one branch

module _ (earlier : List ReducerRead) (new : ReducerRead) where
  read-cases : (reducer : ℕ) (read : ReducerRead) → IsReadOf (earlier ++ new ∷ []) reducer read → IsReadOf earlier reducer read ⊎ (read ≡ new)
  read-cases reducer read is = elim (Contains-append_cases earlier (new ∷ []) read is.0) [
    | inl k ↦ inl (k, is.1)
    | inr k ↦ inr (only k)
  ]
    where
      only : {one other : ReducerRead} → Contains (one ∷ []) other → other ≡ one
      only {one} {other} (place, below, at) = let first : place ≡ 0 = omega arith in sym (subst (λ k. get_or (one ∷ []) k other ≡ other) first at)

  read-still : (reducer : ℕ) (read : ReducerRead) → IsReadOf earlier reducer read → IsReadOf (earlier ++ new ∷ []) reducer read
  read-still reducer read is = (Contains-append_left earlier (new ∷ []) read is.0, is.1)

  read-new : IsReadOf (earlier ++ new ∷ []) new.reducer new
  read-new = (Contains-append_right earlier (new ∷ []) new (0, lit< tt, refl), refl)

  one_branch-more : (history : History) (reducer : ℕ) → AreOfOneBranch history earlier reducer → Begun history new.strand →
      (new.reducer ≡ reducer → (read : ReducerRead) → IsReadOf earlier reducer read → branch history read.strand ≡ branch history new.strand) →
      AreOfOneBranch history (earlier ++ new ∷ []) reducer
  one_branch-more history reducer kept begun same = record {
    begun = λ read is. elim (read-cases reducer read is) [
      | inl old ↦ kept.begun read old
      | inr e ↦ subst (λ (r : ReducerRead). Begun history r.strand) (sym e) begun
    ];
    one_branch = λ first second is_first is_second. elim (read-cases reducer first is_first) [
      | inl old ↦ elim (read-cases reducer second is_second) [
        | inl older ↦ kept.one_branch first second old older
        | inr e ↦ same (ap (λ (r : ReducerRead). r.reducer) (sym e) ∙ is_second.1) first old ∙ ap (λ (r : ReducerRead). branch history r.strand) (sym e)
      ]
      | inr e ↦ elim (read-cases reducer second is_second) [
        | inl older ↦ ap (λ (r : ReducerRead). branch history r.strand) e ∙ sym (same (ap (λ (r : ReducerRead). r.reducer) (sym e) ∙ is_first.1) second older)
        | inr e' ↦ ap (λ (r : ReducerRead). branch history r.strand) (e ∙ sym e')
      ]
    ];
  }

  kinds-more : ((reducer : ℕ) (read : ReducerRead) → IsReadOf earlier reducer read → IsTrue (is_reducer_read read.kind)) → IsTrue (is_reducer_read new.kind) →
      (reducer : ℕ) (read : ReducerRead) → IsReadOf (earlier ++ new ∷ []) reducer read → IsTrue (is_reducer_read read.kind)
  kinds-more kept is_read reducer read is = elim (read-cases reducer read is) [
    | inl old ↦ kept reducer read old
    | inr e ↦ subst (λ (r : ReducerRead). IsTrue (is_reducer_read r.kind)) (sym e) is_read
  ]

-- ---- puts of one more step

-- an update is no put
update-put : (asked reducer strand value : ℕ) (items : Items) (it : Entry) →
    (HasPut (cond (eqb asked reducer) (one.update strand value) (one.other strand) ∷ items) it → HasPut items it) ×
    (HasPut items it → HasPut (cond (eqb asked reducer) (one.update strand value) (one.other strand) ∷ items) it)
update-put asked reducer strand value items it =
    item_cases (λ item. (HasPut (item ∷ items) it → HasPut items it) × (HasPut items it → HasPut (item ∷ items) it)) asked reducer (one.update strand value)
    (one.other strand) (λ e. ((λ h. h), (λ h. h))) (λ ne. ((λ h. h), (λ h. h)))

put-put : (asked reducer strand value : ℕ) (items : Items) (it : Entry) →
    (HasPut (cond (eqb asked reducer) (one.put strand value) (one.other strand) ∷ items) it →
    ((asked ≡ reducer) × (it ≡ put_entry (suc (length items)) strand value)) ⊎ HasPut items it) ×
    (HasPut items it → HasPut (cond (eqb asked reducer) (one.put strand value) (one.other strand) ∷ items) it)
put-put asked reducer strand value items it =
    item_cases (λ item. (HasPut (item ∷ items) it → ((asked ≡ reducer) × (it ≡ put_entry (suc (length items)) strand value)) ⊎ HasPut items it) ×
    (HasPut items it → HasPut (item ∷ items) it)) asked reducer (one.put strand value) (one.other strand)
    (λ e. ((λ h. elim h [ inl q ↦ inl (e, q) | inr k ↦ inr k ]), (λ h. inr h))) (λ ne. ((λ h. inr h), (λ h. h)))

put-new : (asked reducer strand value : ℕ) (items : Items) → asked ≡ reducer →
    HasPut (cond (eqb asked reducer) (one.put strand value) (one.other strand) ∷ items) (put_entry (suc (length items)) strand value)
put-new asked reducer strand value items same =
    item_cases (λ item. HasPut (item ∷ items) (put_entry (suc (length items)) strand value)) asked reducer (one.put strand value) (one.other strand)
    (λ e. inl refl) (λ ne. absurd (ne same))

puts-updated : (steps : Steps) (earlier : List ReducerRead) (strand asked value reducer : ℕ) → PutsAreRead steps earlier reducer →
    PutsAreRead (update strand asked value ∷ steps) earlier reducer
puts-updated steps earlier strand asked value reducer kept = record {
  read_of = λ it has. kept.read_of it ((update-put asked reducer strand value (items_of reducer steps) it).0 has);
  put_of = λ read is. let (it, has) = kept.put_of read is in (it, (update-put asked reducer strand value (items_of reducer steps) it).1 has);
}

-- a put is read by itself
puts-put : (steps : Steps) (earlier : List ReducerRead) (new : ReducerRead) (value reducer : ℕ) → PutsAreRead steps earlier reducer →
    PutsAreRead (put new.strand new.reducer value ∷ steps) (earlier ++ new ∷ []) reducer
puts-put steps earlier new value reducer kept = record {
  read_of = λ it has. elim ((put-put new.reducer reducer new.strand value (items_of reducer steps) it).0 has) [
    | inl (same, is) ↦ (new, subst (λ r. IsReadOf (earlier ++ new ∷ []) r new) same (read-new earlier new), sym (ap strand_of is))
    | inr old ↦ let (read, is, at) = kept.read_of it old in (read, read-still earlier new reducer read is, at)
  ];
  put_of = λ read is. elim (read-cases earlier new reducer read is) [
    | inl old ↦ let (it, has) = kept.put_of read old in (it, (put-put new.reducer reducer new.strand value (items_of reducer steps) it).1 has)
    | inr e ↦ (_, put-new new.reducer reducer new.strand value (items_of reducer steps) (ap (λ (r : ReducerRead). r.reducer) (sym e) ∙ is.1))
  ];
}

-- a get has a read, and so a put, before it
puts-got : (steps : Steps) (earlier : List ReducerRead) (new : ReducerRead) (reducer : ℕ) → PutsAreRead steps earlier reducer →
    (new.reducer ≡ reducer → (read : ReducerRead) × IsReadOf earlier reducer read) → PutsAreRead (other new.strand ∷ steps) (earlier ++ new ∷ []) reducer
puts-got steps earlier new reducer kept found = record {
  read_of = λ it has. let (read, is, at) = kept.read_of it has in (read, read-still earlier new reducer read is, at);
  put_of = λ read is. elim (read-cases earlier new reducer read is) [
    | inl old ↦ kept.put_of read old
    | inr e ↦ let (first, listed) = found (ap (λ (r : ReducerRead). r.reducer) (sym e) ∙ is.1) in kept.put_of first listed
  ];
}

-- ---- what is kept

holds-room : (old new : Holding) (steps : Steps) → new ≡ record old { has_room = true } → Holds old steps → Holds new steps
holds-room old new steps made holds =
    let same : Holds (record old { has_room = true }) steps = record { count = holds.count; homes = holds.homes; laters = holds.laters; views = holds.views } in
    subst (λ views. Holds views steps) (sym made) same

-- room tells nothing of the steps
pub keeps-room : (old new : Books) (steps : Steps) (earlier : List ReducerRead) →
    ((history : History) → Follows old.branches history → Follows new.branches history) → new.reads ≡ old.reads → new.views.monoids ≡ old.views.monoids →
    (Holds old.views steps → Holds new.views steps) → Keeps old steps earlier → Keeps new steps earlier
keeps-room old new steps earlier branches reads monoids views kept = record {
  legal = kept.legal;
  branches = branches (control_steps steps) kept.branches;
  counted = ap length reads ∙ kept.counted ∙ sym (ap length monoids);
  remembers = subst (λ firsts. Remembers firsts earlier) (sym reads) kept.remembers;
  one_branch = kept.one_branch;
  kinds = kept.kinds;
  puts = kept.puts;
  numbers = kept.numbers;
  views = views kept.views;
}

-- an event of control
pub keeps-event : (old new : Books) (steps : Steps) (earlier : List ReducerRead) (event : Event) → Keeps old steps earlier → Allowed (control_steps steps) event →
    Follows new.branches (event ∷ control_steps steps) → new.reads ≡ old.reads → new.views.monoids ≡ old.views.monoids → Holds new.views (control event ∷ steps) →
    Keeps new (control event ∷ steps) earlier
keeps-event old new steps earlier event kept allowed branches reads monoids views = record {
  legal = (kept.legal, allowed);
  branches = branches;
  counted = ap length reads ∙ kept.counted ∙ sym (ap length monoids);
  remembers = subst (λ firsts. Remembers firsts earlier) (sym reads) kept.remembers;
  one_branch = λ reducer. later (control_steps steps) (event ∷ control_steps steps) (event ∷ [], refl) branches.legal earlier reducer (kept.one_branch reducer);
  kinds = kept.kinds;
  puts = λ reducer. record { read_of = (kept.puts reducer).read_of; put_of = (kept.puts reducer).put_of };
  numbers = kept.numbers;
  views = views;
}

-- an access that leaves the views
pub keeps-other : (books : Books) (steps : Steps) (earlier : List ReducerRead) (strand : ℕ) → Keeps books steps earlier → Running (control_steps steps) strand →
    Keeps books (other strand ∷ steps) earlier
keeps-other books steps earlier strand kept runs = record {
  legal = (kept.legal, runs);
  branches = kept.branches;
  counted = kept.counted;
  remembers = kept.remembers;
  one_branch = kept.one_branch;
  kinds = kept.kinds;
  puts = λ reducer. record { read_of = (kept.puts reducer).read_of; put_of = (kept.puts reducer).put_of };
  numbers = kept.numbers;
  views = (quiet_law books.views steps kept.legal kept.views).1 strand;
}

pub keeps-update : (old new : Books) (steps : Steps) (earlier : List ReducerRead) (strand reducer value : ℕ) → Keeps old steps earlier →
    Running (control_steps steps) strand → value < 2 ^ 64 → new.branches ≡ old.branches → new.reads ≡ old.reads → new.views.monoids ≡ old.views.monoids →
    Holds new.views (update strand reducer value ∷ steps) → Keeps new (update strand reducer value ∷ steps) (earlier ++ [])
keeps-update old new steps earlier strand reducer value kept runs small branches reads monoids views =
    rw append-nil (record {
      legal = (kept.legal, runs);
      branches = subst (λ names. Follows names (control_steps steps)) (sym branches) kept.branches;
      counted = ap length reads ∙ kept.counted ∙ sym (ap length monoids);
      remembers = subst (λ firsts. Remembers firsts earlier) (sym reads) kept.remembers;
      one_branch = kept.one_branch;
      kinds = kept.kinds;
      puts = λ r. puts-updated steps earlier strand reducer value r (kept.puts r);
      numbers = (small, kept.numbers);
      views = views;
    })

-- one more read by a strand of the branch of all earlier ones
module _ (old new : Books) (steps : Steps) (earlier : List ReducerRead) (read : ReducerRead) (kept : Keeps old steps earlier)
    (runs : Running (control_steps steps) read.strand)
    (same : (first : ReducerRead) → IsReadOf earlier read.reducer first → branch (control_steps steps) first.strand ≡ branch (control_steps steps) read.strand)
    (is_read : IsTrue (is_reducer_read read.kind)) (branches : new.branches ≡ old.branches) (counted : length new.reads ≡ length old.reads)
    (monoids : new.views.monoids ≡ old.views.monoids) (remembers : Remembers new.reads (earlier ++ read ∷ [])) where
  one_branch-read : (reducer : ℕ) → AreOfOneBranch (control_steps steps) (earlier ++ read ∷ []) reducer
  one_branch-read reducer =
      one_branch-more earlier read (control_steps steps) reducer (kept.one_branch reducer) (inl runs)
      (λ e first is. same first (subst (λ r. IsReadOf earlier r first) (sym e) is))

  pub keeps-put : (value : ℕ) → value < 2 ^ 64 → Holds new.views (put read.strand read.reducer value ∷ steps) →
      Keeps new (put read.strand read.reducer value ∷ steps) (earlier ++ read ∷ [])
  keeps-put value small views = record {
    legal = (kept.legal, runs);
    branches = subst (λ names. Follows names (control_steps steps)) (sym branches) kept.branches;
    counted = counted ∙ kept.counted ∙ sym (ap length monoids);
    remembers = remembers;
    one_branch = one_branch-read;
    kinds = kinds-more earlier read kept.kinds is_read;
    puts = λ reducer. puts-put steps earlier read value reducer (kept.puts reducer);
    numbers = (small, kept.numbers);
    views = views;
  }

  pub keeps-get : ((first : ReducerRead) × IsReadOf earlier read.reducer first) → new.views ≡ old.views →
      Keeps new (other read.strand ∷ steps) (earlier ++ read ∷ [])
  keeps-get found views = record {
    legal = (kept.legal, runs);
    branches = subst (λ names. Follows names (control_steps steps)) (sym branches) kept.branches;
    counted = counted ∙ kept.counted ∙ sym (ap length monoids);
    remembers = remembers;
    one_branch = one_branch-read;
    kinds = kinds-more earlier read kept.kinds is_read;
    puts = λ reducer. puts-got steps earlier read reducer (kept.puts reducer) (λ e. subst (λ r. (first : ReducerRead) × IsReadOf earlier r first) e found);
    numbers = kept.numbers;
    views = subst (λ views. Holds views (other read.strand ∷ steps)) (sym views) ((quiet_law old.views steps kept.legal kept.views).1 read.strand);
  }
