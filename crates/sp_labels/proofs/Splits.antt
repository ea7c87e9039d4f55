-- What a spawn makes of a roster.
use Rattle.std.proofs.Common.{◌≡◌, ◌≢◌, ℕ, suc, ◌+◌, ◌<◌, true, false, List, [], ◌∷◌, ◌++◌, length, length-append, refl, sym, ap, ◌∙◌, subst, arith}
use Rattle.sp_labels.specs.declared.record.Standing.TheVariants.{Reserved, Running as Runs, Over}
use Rattle.sp_labels.specs.declared.record.Scope.{Scope}
use Rattle.sp_labels.specs.declared.record.Scope.TheVariants.{Child, Block}
use Rattle.sp_labels.specs.declared.record.Record.{Record}
use Rattle.model_strands.specs.History.{split, History}
use Rattle.model_strands.specs.Strands.{reserved, running, over, status, unused, Running}
use Rattle.model_strands.specs.Blocks.{Stack, spawned, block, stack, enclosing, IsSynced}
use Rattle.model_strands.specs.Legal.{Allowed, open_split, next_split, then}
use Rattle.law_strands.specs.Counts.{children_left}
use Rattle.law_strands.specs.Lists.{english_items, hebrew_items}
use Rattle.law_strands.proofs.Updates.{updated_at, updated_off}
use Rattle.law_strands.proofs.Range.{ranges}
use Rattle.sp_labels.specs.Roster.{Roster, Follows, IsRecord, StandsFor, IsOrder, record_at, IsPut}
use Rattle.sp_labels.proofs.Puts.{each-put, each-two, each-added}
use Rattle.sp_labels.proofs.Queries.{running-known}
use Rattle.sp_labels.proofs.Counts.{none-left-beyond}
use Rattle.sp_labels.proofs.Quiet.{record-kept, record-over, standing-kept, iff-refl, ending}

-- the records that a spawn adds
abbrev pub child_record : ℕ → Record
child_record join = record { standing = Runs; scope = Child join; children_left = 0 }

abbrev pub next_record : ℕ → Record
next_record join = record { standing = Runs; scope = Block join; children_left = 0 }

abbrev pub join_record : Scope → Record
join_record scope = record { standing = Reserved; scope = scope; children_left = 1 }

length-added : (old new : List Record) (kept : Record) → new ≡ old ++ kept ∷ [] → length new ≡ length old + 1
length-added old new kept is = ap length is ∙ length-append old (kept ∷ [])

-- a spawn that opens a block
pub follows-first : (roster : Roster) (history : History) (strand child next join : ℕ) (kept : Record) (mid with_child with_next records : List Record) (english hebrew : List ℕ) →
    Follows roster history → Running history strand → IsSynced (stack history strand) →
    child ≡ length roster.records → next ≡ length roster.records + 1 → join ≡ length roster.records + 2 →
    kept ≡ record_at roster.records strand → IsPut roster.records strand (record kept { standing = Over }) mid →
    with_child ≡ mid ++ child_record join ∷ [] → with_next ≡ with_child ++ next_record join ∷ [] →
    records ≡ with_next ++ join_record kept.scope ∷ [] →
    IsOrder english (english_items (split strand child next join true ∷ history)) (length roster.records + 3) →
    IsOrder hebrew (hebrew_items (split strand child next join true ∷ history)) (length roster.records + 3) →
    Follows (record { records = records; callers = roster.callers; english = english; hebrew = hebrew; has_room = false }) (split strand child next join true ∷ history)
follows-first roster history strand child next join kept mid with_child with_next records english hebrew f run synced child_is next_is join_is is put added_child added_next added_join in_english in_hebrew =
    let newer : History = split strand child next join true ∷ history in
    let P : ℕ → Record → Type 0 = IsRecord roster.callers f.below_call newer in
    let count : length roster.records ≡ unused history = f.count in
    let lt = (running-known roster history f strand run).0 in
    let me : IsRecord roster.callers f.below_call history strand kept = rw is (f.each strand lt) in
    let unended : status history strand ≡ over → ⊥ = λ o. let clash : running ≡ over = sym run ∙ o in cc in
    let len_child = length-added mid with_child (child_record join) added_child in
    let len_next = length-added with_child with_next (next_record join) added_next in
    let len : length records ≡ length roster.records + 3 = omega (arith, put.len, length-added with_next records (join_record kept.scope) added_join) in
    let cn : child ≢ next = omega arith in
    let cj : child ≢ join = omega arith in
    let nj : next ≢ join = omega arith in
    let sc : strand ≢ child = omega arith in
    let sn : strand ≢ next = omega arith in
    let sj : strand ≢ join = omega arith in
    let child_place : child ≡ length mid = omega (arith, put.len) in
    let next_place : next ≡ length with_child = omega (arith, put.len) in
    let join_place : join ≡ length with_next = omega (arith, put.len) in
    let a : Allowed history (split strand child next join true) = open_split run synced (omega arith) (omega arith) (omega arith) in
    let the_child : P child (child_record join) = record {
      standing = updated_off _ join reserved child cj ∙ updated_off _ next running child cn ∙ updated_at _ child running child refl;
      scope = λ o. subst (StandsFor roster.callers f.below_call (Child join)) (sym (updated_off _ join _ child cj ∙ updated_off _ next _ child cn ∙ updated_at (stack history) child (spawned (suc (length history)) join) child refl)) refl;
      children = sym (updated_off (children_left history) join _ child cj ∙ none-left-beyond f.legal child (omega arith));
    } in
    let the_next : P next (next_record join) = record {
      standing = updated_off _ join reserved next nj ∙ updated_at _ next running next refl;
      scope = λ o. subst (StandsFor roster.callers f.below_call (Block join)) (sym (updated_off _ join _ next nj ∙ updated_at _ next (block join (stack history strand)) next refl)) refl;
      children = sym (updated_off (children_left history) join _ next nj ∙ none-left-beyond f.legal next (omega arith));
    } in
    let the_join : P join (join_record kept.scope) = record {
      standing = (updated_at _ join reserved join refl, (λ w. let below : join < unused history = (ranges f.legal).waited_below join w in omega arith));
      scope = λ o. subst (StandsFor roster.callers f.below_call kept.scope) (sym (updated_at _ join (stack history strand) join refl)) (me.scope unended);
      children = sym (updated_at (children_left history) join _ join refl ∙ ap suc (none-left-beyond f.legal join (omega arith)));
    } in
    let the_spawner : P strand (record kept { standing = Over }) =
    record-over roster.callers f.below_call history newer strand kept
    (updated_off _ join reserved strand sj ∙ updated_off _ next running strand sn ∙ updated_off _ child running strand sc ∙ updated_at (status history) strand over strand refl)
    (updated_off (children_left history) join _ strand sj) me.children in
    let the_others : (any : ℕ) → any < length roster.records → any ≢ strand → P any (record_at roster.records any) =
    λ any la ns.
    let ac : any ≢ child = omega arith in
    let an : any ≢ next = omega arith in
    let aj : any ≢ join = omega arith in
    record-kept roster.callers roster.callers f.below_call f.below_call history newer any _
    (updated_off _ join reserved any aj ∙ updated_off _ next running any an ∙ updated_off _ child running any ac ∙ updated_off (status history) strand over any ns) iff-refl
    (updated_off (children_left history) join _ any aj)
    (λ o k. subst (StandsFor roster.callers f.below_call _) (sym (updated_off _ join _ any aj ∙ updated_off _ next _ any an ∙ updated_off (stack history) child _ any ac)) k)
    (f.each any la) in
    record {
      legal = then f.legal a;
      count = omega arith;
      below_call = f.below_call;
      each = each-added P with_next records (join_record kept.scope) added_join (subst (λ x. P x (join_record kept.scope)) join_place the_join)
          (each-added P with_child with_next (next_record join) added_next (subst (λ x. P x (next_record join)) next_place the_next)
          (each-added P mid with_child (child_record join) added_child (subst (λ x. P x (child_record join)) child_place the_child)
          (each-put P roster.records strand (record kept { standing = Over }) mid put the_spawner the_others)));
      english = subst (λ n. IsOrder english (english_items newer) n) (sym len) in_english;
      hebrew = subst (λ n. IsOrder hebrew (hebrew_items newer) n) (sym len) in_hebrew;
    }

-- a later spawn of a block
pub follows-later : (roster : Roster) (history : History) (strand child next join : ℕ) (below : Stack) (kept joining : Record) (mid counted with_child records : List Record) (english hebrew : List ℕ) →
    Follows roster history → Running history strand → stack history strand ≡ block join below →
    child ≡ length roster.records → next ≡ length roster.records + 1 →
    kept ≡ record_at roster.records strand → IsPut roster.records strand (record kept { standing = Over }) mid →
    joining ≡ record_at mid join → IsPut mid join (record joining { children_left = joining.children_left + 1 }) counted →
    with_child ≡ counted ++ child_record join ∷ [] → records ≡ with_child ++ next_record join ∷ [] →
    IsOrder english (english_items (split strand child next join false ∷ history)) (length roster.records + 2) →
    IsOrder hebrew (hebrew_items (split strand child next join false ∷ history)) (length roster.records + 2) →
    Follows (record { records = records; callers = roster.callers; english = english; hebrew = hebrew; has_room = false }) (split strand child next join false ∷ history)
follows-later roster history strand child next join below kept joining mid counted with_child records english hebrew f run at child_is next_is is put joining_is put_join added_child added_next in_english in_hebrew =
    let newer : History = split strand child next join false ∷ history in
    let P : ℕ → Record → Type 0 = IsRecord roster.callers f.below_call newer in
    let count : length roster.records ≡ unused history = f.count in
    let ends = ending roster history f strand join kept joining (record kept { standing = Over }) mid run (ap enclosing at) is put joining_is in
    let lt : strand < length roster.records = ends.lt in
    let join_lt : join < length roster.records = ends.join_lt in
    let unended : status history join ≡ over → ⊥ = λ o. let clash : reserved ≡ over = sym ends.awaits ∙ o in cc in
    let len_child = length-added counted with_child (child_record join) added_child in
    let len : length records ≡ length roster.records + 2 = omega (arith, put.len, put_join.len, length-added with_child records (next_record join) added_next) in
    let cn : child ≢ next = omega arith in
    let cj : child ≢ join = omega arith in
    let nj : next ≢ join = omega arith in
    let jc : join ≢ child = omega arith in
    let jn : join ≢ next = omega arith in
    let sc : strand ≢ child = omega arith in
    let sn : strand ≢ next = omega arith in
    let child_place : child ≡ length counted = omega (arith, put.len, put_join.len) in
    let next_place : next ≡ length with_child = omega (arith, put.len, put_join.len) in
    let a : Allowed history (split strand child next join false) = next_split run at (omega arith) (omega arith) in
    let the_child : P child (child_record join) = record {
      standing = updated_off _ next running child cn ∙ updated_at _ child running child refl;
      scope = λ o. subst (StandsFor roster.callers f.below_call (Child join)) (sym (updated_off _ next _ child cn ∙ updated_at (stack history) child (spawned (suc (length history)) join) child refl)) refl;
      children = sym (updated_off (children_left history) join _ child cj ∙ none-left-beyond f.legal child (omega arith));
    } in
    let the_next : P next (next_record join) = record {
      standing = updated_at _ next running next refl;
      scope = λ o. subst (StandsFor roster.callers f.below_call (Block join)) (sym (updated_at _ next (stack history strand) next refl ∙ at)) refl;
      children = sym (updated_off (children_left history) join _ next nj ∙ none-left-beyond f.legal next (omega arith));
    } in
    let status_there : (any : ℕ) → any ≢ strand → any ≢ child → any ≢ next → status newer any ≡ status history any =
    λ any ns nc nn. updated_off _ next running any nn ∙ updated_off _ child running any nc ∙ updated_off (status history) strand over any ns in
    let stack_there : (any : ℕ) → any ≢ child → any ≢ next → stack newer any ≡ stack history any =
    λ any nc nn. updated_off _ next _ any nn ∙ updated_off (stack history) child _ any nc in
    let the_join : P join (record joining { children_left = joining.children_left + 1 }) = record {
      standing = standing-kept history newer join (status_there join (λ e. ends.apart (sym e)) jc jn) iff-refl joining.standing ends.its.standing;
      scope = λ o. subst (StandsFor roster.callers f.below_call joining.scope) (sym (stack_there join jc jn)) (ends.its.scope unended);
      children = let counts : joining.children_left ≡ children_left history join = ends.its.children in let more : joining.children_left + 1 ≡ suc (children_left history join) = omega arith in
          more ∙ sym (updated_at (children_left history) join _ join refl);
    } in
    let the_spawner : P strand (record kept { standing = Over }) =
    record-over roster.callers f.below_call history newer strand kept
    (updated_off _ next running strand sn ∙ updated_off _ child running strand sc ∙ updated_at (status history) strand over strand refl)
    (updated_off (children_left history) join _ strand ends.apart) ends.me.children in
    let the_others : (any : ℕ) → any < length roster.records → any ≢ strand → any ≢ join → P any (record_at roster.records any) =
    λ any la ns aj.
    let ac : any ≢ child = omega arith in
    let an : any ≢ next = omega arith in
    record-kept roster.callers roster.callers f.below_call f.below_call history newer any _ (status_there any ns ac an) iff-refl (updated_off (children_left history) join _ any aj)
    (λ o k. subst (StandsFor roster.callers f.below_call _) (sym (stack_there any ac an)) k) (f.each any la) in
    record {
      legal = then f.legal a;
      count = omega arith;
      below_call = f.below_call;
      each = each-added P with_child records (next_record join) added_next (subst (λ x. P x (next_record join)) next_place the_next)
          (each-added P counted with_child (child_record join) added_child (subst (λ x. P x (child_record join)) child_place the_child)
          (each-two P roster.records mid counted strand join (record kept { standing = Over }) (record joining { children_left = joining.children_left + 1 }) put put_join ends.apart the_spawner the_join the_others));
      english = subst (λ n. IsOrder english (english_items newer) n) (sym len) in_english;
      hebrew = subst (λ n. IsOrder hebrew (hebrew_items newer) n) (sym len) in_hebrew;
    }
