-- Lists of records, one of which is put or added.
use Rattle.std.proofs.Common.{◌≡◌, ◌≢◌, ◌⊎◌, inl, inr, ℕ, ◌<◌, List, [], ◌∷◌, ◌++◌, length, length-append, sym, ap, subst, arith}
use Rattle.std.proofs.Math.ListN.{get_or-append}
use Rattle.std.proofs.Math.Seq.{get_or-append_seam}
use Rattle.law_strands.proofs.Updates.{same_or_not}
use Rattle.sp_labels.specs.declared.record.Standing.{Standing}
use Rattle.sp_labels.specs.declared.record.Record.{Record}
use Rattle.sp_labels.specs.Roster.{record_at, no_record, IsPut}

-- a standing put, by the record that was read
pub standing-put : (old : List Record) (strand : ℕ) (kept : Record) (standing : Standing) (new : List Record) → kept ≡ record_at old strand →
    IsPut old strand (record (record_at old strand) { standing = standing }) new → IsPut old strand (record kept { standing = standing }) new
standing-put old strand kept standing new is put = rw is put

-- what holds of the record put and of each other one holds of all
pub each-put : (P : ℕ → Record → Type 0) (old : List Record) (strand : ℕ) (kept : Record) (new : List Record) → IsPut old strand kept new →
    P strand kept →
    ((other : ℕ) → other < length old → other ≢ strand → P other (record_at old other)) → (any : ℕ) → any < length new → P any (record_at new any)
each-put P old strand kept new put here others any lt = go (same_or_not any strand)
  where
    go : (any ≡ strand) ⊎ (any ≢ strand) → P any (record_at new any)
    go (inl e) = rw e (subst (P strand) (sym put.here) here)
    go (inr ne) = subst (P any) (sym (put.others any ne)) (others any (omega (arith, put.len)) ne)

-- two records put in turn
pub each-two : (P : ℕ → Record → Type 0) (old mid new : List Record) (first second : ℕ) (kept_first kept_second : Record) →
    IsPut old first kept_first mid → IsPut mid second kept_second new →
    first ≢ second → P first kept_first → P second kept_second →
    ((other : ℕ) → other < length old → other ≢ first → other ≢ second → P other (record_at old other)) →
    (any : ℕ) → any < length new → P any (record_at new any)
each-two P old mid new first second kept_first kept_second put_first put_second apart here there others =
    each-put P mid second kept_second new put_second there
    (each-put (λ other kept. other ≢ second → P other kept) old first kept_first mid put_first (λ ne. here) others)

-- what holds of the records and of one added holds of all
pub each-added : (P : ℕ → Record → Type 0) (old new : List Record) (kept : Record) → new ≡ old ++ kept ∷ [] → P (length old) kept →
    ((any : ℕ) → any < length old → P any (record_at old any)) → (any : ℕ) → any < length new → P any (record_at new any)
each-added P old new kept is last each any lt = rw is (go (same_or_not any (length old)))
  where
    go : (any ≡ length old) ⊎ (any ≢ length old) → P any (record_at (old ++ kept ∷ []) any)
    go (inl e) = rw e (subst (P (length old)) (sym (get_or-append_seam old kept [] no_record)) last)
    go (inr ne) =
        let grown : length new ≡ length (old ++ kept ∷ []) = ap length is in
        let below : any < length old = omega (arith, length-append old (kept ∷ [])) in
        subst (P any) (sym (get_or-append old (kept ∷ []) no_record any below)) (each any below)
