-- What is kept of the reads of reducers, behind a new one.
use Rattle.std.proofs.Common.{◌≡◌, ◌≢◌, ◌⊎◌, inl, inr, ℕ, ◌<◌, List, [], ◌∷◌, ◌++◌, length, get_or, set, Contains, sym, ap, ◌∙◌, subst, get_or-set_same, get_or-set_other}
use Rattle.std.proofs.lemmas.List.{get_or_default}
use Rattle.law_strands.proofs.Updates.{same_or_not}
use Rattle.std.proofs.lemmas.List.Elements.{Contains-append_left, Contains-push, Contains-push_cases}
use Rattle.law_strands.specs.Branches.{Branch}
use Rattle.model_serial_runs.specs.ReducerReads.{ReducerRead}
use Rattle.serial_judge.specs.declared.reads.Read.{Read}
use Rattle.serial_judge.specs.declared.reads.Reads.{Reads}
use Rattle.serial_judge.specs.declared.reads.Reads.TheVariants as reads
use Rattle.serial_judge.specs.Branches.{number_of}
use Rattle.serial_judge.specs.Reads.{reads_at, IsKeptRead, AreKeptReads, IsReadSo}

module _ (branch : ℕ → Branch) (all : List ReducerRead) (reducer : ℕ) (read : ReducerRead) where
  kept_more : (kept : Read) → IsKeptRead branch all reducer kept → IsKeptRead branch (all ++ read ∷ []) reducer kept
  kept_more kept k = record {
    read = k.read;
    listed = Contains-append_left all (read ∷ []) k.read k.listed;
    reducer_is = k.reducer_is;
    site_is = k.site_is;
    branch_is = k.branch_is;
  }

  kept_new : (new : Read) → IsReadSo branch reducer new read → IsKeptRead branch (all ++ read ∷ []) reducer new
  kept_new new t = record {
    read = read;
    listed = Contains-push all read;
    reducer_is = t.reducer_is;
    site_is = t.site_is;
    branch_is = t.branch_is;
  }

  -- each is an earlier one or the new one
  each_more : (Property : ReducerRead → Type 0) → ((one : ReducerRead) → Contains all one → one.reducer ≡ reducer → Property one) →
      (read.reducer ≡ reducer → Property read) → (one : ReducerRead) → Contains (all ++ read ∷ []) one → one.reducer ≡ reducer → Property one
  each_more Property old new one c is = go (Contains-push_cases all read one c)
    where
      go : Contains all one ⊎ (read ≡ one) → Property one
      go (inl k) = old one k is
      go (inr e) = subst Property e (new (ap (λ (z : ReducerRead). z.reducer) e ∙ is))

  pub first_kept : (new : Read) → IsReadSo branch reducer new read → AreKeptReads branch all reducer reads.None →
      AreKeptReads branch (all ++ read ∷ []) reducer (reads.OneBranch new)
  first_kept new t k = (
    kept_new new t,
    each_more (λ one. number_of (branch one.strand) ≡ new.branch) (λ one c is. absurd (k one c is)) (λ is. t.branch_is),
  )

  pub second_kept : (first new : Read) → first.branch ≢ new.branch → IsReadSo branch reducer new read → AreKeptReads branch all reducer (reads.OneBranch first) →
      AreKeptReads branch (all ++ read ∷ []) reducer (reads.TwoBranches first new)
  second_kept first new ne t k = (kept_more first k.0, kept_new new t, ne)

  pub same_kept : (first new : Read) → first.branch ≡ new.branch → IsReadSo branch reducer new read → AreKeptReads branch all reducer (reads.OneBranch first) →
      AreKeptReads branch (all ++ read ∷ []) reducer (reads.OneBranch first)
  same_kept first new e t k = (
    kept_more first k.0,
    each_more (λ one. number_of (branch one.strand) ≡ first.branch) k.1 (λ is. t.branch_is ∙ sym e),
  )

  pub two_kept : (first second : Read) → AreKeptReads branch all reducer (reads.TwoBranches first second) →
      AreKeptReads branch (all ++ read ∷ []) reducer (reads.TwoBranches first second)
  two_kept first second k = (kept_more first k.0, kept_more second k.1, k.2)

  -- what is kept of another reducer stays
  pub others_kept : (kept : Reads) → read.reducer ≢ reducer → AreKeptReads branch all reducer kept → AreKeptReads branch (all ++ read ∷ []) reducer kept
  others_kept reads.None ne k = λ one c is. each_more (λ z. ⊥) (λ o d e. k o d e) (λ e. ne e) one c is
  others_kept (reads.OneBranch first) ne k = (
    kept_more first k.0,
    each_more (λ one. number_of (branch one.strand) ≡ first.branch) k.1 (λ is. absurd (ne is)),
  )
  others_kept (reads.TwoBranches first second) ne k = two_kept first second k

pub added : (branch : ℕ → Branch) (all : List ReducerRead) (read : ReducerRead) (old items : List Reads) (reducer : ℕ) (kept more : Reads) →
    reducer < length items → ((one : ℕ) → reads_at items one ≡ reads_at old one) → kept ≡ get_or items reducer kept → read.reducer ≡ reducer →
    ((one : ℕ) → AreKeptReads branch all one (reads_at old one)) →
    (AreKeptReads branch all reducer kept → AreKeptReads branch (all ++ read ∷ []) reducer more) →
    (one : ℕ) → AreKeptReads branch (all ++ read ∷ []) one (reads_at (set items reducer more) one)
added branch all read old items reducer kept more lt each is by_reducer before step one = go (same_or_not one reducer)
  where
    was : reads_at old reducer ≡ kept
    was = sym (each reducer) ∙ (get_or_default items reducer reads.None kept lt ∙ sym is)

    go : (one ≡ reducer) ⊎ (one ≢ reducer) → AreKeptReads branch (all ++ read ∷ []) one (reads_at (set items reducer more) one)
    go (inl e) = subst (λ z. AreKeptReads branch (all ++ read ∷ []) z (reads_at (set items reducer more) z)) (sym e)
        (subst (AreKeptReads branch (all ++ read ∷ []) reducer) (sym (get_or-set_same items reducer more reads.None lt))
        (step (subst (AreKeptReads branch all reducer) was (before reducer))))
    go (inr ne) = subst (AreKeptReads branch (all ++ read ∷ []) one) (sym (get_or-set_other items reducer one more reads.None ne))
        (others_kept branch all one read (reads_at items one) (λ e. ne (sym e ∙ by_reducer))
        (subst (AreKeptReads branch all one) (sym (each one)) (before one)))
