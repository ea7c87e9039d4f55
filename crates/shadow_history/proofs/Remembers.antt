-- What a cell keeps, and what the cells remember after one more access.
use Rattle.std.proofs.Common.{◌≡◌, ◌≢◌, ◌⊎◌, inl, inr, ℕ, ◌<◌, Option, Some, None, List, [], ◌∷◌, ◌++◌, length, get_or, set, IsTrue, sym, ◌∙◌, subst}
use Rattle.std.proofs.lemmas.List.{get_or_read, get_or-set_same, get_or-set_other}
use Rattle.std.proofs.Math.ListN.{length-set}
use Rattle.model_accesses.specs.declared.kind.Kind.{Kind}
use Rattle.model_accesses.specs.Table.{is_memory_kind}
use Rattle.model_strands.specs.History.{History}
use Rattle.model_strands.specs.Strands.{Begun}
use Rattle.law_strands.proofs.Updates.{same_or_not}
use Rattle.sp_labels.specs.Roster.{Roster, Follows}
use Rattle.shadow_history.specs.declared.cell.Extremes.{Extremes}
use Rattle.shadow_history.specs.declared.cell.Cell.{Cell}
use Rattle.model_accesses.specs.Accesses.{Access}
use Rattle.shadow_history.specs.Accesses.{HaveAllBegun}
use Rattle.shadow_history.specs.Shadow.{extremes_of, empty_cell, AreKept, Remembers, StandsOn, HaveBegun}
use Rattle.shadow_history.proofs.Added.{listed-cases, kept-elsewhere}
use Rattle.shadow_history.proofs.SameKinds.{cases_kind}

-- what is kept is of strands that have begun
kept-begun : (roster : Roster) (history : History) (accesses : List Access) (location : ℕ) (kind : Kind) → Follows roster history →
    HaveAllBegun history accesses → (kept : Option Extremes) → AreKept history accesses location kind kept → HaveBegun roster kept
kept-begun roster history accesses location kind follows begun None none = tt
kept-begun roster history accesses location kind follows begun (Some extremes) are =
    ((history, follows, begun _ are.english.last.is_member.0), (history, follows, begun _ are.hebrew.last.is_member.0))

module _ (items cells : List Cell) (same : items ≡ cells) (location : ℕ) (in_range : location < length cells) (cell : Cell) (read : cell ≡ get_or items location cell) where
  pub cell-read : cell ≡ get_or cells location empty_cell
  cell-read = get_or_read cells location cell in_range (subst (λ xs. cell ≡ get_or xs location cell) same read) empty_cell

  -- the cell keeps what is remembered of its location
  pub kept-there : (history : History) (accesses : List Access) → Remembers cells history accesses → (kind : Kind) → IsTrue (is_memory_kind kind) →
      AreKept history accesses location kind (extremes_of cell kind)
  kept-there history accesses remembers kind memory =
      subst (λ x. AreKept history accesses location kind (extremes_of x kind)) (sym cell-read) (remembers.kept location in_range kind memory)

  pub begun-there : (roster : Roster) → StandsOn cells roster → (kind : Kind) → IsTrue (is_memory_kind kind) → HaveBegun roster (extremes_of cell kind)
  begun-there roster (history, accesses, follows, remembers) kind memory =
      kept-begun roster history accesses location kind follows remembers.begun (extremes_of cell kind) (kept-there history accesses remembers kind memory)

  -- the cell with one more access is right of its location, and the others are of theirs
  pub remembers-added : (history : History) (accesses : List Access) (changed : Cell) (new : Access) → new.location ≡ location → Begun history new.strand →
      AreKept history (accesses ++ new ∷ []) location new.kind (extremes_of changed new.kind) →
      ((kind : Kind) → kind ≢ new.kind → extremes_of changed kind ≡ extremes_of cell kind) →
      Remembers cells history accesses → Remembers (set items location changed) history (accesses ++ new ∷ [])
  remembers-added history accesses changed new of_location new_begun kept others remembers = rw same (record {
    begun = λ access h. elim (listed-cases accesses new access h) [
      | inl k ↦ remembers.begun access k
      | inr e ↦ rw e new_begun
    ];
    kept = λ place below kind memory.
        at_place place (subst (λ n. place < n) (length-set cells location changed) below) kind memory (same_or_not place location);
  })
    where
      at_location : (kind : Kind) → IsTrue (is_memory_kind kind) → (kind ≡ new.kind) ⊎ (kind ≢ new.kind) →
          AreKept history (accesses ++ new ∷ []) location kind (extremes_of changed kind)
      at_location kind memory (inl e) = rw e kept
      at_location kind memory (inr ne) = rw (others kind ne)
          (kept-elsewhere history accesses location kind new (λ e k. ne (sym k)) (extremes_of cell kind) (kept-there history accesses remembers kind memory))

      at_place : (place : ℕ) → place < length cells → (kind : Kind) → IsTrue (is_memory_kind kind) → (place ≡ location) ⊎ (place ≢ location) →
          AreKept history (accesses ++ new ∷ []) place kind (extremes_of (get_or (set cells location changed) place empty_cell) kind)
      at_place place below kind memory (inl e) =
          rw (e, get_or-set_same cells location changed empty_cell in_range) (at_location kind memory (cases_kind kind new.kind))
      at_place place below kind memory (inr ne) =
          rw (get_or-set_other cells location place changed empty_cell ne)
          (kept-elsewhere history accesses place kind new (λ e k. ne (sym e ∙ of_location)) (extremes_of (get_or cells place empty_cell) kind)
          (remembers.kept place below kind memory))
