-- Entries in a slice, the oldest first.
-- d: what a list gives where it has no entry; i: a place among entries
use Rattle.std.proofs.Common.{◌≡◌, ℕ, suc, ◌+◌, ◌<◌, false, List, [], ◌∷◌, ◌++◌, length, get_or, take, drop, reverse, sym, ap, ◌∙◌, subst, arith}
use Rattle.std.proofs.lemmas.List.{length-reverse, reverse-append, take-append-drop, take_more, length-take-le}
use Rattle.model_accesses.specs.declared.request.Act.TheVariants.{Spawn}
use Rattle.model_strands.specs.Legal.{Legal}
use Rattle.law_strands.proofs.Branches.{legal_part}
use Rattle.model_histories.specs.declared.answer.Answer.TheVariants.{Split}
use Rattle.model_histories.specs.declared.answer.Entry.{Entry}
use Rattle.model_histories.specs.Entries.{Entries, control_part}
use Rattle.race_gate.proofs.Races.{extends-part}

pub so_far : (told : List Entry) (i : ℕ) (d : Entry) → i < length told → reverse (take (i + 1) told) ≡ get_or told i d ∷ reverse (take i told)
so_far told i d below =
    ap (λ (xs : Entries). reverse xs) (take_more told i d below) ∙ reverse-append (take i told) (get_or told i d ∷ [])

-- earlier entries of legal ones are legal
pub legal_before : (later earlier : Entries) → Legal (control_part (later ++ earlier)) → Legal (control_part earlier)
legal_before later earlier l = legal_part (control_part earlier) (control_part (later ++ earlier)) (extends-part later earlier) l

pub legal_so_far : (told : List Entry) (i : ℕ) → Legal (control_part (reverse told)) → Legal (control_part (reverse (take i told)))
legal_so_far told i l =
    let whole : reverse told ≡ reverse (drop i told) ++ reverse (take i told) =
    ap (λ (xs : Entries). reverse xs) (sym (take-append-drop i told)) ∙ reverse-append (take i told) (drop i told) in
    legal_before (reverse (drop i told)) (reverse (take i told)) (subst (λ (xs : Entries). Legal (control_part xs)) whole l)

pub number_next : (told : List Entry) (i : ℕ) → i < length told → suc (length (reverse (take i told))) ≡ i + 1
number_next told i below = omega (arith, length-reverse (take i told), length-take-le i told (omega arith))

pub legal_next : (told : List Entry) (i : ℕ) (d : Entry) → i < length told → Legal (control_part (reverse told)) →
    Legal (control_part (get_or told i d ∷ reverse (take i told)))
legal_next told i d below l = subst (λ (xs : Entries). Legal (control_part xs)) (so_far told i d below) (legal_so_far told (i + 1) l)

-- what stands for an entry past the end of a slice
abbrev pub no_entry : Entry
no_entry = record {
  request = record { strand = 0; line = 0; act = Spawn };
  answer = Split (record { child = 0; next = 0; join = 0; first = false });
}
