-- The pieces of a line between its names, one at a time.
use Rattle.std.proofs.Common.{◌≡◌, ℕ, ◌+◌, ◌<◌, ◌≤◌, ◌∷◌, [], ◌++◌, List, length, take, drop, true, false, Bool, not, cond, arith, refl, sym, ap, ◌∙◌, add-one, suc, append_assoc}
use Rattle.std.specs.Prelude.{position, Some, None}
use Rattle.std.specs.List.{onto_first, position_or_len}
use Rattle.std.proofs.lemmas.Bool.Decides.{nat_tests}
use Rattle.std.proofs.lemmas.Grind.{common_steps}
use Rattle.std.proofs.lemmas.Option.{cond_some}
use Rattle.fault_lists.specs.LineNames.{begins_name, is_between, name_pieces, names_among}

-- where the first piece ends, or the line where all is one piece
abbrev end_at : List ℕ → ℕ
end_at bytes = position_or_len (λ byte. is_between byte) bytes

one_more : (n : ℕ) → 1 + n ≡ suc n
one_more n = omega arith

-- the same for each answer of the test of the first byte
step_by : (ends : Bool) (byte n : ℕ) (bytes : List ℕ) → (0 < length bytes → name_pieces bytes ≡ take n bytes ∷ name_pieces (drop (n + 1) bytes)) → (length bytes ≡ 0 → n ≡ 0)
    → cond ends ([] ∷ name_pieces bytes) (onto_first byte (name_pieces bytes))
    ≡ take (cond (not ends) (1 + n) 0) (byte ∷ bytes) ∷ name_pieces (drop (cond (not ends) (1 + n) 0 + 1) (byte ∷ bytes))
step_by true byte n bytes inner none = refl
step_by false byte n [] inner none = rw none refl
step_by false byte n (next ∷ bytes) inner none =
    rw (one_more n, add-one) (ap (onto_first byte) (rw add-one at (inner (omega arith))))

end_none : (bytes : List ℕ) → length bytes ≡ 0 → end_at bytes ≡ 0
end_none [] h = refl
end_none (byte ∷ bytes) h = absurd (omega arith)

end_more : (b : Bool) (m n : ℕ) → m ≤ n → cond b (1 + m) 0 ≤ suc n
end_more true m n h = omega arith
end_more false m n h = omega arith

end_le : (bytes : List ℕ) → end_at bytes ≤ length bytes
end_le [] = omega arith
end_le (byte ∷ bytes) = end_more (not (is_between byte)) (end_at bytes) (length bytes) (end_le bytes)

pieces_step : (bytes : List ℕ) → 0 < length bytes → name_pieces bytes ≡ take (end_at bytes) bytes ∷ name_pieces (drop (end_at bytes + 1) bytes)
pieces_step [] l = absurd (omega arith)
pieces_step (byte ∷ bytes) l = step_by (is_between byte) byte (end_at bytes) bytes (pieces_step bytes) (end_none bytes)

-- the first piece ends where the search says
pub pieces_found : (bytes : List ℕ) (end : ℕ) → position (λ byte. is_between byte) bytes ≡ Some end → 0 < length bytes
    → name_pieces bytes ≡ take end bytes ∷ name_pieces (drop (end + 1) bytes)
pieces_found bytes end h l = rw (← (cond_some _ (end_at bytes) end h).1) (pieces_step bytes l)

pub pieces_not_found : (bytes : List ℕ) → position (λ byte. is_between byte) bytes ≡ None → 0 < length bytes → name_pieces bytes ≡ bytes ∷ []
pieces_not_found bytes h l =
    let e : end_at bytes ≡ length bytes = grind (arith, nat_tests, end_le bytes) in
    pieces_step bytes l ∙ rw e (grind (arith, common_steps))

one_kept : (begins : Bool) (piece : List ℕ) (pieces : List (List ℕ)) →
    cond begins (piece ∷ []) [] ++ names_among pieces ≡ cond begins (piece ∷ names_among pieces) (names_among pieces)
one_kept true piece pieces = refl
one_kept false piece pieces = refl

-- one more piece is kept where it is a name
pub piece_kept : (old new all pieces behind : List (List ℕ)) (piece : List ℕ) → new ≡ old ++ cond (begins_name piece) (piece ∷ []) [] →
    pieces ≡ piece ∷ behind → old ++ names_among pieces ≡ all → new ++ names_among behind ≡ all
piece_kept old new all pieces behind piece grown is before =
    let mid : (old ++ cond (begins_name piece) (piece ∷ []) []) ++ names_among behind ≡ old ++ (cond (begins_name piece) (piece ∷ []) [] ++ names_among behind) =
    simp append_assoc in
    ap (λ names. names ++ names_among behind) grown ∙ mid ∙ ap (λ names. old ++ names) (one_kept (begins_name piece) piece behind) ∙
    ap (λ some. old ++ names_among some) (sym is) ∙ before
