-- Lines and keys that the derived tests call equal are equal.
use Rattle.std.proofs.Common.{◌≡◌, inl, inr, ℕ, true, eqb, Option, Some, None, refl, sym, ap, ◌∙◌, subst, rules}
use Rattle.std.specs.Option.{option_eq}
use Rattle.std.proofs.lemmas.Bool.{and_parts, and_from, false≢true}
use Rattle.std.proofs.lemmas.Bool.Decides.{eqb_tells}
use Rattle.race_pairs.specs.declared.refusal.Lines.{Lines}
use Rattle.race_pairs.specs.declared.race.PairKey.{PairKey}
use Rattle.race_pairs.specs.contracts.refusal.LinesPartialEq.TheImpl.{eq-value}
use Rattle.race_pairs.specs.contracts.race.PairKeyPartialEq.TheImpl.{eq-value as key_eq}

pub same_lines : (one other : Lines) → eq-value.it one other ≡ true → one ≡ other
same_lines one other e = search rules

pub lines_same : (one other : Lines) → one ≡ other → eq-value.it one other ≡ true
lines_same one other e = search rules

same_option : (one other : Option ℕ) → option_eq eqb one other ≡ true → one ≡ other
same_option None None e = refl
same_option None (Some y) e = absurd (false≢true e)
same_option (Some x) None e = absurd (false≢true e)
same_option (Some x) (Some y) e = elim (eqb_tells x y) [ inl t ↦ ap Some t.1 | inr t ↦ absurd (false≢true (sym t.0 ∙ e)) ]

option_same : (one : Option ℕ) → option_eq eqb one one ≡ true
option_same None = refl
option_same (Some x) = elim (eqb_tells x x) [ inl t ↦ t.0 | inr t ↦ absurd (t.1 refl) ]

pub same_keys : (one other : PairKey) → key_eq.it one other ≡ true → one ≡ other
same_keys one other e =
    let parts = and_parts (eq-value.it one.lines other.lines) (option_eq eqb one.spawn other.spawn) e in
    ap (λ (l : Lines). record { lines = l; spawn = one.spawn }) (same_lines one.lines other.lines parts.0) ∙
    ap (λ (s : Option ℕ). record { lines = other.lines; spawn = s }) (same_option one.spawn other.spawn parts.1)

pub keys_same : (one other : PairKey) → one ≡ other → key_eq.it one other ≡ true
keys_same one other e =
    subst (λ (k : PairKey). key_eq.it one k ≡ true) e
    (and_from (eq-value.it one.lines one.lines) (option_eq eqb one.spawn one.spawn) (lines_same one.lines one.lines refl) (option_same one.spawn))
