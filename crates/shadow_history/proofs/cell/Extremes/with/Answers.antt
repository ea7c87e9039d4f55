use Rattle.std.proofs.Common.{[], ◌∷◌, ◌++◌, refl, sym, subst}
use Rattle.law_addresses.specs.Address.{english, hebrew}
use Rattle.law_addresses.proofs.Orders.{english-ranks, hebrew-ranks}
use Rattle.shadow_history.specs.Accesses.{IsExtreme}
use Rattle.shadow_history.specs.Shadow.{access_of}
use Rattle.shadow_history.proofs.Added.{extreme-stays, extreme-moves, not_later}
use Rattle.shadow_history.proofs.cell.Extremes.with.Goals.{then-english_before, else-english_before}
use Rattle.shadow_history.proofs.cell.Extremes.with.Goals as goal

pub returns-then-hebrew_before : goal.returns-then-hebrew_before
returns-then-hebrew_before g c history accesses location kind follows are = record {
  english = elim c.if-english_before.branch [
    | then-english_before w ↦ subst (λ x. IsExtreme english history (accesses ++ access_of location kind c.args.new ∷ []) (access_of location kind x)) (sym w.english-is)
        (extreme-moves english english-ranks history accesses _ _ refl refl ((c.english_before.ensures history follows).0 w.if-english_before.true) are.english)
    | else-english_before w ↦ subst (λ x. IsExtreme english history (accesses ++ access_of location kind c.args.new ∷ []) (access_of location kind x)) (sym w.english-is)
        (extreme-stays english history accesses _ _ (λ e k. not_later _ _ w.if-english_before.false (c.english_before.ensures history follows)) are.english)
  ];
  hebrew = extreme-moves hebrew hebrew-ranks history accesses _ _ refl refl ((c.hebrew_before.ensures history follows).0 c.if-hebrew_before.true) are.hebrew;
}

pub returns-else-hebrew_before : goal.returns-else-hebrew_before
returns-else-hebrew_before g c history accesses location kind follows are = record {
  english = elim c.if-english_before.branch [
    | then-english_before w ↦ subst (λ x. IsExtreme english history (accesses ++ access_of location kind c.args.new ∷ []) (access_of location kind x)) (sym w.english-is)
        (extreme-moves english english-ranks history accesses _ _ refl refl ((c.english_before.ensures history follows).0 w.if-english_before.true) are.english)
    | else-english_before w ↦ subst (λ x. IsExtreme english history (accesses ++ access_of location kind c.args.new ∷ []) (access_of location kind x)) (sym w.english-is)
        (extreme-stays english history accesses _ _ (λ e k. not_later _ _ w.if-english_before.false (c.english_before.ensures history follows)) are.english)
  ];
  hebrew = extreme-stays hebrew history accesses _ _ (λ e k. not_later _ _ c.if-hebrew_before.false (c.hebrew_before.ensures history follows)) are.hebrew;
}
