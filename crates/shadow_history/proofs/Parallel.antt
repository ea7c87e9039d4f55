-- A running strand leads to no other, so what is later than it in either order is parallel to it.
use Rattle.std.proofs.Common.{◌≡◌, ◌≢◌, ◌⊎◌, inl, inr, ℕ, Bool, true, false, refl, sym, ap, ◌∙◌}
use Rattle.law_addresses.specs.Address.{disagree, reaches, parallel, english, hebrew, english_before, hebrew_before}
use Rattle.law_addresses.proofs.Relations.{parallel-orders, parallel-comm}
use Rattle.law_addresses.proofs.Extremes.{before-different, english-parallel, hebrew-parallel}
use Rattle.model_strands.specs.History.{History}
use Rattle.model_strands.specs.Strands.{Running, Begun}
use Rattle.model_strands.specs.Legal.{Legal}
use Rattle.model_strands.specs.Dag.{IsParallel}
use Rattle.model_strands.specs.Addresses.{address}
use Rattle.law_strands.specs.Addresses.{IsEnglishBefore, IsHebrewBefore}
use Rattle.law_strands.proofs.Sinks.{running_address_law}
use Rattle.law_strands.proofs.Orders.{parallel_iff}

module _ (history : History) (legal : Legal history) (strand : ℕ) (runs : Running history strand) (other : ℕ) (begun : Begun history other) where
  leads-nowhere : address history strand ≢ address history other → reaches (address history strand) (address history other) ≡ false
  leads-nowhere apart = running_address_law history legal strand other runs begun (λ e. apart (ap (address history) e))

  of_addresses : parallel (address history strand) (address history other) ≡ true → IsParallel history other strand
  of_addresses h = (parallel_iff history legal other strand begun (inl runs)).1 (parallel-comm (address history other) (address history strand) ∙ h)

  pub parallel-english : IsEnglishBefore history strand other → IsParallel history other strand
  parallel-english h =
      of_addresses (english-parallel (address history strand) (address history other)
      (leads-nowhere (before-different english (address history strand) (address history other) h)) h)

  pub parallel-hebrew : IsHebrewBefore history strand other → IsParallel history other strand
  parallel-hebrew h =
      of_addresses (hebrew-parallel (address history strand) (address history other)
      (leads-nowhere (before-different hebrew (address history strand) (address history other) h)) h)

  pub parallel-later : IsParallel history other strand → IsEnglishBefore history strand other ⊎ IsHebrewBefore history strand other
  parallel-later h = go (english_before (address history strand) (address history other)) (hebrew_before (address history strand) (address history other))
      (sym (parallel-orders (address history strand) (address history other)) ∙ (parallel-comm (address history strand) (address history other) ∙
      (parallel_iff history legal other strand begun (inl runs)).0 h))
    where
      go : (s t : Bool) → disagree s t ≡ true → (s ≡ true) ⊎ (t ≡ true)
      go true t e = inl refl
      go false t e = inr e
