-- Of an earlier strand and the current one, the last in the Hebrew order tells of both from then on.
use Rattle.std.proofs.Common.{◌≡◌, ◌≢◌, ◌⊎◌, inl, inr, ℕ, List, [], ◌∷◌, ◌++◌, refl, sym, subst}
use Rattle.model_strands.specs.Addresses.{address}
use Rattle.model_strands.specs.History.{Event, History}
use Rattle.model_strands.specs.Legal.{Legal}
use Rattle.model_strands.specs.Dag.{stay, Reaches, IsParallel}
use Rattle.model_strands.specs.Extensions.{Extends}
use Rattle.law_addresses.proofs.Orders.{hebrew-total}
use Rattle.law_strands.specs.Addresses.{IsHebrewBefore}
use Rattle.law_strands.proofs.Updates.{same_or_not}
use Rattle.law_strands.proofs.Branches.{legal_part, stability_law}
use Rattle.law_strands.proofs.Law.{address_differs}
use Rattle.model_serial_runs.specs.Current.{current, IsSerial}
use Rattle.law_serial_runs.specs.Turns.{HasRun}
use Rattle.law_serial_runs.specs.Laws.{KeptLaw}
use Rattle.law_serial_runs.proofs.Children.{serial_part}
use Rattle.law_serial_runs.proofs.Earlier.{current_begun, behind, serial_parallel_law, hebrew_last_law}

pub current_has_run : (history : History) → HasRun history (current history)
current_has_run [] = refl
current_has_run (e ∷ h) = inl refl

has_run_over : (later : List Event) (history : History) (strand : ℕ) → HasRun history strand → HasRun (later ++ history) strand
has_run_over [] h x k = k
has_run_over (e ∷ later) h x k = inr (has_run_over later h x k)

pub has_run_later : (longer history : History) → Extends longer history → (strand : ℕ) → HasRun history strand → HasRun longer strand
has_run_later longer h (later, is) x k = subst (λ z. HasRun z x) is (has_run_over later h x k)

pub kept_law : KeptLaw
kept_law h w ext l r' x k = record { earlier = earlier; newer = newer (same_or_not x (current h)) }
  where
    here : Legal h
    here = legal_part h w ext l

    r : IsSerial h
    r = serial_part ext.0 h (subst IsSerial (sym ext.1) r')

    x_later : HasRun w x
    x_later = has_run_later w h ext x k

    current_later : HasRun w (current h)
    current_later = has_run_later w h ext (current h) (current_has_run h)

    -- the Hebrew order stays
    still : (one other : ℕ) → HasRun h one → HasRun h other → IsHebrewBefore h one other → IsHebrewBefore w one other
    still y z m n = ((stability_law h w ext l y (behind here r y m).0).1 z (behind here r z n).0).hebrew.1

    earlier : IsParallel h x (current h) → IsParallel w (current h) (current w) → IsParallel w x (current w)
    earlier p =
        let ahead = (serial_parallel_law h here r x k (λ e. p.0 (subst (Reaches h x) e stay))).hebrew.0 p in
        hebrew_last_law w l r' (current h) x current_later x_later (inr (still (current h) x (current_has_run h) k ahead))

    newer : (x ≡ current h) ⊎ (x ≢ current h) → (IsParallel h x (current h) → ⊥) → IsParallel w x (current w) → IsParallel w (current h) (current w)
    newer (inl e) apart p = subst (λ z. IsParallel w z (current w)) e p
    newer (inr ne) apart p =
        hebrew_last_law w l r' x (current h) x_later current_later
        (elim (hebrew-total.total (address h x) (address h (current h))
        (address_differs h here x (current h) (behind here r x k).0 (current_begun here r) ne)) [
          | inl t ↦ inr (still x (current h) k (current_has_run h) t)
          | inr t ↦ absurd (apart ((serial_parallel_law h here r x k ne).hebrew.1 t))
        ])
        p
