-- Views that an item leaves as they are.
use Rattle.std.proofs.Common.{inl, inr, refl, ◌∙◌}
use Rattle.model_strands.specs.Updated.{updated}
use Rattle.model_strands.specs.History.{split, same, joined, waits, call, resumed, ended, ended_joined, finished}
use Rattle.law_strands.proofs.Updates.{updated_off}
use Rattle.model_reducers.specs.Items.{control, update, put, other}
use Rattle.law_values.specs.Views.{view}
use Rattle.law_values.specs.Laws.{StayLaw}

pub stay_law : (View : Type 0) → StayLaw View
stay_law View reducer items (control (split s c n j first)) x ne =
    updated_off (updated (view reducer items) c (view reducer items s)) n reducer.identity x (λ e. ne (inr e)) ∙
    updated_off (view reducer items) c (view reducer items s) x (λ e. ne (inl e))
stay_law View reducer items (control (joined s j)) x ne = updated_off (view reducer items) j _ x ne
stay_law View reducer items (control (ended_joined s j)) x ne = updated_off (view reducer items) j _ x ne
stay_law View reducer items (control (same s)) x ne = refl
stay_law View reducer items (control (waits s)) x ne = refl
stay_law View reducer items (control (call s)) x ne = refl
stay_law View reducer items (control (resumed s)) x ne = refl
stay_law View reducer items (control (ended s)) x ne = refl
stay_law View reducer items (control (finished s)) x ne = refl
stay_law View reducer items (update s v) x ne = updated_off (view reducer items) s _ x ne
stay_law View reducer items (put s v) x ne = updated_off (view reducer items) s _ x ne
stay_law View reducer items (other s) x ne = refl
