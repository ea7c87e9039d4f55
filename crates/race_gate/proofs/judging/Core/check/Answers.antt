use Rattle.std.proofs.Common.{◌≡◌, ◌<◌, ◌∙◌, length, true≢false, sym, ap, subst, arith}
use Rattle.sp_labels.specs.Roster.{Follows}
use Rattle.model_histories.specs.Entries.{control_part}
use Rattle.model_histories.specs.Shapes.{IsInRange}
use Rattle.model_histories.specs.States.{GateState}
use Rattle.race_gate.specs.Cores.{CoreState, with_history}
use Rattle.race_gate.proofs.Checking.{first-stopped, first-limit, first-not_running, first-bad_name}
use Rattle.race_gate.proofs.judging.Core.check.Goals as goal

pub returns-then-self-2-clause-fault : goal.returns-then-self-2-clause-fault
returns-then-self-2-clause-fault g c state fits =
    let shown : CoreState = c.args.self.now in
    let full : length state.history ≡ shown.limit =
    omega (arith, fits.counted, fits.kept.within, ap (λ (s : GateState). s.limit) fits.shown, ap (λ (core : CoreState). core.limit) c.self.view_is, ap (λ (core : CoreState). core.entries) c.self.view_is, c.if-self-2.true) in
    first-limit (with_history shown state.history) state c.args.request fits.shown (sym (ap (λ (core : CoreState). core.stopped) c.self.view_is) ∙ c.if-self.false) full

pub returns-then-self-clause-fault : goal.returns-then-self-clause-fault
returns-then-self-clause-fault g c state fits =
    first-stopped (with_history c.args.self.now state.history) state c.args.request fits.shown (sym (ap (λ (core : CoreState). core.stopped) c.self.view_is) ∙ c.if-self.true)

pub returns-then-not-is_running-clause-fault : goal.returns-then-not-is_running-clause-fault
returns-then-not-is_running-clause-fault g c state fits =
    let shown : CoreState = c.args.self.now in
    let under : length state.history < shown.limit =
    omega (arith, fits.counted, ap (λ (core : CoreState). core.limit) c.self.view_is, ap (λ (core : CoreState). core.entries) c.self.view_is, c.if-self-2.false) in
    let follows = subst (λ (core : CoreState). Follows core.tracks.strands (control_part state.history)) (sym c.self.view_is) fits.kept.follows in
    first-not_running (with_history shown state.history) state c.args.request fits.shown (sym (ap (λ (core : CoreState). core.stopped) c.self.view_is) ∙ c.if-self.false) under
    (λ runs. true≢false (sym ((c.is_running.ensures.running _ follows).1 runs) ∙ c.if-not-is_running.true))

pub returns-then-not-is_in_range-clause-fault : goal.returns-then-not-is_in_range-clause-fault
returns-then-not-is_in_range-clause-fault g c state fits =
    let shown : CoreState = c.args.self.now in
    let under : length state.history < shown.limit =
    omega (arith, fits.counted, ap (λ (core : CoreState). core.limit) c.self.view_is, ap (λ (core : CoreState). core.entries) c.self.view_is, c.if-self-2.false) in
    let follows = subst (λ (core : CoreState). Follows core.tracks.strands (control_part state.history)) (sym c.self.view_is) fits.kept.follows in
    first-bad_name (with_history shown state.history) state c.args.request fits.shown (sym (ap (λ (core : CoreState). core.stopped) c.self.view_is) ∙ c.if-self.false) under
    ((c.is_running.ensures.running _ follows).0 c.if-not-is_running.false)
    (λ in_range. true≢false (sym (c.is_in_range.ensures.1 (subst (λ (core : CoreState). IsInRange core.shape c.args.request.act) (sym c.self.view_is) in_range)) ∙ c.if-not-is_in_range.true))
