use Rattle.std.proofs.Common.{◌≡◌, ◌∷◌, ◌++◌, [], length, map, sym, ap, arith, ◌∙◌}
use Rattle.std.specs.Prelude.{option_to_list}
use Rattle.std.specs.List.{sum_by}
use Rattle.std.proofs.lemmas.List.{map-append, length-map}
use Rattle.std.proofs.lemmas.List.Sums.{sum_by_push}
use Rattle.steal_workers.proofs.Ready.{ready}
use Rattle.steal_workers.proofs.pool.hire.Goals as goal

pub returns-clause-ready : goal.returns-clause-ready
returns-clause-ready g c =
    let whole : c.args.ends.items ≡ c.pop.new.self.items ++ c.in-Some.last ∷ [] = c.pop.ensures.items ∙ ap (λ popped. c.pop.new.self.items ++ option_to_list popped) c.in-Some.is in
    let given : map (λ w. w.ends) c.push_reserved.new.self.items ≡ c.args.ends.items =
    ap (map (λ w. w.ends)) c.push_reserved.ensures.items ∙ map-append (λ w. w.ends) c.hire_each.new.hired.items _ ∙ ap (λ ends. ends ++ c.new.result.ends ∷ []) c.hire_each.ensures.ends ∙ ap (λ last. c.pop.new.self.items ++ last ∷ []) c.new.ensures.ends ∙ sym whole in
    ready c.push_reserved.new.self.items c.args.ends.items given (omega (arith, c.requires.workers, c.args.ends.ok.0)) c.requires.lead c.requires.views

pub returns-clause-workers : goal.returns-clause-workers
returns-clause-workers g c =
    let whole : c.args.ends.items ≡ c.pop.new.self.items ++ c.in-Some.last ∷ [] = c.pop.ensures.items ∙ ap (λ popped. c.pop.new.self.items ++ option_to_list popped) c.in-Some.is in
    let given : map (λ w. w.ends) c.push_reserved.new.self.items ≡ c.args.ends.items =
    ap (map (λ w. w.ends)) c.push_reserved.ensures.items ∙ map-append (λ w. w.ends) c.hire_each.new.hired.items _ ∙ ap (λ ends. ends ++ c.new.result.ends ∷ []) c.hire_each.ensures.ends ∙ ap (λ last. c.pop.new.self.items ++ last ∷ []) c.new.ensures.ends ∙ sym whole in
    omega (arith, ap length given, length-map c.push_reserved.new.self.items (λ w. w.ends), c.push_reserved.new.self.ok.0, c.args.ends.ok.0)

pub returns-clause-before : goal.returns-clause-before
returns-clause-before g c =
    let hired = c.hire_each.new.hired.items in
    let all = ap (sum_by (λ w. w.before)) c.push_reserved.ensures.items ∙ sum_by_push (λ w. w.before) hired c.new.result in
    omega (arith, all, c.hire_each.ensures.before, c.new.ensures.before, c.hire_each.ensures.asked)

pub push_reserved-requires : goal.push_reserved-requires
push_reserved-requires g c = c.hire_each.ensures.room
