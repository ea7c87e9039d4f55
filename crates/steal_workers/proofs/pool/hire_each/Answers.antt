use Rattle.std.proofs.Common.{rules, ◌≡◌, ◌++◌, ◌∷◌, [], map, sym, ap, refl, arith, ◌∙◌}
use Rattle.std.specs.List.{sum_by}
use Rattle.std.proofs.lemmas.List.{map-append, map-id, nil_from_length}
use Rattle.std.proofs.lemmas.Iterator.Adapters.{YieldsList-from_vec}
use Rattle.std.proofs.lemmas.Iterator.Consumers.{YieldsList-end}
use Rattle.std.proofs.lemmas.List.Sums.{sum_by_push}
use Rattle.steal_workers.proofs.pool.hire_each.Goals as goal

pub loop-it-preserved : goal.loop-it-preserved
loop-it-preserved g c =
    let was = c.loop-it.invariant in
    let hired = c.loop-it.hired.items in
    let asked = ap (sum_by (λ w. w.before)) c.push_reserved.ensures.items ∙ sum_by_push (λ w. w.before) hired c.new.result in record {
      room = omega (arith, was.room, c.in-Some.ensures.steps, c.push_reserved.ensures.len, c.push_reserved.ensures.capacity);
      parts = search rules;
      seat = c.split.ensures.left.0 ∙ was.seat;
      none = omega (arith, asked, was.none, c.new.ensures.before, c.split.ensures.new.0);
      ends = ap (map (λ w. w.ends)) c.push_reserved.ensures.items ∙ map-append (λ w. w.ends) hired _ ∙ ap (λ ends. ends ++ c.new.result.ends ∷ []) was.ends
          ∙ ap (λ it. c.loop-it.yielded ++ it ∷ []) c.new.ensures.ends;
    }

pub loop-it-init : goal.loop-it-init
loop-it-init g c =
    let none : c.args.hired.now.items ≡ [] = nil_from_length c.args.hired.now.items (omega (arith, c.requires.empty, c.args.hired.now.ok.0)) in
    let left = c.into_iter-it-iterator.ensures.into_iter_gives.1 in record {
      room = omega (arith, left, c.requires.room);
      parts = omega (arith, left, c.requires.parts);
      seat = refl;
      none = ap (sum_by (λ w. w.before)) none;
      ends = ap (map (λ w. w.ends)) none;
    }

pub split-requires : goal.split-requires
split-requires g c = omega (arith, c.loop-it.invariant.parts, c.in-Some.ensures.steps)

pub push_reserved-requires : goal.push_reserved-requires
push_reserved-requires g c = omega (arith, c.loop-it.invariant.room, c.in-Some.ensures.steps)

pub returns-clause-room : goal.returns-clause-room
returns-clause-room g c = omega (arith, c.loop-it.invariant.room)

pub returns-clause-ends : goal.returns-clause-ends
returns-clause-ends g c =
    let all = YieldsList-end (YieldsList-from_vec c.args.ends.items c.into_iter-it-iterator.ensures.into_iter_gives.0 (omega (arith, c.into_iter-it-iterator.ensures.into_iter_gives.1, c.args.ends.ok.0))) c.loop-it.yielded c.loop-it.it-iterator c.loop-it.yielded_by c.next.result c.next.new.self c.in-None.is c.next.ensures.steps in
    c.loop-it.invariant.ends ∙ (sym (map-id c.loop-it.yielded) ∙ all.0)

pub returns-clause-before : goal.returns-clause-before
returns-clause-before g c = c.loop-it.invariant.none

pub returns-clause-asked : goal.returns-clause-asked
returns-clause-asked g c = c.loop-it.invariant.seat
