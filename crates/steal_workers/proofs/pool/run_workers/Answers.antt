use Rattle.std.proofs.Common.{◌≡◌, ◌∷◌, [], inr, map, refl, sym, subst, ap, arith, ◌∙◌}
use Rattle.std.proofs.lemmas.List.{length-map}
use Rattle.steal_workers.specs.Ending.{AreSomeOf}
use Rattle.steal_workers.specs.Workers.{station_of, stations_of}
use Rattle.steal_workers.proofs.Collected.{brings_refused, came_none, came_more}
use Rattle.steal_workers.proofs.Endings.{some_map_as}
use Rattle.steal_workers.proofs.Settled.{leads, completes}
use Rattle.steal_workers.proofs.Ready.{behind_first, same_many}
use Rattle.steal_workers.proofs.pool.run_workers.Goals as goal

pub remove-first-requires : goal.remove-first-requires
remove-first-requires g c = omega (arith, c.requires.0, c.args.hired.ok.0, c.in_ok-prepare.ensures.workers)

pub start-requires-clause-room : goal.start-requires-clause-room
start-requires-clause-room g c κs within =
    let made = c.in_ok-prepare.ensures in
    let none = c.new-running.ensures in
    (made.running.0 ∙ none.items, made.running.1 ∙ none.len, omega (arith, made.running.2, made.workers, made.running.1, none.len, c.remove-first.ensures.len))

pub add-requires : goal.add-requires
add-requires g c =
    let made = c.in_ok-prepare.ensures in
    let room = made.back.1 in
    let one = c.remove-first.ensures.len in
    record { room = (omega (arith, room.0, one, made.workers), omega (arith, room.1, one, made.workers), omega (arith, room.2, one, made.workers)) }

pub join_workers-requires : goal.join_workers-requires
join_workers-requires g c =
    let made = c.in_ok-prepare.ensures in
    let room = made.back.1 in
    let one = c.remove-first.ensures.len in
    let few = c.start.ensures.at_most in
    c.add.ensures.room _ (omega (arith, room.0, few, one, made.workers), omega (arith, room.1, few, one, made.workers), omega (arith, room.2, few, one, made.workers))

pub settle-requires : goal.settle-requires
settle-requires g c none =
    let made = c.in_ok-prepare.ensures in
    let whole = behind_first c.prepare.new.hired.items c.remove-first.new.self.items c.remove-first.result (omega (arith, c.requires.0, c.args.hired.ok.0, c.prepare.new.hired.ok.0, made.workers)) c.remove-first.ensures.value c.remove-first.ensures.items in
    let began = came_none c.thread_fault_of-back.result _ (brings_refused _ c.new-back.result _ c.new-back.ensures made.back.0.0 made.back.0.1 made.back.0.2 refl) in
    let came = c.join_workers.ensures (c.remove-first.result ∷ []) c.thread_fault_of-back.result (came_more [] c.thread_fault_of-back.result c.remove-first.result c.run.result _ _ began c.add.ensures.adds c.run.ensures.station c.run.ensures.torn) in
    leads c.args.hired.items came.0 c.start.result _ c.join_workers.new.back came.3 c.thread_fault_of-back.ensures
    (λ all. came.1 ∙ ap (λ others. stations_of (c.remove-first.result ∷ others)) (c.start.ensures.hired all) ∙ ap stations_of (sym whole) ∙ made.stations) c.requires.1 none

pub returns : goal.returns
returns g c =
    let made = c.in_ok-prepare.ensures in
    let whole = behind_first c.prepare.new.hired.items c.remove-first.new.self.items c.remove-first.result (omega (arith, c.requires.0, c.args.hired.ok.0, c.prepare.new.hired.ok.0, made.workers)) c.remove-first.ensures.value c.remove-first.ensures.items in
    let began = came_none c.thread_fault_of-back.result _ (brings_refused _ c.new-back.result _ c.new-back.ensures made.back.0.0 made.back.0.1 made.back.0.2 refl) in
    let came = c.join_workers.ensures (c.remove-first.result ∷ []) c.thread_fault_of-back.result (came_more [] c.thread_fault_of-back.result c.remove-first.result c.run.result _ _ began c.add.ensures.adds c.run.ensures.station c.run.ensures.torn) in
    let others = map (λ h. h.promise.0.value) c.start.new.running.items in
    let ran = c.remove-first.result ∷ others in
    completes c.args.hired.items c.prepare.new.hired.items came.0 c.start.result _ c.join_workers.new.back c.settle.result c.settle.ensures came.3 c.thread_fault_of-back.ensures
    made.stations made.root
    (some_map_as station_of came.0 ran _ came.1 (subst (AreSomeOf ran) (sym whole) (inr (others, refl, c.start.ensures.some))))
    (λ all. came.1 ∙ ap (λ others. stations_of (c.remove-first.result ∷ others)) (c.start.ensures.hired all) ∙ ap stations_of (sym whole))
    (λ refused. omega (arith, c.start.ensures.fewer refused, same_many ran came.0 came.1, length-map c.start.new.running.items (λ h. h.promise.0.value), c.start.new.running.ok.0, c.prepare.new.hired.ok.0, c.remove-first.ensures.len))
    came.2
