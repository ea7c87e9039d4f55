use Rattle.std.proofs.Common.{rules, ◌≡◌, [], ◌∷◌, ◌++◌, map, arith, sym, ap, ◌∙◌}
use Rattle.std.proofs.lemmas.List.{map-append}
use Rattle.std.proofs.lemmas.List.Elements.{All-push, All-same}
use Rattle.std.proofs.lemmas.List.FromFn.{map-range_with_len_more}
use Rattle.steal_workers.specs.PassLogs.{pass_log}
use Rattle.steal_workers.specs.StealHandles.{own_view, places_of}
use Rattle.steal_workers.proofs.worker_deques.make_own_deques.Goals as goal

pub loop-place-preserved : goal.loop-place-preserved
loop-place-preserved g c =
    let was = c.loop-place.invariant in
    let ends = c.loop-place.ends.items in
    let grown = c.push_reserved.ensures.items in record {
      workers = search rules;
      room = c.push_reserved.ensures.capacity ∙ was.room;
      places = ap places_of grown ∙ map-append (λ it. it.place) ends _ ∙ ap (λ places. places ++ c.loop-place.place ∷ []) was.places ∙ sym (map-range_with_len_more (λ place. place) 0 c.loop-place.place c.loop-place.place (omega arith));
      views = All-same (λ v. v ≡ pass_log [] []) _ _ (ap (map own_view) grown ∙ map-append own_view ends _) (All-push (λ v. v ≡ pass_log [] []) _ _ was.views (search rules));
    }
