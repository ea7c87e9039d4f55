use Rattle.std.proofs.Common.{refl, sym, ◌∙◌, arith}
use Rattle.std.proofs.lemmas.Result.{on_ok_weaker}
use Rattle.race_pairs.proofs.Knowing.{count_below, kept_times, kept_begun, new_key, kept_passed, kept_counted, found_at, found_none}
use Rattle.race_pairs.proofs.races.Races.add.Goals as goal

pub count_own-requires-clause-own : goal.count_own-requires-clause-own
count_own-requires-clause-own c = c.is_full.ensures.own c.if-is_full.true

pub count_own-requires-clause-few : goal.count_own-requires-clause-few
count_own-requires-clause-few c = let few = count_below c.requires.0 c.requires.1 c.args.self.now c.requires.3 in let low = c.requires.2 in omega arith

pub returns-then-is_full-clause-own : goal.returns-then-is_full-clause-own
returns-then-is_full-clause-own c = c.count_own.ensures.own ∙ sym (c.is_full.ensures.own c.if-is_full.true)

pub returns-then-is_full-clause-kept : goal.returns-then-is_full-clause-kept
returns-then-is_full-clause-kept c = λ told last kept seen fresh.
    kept_passed told last c.args.lineage.now c.args.lines.now c.args.sighting seen c.args.self.now _ refl kept (c.is_full.ensures.full c.if-is_full.true) refl
    (fresh (c.is_full.ensures.own c.if-is_full.true)) (λ pair. c.count_own.ensures.added kept.pairs pair kept.knows)

pub spawn_line-spawn-requires : goal.spawn_line-spawn-requires
spawn_line-spawn-requires c = (c.requires.0, c.requires.1, c.requires.4)

pub count_in-requires : goal.count_in-requires
count_in-requires c = λ k d lt.
    let few = kept_times c.requires.0 c.requires.1 c.args.self.now c.requires.3 k d lt in let low = c.requires.2 in omega arith

pub returns-in-Some-clause-kept : goal.returns-in-Some-clause-kept
returns-in-Some-clause-kept c =
    on_ok_weaker c.count_in.result (λ counted told last kept seen fresh.
    kept_counted told last c.args.lineage.now c.args.lines.now c.args.sighting seen c.args.self.now _ refl kept c.spawn_line-spawn.result
    (c.spawn_line-spawn.ensures told last seen) refl c.in-Some.before
    (found_at c.args.self.now.known kept.pairs _ c.find.result c.in-Some.before c.find.ensures.own c.find.ensures.among c.in-Some.is kept.knows) counted)
    c.count_in.ensures

pub add-requires : goal.add-requires
add-requires c = let few = count_below c.requires.0 c.requires.1 c.args.self.now c.requires.3 in let low = c.requires.2 in omega arith

pub returns-in_ok-add-in-None-clause-kept : goal.returns-in_ok-add-in-None-clause-kept
returns-in_ok-add-in-None-clause-kept c =
    on_ok_weaker c.begin_in.result (λ begun told last kept seen fresh.
    (let new = found_none c.args.self.now.known kept.pairs _ c.find.result c.find.ensures.among c.in-None.is kept.knows
    (λ own. new_key told last c.args.lineage.now c.args.lines.now c.args.sighting seen c.args.self.now c.args.self.now refl kept c.spawn_line-spawn.result (fresh own)) in
    kept_begun told last c.args.lineage.now c.args.lines.now c.args.sighting seen c.args.self.now _ refl kept c.spawn_line-spawn.result
    (c.spawn_line-spawn.ensures told last seen) (λ pair is. c.in_ok-add-in-None.ensures.added kept.pairs pair kept.knows new is) new begun))
    c.begin_in.ensures
