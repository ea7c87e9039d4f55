use Rattle.std.proofs.Common.{◌≡◌, ◌+◌, ◌∷◌, suc, List, length, refl, sym, subst, arith}
use Rattle.model_histories.specs.Entries.{control_part}
use Rattle.race_pairs.specs.declared.kept.Frame.{Frame}
use Rattle.race_pairs.specs.declared.kept.Turn.{Turn}
use Rattle.race_pairs.specs.Lineages.{Kept, IsLineage, AreKept}
use Rattle.race_pairs.specs.Growths.{CanGrow}
use Rattle.race_pairs.proofs.Added.{lineage_more, event_known, spawner_known, caller_known, returner_known, split_event, call_event, return_event, may_grow, quiet_entry}
use Rattle.race_pairs.proofs.LineageGrown.{kept_still}
use Rattle.race_pairs.proofs.Raised.{can_raise, raised_call, raised_return, raised_quiet}
use Rattle.race_pairs.proofs.lineage.Lineage.add.Goals as goal
use Rattle.race_pairs.proofs.lineage.Lineage.add.Goals.{in-Spawns+in_ok-add_spawn-in-Spawns+in_ok-add_jumps-in-Spawns, in-Calls+in_ok-add_call-in-Calls, in-Returns+in_ok-add_return-in-Returns, in-Stays}

pub add_spawn-requires : goal.add_spawn-requires
add_spawn-requires c =
    let lineage = subst (λ (k : Kept). IsLineage k c.requires.0) (sym c.self.view_is) c.requires.1 in
    let spawned = c.in-Spawns.spawned in
    let event = split_event c.args.entry spawned c.in-Spawns.ensures.0 c.in-Spawns.ensures.1 in
    let known = spawner_known (control_part c.requires.0) c.args.entry.request.strand spawned.child spawned.next spawned.join spawned.first
    (event_known c.requires.0 c.args.entry _ event c.requires.2.0) in
    subst (λ (T : List Turn). CanGrow c.self.inside.opened.items T c.self.inside.strands.items c.args.entry.request.strand) (sym c.as_slice.ensures.value)
    (may_grow c.self.inside.opened.items c.self.inside.turns.items c.self.inside.strands.items c.requires.0 c.args.entry c.args.entry.request.strand
    lineage.kept_are c.requires.2 known)

pub add_jumps-requires : goal.add_jumps-requires
add_jumps-requires c =
    let lineage = subst (λ (k : Kept). IsLineage k c.requires.0) (sym c.self.view_is) c.requires.1 in
    let spawned = c.in-Spawns.spawned in
    let event = split_event c.args.entry spawned c.in-Spawns.ensures.0 c.in-Spawns.ensures.1 in
    let known = spawner_known (control_part c.requires.0) c.args.entry.request.strand spawned.child spawned.next spawned.join spawned.first
    (event_known c.requires.0 c.args.entry _ event c.requires.2.0) in
    (c.requires.0, can_raise c.self.inside.jumps.items c.requires.0 c.args.entry.request.strand lineage.raised lineage.kept_are.made.legal c.requires.2.1 known)

pub add_call-requires : goal.add_call-requires
add_call-requires c =
    let lineage = subst (λ (k : Kept). IsLineage k c.requires.0) (sym c.self.view_is) c.requires.1 in
    let event = call_event c.args.entry c.in-Calls.ensures.0 c.in-Calls.ensures.1 in
    let known = caller_known (control_part c.requires.0) c.args.entry.request.strand (event_known c.requires.0 c.args.entry _ event c.requires.2.0) in
    may_grow c.self.inside.opened.items c.self.inside.turns.items c.self.inside.strands.items c.requires.0 c.args.entry c.args.entry.request.strand
    lineage.kept_are c.requires.2 known

pub add_return-requires : goal.add_return-requires
add_return-requires c =
    let lineage = subst (λ (k : Kept). IsLineage k c.requires.0) (sym c.self.view_is) c.requires.1 in
    let event = return_event c.args.entry c.in-Returns.ensures.0 c.in-Returns.ensures.1 in
    let known = returner_known (control_part c.requires.0) c.args.entry.request.strand (event_known c.requires.0 c.args.entry _ event c.requires.2.0) in
    subst (λ (F : List Frame). CanGrow F c.self.inside.turns.items c.self.inside.strands.items c.args.entry.request.strand) (sym c.as_slice-in-Returns.ensures.value)
    (may_grow c.self.inside.opened.items c.self.inside.turns.items c.self.inside.strands.items c.requires.0 c.args.entry c.args.entry.request.strand
    lineage.kept_are c.requires.2 known)

pub returns : goal.returns
returns c = λ entries lineage_now grows.
    let lineage = subst (λ (k : Kept). IsLineage k entries) (sym c.self.view_is) lineage_now in
    let number : c.self.inside.count + 1 ≡ suc (length entries) = omega (arith, lineage.count_is) in
    elim c.match-step_of.branch [
      | in-Spawns+in_ok-add_spawn-in-Spawns+in_ok-add_jumps-in-Spawns w ↦ rw w.self-inside-is (
          let event = split_event c.args.entry w.in-Spawns.spawned w.in-Spawns.ensures.0 w.in-Spawns.ensures.1 in
          lineage_more _ _ c.args.entry entries lineage grows
          (subst (λ (T : List Turn). AreKept w.add_spawn.new.opened.items T w.add_spawn.new.strands.items (c.args.entry ∷ entries)) w.as_slice.ensures.value
          (w.in_ok-add_spawn-in-Spawns.ensures entries c.args.entry
          (subst (λ (T : List Turn). AreKept c.self.inside.opened.items T c.self.inside.strands.items entries) (sym w.as_slice.ensures.value) lineage.kept_are)
          number (event, event_known entries c.args.entry _ event grows.0)))
          (w.in_ok-add_jumps-in-Spawns.ensures entries c.args.entry
          (can_raise c.self.inside.jumps.items entries c.args.entry.request.strand lineage.raised lineage.kept_are.made.legal grows.1
          (spawner_known (control_part entries) c.args.entry.request.strand w.in-Spawns.spawned.child w.in-Spawns.spawned.next w.in-Spawns.spawned.join
          w.in-Spawns.spawned.first (event_known entries c.args.entry _ event grows.0)))
          (event, event_known entries c.args.entry _ event grows.0)) refl
          )
      | in-Calls+in_ok-add_call-in-Calls w ↦ rw w.self-inside-is (
          let event = call_event c.args.entry w.in-Calls.ensures.0 w.in-Calls.ensures.1 in
          lineage_more _ _ c.args.entry entries lineage grows
          (w.in_ok-add_call-in-Calls.ensures entries c.args.entry lineage.kept_are number (event, event_known entries c.args.entry _ event grows.0))
          (raised_call _ c.args.entry entries c.args.entry.request.strand (event, event_known entries c.args.entry _ event grows.0) lineage.raised) refl
          )
      | in-Returns+in_ok-add_return-in-Returns w ↦ rw w.self-inside-is (
          let event = return_event c.args.entry w.in-Returns.ensures.0 w.in-Returns.ensures.1 in
          lineage_more _ _ c.args.entry entries lineage grows
          (subst (λ (F : List Frame). AreKept F w.add_return.new.turns.items w.add_return.new.strands.items (c.args.entry ∷ entries)) w.as_slice-in-Returns.ensures.value
          (w.in_ok-add_return-in-Returns.ensures entries c.args.entry
          (subst (λ (F : List Frame). AreKept F c.self.inside.turns.items c.self.inside.strands.items entries) (sym w.as_slice-in-Returns.ensures.value) lineage.kept_are)
          number (event, event_known entries c.args.entry _ event grows.0)))
          (raised_return _ c.args.entry entries c.args.entry.request.strand (event, event_known entries c.args.entry _ event grows.0) lineage.raised) refl
          )
      | in-Stays w ↦ rw w.self-inside-is (
          lineage_more _ _ c.args.entry entries lineage grows
          (kept_still _ _ _ c.args.entry entries lineage.kept_are (quiet_entry c.args.entry entries grows.0 w.in-Stays.ensures.0 w.in-Stays.ensures.1 w.in-Stays.ensures.2))
          (raised_quiet _ c.args.entry entries (quiet_entry c.args.entry entries grows.0 w.in-Stays.ensures.0 w.in-Stays.ensures.1 w.in-Stays.ensures.2) lineage.raised) refl
          )
    ]
