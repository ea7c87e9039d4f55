use Rattle.std.proofs.Common.{List, [], ◌∷◌, ◌++◌, length, reverse, append-nil, refl, sym, ap, ◌∙◌, subst, arith}
use Rattle.std.proofs.lemmas.Result.{on_ok_weaker}
use Rattle.model_histories.specs.declared.answer.Entry.{Entry}
use Rattle.race_pairs.specs.Kept.{IsSeen}
use Rattle.race_pairs.specs.Sightings.{sighting_of}
use Rattle.race_pairs.proofs.Digesting.{can_add, may_grow, refusals_below, races_before, seen_next, next_plain, next_refused}
use Rattle.race_pairs.proofs.digest.Digest.add.Goals as goal

pub add-requires : goal.add-requires
add-requires c = can_add c.requires.0 c.args.entry c.args.self.now c.requires.1 c.requires.2.0

pub returns-in_default-clause-next : goal.returns-in_default-clause-next
returns-in_default-clause-next c = λ told is next.
    next_plain told c.args.entry c.args.self.now _ is next.0 c.in_ok-push.ensures.items
    (c.in_ok-add.ensures (reverse told) is.lineage (may_grow told c.args.entry next.0))
    (sym (c.sighting_of.ensures ∙ ap (sighting_of c.args.entry) c.as_slice.ensures.value) ∙ c.in_default.is) refl refl

pub overflow_add-self : goal.overflow_add-self
overflow_add-self c = let low = refusals_below c.requires.0 c.args.entry c.args.self.now c.requires.1 c.requires.2.0 in omega arith

pub add-requires-2 : goal.add-requires-2
add-requires-2 c = (
  c.requires.0 ++ c.args.entry ∷ [],
  length c.requires.0,
  c.requires.2.0.2,
  races_before c.requires.0 c.args.entry c.args.self.now c.requires.1,
  subst (λ (xs : List Entry). IsSeen xs (length c.requires.0) c.add.new.self c.as_slice-2.result.now c.in-Some.sighting) (append-nil (c.requires.0 ++ c.args.entry ∷ []))
      (seen_next c.requires.0 c.args.entry c.args.self.now (record c.args.self.now { lines = c.push.new.self; lineage = c.add.new.self }) c.requires.1 c.requires.2.0
      c.in_ok-push.ensures.items (c.in_ok-add.ensures (reverse c.requires.0) c.requires.1.lineage (may_grow c.requires.0 c.args.entry c.requires.2.0))
      c.in-Some.sighting (sym (c.sighting_of.ensures ∙ ap (sighting_of c.args.entry) c.as_slice.ensures.value) ∙ c.in-Some.is)
      c.as_slice-2.result.now c.as_slice-2.ensures.value []),
)

pub returns-clause-next : goal.returns-clause-next
returns-clause-next c =
    on_ok_weaker c.add-2.result (λ kept told is next.
    next_refused told c.args.entry c.args.self.now _ is next.0 c.in_ok-push.ensures.items
    (c.in_ok-add.ensures (reverse told) is.lineage (may_grow told c.args.entry next.0)) next.1 c.in-Some.sighting
    (sym (c.sighting_of.ensures ∙ ap (sighting_of c.args.entry) c.as_slice.ensures.value) ∙ c.in-Some.is)
    c.as_slice-2.result.now c.as_slice-2.ensures.value refl kept) c.add-2.ensures.kept
