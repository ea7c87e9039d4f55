use Rattle.std.proofs.Common.{arith, map, subst, sym, ap, ◌≡◌, ◌∙◌, ◌++◌, ◌∷◌, [], None}
use Rattle.race_explanations.specs.ToldPlaces.{told_of, place_of, is_same}
use Rattle.race_explanations.proofs.Placing.{places_pushed}
use Rattle.race_explanations.proofs.merge.FindingList.push.Goals as goal

pub invariant_of-self-2 : goal.invariant_of-self-2
invariant_of-self-2 c =
    places_pushed c.self.inside.list.items c.push_reserved.new.self.items c.args.other c.in_ok-told.told c.len.result c.self.inside.places c.insert.new.self
    c.self.invariant
    (subst (λ all. place_of is_same (map told_of all) (told_of c.args.other) ≡ None) (sym c.self.view_is) c.requires) c.in_ok-told.ensures (omega (arith, c.len.ensures))
    c.in_ok-insert.ensures.updates (c.push_reserved.ensures.items ∙ ap (λ some. some ++ c.args.other ∷ []) c.reserve.ensures.items)
