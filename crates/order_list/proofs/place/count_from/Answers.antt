use Rattle.std.proofs.Common.{◌≡◌, ◌+◌, ◌<◌, length, get_or, ap, sym, ◌∙◌, refl, inl, inr, arith}
use Rattle.std.proofs.lemmas.Bool.{cases_lt}
use Rattle.std.proofs.lemmas.List.{get_or_past}
use Rattle.order_list.specs.Order.{place_of}
use Rattle.order_list.specs.Places.{groups_of, nexts_of, items_along}
use Rattle.order_list.proofs.Rings.{item_at, next_is, known_at, past_end}
use Rattle.order_list.proofs.Groupings.{chain_len}
use Rattle.order_list.proofs.place.count_from.Goals as goal

pub ahead-init : goal.ahead-init
ahead-init c =
    let chain = c.requires.chain in
    let items = items_along c.args.places.now in
    let known : c.args.first < length items = omega (arith, c.requires.known, chain_len c.args.places.now chain) in
    record {
      some = omega arith;
      within = omega (arith, chain.listing c.args.first known);
      end = c.place_at-here.ensures.next ∙ next_is chain c.args.first known;
      same = λ place from to.
          let here : place ≡ place_of c.args.first items = omega arith in
          rw (here, item_at chain c.args.first known) refl;
    }

pub place_at-following-requires : goal.place_at-following-requires
place_at-following-requires c =
    let chain = c.requires.chain in
    let at_end = place_of c.args.first (items_along c.args.places.now) + c.ahead.count in
    omega (arith, c.ahead.invariant.end, known_at chain at_end c.ahead.invariant.within, chain_len c.args.places.now chain)

pub overflow_add-count : goal.overflow_add-count
overflow_add-count c = omega (arith, c.ahead.invariant.within, c.requires.few, chain_len c.args.places.now c.requires.chain)

pub ahead-preserved : goal.ahead-preserved
ahead-preserved c =
    let chain = c.requires.chain in
    let items = items_along c.args.places.now in
    let start = place_of c.args.first items in
    let at_end = start + c.ahead.count in
    let inner : at_end < length items = elim (cases_lt at_end (length items)) [ inl l ↦ l | inr ge ↦ absurd (c.ahead-test.true (c.ahead.invariant.end ∙ get_or_past items at_end 0 ge)) ] in
    let same_group : c.place_at-following.result.group ≡ c.place_at-here.result.group = omega arith in
    record {
      some = omega arith;
      within = omega (arith, inner);
      end = c.place_at-following.ensures.next ∙ (ap (λ x. get_or (nexts_of c.args.places.now) x 0) c.ahead.invariant.end ∙ (chain.forward at_end inner ∙ ap (λ x. get_or items x 0) (omega arith)));
      same = λ place from to. elim (cases_lt place at_end) [
        | inl before ↦ c.ahead.invariant.same place from before
        | inr last ↦
            let here : place ≡ at_end = omega arith in
            rw here (sym (ap (λ x. get_or (groups_of c.args.places.now) x 0) c.ahead.invariant.end) ∙ (sym c.place_at-following.ensures.group ∙ (same_group ∙ c.place_at-here.ensures.group)))
      ];
    }

pub returns-after-ahead : goal.returns-after-ahead
returns-after-ahead c =
    let chain = c.requires.chain in
    let items = items_along c.args.places.now in
    let at_end = place_of c.args.first items + c.ahead.count in
    let none : get_or items at_end 0 ≡ 0 = omega (arith, c.ahead.invariant.end) in
    let last = past_end chain at_end (omega (arith, c.ahead.invariant.some)) c.ahead.invariant.within none in
    record {
      row = record {
        known = omega (arith, c.requires.known, chain_len c.args.places.now chain);
        some = c.ahead.invariant.some;
        within = c.ahead.invariant.within;
      };
      same = c.ahead.invariant.same;
      ends = λ inner. absurd (omega (arith, last, inner));
    }

pub returns-then-following-here : goal.returns-then-following-here
returns-then-following-here c =
    let chain = c.requires.chain in
    record {
      row = record {
        known = omega (arith, c.requires.known, chain_len c.args.places.now chain);
        some = c.ahead.invariant.some;
        within = c.ahead.invariant.within;
      };
      same = c.ahead.invariant.same;
      ends = λ inner e.
          let there = ap (λ x. get_or (groups_of c.args.places.now) x 0) c.ahead.invariant.end in
          omega (arith, e, there, c.place_at-following.ensures.group, c.place_at-here.ensures.group);
    }
