use Rattle.std.proofs.Common.{◌≡◌, ◌≢◌, ◌<◌, get_or, arith}
use Rattle.order_list.specs.Places.{groups_of, nexts_of}
use Rattle.order_list.proofs.Tied.{next_known, room-inner, room-last}
use Rattle.order_list.proofs.grouping.Grouping.gap_behind.Goals as goal
use Rattle.order_list.proofs.grouping.Grouping.gap_behind.Goals.{then-here-ne0+else-following-here, else-here-ne0}

pub place_at-following-requires : goal.place_at-following-requires
place_at-following-requires g c =
    let grouped = c.args.self.now.grouped in
    omega (arith, rw c.deref.ensures.value at c.place_at-here.ensures.next, c.deref-then-here-ne0.ensures.len, next_known grouped c.args.item c.requires, grouped.len)

pub overflow_sub-result : goal.overflow_sub-result
overflow_sub-result g c =
    let grouped = c.args.self.now.grouped in
    let places = c.args.self.now.places.items in
    let next : c.place_at-here.result.next ≡ get_or (nexts_of places) c.args.item 0 = rw c.deref.ensures.value at c.place_at-here.ensures.next in
    let here_group = rw c.deref.ensures.value at c.place_at-here.ensures.group in
    let here_local = rw c.deref.ensures.value at c.place_at-here.ensures.local in
    let group = rw (c.deref-then-here-ne0.ensures.value, next) at c.place_at-following.ensures.group in
    let local = rw (c.deref-then-here-ne0.ensures.value, next) at c.place_at-following.ensures.local in
    omega (arith, local, here_local, (room-inner grouped c.args.item c.requires (omega (arith, next)) (omega (arith, group, here_group))).0)

pub returns-then-following-here : goal.returns-then-following-here
returns-then-following-here g c =
    let grouped = c.args.self.now.grouped in
    let places = c.args.self.now.places.items in
    let next : c.place_at-here.result.next ≡ get_or (nexts_of places) c.args.item 0 = rw c.deref.ensures.value at c.place_at-here.ensures.next in
    let here_group = rw c.deref.ensures.value at c.place_at-here.ensures.group in
    let here_local = rw c.deref.ensures.value at c.place_at-here.ensures.local in
    let group = rw (c.deref-then-here-ne0.ensures.value, next) at c.place_at-following.ensures.group in
    let local = rw (c.deref-then-here-ne0.ensures.value, next) at c.place_at-following.ensures.local in
    let room = room-inner grouped c.args.item c.requires (omega (arith, next)) (omega (arith, group, here_group)) in
    record {
      fits = omega (arith, local, here_local, room.0, grouped.small (get_or (nexts_of places) c.args.item 0) (next_known grouped c.args.item c.requires));
      behind = rw (local, here_local) (room.1);
    }

pub returns : goal.returns
returns g c =
    let grouped = c.args.self.now.grouped in
    let places = c.args.self.now.places.items in
    let next : c.place_at-here.result.next ≡ get_or (nexts_of places) c.args.item 0 = rw c.deref.ensures.value at c.place_at-here.ensures.next in
    let here_group = rw c.deref.ensures.value at c.place_at-here.ensures.group in
    let here_local = rw c.deref.ensures.value at c.place_at-here.ensures.local in
    let differ : 0 < get_or (nexts_of places) c.args.item 0 → get_or (groups_of places) (get_or (nexts_of places) c.args.item 0) 0 ≢ get_or (groups_of places) c.args.item 0 = λ some same.
    elim c.if-here-ne0.branch [
      | then-here-ne0+else-following-here w ↦
          let group = rw (w.deref-then-here-ne0.ensures.value, next) at w.place_at-following.ensures.group in
          omega (arith, same, group, here_group)
      | else-here-ne0 w ↦ omega (arith, some, next)
    ] in
    record {
      fits = omega (arith, here_local, grouped.small c.args.item c.requires);
      behind = rw here_local (room-last grouped c.args.item c.requires differ);
    }
