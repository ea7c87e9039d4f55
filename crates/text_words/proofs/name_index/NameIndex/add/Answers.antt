use Rattle.std.proofs.Common.{◌≡◌, ℕ, ◌++◌, List, None, length, map, sym, ap, subst, take, drop, ◌∙◌, arith}
use Rattle.std.proofs.lemmas.List.{length-map}
use denote.Ref.{Bor}
use Rattle.text_words.specs.Slots.{name_number, IsNameIndex}
use Rattle.text_words.proofs.SlotLemmas.{now_of, push_now, index_unchanged, index_added}
use Rattle.text_words.proofs.name_index.NameIndex.add.Goals as goal

pub make_room-requires-clause-index : goal.make_room-requires-clause-index
make_room-requires-clause-index g c =
    let inside = c.self.inside in
    subst (λ (items : List (Bor (List ℕ))). IsNameIndex (map now_of items) inside.slots.items inside.overflow) (sym (c.as_slice.ensures.value ∙ c.reserve.ensures.items)) c.self.invariant

pub invariant_of-self-in_err-make_room : goal.invariant_of-self-in_err-make_room
invariant_of-self-in_err-make_room g c =
    subst (λ (items : List (Bor (List ℕ))). IsNameIndex (map now_of items) c.make_room.new.slots.items c.make_room.new.overflow) c.as_slice.ensures.value c.make_room.ensures.index

pub invariant_of-self-in_err-store : goal.invariant_of-self-in_err-store
invariant_of-self-in_err-store g c =
    let slots = c.make_room.new.slots in
    let is : IsNameIndex (map now_of c.reserve.new.self.items) slots.items c.make_room.new.overflow =
    subst (λ (items : List (Bor (List ℕ))). IsNameIndex (map now_of items) slots.items c.make_room.new.overflow) c.as_slice.ensures.value c.make_room.ensures.index in
    index_unchanged (map now_of c.reserve.new.self.items) slots.len slots.items c.as_mut_slice.result.now c.store.new.slots c.make_room.new.overflow c.store.new.overflow is
    c.as_mut_slice.ensures.value (omega (arith, slots.ok.0)) c.store.ensures.count c.store.ensures.kept c.in_err-store.ensures.unchanged

pub invariant_of-self-2 : goal.invariant_of-self-2
invariant_of-self-2 g c =
    let inside = c.self.inside in
    let items = c.reserve.new.self.items in
    let name = c.args.name.now in
    let slots = c.make_room.new.slots in
    let is : IsNameIndex (map now_of items) slots.items c.make_room.new.overflow =
    subst (λ (names : List (Bor (List ℕ))). IsNameIndex (map now_of names) slots.items c.make_room.new.overflow) c.as_slice.ensures.value c.make_room.ensures.index in
    let fresh : name_number (map now_of items) name ≡ None =
    ap (λ (names : List (Bor (List ℕ))). name_number (map now_of names) name) c.reserve.ensures.items ∙ (rw (← c.self.view_is) at c.requires.fresh) in
    let counted : c.len-number.result ≡ inside.names.len = c.len-number.ensures in
    let kept : length items ≡ length inside.names.items = ap length c.reserve.ensures.items in
    let mapped : length (map now_of items) ≡ length items = length-map items now_of in
    let number : c.len-number.result ≡ length (map now_of items) = omega (arith, counted, inside.names.ok.0, kept, mapped) in
    subst (λ (names : List (List ℕ)). IsNameIndex names (take slots.len (c.store.new.slots ++ drop (length c.store.new.slots) slots.items)) c.store.new.overflow)
    (sym (ap (map now_of) c.push_reserved.ensures.items ∙ push_now items c.args.name))
    (index_added (map now_of items) slots.len c.len-number.result slots.items c.as_mut_slice.result.now c.store.new.slots c.make_room.new.overflow c.store.new.overflow name is
    c.as_mut_slice.ensures.value (omega (arith, slots.ok.0)) fresh number c.store.ensures.count c.store.ensures.kept c.store.ensures.adds c.in_ok-store.ensures.stored)
