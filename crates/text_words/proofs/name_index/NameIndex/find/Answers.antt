use Rattle.std.proofs.Common.{◌≡◌, ℕ, List, length, map, sym, ap, ◌∙◌, rules}
use Rattle.text_words.specs.declared.name_index.Seen.TheVariants.{Free, Other}
use Rattle.text_words.specs.Slots.{first_slot, second_slot}
use Rattle.text_words.proofs.SlotLemmas.{now_of, no_slots, free_first, free_second, in_tree, seen_in}
use Rattle.text_words.proofs.name_index.NameIndex.find.Goals as goal

pub returns-then-is_empty : goal.returns-then-is_empty
returns-then-is_empty g c =
    let inside = c.self.inside in
    let none : length inside.slots.items ≡ 0 = search rules in
    rw (← c.self.view_is) (sym (no_slots (map now_of inside.names.items) inside.slots.items inside.overflow c.self.invariant c.args.name.now none))

pub returns-in-Free : goal.returns-in-Free
returns-in-Free g c =
    let inside = c.self.inside in
    let name = c.args.name.now in
    let names = c.as_slice-names.ensures.value in
    let slots = c.as_slice-slots.ensures.value in
    let first = c.slots_of-of_name.ensures.first ∙ ap (λ (xs : List ℕ). first_slot (length xs) name) slots in
    let free = seen_in inside.names.items c.as_slice-names.result.now inside.slots.items c.as_slice-slots.result.now _ _ name Free names slots first c.in-Free.ensures in
    rw (← c.self.view_is) (sym (free_first (map now_of inside.names.items) inside.slots.items inside.overflow c.self.invariant name free))

pub returns-in-Free-see : goal.returns-in-Free-see
returns-in-Free-see g c =
    let inside = c.self.inside in
    let name = c.args.name.now in
    let names = c.as_slice-names.ensures.value in
    let slots = c.as_slice-slots.ensures.value in
    let first = c.slots_of-of_name.ensures.first ∙ ap (λ (xs : List ℕ). first_slot (length xs) name) slots in
    let second = c.slots_of-of_name.ensures.second ∙ ap (λ (xs : List ℕ). second_slot (length xs) name) slots in
    let other = seen_in inside.names.items c.as_slice-names.result.now inside.slots.items c.as_slice-slots.result.now _ _ name Other names slots first c.in-Other.ensures in
    let free = seen_in inside.names.items c.as_slice-names.result.now inside.slots.items c.as_slice-slots.result.now _ _ name Free names slots second c.in-Free-see.ensures in
    rw (← c.self.view_is) (sym (free_second (map now_of inside.names.items) inside.slots.items inside.overflow c.self.invariant name other free))

pub returns-in-Other-see : goal.returns-in-Other-see
returns-in-Other-see g c =
    let inside = c.self.inside in
    let name = c.args.name.now in
    let names = c.as_slice-names.ensures.value in
    let slots = c.as_slice-slots.ensures.value in
    let first = c.slots_of-of_name.ensures.first ∙ ap (λ (xs : List ℕ). first_slot (length xs) name) slots in
    let second = c.slots_of-of_name.ensures.second ∙ ap (λ (xs : List ℕ). second_slot (length xs) name) slots in
    let other = seen_in inside.names.items c.as_slice-names.result.now inside.slots.items c.as_slice-slots.result.now _ _ name Other names slots first c.in-Other.ensures in
    let also = seen_in inside.names.items c.as_slice-names.result.now inside.slots.items c.as_slice-slots.result.now _ _ name Other names slots second c.in-Other-see.ensures in
    rw (← c.self.view_is) (c.search.ensures ∙ in_tree (map now_of inside.names.items) inside.slots.items inside.overflow c.self.invariant name other also)
