use Rattle.std.proofs.Common.{◌∙◌, length, refl, ap, arith}
use Rattle.std.proofs.lemmas.Bool.{false≢true}
use Rattle.branch_names.specs.Names.{Names, Given, Kept}
use Rattle.branch_names.specs.Packed.{names_of}
use Rattle.branch_names.proofs.Events.{spawner-known, begun-numbered, pushed-first, pushed-later}
use Rattle.branch_names.proofs.Stored.{length-names, number-read, names-pushed}
use Rattle.branch_names.proofs.branches.Branches.spawned.Goals as goal

pub index-requires : goal.index-requires
index-requires g c =
    let count = ap (λ (branches : Names). length branches.names) c.self.view_is in
    omega (arith, count, spawner-known c.args.self.now c.args.strand c.args.spawned.now.child c.args.spawned.now.next c.args.spawned.now.join c.args.spawned.now.first c.requires.takes, length-names c.self.inside.names.items, c.self.inside.names.ok)

pub given-requires : goal.given-requires
given-requires g c =
    let count = ap (λ (branches : Names). length branches.names) c.self.view_is in
    let room = c.self.invariant.1 (ap (λ (branches : Names). branches.has_room) c.self.view_is ∙ c.requires.room) in
    omega (arith, count, (begun-numbered c.args.self.now c.args.strand c.args.spawned.now.child c.args.spawned.now.next c.args.spawned.now.join c.args.spawned.now.first c.requires.takes).0, room.1, length-names c.self.inside.names.items, c.self.inside.names.ok)

pub given-requires-2 : goal.given-requires-2
given-requires-2 g c =
    let count = ap (λ (branches : Names). length branches.names) c.self.view_is in
    let room = c.self.invariant.1 (ap (λ (branches : Names). branches.has_room) c.self.view_is ∙ c.requires.room) in
    omega (arith, count, (begun-numbered c.args.self.now c.args.strand c.args.spawned.now.child c.args.spawned.now.next c.args.spawned.now.join c.args.spawned.now.first c.requires.takes).1, room.1, length-names c.self.inside.names.items, c.self.inside.names.ok)

pub returns-then-spawned-clause-follows : goal.returns-then-spawned-clause-follows
returns-then-spawned-clause-follows g c history follows legal =
    let items = ap (λ (branches : Names). branches.names) c.self.view_is in
    let kept = number-read c.self.inside.names.items c.args.self.now.names c.args.strand c.number-kept.result c.index.result.now items (spawner-known c.args.self.now c.args.strand c.args.spawned.now.child c.args.spawned.now.next c.args.spawned.now.join c.args.spawned.now.first c.requires.takes) c.index.ensures c.number-kept.ensures.is in
    pushed-first (names_of c.self.inside.names.items) (names_of c.push_reserved.new.self.items) (names_of c.push_reserved-2.new.self.items) (names_of c.push_reserved-then-spawned.new.self.items) c.args.self.now _ history c.args.strand c.args.spawned.now.child c.args.spawned.now.next c.args.spawned.now.join c.number-kept.result c.args.spawned.now.first items (names-pushed c.self.inside.names.items c.push_reserved.new.self.items c.given.result (Given c.args.spawned.now.child) c.push_reserved.ensures.items c.given.ensures) (names-pushed c.push_reserved.new.self.items c.push_reserved-2.new.self.items c.given-2.result (Given c.args.spawned.now.next) c.push_reserved-2.ensures.items c.given-2.ensures) (names-pushed c.push_reserved-2.new.self.items c.push_reserved-then-spawned.new.self.items c.kept.result (Kept c.number-kept.result) c.push_reserved-then-spawned.ensures.items c.kept.ensures) c.if-spawned.true refl follows legal kept

pub returns-else-spawned-clause-follows : goal.returns-else-spawned-clause-follows
returns-else-spawned-clause-follows g c history follows legal =
    let items = ap (λ (branches : Names). branches.names) c.self.view_is in
    pushed-later (names_of c.self.inside.names.items) (names_of c.push_reserved.new.self.items) (names_of c.push_reserved-2.new.self.items) c.args.self.now _ history c.args.strand c.args.spawned.now.child c.args.spawned.now.next c.args.spawned.now.join c.args.spawned.now.first items (names-pushed c.self.inside.names.items c.push_reserved.new.self.items c.given.result (Given c.args.spawned.now.child) c.push_reserved.ensures.items c.given.ensures) (names-pushed c.push_reserved.new.self.items c.push_reserved-2.new.self.items c.given-2.result (Given c.args.spawned.now.next) c.push_reserved-2.ensures.items c.given-2.ensures) c.if-spawned.false refl follows legal

pub invariant_of-self : goal.invariant_of-self
invariant_of-self g c =
    let items = ap (λ (branches : Names). branches.names) c.self.view_is in
    let (history, follows, legal) = c.requires.takes in
    let kept = number-read c.self.inside.names.items c.args.self.now.names c.args.strand c.number-kept.result c.index.result.now items (spawner-known c.args.self.now c.args.strand c.args.spawned.now.child c.args.spawned.now.next c.args.spawned.now.join c.args.spawned.now.first c.requires.takes) c.index.ensures c.number-kept.ensures.is in
    ((_, pushed-first (names_of c.self.inside.names.items) (names_of c.push_reserved.new.self.items) (names_of c.push_reserved-2.new.self.items) (names_of c.push_reserved-then-spawned.new.self.items) c.args.self.now _ history c.args.strand c.args.spawned.now.child c.args.spawned.now.next c.args.spawned.now.join c.number-kept.result c.args.spawned.now.first items (names-pushed c.self.inside.names.items c.push_reserved.new.self.items c.given.result (Given c.args.spawned.now.child) c.push_reserved.ensures.items c.given.ensures) (names-pushed c.push_reserved.new.self.items c.push_reserved-2.new.self.items c.given-2.result (Given c.args.spawned.now.next) c.push_reserved-2.ensures.items c.given-2.ensures) (names-pushed c.push_reserved-2.new.self.items c.push_reserved-then-spawned.new.self.items c.kept.result (Kept c.number-kept.result) c.push_reserved-then-spawned.ensures.items c.kept.ensures) c.if-spawned.true refl follows legal kept), (λ e. absurd (false≢true e)))

pub invariant_of-self-else-spawned : goal.invariant_of-self-else-spawned
invariant_of-self-else-spawned g c =
    let items = ap (λ (branches : Names). branches.names) c.self.view_is in
    let (history, follows, legal) = c.requires.takes in
    ((_, pushed-later (names_of c.self.inside.names.items) (names_of c.push_reserved.new.self.items) (names_of c.push_reserved-2.new.self.items) c.args.self.now _ history c.args.strand c.args.spawned.now.child c.args.spawned.now.next c.args.spawned.now.join c.args.spawned.now.first items (names-pushed c.self.inside.names.items c.push_reserved.new.self.items c.given.result (Given c.args.spawned.now.child) c.push_reserved.ensures.items c.given.ensures) (names-pushed c.push_reserved.new.self.items c.push_reserved-2.new.self.items c.given-2.result (Given c.args.spawned.now.next) c.push_reserved-2.ensures.items c.given-2.ensures) c.if-spawned.false refl follows legal), (λ e. absurd (false≢true e)))
