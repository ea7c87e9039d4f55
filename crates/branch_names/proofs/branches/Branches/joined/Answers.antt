use Rattle.std.proofs.Common.{◌∷◌, length, ap, arith}
use Rattle.std.proofs.lemmas.Bool.{false≢true}
use Rattle.branch_names.specs.Names.{Names, Given, branch_number}
use Rattle.branch_names.specs.Packed.{name_of, names_of}
use Rattle.branch_names.proofs.Events.{joined-known, given-joined}
use Rattle.branch_names.proofs.Stored.{length-names, name-read, names-set}
use Rattle.branch_names.proofs.branches.Branches.joined.Goals as goal

pub index-requires : goal.index-requires
index-requires g c =
    let count = ap (λ (branches : Names). length branches.names) c.self.view_is in
    omega (arith, count, joined-known c.args.self.now c.args.join c.requires.takes, length-names c.self.inside.names.items, c.self.inside.names.ok)

pub index_mut-requires : goal.index_mut-requires
index_mut-requires g c =
    let count = ap (λ (branches : Names). length branches.names) c.self.view_is in
    omega (arith, count, joined-known c.args.self.now c.args.join c.requires.takes, length-names c.self.inside.names.items, c.self.inside.names.ok)

pub returns-clause-follows : goal.returns-clause-follows
returns-clause-follows g c event begins history follows legal =
    let items = ap (λ (branches : Names). branches.names) c.self.view_is in
    let kept = name-read c.self.inside.names.items c.args.self.now.names c.args.join c.index.result.now items (joined-known c.args.self.now c.args.join c.requires.takes) c.index.ensures in
    given-joined (names_of c.self.inside.names.items) c.args.self.now _ history event c.args.join (branch_number (name_of c.index.result.now)) items (names-set c.self.inside.names.items c.args.join c.begun.result (Given (branch_number (name_of c.index.result.now))) c.begun.ensures) follows begins legal (ap branch_number kept)

pub invariant_of-self : goal.invariant_of-self
invariant_of-self g c =
    let items = ap (λ (branches : Names). branches.names) c.self.view_is in
    let kept = name-read c.self.inside.names.items c.args.self.now.names c.args.join c.index.result.now items (joined-known c.args.self.now c.args.join c.requires.takes) c.index.ensures in
    let (event, begins, (history, follows, legal)) = c.requires.takes in
    ((event ∷ history, given-joined (names_of c.self.inside.names.items) c.args.self.now _ history event c.args.join (branch_number (name_of c.index.result.now)) items (names-set c.self.inside.names.items c.args.join c.begun.result (Given (branch_number (name_of c.index.result.now))) c.begun.ensures) follows begins legal (ap branch_number kept)), (λ e. absurd (false≢true e)))
