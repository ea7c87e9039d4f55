use Rattle.std.proofs.Common.{◌∙◌, ◌++◌, ◌∷◌, [], Some, sym, subst}
use Rattle.std.proofs.Math.ListN.{set}
use Rattle.model_accesses.specs.Reads.{ReducerRead, witness_of}
use Rattle.view_read_rule.specs.Reads.{Remembers}
use Rattle.view_read_rule.proofs.Firsts.{kept-read, none-there, some-there, remembers-first, remembers-still}
use Rattle.view_read_rule.proofs.reads.ReadPeers.add.Goals as goal

pub returns-then-is_none-clause-added : goal.returns-then-is_none-clause-added
returns-then-is_none-clause-added g c reads remembers =
    let read : ReducerRead = record { reducer = c.args.reducer; kind = c.args.kind; strand = c.args.strand; entry = c.args.entry } in
    let at = kept-read _ _ c.args.reducer c.index.result.now c.self.view_is c.requires.in_range c.index.ensures ∙ none-there c.index.result.now c.if-is_none.ensures in
    subst (λ list. Remembers (set list c.args.reducer (Some (witness_of read))) (reads ++ read ∷ [])) (sym c.self.view_is) (remembers-first c.args.self.now reads read remembers c.requires.in_range at)

pub returns-else-is_none-clause-added : goal.returns-else-is_none-clause-added
returns-else-is_none-clause-added g c reads remembers =
    let read : ReducerRead = record { reducer = c.args.reducer; kind = c.args.kind; strand = c.args.strand; entry = c.args.entry } in
    let (first, is) = some-there c.index.result.now c.if-is_none.ensures in
    remembers-still c.args.self.now reads read first remembers c.requires.in_range (kept-read _ _ c.args.reducer c.index.result.now c.self.view_is c.requires.in_range c.index.ensures ∙ is)
