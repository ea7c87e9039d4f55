use Rattle.std.proofs.Common.{◌≡◌, ◌≢◌, ◌∙◌, Some, sym, ap, refl}
use Rattle.std.proofs.lemmas.Bool.{false≢true}
use Rattle.law_strands.specs.Branches.{branch}
use Rattle.branch_names.proofs.Queries.{named-begun}
use Rattle.model_accesses.specs.declared.kind.Kind.TheVariants.{Get, Put}
use Rattle.model_accesses.specs.declared.witness.Witness.{Witness}
use Rattle.view_read_rule.specs.declared.reads.ViewVerdict.TheVariants.{Granted, Refused, Unset}
use Rattle.model_accesses.specs.Reads.{ReducerRead, witness_of}
use Rattle.view_read_rule.proofs.Firsts.{first-of, none-of, kept-read, some-kept, none-kept, put-read}
use Rattle.view_read_rule.proofs.Granted.{all-same, other-peers}
use Rattle.view_read_rule.proofs.reads.ReadPeers.judge.Goals as goal

granted-refused : {witness : Witness} → Granted ≡ Refused witness → ⊥
granted-refused e = cc

granted-unset : Granted ≡ Unset → ⊥
granted-unset e = cc

get-put : Get ≡ Put → ⊥
get-put e = cc

pub same-requires-clause-first_named : goal.same-requires-clause-first_named
same-requires-clause-first_named g c =
    let at = kept-read _ _ c.args.reducer c.index.result.now c.self.view_is c.requires.in_range c.index.ensures ∙ c.in-Some.is in
    let (reads, remembers, named) = c.requires.stands in
    let (read, found, is) = some-kept _ reads c.args.reducer c.in-Some.first remembers c.requires.in_range at in
    rw is (named read (first-of reads c.args.reducer read found).0)

-- the first read has the branch

pub returns-then-same-clause-all_same : goal.returns-then-same-clause-all_same
returns-then-same-clause-all_same g c reads history remembers follows one granted =
    let at = kept-read _ _ c.args.reducer c.index.result.now c.self.view_is c.requires.in_range c.index.ensures ∙ c.in-Some.is in
    let (first, found, is) = some-kept _ reads c.args.reducer c.in-Some.first remembers c.requires.in_range at in
    let same : branch history first.strand ≡ branch history c.args.strand = ap (λ (witness : Witness). branch history witness.strand) (sym is) ∙ (c.same.ensures.branches history follows).0 c.if-same.true in
    all-same history reads c.args.reducer c.args.strand first one (first-of reads c.args.reducer first found) same

same-read : {one other : ReducerRead} → Some one ≡ Some other → one ≡ other
same-read e = cc

pub returns-then-same-clause-refused : goal.returns-then-same-clause-refused
returns-then-same-clause-refused g c reads history remembers follows witness =
    let at = kept-read _ _ c.args.reducer c.index.result.now c.self.view_is c.requires.in_range c.index.ensures ∙ c.in-Some.is in
    let (first, found, is) = some-kept _ reads c.args.reducer c.in-Some.first remembers c.requires.in_range at in
    let same : branch history first.strand ≡ branch history c.args.strand = ap (λ (witness : Witness). branch history witness.strand) (sym is) ∙ (c.same.ensures.branches history follows).0 c.if-same.true in
    ((λ e. absurd (granted-refused e)), (λ (read, found_read, is_read, differs). absurd (differs (ap (λ (one : ReducerRead). branch history one.strand) (same-read (sym found_read ∙ found)) ∙ same))))

pub returns-then-same-clause-granted : goal.returns-then-same-clause-granted
returns-then-same-clause-granted g c reads history remembers follows =
    let at = kept-read _ _ c.args.reducer c.index.result.now c.self.view_is c.requires.in_range c.index.ensures ∙ c.in-Some.is in
    let (first, found, is) = some-kept _ reads c.args.reducer c.in-Some.first remembers c.requires.in_range at in
    let same : branch history first.strand ≡ branch history c.args.strand = ap (λ (witness : Witness). branch history witness.strand) (sym is) ∙ (c.same.ensures.branches history follows).0 c.if-same.true in
    ((λ e. rw found same), (λ t. refl))

pub returns-then-same-clause-others : goal.returns-then-same-clause-others
returns-then-same-clause-others g c reads history remembers follows one =
    ((λ none. absurd none), (λ (read, is_read, differs). differs (returns-then-same-clause-all_same g c reads history remembers follows one refl read is_read)))

pub returns-then-same-clause-peers : goal.returns-then-same-clause-peers
returns-then-same-clause-peers g c reads history longer remembers follows one extends legal =
    let others = returns-then-same-clause-others g c reads history remembers follows one in
    let peers = other-peers history follows.legal reads c.args.reducer c.args.strand one (named-begun c.args.branches.now history follows c.args.strand c.requires.named) longer extends legal in
    ((λ refused. peers.0 (others.0 refused)), (λ read. others.1 (peers.1 read)))

-- the first read has another branch

pub returns-else-same-clause-refused : goal.returns-else-same-clause-refused
returns-else-same-clause-refused g c reads history remembers follows witness =
    let at = kept-read _ _ c.args.reducer c.index.result.now c.self.view_is c.requires.in_range c.index.ensures ∙ c.in-Some.is in
    let (first, found, is) = some-kept _ reads c.args.reducer c.in-Some.first remembers c.requires.in_range at in
    let differs : branch history first.strand ≢ branch history c.args.strand =
    λ e. let yes = (c.same.ensures.branches history follows).1 (ap (λ (one : Witness). branch history one.strand) is ∙ e) in absurd (false≢true (sym c.if-same.false ∙ yes)) in (
      (λ e. (first, found, sym (refused-same e) ∙ is, differs)),
      (λ (read, found_read, is_read, other). ap Refused (is ∙ (ap witness_of (some-same (sym found ∙ found_read)) ∙ sym is_read))),
    )
  where
    refused-same : {one other : Witness} → Refused one ≡ Refused other → one ≡ other
    refused-same e = cc

    some-same : {one other : ReducerRead} → Some one ≡ Some other → one ≡ other
    some-same e = cc

pub returns-else-same-clause-others : goal.returns-else-same-clause-others
returns-else-same-clause-others g c reads history remembers follows one =
    let (first, found, is, differs) = (returns-else-same-clause-refused g c reads history remembers follows c.in-Some.first).0 refl in
    ((λ refused. (first, first-of reads c.args.reducer first found, differs)), (λ read. tt))

pub returns-else-same-clause-peers : goal.returns-else-same-clause-peers
returns-else-same-clause-peers g c reads history longer remembers follows one extends legal =
    let others = returns-else-same-clause-others g c reads history remembers follows one in
    let peers = other-peers history follows.legal reads c.args.reducer c.args.strand one (named-begun c.args.branches.now history follows c.args.strand c.requires.named) longer extends legal in
    ((λ refused. peers.0 (others.0 refused)), (λ read. others.1 (peers.1 read)))

-- no read was taken in

pub returns-in-Get-clause-unset : goal.returns-in-Get-clause-unset
returns-in-Get-clause-unset g c reads remembers =
    let at = kept-read _ _ c.args.reducer c.index.result.now c.self.view_is c.requires.in_range c.index.ensures ∙ c.in-None.is in
    ((λ e. (c.in-Get.is, rw (none-kept _ reads c.args.reducer remembers c.requires.in_range at) refl)), (λ get. refl))

pub returns-in-Get-clause-granted : goal.returns-in-Get-clause-granted
returns-in-Get-clause-granted g c reads history remembers follows =
    let at = kept-read _ _ c.args.reducer c.index.result.now c.self.view_is c.requires.in_range c.index.ensures ∙ c.in-None.is in
    ((λ e. absurd (granted-unset (sym e))), (λ t. let put = rw (none-kept _ reads c.args.reducer remembers c.requires.in_range at) at t in absurd (get-put (sym c.in-Get.is ∙ put))))

pub returns-in-Get-clause-all_same : goal.returns-in-Get-clause-all_same
returns-in-Get-clause-all_same g c reads history remembers follows one e read is_read =
    let at = kept-read _ _ c.args.reducer c.index.result.now c.self.view_is c.requires.in_range c.index.ensures ∙ c.in-None.is in
    absurd (none-of reads c.args.reducer read (none-kept _ reads c.args.reducer remembers c.requires.in_range at) is_read)

pub returns-in-Get-clause-others : goal.returns-in-Get-clause-others
returns-in-Get-clause-others g c reads history remembers follows one =
    let at = kept-read _ _ c.args.reducer c.index.result.now c.self.view_is c.requires.in_range c.index.ensures ∙ c.in-None.is in
    ((λ none. absurd none), (λ (read, is_read, differs). none-of reads c.args.reducer read (none-kept _ reads c.args.reducer remembers c.requires.in_range at) is_read))

pub returns-in-Get-clause-peers : goal.returns-in-Get-clause-peers
returns-in-Get-clause-peers g c reads history longer remembers follows one extends legal =
    let at = kept-read _ _ c.args.reducer c.index.result.now c.self.view_is c.requires.in_range c.index.ensures ∙ c.in-None.is in
    ((λ none. absurd none), (λ (read, is_read, differs). none-of reads c.args.reducer read (none-kept _ reads c.args.reducer remembers c.requires.in_range at) is_read))

pub returns-in_default : goal.returns-in_default
returns-in_default g c =
    let at = kept-read _ _ c.args.reducer c.index.result.now c.self.view_is c.requires.in_range c.index.ensures ∙ c.in-None.is in
    record {
      unset = λ reads remembers. ((λ e. absurd (granted-unset e)), (λ get. absurd (c.in_default.not-Get get.0)));
      refused = λ reads history remembers follows witness. (
        (λ e. absurd (granted-refused e)),
        (λ (read, found, is, differs). absurd (none-of reads c.args.reducer read (none-kept _ reads c.args.reducer remembers c.requires.in_range at) (first-of reads c.args.reducer read found))),
      );
      granted = λ reads history remembers follows. ((λ e. rw (none-kept _ reads c.args.reducer remembers c.requires.in_range at) (put-read c.args.kind c.requires.reducer_read c.in_default.not-Get)), (λ t. refl));
      others = λ reads history remembers follows one. (
        (λ none. absurd none),
        (λ (read, is_read, differs). none-of reads c.args.reducer read (none-kept _ reads c.args.reducer remembers c.requires.in_range at) is_read),
      );
      all_same = λ reads history remembers follows one e read is_read. absurd (none-of reads c.args.reducer read (none-kept _ reads c.args.reducer remembers c.requires.in_range at) is_read);
      peers = λ reads history longer remembers follows one extends legal. (
        (λ none. absurd none),
        (λ (read, is_read, differs). none-of reads c.args.reducer read (none-kept _ reads c.args.reducer remembers c.requires.in_range at) is_read),
      );
    }
