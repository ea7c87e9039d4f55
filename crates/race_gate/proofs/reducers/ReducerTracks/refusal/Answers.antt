use Rattle.std.proofs.Common.{◌≡◌, inl, Option, Some, None, refl, sym, subst}
use Rattle.std.specs.Option.{IsNone}
use Rattle.model_accesses.specs.Reads.{ReducerRead}
use Rattle.view_read_rule.specs.Reads.{StandsOn}
use Rattle.race_gate.specs.Books.{Books, Keeps}
use Rattle.race_gate.proofs.Answering.{reads-named}
use Rattle.race_gate.proofs.Reading.{unset-read, refused-read, found-read}
use Rattle.race_gate.proofs.reducers.ReducerTracks.refusal.Goals as goal

pub judge-requires-clause-stands : goal.judge-requires-clause-stands
judge-requires-clause-stands g c =
    subst (λ (books : Books). StandsOn books.reads books.branches) (sym c.self.view_is) (reads-named c.args.self.now c.args.strand c.requires.keeps)

pub returns-in-Granted : goal.returns-in-Granted
returns-in-Granted g c steps earlier kept_now runs =
    let kept = subst (λ (books : Books). Keeps books steps earlier) (sym c.self.view_is) kept_now in
    let verdict = c.in-Granted.ensures in
    let one = kept.one_branch c.args.reducer in
    record {
      same_branch = verdict.all_same earlier _ kept.remembers kept.branches one refl;
      found = found-read _ earlier c.args.strand c.args.reducer c.args.kind kept.branches.legal one (inl runs) ((verdict.granted earlier _ kept.remembers kept.branches).0 refl);
    }

pub returns-in-Refused : goal.returns-in-Refused
returns-in-Refused g c steps earlier kept_now runs =
    let kept = subst (λ (books : Books). Keeps books steps earlier) (sym c.self.view_is) kept_now in
    let (read, first, names, differs) = (c.in-Refused.ensures.refused earlier _ kept.remembers kept.branches c.in-Refused.witness).0 refl in
    refused-read _ earlier c.args.strand c.args.reducer c.args.kind kept.branches.legal (kept.one_branch c.args.reducer) (inl runs) c.rule.result c.in-Refused.witness read first names
    differs c.rule.ensures.value c.requires.reducer_read (kept.kinds c.args.reducer)

pub returns-in-Unset : goal.returns-in-Unset
returns-in-Unset g c steps earlier kept_now runs =
    let kept = subst (λ (books : Books). Keeps books steps earlier) (sym c.self.view_is) kept_now in
    let (is_get, none) = (c.in-Unset.ensures.unset earlier kept.remembers).0 refl in
    unset-read _ earlier c.args.strand c.args.reducer c.args.kind kept.branches.legal (kept.one_branch c.args.reducer) (inl runs) is_get (no-read _ none)
  where
    no-read : (found : Option ReducerRead) → IsNone found → found ≡ None
    no-read None e = refl
    no-read (Some read) e = absurd (cc)
