-- The parser's contract is exact for the commands of this program.
use Rattle.std.proofs.Common.{◌≡◌, true, refl, inl, inr, List, subst}
use Rattle.clap.specs.Words.{App, HasKind, HasMatchesOf, Text, fault_of, is_simple, is_simple_and_free, kind_of}
use Rattle.clap.specs.declared.error.Error.{Error}
use Rattle.clap.specs.declared.error.kind.ErrorKind.{ErrorKind}
use Rattle.clap.specs.declared.error.kind.ErrorKind.TheVariants.{OutOfMemory}
use Rattle.clap.specs.declared.parser.matches.ArgMatches.{ArgMatches}
use Rattle.clap.specs.Words.{subcommand_rows_of}
use Rattle.clap.proofs.OnLiterals.{clap_on_literals}
use Rattle.command_words.specs.declared.words.Job.{Job}
use Rattle.command_words.specs.Asked.{IsAskedBy, IsJobOf, IsShown}
use Rattle.command_words.specs.Commands.{cilkcheck}

is_matched : is_simple cilkcheck ≡ true
unfolding clap_on_literals
is_matched = refl

is_refused : is_simple_and_free cilkcheck ≡ true
unfolding clap_on_literals
is_refused = refl

-- what the matches ask for
pub matched_job : (app : App) (words : List Text) (matches : ArgMatches) (job : Job) → app ≡ cilkcheck → HasMatchesOf app words matches →
    IsAskedBy (subcommand_rows_of matches) job → IsJobOf words job
matched_job app words matches job is found asked =
    let ours : HasMatchesOf cilkcheck words matches = subst (λ (a : App). HasMatchesOf a words matches) is found in
    inr (subst (λ rows. IsAskedBy rows job) (ours is_matched).1 asked)

never_shown : (kind : ErrorKind) (job : Job) → kind ≡ OutOfMemory → IsShown kind job → ⊥
never_shown kind job is shown = subst (λ (k : ErrorKind). IsShown k job) is shown

shown_at : (words : List Text) (error : Error) (job : Job) → HasKind (fault_of cilkcheck words) error → IsShown (kind_of error) job → IsJobOf words job
shown_at words error job (inl memory) shown = absurd (never_shown (kind_of error) job memory shown)
shown_at words error job (inr among) shown = inl (kind_of error, among, shown)

-- a text that is shown in place of matches
pub shown_job : (app : App) (words : List Text) (error : Error) (job : Job) → app ≡ cilkcheck →
    (is_simple_and_free app ≡ true → HasKind (fault_of app words) error) → IsShown (kind_of error) job → IsJobOf words job
shown_job app words error job is fails shown =
    let ours = subst (λ (a : App). is_simple_and_free a ≡ true → HasKind (fault_of a words) error) is fails in
    shown_at words error job (ours is_refused) shown
