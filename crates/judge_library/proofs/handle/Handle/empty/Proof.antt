-- `empty` makes a handle that owns nothing.
use Rattle.std.proofs.Common.{◌≡◌, [], ◌∷◌, refl, lit<, w32, w64}
use mir.Val.{vint}
use base.Logic.{emp}
use types.Kit.{raw, ◌$◌, ◌∵◌, !, qed, by, drop, use0}
use types.Run.{lit, no_more, and_then, returns, enter}
use types.ByLocal.{alloc_all, pass_all, free_all, look_at, sets}
use types.Part.{agg}
use contract.Monad.{fact, fact_i}
use denote.RawPtr.{null_ptr}
use denote.Steps.{nothing}
use denote.Triple.Entry.{on_entry}
use denote.Triple.Walked.{Stays, walk_of}
use Rattle.std.specs.Prelude.{false}
use Rattle.std.specs.declared.option.Option.TheVariants.{None}
use Rattle.judge_library.specs.declared.held.Held.{Held}
use Rattle.std.proofs.raw_atomic.Walks.{proved, leaves}
use Rattle.judge_library.proofs.HandleValues.{both, handle_in}
use Rattle.judge_library.specs.contracts.handle.Handle.empty as f
use Rattle.judge_library.proofs.handle.Handle.empty.Statement.{statement}
use Rattle.judge_library.proofs.handle.Handle.empty.Code as code

abbrev none : Held
none = record { judge = record { scopes = []; spans = []; records = []; first = 0; events = 0; reads = [] }; marks = None; moves = None }

pub empty_spec : {M : Type 1} → statement M
empty_spec 𝓤 𝓛 𝓜 𝓡 wired =
    let c = f.clauses 𝓛 𝓜.mem 𝓡.returns in let hs : Stays f.ended.signature.params f.ended.kept = tt in
    proved 𝓛 f.ended hs c 𝓜 𝓡 tt f.Key.name code.function (code.unfolded 𝓤 𝓛.H 𝓜 𝓡 wired) (λ κs. tt) (λ κs. tt) (λ κs qs bounds a g are.
    let y : (walk_of 𝓛 f.ended hs c).Ghost = ((κs, qs, bounds, a, tt), g) in
    qed 𝓛 (raw (on_entry 𝓛 f.signature κs qs a tt) ∷ raw ((c κs a).requires g) ∷ []) ∵ drop ! $ drop ! $
    enter ! _ _ _ _ _ $ alloc_all ! (λ l. pass_all ! refl tt $
    sets ! (agg ! (and_then ! (lit ! tt) (and_then ! (lit ! tt) (no_more !)))) refl (tt, (record { fits = lit< tt }, (record { fits = lit< tt }, tt))) $
    returns ! (look_at ! 0 refl) $ free_all ! refl $
    use0 𝓛 (raw (fact 𝓤 (false ≡ false))) (fact_i 𝓤 (false ≡ false) (emp 𝓤) refl) $ nothing ! $ handle_in ! null_ptr 0 false none (lit< tt) $ nothing ! $ nothing ! $
    by ! (leaves 𝓛 f.ended hs c y (both (vint w64 0) (vint w32 0)) (record { at = null_ptr; first = 0; is_begun = false; held = none }) tt tt)))
