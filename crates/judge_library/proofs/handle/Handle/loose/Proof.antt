-- `loose` gives the box that the handle holds.
use Rattle.std.proofs.Common.{◌≡◌, List, [], ◌∷◌, ◌++◌, refl, sym, ap, ◌∙◌, subst, w32}
use Rattle.std.specs.Prelude.{IsTrue}
use mir.Val.{Val, vint, vptr}
use base.Logic.{SProp, ent, emp, id⊢}
use prog.Wp.{WpFn}
use types.Kit.{‵, raw, ◌⊛◌, ◌$◌, ◌∵◌, !, qed, by, move, keep, split, fsplit3, fjoin, suffices, use0, rewrite}
use types.Run.{stop, fld, of_opd, no_more, and_then, returns, enter}
use types.ByLocal.{alloc_all, pass_all, free_all, look_at, get, get_in, sets}
use types.Part.{agg, sub, whole}
use contract.Monad.{fact, fact_i}
use contract.Running.{tables}
use denote.Exit.{yes}
use denote.RattleType.{RattleType, owns}
use denote.Signature.{types_at, plain}
use denote.Param.{layout}
use denote.RawPtr.{Ptr, block_ptr, ptr_val}
use denote.Steps.{nothing, heard}
use denote.Triple.Entry.{alive}
use denote.Triple.Walked.{Stays, stay_dropped, walk_of, Goes-dropped}
use Rattle.core.proofs.cell.Inside.{one}
use Rattle.std.proofs.raw_atomic.Walks.{proved_at, leaves}
use Rattle.std.specs.contracts.alloc.Global as heap
use Rattle.std.proofs.alloc.Global.TheLaws as heap_laws
use Rattle.std.specs.contracts.impls.GlobalAllocator.TheImpl.{ghosts}
use Rattle.judge_library.proofs.LooseValues.{both, loose_good, loose_in}
use Rattle.judge_library.proofs.HandleValues.{handle_out, judge_out}
use Rattle.judge_library.specs.contracts.held.Held.{the_row as held}
use Rattle.judge_library.specs.contracts.handle.Handle as handle
use Rattle.judge_library.specs.contracts.handle.Handle.loose as f
use Rattle.judge_library.proofs.handle.Handle.loose.Statement.{statement}
use Rattle.judge_library.proofs.handle.Handle.loose.Code as code

pub loose_spec : {M : Type 1} → statement M
loose_spec 𝓤 𝓛 𝓜 𝓡 wired =
    let H = 𝓛.H in let 𝓣 = tables 𝓤 H 𝓜 𝓡 𝓡.env in let Z : RattleType = heap.the_row in let LZ = heap_laws.the_row_laws in let S : RattleType = handle.the_row in
    let En = f.ended in let c = f.clauses 𝓛 𝓜.mem 𝓡.returns in let fn = code.function in
    let hs : Stays En.signature.params En.kept = (stay_dropped (plain (λ _. S)) yes, (stay_dropped (plain (λ _. Z)) yes, tt)) in
    proved_at 𝓛 En hs c 𝓜 𝓡 (Goes-dropped 𝓛 0 (plain (λ _. S)) yes (λ κs x w. refl), (Goes-dropped 𝓛 0 (plain (λ _. Z)) yes (λ κs x w. refl), tt)) f.Key.name fn (code.unfolded 𝓤 H 𝓜 𝓡 wired) (λ z are.
    let κs = z.0.0 in let qs = z.0.1 in let Post : Val → SProp 𝓤 = (walk_of 𝓛 En hs c).post z in let Run : List Val → SProp 𝓤 = λ ws. WpFn 𝓤 H 𝓣.C 𝓣.Λ fn ws Post in
    let d = z.0.3.0 in let a = z.0.3.1.0 in let h = one (layout Z) z.0.4.1.0 ((LZ.lawful 𝓛).typed a z.0.4.1.0 are.1.0) in
    qed 𝓛 ((raw (alive 𝓛 En.signature κs qs) ⊛ ‵ (owns (types_at En.signature.params κs) z.0.3 z.0.4)) ∷ raw (fact 𝓤 (IsTrue d.is_begun)) ∷ []) ∵
    move ! (1 ∷ []) $ heard ! (IsTrue d.is_begun) (λ some. split ! $ move ! (1 ∷ []) $ fsplit3 ! $ rewrite ! 1 (λ (us : List Val). ‵ (Z.own_val a us)) h.1 refl $
    handle_out ! d z.0.4.0 (λ ws fits. judge_out ! d.at d.is_begun d.held some (λ b o e. let w : Val = both (vptr b o) (vint w32 d.first) in
    let words = ws ∙ ap (λ (p : Ptr). both (ptr_val p) (vint w32 d.first) ∷ []) e in
    suffices ! (Run (w ∷ h.0 ∷ [])) (subst (λ (us : List Val). ent 𝓤 (Run (w ∷ h.0 ∷ [])) (Run us)) (sym (λ i. words i ++ (h.1 i ++ []))) (id⊢ 𝓤 (Run (w ∷ h.0 ∷ [])))) $
    enter ! 𝓣.C 𝓣.Λ fn (w ∷ h.0 ∷ []) Post $ alloc_all ! (λ l. pass_all ! refl ((tt, (tt, (record { fits = fits }, tt))), (h.2, tt)) $
    sets ! (of_opd ! (get_in ! (fld ! refl (stop !)) (sub ! 0 refl (whole !)))) refl (tt, tt) $ sets ! (of_opd ! (get ! refl)) refl (tt, tt) $
    sets ! (agg ! (and_then ! (get ! refl) (and_then ! (get ! refl) (no_more !)))) refl (loose_good held Z LZ ghosts b o h.0 h.2) $
    returns ! (look_at ! 0 refl) $ free_all ! refl $ loose_in held Z LZ ghosts ! b o h.0 a d.held $
    use0 𝓛 (raw (fact 𝓤 (d.held ≡ d.held))) (fact_i 𝓤 (d.held ≡ d.held) (emp 𝓤) refl) $ nothing ! $ nothing ! $ fjoin ! $ nothing ! $ fjoin ! $
    keep ! (4 ∷ 0 ∷ 2 ∷ 1 ∷ []) $ by ! (leaves 𝓛 En hs c z (both (vptr b o) h.0) (record { at = block_ptr b o; alloc = a; value = d.held }) (tt, (tt, tt)) (tt, (tt, tt))))))))
