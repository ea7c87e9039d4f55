-- The machine values of a `Handle`. Assumes `Logic`.
use Rattle.std.proofs.Common.{◌≡◌, ℕ, ◌^◌, ◌<◌, List, [], ◌∷◌, ◌++◌, refl, sym, subst, true≢false, w32}
use Rattle.std.specs.Prelude.{Bool, true, false, IsTrue}
use Rattle.judge_library.specs.declared.held.Held.{Held}
use Rattle.judge_library.specs.contracts.held.Held.{the_row as held}
use mir.Raw.{raw as bare}
use base.Logic.{never, fst∗}
use denote.Memory.{lone}
use Rattle.std_alloc.specs.Box.Ownership.{box_owns}
use seplogic.Ra.Ura.{Ura}
use mir.Val.{Val, vint, vstruct, vcons, vnil, of_list}
use types.Logic.{Logic, sem}
use types.Kit.{Item, Goal, Seq, Step, step, ‵, ◌$◌, drop, fsplit, fjoin, fpick, fpack, feq_i, feq_l}
use denote.RattleType.{Valss}
use denote.Builtin.{RawPtr, u32}
use denote.Laws.{Is, shows}
use denote.Plain.{uint_Makes}
use denote.RawPtr.{Ptr, ptr_val, block_ptr, null_ptr, in_a_block}
use denote.Steps.{nothing, peeks, owned}
use denote.Struct.Struct.{within}
use denote.Struct.Owning.{shape}
use Rattle.judge_library.specs.Holding.{token, judge_owns}
use Rattle.judge_library.specs.declared.handle.Handle.{Handle}
use Rattle.judge_library.specs.contracts.handle.Handle as handle

abbrev pub both : Val → Val → Val
both v w = vstruct (vcons v (vcons w vnil))

module _ {M : Type 1} {𝓤 : Ura M} {𝓛 : Logic 𝓤} {K : Type 0} {Γ : List (Item 𝓤)} {G : Goal 𝓤 𝓛.H} where
  pub handle_out : K → (d : Handle) (vs : List Val)
      → (vs ≡ both (ptr_val d.at) (vint w32 d.first) ∷ [] → d.first < 2 ^ 32 → Seq K 𝓛 (‵ (judge_owns d.at d.is_begun d.held) ∷ Γ) G)
      → Seq K 𝓛 (‵ ((handle.the_row).own_val d vs) ∷ Γ) G
  handle_out t d vs k =
      fsplit t $ fpick t (λ vss. fsplit t $ feq_l t (λ ev. fsplit t $ feq_l t (λ ep. fsplit t $ peeks t u32 (Is u32) (shows 𝓛 u32) d.first vss.1.0 (λ is. drop t $ drop t $ k
      (subst (λ (ws : List Val). vs ≡ vstruct (of_list (ptr_val d.at ∷ (ws ++ []))) ∷ []) is.0 (subst (λ (ps : List Val). vs ≡ vstruct (of_list (ps ++ (vss.1.0 ++ []))) ∷ []) ep ev)) is.1))))

  pub handle_in : K → (p : Ptr) (n : ℕ) (begun : Bool) (x : Held) → n < 2 ^ 32
      → Step K 𝓛 (‵ ((handle.the_row).own_val (record { at = p; first = n; is_begun = begun; held = x }) (both (ptr_val p) (vint w32 n) ∷ [])) ∷ Γ) G (‵ (judge_owns p begun x) ∷ Γ) G
  handle_in t p n begun x fits = step (λ s. let v : Val = both (ptr_val p) (vint w32 n) in
      nothing t $ owned t u32 (Is u32) (uint_Makes 𝓛 w32) n _ (refl, fits) $ fjoin t $ feq_i t (List Val) (ptr_val p ∷ []) (ptr_val p ∷ []) refl $ fjoin t $ feq_i t (List Val) (v ∷ []) (v ∷ []) refl $ fjoin t $
      fpack t (Valss (RawPtr ∷ u32 ∷ [])) (within (shape (handle.the_type)) (p, (n, tt)) (v ∷ [])) (ptr_val p ∷ [], (vint w32 n ∷ [], tt)) $ fjoin t $ s)

  pub judge_out : K → (p : Ptr) (begun : Bool) (x : Held) → IsTrue begun
      → ((b o : ℕ) → p ≡ block_ptr b o → Seq K 𝓛 (‵ (box_owns token held (block_ptr b o) x) ∷ Γ) G) → Seq K 𝓛 (‵ (judge_owns p begun x) ∷ Γ) G
  judge_out t p false x is k = absurd (true≢false (sym is))
  judge_out t p true x is k = in_a_block t p (λ q. box_owns token held q x) (fst∗ 𝓤 (never 𝓤) (sem 𝓛 (token (bare (lone held.mir)) null_ptr))) (λ b o e. k b o e)
