-- Jumps as the entries go on.
-- J: the jumps; es: the entries; e: one more; x: a strand; in a split, s is the spawner, c its child, n its next and j the join
use Rattle.std.proofs.Common.{◌≡◌, ◌⊎◌, inl, inr, ℕ, zero, suc, ◌+◌, ◌-◌, ◌<◌, ◌≤◌, Bool, true, false, List, [], ◌∷◌, ◌++◌, length, get_or, Option, Some, None, refl, sym, ap, ◌∙◌, subst, subst₂, arith}
use Rattle.std.proofs.lemmas.List.{length-append, get_or_append_left, get_or-append_right, get_or_default}
use Rattle.law_addresses.specs.Address.{IsPrefix}
use Rattle.law_addresses.proofs.Blocks.{prefix-transitive}
use Rattle.law_strands.proofs.Addresses.{Named, named_new, named_old, named}
use Rattle.law_strands.proofs.Holders.{holders, Splitting, splitting}
use Rattle.law_strands.proofs.Kept.{address_stays}
use Rattle.law_strands.proofs.Places.{below_or_beyond}
use Rattle.law_strands.proofs.Range.{ranges}
use Rattle.law_strands.proofs.Words.{◌▹◌, prefix_refl}
use Rattle.model_strands.specs.History.{Event, split, call, resumed, History}
use Rattle.model_strands.specs.Strands.{unused}
use Rattle.model_strands.specs.Legal.{Legal, then}
use Rattle.model_strands.specs.Addresses.{address}
use Rattle.model_histories.specs.declared.answer.Entry.{Entry}
use Rattle.model_histories.specs.Entries.{Entries, event_of, with_event, control_part}
use Rattle.model_histories.specs.Shapes.{most_entries}
use Rattle.race_pairs.specs.declared.kept.Jump.{Jump}
use Rattle.race_pairs.specs.Growths.{IsNext}
use Rattle.race_pairs.specs.Jumps.{IsUp, IsRaised, AreRaised, CanRaise, IsJumpOf, jumps_made}
use Rattle.race_pairs.proofs.Jumping.{prefix_short}
use Rattle.race_pairs.proofs.LineageGrown.{legal_next, IsQuiet}
use Rattle.race_pairs.proofs.Events.{unused_by}

abbrev pub no_jump : Jump
no_jump = record { depth = 0; to = 0 }

pub raised_first : (jumps : List Jump) → jumps ≡ no_jump ∷ [] → AreRaised jumps []
raised_first jumps is = subst (λ (J : List Jump). AreRaised J []) (sym is) (record {
  len = refl;
  each = λ x d lt. one x d lt;
})
  where
    one : (x : ℕ) (d : Jump) → x < 1 → IsRaised [] x (get_or (no_jump ∷ []) x d)
    one zero d lt = record { depth = refl; low = omega arith; up = (omega arith, prefix_refl []); further = λ some. absurd (omega (arith, some)) }
    one (suc x) d lt = absurd (omega (arith, lt))

-- an address stays
address_by : (e : Entry) (es : Entries) (event : Option Event) → event_of e ≡ event → Legal (control_part (e ∷ es)) → (x : ℕ) →
    x < unused (control_part es) → address (control_part (e ∷ es)) x ≡ address (control_part es) x
address_by e es event is l x lt =
    ap (λ (o : Option Event). address (with_event o (control_part es)) x) is ∙
    go event (subst (λ (o : Option Event). Legal (with_event o (control_part es))) is l)
  where
    go : (o : Option Event) → Legal (with_event o (control_part es)) → address (with_event o (control_part es)) x ≡ address (control_part es) x
    go (Some event) legal = address_stays legal x lt
    go None legal = refl

address_next : (e : Entry) (es : Entries) → Legal (control_part (e ∷ es)) → (x : ℕ) → x < unused (control_part es) →
    address (control_part (e ∷ es)) x ≡ address (control_part es) x
address_next e es l x lt = address_by e es (event_of e) refl l x lt

raised_later : (e : Entry) (es : Entries) → Legal (control_part (e ∷ es)) → unused (control_part es) ≤ unused (control_part (e ∷ es)) →
    (x : ℕ) (it : Jump) → x < unused (control_part es) → IsRaised es x it → IsRaised (e ∷ es) x it
raised_later e es l grows x it known r =
    let stays = address_next e es l x known in
    let to_stays = address_next e es l it.to r.up.0 in
    record {
      depth = r.depth ∙ ap length (sym stays);
      low = omega (arith, r.low);
      up = (omega (arith, grows, r.up.0), subst₂ IsPrefix (sym to_stays) (sym stays) r.up.1);
      further = λ some. (let less = r.further some in let is = ap length to_stays in omega (arith, less, is));
    }

-- no strand more
pub raised_same : (J : List Jump) (e : Entry) (es : Entries) → Legal (control_part (e ∷ es)) → unused (control_part (e ∷ es)) ≡ unused (control_part es) →
    AreRaised J es → AreRaised J (e ∷ es)
raised_same J e es l same raised = record {
  len = raised.len ∙ sym same;
  each = λ x d lt. raised_later e es l (omega (arith, same)) x (get_or J x d) (omega (arith, lt, raised.len)) (raised.each x d lt);
}

pub raised_quiet : (J : List Jump) (e : Entry) (es : Entries) → IsQuiet e es → AreRaised J es → AreRaised J (e ∷ es)
raised_quiet J e es quiet raised = raised_same J e es quiet.legal quiet.unused_same raised

-- a call or a return
pub raised_call : (J : List Jump) (e : Entry) (es : Entries) (s : ℕ) → IsNext es e (call s) → AreRaised J es → AreRaised J (e ∷ es)
raised_call J e es s (is, l) raised = raised_same J e es (legal_next e es (call s) is l) (unused_by e es (call s) is) raised

pub raised_return : (J : List Jump) (e : Entry) (es : Entries) (s : ℕ) → IsNext es e (resumed s) → AreRaised J es → AreRaised J (e ∷ es)
raised_return J e es s (is, l) raised = raised_same J e es (legal_next e es (resumed s) is l) (unused_by e es (resumed s) is) raised

-- the strands of a spawn more

made_at : (opens : Bool) (made d : Jump) (k : ℕ) → k < length (jumps_made opens made) → get_or (jumps_made opens made) k d ≡ made
made_at true made d zero lt = refl
made_at true made d (suc zero) lt = refl
made_at true made d (suc (suc zero)) lt = refl
made_at true made d (suc (suc (suc k))) lt = absurd (omega (arith, lt))
made_at false made d zero lt = refl
made_at false made d (suc zero) lt = refl
made_at false made d (suc (suc k)) lt = absurd (omega (arith, lt))

grown : (s c n j : ℕ) (first : Bool) (made : Jump) (h : History) → unused (split s c n j first ∷ h) ≡ length (jumps_made first made) + unused h
grown s c n j true made h = refl
grown s c n j false made h = refl

pub raised_spawn : (J K : List Jump) (e : Entry) (es : Entries) (s c n j : ℕ) (first : Bool) (made d : Jump) → CanRaise J es s →
    IsNext es e (split s c n j first) → made.depth ≡ suc (get_or J s d).depth → IsUp es made.to s → K ≡ J ++ jumps_made first made →
    AreRaised K (e ∷ es)
raised_spawn J K e es s c n j first made d can (is, then l a) deeper up longer = subst (λ (X : List Jump). AreRaised X (e ∷ es)) (sym longer) (record {
  len = len;
  each = λ x z lt. each x z lt (below_or_beyond x (unused (control_part es)));
})
  where
    legal : Legal (control_part (e ∷ es))
    legal = legal_next e es (split s c n j first) is (then l a)

    more : unused (control_part (e ∷ es)) ≡ length (jumps_made first made) + unused (control_part es)
    more = unused_by e es (split s c n j first) is ∙ grown s c n j first made (control_part es)

    len : length (J ++ jumps_made first made) ≡ unused (control_part (e ∷ es))
    len = length-append J (jumps_made first made) ∙ omega (arith, more, can.raised.len)

    w : Splitting (control_part es) s c n j first
    w = splitting (control_part es) s c n j first (ranges l) (holders l) a

    at : (x : ℕ) → address (control_part (e ∷ es)) x ≡ address (split s c n j first ∷ control_part es) x
    at x = ap (λ (o : Option Event). address (with_event o (control_part es)) x) is

    known : s < unused (control_part es)
    known = omega (arith, can.known, can.raised.len)

    of_spawner : (get_or J s d).depth ≡ length (address (control_part es) s)
    of_spawner = (can.raised.each s d can.known).depth

    low : (get_or J s d).depth ≤ length es
    low = (can.raised.each s d can.known).low

    fresh : (x : ℕ) → unused (control_part es) ≤ x → Named (control_part es) s c n j first x → IsRaised (e ∷ es) x made
    fresh x beyond (named_old lt stands place opened) = absurd (omega (arith, beyond, lt))
    fresh x beyond (named_new word x_is opens stands) =
        let own : address (control_part (e ∷ es)) x ≡ address (control_part es) s ▹ word = at x ∙ stands in
        let longer_by : length (address (control_part (e ∷ es)) x) ≡ length (address (control_part es) s ▹ word) = ap length own in
        let one_more = length-append (address (control_part es) s) (word ∷ []) in
        let to_stays = address_next e es legal made.to up.0 in
        let to_is = ap length to_stays in
        let short = prefix_short (address (control_part es) made.to) (address (control_part es) s) up.1 in
        let under : IsPrefix (address (control_part es) made.to) (address (control_part es) s ▹ word) =
        prefix-transitive (address (control_part es) made.to) (address (control_part es) s) (address (control_part es) s ▹ word) up.1 (word ∷ [], refl) in
        record {
          depth = omega (arith, deeper, of_spawner, longer_by, one_more);
          low = omega (arith, deeper, low);
          up = (omega (arith, up.0, more), subst₂ IsPrefix (sym to_stays) (sym own) under);
          further = λ some. omega (arith, deeper, of_spawner, to_is, short);
        }

    each : (x : ℕ) (z : Jump) → x < length (J ++ jumps_made first made) → (x < unused (control_part es)) ⊎ (unused (control_part es) ≤ x) →
        IsRaised (e ∷ es) x (get_or (J ++ jumps_made first made) x z)
    each x z lt (inl old) =
        let here : x < length J = omega (arith, old, can.raised.len) in
        subst (IsRaised (e ∷ es) x) (sym (get_or_append_left J (jumps_made first made) z x here))
        (raised_later e es legal (omega (arith, more)) x (get_or J x z) old (can.raised.each x z here))
    each x z lt (inr ge) =
        let past : length J ≤ x = omega (arith, ge, can.raised.len) in
        let short : x - length J < length (jumps_made first made) = omega (arith, lt, past, length-append J (jumps_made first made)) in
        let seen : x < unused (split s c n j first ∷ control_part es) = omega (arith, lt, len, more, grown s c n j first made (control_part es)) in
        subst (IsRaised (e ∷ es) x) (sym (get_or-append_right J (jumps_made first made) (length J) x z refl past ∙ made_at first made z (x - length J) short))
        (fresh x ge (named (control_part es) s c n j first w x seen))

pub deeper_by : (J : List Jump) (s : ℕ) (d z : Jump) → s < length J → (get_or J s d).depth + 1 ≡ suc (get_or J s z).depth
deeper_by J s d z known = let is : (get_or J s d).depth ≡ (get_or J s z).depth = ap (λ (j : Jump). j.depth) (get_or_default J s d z known) in omega (arith, is)

-- what is added
pub spawn_raised : (J K : List Jump) (spawner child next join : ℕ) (first : Bool) (made : Jump) → K ≡ J ++ jumps_made first made →
    ((es : Entries) → CanRaise J es spawner → IsJumpOf J es spawner made) → (es : Entries) (e : Entry) → CanRaise J es spawner →
    IsNext es e (split spawner child next join first) → AreRaised K (e ∷ es)
spawn_raised J K spawner child next join first made longer of es e can next_is =
    let jump = of es can in
    raised_spawn J K e es spawner child next join first made no_jump can next_is (jump.0 no_jump) jump.1 longer

pub can_raise : (J : List Jump) (es : Entries) (s : ℕ) → AreRaised J es → Legal (control_part es) → length es < most_entries → s < unused (control_part es) →
    CanRaise J es s
can_raise J es s raised l few known = record { raised = raised; legal = l; few = few; known = omega (arith, known, raised.len) }
