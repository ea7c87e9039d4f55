-- What stays of what is kept when one more entry comes, and what it adds.
-- es: the entries; e: one more; x: a strand; N: the number of the entry; in a split, s is the spawner, c its child, n its next and j the join
use Rattle.std.proofs.Common.{◌≡◌, ◌⊎◌, inl, inr, ℕ, suc, ◌<◌, ◌≤◌, List, [], ◌∷◌, ◌++◌, length, Option, Some, refl, sym, ap, ◌∙◌, subst, arith}
use Rattle.std.proofs.lemmas.List.{append-nil, map-append}
use Rattle.law_strands.proofs.Places.{below_or_beyond}
use Rattle.model_strands.specs.History.{Event}
use Rattle.model_strands.specs.Strands.{unused}
use Rattle.model_strands.specs.Legal.{Legal}
use Rattle.model_histories.specs.declared.answer.Entry.{Entry}
use Rattle.model_histories.specs.Entries.{Entries, event_of, with_event, control_part}
use Rattle.race_pairs.specs.declared.kept.Opener.{Opener}
use Rattle.race_pairs.specs.declared.kept.Frame.{Frame}
use Rattle.race_pairs.specs.declared.kept.Turn.{Turn}
use Rattle.race_pairs.specs.declared.kept.Strand.{Strand}
use Rattle.race_pairs.specs.Makers.{maker}
use Rattle.race_pairs.specs.Frames.{frames}
use Rattle.race_pairs.specs.Openers.{opener_of, openers, AreOpeners}
use Rattle.race_pairs.specs.Lineages.{Beginning, Encloses, IsNumberAt, Begins, Stands, Stood, begun, turned, HasStood, AreKept}
use Rattle.race_pairs.proofs.Places.{at_more, at_end, place_reaches, encloses_more, begins_more}
use Rattle.race_pairs.proofs.Framed.{none_before}

-- Earlier entries.

pub ends : (later earlier : Entries) → length earlier ≤ length (later ++ earlier)
ends [] earlier = omega arith
ends (x ∷ later) earlier = omega (arith, ends later earlier)

-- all that came before one more entry are the entries, or came before them
record Before (e : Entry) (es later earlier : Entries) : Type 0 where
  pub later_ones : Entries
  pub whole : later_ones ++ earlier ≡ es

before : (e : Entry) (es later earlier : Entries) → later ++ earlier ≡ e ∷ es → length earlier ≤ length es → Before e es later earlier
before e es [] earlier is short = absurd (let same_length : length earlier ≡ suc (length es) = ap length is in omega arith)
before e es (x ∷ later) earlier is short = record { later_ones = later; whole = cc }

whole_of : (e : Entry) (es later earlier : Entries) → later ++ earlier ≡ e ∷ es → suc (length es) ≤ length earlier → earlier ≡ e ∷ es
whole_of e es [] earlier is long = is
whole_of e es (x ∷ later) earlier is long =
    absurd (let rest : later ++ earlier ≡ es = cc in
    let same_length : length (later ++ earlier) ≡ length es = ap length rest in
    let short = ends later earlier in omega arith)

-- Where strands stood.

stands_still : (F G : List Frame) (e : Entry) (es : Entries) (x since until place : ℕ) → Stands F es x since until place → until ≤ suc (length es) →
    Stands (F ++ G) (e ∷ es) x since until place
stands_still F G e es x since until place stands low later earlier is lo hi =
    let b = before e es later earlier is (omega arith) in
    encloses_more F G place (frames earlier x) (stands b.later_ones earlier b.whole lo hi)

-- one entry longer, which changes nothing of the strand
stands_on : (F G : List Frame) (e : Entry) (es : Entries) (x since place : ℕ) → Stands F es x since (suc (length es)) place → since ≤ length es →
    frames (e ∷ es) x ≡ frames es x → Stands (F ++ G) (e ∷ es) x since (suc (suc (length es))) place
stands_on F G e es x since place stands low same_frames later earlier is lo hi = go (below_or_beyond (length earlier) (suc (length es)))
  where
    go : (length earlier < suc (length es)) ⊎ (suc (length es) ≤ length earlier) → Encloses (F ++ G) place (frames earlier x)
    go (inl short) =
        let b = before e es later earlier is (omega arith) in
        encloses_more F G place (frames earlier x) (stands b.later_ones earlier b.whole lo short)
    go (inr long) =
        let all : earlier ≡ e ∷ es = whole_of e es later earlier is long in
        subst (λ (ys : Entries). Encloses (F ++ G) place (frames ys x)) (sym all)
        (subst (Encloses (F ++ G) place) (sym same_frames) (encloses_more F G place (frames es x) (stands [] es refl low (omega arith))))

-- it stands in a frame from the new entry on
stands_new : (F : List Frame) (e : Entry) (es : Entries) (x place : ℕ) → Encloses F place (frames (e ∷ es) x) →
    Stands F (e ∷ es) x (suc (length es)) (suc (suc (length es))) place
stands_new F e es x place encloses later earlier is lo hi =
    let all : earlier ≡ e ∷ es = whole_of e es later earlier is lo in
    subst (λ (ys : Entries). Encloses F place (frames ys x)) (sym all) encloses

none_still : (e : Entry) (es : Entries) (x made : ℕ) → made ≤ suc (length es) →
    ((later earlier : Entries) → later ++ earlier ≡ es → length earlier < made → frames earlier x ≡ []) →
    (later earlier : Entries) → later ++ earlier ≡ e ∷ es → length earlier < made → frames earlier x ≡ []
none_still e es x made low none later earlier is short =
    let b = before e es later earlier is (omega arith) in none b.later_ones earlier b.whole short

stood_still : (F G : List Frame) (T U : List Turn) (e : Entry) (es : Entries) (b : Beginning) (place until : ℕ) → Stood F T es b place until →
    until ≤ suc (length es) → Stood (F ++ G) (T ++ U) (e ∷ es) b place until
stood_still F G T U e es b place until (begun lt stands none) low =
    begun lt (stands_still F G e es b.strand b.made until b.first stands low) (none_still e es b.strand b.made (omega arith) none)
stood_still F G T U e es b place until (turned {turn = turn} here back earlier stands rest) low =
    turned (at_more T U place turn here) back earlier (stands_still F G e es b.strand turn.number until turn.frame stands low)
    (stood_still F G T U e es b turn.before turn.number rest (omega arith))

stood_on : (F G : List Frame) (T U : List Turn) (e : Entry) (es : Entries) (b : Beginning) (place until : ℕ) → Stood F T es b place until →
    until ≡ suc (length es) → frames (e ∷ es) b.strand ≡ frames es b.strand → Stood (F ++ G) (T ++ U) (e ∷ es) b place (suc until)
stood_on F G T U e es b place until (begun lt stands none) is same_frames =
    begun (omega arith)
    (subst (λ (u : ℕ). Stands (F ++ G) (e ∷ es) b.strand b.made (suc u) b.first) (sym is)
    (stands_on F G e es b.strand b.made b.first (subst (λ (u : ℕ). Stands F es b.strand b.made u b.first) is stands) (omega (arith, lt, is)) same_frames))
    (none_still e es b.strand b.made (omega (arith, lt, is)) none)
stood_on F G T U e es b place until (turned {turn = turn} here back earlier stands rest) is same_frames =
    turned (at_more T U place turn here) back (omega arith)
    (subst (λ (u : ℕ). Stands (F ++ G) (e ∷ es) b.strand turn.number (suc u) turn.frame) (sym is)
    (stands_on F G e es b.strand turn.number turn.frame (subst (λ (u : ℕ). Stands F es b.strand turn.number u turn.frame) is stands) (omega (arith, earlier, is)) same_frames))
    (stood_still F G T U e es b turn.before turn.number rest (omega (arith, earlier, is)))

stood_within : (F : List Frame) (T : List Turn) (es : Entries) (b : Beginning) (place until : ℕ) → Stood F T es b place until → place ≤ length T
stood_within F T es b place until (begun lt stands none) = omega arith
stood_within F T es b place until (turned {turn = turn} here back earlier stands rest) = (place_reaches T place turn here).1

-- the strand did nothing
pub has_stood_on : (F G : List Frame) (T U : List Turn) (e : Entry) (es : Entries) (x : ℕ) (it : Strand) → HasStood F T es x it →
    maker (e ∷ es) x ≡ maker es x → frames (e ∷ es) x ≡ frames es x → HasStood (F ++ G) (T ++ U) (e ∷ es) x it
has_stood_on F G T U e es x it h same_maker same_frames = record {
  first = h.first;
  begins = begins_more F G x it.maker h.first h.begins;
  stood = subst (λ (m : ℕ). Stood (F ++ G) (T ++ U) (e ∷ es) (record { strand = x; made = m; first = h.first }) it.turn (suc (suc (length es)))) (sym same_maker)
      (stood_on F G T U e es (record { strand = x; made = maker es x; first = h.first }) it.turn (suc (length es)) h.stood refl same_frames);
}

-- it turned
pub has_turned : (F G : List Frame) (T : List Turn) (e : Entry) (es : Entries) (x place : ℕ) (it : Strand) → HasStood F T es x it →
    maker (e ∷ es) x ≡ maker es x → Encloses (F ++ G) place (frames (e ∷ es) x) →
    HasStood (F ++ G) (T ++ record { number = suc (length es); frame = place; before = it.turn } ∷ []) (e ∷ es) x
    (record { maker = it.maker; turn = suc (length T) })
has_turned F G T e es x place it h same_maker encloses =
    let turn : Turn = record { number = suc (length es); frame = place; before = it.turn } in
    record {
      first = h.first;
      begins = begins_more F G x it.maker h.first h.begins;
      stood = subst (λ (m : ℕ). Stood (F ++ G) (T ++ turn ∷ []) (e ∷ es) (record { strand = x; made = m; first = h.first }) (suc (length T)) (suc (suc (length es)))) (sym same_maker)
          (turned (at_end T turn) (omega (arith, stood_within F T es (record { strand = x; made = maker es x; first = h.first }) it.turn (suc (length es)) h.stood)) (omega arith)
          (stands_new (F ++ G) e es x place encloses)
          (stood_still F G T (turn ∷ []) e es (record { strand = x; made = maker es x; first = h.first }) it.turn (suc (length es)) h.stood (omega arith)));
    }

-- it was made
pub has_begun : (F : List Frame) (T : List Turn) (e : Entry) (es : Entries) (x place first : ℕ) → Legal (control_part es) → unused (control_part es) ≤ x →
    maker (e ∷ es) x ≡ suc (length es) → Begins F x place first → Encloses F first (frames (e ∷ es) x) →
    HasStood F T (e ∷ es) x (record { maker = place; turn = 0 })
has_begun F T e es x place first l beyond made begins encloses = record {
  first = first;
  begins = begins;
  stood = subst (λ (m : ℕ). Stood F T (e ∷ es) (record { strand = x; made = m; first = first }) 0 (suc (suc (length es)))) (sym made)
      (begun (omega arith) (stands_new F e es x first encloses)
      (λ later earlier is short. (let b = before e es later earlier is (omega arith) in
      none_before b.later_ones earlier (subst (λ (ys : Entries). Legal (control_part ys)) (sym b.whole) l) x
      (subst (λ (ys : Entries). unused (control_part ys) ≤ x) (sym b.whole) beyond))));
}

-- One entry more.

pub legal_next : (e : Entry) (es : Entries) (event : Event) → event_of e ≡ Some event → Legal (event ∷ control_part es) → Legal (control_part (e ∷ es))
legal_next e es event is l = subst (λ (o : Option Event). Legal (with_event o (control_part es))) (sym is) l

pub openers_next : (F : List Frame) (e : Entry) (es : Entries) (frame : Frame) → AreOpeners es F → opener_of (event_of e) (suc (length es)) ≡ frame.opener ∷ [] →
    AreOpeners (e ∷ es) (F ++ frame ∷ [])
openers_next F e es frame are is =
    map-append (λ f. f.opener) F (frame ∷ []) ∙ (ap (λ (xs : List Opener). xs ++ frame.opener ∷ []) are ∙ ap (λ (xs : List Opener). openers es ++ xs) (sym is))

pub openers_same : (F : List Frame) (e : Entry) (es : Entries) → AreOpeners es F → opener_of (event_of e) (suc (length es)) ≡ [] → AreOpeners (e ∷ es) F
openers_same F e es are is = are ∙ (sym (append-nil (openers es)) ∙ ap (λ (xs : List Opener). openers es ++ xs) (sym is))

-- what an entry leaves that neither spawns nor calls nor returns to a caller
pub record IsQuiet (e : Entry) (es : Entries) : Type 0 where
  pub legal : Legal (control_part (e ∷ es))
  pub no_opener : opener_of (event_of e) (suc (length es)) ≡ []
  pub unused_same : unused (control_part (e ∷ es)) ≡ unused (control_part es)
  pub maker_same : (x : ℕ) → maker (e ∷ es) x ≡ maker es x
  pub frames_same : (x : ℕ) → frames (e ∷ es) x ≡ frames es x

pub kept_still : (F : List Frame) (T : List Turn) (S : List Strand) (e : Entry) (es : Entries) → AreKept F T S es → IsQuiet e es → AreKept F T S (e ∷ es)
kept_still F T S e es kept quiet = record {
  made = record {
    legal = quiet.legal;
    openers = openers_same F e es kept.made.openers quiet.no_opener;
    len = kept.made.len ∙ sym quiet.unused_same;
    each = λ x it here. subst (IsNumberAt F it.maker) (sym (quiet.maker_same x)) (kept.made.each x it here);
  };
  few_turns = omega (arith, kept.few_turns);
  stood = λ x it here. subst (λ (G : List Frame). HasStood G T (e ∷ es) x it) (append-nil F)
      (subst (λ (U : List Turn). HasStood (F ++ []) U (e ∷ es) x it) (append-nil T)
      (has_stood_on F [] T [] e es x it (kept.stood x it here) (quiet.maker_same x) (quiet.frames_same x)));
}
