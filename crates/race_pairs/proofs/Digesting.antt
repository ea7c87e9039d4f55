-- A digest as entries come.
use Rattle.std.proofs.Common.{◌≡◌, ℕ, zero, suc, ◌+◌, ◌<◌, ◌≤◌, Bool, true, false, List, [], ◌∷◌, ◌++◌, length, get_or, take, drop, map, reverse, append_assoc, append-nil, Option, Some, None, refl, sym, ap, ◌∙◌, subst, arith}
use Rattle.std.specs.Prelude.{is_some, filter, slice_get, unwrap_or, option_and_then}
use Rattle.std.specs.Option.{option_map}
use Rattle.std.proofs.lemmas.List.{map-append, length-append, length-reverse, length-take-le, reverse-append, take_more, take-append-drop}
use Rattle.std.proofs.lemmas.Bool.{false≢true}
use Rattle.std.proofs.lemmas.List.Elements.{filter-append}
use Rattle.model_accesses.specs.declared.asked.Asked.{Asked}
use Rattle.model_accesses.specs.Asking.{access_asked}
use Rattle.model_histories.specs.declared.answer.Answer.{Answer}
use Rattle.model_histories.specs.declared.answer.Answer.TheVariants.{Refused, Unset}
use Rattle.model_histories.specs.declared.answer.Entry.{Entry}
use Rattle.model_histories.specs.Entries.{Entries}
use Rattle.model_histories.specs.Shapes.{Shape, most_entries}
use Rattle.model_histories.specs.Legal.{IsLegal}
use Rattle.model_races.specs.Judged.{IsJudged}
use Rattle.race_gate.proofs.Races.{legal-part}
use Rattle.race_pairs.specs.Lineages.{IsLineage, CanAdd, MayGrow}
use Rattle.race_pairs.specs.declared.refusal.Lines.{Lines}
use Rattle.race_pairs.specs.declared.refusal.Refusal.{Refusal}
use Rattle.race_pairs.specs.declared.sighting.Sighting.{Sighting}
use Rattle.race_pairs.specs.declared.digest.Digest.{Digest}
use Rattle.race_pairs.specs.Refusals.{refusal_asked, refusal_told, entry_at, lines_of, HasLines, is_refusal, refusals_among}
use Rattle.race_pairs.specs.Sightings.{sighting_of, IsSighting}
use Rattle.race_pairs.specs.Kept.{AreKept, IsFresh, IsFreshBy, IsSeen}
use Rattle.race_pairs.specs.Digests.{IsDigest, IsNext, IsNextOf, is_of_own_lines, HasOwnLine}
use Rattle.race_pairs.proofs.Knowing.{kept_none}
use Rattle.race_pairs.proofs.Witnesses.{here_at, next_none, next_sighting, next_nothing}

abbrev pub line_of : Entry → ℕ
line_of entry = entry.request.line

-- ---- what comes next

turned : (told : List Entry) (entry : Entry) → reverse (told ++ entry ∷ []) ≡ entry ∷ reverse told
turned told entry = reverse-append told (entry ∷ [])

longer : (told : List Entry) (entry : Entry) → length (told ++ entry ∷ []) ≡ suc (length told)
longer told entry = let l = length-append told (entry ∷ []) in omega arith

pub may_grow : (told : List Entry) (entry : Entry) → IsNext told entry → MayGrow (reverse told) entry
may_grow told entry next = (
  legal-part next.0 (entry ∷ reverse told) next.1.legal,
  (let few = next.2 in omega (arith, length-reverse told)),
)

pub can_add : (told : List Entry) (entry : Entry) (digest : Digest) → IsDigest told digest → IsNext told entry → CanAdd digest.lineage entry
can_add told entry digest is next = (reverse told, is.lineage, may_grow told entry next)

few_refusals : (told : List Entry) → refusals_among told ≤ length told
few_refusals [] = omega arith
few_refusals (entry ∷ told) = by (is_refusal entry) refl (few_refusals told)
  where
    by : (refused : Bool) → is_refusal entry ≡ refused → refusals_among told ≤ length told → refusals_among (entry ∷ told) ≤ length (entry ∷ told)
    by true e le = rw e (omega arith)
    by false e le = rw e (omega arith)

pub refusals_below : (told : List Entry) (entry : Entry) (digest : Digest) → IsDigest told digest → IsNext told entry → digest.refusals < most_entries
refusals_below told entry digest is next =
    let some = few_refusals told in
    let same = is.refusals in
    let few = next.2 in omega arith

-- ---- lines of their own

-- the line of a refusal is that of its entry
line_told : (entry : Entry) (refusal : Refusal) → refusal_told entry ≡ Some refusal → refusal.line ≡ entry.request.line
line_told entry refusal e = by entry.answer (access_asked entry.request.act) e
  where
    by : (answer : Answer) (found : Option Asked) → option_and_then (refusal_asked entry.request.line answer) found ≡ Some refusal → refusal.line ≡ entry.request.line
    by answer None f = absurd (cc)
    by (Refused rule witness) (Some asked) f = ap (λ (o : Option Refusal). (unwrap_or o refusal).line) (sym f)
    by Unset (Some asked) f = ap (λ (o : Option Refusal). (unwrap_or o refusal).line) (sym f)
    by answer (Some asked) f = absurd (cc)

-- the line of an entry that has these lines
line_lines : (told : List Entry) (number : ℕ) (lines : Lines) → HasLines told number lines →
    (one : Entry) × (entry_at told number ≡ Some one) × (one.request.line ≡ lines.line)
line_lines told number lines h = by (entry_at told number) refl h
  where
    by : (found : Option Entry) → entry_at told number ≡ found → option_map (lines_of told) (option_and_then refusal_told found) ≡ Some lines →
        (one : Entry) × (entry_at told number ≡ Some one) × (one.request.line ≡ lines.line)
    by None at f = absurd (cc)
    by (Some one) at f = (one, at, within (refusal_told one) refl f)
      where
        within : (r : Option Refusal) → refusal_told one ≡ r → option_map (lines_of told) r ≡ Some lines → one.request.line ≡ lines.line
        within None e g = absurd (cc)
        within (Some refusal) e g = sym (line_told one refusal e) ∙ ap (λ (o : Option Lines). (unwrap_or o lines).line) g

-- the entry with this number is one of the first ones
at_first : (told behind : List Entry) (number : ℕ) (one : Entry) → number ≤ length told → entry_at (told ++ behind) number ≡ Some one →
    (place : ℕ) × (place < length told) × (get_or told place one ≡ one)
at_first told behind zero one le e = absurd (cc)
at_first told behind (suc place) one le e =
    let lt : place < length told = omega arith in
    (place, lt, got told place lt e)
  where
    got : (xs : List Entry) (k : ℕ) → k < length xs → slice_get (xs ++ behind) k ≡ Some one → get_or xs k one ≡ one
    got [] k lt f = absurd (omega arith)
    got (x ∷ xs) zero lt f = cc
    got (x ∷ xs) (suc k) lt f = let less : k < length xs = omega arith in got xs k less f

own_fresh : (told behind : List Entry) (entry : Entry) (sighting : Sighting) → HasOwnLine told entry →
    IsSighting ((told ++ entry ∷ []) ++ behind) (suc (length told)) sighting → IsFresh ((told ++ entry ∷ []) ++ behind) (length told) sighting.lines
own_fresh told behind entry sighting own s number le h =
    let whole : (told ++ entry ∷ []) ++ behind ≡ told ++ entry ∷ behind = append_assoc told (entry ∷ []) behind in
    let old = line_lines ((told ++ entry ∷ []) ++ behind) number sighting.lines h in
    let first = at_first told (entry ∷ behind) number old.0 le (ap (λ (xs : List Entry). entry_at xs number) (sym whole) ∙ old.1) in
    let below = own first.0 old.0 first.1 in
    let same : (get_or told first.0 old.0).request.line ≡ sighting.lines.line = ap (λ (e : Entry). e.request.line) first.2 ∙ old.2 in
    let here : sighting.lines.line ≡ entry.request.line =
    ap (λ (l : Lines). l.line) s.lines_are ∙ line_told entry s.refusal (sym (ap (option_and_then refusal_told) (here_at told behind entry)) ∙ s.told_here) in
    omega arith

take-append-all : (xs ys : List Entry) → take (length xs) (xs ++ ys) ≡ xs
take-append-all [] ys = refl
take-append-all (x ∷ xs) ys = ap (λ (zs : List Entry). x ∷ zs) (take-append-all xs ys)

-- ---- one entry more

module _ (told : List Entry) (entry : Entry) (old new : Digest) (is : IsDigest told old) (next : IsNext told entry)
    (lines : new.lines.items ≡ old.lines.items ++ entry.request.line ∷ []) (lineage : IsLineage new.lineage (entry ∷ reverse told))
  where
    pub lines_more : new.lines.items ≡ map line_of (told ++ entry ∷ [])
    lines_more = lines ∙ (ap (λ (xs : List ℕ). xs ++ entry.request.line ∷ []) is.lines ∙ sym (map-append line_of told (entry ∷ [])))

    with_races : new.refusals ≡ refusals_among (told ++ entry ∷ []) →
        ((behind : List Entry) → AreKept ((told ++ entry ∷ []) ++ behind) (suc (length told)) new.races) →
        IsDigest (told ++ entry ∷ []) new
    with_races refusals races = record {
      legal = (next.0, subst (IsLegal next.0) (sym (turned told entry)) next.1.legal);
      lines = lines_more;
      lineage = subst (IsLineage new.lineage) (sym (turned told entry)) lineage;
      refusals = refusals;
      races = λ behind. subst (λ (n : ℕ). AreKept ((told ++ entry ∷ []) ++ behind) n new.races) (sym (longer told entry)) (races behind);
    }

    before : (behind : List Entry) → AreKept ((told ++ entry ∷ []) ++ behind) (length told) old.races
    before behind =
        subst (λ (xs : List Entry). AreKept xs (length told) old.races) (sym (append_assoc told (entry ∷ []) behind))
        (is.races (entry ∷ behind))

    counted : (refused : Bool) → is_refusal entry ≡ refused → refusals_among (told ++ entry ∷ []) ≡ refusals_among told + length (filter is_refusal (entry ∷ []))
    counted refused e = ap length (filter-append is_refusal told (entry ∷ [])) ∙ length-append (filter is_refusal told) (filter is_refusal (entry ∷ []))

    pub next_plain : sighting_of entry new.lines.items ≡ None → new.refusals ≡ old.refusals → new.races ≡ old.races → IsDigest (told ++ entry ∷ []) new
    next_plain nothing refusals same = with_races
        (refusals ∙ (is.refusals ∙ sym (counted false none ∙ plain)))
        (λ behind. subst (AreKept ((told ++ entry ∷ []) ++ behind) (suc (length told))) (sym same)
        (kept_none ((told ++ entry ∷ []) ++ behind) (length told) old.races (next_none told behind entry told_none) (before behind)))
      where
        told_none : refusal_told entry ≡ None
        told_none = next_nothing entry new.lines.items nothing

        none : is_refusal entry ≡ false
        none = ap is_some told_none

        plain : refusals_among told + length (filter is_refusal (entry ∷ [])) ≡ refusals_among told
        plain = rw none (omega arith)

    pub seen_next : (sighting : Sighting) → sighting_of entry new.lines.items ≡ Some sighting → (lines_now : List ℕ) → lines_now ≡ new.lines.items →
        (behind : List Entry) → IsSeen ((told ++ entry ∷ []) ++ behind) (length told) new.lineage lines_now sighting
    seen_next sighting some lines_now same behind = record {
      sighting_is = next_sighting next.0 told behind entry new.lines.items sighting next.1 lines_more some;
      seen = subst (λ (xs : List Entry). IsSighting xs (suc (length told)) sighting) (sym front)
          (subst (λ (xs : List Entry). IsSighting xs (suc (length told)) sighting) (append-nil (told ++ entry ∷ []))
          (next_sighting next.0 told [] entry new.lines.items sighting next.1 lines_more some));
      legal = (next.0, subst (λ (xs : List Entry). IsLegal next.0 (reverse xs)) (sym front) (subst (IsLegal next.0) (sym (turned told entry)) next.1.legal));
      lineage_is = subst (λ (xs : List Entry). IsLineage new.lineage (reverse xs)) (sym front) (subst (IsLineage new.lineage) (sym (turned told entry)) lineage);
      lines_are = same ∙ (lines_more ∙ ap (map line_of) (sym front));
    }
      where
        front : take (suc (length told)) ((told ++ entry ∷ []) ++ behind) ≡ told ++ entry ∷ []
        front =
            ap (λ (n : ℕ). take n ((told ++ entry ∷ []) ++ behind)) (sym (longer told entry)) ∙ take-append-all (told ++ entry ∷ []) behind

    pub next_refused : (is_of_own_lines old ≡ true → HasOwnLine told entry) → (sighting : Sighting) → sighting_of entry new.lines.items ≡ Some sighting →
        (lines_now : List ℕ) → lines_now ≡ new.lines.items → new.refusals ≡ old.refusals + 1 →
        ((whole : List Entry) (last : ℕ) → AreKept whole last old.races → IsSeen whole last new.lineage lines_now sighting →
        IsFreshBy old.races.known whole last sighting.lines → AreKept whole (suc last) new.races) → IsDigest (told ++ entry ∷ []) new
    next_refused own sighting some lines_now same refusals adds = with_races
        (refusals ∙ (ap (λ (n : ℕ). n + 1) is.refusals ∙ sym (counted true refused ∙ more)))
        (λ behind. adds ((told ++ entry ∷ []) ++ behind) (length told) (before behind) (seen_next sighting some lines_now same behind)
        (λ of_own. own_fresh told behind entry sighting (own of_own) (seen behind)))
      where
        seen : (behind : List Entry) → IsSighting ((told ++ entry ∷ []) ++ behind) (suc (length told)) sighting
        seen behind = next_sighting next.0 told behind entry new.lines.items sighting next.1 lines_more some

        refused : is_refusal entry ≡ true
        refused = by (refusal_told entry) refl
          where
            by : (found : Option _) → refusal_told entry ≡ found → is_refusal entry ≡ true
            by (Some refusal) e = ap is_some e
            by None e = absurd (let none : sighting_of entry new.lines.items ≡ None = rw e refl in cc)

        more : refusals_among told + length (filter is_refusal (entry ∷ [])) ≡ refusals_among told + 1
        more = rw refused refl

-- ---- at first, and at last

pub digest_none : (digest : Digest) → digest.lines.items ≡ [] → IsLineage digest.lineage [] → digest.refusals ≡ 0 →
    ((told : List Entry) → AreKept told 0 digest.races) → IsDigest [] digest
digest_none digest lines lineage refusals races = record {
  legal = (record { cells = 0; monoids = [] }, tt);
  lines = lines;
  lineage = lineage;
  refusals = refusals;
  races = races;
}

-- the races where the next refusal is added
pub races_before : (told : List Entry) (entry : Entry) (digest : Digest) → IsDigest told digest → AreKept (told ++ entry ∷ []) (length told) digest.races
races_before told entry digest is = is.races (entry ∷ [])

pub races_now : (told : List Entry) (digest : Digest) → IsDigest told digest → AreKept told (length told) digest.races
races_now told digest is = subst (λ (xs : List Entry). AreKept xs (length told) digest.races) (append-nil told) (is.races [])

-- ---- entries of a judged history

judged_part : (shape : Shape) (later earlier : Entries) → IsJudged shape (later ++ earlier) → IsJudged shape earlier
judged_part shape [] earlier j = j
judged_part shape (entry ∷ later) earlier j =
    judged_part shape later earlier (record { legal = j.legal.0; memory = j.memory.0; reducers = j.reducers.0 })

pub next_at : (shape : Shape) (told : List Entry) → IsJudged shape (reverse told) → length told ≤ most_entries → (i : ℕ) (d : Entry) → i < length told →
    IsNext (take i told) (get_or told i d)
next_at shape told j few i d below =
    let front : reverse (take (i + 1) told) ≡ get_or told i d ∷ reverse (take i told) =
    ap reverse (take_more told i d below) ∙ reverse-append (take i told) (get_or told i d ∷ []) in
    let whole : reverse told ≡ reverse (drop (i + 1) told) ++ reverse (take (i + 1) told) =
    ap reverse (sym (take-append-drop (i + 1) told)) ∙ reverse-append (take (i + 1) told) (drop (i + 1) told) in
    let short : length (take i told) ≡ i = length-take-le i told (omega arith) in (
      shape,
      subst (IsJudged shape) front (judged_part shape (reverse (drop (i + 1) told)) (reverse (take (i + 1) told)) (subst (IsJudged shape) whole j)),
      omega (arith, short),
    )

pub digest_at : (told : List Entry) (i : ℕ) (d : Entry) (digest : Digest) → i < length told → IsDigest (take i told ++ get_or told i d ∷ []) digest →
    IsDigest (take (i + 1) told) digest
digest_at told i d digest below is = subst (λ (xs : List Entry). IsDigest xs digest) (sym (take_more told i d below)) is

-- any line may come where lines are shared
pub shared_next : (digest : Digest) (told : List Entry) (entry : Entry) → is_of_own_lines digest ≡ false → IsNext told entry → IsNextOf digest told entry
shared_next digest told entry shared next = (next, λ own. absurd (false≢true (sym shared ∙ own)))
