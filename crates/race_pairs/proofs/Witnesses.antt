-- The witness that a refusal of a judged history names.
use Rattle.std.proofs.Common.{◌≡◌, ◌⊎◌, inl, inr, ℕ, zero, suc, ◌<◌, ◌≤◌, Bool, true, false, List, [], ◌∷◌, ◌++◌, length, map, reverse, append_assoc, Option, Some, None, refl, sym, ap, ◌∙◌, subst, arith, if◌then◌else◌}
use Rattle.std.specs.Prelude.{slice_get, unwrap_or, option_and_then, MatchOption}
use Rattle.std.specs.Option.{option_map, option_to_list}
use Rattle.std.specs.List.{Contains}
use Rattle.std.proofs.lemmas.List.{reverse-append, reverse-reverse, length-reverse, length-append}
use Rattle.std.proofs.lemmas.List.Elements.{Contains-append_cases, Contains-push_cases}
use Rattle.model_accesses.specs.declared.kind.Kind.{Kind}
use Rattle.model_accesses.specs.declared.kind.Rule.{Rule}
use Rattle.model_accesses.specs.declared.asked.Asked.{Asked}
use Rattle.model_accesses.specs.declared.witness.Witness.{Witness}
use Rattle.model_accesses.specs.declared.request.Act.{Act}
use Rattle.model_accesses.specs.declared.request.Act.TheVariants.{Read, Write, Bump, Put, Get}
use Rattle.model_accesses.specs.Asking.{access_asked}
use Rattle.model_accesses.specs.Table.{is_memory_kind}
use Rattle.model_accesses.specs.Accesses.{Access, access_of_witness}
use Rattle.model_accesses.specs.Reads.{ReducerRead}
use Rattle.model_reducers.specs.declared.monoid.Monoid.{Monoid}
use Rattle.model_histories.specs.declared.answer.Answer.{Answer}
use Rattle.model_histories.specs.declared.answer.Answer.TheVariants.{Granted, Value, Refused, Unset}
use Rattle.model_histories.specs.declared.answer.Entry.{Entry}
use Rattle.model_histories.specs.Entries.{Entries, control_part}
use Rattle.model_histories.specs.Shapes.{Shape}
use Rattle.model_histories.specs.Legal.{Belongs}
use Rattle.model_races.specs.declared.access.CellAccess.{CellAccess}
use Rattle.model_races.specs.Accesses.{in_cell, cell_access, is_granted, access_at as granted_at, granted}
use Rattle.model_races.specs.Reducers.{read_at, granted_reads}
use Rattle.model_races.specs.Verdicts.{IsRightVerdict}
use Rattle.model_races.specs.ViewReads.{IsTrueReadWitness}
use Rattle.model_races.specs.ReducerVerdicts.{IsRightFor, reads_before}
use Rattle.model_races.specs.Judged.{IsJudged}
use Rattle.race_pairs.specs.Makers.{HasNumber}
use Rattle.race_pairs.specs.declared.refusal.Refusal.{Refusal}
use Rattle.race_pairs.specs.declared.refusal.Side.{Side}
use Rattle.race_pairs.specs.declared.sighting.Sighting.{Sighting}
use Rattle.race_pairs.specs.Refusals.{refusal_asked, refusal_told, entry_at, line_at, line_in, side_of, access_at, IsSideAt, named_by}
use Rattle.race_pairs.specs.Sightings.{sighting_by, sighting_of, IsSighting}

-- ---- granted accesses by their numbers

single : {X : Type 0} (x a : X) → Contains (x ∷ []) a → x ≡ a
single x a h = elim (Contains-push_cases [] x a h) [
  | inl none ↦ absurd (omega (arith, none.1))
  | inr e ↦ e
]

none_in : {X : Type 0} (a : X) → Contains {X = X} [] a → ⊥
none_in a h = absurd (omega (arith, h.1))

-- the entry with this number is an access by the strand, of this kind
abbrev pub IsNamed : Entries → (number : ℕ) → (strand : ℕ) → Kind → Type 0
IsNamed entries number strand kind =
    (one : Entry) × HasNumber entries number one × (side_of one ≡ Some (record { strand = strand; kind = kind }))

abbrev side_by : ℕ → Kind → Side
side_by strand kind = record { strand = strand; kind = kind }

abbrev made : ℕ → ℕ → CellAccess → Access
made number strand access = record { strand = strand; kind = access.kind; location = access.location; entry = number }

listed_by : (is_memory : Bool) (number strand : ℕ) (asked : Asked) (access : Access) →
    Contains (option_to_list (option_map (made number strand) (if is_memory then Some (record { kind = asked.kind; location = asked.place }) else None))) access →
    access ≡ made number strand (record { kind = asked.kind; location = asked.place })
listed_by true number strand asked access h = sym (single (made number strand (record { kind = asked.kind; location = asked.place })) access h)
listed_by false number strand asked access h = absurd (none_in access h)

listed : (done : Bool) (found : Option Asked) (number strand : ℕ) (access : Access) →
    Contains (option_to_list (if done then option_map (made number strand) (option_and_then in_cell found) else None)) access →
    (asked : Asked) × (found ≡ Some asked) × (access ≡ made number strand (record { kind = asked.kind; location = asked.place }))
listed true (Some asked) number strand access h = (asked, refl, listed_by (is_memory_kind asked.kind) number strand asked access h)
listed true None number strand access h = absurd (none_in access h)
listed false found number strand access h = absurd (none_in access h)

named_access : (entries : Entries) (access : Access) → Contains (granted entries) access → IsNamed entries access.entry access.strand access.kind
named_access [] access h = absurd (none_in access h)
named_access (e ∷ H) access h = elim (Contains-append_cases (granted H) (option_to_list (granted_at (suc (length H)) e)) access h) [
  | inl k ↦ (let t = named_access H access k in (t.0, inr t.1, t.2))
  | inr k ↦ (let t = listed (is_granted e.answer) (access_asked e.request.act) (suc (length H)) e.request.strand access k in (
    e,
    inl (ap (λ (a : Access). a.entry) t.2, refl),
    ap (option_map (λ (asked : Asked). side_by e.request.strand asked.kind)) t.1 ∙
        ap (λ (a : Access). Some (side_by a.strand a.kind)) (sym t.2),
  ))
]

listed_read : (number strand : ℕ) (act : Act) (answer : Answer) (read : ReducerRead) → Contains (option_to_list (read_at number strand act answer)) read →
    (read.entry ≡ number) ×
    (option_map {U = Side} (λ (asked : Asked). record { strand = strand; kind = asked.kind }) (access_asked act) ≡ Some (record { strand = read.strand; kind = read.kind }))
listed_read number strand (Put reducer value) Granted read h =
    let e = single _ read h in
    (ap (λ (r : ReducerRead). r.entry) (sym e), ap (λ (r : ReducerRead). Some (side_by r.strand r.kind)) e)
listed_read number strand (Get reducer) (Value value) read h =
    let e = single _ read h in
    (ap (λ (r : ReducerRead). r.entry) (sym e), ap (λ (r : ReducerRead). Some (side_by r.strand r.kind)) e)
listed_read number strand act answer read h = absurd (none_in read h)

named_read : (entries : Entries) (read : ReducerRead) → Contains (granted_reads entries) read → IsNamed entries read.entry read.strand read.kind
named_read [] read h = absurd (none_in read h)
named_read (e ∷ H) read h =
    elim (Contains-append_cases (granted_reads H) (option_to_list (read_at (suc (length H)) e.request.strand e.request.act e.answer)) read h) [
      | inl k ↦ (let t = named_read H read k in (t.0, inr t.1, t.2))
      | inr k ↦ (let t = listed_read (suc (length H)) e.request.strand e.request.act e.answer read k in (e, inl (t.0, refl), t.1))
    ]

by_read : (entries : Entries) (strand reducer : ℕ) (new : Kind) (rule : Rule) (witness : Witness) →
    IsTrueReadWitness (control_part entries) (granted_reads entries) strand reducer new rule witness →
    IsNamed entries witness.entry witness.strand witness.kind
by_read entries strand reducer new rule witness t =
    subst (λ (w : Witness). IsNamed entries w.entry w.strand w.kind) (sym t.names) (named_read entries t.read t.listed.0)

-- ---- what a refusal names

names : (monoids : List Monoid) (entries : Entries) (strand : ℕ) (act : Act) (rule : Rule) (witness : Witness) → Belongs act (Refused rule witness) →
    MatchOption (cell_access act) (Unit {0}) (λ access. IsRightVerdict entries strand access (Refused rule witness)) →
    IsRightFor (reads_before monoids entries) strand act (Refused rule witness) →
    IsNamed entries witness.entry witness.strand witness.kind
names monoids entries strand (Read cell) rule witness b v f = named_access entries (access_of_witness cell witness) v.witness.0.0
names monoids entries strand (Write cell value) rule witness b v f = named_access entries (access_of_witness cell witness) v.witness.0.0
names monoids entries strand (Bump cell value) rule witness b v f = named_access entries (access_of_witness cell witness) v.witness.0.0
names monoids entries strand (Put reducer value) rule witness b v f = by_read entries strand reducer _ rule witness f.witness
names monoids entries strand (Get reducer) rule witness b v f = by_read entries strand reducer _ rule witness f.0.witness
names monoids entries strand act rule witness b v f = absurd b

refused_names : (shape : Shape) (entries : Entries) (entry : Entry) (rule : Rule) (witness : Witness) → IsJudged shape (entry ∷ entries) →
    entry.answer ≡ Refused rule witness → IsNamed entries witness.entry witness.strand witness.kind
refused_names shape entries entry rule witness j is =
    names shape.monoids entries entry.request.strand entry.request.act rule witness
    (subst (Belongs entry.request.act) is j.legal.1.belongs)
    (subst (λ (a : Answer). MatchOption (cell_access entry.request.act) (Unit {0}) (λ access. IsRightVerdict entries entry.request.strand access a)) is j.memory.1)
    (subst (λ (a : Answer). IsRightFor (reads_before shape.monoids entries) entry.request.strand entry.request.act a) is
    j.reducers.1)

-- ---- entries by their numbers, the oldest first

pub seam : (xs : List Entry) (y : Entry) (ys : List Entry) → slice_get (xs ++ y ∷ ys) (length xs) ≡ Some y
seam [] y ys = refl
seam (x ∷ xs) y ys = seam xs y ys

pub numbered : (entries : Entries) (behind : List Entry) (number : ℕ) (one : Entry) → HasNumber entries number one →
    (entry_at (reverse entries ++ behind) number ≡ Some one) × (number ≤ length entries)
numbered [] behind number one h = absurd h
numbered (e ∷ H) behind number one (inl t) =
    let le : number ≤ suc (length H) = omega (arith, t.0) in (
      ap (entry_at (reverse (e ∷ H) ++ behind)) t.0 ∙
          (ap (λ (xs : List Entry). slice_get xs (length H)) (turned e H behind) ∙
          (ap (slice_get (reverse H ++ e ∷ behind)) (sym (length-reverse H)) ∙ (seam (reverse H) e behind ∙ ap Some (sym t.1)))),
      le,
    )
  where
    turned : (e : Entry) (H : Entries) (behind : List Entry) → reverse (e ∷ H) ++ behind ≡ reverse H ++ e ∷ behind
    turned e H behind = ap (λ (xs : List Entry). xs ++ behind) (reverse-append (e ∷ []) H) ∙ append_assoc (reverse H) (e ∷ []) behind
numbered (e ∷ H) behind number one (inr k) =
    let t = numbered H (e ∷ behind) number one k in
    let old = t.1 in
    let le : number ≤ suc (length H) = omega arith in
    (ap (λ (xs : List Entry). entry_at xs number) (ap (λ (xs : List Entry). xs ++ behind) (reverse-append (e ∷ []) H) ∙ append_assoc (reverse H) (e ∷ []) behind) ∙ t.0, le)

pub named_told : (told behind : List Entry) (number strand : ℕ) (kind : Kind) → IsNamed (reverse told) number strand kind →
    (access_at (told ++ behind) number ≡ Some (record { strand = strand; kind = kind })) × (number ≤ length told)
named_told told behind number strand kind t =
    let at = numbered (reverse told) behind number t.0 t.1 in
    let le = at.1 in
    let within : number ≤ length told = omega (arith, length-reverse told) in
    (ap (λ (xs : List Entry). access_at (xs ++ behind) number) (sym (reverse-reverse told)) ∙ (ap (option_and_then side_of) at.0 ∙ t.2), within)

-- ---- lines by their numbers

line_there : (told behind : List Entry) (place : ℕ) → place < length told →
    unwrap_or (slice_get (map (λ (entry : Entry). entry.request.line) told) place) 0 ≡
    unwrap_or (option_map (λ (entry : Entry). entry.request.line) (slice_get (told ++ behind) place)) 0
line_there [] behind place lt = absurd (omega arith)
line_there (e ∷ told) behind zero lt = refl
line_there (e ∷ told) behind (suc place) lt = let less : place < length told = omega arith in line_there told behind place less

pub line_same : (told behind : List Entry) (number : ℕ) → number ≤ length told →
    line_in (map (λ (entry : Entry). entry.request.line) told) number ≡ line_at (told ++ behind) number
line_same told behind zero le = refl
line_same told behind (suc place) le = let lt : place < length told = omega arith in line_there told behind place lt

-- ---- the next entry

-- of which witness a refusal tells
witness_case : (line : ℕ) (answer : Answer) (found : Option Asked) (refusal : Refusal) → option_and_then (refusal_asked line answer) found ≡ Some refusal →
    ((rule : Rule) × (witness : Witness) × (answer ≡ Refused rule witness) × (refusal.witness ≡ witness.entry)) ⊎ ((named_by answer ≡ None) × (refusal.witness ≡ 0))
witness_case line answer None refusal e = absurd (cc)
witness_case line (Refused rule witness) (Some asked) refusal e =
    inl (rule, witness, refl, ap (λ (o : Option Refusal). (unwrap_or o refusal).witness) (sym e))
witness_case line Unset (Some asked) refusal e = inr (refl, ap (λ (o : Option Refusal). (unwrap_or o refusal).witness) (sym e))
witness_case line answer (Some asked) refusal e = absurd (cc)

next_witness : (shape : Shape) (told behind : List Entry) (entry : Entry) → IsJudged shape (entry ∷ reverse told) → (refusal : Refusal) → refusal_told entry ≡ Some refusal →
    IsSideAt (told ++ behind) refusal.witness (named_by entry.answer) × (refusal.witness ≤ length told)
next_witness shape told behind entry j refusal e = elim (witness_case entry.request.line entry.answer (access_asked entry.request.act) refusal e) [
  | inl t ↦ (let n = named_told told behind _ _ _ (refused_names shape (reverse told) entry t.0 t.1 j t.2) in (
    subst (λ (a : Answer). IsSideAt (told ++ behind) refusal.witness (named_by a)) (sym t.2) (ap (access_at (told ++ behind)) t.3 ∙ n.0),
    subst (λ (m : ℕ). m ≤ length told) (sym t.3) n.1,
  ))
  | inr t ↦ (subst (IsSideAt (told ++ behind) refusal.witness) (sym t.0) t.1, subst (λ (m : ℕ). m ≤ length told) (sym t.1) (omega arith))
]

pub here_at : (told behind : List Entry) (entry : Entry) → entry_at ((told ++ entry ∷ []) ++ behind) (suc (length told)) ≡ Some entry
here_at told behind entry = ap (λ (xs : List Entry). slice_get xs (length told)) (append_assoc told (entry ∷ []) behind) ∙ seam told entry behind

pub next_none : (told behind : List Entry) (entry : Entry) → refusal_told entry ≡ None →
    option_and_then refusal_told (entry_at ((told ++ entry ∷ []) ++ behind) (suc (length told))) ≡ None
next_none told behind entry none = ap (option_and_then refusal_told) (here_at told behind entry) ∙ none

-- what is kept of the next entry is right, whatever comes behind it
pub next_sighting : (shape : Shape) (told behind : List Entry) (entry : Entry) (lines : List ℕ) (sighting : Sighting) → IsJudged shape (entry ∷ reverse told) →
    lines ≡ map (λ (one : Entry). one.request.line) (told ++ entry ∷ []) → sighting_of entry lines ≡ Some sighting →
    IsSighting ((told ++ entry ∷ []) ++ behind) (suc (length told)) sighting
next_sighting shape told behind entry lines sighting j are e = by (refusal_told entry) (side_of entry) refl refl e
  where
    whole : List Entry
    whole = (told ++ entry ∷ []) ++ behind

    long : length (told ++ entry ∷ []) ≡ suc (length told)
    long = let l = length-append told (entry ∷ []) in omega arith

    by : (r : Option Refusal) (s : Option Side) → refusal_told entry ≡ r → side_of entry ≡ s →
        option_and_then (λ refusal. option_map (λ refused. sighting_by entry lines refusal refused) s) r ≡ Some sighting →
        IsSighting whole (suc (length told)) sighting
    by None s er es f = absurd (cc)
    by (Some refusal) None er es f = absurd (cc)
    by (Some refusal) (Some refused) er es f =
        let is : sighting_by entry lines refusal refused ≡ sighting = some_is f in
        let w = next_witness shape told (entry ∷ behind) entry j refusal er in
        let le = w.1 in
        let low : refusal.witness ≤ length (told ++ entry ∷ []) = omega (arith, long) in
        let line : line_in lines refusal.witness ≡ line_at whole refusal.witness =
        ap (λ (xs : List ℕ). line_in xs refusal.witness) are ∙ line_same (told ++ entry ∷ []) behind refusal.witness low in
        let count : length lines ≡ suc (length told) = ap length are ∙ (length_map_line (told ++ entry ∷ []) ∙ long) in
        subst (IsSighting whole (suc (length told))) is (record {
          refusal = refusal;
          told_here = ap (option_and_then refusal_told) (here_at told behind entry) ∙ er;
          lines_are = ap (λ (n : ℕ). record { reason = refusal.reason; line = refusal.line; witness_line = n }) line;
          number_is = count;
          refused_is = ap (option_and_then side_of) (here_at told behind entry) ∙ es;
          witness_number_is = refl;
          witness_is = subst (λ (xs : List Entry). IsSideAt xs refusal.witness (named_by entry.answer)) (sym (append_assoc told (entry ∷ []) behind)) w.0;
          place_is = refl;
        })
      where
        some_is : {x y : Sighting} → Some x ≡ Some y → x ≡ y
        some_is e = cc

        length_map_line : (xs : List Entry) → length (map (λ (one : Entry). one.request.line) xs) ≡ length xs
        length_map_line [] = refl
        length_map_line (x ∷ xs) = ap suc (length_map_line xs)

-- nothing is kept of an entry that tells no refusal: each that tells one is an access
pub next_nothing : (entry : Entry) (lines : List ℕ) → sighting_of entry lines ≡ None → refusal_told entry ≡ None
next_nothing entry lines e = by (access_asked entry.request.act) refl e
  where
    by : (found : Option Asked) → access_asked entry.request.act ≡ found → sighting_of entry lines ≡ None → refusal_told entry ≡ None
    by None is f = ap (option_and_then (refusal_asked entry.request.line entry.answer)) is
    by (Some asked) is f = within (refusal_told entry) refl
      where
        side : side_of entry ≡ Some (record { strand = entry.request.strand; kind = asked.kind })
        side = ap (option_map (λ (a : Asked). record { strand = entry.request.strand; kind = a.kind })) is

        within : (r : Option Refusal) → refusal_told entry ≡ r → refusal_told entry ≡ None
        within None er = er
        within (Some refusal) er = absurd (let some : sighting_of entry lines ≡ Some (sighting_by entry lines refusal (record { strand = entry.request.strand; kind = asked.kind })) =
            ap (option_and_then (λ refusal. option_map (λ refused. sighting_by entry lines refusal refused) (side_of entry))) er ∙
            ap (option_map (λ refused. sighting_by entry lines refusal refused)) side in cc)
