-- A reducer has a view-read race exactly where some put or get of it is refused.
use Rattle.std.proofs.Common.{◌≡◌, ◌≢◌, ◌⊎◌, ◌↔◌, inl, inr, ℕ, suc, [], ◌∷◌, length, Option, Some, None, Contains, refl, sym, ap, ◌∙◌, subst}
use Rattle.std.proofs.lemmas.List.Elements.{Contains-append_left, Contains-append_right, Contains-append_cases}
use Rattle.std.specs.Option.{option_to_list}
use Rattle.model_accesses.specs.declared.kind.Kind.TheVariants as kind
use Rattle.model_accesses.specs.declared.request.Act.{Act}
use Rattle.model_accesses.specs.declared.request.Act.TheVariants.{Put, Get}
use Rattle.model_strands.specs.History.{History}
use Rattle.model_strands.specs.Peers.{HaveSamePeers}
use Rattle.law_addresses.proofs.Extremes.{contains-head, contains-tail, contains-cases}
use Rattle.model_accesses.specs.Reads.{ReducerRead}
use Rattle.model_histories.specs.declared.answer.Answer.{Answer}
use Rattle.model_histories.specs.declared.answer.Answer.TheVariants.{Granted, Value, Refused, Unset}
use Rattle.model_histories.specs.declared.answer.Entry.{Entry}
use Rattle.model_histories.specs.Entries.{Entries, control_part}
use Rattle.model_histories.specs.Shapes.{Shape}
use Rattle.model_histories.specs.Legal.{Belongs, IsLegal}
use Rattle.model_races.specs.Verdicts.{IsRefused}
use Rattle.model_races.specs.Reducers.{steps_of, read_at, granted_reads}
use Rattle.model_races.specs.ViewReads.{Completes, HasViewRace}
use Rattle.model_races.specs.ReducerVerdicts.{IsRightFor, ReducersAreJudged, reads_before}
use Rattle.law_traces.specs.Locations.{IsReadOf, Reads, HasReadRefusal, HasViewRaceAt}
use Rattle.law_traces.specs.Laws.{ReducerLaw}
use Rattle.law_traces.proofs.Histories.{none_in, extends_earlier}

-- a put or get that is not unset is granted or refused
data Fate (number strand reducer : ℕ) (act : Act) (answer : Answer) : Type 0 where
  refused_read : IsRefused answer → Fate number strand reducer act answer
  listed_read : (read : ReducerRead) → read_at number strand act answer ≡ Some read → read.reducer ≡ reducer → read.strand ≡ strand → Fate number strand reducer act answer

fate : (number strand reducer : ℕ) (act : Act) (answer : Answer) → Belongs act answer → answer ≢ Unset → IsReadOf act reducer → Fate number strand reducer act answer
fate n s r (Put t v) Granted b u (inl (w, e)) = listed_read _ refl (reducer_is e) refl
  where
    reducer_is : Put t v ≡ Put r w → t ≡ r
    reducer_is e = cc
fate n s r (Put t v) Granted b u (inr e) = absurd (cc)
fate n s r (Put t v) (Refused rule w) b u is = refused_read tt
fate n s r (Put t v) answer b u is = absurd b
fate n s r (Get t) (Value v) b u (inr e) = listed_read _ refl (reducer_is e) refl
  where
    reducer_is : Get t ≡ Get r → t ≡ r
    reducer_is e = cc
fate n s r (Get t) (Value v) b u (inl (w, e)) = absurd (cc)
fate n s r (Get t) (Refused rule w) b u is = refused_read tt
fate n s r (Get t) Unset b u is = absurd (u refl)
fate n s r (Get t) answer b u is = absurd b
fate n s r act answer b u (inl (w, e)) = absurd (cc)
fate n s r act answer b u (inr e) = absurd (cc)

-- the granted reads, by the entries that they are of
record IsAsked (entries : Entries) (read : ReducerRead) : Type 0 where
  entry : Entry
  among : Contains entries entry
  strand_is : entry.request.strand ≡ read.strand
  reads : IsReadOf entry.request.act read.reducer
  is_set : entry.answer ≢ Unset

read_in : (number strand : ℕ) (act : Act) (answer : Answer) (read : ReducerRead) → read_at number strand act answer ≡ Some read →
    (strand ≡ read.strand) × IsReadOf act read.reducer × (answer ≢ Unset)
read_in n s (Put r v) Granted read e = (ap_strand e, inl (v, put_is e), λ u. cc)
  where
    ap_strand : Some (record { reducer = r; kind = kind.Put; strand = s; entry = n }) ≡ Some read → s ≡ read.strand
    ap_strand e = cc

    put_is : Some (record { reducer = r; kind = kind.Put; strand = s; entry = n }) ≡ Some read → Put r v ≡ Put read.reducer v
    put_is e = cc
read_in n s (Get r) (Value v) read e = (ap_strand e, inr (get_is e), λ u. cc)
  where
    ap_strand : Some (record { reducer = r; kind = kind.Get; strand = s; entry = n }) ≡ Some read → s ≡ read.strand
    ap_strand e = cc

    get_is : Some (record { reducer = r; kind = kind.Get; strand = s; entry = n }) ≡ Some read → Get r ≡ Get read.reducer
    get_is e = cc
read_in n s act answer read e = cc

in_option : {X : Type 0} (found : Option X) (x : X) → Contains (option_to_list found) x → found ≡ Some x
in_option None x h = absurd (none_in x h)
in_option (Some one) x h = elim (contains-cases one x [] h) [ inl is ↦ ap (λ z. Some z) (sym is) | inr t ↦ absurd (none_in x t) ]

option_in : {X : Type 0} (found : Option X) (x : X) → found ≡ Some x → Contains (option_to_list found) x
option_in found x e = rw e (contains-head x [])

asked_read : (entries : Entries) (read : ReducerRead) → Contains (granted_reads entries) read → IsAsked entries read
asked_read [] read h = absurd (none_in read h)
asked_read (e ∷ H) read h =
    elim (Contains-append_cases (granted_reads H) (option_to_list (read_at (suc (length H)) e.request.strand e.request.act e.answer)) read h) [
      | inl k ↦ (
          let d = asked_read H read k in
          record { entry = d.entry; among = contains-tail e d.entry H d.among; strand_is = d.strand_is; reads = d.reads; is_set = d.is_set })
      | inr k ↦ (
          let t = read_in (suc (length H)) e.request.strand e.request.act e.answer read
          (in_option (read_at (suc (length H)) e.request.strand e.request.act e.answer) read k) in
          record { entry = e; among = contains-head e H; strand_is = t.0; reads = t.1; is_set = t.2 })
    ]

-- a read that is not unset is refused, or one of the granted reads
listed : (shape : Shape) (entries : Entries) → IsLegal shape entries → (entry : Entry) → Contains entries entry → (reducer : ℕ) →
    IsReadOf entry.request.act reducer → entry.answer ≢ Unset →
    IsRefused entry.answer ⊎ ((read : ReducerRead) × Contains (granted_reads entries) read × (read.reducer ≡ reducer) × (read.strand ≡ entry.request.strand))
listed shape [] l one h r is u = absurd (none_in one h)
listed shape (e ∷ H) l one h r is u = elim (contains-cases e one H h) [
  | inl same ↦ subst (λ (x : Entry). IsRefused x.answer ⊎ ((read : ReducerRead) × Contains (granted_reads (e ∷ H)) read × (read.reducer ≡ r) × (read.strand ≡ x.request.strand)))
      (sym same) (newest (fate (suc (length H)) e.request.strand r e.request.act e.answer l.1.belongs
      (subst (λ (x : Entry). x.answer ≢ Unset) same u) (subst (λ (x : Entry). IsReadOf x.request.act r) same is)))
  | inr t ↦ elim (listed shape H l.0 one t r is u) [
    | inl k ↦ inl k
    | inr k ↦ inr (k.0, Contains-append_left (granted_reads H) (option_to_list (read_at (suc (length H)) e.request.strand e.request.act e.answer)) k.0 k.1, k.2, k.3)
  ]
]
  where
    newest : Fate (suc (length H)) e.request.strand r e.request.act e.answer →
        IsRefused e.answer ⊎ ((read : ReducerRead) × Contains (granted_reads (e ∷ H)) read × (read.reducer ≡ r) × (read.strand ≡ e.request.strand))
    newest (refused_read k) = inl k
    newest (listed_read read at reducer_is strand_is) = inr (
      read,
      Contains-append_right (granted_reads H) (option_to_list (read_at (suc (length H)) e.request.strand e.request.act e.answer)) read
          (option_in (read_at (suc (length H)) e.request.strand e.request.act e.answer) read at),
      reducer_is,
      strand_is,
    )

-- a put or get is refused where it has a view-read race
right_read : (shape : Shape) (entry : Entry) (entries : Entries) (reducer : ℕ) → ReducersAreJudged shape (entry ∷ entries) → IsReadOf entry.request.act reducer →
    (whole : History) → Completes whole (control_part entries) → IsRefused entry.answer ↔ HasViewRace whole (granted_reads entries) entry.request.strand reducer
right_read shape e H r judged is whole completes =
    let right : IsRightFor (reads_before shape.monoids H) e.request.strand e.request.act e.answer = judged.1 in
    elim is [
      | inl t ↦ (let put = rw t.1 at right in put.refused whole completes)
      | inr t ↦ (let get = rw t at right in get.0.refused whole completes)
    ]

refused_is_set : (answer : Answer) → IsRefused answer → answer ≢ Unset
refused_is_set (Refused rule w) r u = cc
refused_is_set answer r u = absurd r

peers_self : (dag : History) (strand : ℕ) → HaveSamePeers dag strand strand
peers_self dag s peer = ((λ t. t), (λ t. t))

peers_back : (dag : History) (strand other : ℕ) → HaveSamePeers dag strand other → HaveSamePeers dag other strand
peers_back dag s t same peer = ((same peer).1, (same peer).0)

later_refusal : (entry : Entry) (entries : Entries) (reducer : ℕ) → HasReadRefusal entries reducer → HasReadRefusal (entry ∷ entries) reducer
later_refusal e H r (one, h, is, refused) = (one, contains-tail e one H h, is, refused)

later_read : (entry : Entry) (entries : Entries) (strand reducer : ℕ) → Reads entries strand reducer → Reads (entry ∷ entries) strand reducer
later_read e H s r (one, h, at, is, u) = (one, contains-tail e one H h, at, is, u)

completes_earlier : (whole : History) (entry : Entry) (entries : Entries) → Completes whole (control_part (entry ∷ entries)) → Completes whole (control_part entries)
completes_earlier whole e H c = record { extends = extends_earlier whole e H c.extends; legal = c.legal; finished = c.finished }

module _ (shape : Shape) (whole : History) where
  raced : (entries : Entries) → ReducersAreJudged shape entries → Completes whole (control_part entries) → (reducer : ℕ) →
      HasReadRefusal entries reducer → HasViewRaceAt whole entries reducer
  raced [] j completes r (one, h, is, refused) = absurd (none_in one h)
  raced (e ∷ H) j completes r (one, h, is, refused) = elim (contains-cases e one H h) [
    | inl same ↦ (
        let is' = subst (λ (x : Entry). IsReadOf x.request.act r) same is in
        let refused' = subst (λ (x : Entry). IsRefused x.answer) same refused in
        let race = (right_read shape e H r j is' whole (completes_earlier whole e H completes)).0 refused' in
        let d = asked_read H race.0 race.1.0 in (
          race.0.strand,
          e.request.strand,
          (d.entry, contains-tail e d.entry H d.among, d.strand_is, subst (IsReadOf d.entry.request.act) race.1.1 d.reads, d.is_set),
          (e, contains-head e H, refl, is', refused_is_set e.answer refused'),
          race.2,
        ))
    | inr t ↦ (
        let (s, u, x, y, differ) = raced H j.0 (completes_earlier whole e H completes) r (one, t, is, refused) in
        (s, u, later_read e H s r x, later_read e H u r y, differ))
  ]

  against_earlier : (entry : Entry) (entries : Entries) → IsLegal shape (entry ∷ entries) → ReducersAreJudged shape (entry ∷ entries) →
      Completes whole (control_part entries) → (reducer other : ℕ) → IsReadOf entry.request.act reducer → Reads entries other reducer →
      (HaveSamePeers whole other entry.request.strand → ⊥) → HasReadRefusal (entry ∷ entries) reducer
  against_earlier e H l j completes r u is (one, h, at, is', set) differ = elim (listed shape H l.0 one h r is' set) [
    | inl refused ↦ (one, contains-tail e one H h, is', refused)
    | inr k ↦ (
      e,
      contains-head e H,
      is,
      (right_read shape e H r j is whole completes).1
          (k.0, (k.1, k.2), λ same. differ (subst (λ z. HaveSamePeers whole z e.request.strand) (k.3 ∙ at) same)),
    )
  ]

  refused : (entries : Entries) → IsLegal shape entries → ReducersAreJudged shape entries → Completes whole (control_part entries) → (reducer : ℕ) →
      HasViewRaceAt whole entries reducer → HasReadRefusal entries reducer
  refused [] l j completes r (s, u, x, y, differ) = absurd (none_in x.0 x.1)
  refused (e ∷ H) l j completes r (s, u, x, y, differ) =
      go (λ a b. refused H l.0 j.0 earlier r (s, u, (x.0, a, x.2, x.3, x.4), (y.0, b, y.2, y.3, y.4), differ))
      (contains-cases e x.0 H x.1) (contains-cases e y.0 H y.1)
    where
      earlier : Completes whole (control_part H)
      earlier = completes_earlier whole e H completes

      x_at : x.0 ≡ e → e.request.strand ≡ s
      x_at a = ap (λ (z : Entry). z.request.strand) (sym a) ∙ x.2

      y_at : y.0 ≡ e → e.request.strand ≡ u
      y_at b = ap (λ (z : Entry). z.request.strand) (sym b) ∙ y.2

      go : (Contains H x.0 → Contains H y.0 → HasReadRefusal H r) → (x.0 ≡ e) ⊎ Contains H x.0 → (y.0 ≡ e) ⊎ Contains H y.0 → HasReadRefusal (e ∷ H) r
      go older (inl a) (inl b) = absurd (differ (subst (λ z. HaveSamePeers whole s z) (sym (x_at a) ∙ y_at b) (peers_self whole s)))
      go older (inl a) (inr b) =
          against_earlier e H l j earlier r u (subst (λ (z : Entry). IsReadOf z.request.act r) a x.3) (y.0, b, y.2, y.3, y.4)
          (λ same. differ (subst (λ z. HaveSamePeers whole z u) (x_at a) (peers_back whole u e.request.strand same)))
      go older (inr a) (inl b) =
          against_earlier e H l j earlier r s (subst (λ (z : Entry). IsReadOf z.request.act r) b y.3) (x.0, a, x.2, x.3, x.4)
          (λ same. differ (subst (HaveSamePeers whole s) (y_at b) same))
      go older (inr a) (inr b) = later_refusal e H r (older a b)

pub reducer_law : ReducerLaw
reducer_law shape entries judged whole completes reducer = (
  raced shape whole entries judged.reducers completes reducer,
  refused shape whole entries judged.legal judged.reducers completes reducer,
)
