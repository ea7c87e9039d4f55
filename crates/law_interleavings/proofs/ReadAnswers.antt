-- Puts and gets of a part are answered as those of the whole.
use Rattle.std.proofs.Common.{◌≡◌, ◌≢◌, inl, inr, ℕ, true, [], ◌∷◌, ◌++◌, map, Some, refl, sym, ap, ap₂, ◌∙◌, subst}
use Rattle.law_addresses.specs.Address.{reaches, branch}
use Rattle.model_accesses.specs.declared.request.Act.{Act}
use Rattle.model_accesses.specs.declared.request.Act.TheVariants.{Put, Get}
use Rattle.model_strands.specs.Addresses.{address}
use Rattle.law_strands.proofs.Branches.{branch_law, branch_address_law}
use Rattle.model_reducers.specs.Views.{product}
use Rattle.law_values.proofs.Lists.{same_members}
use Rattle.model_reducers.specs.Products.{reducer_of, view_number, monoid_of}
use Rattle.model_histories.specs.declared.answer.Answer.{Answer}
use Rattle.model_histories.specs.declared.answer.Answer.TheVariants.{Value, Refused, Unset}
use Rattle.model_histories.specs.declared.answer.Entry.{Entry}
use Rattle.model_histories.specs.Entries.{Entries, control_part}
use Rattle.model_histories.specs.Shapes.{Shape}
use Rattle.model_histories.specs.Legal.{Belongs, IsLegal}
use Rattle.model_races.specs.Reducers.{steps_of, granted_reads}
use Rattle.model_races.specs.Verdicts.{IsRefused, IfValue}
use Rattle.model_races.specs.ReducerVerdicts.{IsGetValue, IsRightFor, ReducersAreJudged, reads_before}
use Rattle.model_races.specs.Judged.{IsJudged}
use Rattle.model_histories.specs.Extensions.{IsCleanAnswer}
use Rattle.law_interleavings.proofs.Control.{legal_part}
use Rattle.model_runs.specs.Serial.{value_given}
use Rattle.law_interleavings.specs.Traces.{Notes, Occurrence, occurrence_address, occurrence_of, trace, Precedes}
use Rattle.law_interleavings.proofs.Swaps.{Member}
use Rattle.law_interleavings.proofs.Traces.{placed}
use Rattle.law_interleavings.proofs.Spoken.{NoneRefused}
use Rattle.law_interleavings.proofs.Comparisons.{order_of}
use Rattle.law_interleavings.proofs.Meetings.{Meeting, place_same, then_legal, member_later, mine_in_whole, theirs_in_whole, mine_before, theirs_before, mine_leads, theirs_leads}
use Rattle.law_interleavings.proofs.SameAnswers.{then_clean, clean_unless, IsLike, IsRead, no_value}
use Rattle.law_interleavings.proofs.ReadDeeds.{IsReadBy, branch_leads, read_deed, deed_read, read_verdict, completed, one_branch}
use Rattle.law_interleavings.proofs.GetItems.{Serially, serially_strict, amount, IsCounted, GetDeeds, get_deeds}

then_reducers : (shape : Shape) (later : Entries) (entry : Entry) (before : Entries) → ReducersAreJudged shape (later ++ entry ∷ before) →
    ReducersAreJudged shape (entry ∷ before)
then_reducers shape [] e K j = j
then_reducers shape (d ∷ later) e K j = then_reducers shape later e K j.0

-- a get that is not refused gives a value
record Got (answer : Answer) : Type 0 where
  value : ℕ
  is : answer ≡ Value value

got : (reducer : ℕ) (answer : Answer) → Belongs (Get reducer) answer → IsCleanAnswer answer → Got answer
got r (Value v) b c = record { value = v; is = refl }
got r (Refused rule w) b c = absurd c
got r Unset b c = absurd c
got r _ b c = absurd b

put_set : (reducer value : ℕ) (answer : Answer) → Belongs (Put reducer value) answer → answer ≡ Unset → ⊥
put_set r v Unset b e = b
put_set r v _ b e = cc

reads_put : (act : Act) (reducer value : ℕ) → act ≡ Put reducer value → IsReadBy reducer act
reads_put act r v q = subst (IsReadBy r) (sym q) refl

reads_get : (act : Act) (reducer : ℕ) → act ≡ Get reducer → IsReadBy reducer act
reads_get act r q = subst (IsReadBy r) (sym q) refl

some_same : {A : Type 0} (a b : A) → Some a ≡ Some b → a ≡ b
some_same a b e = cc

-- the value of a get when it came
get_value : (shape : Shape) (H : Entries) (e : Entry) (reducer value : ℕ) → ReducersAreJudged shape (e ∷ H) → e.request.act ≡ Get reducer → e.answer ≡ Value value →
    IsGetValue shape.monoids (steps_of H) e.request.strand reducer value
get_value shape H e r v j q a =
    let right = subst (λ act. IsRightFor (reads_before shape.monoids H) e.request.strand act e.answer) q j.1 in
    subst (λ o. IfValue o (IsGetValue shape.monoids (steps_of H) e.request.strand r)) a right.1

module _ {Note : Type 0} (shape : Shape) (mine T : Notes Note) (meeting : Meeting shape mine T) (judged : IsJudged shape (meeting.next ∷ meeting.part))
    (whole_judged : IsJudged shape (meeting.later ++ meeting.entry ∷ meeting.before)) (clean : NoneRefused meeting.part)
    (whole_clean : NoneRefused (meeting.later ++ meeting.entry ∷ meeting.before)) (same_act : meeting.next.request.act ≡ meeting.entry.request.act) where
  abbrev R : Entries
  R = meeting.later ++ meeting.entry ∷ meeting.before

  abbrev own : Occurrence Note
  own = occurrence_of mine meeting.part meeting.next

  abbrev other : Occurrence Note
  other = occurrence_of T meeting.before meeting.entry

  before_clean : NoneRefused (meeting.entry ∷ meeting.before)
  before_clean = then_clean meeting.later meeting.entry meeting.before whole_clean

  before_legal : IsLegal shape (meeting.entry ∷ meeting.before)
  before_legal = then_legal shape mine T meeting

  before_judged : ReducersAreJudged shape (meeting.entry ∷ meeting.before)
  before_judged = then_reducers shape meeting.later meeting.entry meeting.before whole_judged.reducers

  other_in_whole : Member (trace T R) other
  other_in_whole = member_later shape mine T meeting meeting.later meeting.entry meeting.before other (inl refl)

  same_place : occurrence_address own ≡ occurrence_address other
  same_place = place_same shape mine T meeting

  module _ (r : ℕ) (is : IsReadBy r meeting.entry.request.act) where
    branch_same : (y : Occurrence Note) → Member (trace T R) y → IsReadBy r y.newest.act → branch (occurrence_address y) ≡ branch (occurrence_address other)
    branch_same y m q = one_branch shape T R meeting.whole_legal whole_judged.reducers whole_clean r y other m other_in_whole q is

    mine_first : (y : Occurrence Note) → Member (trace mine meeting.part) y → IsReadBy r y.newest.act → Member (trace T meeting.before) y
    mine_first y m q =
        let b = branch_same y (mine_in_whole shape mine T meeting y m) q ∙ ap branch (sym same_place) in
        mine_before shape mine T meeting y m (mine_leads shape mine T meeting y m (branch_leads (occurrence_address y) (occurrence_address own) b))

    theirs_first : (y : Occurrence Note) → Member (trace T meeting.before) y → IsReadBy r y.newest.act → Member (trace mine meeting.part) y
    theirs_first y m q =
        let b = branch_same y (theirs_in_whole shape mine T meeting y m) q in
        theirs_before shape mine T meeting y m (theirs_leads shape mine T meeting y m (branch_leads (occurrence_address y) (occurrence_address other) b))

    own_reads : IsReadBy r meeting.next.request.act
    own_reads = subst (IsReadBy r) (sym same_act) is

    not_refused : IsRefused meeting.next.answer → ⊥
    not_refused refused =
        let H = meeting.part in
        let l = meeting.part_legal in
        let h = control_part H in
        let lh = legal_part shape H l.0 in
        let w = completed shape mine H l.0 in
        let v = read_verdict shape mine H meeting.next r judged.reducers own_reads in
        let race = (v.right.refused w.0 w.1).0 refused in
        let read = race.0 in
        let listed = race.1 in
        let d = read_deed shape mine H l.0 read listed.0 in
        let q = subst (λ z. IsReadBy z d.deed.newest.act) listed.1 d.is in
        let b = branch_same d.deed (mine_in_whole shape mine T meeting d.deed d.done) q ∙ ap branch (sym same_place) in
        let by_address = ap branch (sym d.at) ∙ b ∙ ap branch (placed shape mine H meeting.next l) in
        let one = (branch_address_law h lh read.strand meeting.next.request.strand d.begun (inl l.1.runs)).1 by_address in
        race.2 ((branch_law h lh read.strand meeting.next.request.strand d.begun (inl l.1.runs) w.0 w.1.extends w.1.legal).0 one)

    put_like : (v : ℕ) → meeting.next.request.act ≡ Put r v → IsLike meeting.next.answer meeting.entry.answer
    put_like v q =
        let belongs = meeting.part_legal.1.belongs in (
          clean_unless meeting.next.answer not_refused (put_set r v meeting.next.answer (subst (λ a. Belongs a meeting.next.answer) q belongs)),
          no_value (Put r v) meeting.next.answer (subst (λ a. Belongs a meeting.next.answer) q belongs) tt
              ∙ sym (no_value (Put r v) meeting.entry.answer (subst (λ a. Belongs a meeting.entry.answer) (sym same_act ∙ q) before_legal.1.belongs) tt),
        )

    module _ (q : meeting.entry.request.act ≡ Get r) where
      model : Got meeting.entry.answer
      model = got r meeting.entry.answer (subst (λ a. Belongs a meeting.entry.answer) q before_legal.1.belongs) before_clean.0

      model_value : IsGetValue shape.monoids (steps_of meeting.before) meeting.entry.request.strand r model.value
      model_value = get_value shape meeting.before meeting.entry r model.value before_judged q model.is

      theirs : GetDeeds shape T (reducer_of (monoid_of shape.monoids r)) r meeting.before (address (control_part meeting.before) meeting.entry.request.strand) model_value.0
      theirs = get_deeds shape T (reducer_of (monoid_of shape.monoids r)) r meeting.before before_legal.0 before_clean.1 meeting.entry.request.strand
          before_legal.1.runs model_value.0 model_value.1

      is_set : meeting.next.answer ≡ Unset → ⊥
      is_set e =
          let v = read_verdict shape mine meeting.part meeting.next r judged.reducers own_reads in
          let none = (v.right.unset.0 e).1 in
          let m = theirs_first theirs.put theirs.put_done (reads_put theirs.put.newest.act r theirs.put_value theirs.put_act) in
          let d = deed_read shape mine meeting.part meeting.part_legal.0 clean theirs.put m r (reads_put theirs.put.newest.act r theirs.put_value theirs.put_act) in
          none d.read (d.listed, d.reducer_is)

      get_clean : IsCleanAnswer meeting.next.answer
      get_clean = clean_unless meeting.next.answer not_refused is_set

      found : Got meeting.next.answer
      found = got r meeting.next.answer (subst (λ a. Belongs a meeting.next.answer) (same_act ∙ q) meeting.part_legal.1.belongs) get_clean

      found_value : IsGetValue shape.monoids (steps_of meeting.part) meeting.next.request.strand r found.value
      found_value = get_value shape meeting.part meeting.next r found.value judged.reducers (same_act ∙ q) found.is

      ours : GetDeeds shape mine (reducer_of (monoid_of shape.monoids r)) r meeting.part (address (control_part meeting.part) meeting.next.request.strand) found_value.0
      ours = get_deeds shape mine (reducer_of (monoid_of shape.monoids r)) r meeting.part meeting.part_legal.0 clean meeting.next.request.strand
          meeting.part_legal.1.runs found_value.0 found_value.1

      at_own : occurrence_address own ≡ address (control_part meeting.part) meeting.next.request.strand
      at_own = placed shape mine meeting.part meeting.next meeting.part_legal

      at_other : occurrence_address other ≡ address (control_part meeting.before) meeting.entry.request.strand
      at_other = placed shape T meeting.before meeting.entry before_legal

      our_put_reads : IsReadBy r ours.put.newest.act
      our_put_reads = reads_put ours.put.newest.act r ours.put_value ours.put_act

      their_put_reads : IsReadBy r theirs.put.newest.act
      their_put_reads = reads_put theirs.put.newest.act r theirs.put_value theirs.put_act

      -- both have the same last put
      puts_same : ours.put ≡ theirs.put
      puts_same =
          let m = mine_first ours.put ours.put_done our_put_reads in
          let n = theirs_first theirs.put theirs.put_done their_put_reads in
          elim (theirs.last ours.put m ours.put_value ours.put_act) [
            | inl e ↦ e
            | inr t ↦ elim (ours.last theirs.put n theirs.put_value theirs.put_act) [
              | inl e ↦ sym e
              | inr u ↦ absurd (clash t u)
            ]
          ]
        where
          mw : Member (trace T R) ours.put
          mw = mine_in_whole shape mine T meeting ours.put ours.put_done

          nw : Member (trace T R) theirs.put
          nw = theirs_in_whole shape mine T meeting theirs.put theirs.put_done

          clash : (ours.put ≢ theirs.put) × (Precedes theirs.put ours.put → ⊥) → (theirs.put ≢ ours.put) × (Precedes ours.put theirs.put → ⊥) → ⊥
          clash t u =
              elim (branch_leads (occurrence_address ours.put) (occurrence_address theirs.put) (branch_same ours.put mw our_put_reads ∙ sym (branch_same theirs.put nw their_put_reads))) [
                | inl a ↦ elim (order_of shape T R meeting.whole_legal ours.put theirs.put mw nw t.0 a) [ inl p ↦ u.1 p | inr p ↦ t.1 p ]
                | inr a ↦ elim (order_of shape T R meeting.whole_legal theirs.put ours.put nw mw u.0 a) [ inl p ↦ t.1 p | inr p ↦ u.1 p ]
              ]

      counted_on : (y : Occurrence Note) → IsCounted shape mine r meeting.part ours.put (address (control_part meeting.part) meeting.next.request.strand) y →
          IsCounted shape T r meeting.before theirs.put (address (control_part meeting.before) meeting.entry.request.strand) y
      counted_on y k =
          let to_own : reaches (occurrence_address y) (occurrence_address own) ≡ true = subst (λ a. reaches (occurrence_address y) a ≡ true) (sym at_own) k.3 in (
            mine_before shape mine T meeting y k.0 to_own,
            k.1,
            subst (λ z. Precedes z y) puts_same k.2,
            subst (λ a. reaches (occurrence_address y) a ≡ true) (same_place ∙ at_other) to_own,
          )

      counted_back : (y : Occurrence Note) → IsCounted shape T r meeting.before theirs.put (address (control_part meeting.before) meeting.entry.request.strand) y →
          IsCounted shape mine r meeting.part ours.put (address (control_part meeting.part) meeting.next.request.strand) y
      counted_back y k =
          let to_other : reaches (occurrence_address y) (occurrence_address other) ≡ true = subst (λ a. reaches (occurrence_address y) a ≡ true) (sym at_other) k.3 in (
            theirs_before shape mine T meeting y k.0 to_other,
            k.1,
            subst (λ z. Precedes z y) (sym puts_same) k.2,
            subst (λ a. reaches (occurrence_address y) a ≡ true) (sym same_place ∙ at_own) to_other,
          )

      counted_same : ours.counted ≡ theirs.counted
      counted_same =
          same_members Serially ours.counted theirs.counted (λ x y m n a b. serially_strict x y a b) ours.sorted theirs.sorted
          (λ y. ((λ m. (theirs.members y).1 (counted_on y ((ours.members y).0 m))), (λ m. (ours.members y).1 (counted_back y ((theirs.members y).0 m)))))

      values_same : ours.put_value ≡ theirs.put_value
      values_same =
          let k : Put r ours.put_value ≡ Put r theirs.put_value = sym ours.put_act ∙ ap (λ z. z.newest.act) puts_same ∙ theirs.put_act in
          ap amount k

      views_same : found_value.0 ≡ model_value.0
      views_same =
          let reducer = reducer_of (monoid_of shape.monoids r) in
          ours.view_is
          ∙ ap₂ (λ v ys. reducer.combine (reducer.of_put v) (product reducer (map (λ y. reducer.of_update (amount y.newest.act)) ys))) values_same counted_same
          ∙ sym theirs.view_is

      get_like : IsLike meeting.next.answer meeting.entry.answer
      get_like =
          let same : Some found.value ≡ Some model.value = sym found_value.2 ∙ ap view_number views_same ∙ model_value.2 in
          (get_clean, ap value_given found.is ∙ same ∙ sym (ap value_given model.is))

  pub read_like : IsRead meeting.next.request.act → IsLike meeting.next.answer meeting.entry.answer
  read_like reads = by_act meeting.next.request.act refl reads
    where
      by_act : (act : Act) → meeting.next.request.act ≡ act → IsRead act → IsLike meeting.next.answer meeting.entry.answer
      by_act (Put r v) q k = put_like r (reads_put meeting.entry.request.act r v (sym same_act ∙ q)) v q
      by_act (Get r) q k = get_like r (reads_get meeting.entry.request.act r (sym same_act ∙ q)) (sym same_act ∙ q)
      by_act _ q k = absurd k
