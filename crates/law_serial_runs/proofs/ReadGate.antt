-- Some read of a reducer sees another view than an earlier one exactly where the gate refuses a put or a get of the reducer.
-- E: entries; m, q, n: moments; R: a reducer
use Rattle.std.proofs.Common.{◌≡◌, ◌≢◌, ◌⊎◌, ◌↔◌, inl, inr, ℕ, List, [], ◌∷◌, Contains, sym, ap, ◌∙◌, subst, subst₂}
use Rattle.model_strands.specs.History.{History}
use Rattle.model_strands.specs.Legal.{Legal}
use Rattle.model_strands.specs.Strands.{Begun}
use Rattle.model_strands.specs.Peers.{HaveSamePeers}
use Rattle.model_strands.specs.Extensions.{Extends, IsFinished}
use Rattle.law_addresses.proofs.Extremes.{contains-head, contains-tail, contains-cases}
use Rattle.law_strands.specs.Branches.{branch}
use Rattle.law_strands.proofs.Branches.{branch_law}
use Rattle.law_strands.proofs.Finish.{finish_law}
use Rattle.model_histories.specs.declared.answer.Entry.{Entry}
use Rattle.model_histories.specs.Entries.{Entries, control_part}
use Rattle.model_histories.specs.Shapes.{Shape}
use Rattle.model_histories.specs.Legal.{IsLegal}
use Rattle.law_traces.specs.Locations.{IsReadOf, Reads, HasReadRefusal, HasViewRaceAt}
use Rattle.law_traces.proofs.Histories.{none_in, legal_part, extends_earlier, begun_by}
use Rattle.law_traces.proofs.Reducers.{reducer_law}
use Rattle.model_serial_runs.specs.ReducerReads.{ReducerRead, ViewRaces}
use Rattle.law_serial_runs.specs.Reads.{ReadMoment, TellsReads, told_no_read, told_other, told_reducer_read, HasViewRaceAmong}
use Rattle.law_serial_runs.specs.Laws.{ViewRacesLaw, ReadGateLaw}

pub view_races_law : ViewRacesLaw
view_races_law h l s read br bs = (forward, backward)
  where
    forward : ViewRaces h s read → branch h read.strand ≢ branch h s
    forward race e =
        let (whole, ext, legal, finished) = finish_law h l in
        race whole (record { extends = ext; legal = legal; finished = finished }) ((branch_law h l read.strand s br bs whole ext legal).0 e)

    backward : branch h read.strand ≢ branch h s → ViewRaces h s read
    backward ne whole completes peers = ne ((branch_law h l read.strand s br bs whole completes.extends completes.legal).1 peers)

later_read : (entry : Entry) (entries : Entries) (strand reducer : ℕ) → Reads entries strand reducer → Reads (entry ∷ entries) strand reducer
later_read e E s r (one, h, at, is, u) = (one, contains-tail e one E h, at, is, u)

-- each read of the list is asked for
told_reads : (reducer : ℕ) {entries : Entries} {moments : List ReadMoment} → TellsReads reducer entries moments → (moment : ReadMoment) →
    Contains moments moment → Reads entries moment.read.strand reducer
told_reads R told_no_read m h = absurd (none_in m h)
told_reads R (told_other {entries = E} {entry = x} t off) m h = later_read x E m.read.strand R (told_reads R t m h)
told_reads R (told_reducer_read {entries = E} {moments = ms} {entry = x} t is u) m h = elim (contains-cases _ m ms h) [
  | inl e ↦ (x, contains-head x E, ap (λ (z : ReadMoment). z.read.strand) (sym e), is, u)
  | inr k ↦ later_read x E m.read.strand R (told_reads R t m k)
]

-- what is asked for is a read of the list
reads_told : (reducer : ℕ) {entries : Entries} {moments : List ReadMoment} → TellsReads reducer entries moments → (strand : ℕ) →
    Reads entries strand reducer → (moment : ReadMoment) × Contains moments moment × (moment.read.strand ≡ strand)
reads_told R told_no_read s (one, h, at, is, u) = absurd (none_in one h)
reads_told R (told_other {entries = E} {entry = x} t off) s (one, h, at, is, u) = elim (contains-cases x one E h) [
  | inl e ↦ absurd (u (ap (λ (z : Entry). z.answer) e ∙ off (subst (λ (z : Entry). IsReadOf z.request.act R) e is)))
  | inr k ↦ reads_told R t s (one, k, at, is, u)
]
reads_told R (told_reducer_read {entries = E} {moments = ms} {entry = x} t is' u') s (one, h, at, is, u) = elim (contains-cases x one E h) [
  | inl e ↦ (_, contains-head _ ms, ap (λ (z : Entry). z.request.strand) (sym e) ∙ at)
  | inr k ↦ (let (m, listed, strand_is) = reads_told R t s (one, k, at, is, u) in (m, contains-tail _ m ms listed, strand_is))
]

-- each was made by a strand that ran then, and the earlier ones by strands that had begun
abbrev IsOrdered : History → List ReadMoment → Type 0
IsOrdered whole [] = Unit {0}
IsOrdered whole (new ∷ moments) =
    Extends whole new.history × Legal new.history × Begun new.history new.read.strand ×
    ((earlier : ReadMoment) → Contains moments earlier → Begun new.history earlier.read.strand) × IsOrdered whole moments

ordered : (shape : Shape) (reducer : ℕ) (whole : History) → {entries : Entries} {moments : List ReadMoment} → IsLegal shape entries →
    TellsReads reducer entries moments → Extends whole (control_part entries) → IsOrdered whole moments
ordered shape R w l told_no_read ext = tt
ordered shape R w l (told_other {entries = E} {entry = e} t off) ext = ordered shape R w l.0 t (extends_earlier w e E ext)
ordered shape R w l (told_reducer_read {entries = E} {entry = e} t is u) ext =
    let ext' = extends_earlier w e E ext in (
      ext',
      legal_part shape E l.0,
      inl l.1.runs,
      (λ m h. let asks = told_reads R t m h in subst (Begun (control_part E)) asks.2 (begun_by shape E l.0 asks.0 asks.1)),
      ordered shape R w l.0 t ext',
    )

abbrev HasPair : History → List ReadMoment → Type 0
HasPair whole moments =
    (one other : ReadMoment) × Contains moments one × Contains moments other × (HaveSamePeers whole one.read.strand other.read.strand → ⊥)

peers_back : (dag : History) (strand other : ℕ) → HaveSamePeers dag strand other → HaveSamePeers dag other strand
peers_back dag s t same peer = ((same peer).1, (same peer).0)

module _ (whole : History) (legal : Legal whole) (finished : IsFinished whole) where
  pair_of : (moments : List ReadMoment) → IsOrdered whole moments → HasViewRaceAmong moments → HasPair whole moments
  pair_of [] o r = absurd r
  pair_of (n ∷ ms) o (inl (m, h, race)) =
      (m, n, contains-tail n m ms h, contains-head n ms, race whole (record { extends = o.0; legal = legal; finished = finished }))
  pair_of (n ∷ ms) o (inr r) = let (m, q, h, k, differ) = pair_of ms o.4 r in (m, q, contains-tail n m ms h, contains-tail n q ms k, differ)

  -- what differs in the whole differed when the later one came
  differs : (new : ReadMoment) (read : ReducerRead) → Extends whole new.history → Legal new.history → Begun new.history new.read.strand →
      Begun new.history read.strand → (HaveSamePeers whole read.strand new.read.strand → ⊥) → ViewRaces new.history new.read.strand read
  differs n read ext l bn br differ =
      (view_races_law n.history l n.read.strand read br bn).1
      (λ e. differ ((branch_law n.history l read.strand n.read.strand br bn whole ext legal).0 e))

  race_of : (moments : List ReadMoment) → IsOrdered whole moments → HasPair whole moments → HasViewRaceAmong moments
  race_of [] o (m, q, h, k, differ) = absurd (none_in m h)
  race_of (n ∷ ms) o (m, q, h, k, differ) =
      go (λ a b. race_of ms o.4 (m, q, a, b, differ)) (contains-cases n m ms h) (contains-cases n q ms k)
    where
      go : (Contains ms m → Contains ms q → HasViewRaceAmong ms) → (m ≡ n) ⊎ Contains ms m → (q ≡ n) ⊎ Contains ms q → HasViewRaceAmong (n ∷ ms)
      go older (inl a) (inl b) =
          absurd (differ (subst (λ (z : ReadMoment). HaveSamePeers whole m.read.strand z.read.strand) (a ∙ sym b) (λ peer. ((λ t. t), (λ t. t)))))
      go older (inl a) (inr b) = inl (
        q,
        b,
        differs n q.read o.0 o.1 o.2 (o.3 q b)
            (λ same. differ (peers_back whole q.read.strand m.read.strand (subst (λ (z : ReadMoment). HaveSamePeers whole q.read.strand z.read.strand) (sym a) same))),
      )
      go older (inr a) (inl b) = inl (
        m,
        a,
        differs n m.read o.0 o.1 o.2 (o.3 m a)
            (λ same. differ (subst (λ (z : ReadMoment). HaveSamePeers whole m.read.strand z.read.strand) (sym b) same)),
      )
      go older (inr a) (inr b) = inr (older a b)

pub read_gate_law : ReadGateLaw
read_gate_law shape E judged R ms told = (forward, backward)
  where
    finish : (longer : History) × Extends longer (control_part E) × Legal longer × IsFinished longer
    finish = finish_law (control_part E) (legal_part shape E judged.legal)

    in_order : IsOrdered finish.0 ms
    in_order = ordered shape R finish.0 judged.legal told finish.1

    tie : HasReadRefusal E R ↔ HasViewRaceAt finish.0 E R
    tie = reducer_law shape E judged finish.0 (record { extends = finish.1; legal = finish.2; finished = finish.3 }) R

    forward : HasViewRaceAmong ms → HasReadRefusal E R
    forward race =
        let (m, q, h, k, differ) = pair_of finish.0 finish.2 finish.3 ms in_order race in
        tie.1 (m.read.strand, q.read.strand, told_reads R told m h, told_reads R told q k, differ)

    backward : HasReadRefusal E R → HasViewRaceAmong ms
    backward refusal =
        let (s, u, x, y, differ) = tie.0 refusal in
        let (m, h, is) = reads_told R told s x in
        let (q, k, are) = reads_told R told u y in
        race_of finish.0 finish.2 finish.3 ms in_order (m, q, h, k, λ same. differ (subst₂ (HaveSamePeers finish.0) is are same))
