-- Some access of a location races with an earlier one exactly where the gate refuses one on one of the location's two cells.
-- E: entries; m, q: moments; g, k: kinds; L: a location
use Rattle.std.proofs.Common.{rules, ◌≡◌, ◌≢◌, ◌⊎◌, inl, inr, ℕ, List, [], ◌∷◌, Option, Some, None, Contains, IsTrue, refl, sym, ap, ◌∙◌, subst, subst₂, arith}
use Rattle.std.proofs.lemmas.Option.{none-some, same_Some}
use Rattle.model_strands.specs.History.{History}
use Rattle.model_strands.specs.Legal.{Legal}
use Rattle.model_strands.specs.Strands.{Begun}
use Rattle.model_strands.specs.Dag.{stay, Reaches, IsParallel}
use Rattle.model_strands.specs.Extensions.{Extends}
use Rattle.law_addresses.proofs.Extremes.{contains-head, contains-tail, contains-cases}
use Rattle.model_accesses.specs.declared.kind.Kind.{Kind}
use Rattle.model_accesses.specs.declared.kind.Kind.TheVariants as kind
use Rattle.model_accesses.specs.declared.kind.Rule.TheVariants.{Race}
use Rattle.model_accesses.specs.Table.{rule_between}
use Rattle.model_accesses.specs.declared.request.Act.{Act}
use Rattle.model_histories.specs.declared.answer.Entry.{Entry}
use Rattle.model_histories.specs.Entries.{Entries, control_part}
use Rattle.model_histories.specs.Shapes.{Shape}
use Rattle.model_histories.specs.Legal.{IsLegal}
use Rattle.model_races.specs.Accesses.{cell_access}
use Rattle.law_traces.specs.Locations.{access_of, Accesses, HasRefusal, HasRaceAt}
use Rattle.law_traces.proofs.Histories.{none_in, legal_part, extends_self, extends_earlier, parallel_stays, begun_by}
use Rattle.law_traces.proofs.Locations.{accesses_same, location_law}
use Rattle.model_serial_runs.specs.declared.access_kind.AccessKind.{AccessKind}
use Rattle.model_serial_runs.specs.declared.access_kind.AccessKind.TheVariants.{Read, Load, Update, Write}
use Rattle.model_serial_runs.specs.Conflicts.{conflict}
use Rattle.law_serial_runs.specs.Accesses.{first_cell, second_cell, on_first, on_second, AreRacing, Moment, IsElsewhere, Tells, told_nothing, told_elsewhere, told_read, told_load, told_update, told_write, HasRaceAmong}
use Rattle.law_serial_runs.specs.Laws.{KindsLaw, GateLaw}

pub kinds_law : KindsLaw
kinds_law kind other = search rules

-- the entry asks for an access of this kind of the cell
abbrev Asks : Entry → Kind → ℕ → Type 0
Asks entry kind cell = cell_access entry.request.act ≡ Some (access_of kind cell)

-- what the entries ask of one cell, where each access is of one kind there, or is none
data TellsAt (on : AccessKind → Option Kind) (cell : ℕ) : Entries → List Moment → Type 0 where
  at_nothing : TellsAt on cell [] []
  at_other : {entries : Entries} {moments : List Moment} {entry : Entry} → TellsAt on cell entries moments → IsElsewhere entry cell →
      TellsAt on cell (entry ∷ entries) moments
  at_silent : {entries : Entries} {moments : List Moment} {entry : Entry} {new : Moment} → TellsAt on cell entries moments → IsElsewhere entry cell →
      on new.access.kind ≡ None → TellsAt on cell (entry ∷ entries) (new ∷ moments)
  at_new : {entries : Entries} {moments : List Moment} {entry : Entry} {new : Moment} {kind : Kind} → TellsAt on cell entries moments →
      Asks entry kind cell → on new.access.kind ≡ Some kind → entry.request.strand ≡ new.access.strand → TellsAt on cell (entry ∷ entries) (new ∷ moments)

asked : (act : Act) {made : Act} {kind : Kind} {cell : ℕ} → act ≡ made → cell_access made ≡ Some (access_of kind cell) → cell_access act ≡ Some (access_of kind cell)
asked a e q = ap cell_access e ∙ q

pub not_there : (entry : Entry) {kind : Kind} {cell other : ℕ} → Asks entry kind cell → cell ≢ other → IsElsewhere entry other
not_there e q ne k p = ne (ap (λ z. z.location) (accesses_same (sym q ∙ p)))

apart : (location : ℕ) → first_cell location ≢ second_cell location
apart l e = omega arith

first_told : (location : ℕ) {entries : Entries} {moments : List Moment} → Tells location entries moments →
    TellsAt on_first (first_cell location) entries moments
first_told L told_nothing = at_nothing
first_told L (told_elsewhere t a b) = at_other (first_told L t) a
first_told L (told_read {entry = e} t q) = at_new (first_told L t) (ap cell_access q) refl refl
first_told L (told_load {entry = e} t q) = at_silent (first_told L t) (not_there e (ap cell_access q) (λ z. apart L (sym z))) refl
first_told L (told_update {entry = e} t q) = at_new (first_told L t) (ap cell_access q) refl refl
first_told L (told_write {entry = e} {second = d} t q p s) =
    at_other (at_new (first_told L t) (ap cell_access q) refl refl) (not_there d (ap cell_access p) (λ z. apart L (sym z)))

second_told : (location : ℕ) {entries : Entries} {moments : List Moment} → Tells location entries moments →
    TellsAt on_second (second_cell location) entries moments
second_told L told_nothing = at_nothing
second_told L (told_elsewhere t a b) = at_other (second_told L t) b
second_told L (told_read {entry = e} t q) = at_silent (second_told L t) (not_there e (ap cell_access q) (apart L)) refl
second_told L (told_load {entry = e} t q) = at_new (second_told L t) (ap cell_access q) refl refl
second_told L (told_update {entry = e} t q) = at_silent (second_told L t) (not_there e (ap cell_access q) (apart L)) refl
second_told L (told_write {entry = e} {second = d} t q p s) =
    at_new (at_other (second_told L t) (not_there e (ap cell_access q) (apart L))) (ap cell_access p) refl s

later_access : (entry : Entry) (entries : Entries) (strand : ℕ) (kind : Kind) (cell : ℕ) → Accesses entries strand kind cell → Accesses (entry ∷ entries) strand kind cell
later_access e E s k c (one, h, at, q) = (one, contains-tail e one E h, at, q)

-- each access of the list is asked for
told_asks : (on : AccessKind → Option Kind) (cell : ℕ) {entries : Entries} {moments : List Moment} → TellsAt on cell entries moments → (moment : Moment) →
    Contains moments moment → (kind : Kind) → on moment.access.kind ≡ Some kind → Accesses entries moment.access.strand kind cell
told_asks on c at_nothing m h g e = absurd (none_in m h)
told_asks on c (at_other {entries = E} {entry = x} t off) m h g e = later_access x E m.access.strand g c (told_asks on c t m h g e)
told_asks on c (at_silent {entries = E} {moments = ms} {entry = x} {new = n} t off none) m h g e = elim (contains-cases n m ms h) [
  | inl is ↦ absurd (none-some g (sym (ap (λ (z : Moment). on z.access.kind) is ∙ none) ∙ e))
  | inr k ↦ later_access x E m.access.strand g c (told_asks on c t m k g e)
]
told_asks on c (at_new {entries = E} {moments = ms} {entry = x} {new = n} {kind = g'} t q f s) m h g e = elim (contains-cases n m ms h) [
  | inl is ↦ (
    x,
    contains-head x E,
    s ∙ ap (λ (z : Moment). z.access.strand) (sym is),
    q ∙ ap (λ z. Some (access_of z c)) (same_Some g' g (sym f ∙ (ap (λ (z : Moment). on z.access.kind) (sym is) ∙ e))),
  )
  | inr k ↦ later_access x E m.access.strand g c (told_asks on c t m k g e)
]

-- what is asked for is an access of the list
record IsListed (on : AccessKind → Option Kind) (moments : List Moment) (strand : ℕ) (kind : Kind) : Type 0 where
  moment : Moment
  listed : Contains moments moment
  strand_is : moment.access.strand ≡ strand
  kind_is : on moment.access.kind ≡ Some kind

listed_further : (on : AccessKind → Option Kind) (new : Moment) (moments : List Moment) (strand : ℕ) (kind : Kind) → IsListed on moments strand kind →
    IsListed on (new ∷ moments) strand kind
listed_further on n ms s g d =
    record { moment = d.moment; listed = contains-tail n d.moment ms d.listed; strand_is = d.strand_is; kind_is = d.kind_is }

asks_told : (on : AccessKind → Option Kind) (cell : ℕ) {entries : Entries} {moments : List Moment} → TellsAt on cell entries moments → (strand : ℕ) (kind : Kind) →
    Accesses entries strand kind cell → IsListed on moments strand kind
asks_told on c at_nothing s g (one, h, at, q) = absurd (none_in one h)
asks_told on c (at_other {entries = E} {entry = x} t off) s g (one, h, at, q) = elim (contains-cases x one E h) [
  | inl is ↦ absurd (off g (subst (λ (z : Entry). Asks z g c) is q))
  | inr k ↦ asks_told on c t s g (one, k, at, q)
]
asks_told on c (at_silent {entries = E} {moments = ms} {entry = x} {new = n} t off none) s g (one, h, at, q) = elim (contains-cases x one E h) [
  | inl is ↦ absurd (off g (subst (λ (z : Entry). Asks z g c) is q))
  | inr k ↦ listed_further on n ms s g (asks_told on c t s g (one, k, at, q))
]
asks_told on c (at_new {entries = E} {moments = ms} {entry = x} {new = n} {kind = g'} t q' f strand_is) s g (one, h, at, q) = elim (contains-cases x one E h) [
  | inl is ↦ record {
    moment = n;
    listed = contains-head n ms;
    strand_is = sym strand_is ∙ (ap (λ (z : Entry). z.request.strand) (sym is) ∙ at);
    kind_is = f ∙ ap (λ z. Some z) (ap (λ z. z.kind) (accesses_same (sym q' ∙ subst (λ (z : Entry). Asks z g c) is q)));
  }
  | inr k ↦ listed_further on n ms s g (asks_told on c t s g (one, k, at, q))
]

-- The order of the accesses

-- each was made by a strand that ran then, and the earlier ones by strands that had begun
abbrev IsOrdered : History → List Moment → Type 0
IsOrdered whole [] = Unit {0}
IsOrdered whole (new ∷ moments) =
    Extends whole new.history × Begun new.history new.access.strand ×
    ((earlier : Moment) → Contains moments earlier → Begun new.history earlier.access.strand) × IsOrdered whole moments

abbrev HasPair : History → List Moment → Type 0
HasPair whole moments =
    (one other : Moment) × Contains moments one × Contains moments other × IsTrue (conflict one.access.kind other.access.kind) ×
    IsParallel whole one.access.strand other.access.strand

conflict_back : (kind other : AccessKind) → IsTrue (conflict kind other) → IsTrue (conflict other kind)
conflict_back kind other t = sym (conflict_symmetric kind other) ∙ t
  where
    conflict_symmetric : (kind other : AccessKind) → conflict kind other ≡ conflict other kind
    conflict_symmetric kind other = search rules

module _ (whole : History) (legal : Legal whole) where
  pair_of : (moments : List Moment) → IsOrdered whole moments → HasRaceAmong moments → HasPair whole moments
  pair_of [] o r = absurd r
  pair_of (n ∷ ms) o (inl (m, h, (c, p))) = (
    m,
    n,
    contains-tail n m ms h,
    contains-head n ms,
    c,
    (parallel_stays n.history whole o.0 legal m.access.strand n.access.strand (o.2 m h) o.1).0 p,
  )
  pair_of (n ∷ ms) o (inr r) = let (m, q, h, k, c, p) = pair_of ms o.3 r in (m, q, contains-tail n m ms h, contains-tail n q ms k, c, p)

  race_of : (moments : List Moment) → IsOrdered whole moments → HasPair whole moments → HasRaceAmong moments
  race_of [] o (m, q, h, k, c, p) = absurd (none_in m h)
  race_of (n ∷ ms) o (m, q, h, k, c, p) =
      go (λ a b. race_of ms o.3 (m, q, a, b, c, p)) (contains-cases n m ms h) (contains-cases n q ms k)
    where
      go : (Contains ms m → Contains ms q → HasRaceAmong ms) → (m ≡ n) ⊎ Contains ms m → (q ≡ n) ⊎ Contains ms q → HasRaceAmong (n ∷ ms)
      go older (inl a) (inl b) =
          absurd (p.0 (subst (λ (z : Moment). Reaches whole m.access.strand z.access.strand) (a ∙ sym b) stay))
      go older (inl a) (inr b) = inl (
        q,
        b,
        (
          subst (λ (z : Moment). IsTrue (conflict q.access.kind z.access.kind)) a (conflict_back m.access.kind q.access.kind c),
          (parallel_stays n.history whole o.0 legal q.access.strand n.access.strand (o.2 q b) o.1).1
              (subst (λ (z : Moment). IsParallel whole q.access.strand z.access.strand) a (p.1, p.0)),
        ),
      )
      go older (inr a) (inl b) = inl (
        m,
        a,
        (
          subst (λ (z : Moment). IsTrue (conflict m.access.kind z.access.kind)) b c,
          (parallel_stays n.history whole o.0 legal m.access.strand n.access.strand (o.2 m a) o.1).1
              (subst (λ (z : Moment). IsParallel whole m.access.strand z.access.strand) b p),
        ),
      )
      go older (inr a) (inr b) = inr (older a b)

-- a load is asked for on the second cell, and each other access on the first
some_ask : (location : ℕ) (entries : Entries) (strand : ℕ) (kind : AccessKind) →
    ((g : Kind) → on_first kind ≡ Some g → Accesses entries strand g (first_cell location)) →
    ((g : Kind) → on_second kind ≡ Some g → Accesses entries strand g (second_cell location)) →
    (g : Kind) × (cell : ℕ) × Accesses entries strand g cell
some_ask L E s Read a b = (kind.Read, first_cell L, a kind.Read refl)
some_ask L E s Load a b = (kind.Read, second_cell L, b kind.Read refl)
some_ask L E s Update a b = (kind.Bump, first_cell L, a kind.Bump refl)
some_ask L E s Write a b = (kind.Write, first_cell L, a kind.Write refl)

module _ (shape : Shape) (location : ℕ) where
  told_begun : (entries : Entries) (moments : List Moment) → IsLegal shape entries → Tells location entries moments → (moment : Moment) → Contains moments moment →
      Begun (control_part entries) moment.access.strand
  told_begun E ms l t m h =
      let found = some_ask location E m.access.strand m.access.kind (told_asks on_first (first_cell location) (first_told location t) m h)
      (told_asks on_second (second_cell location) (second_told location t) m h) in
      let asks = found.2 in
      subst (Begun (control_part E)) asks.2 (begun_by shape E l asks.0 asks.1)

  ordered : (whole : History) → {entries : Entries} {moments : List Moment} → IsLegal shape entries → Tells location entries moments →
      Extends whole (control_part entries) → IsOrdered whole moments
  ordered w l told_nothing ext = tt
  ordered w l (told_elsewhere {entries = E} {entry = e} t a b) ext = ordered w l.0 t (extends_earlier w e E ext)
  ordered w l (told_read {entries = E} {moments = ms} {entry = e} t q) ext =
      let ext' = extends_earlier w e E ext in (ext', inl l.1.runs, told_begun E ms l.0 t, ordered w l.0 t ext')
  ordered w l (told_load {entries = E} {moments = ms} {entry = e} t q) ext =
      let ext' = extends_earlier w e E ext in (ext', inl l.1.runs, told_begun E ms l.0 t, ordered w l.0 t ext')
  ordered w l (told_update {entries = E} {moments = ms} {entry = e} t q) ext =
      let ext' = extends_earlier w e E ext in (ext', inl l.1.runs, told_begun E ms l.0 t, ordered w l.0 t ext')
  ordered w l (told_write {entries = E} {moments = ms} {entry = e} {second = d} t q p s) ext =
      let ext' = extends_earlier w e E (extends_earlier w d (e ∷ E) ext) in (ext', inl l.0.1.runs, told_begun E ms l.0.0 t, ordered w l.0.0 t ext')

-- The pairs, cell by cell

racing_kinds : (old new : Option Kind) → AreRacing old new → (g k : Kind) × (old ≡ Some g) × (new ≡ Some k) × (rule_between g k ≡ Race)
racing_kinds (Some g) (Some k) r = (g, k, refl, refl, r)
racing_kinds (Some g) None r = absurd r
racing_kinds None new r = absurd r

race_at : (on : AccessKind → Option Kind) (cell : ℕ) (whole : History) (entries : Entries) (moments : List Moment) → TellsAt on cell entries moments →
    (one other : Moment) → Contains moments one → Contains moments other → AreRacing (on one.access.kind) (on other.access.kind) →
    IsParallel whole one.access.strand other.access.strand → HasRaceAt whole entries cell
race_at on c w E ms t m q h k racing p =
    let (g, i, is, are, rule) = racing_kinds (on m.access.kind) (on q.access.kind) racing in
    (m.access.strand, q.access.strand, g, i, told_asks on c t m h g is, told_asks on c t q k i are, rule, p)

pair_at : (on : AccessKind → Option Kind) (cell : ℕ) (whole : History) (entries : Entries) (moments : List Moment) → TellsAt on cell entries moments →
    HasRaceAt whole entries cell →
    (one other : Moment) × Contains moments one × Contains moments other × AreRacing (on one.access.kind) (on other.access.kind) ×
    IsParallel whole one.access.strand other.access.strand
pair_at on c w E ms t (s, u, g, i, x, y, rule, p) =
    let d = asks_told on c t s g x in
    let f = asks_told on c t u i y in (
      d.moment,
      f.moment,
      d.listed,
      f.listed,
      subst₂ AreRacing (sym d.kind_is) (sym f.kind_is) rule,
      subst₂ (IsParallel w) (sym d.strand_is) (sym f.strand_is) p,
    )

pub gate_law : GateLaw
gate_law shape E judged L ms told = (forward, backward)
  where
    whole : History
    whole = control_part E

    legal : Legal whole
    legal = legal_part shape E judged.legal

    in_order : IsOrdered whole ms
    in_order = ordered shape L whole judged.legal told (extends_self whole)

    forward : HasRaceAmong ms → HasRefusal E (first_cell L) ⊎ HasRefusal E (second_cell L)
    forward race =
        let (m, q, h, k, c, p) = pair_of whole legal ms in_order race in
        elim ((kinds_law m.access.kind q.access.kind).0 c) [
          | inl t ↦ inl ((location_law shape E judged whole (extends_self whole) legal (first_cell L)).1
              (race_at on_first (first_cell L) whole E ms (first_told L told) m q h k t p))
          | inr t ↦ inr ((location_law shape E judged whole (extends_self whole) legal (second_cell L)).1
              (race_at on_second (second_cell L) whole E ms (second_told L told) m q h k t p))
        ]

    backward : HasRefusal E (first_cell L) ⊎ HasRefusal E (second_cell L) → HasRaceAmong ms
    backward (inl r) =
        let race = (location_law shape E judged whole (extends_self whole) legal (first_cell L)).0 r in
        let (m, q, h, k, t, p) = pair_at on_first (first_cell L) whole E ms (first_told L told) race in
        race_of whole legal ms in_order (m, q, h, k, (kinds_law m.access.kind q.access.kind).1 (inl t), p)
    backward (inr r) =
        let race = (location_law shape E judged whole (extends_self whole) legal (second_cell L)).0 r in
        let (m, q, h, k, t, p) = pair_at on_second (second_cell L) whole E ms (second_told L told) race in
        race_of whole legal ms in_order (m, q, h, k, (kinds_law m.access.kind q.access.kind).1 (inr t), p)
