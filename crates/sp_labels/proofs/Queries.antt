-- What a roster says of every history that it follows.
use mathlib.Core.Bool.{beq, not}
use Rattle.std.proofs.Common.{Bool, true, false, IsTrue, ◌≡◌, ◌≢◌, ◌⊎◌, ◌↔◌, inl, inr, ℕ, ◌<◌, List, length, get_or, refl, sym, ap, ◌∙◌, subst, arith}
use Rattle.sp_labels.specs.declared.record.Standing.{Standing}
use Rattle.sp_labels.specs.declared.record.Standing.TheVariants.{Reserved, Awaited, Running as Runs, Over}
use Rattle.sp_labels.specs.declared.record.Record.{Record}
use Rattle.model_strands.specs.History.{History}
use Rattle.model_strands.specs.Strands.{Status, reserved, running, over, unused, Running, Begun}
use Rattle.model_strands.specs.Dag.{Reaches, IsParallel, stay}
use Rattle.law_strands.specs.Addresses.{IsEnglishBefore, IsHebrewBefore}
use Rattle.law_strands.specs.Lists.{english_items, hebrew_items, place_in}
use Rattle.law_strands.proofs.Range.{ranges}
use Rattle.law_strands.proofs.Law.{begun_below}
use Rattle.law_strands.proofs.Lists.{lists_law}
use Rattle.law_strands.proofs.Orders.{orders_law}
use Rattle.order_list.specs.Order.{place_of, IsListing}
use Rattle.order_list.proofs.Places.{get_or-place_of}
use Rattle.sp_labels.specs.Roster.{Roster, Follows, HasBegun, IsStanding, record_at}
use Rattle.sp_labels.proofs.Placed.{place-same}

pub begun-known : (roster : Roster) (history : History) → Follows roster history → (strand : ℕ) → Begun history strand →
    strand < length roster.records
begun-known roster history f strand b = omega (arith, f.count, begun_below history (ranges f.legal) strand b)

not_running : {t : Status} → t ≡ reserved → t ≡ running → ⊥
not_running e g = cc

not_over : {t : Status} → t ≡ reserved → t ≡ over → ⊥
not_over e g = cc

running_not_over : {t : Status} → t ≡ running → t ≡ over → ⊥
running_not_over e g = cc

running-stands : (history : History) (strand : ℕ) (standing : Standing) → IsStanding history strand standing → Running history strand →
    standing ≡ Runs
running-stands history strand Reserved k run = absurd (not_running k.0 run)
running-stands history strand Awaited k run = absurd (not_running k.0 run)
running-stands history strand Runs k run = refl
running-stands history strand Over k run = absurd (running_not_over run k)

-- a strand that runs in one followed history has a record that says so
pub running-known : (roster : Roster) (history : History) → Follows roster history → (strand : ℕ) → Running history strand →
    (strand < length roster.records) × ((record_at roster.records strand).standing ≡ Runs)
running-known roster history f strand run =
    let lt = begun-known roster history f strand (inl run) in
    (lt, running-stands history strand _ (f.each strand lt).standing run)

-- a record that says so is that of a strand that runs in each followed history
pub running-kept : (roster : Roster) (history : History) → Follows roster history → (strand : ℕ) (kept : Record) → strand < length roster.records →
    kept ≡ record_at roster.records strand → kept.standing ≡ Runs → Running history strand
running-kept roster history f strand kept lt is runs =
    subst (IsStanding history strand) (sym (ap (λ (k : Record). k.standing) is) ∙ runs) (f.each strand lt).standing

-- as of one that has begun
pub begun-kept : (roster : Roster) (history : History) → Follows roster history → (strand : ℕ) (kept : Record) → strand < length roster.records →
    kept ≡ record_at roster.records strand → (kept.standing ≡ Runs) ⊎ (kept.standing ≡ Over) → Begun history strand
begun-kept roster history f strand kept lt is (inl runs) = inl (running-kept roster history f strand kept lt is runs)
begun-kept roster history f strand kept lt is (inr ended) =
    inr (subst (IsStanding history strand) (sym (ap (λ (k : Record). k.standing) is) ∙ ended) (f.each strand lt).standing)

-- the standings of strands that have begun
abbrev pub IsBegunStanding : Standing → Type 0
IsBegunStanding Runs = Unit {0}
IsBegunStanding Over = Unit {0}
IsBegunStanding _ = ⊥

begun-stands : (history : History) (strand : ℕ) (standing : Standing) → IsStanding history strand standing → Begun history strand →
    IsBegunStanding standing
begun-stands history strand Reserved k (inl e) = not_running k.0 e
begun-stands history strand Reserved k (inr e) = not_over k.0 e
begun-stands history strand Awaited k (inl e) = not_running k.0 e
begun-stands history strand Awaited k (inr e) = not_over k.0 e
begun-stands history strand Runs k b = tt
begun-stands history strand Over k b = tt

stands-begun : (history : History) (strand : ℕ) (standing : Standing) → IsStanding history strand standing → IsBegunStanding standing →
    Begun history strand
stands-begun history strand Reserved k b = absurd b
stands-begun history strand Awaited k b = absurd b
stands-begun history strand Runs k b = inl k
stands-begun history strand Over k b = inr k

pub begun-standing : (roster : Roster) (history : History) → Follows roster history → (strand : ℕ) → Begun history strand →
    (strand < length roster.records) × IsBegunStanding (record_at roster.records strand).standing
begun-standing roster history f strand b =
    let lt = begun-known roster history f strand b in
    (lt, begun-stands history strand _ (f.each strand lt).standing b)

no-begun-standing : (standing : Standing) → (standing ≡ Runs → ⊥) → (standing ≡ Over → ⊥) → IsBegunStanding standing → ⊥
no-begun-standing Reserved not_runs not_ended b = b
no-begun-standing Awaited not_runs not_ended b = b
no-begun-standing Runs not_runs not_ended b = not_runs refl
no-begun-standing Over not_runs not_ended b = not_ended refl

-- a strand with a record of another standing has not begun
pub not-begun : (roster : Roster) (history : History) → Follows roster history → (strand : ℕ) (kept : Record) → kept ≡ record_at roster.records strand →
    (kept.standing ≡ Runs → ⊥) → (kept.standing ≡ Over → ⊥) → Begun history strand → ⊥
not-begun roster history f strand kept is not_runs not_ended begun =
    no-begun-standing kept.standing not_runs not_ended
    (subst (λ (k : Record). IsBegunStanding k.standing) (sym is) (begun-standing roster history f strand begun).1)

standing-begun : (roster : Roster) (history : History) → Follows roster history → (strand : ℕ) → strand < length roster.records →
    IsBegunStanding (record_at roster.records strand).standing → Begun history strand
standing-begun roster history f strand lt b = stands-begun history strand _ (f.each strand lt).standing b

-- what one followed history says, each says
pub begun-in-each : (roster : Roster) (history : History) → Follows roster history → (strand : ℕ) → HasBegun roster strand → Begun history strand
begun-in-each roster history f strand (other, g, b) =
    let seen = begun-standing roster other g strand b in
    standing-begun roster history f strand seen.0 seen.1

pub has-begun-known : (roster : Roster) (strand : ℕ) → HasBegun roster strand → strand < length roster.records
has-begun-known roster strand (history, f, b) = begun-known roster history f strand b

pub has-begun-english : (roster : Roster) (strand : ℕ) → HasBegun roster strand → strand < length roster.english
has-begun-english roster strand (history, f, b) = omega (arith, f.english.len, begun-known roster history f strand b)

pub has-begun-hebrew : (roster : Roster) (strand : ℕ) → HasBegun roster strand → strand < length roster.hebrew
has-begun-hebrew roster strand (history, f, b) = omega (arith, f.hebrew.len, begun-known roster history f strand b)

placed : (items : List ℕ) (a b : ℕ) (P : Type 0) → ((place_in a items < place_in b items) ↔ P) → (place_of a items < place_of b items) ↔ P
placed items a b P law =
    let ea : place_in a items ≡ place_of a items = place-same a items in
    let eb : place_in b items ≡ place_of b items = place-same b items in
    ((λ l. law.0 (omega arith)), (λ p. let l : place_in a items < place_in b items = law.1 p in omega arith))

pub english-tells : (roster : Roster) (history : History) → Follows roster history → (a b : ℕ) → HasBegun roster a → HasBegun roster b →
    (place_of a roster.english < place_of b roster.english) ↔ IsEnglishBefore history a b
english-tells roster history f a b begun_a begun_b =
    let known : (x : ℕ) → HasBegun roster x → x < unused history = λ x bx. omega (arith, f.count, has-begun-known roster x bx) in
    let law = (lists_law history f.legal a b (known a begun_a) (known b begun_b)).0 in
    rw (sym f.english.same) at (placed (english_items history) a b (IsEnglishBefore history a b) law)

pub hebrew-tells : (roster : Roster) (history : History) → Follows roster history → (a b : ℕ) → HasBegun roster a → HasBegun roster b →
    (place_of a roster.hebrew < place_of b roster.hebrew) ↔ IsHebrewBefore history a b
hebrew-tells roster history f a b begun_a begun_b =
    let known : (x : ℕ) → HasBegun roster x → x < unused history = λ x bx. omega (arith, f.count, has-begun-known roster x bx) in
    let law = (lists_law history f.legal a b (known a begun_a) (known b begun_b)).1 in
    rw (sym f.hebrew.same) at (placed (hebrew_items history) a b (IsHebrewBefore history a b) law)

apart_places : (items : List ℕ) (x y : ℕ) → IsListing items → x < length items → y < length items → x ≢ y → place_of x items ≢ place_of y items
apart_places items x y listing hx hy ne e = ne (sym (get_or-place_of x items (listing x hx)) ∙ ap (λ i. get_or items i 0) e ∙ get_or-place_of y items (listing y hy))

english-differ : (roster : Roster) (history : History) → Follows roster history → (a b : ℕ) → HasBegun roster a → HasBegun roster b →
    IsEnglishBefore history a b → a ≢ b
english-differ roster history f a b has_a has_b l e =
    let before = (english-tells roster history f a b has_a has_b).1 l in
    let same : place_of a roster.english ≡ place_of b roster.english = ap (λ x. place_of x roster.english) e in
    omega arith

english-not-both : (roster : Roster) (history : History) → Follows roster history → (a b : ℕ) → HasBegun roster a → HasBegun roster b →
    IsEnglishBefore history b a → IsEnglishBefore history a b → ⊥
english-not-both roster history f a b has_a has_b back l =
    let before = (english-tells roster history f a b has_a has_b).1 l in
    let behind = (english-tells roster history f b a has_b has_a).1 back in
    omega arith

english-back : (roster : Roster) (history : History) → Follows roster history → (a b : ℕ) → HasBegun roster a → HasBegun roster b → a ≢ b →
    (IsEnglishBefore history a b → ⊥) → IsEnglishBefore history b a
english-back roster history f a b has_a has_b ne none =
    let apart = apart_places roster.english a b f.english.listing (has-begun-english roster a has_a) (has-begun-english roster b has_b) ne in
    let not_before : (place_of a roster.english < place_of b roster.english) → ⊥ = λ l. none ((english-tells roster history f a b has_a has_b).0 l) in
    (english-tells roster history f b a has_b has_a).0 (grind (arith, apart, not_before))

hebrew-differ : (roster : Roster) (history : History) → Follows roster history → (a b : ℕ) → HasBegun roster a → HasBegun roster b →
    IsHebrewBefore history a b → a ≢ b
hebrew-differ roster history f a b has_a has_b l e =
    let before = (hebrew-tells roster history f a b has_a has_b).1 l in
    let same : place_of a roster.hebrew ≡ place_of b roster.hebrew = ap (λ x. place_of x roster.hebrew) e in
    omega arith

hebrew-not-both : (roster : Roster) (history : History) → Follows roster history → (a b : ℕ) → HasBegun roster a → HasBegun roster b →
    IsHebrewBefore history b a → IsHebrewBefore history a b → ⊥
hebrew-not-both roster history f a b has_a has_b back l =
    let before = (hebrew-tells roster history f a b has_a has_b).1 l in
    let behind = (hebrew-tells roster history f b a has_b has_a).1 back in
    omega arith

hebrew-back : (roster : Roster) (history : History) → Follows roster history → (a b : ℕ) → HasBegun roster a → HasBegun roster b → a ≢ b →
    (IsHebrewBefore history a b → ⊥) → IsHebrewBefore history b a
hebrew-back roster history f a b has_a has_b ne none =
    let apart = apart_places roster.hebrew a b f.hebrew.listing (has-begun-hebrew roster a has_a) (has-begun-hebrew roster b has_b) ne in
    let not_before : (place_of a roster.hebrew < place_of b roster.hebrew) → ⊥ = λ l. none ((hebrew-tells roster history f a b has_a has_b).0 l) in
    (hebrew-tells roster history f b a has_b has_a).0 (grind (arith, apart, not_before))

-- both orders have a before b
pub precedes-tells : (roster : Roster) (history : History) → Follows roster history → (a b : ℕ) → HasBegun roster a → HasBegun roster b →
    IsEnglishBefore history a b × IsHebrewBefore history a b ↔ Reaches history a b × (a ≢ b)
precedes-tells roster history f a b has_a has_b =
    let begun_a = begun-in-each roster history f a has_a in
    let begun_b = begun-in-each roster history f b has_b in (
      (λ t. let ne = english-differ roster history f a b has_a has_b t.0 in ((orders_law history f.legal a b begun_a begun_b ne).0.1 t, ne)),
      (λ t. (orders_law history f.legal a b begun_a begun_b t.1).0.0 t.0),
    )

-- one of the two orders has a before b, and the other doesn't
pub parallel-tells : (roster : Roster) (history : History) → Follows roster history → (a b : ℕ) → HasBegun roster a → HasBegun roster b →
    (IsEnglishBefore history a b × (IsHebrewBefore history a b → ⊥)) ⊎ ((IsEnglishBefore history a b → ⊥) × IsHebrewBefore history a b) ↔ IsParallel history a b
parallel-tells roster history f a b has_a has_b =
    let law = orders_law history f.legal a b (begun-in-each roster history f a has_a) (begun-in-each roster history f b has_b) in (
      (λ t. elim t [
        | inl (l, none) ↦ let ne = english-differ roster history f a b has_a has_b l in (law ne).1.1 (inl (l, hebrew-back roster history f a b has_a has_b ne none))
        | inr (none, l) ↦ let ne = hebrew-differ roster history f a b has_a has_b l in (law ne).1.1 (inr (english-back roster history f a b has_a has_b ne none, l))
      ]),
      (λ p. let ne : a ≢ b = λ e. p.0 (subst (λ x. Reaches history a x) e stay) in
          elim ((law ne).1.0 p) [
            | inl (l, m) ↦ inl (l, hebrew-not-both roster history f a b has_a has_b m)
            | inr (l, m) ↦ inr (english-not-both roster history f a b has_a has_b l, m)
          ]),
    )

pub differ-tells : (x y : Bool) (P Q : Type 0) → (IsTrue x ↔ P) → (IsTrue y ↔ Q) → IsTrue (not (beq x y)) ↔ (P × (Q → ⊥)) ⊎ ((P → ⊥) × Q)
differ-tells true true P Q p q = ((λ e. absurd (cc)), (λ t. elim t [ inl u ↦ absurd (u.1 (q.0 refl)) | inr u ↦ absurd (u.0 (p.0 refl)) ]))
differ-tells true false P Q p q = ((λ e. inl (p.0 refl, (λ k. let e2 = q.1 k in cc))), (λ t. refl))
differ-tells false true P Q p q = ((λ e. inr ((λ k. let e2 = p.1 k in cc), q.0 refl)), (λ t. refl))
differ-tells false false P Q p q = ((λ e. absurd (cc)), (λ t. elim t [ inl u ↦ let e2 = p.1 u.0 in absurd (cc) | inr u ↦ let e2 = q.1 u.1 in absurd (cc) ]))
