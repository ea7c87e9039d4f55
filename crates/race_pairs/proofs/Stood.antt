-- Where a strand has stood, turn by turn back.
use Rattle.std.proofs.Common.{◌≡◌, ◌⊎◌, inl, inr, ℕ, suc, ◌-◌, ◌<◌, ◌≤◌, List, [], ◌∷◌, ◌++◌, length, get_or, refl, sym, subst, arith}
use Rattle.law_strands.proofs.Places.{below_or_beyond}
use Rattle.model_histories.specs.Entries.{Entries}
use Rattle.race_pairs.specs.declared.kept.Frame.{Frame}
use Rattle.race_pairs.specs.declared.kept.Turn.{Turn}
use Rattle.race_pairs.specs.declared.kept.Strand.{Strand}
use Rattle.race_pairs.specs.Makers.{maker}
use Rattle.race_pairs.specs.Frames.{frames}
use Rattle.race_pairs.specs.Lineages.{Beginning, Encloses, outermost, IsNumberAt, Begins, Stands, Stood, begun, turned, HasStood, AreKept}
use Rattle.race_pairs.proofs.Places.{no_strand, place_within, item_at, at_index}
use Rattle.race_pairs.proofs.Framed.{none_before}

module _ (opened : List Frame) (turns : List Turn) (entries : Entries) (b : Beginning) where
  -- one turn back
  pub record Back (place until : ℕ) (turn : Turn) : Type 0 where
    pub within : place - 1 < length turns
    pub back : turn.before < place
    pub earlier : turn.number < until
    pub stands : Stands opened entries b.strand turn.number until turn.frame
    pub rest : Stood opened turns entries b turn.before turn.number

  pub turn_back : (place until : ℕ) → Stood opened turns entries b place until → (place ≡ 0 → ⊥) → (d : Turn) → Back place until (get_or turns (place - 1) d)
  turn_back place until (begun lt stands none) some d = absurd (some refl)
  turn_back place until (turned {turn = turn} here back earlier stands rest) some d =
      subst (Back place until) (sym (item_at turns place turn d here)) (record {
        within = place_within turns place turn here;
        back = back;
        earlier = earlier;
        stands = stands;
        rest = rest;
      })

  -- before all turns
  pub record First (until : ℕ) : Type 0 where
    pub earlier : b.made < until
    pub stands : Stands opened entries b.strand b.made until b.first
    pub none : (later earlier : Entries) → later ++ earlier ≡ entries → length earlier < b.made → frames earlier b.strand ≡ []

  pub turns_over : (place until : ℕ) → Stood opened turns entries b place until → place ≡ 0 → First until
  turns_over place until (begun lt stands none) over = record { earlier = lt; stands = stands; none = none }
  turns_over place until (turned {turn = turn} here back earlier stands rest) over = absurd (omega (arith, back, over))

-- what is known of a strand in a list
pub strand_stood : (opened : List Frame) (turns : List Turn) (strands : List Strand) (entries : Entries) → AreKept opened turns strands entries →
    (strand : ℕ) → strand < length strands → (d : Strand) → HasStood opened turns entries strand (get_or strands strand d)
strand_stood opened turns strands entries kept strand known d = kept.stood strand (get_or strands strand d) (at_index strands strand d known)

pub strand_made : (opened : List Frame) (turns : List Turn) (strands : List Strand) (entries : Entries) → AreKept opened turns strands entries →
    (strand : ℕ) → strand < length strands → (d : Strand) → IsNumberAt opened (get_or strands strand d).maker (maker entries strand)
strand_made opened turns strands entries kept strand known d = kept.made.each strand (get_or strands strand d) (at_index strands strand d known)

-- Where it stands now.

pub now_first : (opened : List Frame) (turns : List Turn) (strands : List Strand) (entries : Entries) → AreKept opened turns strands entries →
    (strand : ℕ) → strand < length strands → (d : Strand) → (get_or strands strand d).turn ≡ 0 → (place : ℕ) →
    ((first : ℕ) → Begins opened strand (get_or strands strand d).maker first → place ≡ first) → Encloses opened place (frames entries strand)
now_first opened turns strands entries kept strand known d none place is =
    let stood = strand_stood opened turns strands entries kept strand known d in
    let at_first = turns_over opened turns entries (record { strand = strand; made = maker entries strand; first = stood.first }) (get_or strands strand d).turn (suc (length entries)) stood.stood none in
    subst (λ (p : ℕ). Encloses opened p (frames entries strand)) (sym (is stood.first stood.begins))
    (at_first.stands [] entries refl (omega (arith, at_first.earlier)) (omega arith))

pub now_turn : (opened : List Frame) (turns : List Turn) (strands : List Strand) (entries : Entries) → AreKept opened turns strands entries →
    (strand : ℕ) → strand < length strands → (d : Strand) (e : Turn) → ((get_or strands strand d).turn ≡ 0 → ⊥) →
    ((get_or strands strand d).turn - 1 < length turns) ×
    Encloses opened (get_or turns ((get_or strands strand d).turn - 1) e).frame (frames entries strand)
now_turn opened turns strands entries kept strand known d e some =
    let stood = strand_stood opened turns strands entries kept strand known d in
    let at_last = turn_back opened turns entries (record { strand = strand; made = maker entries strand; first = stood.first }) (get_or strands strand d).turn (suc (length entries)) stood.stood some e in
    (at_last.within, at_last.stands [] entries refl (omega (arith, at_last.earlier)) (omega arith))

-- Where it stood before an entry.

-- where a strand stood is sought, before the entry with a number, and its maker has this place
pub record Sought : Type 0 where
  pub strand : ℕ
  pub number : ℕ
  pub maker : ℕ

abbrev pub sought_of : ℕ → ℕ → List Strand → Sought
sought_of strand number strands = record { strand = strand; number = number; maker = (get_or strands strand no_strand).maker }

-- the turns that are left were all it had before that entry
pub record Reached (opened : List Frame) (turns : List Turn) (entries : Entries) (sought : Sought) (at : ℕ) : Type 0 where
  pub first : ℕ
  pub begins : Begins opened sought.strand sought.maker first
  pub made_is : IsNumberAt opened sought.maker (maker entries sought.strand)
  pub until : ℕ
  pub stood : Stood opened turns entries (record { strand = sought.strand; made = maker entries sought.strand; first = first }) at until
  pub short : (later earlier : Entries) → later ++ earlier ≡ entries → sought.number ≡ suc (length earlier) → length earlier < until

pub reached_first : (opened : List Frame) (turns : List Turn) (strands : List Strand) (entries : Entries) → AreKept opened turns strands entries →
    (strand : ℕ) → strand < length strands → (d : Strand) (number : ℕ) →
    Reached opened turns entries (record { strand = strand; number = number; maker = (get_or strands strand d).maker }) (get_or strands strand d).turn
reached_first opened turns strands entries kept strand known d number =
    let stood = strand_stood opened turns strands entries kept strand known d in
    record {
      first = stood.first;
      begins = stood.begins;
      made_is = strand_made opened turns strands entries kept strand known d;
      until = suc (length entries);
      stood = stood.stood;
      short = λ later earlier is n. shorter later earlier entries is;
    }
  where
    shorter : (later earlier whole : Entries) → later ++ earlier ≡ whole → length earlier < suc (length whole)
    shorter later earlier whole is = subst (λ (xs : Entries). length earlier < suc (length xs)) is (at_most later earlier)
      where
        at_most : (later earlier : Entries) → length earlier < suc (length (later ++ earlier))
        at_most [] earlier = omega arith
        at_most (x ∷ later) earlier = omega (arith, at_most later earlier)

pub reached_back : (opened : List Frame) (turns : List Turn) (entries : Entries) (sought : Sought) (at : ℕ) →
    Reached opened turns entries sought at → (at ≡ 0 → ⊥) → (d : Turn) → sought.number ≤ (get_or turns (at - 1) d).number →
    Reached opened turns entries sought (get_or turns (at - 1) d).before
reached_back opened turns entries sought at reached some d late =
    let back = turn_back opened turns entries (record { strand = sought.strand; made = maker entries sought.strand; first = reached.first }) at reached.until reached.stood some d in
    record {
      first = reached.first;
      begins = reached.begins;
      made_is = reached.made_is;
      until = (get_or turns (at - 1) d).number;
      stood = back.rest;
      short = λ later earlier is n. omega (arith, late, n);
    }

pub reached_turn : (opened : List Frame) (turns : List Turn) (entries : Entries) (sought : Sought) (at : ℕ) →
    Reached opened turns entries sought at → (at ≡ 0 → ⊥) → (d : Turn) →
    (at - 1 < length turns) × ((get_or turns (at - 1) d).before < at)
reached_turn opened turns entries sought at reached some d =
    let back = turn_back opened turns entries (record { strand = sought.strand; made = maker entries sought.strand; first = reached.first }) at reached.until reached.stood some d in
    (back.within, back.back)

pub reached_place : (opened : List Frame) (turns : List Turn) (entries : Entries) (sought : Sought) (at : ℕ) →
    Reached opened turns entries sought at → (at ≡ 0 → ⊥) → (d : Turn) → (get_or turns (at - 1) d).number < sought.number →
    (later earlier : Entries) → later ++ earlier ≡ entries → sought.number ≡ suc (length earlier) →
    Encloses opened (get_or turns (at - 1) d).frame (frames earlier sought.strand)
reached_place opened turns entries sought at reached some d lower later earlier is n =
    let back = turn_back opened turns entries (record { strand = sought.strand; made = maker entries sought.strand; first = reached.first }) at reached.until reached.stood some d in
    back.stands later earlier is (omega (arith, lower, n)) (reached.short later earlier is n)

pub reached_begin : (opened : List Frame) (turns : List Turn) (entries : Entries) (sought : Sought) (at : ℕ) →
    Reached opened turns entries sought at → at ≡ 0 → (place : ℕ) →
    ((first made : ℕ) → Begins opened sought.strand sought.maker first → IsNumberAt opened sought.maker made → made < sought.number → place ≡ first) →
    ((made : ℕ) → IsNumberAt opened sought.maker made → sought.number ≤ made → place ≡ 0) →
    (later earlier : Entries) → later ++ earlier ≡ entries → sought.number ≡ suc (length earlier) → Encloses opened place (frames earlier sought.strand)
reached_begin opened turns entries sought at reached over place is_first is_none later earlier is n =
    go (below_or_beyond (maker entries sought.strand) sought.number)
  where
    at_first : First opened turns entries (record { strand = sought.strand; made = maker entries sought.strand; first = reached.first }) reached.until
    at_first = turns_over opened turns entries (record { strand = sought.strand; made = maker entries sought.strand; first = reached.first }) at reached.until reached.stood over

    go : (maker entries sought.strand < sought.number) ⊎ (sought.number ≤ maker entries sought.strand) → Encloses opened place (frames earlier sought.strand)
    go (inl lower) =
        subst (λ (p : ℕ). Encloses opened p (frames earlier sought.strand)) (sym (is_first reached.first (maker entries sought.strand) reached.begins reached.made_is lower))
        (at_first.stands later earlier is (omega (arith, lower, n)) (reached.short later earlier is n))
    go (inr beyond) =
        let no_frames : frames earlier sought.strand ≡ [] = at_first.none later earlier is (omega (arith, beyond, n)) in
        subst (λ (p : ℕ). Encloses opened p (frames earlier sought.strand)) (sym (is_none (maker entries sought.strand) reached.made_is beyond))
        (subst (Encloses opened 0) (sym no_frames) outermost)

-- a strand that is in no list had no frames
pub reached_none : (opened : List Frame) (turns : List Turn) (strands : List Strand) (strand : ℕ) → length strands ≤ strand → (later earlier : Entries) →
    AreKept opened turns strands (later ++ earlier) → Encloses opened 0 (frames earlier strand)
reached_none opened turns strands strand beyond later earlier kept =
    let none = none_before later earlier kept.made.legal strand (omega (arith, kept.made.len, beyond)) in
    subst (Encloses opened 0) (sym none) outermost
