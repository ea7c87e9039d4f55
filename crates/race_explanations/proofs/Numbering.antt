-- Groups of findings with one finding more.
use Rattle.std.proofs.Common.{◌≡◌, ℕ, zero, suc, ◌+◌, ◌<◌, ◌≤◌, Bool, true, false, ◌||◌, ◌&&◌, cond, nat_lt, List, [], ◌∷◌, ◌++◌, length, map, set, get_or, Option, Some, None, refl, sym, ap, ap₂, ◌∙◌, subst, arith, append_assoc, append-nil, lt-ltb, le-ltb, bytes_eq, BTreeMap, Bor, nat_cmp, if◌then◌else◌}
use Rattle.std.specs.Cmp.Lexicographic.{slice_cmp}
use Rattle.std.specs.Option.{option_map}
use Rattle.std.specs.Global.{Vec}
use Rattle.std.specs.Map.{lookup}
use Rattle.std.specs.BTreeMap.{UpdatesBy, is_at}
use Rattle.std.proofs.lemmas.List.{length-map}
use Rattle.std.proofs.lemmas.Map.Text.{btree_map_updates_str}
use Rattle.std.proofs.lemmas.Slice.Eq.{bytes_eq-Decides}
use Rattle.race_explanations.specs.declared.lead.Lead.{Lead}
use Rattle.race_explanations.specs.declared.finding.Finding.{Finding}
use Rattle.race_explanations.specs.ToldPlaces.{place_of}
use Rattle.race_explanations.specs.FoundGroups.{lead_at, is_one_spawn, are_of_one_spawn, is_joined, joined_at, joined_behind, groups_among, groups_of}
use Rattle.race_explanations.specs.GroupNumbers.{with_member, is_of_spawn, with_place, is_told_so, parts_at, number_at, AreNumbersOf}
use Rattle.race_explanations.proofs.FoundGrouping.{items_of}
use Rattle.race_explanations.proofs.Placing.{place_same, place_kept, place_below}

-- a group with one member more
pub member_more : (groups : List (Vec ℕ)) (number place : ℕ) (one d : Vec ℕ) → one.items ≡ (get_or groups number d).items ++ place ∷ [] →
    map items_of (set groups number one) ≡ with_member (map items_of groups) number place
member_more [] number place one d is = refl
member_more (group ∷ groups) zero place one d is = ap (λ some. some ∷ map items_of groups) is
member_more (group ∷ groups) (suc number) place one d is = ap (λ some. group.items ∷ some) (member_more groups number place one d is)

-- one group more
pub group_more : (groups new : List (Vec ℕ)) (place : ℕ) (one : Vec ℕ) → one.items ≡ place ∷ [] → new ≡ groups ++ one ∷ [] →
    map items_of new ≡ map items_of groups ++ (place ∷ []) ∷ []
group_more groups new place one is more = ap (map items_of) more ∙ by groups
  where
    by : (groups : List (Vec ℕ)) → map items_of (groups ++ one ∷ []) ≡ map items_of groups ++ (place ∷ []) ∷ []
    by [] = ap (λ some. some ∷ []) is
    by (group ∷ groups) = ap (λ some. group.items ∷ some) (by groups)

module _ (findings : List Finding) where
  -- ---- by the numbers that are kept

  -- the spawn of the finding at a place
  module _ (place : ℕ) (lead : Lead) (at : lead_at findings place ≡ Some lead) where
    with_lead : (one : Option Lead) → is_one_spawn one (Some lead) ≡ is_told_so one lead.spawn.items
    with_lead (Some one) = refl
    with_lead None = refl

    of_spawn : (group : List ℕ) → is_of_spawn findings group place ≡ parts_at findings group lead.spawn.items
    of_spawn [] = refl
    of_spawn (first ∷ group) = ap (is_one_spawn (lead_at findings first)) at ∙ with_lead (lead_at findings first)

    pub joins_group : (groups : List (List ℕ)) (number : ℕ) → place_of (parts_at findings) groups lead.spawn.items ≡ Some number →
        with_member groups number place ≡ with_place findings groups place
    joins_group [] number e = cc
    joins_group (group ∷ groups) number e =
        by (parts_at findings group lead.spawn.items) (place_of (parts_at findings) groups lead.spawn.items) refl e (joins_group groups) ∙
        ap (λ b. cond b ((group ++ place ∷ []) ∷ groups) (group ∷ with_place findings groups place)) (sym (of_spawn group))
      where
        by : (b : Bool) (behind : Option ℕ) → place_of (parts_at findings) groups lead.spawn.items ≡ behind →
            cond b (Some 0) (option_map suc behind) ≡ Some number →
            ((number : ℕ) → place_of (parts_at findings) groups lead.spawn.items ≡ Some number →
            with_member groups number place ≡ with_place findings groups place) →
            with_member (group ∷ groups) number place ≡ cond b ((group ++ place ∷ []) ∷ groups) (group ∷ with_place findings groups place)
        by true behind at e rest =
            let is : 0 ≡ number = cc in
            subst (λ n. with_member (group ∷ groups) n place ≡ (group ++ place ∷ []) ∷ groups) is refl
        by false None at e rest = cc
        by false (Some behind) at e rest =
            let is : suc behind ≡ number = cc in
            subst (λ n. with_member (group ∷ groups) n place ≡ group ∷ with_place findings groups place) is
            (ap (λ some. group ∷ some) (rest behind at))

    pub begins_group : (groups : List (List ℕ)) → place_of (parts_at findings) groups lead.spawn.items ≡ None →
        groups ++ (place ∷ []) ∷ [] ≡ with_place findings groups place
    begins_group [] e = refl
    begins_group (group ∷ groups) e =
        by (parts_at findings group lead.spawn.items) (place_of (parts_at findings) groups lead.spawn.items) refl e (begins_group groups) ∙
        ap (λ b. cond b ((group ++ place ∷ []) ∷ groups) (group ∷ with_place findings groups place)) (sym (of_spawn group))
      where
        by : (b : Bool) (behind : Option ℕ) → place_of (parts_at findings) groups lead.spawn.items ≡ behind →
            cond b (Some 0) (option_map suc behind) ≡ None →
            (place_of (parts_at findings) groups lead.spawn.items ≡ None → groups ++ (place ∷ []) ∷ [] ≡ with_place findings groups place) →
            group ∷ groups ++ (place ∷ []) ∷ [] ≡ cond b ((group ++ place ∷ []) ∷ groups) (group ∷ with_place findings groups place)
        by true behind at e rest = cc
        by false (Some behind) at e rest = cc
        by false None at e rest = ap (λ some. group ∷ some) (rest at)

    -- the numbers with that of a new group
    pub numbers_begun : (groups : List (List ℕ)) (spawn : List ℕ) (count : ℕ) (old new : BTreeMap (Bor (List ℕ)) ℕ) → spawn ≡ lead.spawn.items →
        AreNumbersOf findings groups old → number_at old spawn ≡ None → count ≡ length groups →
        UpdatesBy (λ (x y : Bor (List ℕ)). slice_cmp nat_cmp x.now y.now) (λ (key : Bor (List ℕ)). slice_cmp nat_cmp spawn key.now) old new (Some count) →
        AreNumbersOf findings (groups ++ (place ∷ []) ∷ []) new
    numbers_begun groups spawn count old new told before none long updates other =
        place_kept (parts_at findings) groups (place ∷ []) other count (number_at old other) (number_at new other) (before other)
        (btree_map_updates_str spawn old new (Some count) updates other ∙ ap (λ b. cond b (Some count) (number_at old other)) (sym own)) long
        (λ e. ap (place_of (parts_at findings) groups) (sym ((bytes_eq-Decides spawn other).0 (sym own ∙ e))) ∙ sym (before spawn) ∙ none)
      where
        own : parts_at findings (place ∷ []) other ≡ bytes_eq spawn other
        own = ap (λ one. is_told_so one other) at ∙ ap (λ text. bytes_eq text other) (sym told)

  -- what is found at a place, and by the numbers
  pub lead_found : (place : ℕ) (found : Option (Bor Lead)) (lead : Bor Lead) → option_map (λ (one : Bor Lead). one.now) found ≡ lead_at findings place →
      found ≡ Some lead → lead_at findings place ≡ Some lead.now
  lead_found place found lead is at = sym is ∙ ap (option_map (λ (one : Bor Lead). one.now)) at

  pub lead_absent : (place : ℕ) (found : Option (Bor Lead)) → option_map (λ (one : Bor Lead). one.now) found ≡ lead_at findings place →
      found ≡ None → lead_at findings place ≡ None
  lead_absent place found is at = sym is ∙ ap (option_map (λ (one : Bor Lead). one.now)) at

  pub number_found : (groups : List (List ℕ)) (numbers : BTreeMap (Bor (List ℕ)) ℕ) (spawn text : List ℕ) (found answer : Option ℕ) →
      AreNumbersOf findings groups numbers → text ≡ spawn → found ≡ number_at numbers text → found ≡ answer →
      place_of (parts_at findings) groups spawn ≡ answer
  number_found groups numbers spawn text found answer are told is at = sym (are spawn) ∙ ap (number_at numbers) (sym told) ∙ sym is ∙ at

  pub group_within : (groups : List (Vec ℕ)) (spawn : List ℕ) (number : ℕ) → place_of (parts_at findings) (map items_of groups) spawn ≡ Some number →
      number < length groups
  group_within groups spawn number e =
      let below = place_below (parts_at findings) (map items_of groups) spawn number e in omega (arith, below, length-map groups items_of)

  -- the numbers where a group has one member more
  pub numbers_joined : (groups : List (List ℕ)) (place number : ℕ) (spawn : List ℕ) → place_of (parts_at findings) groups spawn ≡ Some number →
      (other : List ℕ) → place_of (parts_at findings) (with_member groups number place) other ≡ place_of (parts_at findings) groups other
  numbers_joined [] place number spawn e other = cc
  numbers_joined (group ∷ groups) place number spawn e other =
      by group number (parts_at findings group spawn) refl (place_of (parts_at findings) groups spawn) refl e
      (λ number found. numbers_joined groups place number spawn found other)
    where
      by : (group : List ℕ) (number : ℕ) (b : Bool) → parts_at findings group spawn ≡ b → (behind : Option ℕ) →
          place_of (parts_at findings) groups spawn ≡ behind → cond b (Some 0) (option_map suc behind) ≡ Some number →
          ((number : ℕ) → place_of (parts_at findings) groups spawn ≡ Some number →
          place_of (parts_at findings) (with_member groups number place) other ≡ place_of (parts_at findings) groups other) →
          place_of (parts_at findings) (with_member (group ∷ groups) number place) other ≡ place_of (parts_at findings) (group ∷ groups) other
      by [] zero true parts behind at e rest = cc
      by (first ∷ group) zero true parts behind at e rest = refl
      by group (suc number) true parts behind at e rest = (let is : 0 ≡ suc number = cc in absurd (omega (arith, is)))
      by group number false parts None at e rest = cc
      by group zero false parts (Some behind) at e rest = (let is : suc behind ≡ zero = cc in absurd (omega (arith, is)))
      by group (suc number) false parts (Some behind) at e rest =
          let is : behind ≡ number = cc in
          ap (λ found. cond (parts_at findings group other) (Some 0) (option_map suc found)) (rest number (at ∙ ap Some is))

  -- a finding that parts at no spawn
  module _ (place : ℕ) (at : lead_at findings place ≡ None) where
    no_spawn : (one : Option Lead) → is_one_spawn one None ≡ false
    no_spawn (Some one) = refl
    no_spawn None = refl

    not_of_spawn : (group : List ℕ) → is_of_spawn findings group place ≡ false
    not_of_spawn [] = refl
    not_of_spawn (first ∷ group) = ap (is_one_spawn (lead_at findings first)) at ∙ no_spawn (lead_at findings first)

    pub is_alone : (groups : List (List ℕ)) → groups ++ (place ∷ []) ∷ [] ≡ with_place findings groups place
    is_alone [] = refl
    is_alone (group ∷ groups) =
        ap (λ some. group ∷ some) (is_alone groups) ∙
        ap (λ b. cond b ((group ++ place ∷ []) ∷ groups) (group ∷ with_place findings groups place)) (sym (not_of_spawn group))

    pub numbers_alone : (groups : List (List ℕ)) (numbers : BTreeMap (Bor (List ℕ)) ℕ) → AreNumbersOf findings groups numbers →
        AreNumbersOf findings (groups ++ (place ∷ []) ∷ []) numbers
    numbers_alone groups numbers before spawn =
        before spawn ∙ sym (place_same (parts_at findings) groups (place ∷ []) spawn (ap (λ one. is_told_so one spawn) at))

  pub numbers_none : (groups : List (Vec ℕ)) (numbers : BTreeMap (Bor (List ℕ)) ℕ) → groups ≡ [] → numbers.entries ≡ [] →
      AreNumbersOf findings (map items_of groups) numbers
  numbers_none groups numbers none empty spawn =
      ap (lookup (is_at (λ (key : Bor (List ℕ)). slice_cmp nat_cmp spawn key.now))) empty ∙
      ap (λ some. place_of (parts_at findings) (map items_of some) spawn) (sym none)

  -- ---- the groups so far

  abbrev begun : (limit count : ℕ) → List (List ℕ)
  begun limit count = if is_joined findings count count then [] else (count ∷ joined_behind findings limit count) ∷ []

  -- the groups that the first so many findings begin, with those below a limit
  abbrev pub groups_below : (limit count : ℕ) → List (List ℕ)
  groups_below limit zero = []
  groups_below limit (suc count) = groups_below limit count ++ begun limit count

  all_below : (count : ℕ) → groups_below (length findings) count ≡ groups_among findings count
  all_below zero = refl
  all_below (suc count) = ap (λ some. some ++ begun (length findings) count) (all_below count)

  -- the groups with one finding more
  module _ (last : ℕ) where
    -- spawns that are told alike
    one_spawn : (one other another : Option Lead) → is_one_spawn one other ≡ true → is_one_spawn another one ≡ is_one_spawn another other
    one_spawn (Some one) (Some other) (Some another) e =
        ap (bytes_eq another.spawn.items) ((bytes_eq-Decides one.spawn.items other.spawn.items).0 e)
    one_spawn (Some one) (Some other) None e = refl
    one_spawn (Some one) None another e = cc
    one_spawn None other another e = cc

    same_joined : (one : ℕ) → are_of_one_spawn findings one last ≡ true → (count : ℕ) → is_joined findings count one ≡ is_joined findings count last
    same_joined one e zero = refl
    same_joined one e (suc count) =
        ap₂ (λ a b. a || b) (same_joined one e count) (one_spawn (lead_at findings one) (lead_at findings last) (lead_at findings count) e)

    -- the group of one that parts elsewhere
    apart_joined : (count : ℕ) → are_of_one_spawn findings count last ≡ false → joined_at findings count last ≡ []
    apart_joined count apart = by (nat_lt count last) (are_of_one_spawn findings count last) apart
      where
        by : (a b : Bool) → b ≡ false → (if a && b then last ∷ [] else []) ≡ []
        by true false e = refl
        by false false e = refl
        by true true e = cc
        by false true e = cc

    begun_apart : (count : ℕ) → are_of_one_spawn findings count last ≡ false → begun (suc last) count ≡ begun last count
    begun_apart count apart =
        ap (λ some. if is_joined findings count count then [] else (count ∷ some) ∷ [])
        (ap (λ some. joined_behind findings last count ++ some) (apart_joined count apart) ∙ append-nil (joined_behind findings last count))

    begun_joined : (limit count : ℕ) → is_joined findings count count ≡ true → begun limit count ≡ []
    begun_joined limit count e = ap (λ b. if b then [] else (count ∷ joined_behind findings limit count) ∷ []) e

    begun_first : (limit count : ℕ) → is_joined findings count count ≡ false → begun limit count ≡ (count ∷ joined_behind findings limit count) ∷ []
    begun_first limit count e = ap (λ b. if b then [] else (count ∷ joined_behind findings limit count) ∷ []) e

    past_apart : (count : ℕ) (tail : List (List ℕ)) → are_of_one_spawn findings count last ≡ false →
        with_place findings (begun last count ++ tail) last ≡ begun last count ++ with_place findings tail last
    past_apart count tail apart = by (is_joined findings count count)
      where
        by : (b : Bool) →
            with_place findings ((if b then [] else (count ∷ joined_behind findings last count) ∷ []) ++ tail) last ≡
            (if b then [] else (count ∷ joined_behind findings last count) ∷ []) ++ with_place findings tail last
        by true = refl
        by false =
            ap (λ b. cond b (((count ∷ joined_behind findings last count) ++ last ∷ []) ∷ tail)
            ((count ∷ joined_behind findings last count) ∷ with_place findings tail last)) apart

    neither : (a b : Bool) → (a || b) ≡ false → (a ≡ false) × (b ≡ false)
    neither false false e = (refl, refl)
    neither true b e = cc
    neither false true e = cc

    -- none of the first so many parts at the same spawn
    past_all : (count : ℕ) (tail : List (List ℕ)) → is_joined findings count last ≡ false →
        with_place findings (groups_below last count ++ tail) last ≡ groups_below last count ++ with_place findings tail last
    past_all zero tail e = refl
    past_all (suc count) tail e =
        let both = neither (is_joined findings count last) (are_of_one_spawn findings count last) e in
        ap (λ some. with_place findings some last) (append_assoc (groups_below last count) (begun last count) tail) ∙
        past_all count (begun last count ++ tail) both.0 ∙
        ap (λ some. groups_below last count ++ some) (past_apart count tail both.1) ∙
        sym (append_assoc (groups_below last count) (begun last count) (with_place findings tail last))

    stay_all : (count : ℕ) → is_joined findings count last ≡ false → groups_below (suc last) count ≡ groups_below last count
    stay_all zero e = refl
    stay_all (suc count) e =
        let both = neither (is_joined findings count last) (are_of_one_spawn findings count last) e in
        ap₂ (λ some more. some ++ more) (stay_all count both.0) (begun_apart count both.1)

    -- the group of one with the same spawn as an earlier one, or of another spawn
    begun_stays : (count : ℕ) → is_joined findings count last ≡ true → begun (suc last) count ≡ begun last count
    begun_stays count joined = by (are_of_one_spawn findings count last) refl
      where
        by : (b : Bool) → are_of_one_spawn findings count last ≡ b → begun (suc last) count ≡ begun last count
        by false apart = begun_apart count apart
        by true same =
            let whole : is_joined findings count count ≡ true = same_joined count same count ∙ joined in
            begun_joined (suc last) count whole ∙ sym (begun_joined last count whole)

    last_joined : (count : ℕ) → count < last → are_of_one_spawn findings count last ≡ true → joined_at findings count last ≡ last ∷ []
    last_joined count below same = ap₂ (λ a b. if a && b then last ∷ [] else []) (lt-ltb count last below) same

    -- one of the first so many parts at the same spawn
    joins_one : (count : ℕ) (tail : List (List ℕ)) → count ≤ last → is_joined findings count last ≡ true →
        with_place findings (groups_below last count ++ tail) last ≡ groups_below (suc last) count ++ tail
    joins_one zero tail below e = cc
    joins_one (suc count) tail below e =
        by (is_joined findings count last) refl e (λ tail joined. joins_one count tail (omega (arith, below)) joined)
      where
        under : count < last
        under = omega (arith, below)

        by : (b : Bool) → is_joined findings count last ≡ b → (b || are_of_one_spawn findings count last) ≡ true →
            ((tail : List (List ℕ)) → is_joined findings count last ≡ true →
            with_place findings (groups_below last count ++ tail) last ≡ groups_below (suc last) count ++ tail) →
            with_place findings ((groups_below last count ++ begun last count) ++ tail) last ≡
            (groups_below (suc last) count ++ begun (suc last) count) ++ tail
        by true joined e rest =
            ap (λ some. with_place findings some last) (append_assoc (groups_below last count) (begun last count) tail) ∙
            rest (begun last count ++ tail) joined ∙
            ap (λ some. groups_below (suc last) count ++ (some ++ tail)) (sym (begun_stays count joined)) ∙
            sym (append_assoc (groups_below (suc last) count) (begun (suc last) count) tail)
        by false none same rest =
            let first : is_joined findings count count ≡ false = same_joined count same count ∙ none in
            let grown : begun (suc last) count ≡ ((count ∷ joined_behind findings last count) ++ last ∷ []) ∷ [] =
            begun_first (suc last) count first ∙
            ap (λ some. (count ∷ joined_behind findings last count ++ some) ∷ []) (last_joined count under same) in
            let met : with_place findings (begun last count ++ tail) last ≡ begun (suc last) count ++ tail =
            ap (λ some. with_place findings (some ++ tail) last) (begun_first last count first) ∙
            ap (λ b. cond b (((count ∷ joined_behind findings last count) ++ last ∷ []) ∷ tail)
            ((count ∷ joined_behind findings last count) ∷ with_place findings tail last)) same ∙
            ap (λ some. some ++ tail) (sym grown) in
            ap (λ some. with_place findings some last) (append_assoc (groups_below last count) (begun last count) tail) ∙
            past_all count (begun last count ++ tail) none ∙
            ap₂ (λ some more. some ++ more) (sym (stay_all count none)) met ∙
            sym (append_assoc (groups_below (suc last) count) (begun (suc last) count) tail)

    -- none is behind itself
    none_behind : (count : ℕ) → count ≤ suc last → joined_behind findings count last ≡ []
    none_behind zero below = refl
    none_behind (suc count) below =
        ap₂ (λ some more. some ++ more) (none_behind count (omega (arith, below)))
        (ap (λ b. if b && are_of_one_spawn findings last count then count ∷ [] else []) (le-ltb last count (omega (arith, below))))

    next_group : with_place findings (groups_below last last) last ≡ groups_below (suc last) (suc last)
    next_group = by (is_joined findings last last) refl
      where
        whole : with_place findings (groups_below last last) last ≡ with_place findings (groups_below last last ++ []) last
        whole = ap (λ some. with_place findings some last) (sym (append-nil (groups_below last last)))

        by : (b : Bool) → is_joined findings last last ≡ b → with_place findings (groups_below last last) last ≡ groups_below (suc last) (suc last)
        by true joined =
            whole ∙ joins_one last [] (omega arith) joined ∙
            ap (λ some. groups_below (suc last) last ++ some) (sym (begun_joined (suc last) last joined))
        by false none =
            whole ∙ past_all last [] none ∙
            ap₂ (λ some more. some ++ more) (sym (stay_all last none))
            (ap (λ some. (last ∷ some) ∷ []) (sym (none_behind (suc last) (omega arith))) ∙ sym (begun_first (suc last) last none))

  -- ---- the loop over all findings

  pub groups_next : (place : ℕ) (old new : List (List ℕ)) → old ≡ groups_below place place → new ≡ with_place findings old place →
      new ≡ groups_below (place + 1) (place + 1)
  groups_next place old new before is =
      let same : suc place ≡ place + 1 = omega arith in
      is ∙ ap (λ some. with_place findings some place) before ∙ next_group place ∙ ap (λ n. groups_below n n) same

  pub groups_end : (place : ℕ) (groups : List (List ℕ)) → groups ≡ groups_below place place → place ≡ length findings → groups ≡ groups_of findings
  groups_end place groups before long = before ∙ ap (λ n. groups_below n n) long ∙ all_below (length findings)
