-- Where the deeds of a frame lead: each place reaches all later ones, and all of them belong to the frame.
use Rattle.std.proofs.Common.{◌≡◌, ◌⊎◌, inl, inr, ◌≤◌, true, List, [], ◌∷◌, length, refl, sym, ap, ◌∙◌, subst, arith}
use Rattle.model_strands.specs.Address.{Word, child, next, join, Address, extended}
use Rattle.law_addresses.specs.Address.{reaches}
use Rattle.law_addresses.proofs.Relations.{reaches-self, reaches-transitive}
use Rattle.law_addresses.proofs.Extensions.{reaches-extension}
use Rattle.model_accesses.specs.declared.request.Act.{Act}
use Rattle.law_strands.proofs.Words.{Diverges, diverges_extend, diverges_join, diverges_precedes}
use Rattle.law_interleavings.specs.Fronts.{Nest, in_spawned, inside, opened, gone, Front, after_spawn, after_sync, after_return, moved}
use Rattle.law_interleavings.specs.Traces.{Spoken, walk, IsLaterOf}

-- the address up to its last child: where its frame began
abbrev up_to_child : Word → Address → Address
up_to_child word (other ∷ a) = word ∷ (other ∷ a)
up_to_child child [] = child ∷ []
up_to_child word [] = []

abbrev pub home : Address → Address
home [] = []
home (word ∷ a) = up_to_child word (home a)

up_extended : (x word : Word) (a : Address) → up_to_child x (extended a word) ≡ x ∷ extended a word
up_extended x word [] = refl
up_extended x word (y ∷ a) = refl

pub home_child : (a : Address) → home (extended a child) ≡ extended a child
home_child [] = refl
home_child (x ∷ a) = ap (up_to_child x) (home_child a) ∙ up_extended x child a

pub home_next : (a : Address) → home (extended a next) ≡ home a
home_next [] = refl
home_next (x ∷ a) = ap (up_to_child x) (home_next a)

pub home_join : (a : Address) → home (extended a join) ≡ home a
home_join [] = refl
home_join (x ∷ a) = ap (up_to_child x) (home_join a)

-- the open blocks of a front end at joins of the frame, which the front reaches
abbrev Ends : Address → Address → Nest → Type 0
Ends begin here in_spawned = Unit {0}
Ends begin here (inside nest) = Ends begin here nest
Ends begin here (opened end nest) = Diverges here end × (home end ≡ home begin) × Ends begin end nest
Ends begin here gone = Unit {0}

ends_widen : (begin here : Address) (word : Word) (nest : Nest) → Ends begin here nest → Ends begin (extended here word) nest
ends_widen b a w in_spawned e = tt
ends_widen b a w (inside nest) e = ends_widen b a w nest e
ends_widen b a w (opened end nest) e = (diverges_extend a end w e.0, e.1, e.2)
ends_widen b a w gone e = tt

record IsWithin (begin : Address) (front : Front) : Type 0 where
  of_frame : home front.here ≡ home begin
  ends : Ends begin front.here front.nest

record Advances (begin : Address) (before after : Front) : Type 0 where
  within : IsWithin begin after
  leads : reaches before.here after.here ≡ true

spawned_on : (begin here : Address) (nest : Nest) → home here ≡ home begin → Ends begin here nest →
    Advances begin (record { here = here; nest = nest }) (after_spawn here nest)
spawned_on b a (opened end nest) h e =
    record { within = record { of_frame = home_next a ∙ h; ends = ends_widen b a next (opened end nest) e }; leads = reaches-extension a (next ∷ []) }
spawned_on b a in_spawned h e =
    record { within = record { of_frame = home_next a ∙ h; ends = (diverges_join a next refl, home_join a ∙ h, tt) }; leads = reaches-extension a (next ∷ []) }
spawned_on b a (inside nest) h e =
    record { within = record { of_frame = home_next a ∙ h; ends = (diverges_join a next refl, home_join a ∙ h, ends_widen b a join (inside nest) e) }; leads = reaches-extension a (next ∷ []) }
spawned_on b a gone h e =
    record { within = record { of_frame = home_next a ∙ h; ends = (diverges_join a next refl, home_join a ∙ h, tt) }; leads = reaches-extension a (next ∷ []) }

synced_on : (begin here : Address) (nest : Nest) → home here ≡ home begin → Ends begin here nest →
    Advances begin (record { here = here; nest = nest }) (after_sync here nest)
synced_on b a (opened end nest) h e = record { within = record { of_frame = e.1; ends = e.2 }; leads = diverges_precedes a end e.0 }
synced_on b a in_spawned h e = record { within = record { of_frame = h; ends = e }; leads = reaches-self a }
synced_on b a (inside nest) h e = record { within = record { of_frame = h; ends = e }; leads = reaches-self a }
synced_on b a gone h e = record { within = record { of_frame = h; ends = e }; leads = reaches-self a }

returned_on : (begin here : Address) (nest : Nest) → home here ≡ home begin → Ends begin here nest →
    Advances begin (record { here = here; nest = nest }) (after_return here nest)
returned_on b a (inside nest) h e = record { within = record { of_frame = h; ends = e }; leads = reaches-self a }
returned_on b a (opened end nest) h e = record { within = record { of_frame = h; ends = tt }; leads = reaches-self a }
returned_on b a in_spawned h e = record { within = record { of_frame = h; ends = tt }; leads = reaches-self a }
returned_on b a gone h e = record { within = record { of_frame = h; ends = tt }; leads = reaches-self a }

advances : (begin : Address) (front : Front) (act : Act) → IsWithin begin front → Advances begin front (moved front act)
advances b f Act.Spawn w = spawned_on b f.here f.nest w.of_frame w.ends
advances b f Act.Sync w = synced_on b f.here f.nest w.of_frame w.ends
advances b f Act.Call w = record { within = record { of_frame = w.of_frame; ends = w.ends }; leads = reaches-self f.here }
advances b f Act.Return w = returned_on b f.here f.nest w.of_frame w.ends
advances b f _ w = record { within = w; leads = reaches-self f.here }

walks_within : {Note : Type 0} → (begin : Address) (zs : List (Spoken Note)) → IsWithin begin (walk begin zs)
walks_within b [] = record { of_frame = refl; ends = tt }
walks_within b (z ∷ zs) = (advances b (walk b zs) z.act (walks_within b zs)).within

-- each place of a frame tells where the frame began
pub walk_home : {Note : Type 0} → (begin : Address) (zs : List (Spoken Note)) → home (walk begin zs).here ≡ home begin
walk_home b zs = (walks_within b zs).of_frame

pub walk_leads : {Note : Type 0} → (begin : Address) (zs ws : List (Spoken Note)) → IsLaterOf zs ws → reaches (walk begin zs).here (walk begin ws).here ≡ true
walk_leads {Note = Note} b zs [] m = subst (λ z. reaches (walk b z).here (walk {Note = Note} b []).here ≡ true) (sym m) (reaches-self (walk {Note = Note} b []).here)
walk_leads b zs (w ∷ ws) (inl e) = subst (λ z. reaches (walk b z).here (walk b (w ∷ ws)).here ≡ true) (sym e) (reaches-self (walk b (w ∷ ws)).here)
walk_leads b zs (w ∷ ws) (inr m) =
    reaches-transitive (walk b zs).here (walk b ws).here (walk b (w ∷ ws)).here (walk_leads b zs ws m) (advances b (walk b ws) w.act (walks_within b ws)).leads

-- lists that later ones begin with

pub later_self : {Note : Type 0} → (zs : List (Spoken Note)) → IsLaterOf zs zs
later_self [] = refl
later_self (z ∷ zs) = inl refl

pub later_none : {Note : Type 0} → (zs : List (Spoken Note)) → IsLaterOf [] zs
later_none [] = refl
later_none (z ∷ zs) = inr (later_none zs)

pub later_less : {Note : Type 0} → (z : Spoken Note) (zs ws : List (Spoken Note)) → IsLaterOf (z ∷ zs) ws → IsLaterOf zs ws
later_less z zs [] m = cc
later_less z zs (w ∷ ws) (inl e) = let f : zs ≡ ws = cc in inr (subst (λ l. IsLaterOf l ws) (sym f) (later_self ws))
later_less z zs (w ∷ ws) (inr m) = inr (later_less z zs ws m)

pub later_transitive : {Note : Type 0} → (zs ws vs : List (Spoken Note)) → IsLaterOf zs ws → IsLaterOf ws vs → IsLaterOf zs vs
later_transitive zs ws [] m n = subst (IsLaterOf zs) n m
later_transitive zs ws (v ∷ vs) m (inl e) = subst (IsLaterOf zs) e m
later_transitive zs ws (v ∷ vs) m (inr n) = inr (later_transitive zs ws vs m n)

pub later_shorter : {Note : Type 0} → (zs ws : List (Spoken Note)) → IsLaterOf zs ws → length zs ≤ length ws
later_shorter zs [] m = let e = ap length m in omega arith
later_shorter zs (w ∷ ws) (inl e) = let f = ap length e in omega arith
later_shorter zs (w ∷ ws) (inr m) = let t = later_shorter zs ws m in omega arith

-- the same length makes them the same
pub later_same : {Note : Type 0} → (zs ys ws : List (Spoken Note)) → IsLaterOf zs ws → IsLaterOf ys ws → length zs ≡ length ys → zs ≡ ys
later_same zs ys [] m n e = m ∙ sym n
later_same zs ys (w ∷ ws) (inl p) (inl q) e = p ∙ sym q
later_same zs ys (w ∷ ws) (inl p) (inr n) e = let t = later_shorter ys ws n in let f = ap length p in absurd (omega arith)
later_same zs ys (w ∷ ws) (inr m) (inl q) e = let t = later_shorter zs ws m in let f = ap length q in absurd (omega arith)
later_same zs ys (w ∷ ws) (inr m) (inr n) e = later_same zs ys ws m n e

-- one of the two begins with the other
pub later_either : {Note : Type 0} → (zs ys ws : List (Spoken Note)) → IsLaterOf zs ws → IsLaterOf ys ws → length zs ≤ length ys → IsLaterOf zs ys
later_either zs ys [] m n le = subst (IsLaterOf zs) (sym n) m
later_either zs ys (w ∷ ws) m (inl q) le = subst (IsLaterOf zs) (sym q) m
later_either zs ys (w ∷ ws) (inl p) (inr n) le = let t = later_shorter ys ws n in let f = ap length p in absurd (omega arith)
later_either zs ys (w ∷ ws) (inr m) (inr n) le = later_either zs ys ws m n le

-- it is all of the other, or one more follows
pub later_next : {Note : Type 0} → (zs ws : List (Spoken Note)) → IsLaterOf zs ws → (zs ≡ ws) ⊎ ((x : Spoken Note) × IsLaterOf (x ∷ zs) ws)
later_next zs [] m = inl m
later_next zs (w ∷ ws) (inl e) = inl e
later_next zs (w ∷ ws) (inr m) = elim (later_next zs ws m) [
  | inl e ↦ inr (w, inl (ap (λ l. w ∷ l) e))
  | inr t ↦ inr (t.0, inr t.1)
]
