-- What the record of a running strand says of its stack.
use Rattle.std.proofs.Common.{◌≡◌, ◌<◌, ◌↔◌, ℕ, Bool, true, IsTrue, length, Some, sym, ap, subst, ◌∙◌, arith}
use Rattle.sp_labels.specs.declared.record.Scope.TheVariants.{Root, Child, Call, Block}
use Rattle.sp_labels.specs.declared.record.Record.{Record}
use Rattle.model_strands.specs.History.{History}
use Rattle.model_strands.specs.Strands.{running, over, Running}
use Rattle.model_strands.specs.Blocks.{Stack, root, spawned, block, stack, enclosing, IsSynced}
use Rattle.law_strands.proofs.Range.{ranges, block_below}
use Rattle.sp_labels.specs.Roster.{Roster, Follows, FollowsSome, StandsFor, record_at}
use Rattle.sp_labels.proofs.Scopes.{IsCall, stands-root, stands-child, stands-block, stands-call, stands-synced}
use Rattle.sp_labels.proofs.Queries.{running-known}

-- what was found to run is known
pub acting-known : (seen now : Roster) (strand : ℕ) (runs : Bool) → seen ≡ now → FollowsSome seen →
    ((history : History) → Follows now history → IsTrue runs ↔ Running history strand) → IsTrue runs →
    strand < length seen.records
acting-known seen now strand runs same (history, f) tells t = (running-known seen history f strand ((tells history (subst (λ r. Follows r history) same f)).0 t)).0

stands : (roster : Roster) (history : History) (f : Follows roster history) (strand : ℕ) (kept : Record) → Running history strand →
    kept ≡ record_at roster.records strand →
    StandsFor roster.callers f.below_call kept.scope (stack history strand)
stands roster history f strand kept run is =
    let lt = (running-known roster history f strand run).0 in
    rw is ((f.each strand lt).scope (λ o. let clash : running ≡ over = sym run ∙ o in cc))

pub in-root : (roster : Roster) (history : History) → Follows roster history → (strand : ℕ) (kept : Record) → Running history strand →
    kept ≡ record_at roster.records strand → kept.scope ≡ Root → stack history strand ≡ root
in-root roster history f strand kept run is at = stands-root roster.callers f.below_call kept.scope (stack history strand) (stands roster history f strand kept run is) at

pub in-child : (roster : Roster) (history : History) → Follows roster history → (strand join : ℕ) (kept : Record) → Running history strand →
    kept ≡ record_at roster.records strand → kept.scope ≡ Child join →
    (number : ℕ) × (stack history strand ≡ spawned number join)
in-child roster history f strand join kept run is at = stands-child roster.callers f.below_call kept.scope join (stack history strand) (stands roster history f strand kept run is) at

pub in-call : (roster : Roster) (history : History) (f : Follows roster history) (strand key : ℕ) (kept : Record) → Running history strand →
    kept ≡ record_at roster.records strand → kept.scope ≡ Call key →
    IsCall roster.callers f.below_call key (stack history strand)
in-call roster history f strand key kept run is at = stands-call roster.callers f.below_call kept.scope key (stack history strand) (stands roster history f strand kept run is) at

pub in-block : (roster : Roster) (history : History) → Follows roster history → (strand join : ℕ) (kept : Record) → Running history strand →
    kept ≡ record_at roster.records strand → kept.scope ≡ Block join →
    (below : Stack) × (stack history strand ≡ block join below)
in-block roster history f strand join kept run is at = stands-block roster.callers f.below_call kept.scope join (stack history strand) (stands roster history f strand kept run is) at

pub in-synced : (roster : Roster) (history : History) → Follows roster history → (strand : ℕ) (kept : Record) → Running history strand →
    kept ≡ record_at roster.records strand → ((join : ℕ) → kept.scope ≡ Block join → ⊥) →
    IsSynced (stack history strand)
in-synced roster history f strand kept run is none = stands-synced roster.callers f.below_call kept.scope (stack history strand) (stands roster history f strand kept run is) none

pub join-known : (roster : Roster) (history : History) → Follows roster history → (strand join : ℕ) → enclosing (stack history strand) ≡ Some join →
    join < length roster.records
join-known roster history f strand join at = omega (arith, f.count, block_below history strand join (ranges f.legal) at)

-- the join of the block in which a strand was found to run is known
pub block-known : (seen now : Roster) (strand join : ℕ) (kept : Record) (runs : Bool) → seen ≡ now → FollowsSome seen →
    ((history : History) → Follows now history → IsTrue runs ↔ Running history strand) → IsTrue runs →
    kept ≡ record_at seen.records strand → kept.scope ≡ Block join → join < length seen.records
block-known seen now strand join kept runs same (history, f) tells t is at =
    let run = (tells history (subst (λ r. Follows r history) same f)).0 t in
    join-known seen history f strand join (ap enclosing (in-block seen history f strand join kept run is at).1)

-- room tells nothing of the history
pub reserved-follows : (old made : Roster) (history : History) → made ≡ record old { has_room = true } → Follows made history → Follows old history
reserved-follows old made history is f =
    let g = subst (λ r. Follows r history) is f in
    record { legal = g.legal; count = g.count; below_call = g.below_call; each = g.each; english = g.english; hebrew = g.hebrew }
