use Rattle.std.proofs.Common.{sym, subst, arith}
use Rattle.std.proofs.lemmas.Bool.{false≢true}
use Rattle.std.proofs.lemmas.List.{with_items_is}
use Rattle.reducer_views.specs.Pieces.{all_kept, AreKept}
use Rattle.reducer_views.proofs.Following.{there_lent, joined_lent, ended_joined_lent}
use Rattle.reducer_views.proofs.views.Views.joined.Goals as goal

pub gather_block-requires-clause-known : goal.gather_block-requires-clause-known
gather_block-requires-clause-known g c = there_lent _ _ _ _ _ _ c.self.view_is c.deref_mut.ensures.value c.requires.there

pub gather_block-requires-clause-sound : goal.gather_block-requires-clause-sound
gather_block-requires-clause-sound g c =
    (c.self.inside.monoids.items, subst (λ ps. AreKept c.self.inside.monoids.items (all_kept ps)) (sym c.deref_mut.ensures.value) c.self.invariant.0)

pub invariant_of-self : goal.invariant_of-self
invariant_of-self g c = (
  subst (λ ps. AreKept c.self.inside.monoids.items (all_kept ps)) (sym (with_items_is c.self.inside.pieces c.gather_block.new.pieces (omega (arith, c.self.inside.pieces.ok))))
      (c.gather_block.ensures.sound c.self.inside.monoids.items (subst (λ ps. AreKept c.self.inside.monoids.items (all_kept ps)) (sym c.deref_mut.ensures.value) c.self.invariant.0)),
  λ e. absurd (false≢true e),
)

pub returns-clause-at_sync : goal.returns-clause-at_sync
returns-clause-at_sync g c steps l k strand a =
    joined_lent _ _ _ _ _ _ _ _ steps strand _ c.self.view_is (with_items_is c.self.inside.pieces c.gather_block.new.pieces (omega (arith, c.self.inside.pieces.ok))) c.deref_mut.ensures.value
    l k c.self.invariant.0 c.gather_block.ensures.same
    (c.gather_block.ensures.block c.self.inside.monoids.items (subst (λ ps. AreKept c.self.inside.monoids.items (all_kept ps)) (sym c.deref_mut.ensures.value) c.self.invariant.0)) a

pub returns-clause-at_return : goal.returns-clause-at_return
returns-clause-at_return g c steps l k strand a =
    ended_joined_lent _ _ _ _ _ _ _ _ steps strand _ c.self.view_is (with_items_is c.self.inside.pieces c.gather_block.new.pieces (omega (arith, c.self.inside.pieces.ok))) c.deref_mut.ensures.value
    l k c.self.invariant.0 c.gather_block.ensures.same
    (c.gather_block.ensures.block c.self.inside.monoids.items (subst (λ ps. AreKept c.self.inside.monoids.items (all_kept ps)) (sym c.deref_mut.ensures.value) c.self.invariant.0)) a
