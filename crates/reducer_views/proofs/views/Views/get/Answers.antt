use Rattle.std.proofs.Common.{ap, ◌∙◌}
use Rattle.model_reducers.specs.Products.{view_number}
use Rattle.reducer_views.proofs.Following.{there_lent, home_read, touch_seen, home_lent, view_found, view_untouched}
use Rattle.reducer_views.proofs.views.Views.get.Goals as goal

pub home_of-home-requires : goal.home_of-home-requires
home_of-home-requires g c = record { known = there_lent _ _ _ _ _ _ c.self.view_is c.deref.ensures.value c.requires.there }

pub touch_of-requires : goal.touch_of-requires
touch_of-requires g c = record { home_known = home_lent _ _ _ _ _ c.self.invariant.0 c.deref-2.ensures.value (home_read _ _ _ _ c.deref.ensures.value c.home_of-home.ensures) }

pub returns-in-Some : goal.returns-in-Some
returns-in-Some g c steps l k current =
    c.value.ensures ∙ ap view_number (view_found _ _ _ _ steps _ _ _ _ _ c.self.view_is (home_read _ _ _ _ c.deref.ensures.value c.home_of-home.ensures)
    (touch_seen _ _ _ _ _ c.deref-2.ensures.value c.touch_of.ensures) c.in-Some.is l k current)

pub returns-in-None : goal.returns-in-None
returns-in-None g c steps l k current =
    c.value-in-None.ensures ∙ ap view_number (view_untouched _ _ _ _ steps _ _ _ _ _ _ c.self.view_is c.requires.known (home_read _ _ _ _ c.deref.ensures.value c.home_of-home.ensures)
    (touch_seen _ _ _ _ _ c.deref-2.ensures.value c.touch_of.ensures) c.in-None.is c.index.ensures c.identity.ensures.view l k current)
