-- One name that opens every definition here: a proof by computation says `unfolding open_all open_bounds`. Assumes nothing.
use Rattle.model_bounds.specs.Bounds.{hits_in, same_keys, counts_rise, bounds, hit_bounds}

unfoldable pub open_bounds : {A : Type 0} → A → A
unfolding hits_in same_keys counts_rise bounds hit_bounds
open_bounds a = a
