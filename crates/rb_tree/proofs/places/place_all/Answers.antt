use Rattle.rb_sweep.proofs.Told.{told_ok, told_err}
use Rattle.rb_tree.specs.Places.{ArePlaces, IsPlaceRefused, EnclosesPlaces}
use Rattle.rb_tree.proofs.PlaceEncloses.{places_enclose}
use Rattle.rb_tree.proofs.PlacePass.{places_found, place_refused}
use Rattle.rb_tree.proofs.places.place_all.Goals as goal

pub returns-clause-values : goal.returns-clause-values
returns-clause-values c =
    told_ok _ _ _ (ArePlaces c.args.robot.now c.args.state.now) c.sweep_places.ensures.exact
    (λ t e. places_found _ _ c.args.work.now t c.bodies-sizes.ensures.sized c.requires.room.bodies e)

pub returns-clause-refused : goal.returns-clause-refused
returns-clause-refused c =
    told_err _ _ _ (IsPlaceRefused c.args.robot.now c.args.state.now) c.sweep_places.ensures.exact
    (λ d e. place_refused _ _ c.args.work.now d c.bodies-sizes.ensures.sized c.requires.room.bodies e)

pub returns-clause-encloses : goal.returns-clause-encloses
returns-clause-encloses c =
    told_ok _ _ _ (EnclosesPlaces c.args.robot.now c.args.state.now) c.sweep_places.ensures.exact
    (λ t e. places_enclose _ _ t c.bodies-tree.ensures.kept (places_found _ _ c.args.work.now t c.bodies-sizes.ensures.sized c.requires.room.bodies e))
