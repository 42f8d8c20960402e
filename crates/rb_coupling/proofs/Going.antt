-- What a work keeps where its values in Y change.
use Rattle.std.proofs.Common.{◌≡◌, ap, ◌∙◌}
use Rattle.rb_work.specs.View.{View}

pub others_Y : (u v w : View) → v ≡ record u { Y = v.Y } → u ≡ record w { Y = u.Y } → v ≡ record w { Y = v.Y }
others_Y u v w e f = let put : View → View = λ t. record t { Y = v.Y } in e ∙ ap put f

pub up_Y : (u w : View) → u ≡ record w { Y = u.Y } → u.up ≡ w.up
up_Y u w e = ap (λ t. t.up) e
