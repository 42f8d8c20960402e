-- A choice for a state is one for each wider state.
use Rattle.std.proofs.Common.{ℕ, zero, suc, List, [], ◌∷◌, Option, None, Some, arith}
use Rattle.std.proofs.lemmas.Int.{ints}
use Rattle.std.specs.List.{AllZip}
use Rattle.rb_frac.specs.Ops.{V3}
use Rattle.rb_frac.specs.Frac.{Frac}
use Rattle.rb_frac.specs.Tables.{Vectors}
use Rattle.rb_num.specs.Interval.{Interval}
use Rattle.rb_num.specs.Fraction.{LiesIn}
use Rattle.rb_num.specs.Least.{Covers}
use Rattle.rb_num.proofs.Order.{times_pos}
use Rattle.rb_flat.specs.Joint.{entry_count}
use Rattle.rb_flat.specs.Choice.{RobotBrackets, StateBrackets, Choice, items_from, EntriesChosen, StateCovers, WiderKeepsChoice}

number : (x : Frac) (w v : Interval) → Covers w v → LiesIn x v → LiesIn x w
number x w v k h =
    let low = times_pos w.lo v.lo x.den k.low in
    let high = times_pos v.hi w.hi x.den k.high in
    record { above = omega (arith, ints, low, h.above); below = omega (arith, ints, high, h.below) }

numbers : (x : V3 Frac) (w v : V3 Interval) → Vectors Covers w v → Vectors LiesIn x v → Vectors LiesIn x w
numbers x w v k h = record { x = number x.x w.x v.x k.x h.x; y = number x.y w.y v.y k.y h.y; z = number x.z w.z v.z k.z h.z }

items : (q : List Frac) (w v : ℕ → Interval) (place n : ℕ) → ((p : ℕ) → Covers (w p) (v p)) → AllZip LiesIn q (items_from v place n) → AllZip LiesIn q (items_from w place n)
items [] w v place zero k h = tt
items [] w v place (suc n) k h = h
items (x ∷ q) w v place zero k h = h
items (x ∷ q) w v place (suc n) k h = (number x (w place) (v place) (k place) h.0, items q w v (suc place) n k h.1)

entries : (robot : RobotBrackets) (wide narrow : StateBrackets) (c : Choice) → StateCovers wide narrow → (i : ℕ) (m : Option ℕ) → EntriesChosen robot narrow c i m → EntriesChosen robot wide c i m
entries robot wide narrow c k i None h =
    items (c.joint i).entries wide.entry narrow.entry (robot.shape.first_entry i) (entry_count (robot.shape.kind i)) k.entry h
entries robot wide narrow c k i (Some master) h = h

pub wider_keeps_choice : WiderKeepsChoice
wider_keeps_choice robot wide narrow c k h = record {
  gravity = numbers c.gravity wide.gravity narrow.gravity k.gravity h.gravity;
  bodies = λ i there.
      let b = h.bodies i there in
      record { link = b.link; joint = b.joint; entries = entries robot wide narrow c k i (robot.shape.mimic i) b.entries };
  columns = λ j there.
      let b = h.columns j there in
      record {
        speed = number (c.speed j) (wide.speed j) (narrow.speed j) (k.speed j) b.speed;
        acceleration = number (c.acceleration j) (wide.acceleration j) (narrow.acceleration j) (k.acceleration j) b.acceleration;
        torque = number (c.torque j) (wide.torque j) (narrow.torque j) (k.torque j) b.torque;
      };
}
