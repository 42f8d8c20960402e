-- The columns of a joint are the rates of its turn and its shift, as it starts from rest. Featherstone, Rigid Body Dynamics Algorithms,
-- chapter 3. A rate goes by the rules of sum and product, with the numbers x + x' d, where the square of d is zero.
use Rattle.std.specs.Prelude.{ℕ, ◌<◌, ◌==◌, nat_lt, if◌then◌else◌, List, [], ◌∷◌}
use Rattle.rb_frac.specs.Ops.{Ops, V3, signs, vscale, vcross}
use Rattle.rb_frac.specs.Frac.{Frac, Same, fracs}
use Rattle.rb_frac.specs.Tables.{Table, Vectors, Tables, cross_table, table_times, table_product, table_scaled}
use Rattle.rb_frac.specs.Spatial.{Spatial, Motion, Place, SineCosine, Motions}
use Rattle.rb_frac.specs.Mechanics.{plus, in_body, motion_product}
use Rattle.rb_flat.specs.Joint.{Kind, Fixed, Revolute, Continuous, Prismatic, Planar, Free, column_count, joint_column, joint_turn, joint_shift}

-- a number and its rate
pub record Moving (A : Type 0) : Type 0 where
  pub value : A
  pub rate : A

module _ {A : Type 0} (o : Ops A) where
  abbrev pub moving : Ops (Moving A)
  moving = record {
    add = λ x y. record { value = o.add x.value y.value; rate = o.add x.rate y.rate };
    mul = λ x y. record { value = o.mul x.value y.value; rate = o.add (o.mul x.value y.rate) (o.mul x.rate y.value) };
    neg = λ x. record { value = o.neg x.value; rate = o.neg x.rate };
    nul = record { value = o.nul; rate = o.nul };
    one = record { value = o.one; rate = o.nul };
  }

  abbrev pub still : A → Moving A
  still x = record { value = x; rate = o.nul }

  abbrev pub still_vector : V3 A → V3 (Moving A)
  still_vector a = record { x = still a.x; y = still a.y; z = still a.z }

  -- zero at rest, with the rate h if this is its column
  abbrev pub from_rest : A → ℕ → ℕ → Moving A
  from_rest h column k = record { value = o.nul; rate = if k == column then h else o.nul }

  -- the entries, where that of a column has the rate h
  abbrev pub started : Kind → ℕ → A → List (Moving A)
  started Fixed k h = []
  started Revolute k h = from_rest h 0 k ∷ []
  started Continuous k h = still o.one ∷ from_rest h 0 k ∷ []
  started Prismatic k h = from_rest h 0 k ∷ []
  started Planar k h = from_rest h 0 k ∷ from_rest h 1 k ∷ still o.one ∷ from_rest h 2 k ∷ []
  started Free k h =
      from_rest h 0 k ∷ from_rest h 1 k ∷ from_rest h 2 k ∷ from_rest h 3 k ∷ from_rest h 4 k ∷ from_rest h 5 k ∷ still o.one ∷ []

  -- the sine and the cosine of an angle that starts from zero
  abbrev pub started_angle : ℕ → A → SineCosine (Moving A)
  started_angle k h = record { sin = from_rest h 0 k; cos = still o.one }

  -- the speed of that column: a quaternion has half of its angle
  abbrev pub started_speed : Kind → ℕ → A → A
  started_speed Free k h = if nat_lt k 3 then h else o.add h h
  started_speed _ k h = h

abbrev pub vector_rate : {A : Type 0} → V3 (Moving A) → V3 A
vector_rate v = record { x = v.x.rate; y = v.y.rate; z = v.z.rate }

abbrev pub table_rate : {A : Type 0} → Table (Moving A) → Table A
table_rate t = record { x = vector_rate t.x; y = vector_rate t.y; z = vector_rate t.z }

-- the turn changes by the cross product with the angular part of the column, and the shift by the linear part, at that speed
pub record ColumnIsRate (kind : Kind) (a : V3 Frac) (k : ℕ) (h : Frac) : Type 0 where
  pub turn : Tables Same
      (table_rate (joint_turn (moving fracs) kind (still_vector fracs a) (started_angle fracs k h) (started fracs kind k h)))
      (table_scaled fracs (started_speed fracs kind k h) (cross_table (signs fracs) (joint_column (signs fracs) kind a k).ang))
  pub shift : Vectors Same
      (vector_rate (joint_shift (moving fracs) kind (still_vector fracs a) (started fracs kind k h)))
      (vscale fracs (started_speed fracs kind k h) (joint_column (signs fracs) kind a k).lin)

abbrev pub ColumnsAreRates : Type 0
ColumnsAreRates = (kind : Kind) (a : V3 Frac) (k : ℕ) (h : Frac) → k < column_count kind → ColumnIsRate kind a k h

-- ---- of a tree
abbrev pub vector_now : {A : Type 0} → V3 (Moving A) → V3 A
vector_now v = record { x = v.x.value; y = v.y.value; z = v.z.value }

abbrev pub table_now : {A : Type 0} → Table (Moving A) → Table A
table_now t = record { x = vector_now t.x; y = vector_now t.y; z = vector_now t.z }

abbrev pub place_now : {A : Type 0} → Place (Moving A) → Place A
place_now x = record { e = table_now x.e; r = vector_now x.r }

abbrev pub spatial_now : {A : Type 0} → Spatial (Moving A) → Spatial A
spatial_now m = record { lin = vector_now m.lin; ang = vector_now m.ang }

abbrev pub spatial_rate : {A : Type 0} → Spatial (Moving A) → Spatial A
spatial_rate m = record { lin = vector_rate m.lin; ang = vector_rate m.ang }

-- the place of a body whose joint moves with (u; w): E changes by - w x E, and r so that E (a x r') is (E a) x u for each vector a
pub record PlaceMoves (x : Place (Moving Frac)) (j : Motion Frac) : Type 0 where
  pub turn : Tables Same (table_rate x.e) (table_scaled fracs (fracs.neg fracs.one) (table_product fracs (cross_table (signs fracs) j.ang) (table_now x.e)))
  pub shift : (a : V3 Frac) → Vectors Same
      (table_times fracs (table_now x.e) (vcross fracs a (vector_rate x.r)))
      (vcross fracs (table_times fracs (table_now x.e) a) j.lin)

-- where the speed of a body is that of its parent v and the motion j over its joint, its rate is the acceleration of the equations of motion
abbrev pub AccelerationsAreRates : Type 0
AccelerationsAreRates = (x : Place (Moving Frac)) (v j : Motion (Moving Frac)) → PlaceMoves x (spatial_now j) →
    let speed = plus (moving fracs) (in_body (moving fracs) x v) j in
    Motions Same
    (spatial_rate speed)
    (plus fracs (plus fracs (in_body fracs (place_now x) (spatial_rate v)) (spatial_rate j)) (motion_product fracs (spatial_now speed) (spatial_now j)))
