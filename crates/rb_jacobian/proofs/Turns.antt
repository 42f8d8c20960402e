-- Turns of the bodies to the world, and what the forces and the values of rows make of turns that are the same.
use Rattle.std.proofs.Common.{◌≡◌, ℕ, suc, ◌≤◌, ◌==◌, Bool, true, false, subst, arith}
use Rattle.rb_frac.specs.Ops.{V3, signs, vscale, vdot, vcross}
use Rattle.rb_frac.specs.Frac.{Frac, Same, fracs}
use Rattle.rb_frac.specs.Tables.{Table, Vectors, Tables, identity, transpose, row, vector, table_product}
use Rattle.rb_frac.specs.Spatial.{Spatial, Motion, Force, Spatials}
use Rattle.rb_frac.specs.Mechanics.{opposite}
use Rattle.rb_spatial.proofs.Keep.{choice}
use Rattle.rb_flat.specs.Shape.{Shape}
use Rattle.rb_flat.specs.Mechanism.{Mechanism}
use Rattle.rb_flat.specs.Dynamics.{Unknowns, none, Moves}
use Rattle.rb_flat.specs.Contact.{Constraints, HasRow, RowsFit, row_acceleration, row_speed, row_force, row_on, rows_on}
use Rattle.rb_flat.proofs.Equality.{same_fractions, vectors_refl, vectors_sym, vectors_trans, vneg_same, spatials_refl, spatials_trans, plus_same, spatial_sum_same}
use Rattle.rb_flat.proofs.OneSolution.{down, down_top, down_step}
use Rattle.rb_jacobian.specs.Jacobian.{row_speeds, row_accelerations}
use Rattle.rb_jacobian.specs.Laws.{HasTurns, TurnsAreOne}
use Rattle.rb_jacobian.proofs.Descent.{descend}

-- ---- tables
pub tables_refl : (t : Table Frac) → Tables Same t t
tables_refl t =
    record { x = vectors_refl same_fractions t.x; y = vectors_refl same_fractions t.y; z = vectors_refl same_fractions t.z }

pub tables_sym : {s t : Table Frac} → Tables Same s t → Tables Same t s
tables_sym h =
    record { x = vectors_sym same_fractions h.x; y = vectors_sym same_fractions h.y; z = vectors_sym same_fractions h.z }

pub tables_trans : {s t u : Table Frac} → Tables Same s t → Tables Same t u → Tables Same s u
tables_trans h k =
    record { x = vectors_trans same_fractions h.x k.x; y = vectors_trans same_fractions h.y k.y; z = vectors_trans same_fractions h.z k.z }

equal : {s t : Table Frac} → s ≡ t → Tables Same s t
equal {s} {t} e = subst (λ (u : Table Frac). Tables Same s u) e (tables_refl s)

row_same : {s t : Table Frac} → Tables Same s t → (a : ℕ) → Vectors Same (row s a) (row t a)
row_same h a = choice (Vectors Same) (a == 0) h.x (choice (Vectors Same) (a == 1) h.y h.z)

vdot_first : {u v : V3 Frac} (w : V3 Frac) → Vectors Same u v → Same (vdot fracs u w) (vdot fracs v w)
unfolding vdot
vdot_first w h =
    let E = same_fractions in
    E.add _ _ _ _ (E.add _ _ _ _ (E.mul _ _ _ _ h.x (E.refl w.x)) (E.mul _ _ _ _ h.y (E.refl w.y))) (E.mul _ _ _ _ h.z (E.refl w.z))

product_row : {u v : V3 Frac} (t : Table Frac) → Vectors Same u v → Vectors Same (vector (vdot fracs u t.x) (vdot fracs u t.y) (vdot fracs u t.z)) (vector (vdot fracs v t.x) (vdot fracs v t.y) (vdot fracs v t.z))
product_row t h = record { x = vdot_first t.x h; y = vdot_first t.y h; z = vdot_first t.z h }

product_first : {s s' : Table Frac} (t : Table Frac) → Tables Same s s' → Tables Same (table_product fracs s t) (table_product fracs s' t)
unfolding table_product
product_first t h =
    record { x = product_row (transpose t) h.x; y = product_row (transpose t) h.y; z = product_row (transpose t) h.z }

-- ---- turns
pub has_turns : HasTurns
has_turns shape m parents =
    let step = λ (i : ℕ) (t : Table Frac). table_product fracs t (transpose (m.place i).e) in
    let top = identity (signs fracs) in (
      down shape.parent top step,
      record {
        world = equal (down_top shape.parent top step);
        each = λ i there. equal (down_step shape.parent top step shape.bodies (λ j g h. parents j (record { from = g; to = h })) i there.from there.to);
      },
    )

pub turns_are_one : TurnsAreOne
turns_are_one shape m turn turn' parents h h' =
    descend shape parents (λ i. Tables Same (turn i) (turn' i))
    (tables_trans h.world (tables_sym h'.world))
    (λ i there above. tables_trans (h.each i there) (tables_trans (product_first (transpose (m.place i).e) above) (tables_sym (h'.each i there))))

-- ---- rows
vscale_same : (k l : Frac) {u v : V3 Frac} → Same k l → Vectors Same u v → Vectors Same (vscale fracs k u) (vscale fracs l v)
unfolding vscale
vscale_same k l h e =
    let E = same_fractions in
    record { x = E.mul _ _ _ _ h e.x; y = E.mul _ _ _ _ h e.y; z = E.mul _ _ _ _ h e.z }

vcross_second : (q : V3 Frac) {u v : V3 Frac} → Vectors Same u v → Vectors Same (vcross fracs q u) (vcross fracs q v)
unfolding vcross
vcross_second q h =
    let E = same_fractions in
    record {
      x = E.add _ _ _ _ (E.mul _ _ _ _ (E.refl q.y) h.z) (E.neg _ _ (E.mul _ _ _ _ (E.refl q.z) h.y));
      y = E.add _ _ _ _ (E.mul _ _ _ _ (E.refl q.z) h.x) (E.neg _ _ (E.mul _ _ _ _ (E.refl q.x) h.z));
      z = E.add _ _ _ _ (E.mul _ _ _ _ (E.refl q.x) h.y) (E.neg _ _ (E.mul _ _ _ _ (E.refl q.y) h.x));
    }

force_same : (turns : Bool) {d e : V3 Frac} (q : V3 Frac) (x y : Frac) → Vectors Same d e → Same x y → Spatials Same (row_force fracs turns d q x) (row_force fracs turns e q y)
unfolding row_force
force_same true q x y h l = record { lin = vectors_refl same_fractions _; ang = vscale_same x y l h }
force_same false q x y h l = record { lin = vscale_same x y l h; ang = vcross_second q (vscale_same x y l h) }

opposite_same : {f g : Spatial Frac} → Spatials Same f g → Spatials Same (opposite fracs f) (opposite fracs g)
unfolding opposite
opposite_same h = record { lin = vneg_same same_fractions h.lin; ang = vneg_same same_fractions h.ang }

acceleration_same : (turns : Bool) {d e : V3 Frac} (q : V3 Frac) (v a : Motion Frac) → Vectors Same d e → Same (row_acceleration fracs turns d q v a) (row_acceleration fracs turns e q v a)
unfolding row_acceleration
acceleration_same turns q v a h = vdot_first _ h

speed_same : (turns : Bool) {d e : V3 Frac} (q : V3 Frac) (v : Motion Frac) → Vectors Same d e → Same (row_speed fracs turns d q v) (row_speed fracs turns e q v)
unfolding row_speed
speed_same turns q v h = vdot_first _ h

module _ (shape : Shape) (k : Constraints Frac) (fits : RowsFit shape k) (turn turn' : ℕ → Table Frac) (same : (i : ℕ) → i ≤ shape.bodies → Tables Same (turn i) (turn' i)) where
  first_row : (r : ℕ) → HasRow k r → Vectors Same (row (turn (k.row r).first) (k.row r).axis) (row (turn' (k.row r).first) (k.row r).axis)
  first_row r hr = row_same (same (k.row r).first (fits r hr).first) (k.row r).axis

  second_row : (r : ℕ) → HasRow k r → Vectors Same (row (turn (k.row r).second) (k.row r).axis) (row (turn' (k.row r).second) (k.row r).axis)
  second_row r hr = row_same (same (k.row r).second (fits r hr).second) (k.row r).axis

  row_on_same : (i r : ℕ) (x y : Frac) → HasRow k r → Same x y → Spatials Same (row_on fracs k turn i r x) (row_on fracs k turn' i r y)
  row_on_same i r x y hr l =
      let w = k.row r in
      let n = k.numbers r in
      plus_same same_fractions
      (choice (Spatials Same) (w.first == i) (force_same w.turns n.first_point x y (first_row r hr) l) (spatials_refl same_fractions (none fracs)))
      (choice (Spatials Same) (w.second == i) (opposite_same (force_same w.turns n.second_point x y (second_row r hr) l)) (spatials_refl same_fractions (none fracs)))

  pub rows_on_same : (x y : ℕ → Frac) → ((r : ℕ) → HasRow k r → Same (x r) (y r)) → (i : ℕ) → Spatials Same (rows_on fracs k turn x i) (rows_on fracs k turn' y i)
  unfolding rows_on
  rows_on_same x y h i =
      spatial_sum_same same_fractions k.rows (λ r. row_on fracs k turn i (suc r) (x (suc r))) (λ r. row_on fracs k turn' i (suc r) (y (suc r)))
      (λ r l. let hr : HasRow k (suc r) = record { from = omega arith; to = omega arith } in row_on_same i (suc r) (x (suc r)) (y (suc r)) hr (h (suc r) hr))

  pub row_accelerations_same : (s : Unknowns Frac) (r : ℕ) → HasRow k r → Same (row_accelerations k turn s r) (row_accelerations k turn' s r)
  row_accelerations_same s r hr =
      let E = same_fractions in
      let w = k.row r in
      let n = k.numbers r in
      E.add _ _ _ _
      (acceleration_same w.turns n.first_point (s.speed w.first) (s.acceleration w.first) (first_row r hr))
      (E.neg _ _ (acceleration_same w.turns n.second_point (s.speed w.second) (s.acceleration w.second) (second_row r hr)))

  pub row_speeds_same : (v : ℕ → Motion Frac) (r : ℕ) → HasRow k r → Same (row_speeds k turn v r) (row_speeds k turn' v r)
  row_speeds_same v r hr =
      let E = same_fractions in
      let w = k.row r in
      let n = k.numbers r in
      E.add _ _ _ _ (speed_same w.turns n.first_point (v w.first) (first_row r hr)) (E.neg _ _ (speed_same w.turns n.second_point (v w.second) (second_row r hr)))

-- forces from outside may be written otherwise
pub other_outside : (shape : Shape) (m : Mechanism Frac) (outside other : ℕ → Force Frac) (s : Unknowns Frac) → ((i : ℕ) → Spatials Same (other i) (outside i))
    → Moves fracs shape m Same outside s → Moves fracs shape m Same other s
other_outside shape m outside other s same h = record {
  world_speed = h.world_speed;
  world_acceleration = h.world_acceleration;
  speeds = h.speeds;
  accelerations = h.accelerations;
  newton_euler = h.newton_euler;
  balance = λ i there.
      spatials_trans same_fractions (plus_same same_fractions (spatials_refl same_fractions (s.joint_force i)) (same i)) (h.balance i there);
  columns = h.columns;
}
