-- What stays as it is where other tables of a work change.
use Rattle.std.proofs.Common.{ℕ, List}
use Rattle.rb_num.specs.Interval.{Interval}
use Rattle.rb_flat.specs.Contact.{Constraints}
use Rattle.rb_work.specs.View.{View}
use Rattle.rb_tree.specs.Robot.{Tree}
use Rattle.rb_tree.specs.State.{Row}
use Rattle.rb_tree.specs.Places.{X_rule}
use Rattle.rb_rnea.specs.Speeds.{velocity_by, v_rule}
use Rattle.rb_rnea.specs.Accelerations.{turning_by, c_rule, acceleration_by, a_rule, need_by, b_rule}
use Rattle.rb_rnea.specs.Forces as Forces
use Rattle.rb_rnea.specs.Forces.{f_rule}
use Rattle.rb_rnea.specs.Torques as Torques
use Rattle.rb_rnea.specs.Torques.{t_rule, T_rule}
use Rattle.rb_rnea.specs.Dynamics.{AreDynamics, unaccelerated}
use Rattle.rb_mass.specs.Inertias as Inertias
use Rattle.rb_mass.specs.Inertias.{I_rule}
use Rattle.rb_mass.specs.Entries as Entries
use Rattle.rb_mass.specs.Entries.{H_rule, carried_rule}
use Rattle.rb_mass.specs.Table as Table
use Rattle.rb_mass.specs.Table.{M_rule}
use Rattle.rb_mass.specs.Mass.{AreMass}
use Rattle.rb_constraint.specs.Rows.{O_rule, turn_by, K_rule, forces_by, force_by, J_rule, ways_by, way_from, at_body, leave, AreRows}
use Rattle.rb_constraint.specs.Bias.{g_rule, difference_by, bias_by, AreBias}
use Rattle.rb_coupling.specs.Couple.{HoldsCoupling}
use Rattle.rb_contact.specs.Driving.{k_rule, AreDriving}
use Rattle.rb_contact.specs.Forward.{AreFactored}
use Rattle.rb_contact.specs.Contact.{compliances, AreConstrained, AreFree, AreForced}

-- the tables behind those of inverse dynamics
abbrev behind : View → View → View
behind u w =
    record u {
      I = w.I;
      H = w.H;
      packed = w.packed;
      k = w.k;
      w = w.w;
      z = w.z;
      x = w.x;
      O = w.O;
      K = w.K;
      J = w.J;
      g = w.g;
      Y = w.Y;
      Z = w.Z;
      pairs = w.pairs;
      e = w.e;
      lam = w.lam;
    }

pub dynamics_stay : (tree : Tree) (row : Row) (u w : View) → AreDynamics tree row u → AreDynamics tree row (behind u w)
unfolding X_rule v_rule velocity_by c_rule turning_by a_rule acceleration_by b_rule need_by f_rule Forces.add_child Forces.join_child t_rule Torques.add_power T_rule Torques.add_follower
dynamics_stay tree row u w h = record {
  places = record { each_q = h.places.each_q; each_X = h.places.each_X };
  speeds = record { at_world = h.speeds.at_world; each_s = h.speeds.each_s; each_v = h.speeds.each_v };
  accelerations = record { at_world = h.accelerations.at_world; each_c = h.accelerations.each_c; each_a = h.accelerations.each_a; each_b = h.accelerations.each_b };
  forces = record { each_f = h.forces.each_f };
  torques = record { each_t = h.torques.each_t; each_T = h.torques.each_T };
}

-- the tables behind those of the mass table
abbrev found : View → View → View
found u w =
    record u {
      k = w.k;
      w = w.w;
      z = w.z;
      x = w.x;
      O = w.O;
      K = w.K;
      J = w.J;
      g = w.g;
      Y = w.Y;
      Z = w.Z;
      pairs = w.pairs;
      e = w.e;
      lam = w.lam;
    }

pub mass_stays : (tree : Tree) (u w : View) → AreMass tree u → AreMass tree (found u w)
unfolding I_rule Inertias.add_child Inertias.bear H_rule carried_rule Entries.force Entries.leave M_rule Table.add_joint Table.add_column Table.add_body Table.add_pair
mass_stays tree u w h = record {
  inertias = record { each_I = h.inertias.each_I };
  entries = record { each_H = h.entries.each_H; each_carried = h.entries.each_carried };
  masses = record { each_M = h.masses.each_M };
}

pub factored_stays : (tree : Tree) (row : Row) (u w : View) → AreFactored tree row u → AreFactored tree row (found u w)
factored_stays tree row u w h = record {
  room = record { bodies = h.room.bodies; full = h.room.full; up = h.room.up };
  bias = dynamics_stay tree (unaccelerated row) u (found u w) h.bias;
  mass = h.mass;
  table = mass_stays tree (record u { packed = h.mass }) w h.table;
  factors = record { table = h.factors.table; are = h.factors.are; divisors = h.factors.divisors };
}

-- ---- the rows
-- the tables behind what is left of the torques
abbrev driven : View → View → View
driven u w =
    record u { w = w.w; z = w.z; x = w.x; O = w.O; K = w.K; J = w.J; g = w.g; Y = w.Y; Z = w.Z; pairs = w.pairs; e = w.e; lam = w.lam }

pub driving_stays : (tree : Tree) (row : Row) (u w : View) → AreDriving tree row u → AreDriving tree row (driven u w)
unfolding k_rule
driving_stays tree row u w h = record { each_k = h.each_k }

-- behind the table of rows
abbrev tabled : View → View → View
tabled u w = record u { w = w.w; z = w.z; x = w.x; g = w.g; Y = w.Y; Z = w.Z; pairs = w.pairs; e = w.e; lam = w.lam }

pub rows_stay : (tree : Tree) (k : Constraints Interval) (u w : View) → AreRows tree k u → AreRows tree k (tabled u w)
unfolding O_rule turn_by K_rule forces_by force_by J_rule ways_by way_from at_body leave
rows_stay tree k u w h = record { at_world = h.at_world; each_O = h.each_O; each_K = h.each_K; each_J = h.each_J }

-- behind their bias
abbrev biased : View → View → View
biased u w = record u { w = w.w; z = w.z; x = w.x; Y = w.Y; Z = w.Z; pairs = w.pairs; e = w.e; lam = w.lam }

pub bias_stays : (k : Constraints Interval) (u w : View) → AreBias k u → AreBias k (biased u w)
unfolding g_rule difference_by bias_by
bias_stays k u w h = record { each_g = h.each_g }

-- and behind their coupling
abbrev coupled : View → View → View
coupled u w = record u { w = w.w; z = w.z; x = w.x; e = w.e; lam = w.lam }

pub coupling_stays : (R : ℕ) (mu : ℕ → Interval) (u w : View) → HoldsCoupling R u u mu → HoldsCoupling R (coupled u w) (coupled u w) mu
coupling_stays R mu u w h = record {
  left = h.left;
  alone = h.alone;
  G = h.G;
  table = h.table;
  reduced = h.reduced;
  coupled = h.coupled;
  eliminated = h.eliminated;
  divisors = h.divisors;
}

pub constrained_stays : (tree : Tree) (row : Row) (k : Constraints Interval) (u w : View) → AreConstrained tree row k u → AreConstrained tree row k (coupled u w)
constrained_stays tree row k u w h = record {
  factored = factored_stays tree row u (coupled u w) h.factored;
  driving = driving_stays tree row u (coupled u w) h.driving;
  count = h.count;
  rows = rows_stay tree k u (coupled u w) h.rows;
  bias = bias_stays k u (coupled u w) h.bias;
  coupling = coupling_stays k.rows (compliances k) u w h.coupling;
}

-- what the factors find without forces, behind which are the sides, the forces and the accelerations
abbrev freed : View → View → View
freed u w = record u { x = w.x; e = w.e; lam = w.lam }

pub free_stays : (tree : Tree) (row : Row) (k : Constraints Interval) (u w : View) → AreFree tree row k u → AreFree tree row k (freed u w)
free_stays tree row k u w h = record {
  constrained = constrained_stays tree row k u (freed u w) h.constrained;
  reduced = record { left = h.reduced.left; is = h.reduced.is };
  divided = h.divided;
}

pub forced_stays : (tree : Tree) (row : Row) (k : Constraints Interval) (u : View) (x : List Interval) → AreForced tree row k u → AreForced tree row k (record u { x = x })
forced_stays tree row k u x h = record {
  free = free_stays tree row k u (record u { x = x }) h.free;
  sides = h.sides;
  row_sides = record { without = h.row_sides.without; total = h.row_sides.total; are = h.row_sides.are };
  row_forces = record {
    left = h.row_forces.left;
    reduced = h.row_forces.reduced;
    divided = h.row_forces.divided;
    part = h.row_forces.part;
    right_reduced = h.row_forces.right_reduced;
    right_divided = h.row_forces.right_divided;
    forces = h.row_forces.forces;
    kept = h.row_forces.kept;
  };
}
