-- What stays as it is where other tables of a work change.
use Rattle.std.proofs.Common.{List}
use Rattle.rb_num.specs.Interval.{Interval}
use Rattle.rb_flat.specs.Contact.{Constraints}
use Rattle.rb_work.specs.View.{View}
use Rattle.rb_tree.specs.Robot.{Tree}
use Rattle.rb_tree.specs.State.{Row}
use Rattle.rb_tree.specs.Places.{X_rule, ArePlaces}
use Rattle.rb_mass.specs.Inertias as Inertias
use Rattle.rb_mass.specs.Inertias.{I_rule}
use Rattle.rb_mass.specs.Entries as Entries
use Rattle.rb_mass.specs.Entries.{H_rule, carried_rule}
use Rattle.rb_mass.specs.Table as Table
use Rattle.rb_mass.specs.Table.{M_rule}
use Rattle.rb_mass.specs.Mass.{AreMass}
use Rattle.rb_constraint.specs.Rows.{O_rule, turn_by, K_rule, forces_by, force_by, J_rule, ways_by, way_from, at_body, leave, AreRows}
use Rattle.rb_impact.specs.Sides.{e_rule, AreSides}
use Rattle.rb_impact.specs.Pushes.{w_rule, ArePushes}
use Rattle.rb_impact.specs.Impact.{AreFactored, AreMet, AreStruck, AreChanged}

pub places_stay : (tree : Tree) (row : Row) (u : View) (packed : List Interval) → ArePlaces tree row u → ArePlaces tree row (record u { packed = packed })
unfolding X_rule
places_stay tree row u packed h = record { each_q = h.each_q; each_X = h.each_X }

-- the tables behind those of the mass table
abbrev found : View → View → View
found u w =
    record u { w = w.w; z = w.z; x = w.x; O = w.O; K = w.K; J = w.J; Y = w.Y; Z = w.Z; pairs = w.pairs; e = w.e; lam = w.lam; y = w.y }

found_places : (tree : Tree) (row : Row) (u w : View) → ArePlaces tree row u → ArePlaces tree row (found u w)
unfolding X_rule
found_places tree row u w h = record { each_q = h.each_q; each_X = h.each_X }

mass_stays : (tree : Tree) (u w : View) → AreMass tree u → AreMass tree (found u w)
unfolding I_rule Inertias.add_child Inertias.bear H_rule carried_rule Entries.force Entries.leave M_rule Table.add_joint Table.add_column Table.add_body Table.add_pair
mass_stays tree u w h = record {
  inertias = record { each_I = h.inertias.each_I };
  entries = record { each_H = h.entries.each_H; each_carried = h.entries.each_carried };
  masses = record { each_M = h.masses.each_M };
}

pub factored_stays : (tree : Tree) (row : Row) (u w : View) → AreFactored tree row u → AreFactored tree row (found u w)
factored_stays tree row u w h = record {
  room = record { bodies = h.room.bodies; full = h.room.full; up = h.room.up };
  places = found_places tree row u w h.places;
  mass = h.mass;
  table = mass_stays tree (record u { packed = h.mass }) w h.table;
  factors = record { table = h.factors.table; are = h.factors.are; divisors = h.factors.divisors };
}

-- behind the table of rows
abbrev tabled : View → View → View
tabled u w = record u { w = w.w; z = w.z; x = w.x; Y = w.Y; Z = w.Z; pairs = w.pairs; e = w.e; lam = w.lam; y = w.y }

pub rows_stay : (tree : Tree) (k : Constraints Interval) (u w : View) → AreRows tree k u → AreRows tree k (tabled u w)
unfolding O_rule turn_by K_rule forces_by force_by J_rule ways_by way_from at_body leave
rows_stay tree k u w h = record { at_world = h.at_world; each_O = h.each_O; each_K = h.each_K; each_J = h.each_J }

-- and behind their coupling
abbrev coupled : View → View → View
coupled u w = record u { w = w.w; z = w.z; x = w.x; e = w.e; lam = w.lam; y = w.y }

pub met_stays : (tree : Tree) (row : Row) (k : Constraints Interval) (u w : View) → AreMet tree row k u → AreMet tree row k (coupled u w)
met_stays tree row k u w h = record {
  factored = factored_stays tree row u (coupled u w) h.factored;
  rows = rows_stay tree k u (coupled u w) h.rows;
  coupling = record {
    left = h.coupling.left;
    alone = h.coupling.alone;
    G = h.coupling.G;
    table = h.coupling.table;
    reduced = h.coupling.reduced;
    coupled = h.coupling.coupled;
    eliminated = h.coupling.eliminated;
    divisors = h.coupling.divisors;
  };
}

-- behind the impulses
abbrev pushed : View → View → View
pushed u w = record u { w = w.w; z = w.z; x = w.x; y = w.y }

sides_stay : (row : Row) (k : Constraints Interval) (u w : View) → AreSides row k u → AreSides row k (pushed u w)
unfolding e_rule
sides_stay row k u w h = record { each_e = h.each_e }

pub struck_stays : (tree : Tree) (row : Row) (k : Constraints Interval) (u w : View) → AreStruck tree row k u → AreStruck tree row k (pushed u w)
struck_stays tree row k u w h = record {
  met = met_stays tree row k u (pushed u w) h.met;
  sides = h.sides;
  gains = sides_stay row k (record u { e = h.sides }) w h.gains;
  impulses = record {
    left = h.impulses.left;
    reduced = h.impulses.reduced;
    divided = h.impulses.divided;
    part = h.impulses.part;
    right_reduced = h.impulses.right_reduced;
    right_divided = h.impulses.right_divided;
    forces = h.impulses.forces;
    kept = h.impulses.kept;
  };
}

pub pushes_stay : (tree : Tree) (k : Constraints Interval) (u : View) (z x y : List Interval) → ArePushes tree k u → ArePushes tree k (record u { z = z; x = x; y = y })
unfolding w_rule
pushes_stay tree k u z x y h = record { each_w = h.each_w }

pub changed_stays : (tree : Tree) (row : Row) (k : Constraints Interval) (u : View) (y : List Interval) → AreChanged tree row k u → AreChanged tree row k (record u { y = y })
changed_stays tree row k u y h = record {
  struck = struck_stays tree row k u (record u { y = y }) h.struck;
  pushes = pushes_stay tree k u u.z u.x y h.pushes;
  divided = h.divided;
  substituted = record { part = h.substituted.part; is = h.substituted.is };
}
