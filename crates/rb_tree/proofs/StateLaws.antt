-- What a state keeps where numbers are set, and that the neutral state keeps it.
use Rattle.std.proofs.Common.{◌≡◌, ℕ, List, [], ◌∷◌, set, Option, None, Some, sym, subst, arith}
use Rattle.std.specs.List.{All}
use Rattle.std.proofs.lemmas.List.Elements.{All-set, All-nil, All-from_recursion, All-append, All-replicate}
use Rattle.rb_frac.specs.Ops.{V3}
use Rattle.rb_num.specs.Interval.{Interval, zero_interval, one_interval}
use Rattle.rb_flat.specs.Joint as Kinds
use Rattle.rb_flat.specs.Joint.{Kind}
use Rattle.rb_flat.specs.Choice.{IsOrdered, AreOrdered}
use Rattle.rb_joint.specs.Any.{kind_of}
use Rattle.rb_tree.specs.declared.robot.Body.{Body}
use Rattle.rb_tree.specs.declared.robot.Mimic.{Mimic}
use Rattle.rb_tree.specs.Columns.{column_count}
use Rattle.rb_tree.specs.Robot.{Tree}
use Rattle.rb_tree.specs.State.{Row, IsRow, neutral_entries, neutral_unless, neutral_of, neutral_position, neutral_under}

set_ordered : (numbers : List Interval) (k : ℕ) (iv : Interval) → IsOrdered iv → All IsOrdered numbers → All IsOrdered (set numbers k iv)
set_ordered numbers k iv h all = All-set IsOrdered numbers k iv h all

module _ (q v a tau : List Interval) (gravity : V3 Interval) (row : IsRow q v a tau gravity) where
  pub with_q : (k : ℕ) (iv : Interval) → IsOrdered iv → IsRow (set q k iv) v a tau gravity
  with_q k iv h = record {
    q_ordered = set_ordered q k iv h row.q_ordered;
    v_ordered = row.v_ordered;
    a_ordered = row.a_ordered;
    tau_ordered = row.tau_ordered;
    gravity_ordered = row.gravity_ordered;
  }

  pub with_v : (k : ℕ) (iv : Interval) → IsOrdered iv → IsRow q (set v k iv) a tau gravity
  with_v k iv h = record {
    q_ordered = row.q_ordered;
    v_ordered = set_ordered v k iv h row.v_ordered;
    a_ordered = row.a_ordered;
    tau_ordered = row.tau_ordered;
    gravity_ordered = row.gravity_ordered;
  }

  pub with_a : (k : ℕ) (iv : Interval) → IsOrdered iv → IsRow q v (set a k iv) tau gravity
  with_a k iv h = record {
    q_ordered = row.q_ordered;
    v_ordered = row.v_ordered;
    a_ordered = set_ordered a k iv h row.a_ordered;
    tau_ordered = row.tau_ordered;
    gravity_ordered = row.gravity_ordered;
  }

  pub with_tau : (k : ℕ) (iv : Interval) → IsOrdered iv → IsRow q v a (set tau k iv) gravity
  with_tau k iv h = record {
    q_ordered = row.q_ordered;
    v_ordered = row.v_ordered;
    a_ordered = row.a_ordered;
    tau_ordered = set_ordered tau k iv h row.tau_ordered;
    gravity_ordered = row.gravity_ordered;
  }

  pub with_gravity : (g : V3 Interval) → AreOrdered g → IsRow q v a tau g
  with_gravity g h = record {
    q_ordered = row.q_ordered;
    v_ordered = row.v_ordered;
    a_ordered = row.a_ordered;
    tau_ordered = row.tau_ordered;
    gravity_ordered = h;
  }

-- ---- the neutral state
pub zero_ordered : IsOrdered zero_interval
zero_ordered = omega arith

one_ordered : IsOrdered one_interval
one_ordered = omega arith

entries_ordered : (k : Kind) → All IsOrdered (neutral_entries k)
entries_ordered Kinds.Fixed = All-nil IsOrdered
entries_ordered Kinds.Revolute = All-from_recursion IsOrdered (neutral_entries Kinds.Revolute) (zero_ordered, tt)
entries_ordered Kinds.Continuous = All-from_recursion IsOrdered (neutral_entries Kinds.Continuous) (one_ordered, (zero_ordered, tt))
entries_ordered Kinds.Prismatic = All-from_recursion IsOrdered (neutral_entries Kinds.Prismatic) (zero_ordered, tt)
entries_ordered Kinds.Planar = All-from_recursion IsOrdered (neutral_entries Kinds.Planar) (zero_ordered, (zero_ordered, (one_ordered, (zero_ordered, tt))))
entries_ordered Kinds.Free = All-from_recursion IsOrdered (neutral_entries Kinds.Free) (zero_ordered, (zero_ordered, (zero_ordered, (zero_ordered, (zero_ordered, (zero_ordered, (one_ordered, tt)))))))

unless_ordered : (m : Option Mimic) (entries : List Interval) → All IsOrdered entries → All IsOrdered (neutral_unless m entries)
unless_ordered None entries h = h
unless_ordered (Some mimic) entries h = All-nil IsOrdered

position_ordered : (bodies : List Body) → All IsOrdered (neutral_position bodies)
position_ordered [] = All-nil IsOrdered
position_ordered (body ∷ rest) =
    All-append IsOrdered (neutral_of body) (neutral_position rest) (unless_ordered body.mimic _ (entries_ordered (kind_of body.joint))) (position_ordered rest)

pub neutral_row : (gravity : V3 Interval) (tree : Tree) (row : Row) → AreOrdered gravity → row ≡ neutral_under gravity tree → IsRow row.q row.v row.a row.tau row.gravity
unfolding neutral_under
neutral_row gravity tree row h e =
    let P : Row → Type 0 = λ r. IsRow r.q r.v r.a r.tau r.gravity in
    let n = column_count tree.bodies in
    subst P (sym e) (record {
      q_ordered = position_ordered tree.bodies;
      v_ordered = All-replicate IsOrdered n zero_interval zero_ordered;
      a_ordered = All-replicate IsOrdered n zero_interval zero_ordered;
      tau_ordered = All-replicate IsOrdered n zero_interval zero_ordered;
      gravity_ordered = h;
    })
