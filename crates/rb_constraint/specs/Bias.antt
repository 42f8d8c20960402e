-- What rows of constraints accelerate by, without accelerations of the joints. Featherstone, Rigid Body Dynamics Algorithms, chapter 8.
use Rattle.std.specs.Prelude.{◌≡◌, ℕ, ◌+◌, ◌≤◌, if◌then◌else◌, List, [], ◌∷◌, ◌++◌, length, flat_map, Result, Ok}
use Rattle.rb_num.specs.Interval.{Interval}
use Rattle.rb_num.specs.Dot.{iv_dot}
use Rattle.rb_num.specs.Refusing.{iv_sub}
use Rattle.rb_num.specs.Arith.{intervals}
use Rattle.rb_num.specs.declared.interval.NumFault.{NumFault}
use Rattle.rb_frac.specs.Ops.{V3}
use Rattle.rb_frac.specs.Tables.{row as row_in}
use Rattle.rb_frac.specs.Spatial.{Motion, Force}
use Rattle.rb_result.specs.Steps.{◌>>=◌}
use Rattle.rb_sweep.specs.Sweep.{upward}
use Rattle.rb_sweep.specs.Naming.{IsRefusedFirst}
use Rattle.rb_spatial.specs.Motions.{plus_cross, cross3, power, pairs, six_pairs}
use Rattle.rb_flat.specs.Contact as Flat
use Rattle.rb_flat.specs.Contact.{Constraints, HasRow}
use Rattle.rb_work.specs.declared.names.NameKind.TheVariants as K
use Rattle.rb_work.specs.declared.names.RowFault.{RowFault}
use Rattle.rb_work.specs.Names.{one, named_as}
use Rattle.rb_work.specs.View.{View, v_at, a_at, O_at, K_at, g_at}
use Rattle.rb_work.specs.Place.{Place, g_of, ValueOf, look, names}
use Rattle.rb_tree.specs.Robot.{Tree}
use Rattle.rb_constraint.specs.Rows.{first_force, second_force}

-- how a point of a body accelerates along the direction d, by this force of one along d at the point: that of the body, and the turn's own
unfoldable pub along : V3 Interval → Force Interval → V3 Interval → Motion Interval → Motion Interval → Result Interval NumFault
along d force point v a =
    plus_cross intervals v.lin v.ang point >>= λ speed.
    cross3 intervals v.ang speed >>= λ own.
    iv_dot (six_pairs force.lin a.lin force.ang a.ang ++ pairs d own)

-- of a row at body i, in which its point is this: along the axis, or about it
unfoldable pub bias_by : Flat.Row → View → ℕ → V3 Interval → Force Interval → Result Interval NumFault
bias_by line w i point force =
    if line.turns then power intervals (a_at w i) force else along (row_in (O_at w i) line.axis) force point (v_at w i) (a_at w i)

-- the first body's less the second's
unfoldable pub difference_by : Constraints Interval → ℕ → View → Result Interval NumFault
difference_by k r w =
    bias_by (k.row r) w (k.row r).first (k.numbers r).first_point (first_force w r) >>= λ x.
    bias_by (k.row r) w (k.row r).second (k.numbers r).second_point (second_force w r) >>= λ y.
    iv_sub x y

-- g[r]: how the row accelerates at the accelerations that the work holds
unfoldable pub g_rule : Constraints Interval → ℕ → View → Result Interval RowFault
g_rule k r w = named_as (one K.g r) (difference_by k r w)

-- each value is what its rule gives from the values that the work holds
pub record AreBias (k : Constraints Interval) (w : View) : Type 0 where
  pub each_g : (r : ℕ) → HasRow k r → g_rule k r w ≡ Ok (g_at w r)

-- ---- the names, in the order in which they are found
abbrev pub rule : Constraints Interval → (n : Place) → View → Result (ValueOf n) RowFault
rule k (g_of r) w = g_rule k r w
rule k n w = Ok (look n w)

abbrev pub order : Constraints Interval → List Place
order k = flat_map (λ r. g_of r ∷ []) (upward 1 (k.rows + 1))

-- two works have the same motions of bodies, turns and forces of rows
pub record SameMotions (tree : Tree) (k : Constraints Interval) (u w : View) : Type 0 where
  pub speed : (i : ℕ) → i ≤ length tree.bodies → v_at u i ≡ v_at w i
  pub acceleration : (i : ℕ) → i ≤ length tree.bodies → a_at u i ≡ a_at w i
  pub turn : (i : ℕ) → i ≤ length tree.bodies → O_at u i ≡ O_at w i
  pub forces : (r : ℕ) → HasRow k r → K_at u r ≡ K_at w r

-- there are values with what is given, in which the names before one are what their rules give, and the rule of that one refuses
pub record IsBiasRefused (tree : Tree) (k : Constraints Interval) (given : View) (e : RowFault) : Type 0 where
  pub values : View
  pub same : SameMotions tree k given values
  pub first : IsRefusedFirst (names (rule k) (order k)) values e

-- ---- laws
-- there is one answer, whatever works held but for what is given: the same values, or one refusal, and not both
pub record BiasHasOneAnswer (tree : Tree) (k : Constraints Interval) : Type 0 where
  pub values : (u w : View) (r : ℕ) → SameMotions tree k u w → AreBias k u → AreBias k w → HasRow k r → g_at u r ≡ g_at w r
  pub either : (u w : View) (e : RowFault) → SameMotions tree k u w → AreBias k u → IsBiasRefused tree k w e → ⊥
  pub refusal : (u w : View) (d e : RowFault) → SameMotions tree k u w → IsBiasRefused tree k u d → IsBiasRefused tree k w e → d ≡ e
