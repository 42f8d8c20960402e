-- The mass table: each of its entries gathers those of the pairs of joint columns that are or follow its two columns. Featherstone, Rigid Body
-- Dynamics Algorithms, chapter 6.
use Rattle.std.specs.Prelude.{◌≡◌, ℕ, ◌+◌, ◌≤◌, ◌==◌, ◌&&◌, ◌||◌, not, Bool, if◌then◌else◌, List, [], ◌∷◌, length, map, Result, Ok}
use Rattle.std.specs.List.{list_any}
use Rattle.std.specs.Option.{option_map_or}
use Rattle.rb_num.specs.Interval.{Interval, zero_interval, one_interval}
use Rattle.rb_num.specs.Dot.{iv_dot}
use Rattle.rb_num.specs.Refusing.{iv_add}
use Rattle.rb_num.specs.declared.interval.NumFault.{NumFault}
use Rattle.rb_result.specs.Steps.{◌>>=◌}
use Rattle.rb_sweep.specs.Sweep.{sweep, upward, downward}
use Rattle.rb_flat.specs.Dynamics.{follows}
use Rattle.rb_work.specs.declared.names.NameKind.TheVariants as K
use Rattle.rb_work.specs.declared.names.RowFault.{RowFault}
use Rattle.rb_work.specs.Names.{two, named_as}
use Rattle.rb_work.specs.Path.{IsOn}
use Rattle.rb_work.specs.View.{View, M_at}
use Rattle.rb_tree.specs.declared.robot.Body.{Body}
use Rattle.rb_tree.specs.Columns.{column_count, full_at, first_column, body_of_column, up_of}
use Rattle.rb_tree.specs.Numbers.{mimic_at}
use Rattle.rb_tree.specs.Shape.{master_of}
use Rattle.rb_tree.specs.Robot.{Tree}
use Rattle.rb_mass.specs.Entries.{above, met_columns, entry_at}

-- the columns upward, from column 1 on
abbrev pub ups_of : Tree → List ℕ
ups_of tree = map (up_of tree.bodies) (upward 1 (column_count tree.bodies + 1))

-- columns c and d, c the same as d or one of its ancestors
pub record HasPair (tree : Tree) (c d : ℕ) : Type 0 where
  pub from : 1 ≤ c
  pub order : c ≤ d
  pub to : d ≤ column_count tree.bodies
  pub on : IsOn (ups_of tree) d c

-- the column that column k of the joint of body i is or follows
abbrev pub column_of : List Body → ℕ → ℕ → ℕ
column_of bodies i k = first_column bodies i + k

-- whether some joint follows that of column c
abbrev pub is_led : List Body → ℕ → Bool
is_led bodies c = list_any (λ j. follows (master_of (mimic_at bodies j)) (body_of_column bodies c)) (upward 1 (length bodies + 1))

-- by how much the joint of body i follows another, or one
abbrev pub multiplier_at : List Body → ℕ → Interval
multiplier_at bodies i = option_map_or (λ mimic. mimic.multiplier) (mimic_at bodies i) one_interval

-- a number times the multipliers of the joints of bodies i and a
unfoldable pub weighed : List Body → ℕ → ℕ → Interval → Result Interval NumFault
weighed bodies i a x = iv_dot ((multiplier_at bodies i, multiplier_at bodies a) ∷ []) >>= λ m. iv_dot ((m, x) ∷ [])

-- a number, or twice that
unfoldable pub twice_if : Bool → Interval → Result Interval NumFault
twice_if both x = if both then iv_add x x else Ok x

-- what the entry of columns k of body i and l of body a adds to that of c and d: itself, or where a joint follows that of c or d, times the
-- multipliers, and twice where c is d and the two are not one, since each order of them counts
unfoldable pub pair_adds : List Body → ℕ → ℕ → ℕ → ℕ → ℕ → ℕ → Interval → Result Interval NumFault
pair_adds bodies c d i k a l entry =
    if is_led bodies c || is_led bodies d
    then (weighed bodies i a entry >>= λ x. twice_if (c == d && not (a == i && l == k)) x)
    else Ok entry

-- one of the two is or follows c, and the other d
abbrev pub is_pair : List Body → ℕ → ℕ → ℕ → ℕ → ℕ → ℕ → Bool
is_pair bodies c d i k a l =
    (column_of bodies i k == c && column_of bodies a l == d) || (column_of bodies i k == d && column_of bodies a l == c)

-- one more column l of body a
unfoldable pub add_pair : List Body → View → ℕ → ℕ → ℕ → ℕ → ℕ → ℕ → Interval → Result Interval NumFault
add_pair bodies w c d i k a l sum =
    if is_pair bodies c d i k a l then (pair_adds bodies c d i k a l (entry_at bodies w i k a l) >>= λ x. iv_add sum x) else Ok sum

-- those of body a, descending
unfoldable pub add_body : List Body → View → ℕ → ℕ → ℕ → ℕ → ℕ → Interval → Result Interval NumFault
add_body bodies w c d i k a sum = sweep (add_pair bodies w c d i k a) (downward 0 (met_columns bodies i k a)) sum

-- one more column k of body i, if it is or follows c or d: it is paired with itself, and upward with those that are met above it
unfoldable pub add_column : Tree → View → ℕ → ℕ → ℕ → ℕ → Interval → Result Interval NumFault
add_column tree w c d i k sum =
    if column_of tree.bodies i k == c || column_of tree.bodies i k == d
    then sweep (λ n. add_body tree.bodies w c d i k (above tree i n)) (upward 0 (length tree.bodies)) sum
    else Ok sum

-- those of body i, ascending
unfoldable pub add_joint : Tree → View → ℕ → ℕ → ℕ → Interval → Result Interval NumFault
add_joint tree w c d i sum = sweep (add_column tree w c d i) (upward 0 (full_at tree.bodies i)) sum

-- M[c.d]: over the columns of all joints, ascending
unfoldable pub M_rule : Tree → ℕ → ℕ → View → Result Interval RowFault
M_rule tree c d w = named_as (two K.M c d) (sweep (add_joint tree w c d) (upward 1 (length tree.bodies + 1)) zero_interval)

-- each value is what its rule gives
pub record AreMasses (tree : Tree) (w : View) : Type 0 where
  pub each_M : (c d : ℕ) → HasPair tree c d → M_rule tree c d w ≡ Ok (M_at w c d)
