-- What the passes do, in their order, over the packed table and the lists of columns of a work.
use Rattle.std.specs.Prelude.{ℕ, ◌+◌, List, length, slice_set, slice_index_or, Result, Ok}
use Rattle.rb_result.specs.Steps.{◌>>=◌}
use Rattle.rb_num.specs.Interval.{Interval, zero_interval, negative_of}
use Rattle.rb_num.specs.Refusing.{iv_div}
use Rattle.rb_num.specs.declared.interval.NumFault.{NumFault}
use Rattle.rb_sweep.specs.Sweep.{sweep, upward, downward}
use Rattle.rb_work.specs.declared.names.NameKind.TheVariants as K
use Rattle.rb_work.specs.declared.names.RowFault.{RowFault}
use Rattle.rb_work.specs.Names.{one, two, named_as, pivot_as}
use Rattle.rb_work.specs.Path.{above, path, packed_place}
use Rattle.rb_factor.specs.Steps.{with_product, lessened}

-- what stands in the packed table for a column and one on its path, and in a list for a column
abbrev pub entry_at : List ℕ → List Interval → ℕ → ℕ → Interval
entry_at up table c d = slice_index_or table (packed_place up c d) zero_interval

abbrev pub number_at : List Interval → ℕ → Interval
number_at numbers c = slice_index_or numbers c zero_interval

-- ---- factors
-- the entry of d and e is lessened by that of c and e; m is the negative of the quotient at c and d
unfoldable pub update_step : List ℕ → ℕ → ℕ → Interval → ℕ → List Interval → Result (List Interval) RowFault
update_step up c d m e table =
    named_as (two K.L c d) (with_product (entry_at up table d e) m (entry_at up table c e)) >>= λ r. Ok (slice_set table (packed_place up d e) r)

abbrev pub updates_of : List ℕ → ℕ → ℕ → Interval → List Interval → Result (List Interval) RowFault
updates_of up c d m table = sweep (update_step up c d m) (path up d) table

-- the row of d is lessened by that of c before the entry of c and d is divided by the pivot p
unfoldable pub entry_step : List ℕ → ℕ → Interval → ℕ → List Interval → Result (List Interval) RowFault
entry_step up c p d table =
    named_as (two K.L c d) (iv_div (entry_at up table c d) p) >>= λ q.
    updates_of up c d (negative_of q) table >>= λ t. Ok (slice_set t (packed_place up c d) q)

abbrev pub entries_of : List ℕ → ℕ → Interval → List Interval → Result (List Interval) RowFault
entries_of up c p table = sweep (entry_step up c p) (path up (above up c)) table

unfoldable pub column_step : List ℕ → ℕ → List Interval → Result (List Interval) RowFault
column_step up c table = pivot_as (one K.D c) (entry_at up table c c) >>= λ p. entries_of up c p table

abbrev pub factor_of : List ℕ → List Interval → Result (List Interval) RowFault
factor_of up table = sweep (column_step up) (downward 1 (length up + 1)) table

-- ---- solutions
-- the number of d is lessened by that of c, which is own
unfoldable pub take_step : List ℕ → List Interval → ℕ → Interval → ℕ → List Interval → Result (List Interval) RowFault
take_step up table c own d numbers =
    named_as (one K.w c) (lessened (number_at numbers d) (entry_at up table c d) own) >>= λ r. Ok (slice_set numbers d r)

unfoldable pub reduce_step : List ℕ → List Interval → ℕ → List Interval → Result (List Interval) RowFault
reduce_step up table c numbers = sweep (take_step up table c (number_at numbers c)) (path up (above up c)) numbers

abbrev pub reduce_of : List ℕ → List Interval → List Interval → Result (List Interval) RowFault
reduce_of up table numbers = sweep (reduce_step up table) (downward 1 (length up + 1)) numbers

unfoldable pub divide_step : List ℕ → List Interval → List Interval → ℕ → List Interval → Result (List Interval) RowFault
divide_step up table numbers c quotients =
    named_as (one K.z c) (iv_div (number_at numbers c) (entry_at up table c c)) >>= λ q. Ok (slice_set quotients c q)

abbrev pub divide_of : List ℕ → List Interval → List Interval → List Interval → Result (List Interval) RowFault
divide_of up table numbers quotients = sweep (divide_step up table numbers) (upward 1 (length up + 1)) quotients

-- what is left of the quotient of c is lessened by the number of d
unfoldable pub part_step : List ℕ → List Interval → List Interval → ℕ → ℕ → Interval → Result Interval NumFault
part_step up table numbers c d part = lessened part (entry_at up table c d) (number_at numbers d)

abbrev pub part_of : List ℕ → List Interval → List Interval → List Interval → ℕ → Result Interval NumFault
part_of up table quotients numbers c = sweep (part_step up table numbers c) (path up (above up c)) (number_at quotients c)

unfoldable pub substitute_step : List ℕ → List Interval → List Interval → ℕ → List Interval → Result (List Interval) RowFault
substitute_step up table quotients c numbers = named_as (one K.x c) (part_of up table quotients numbers c) >>= λ x. Ok (slice_set numbers c x)

abbrev pub substitute_of : List ℕ → List Interval → List Interval → List Interval → Result (List Interval) RowFault
substitute_of up table quotients numbers = sweep (substitute_step up table quotients) (upward 1 (length up + 1)) numbers
