-- What the passes do, in their order, over the lists of a work. `n` and `R` count the columns and the rows, `room` the rows that there is room for.
use Rattle.std.specs.Prelude.{ℕ, ◌+◌, ◌*◌, ◌==◌, if◌then◌else◌, List, length, slice_set, slice_index_or, Result, Ok}
use Rattle.rb_result.specs.Steps.{◌>>=◌}
use Rattle.rb_num.specs.Interval.{Interval, zero_interval, negative_of}
use Rattle.rb_num.specs.Dot.{iv_dot}
use Rattle.rb_num.specs.Refusing.{iv_add, iv_div}
use Rattle.rb_num.specs.declared.interval.NumFault.{NumFault}
use Rattle.rb_sweep.specs.Sweep.{sweep, upward, downward}
use Rattle.rb_work.specs.declared.names.NameKind.TheVariants as K
use Rattle.rb_work.specs.declared.names.RowFault.{RowFault}
use Rattle.rb_work.specs.Names.{one, two, named_as, pivot_as}
use Rattle.rb_work.specs.Path.{above, path}
use Rattle.rb_factor.specs.Steps.{lessened}
use Rattle.rb_factor.specs.Sweeps.{entry_at, number_at}
use Rattle.rb_coupling.specs.Steps.{pairs_of, of_row}

-- where the number of a row and a column stands, and that of two rows; what stands there
abbrev pub place_of : ℕ → ℕ → ℕ → ℕ
place_of n r c = r * (n + 1) + c

abbrev pub cell_at : ℕ → List Interval → ℕ → ℕ → Interval
cell_at n cells r c = slice_index_or cells (place_of n r c) zero_interval

-- ---- rows
-- the row table is copied, column by column
unfoldable pub copy_step : ℕ → List Interval → ℕ → ℕ → List Interval → Result (List Interval) RowFault
copy_step n J r c Y = Ok (slice_set Y (place_of n r c) (cell_at n J r c))

-- the number of d in row r is lessened by that of c, which is own
unfoldable pub take_step : List ℕ → List Interval → ℕ → ℕ → Interval → ℕ → List Interval → Result (List Interval) RowFault
take_step up table r c own d Y =
    named_as (one K.Y r) (lessened (cell_at (length up) Y r d) (entry_at up table c d) own) >>= λ v. Ok (slice_set Y (place_of (length up) r d) v)

unfoldable pub reduce_step : List ℕ → List Interval → ℕ → ℕ → List Interval → Result (List Interval) RowFault
reduce_step up table r c Y = sweep (take_step up table r c (cell_at (length up) Y r c)) (path up (above up c)) Y

abbrev pub copied_of : List ℕ → List Interval → ℕ → List Interval → Result (List Interval) RowFault
copied_of up J r Y = sweep (copy_step (length up) J r) (upward 1 (length up + 1)) Y

abbrev pub reduced_of : List ℕ → List Interval → ℕ → List Interval → Result (List Interval) RowFault
reduced_of up table r Y = sweep (reduce_step up table r) (downward 1 (length up + 1)) Y

-- the number of c in row r is divided by its pivot
unfoldable pub divide_step : List ℕ → List Interval → List Interval → ℕ → ℕ → List Interval → Result (List Interval) RowFault
divide_step up table Y r c Z =
    named_as (one K.Z r) (iv_div (cell_at (length up) Y r c) (entry_at up table c c)) >>= λ q. Ok (slice_set Z (place_of (length up) r c) q)

abbrev pub divided_of : List ℕ → List Interval → List Interval → ℕ → List Interval → Result (List Interval) RowFault
divided_of up table Y r Z = sweep (divide_step up table Y r) (upward 1 (length up + 1)) Z

-- Y and Z
unfoldable pub row_step : List ℕ → List Interval → List Interval → ℕ → List Interval × List Interval → Result (List Interval × List Interval) RowFault
row_step up table J r s =
    copied_of up J r s.0 >>= λ c. reduced_of up table r c >>= λ Y. divided_of up table Y r s.1 >>= λ Z. Ok (Y, Z)

abbrev pub rows_of : List ℕ → ℕ → List Interval → List Interval → List Interval × List Interval → Result (List Interval × List Interval) RowFault
rows_of up R table J s = sweep (row_step up table J) (upward 1 (R + 1)) s

-- ---- their coupling
unfoldable pub entry_of : ℕ → List Interval → List Interval → List Interval → ℕ → ℕ → Result Interval NumFault
entry_of n mus Y Z q r =
    iv_dot (pairs_of (cell_at n Y r) (cell_at n Z q) n) >>= λ t. if r == q then iv_add t (of_row mus q) else Ok t

unfoldable pub couple_step : ℕ → ℕ → List Interval → List Interval → List Interval → ℕ → ℕ → List Interval → Result (List Interval) RowFault
couple_step n room mus Y Z q r pairs = named_as (two K.G q r) (entry_of n mus Y Z q r) >>= λ v. Ok (slice_set pairs (place_of room q r) v)

unfoldable pub couple_row_step : ℕ → ℕ → List Interval → List Interval → List Interval → ℕ → List Interval → Result (List Interval) RowFault
couple_row_step n room mus Y Z q pairs = sweep (couple_step n room mus Y Z q) (upward 1 (q + 1)) pairs

abbrev pub coupled_of : ℕ → ℕ → ℕ → List Interval → List Interval → List Interval → List Interval → Result (List Interval) RowFault
coupled_of n room R mus Y Z pairs = sweep (couple_row_step n room mus Y Z) (upward 1 (R + 1)) pairs

-- ---- its elimination
-- the entry of q in column r is divided by the pivot p, and column 0 keeps what it was
unfoldable pub quotient_step : ℕ → ℕ → Interval → ℕ → List Interval → Result (List Interval) RowFault
quotient_step room r p q pairs =
    named_as (two K.l q r) (iv_div (cell_at room pairs q r) p) >>= λ v.
    Ok (slice_set (slice_set pairs (place_of room q 0) (cell_at room pairs q r)) (place_of room q r) v)

abbrev pub quotients_of : ℕ → ℕ → ℕ → Interval → List Interval → Result (List Interval) RowFault
quotients_of room R r p pairs = sweep (quotient_step room r p) (upward (r + 1) (R + 1)) pairs

-- the entry of q and t is lessened by the quotient of q times what t had
unfoldable pub update_step : ℕ → ℕ → ℕ → ℕ → List Interval → Result (List Interval) RowFault
update_step room r q t pairs =
    named_as (two K.l q r) (lessened (cell_at room pairs q t) (cell_at room pairs q r) (cell_at room pairs t 0)) >>= λ v.
    Ok (slice_set pairs (place_of room q t) v)

unfoldable pub update_row_step : ℕ → ℕ → ℕ → List Interval → Result (List Interval) RowFault
update_row_step room r q pairs = sweep (update_step room r q) (upward (r + 1) (q + 1)) pairs

abbrev pub updates_of : ℕ → ℕ → ℕ → List Interval → Result (List Interval) RowFault
updates_of room R r pairs = sweep (update_row_step room r) (upward (r + 1) (R + 1)) pairs

unfoldable pub eliminate_step : ℕ → ℕ → ℕ → List Interval → Result (List Interval) RowFault
eliminate_step room R r pairs = pivot_as (one K.C r) (cell_at room pairs r r) >>= λ p. quotients_of room R r p pairs >>= λ t. updates_of room R r t

abbrev pub eliminated_of : ℕ → ℕ → List Interval → Result (List Interval) RowFault
eliminated_of room R pairs = sweep (eliminate_step room R) (upward 1 (R + 1)) pairs

-- Y, Z and the pairs
unfoldable pub couple_of : List ℕ → ℕ → ℕ → List Interval → List Interval → List Interval → List Interval × List Interval × List Interval → Result (List Interval × List Interval × List Interval) RowFault
couple_of up room R table J mus s =
    rows_of up R table J (s.0, s.1) >>= λ t. coupled_of (length up) room R mus t.0 t.1 s.2 >>= λ G. eliminated_of room R G >>= λ pairs. Ok (t.0, t.1, pairs)

-- ---- forces
-- start, and the sum of the products
unfoldable pub total_of : Interval → ℕ → (ℕ → Interval) → (ℕ → Interval) → Result Interval NumFault
total_of start n a b = iv_dot (pairs_of a b n) >>= λ t. iv_add start t

unfoldable pub side_step : ℕ → List Interval → List Interval → List Interval → ℕ → List Interval → Result (List Interval) RowFault
side_step n Y z g r e =
    named_as (one K.e r) (total_of (number_at g r) n (cell_at n Y r) (number_at z)) >>= λ t. Ok (slice_set e r (negative_of t))

abbrev pub sides_of : ℕ → ℕ → List Interval → List Interval → List Interval → List Interval → Result (List Interval) RowFault
sides_of n R Y z g e = sweep (side_step n Y z g) (upward 1 (R + 1)) e

-- the right side of q is lessened by that of r, which is own
unfoldable pub lessen_step : ℕ → List Interval → ℕ → Interval → ℕ → List Interval → Result (List Interval) RowFault
lessen_step room pairs r own q e = named_as (one K.e r) (lessened (number_at e q) (cell_at room pairs q r) own) >>= λ v. Ok (slice_set e q v)

unfoldable pub lessen_row_step : ℕ → ℕ → List Interval → ℕ → List Interval → Result (List Interval) RowFault
lessen_row_step room R pairs r e = sweep (lessen_step room pairs r (number_at e r)) (upward (r + 1) (R + 1)) e

abbrev pub right_reduced_of : ℕ → ℕ → List Interval → List Interval → Result (List Interval) RowFault
right_reduced_of room R pairs e = sweep (lessen_row_step room R pairs) (upward 1 (R + 1)) e

unfoldable pub right_divide_step : ℕ → List Interval → ℕ → List Interval → Result (List Interval) RowFault
right_divide_step room pairs r e = named_as (one K.e r) (iv_div (number_at e r) (cell_at room pairs r r)) >>= λ q. Ok (slice_set e r q)

abbrev pub right_divided_of : ℕ → ℕ → List Interval → List Interval → Result (List Interval) RowFault
right_divided_of room R pairs e = sweep (right_divide_step room pairs) (upward 1 (R + 1)) e

-- what is left of row r is lessened by the force of q
unfoldable pub part_step : ℕ → List Interval → List Interval → ℕ → ℕ → Interval → Result Interval NumFault
part_step room pairs lam r q part = lessened part (cell_at room pairs q r) (number_at lam q)

abbrev pub part_of : ℕ → ℕ → List Interval → List Interval → List Interval → ℕ → Result Interval NumFault
part_of room R pairs e lam r = sweep (part_step room pairs lam r) (upward (r + 1) (R + 1)) (number_at e r)

unfoldable pub force_step : ℕ → ℕ → List Interval → List Interval → ℕ → List Interval → Result (List Interval) RowFault
force_step room R pairs e r lam = named_as (one K.lam r) (part_of room R pairs e lam r) >>= λ v. Ok (slice_set lam r v)

abbrev pub forces_of : ℕ → ℕ → List Interval → List Interval → List Interval → Result (List Interval) RowFault
forces_of room R pairs e lam = sweep (force_step room R pairs e) (downward 1 (R + 1)) lam

-- the right side of each row becomes its force
unfoldable pub keep_step : List Interval → ℕ → List Interval → Result (List Interval) RowFault
keep_step lam r e = Ok (slice_set e r (number_at lam r))

abbrev pub kept_of : ℕ → List Interval → List Interval → Result (List Interval) RowFault
kept_of R lam e = sweep (keep_step lam) (upward 1 (R + 1)) e

-- the right side and the forces
unfoldable pub row_forces_of : ℕ → ℕ → List Interval → List Interval × List Interval → Result (List Interval × List Interval) RowFault
row_forces_of room R pairs s =
    right_reduced_of room R pairs s.0 >>= λ r. right_divided_of room R pairs r >>= λ d. forces_of room R pairs d s.1 >>= λ lam.
    kept_of R lam d >>= λ e. Ok (e, lam)

-- what the forces add to the number of c
unfoldable pub add_step : ℕ → ℕ → List Interval → List Interval → ℕ → List Interval → Result (List Interval) RowFault
add_step n R Y lam c w =
    named_as (one K.w c) (total_of (number_at w c) R (λ r. cell_at n Y r c) (number_at lam)) >>= λ t. Ok (slice_set w c t)

abbrev pub added_of : ℕ → ℕ → List Interval → List Interval → List Interval → Result (List Interval) RowFault
added_of n R Y lam w = sweep (add_step n R Y lam) (upward 1 (n + 1)) w
