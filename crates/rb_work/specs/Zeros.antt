-- The values of a new work: zeros throughout. They also stand where a table has no place.
use Rattle.std.specs.Prelude.{List, replicate}
use Rattle.rb_num.specs.Interval.{Interval, zero_interval}
use Rattle.rb_num.specs.Arith.{intervals, signs_of}
use Rattle.rb_frac.specs.Ops.{V3}
use Rattle.rb_frac.specs.Tables.{Table, Symmetric, nothing}
use Rattle.rb_frac.specs.Spatial.{Motion, Force, Place, Inertia}

abbrev pub zero_vector : V3 Interval
zero_vector = nothing (signs_of intervals)

-- of the configuration of a joint, and of its columns
unfoldable pub zero_entries : List Interval
zero_entries = replicate 7 zero_interval

unfoldable pub zero_columns : List Interval
zero_columns = replicate 6 zero_interval

unfoldable pub zero_motion : Motion Interval
zero_motion = record { lin = zero_vector; ang = zero_vector }

unfoldable pub zero_force : Force Interval
zero_force = record { lin = zero_vector; ang = zero_vector }

-- of the two bodies of a row
unfoldable pub zero_forces : List (Force Interval)
zero_forces = replicate 2 zero_force

unfoldable pub zero_table : Table Interval
zero_table = record { x = zero_vector; y = zero_vector; z = zero_vector }

unfoldable pub zero_place : Place Interval
zero_place = record { e = zero_table; r = zero_vector }

abbrev pub zero_symmetric : Symmetric Interval
zero_symmetric = record { xx = zero_interval; xy = zero_interval; xz = zero_interval; yy = zero_interval; yz = zero_interval; zz = zero_interval }

unfoldable pub zero_inertia : Inertia Interval
zero_inertia = record { a = zero_symmetric; b = zero_table; c = zero_symmetric }
