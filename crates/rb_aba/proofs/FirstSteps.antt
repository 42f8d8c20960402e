-- The sweeps that leave IA and p of a body as they are first found.
use Rattle.std.proofs.Common.{ℕ, ◌+◌, length, slice_set, Result, Ok}
use Rattle.rb_result.specs.Steps.{◌>>=◌}
use Rattle.rb_sweep.specs.Sweep.{sweep, downward}
use Rattle.rb_work.specs.declared.names.NameKind.TheVariants as K
use Rattle.rb_work.specs.declared.names.RowFault.{RowFault}
use Rattle.rb_work.specs.Names.{one, named_as}
use Rattle.rb_work.specs.View.{View, c_at}
use Rattle.rb_tree.specs.Robot.{Tree}
use Rattle.rb_tree.specs.State.{Row}
use Rattle.rb_rnea.specs.Accelerations.{c_rule}
use Rattle.rb_rnea.specs.Steps.{speeds_of}
use Rattle.rb_aba.specs.Articulated.{IA_rule, p_rule, handed_with}
use Rattle.rb_aba.specs.Steps.{Giving, giving, columns_of, downs_of}

unfoldable pub first_found : Tree → ℕ → View → Result Giving RowFault
first_found tree i w =
    c_rule tree i w >>= λ c.
    let w1 = record w { c = slice_set w.c i c } in
    IA_rule tree i w1 >>= λ inertia.
    let w2 = record w1 { IA = slice_set w1.IA i inertia } in
    p_rule tree i w2 >>= λ bias.
    Ok (giving (record w2 { p = slice_set w2.p i bias }) (inertia, bias))

unfoldable pub handed_found : ℕ → Giving → Result View RowFault
handed_found i s =
    let w = record s.0 { Ia = slice_set s.0.Ia i s.1.0 } in
    named_as (one K.pa i) (handed_with s.1 (c_at w i)) >>= λ pa.
    Ok (record w { pa = slice_set w.pa i pa })

unfoldable pub up_found : Tree → Row → ℕ → View → Result View RowFault
up_found tree row i w = first_found tree i w >>= λ first. (columns_of tree row i first >>= λ last. handed_found i last)

abbrev pub ups_found : Tree → Row → View → Result View RowFault
ups_found tree row w = sweep (up_found tree row) (downward 1 (length tree.bodies + 1)) w

abbrev pub sweeps_found : Tree → Row → View → Result View RowFault
sweeps_found tree row w = speeds_of tree row w >>= λ v. (ups_found tree row v >>= λ u. downs_of tree row u)
