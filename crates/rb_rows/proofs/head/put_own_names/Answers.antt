use Rattle.rb_rows.specs.Head.{row_name}
use Rattle.rb_rows.proofs.RowNames.{own_put}
use Rattle.rb_rows.proofs.head.put_own_names.Goals as goal

pub returns : goal.returns
returns c =
    own_put (row_name c.args.c.now) c.args.c.now.axes _ _ _ _ _ _ _ c.in_ok-put_row_name.ensures c.in_ok-put_row_name-2.ensures c.in_ok-put_row_name-3.ensures
    c.in_ok-put_row_name-4.ensures c.in_ok-put_row_name-5.ensures c.in_ok-put_row_name-6.ensures
