use Rattle.rb_tree.specs.Columns.{body_at}
use Rattle.rb_model.proofs.Parts.{link_of}
use Rattle.rb_model.proofs.lines.link_fields.Goals as goal

pub returns : goal.returns
returns c =
    link_of (body_at c.args.robot.now.bodies c.args.i) c.args.i c.link_name.result.now c.link_raw.result.now c.link_name.ensures.name c.link_raw.ensures c.new-fields.result c.put.new.self
    c.put_number.new.self c.put_name.new.self c.put_link.new.fields c.new-fields.ensures c.in_ok-put.ensures c.in_ok-put_number.ensures c.in_ok-put_name.ensures c.in_ok-put_link.ensures
