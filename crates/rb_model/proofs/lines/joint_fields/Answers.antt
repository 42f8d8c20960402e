use Rattle.rb_tree.specs.Columns.{body_at}
use Rattle.rb_model.proofs.Parts.{joint_of}
use Rattle.rb_model.proofs.lines.joint_fields.Goals as goal

pub returns : goal.returns
returns c =
    joint_of (body_at c.args.robot.now.bodies c.args.i) c.args.i c.parent.result c.joint_name.result.now c.joint_raw.result.now c.mimic_of.result c.parent.ensures.parent
    c.joint_name.ensures.name c.joint_raw.ensures.raw c.mimic_of.ensures.mimic c.new-fields.result c.put.new.self c.put_number.new.self c.put_number-2.new.self c.put_name.new.self
    c.put_joint.new.fields c.put_mimic.new.fields c.new-fields.ensures c.in_ok-put.ensures c.in_ok-put_number.ensures c.in_ok-put_number-2.ensures c.in_ok-put_name.ensures
    c.in_ok-put_joint.ensures c.in_ok-put_mimic.ensures
