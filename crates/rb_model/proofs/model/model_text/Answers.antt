use Rattle.rb_model.proofs.Numbered.{whole_text}
use Rattle.rb_model.proofs.model.model_text.Goals as goal

pub returns : goal.returns
returns c =
    whole_text c.args.robot.now c.args.start.now.q c.in_ok-name_fields.field-0 c.in_ok-position_fields.field-0 c.new-text.result.items c.put_line-2.new.text.items c.put_bodies.new.text.items
    c.put_groups.new.text.items c.put_line-4.new.text.items c.in_ok-name_fields.ensures c.in_ok-position_fields.ensures c.new-text.ensures.items c.in_ok-put_line.ensures c.in_ok-put_bodies.ensures
    c.in_ok-put_groups.ensures c.in_ok-put_line-2.ensures
