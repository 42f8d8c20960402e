use Rattle.std.proofs.Common.{◌≡◌, ◌++◌, take, map}
use Rattle.rb_num.specs.Text.{iv_text}
use Rattle.rb_model.proofs.fields.Fields.put_ivs.Given as goal

abbrev pub invariant-loop-iv : goal.invariant-loop-iv
invariant-loop-iv l = l.self ≡ l.fn.self ++ map iv_text (take l.iv-index l.ivs)
