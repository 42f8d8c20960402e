use Rattle.std.proofs.Common.{IsUtf8, subst, sym}
use Rattle.rb_rows.proofs.TextLines.{line_is_text}
use Rattle.rb_rows.proofs.head.line_of.Goals as goal

pub text_of-requires : goal.text_of-requires
text_of-requires c = subst IsUtf8 (sym c.in_ok-line.ensures) (line_is_text c.args.names.now)
