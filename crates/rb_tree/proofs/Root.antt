-- The constants of the root's joint.
use Rattle.std.proofs.Common.{None, Some, refl}
use Rattle.rb_tags.specs.declared.root.RootKind.TheVariants as Root
use Rattle.rb_trig.specs.Sine.{sin_cos_of, sine_of, cosine_of, sines, cosines, square_of, nested, step, divisor}
use Rattle.rb_trig.specs.Ends.{outward, products, squares, clamped}
use Rattle.rb_joint.specs.Frames.{sine_cosine_of, frame_by}
use Rattle.rb_joint.specs.Turns.{rotation, rotation_row_x, rotation_row_y, rotation_row_z}
use Rattle.rb_num.specs.Hull.{hull_of}
use Rattle.rb_num.specs.Dot.{iv_dot, dot_of, all_fit, products_fit, least_product, greatest_product}
use Rattle.rb_body.specs.Joint.{joint_by, plain_by}
use Rattle.rb_tree.specs.Parts.{joint_made}
use Rattle.rb_tree.specs.Laws.{RootStandsAtOrigin}

pub root_stands : RootStandsAtOrigin
unfolding joint_made joint_by plain_by frame_by sine_cosine_of rotation sin_cos_of sine_of cosine_of sines cosines square_of nested step divisor outward products squares clamped hull_of iv_dot dot_of all_fit products_fit least_product greatest_product rotation_row_x rotation_row_y rotation_row_z
root_stands None name at = refl
root_stands (Some Root.Fixed) name at = refl
root_stands (Some Root.Planar) name at = refl
root_stands (Some Root.Floating) name at = refl
