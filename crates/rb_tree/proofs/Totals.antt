-- Columns so far, and the joint that passes the most.
use Rattle.std.proofs.Common.{◌≡◌, ◌<◌, ◌≤◌, ◌+◌, ℕ, List, Some, length, take, ap, arith}
use Rattle.std.specs.List.{sum_by}
use Rattle.std.proofs.lemmas.List.Sums.{sum_by_more}
use Rattle.std.proofs.lemmas.Option.{slice_get-get_or}
use Rattle.rb_urdf.specs.declared.robot.UrdfJoint.{UrdfJoint}
use Rattle.rb_tree.specs.declared.sizes.TheConstants.{MAX_COLUMNS}
use Rattle.rb_tree.specs.declared.order.Stem.{Stem}
use Rattle.rb_tree.specs.Order.{no_stem}
use Rattle.rb_tree.specs.Sizes.{bearer_of, columns_of, bearer_columns, stem_columns, PassColumns}
use Rattle.rb_tree.specs.Grow.{stem_at}

pub pass_columns : (root : UrdfJoint) (joints : List UrdfJoint) (stems : List Stem) (i : ℕ) (joint : UrdfJoint) (total more at : ℕ) → i < length stems →
    bearer_of root joints (stem_at stems i).joint ≡ Some joint → at ≡ joint.place → sum_by (stem_columns root joints) (take i stems) ≡ total → total ≤ MAX_COLUMNS →
    more ≡ columns_of joint.kind → MAX_COLUMNS < total + more → PassColumns root joints stems at
pass_columns root joints stems i joint total more at within bears place so_far few more_is passed =
    let e = sum_by_more (stem_columns root joints) stems i no_stem within in
    let f : stem_columns root joints (stem_at stems i) ≡ columns_of joint.kind = ap bearer_columns bears in
    record {
      number = i;
      stem = stem_at stems i;
      stem_is = slice_get-get_or stems i no_stem within;
      joint = joint;
      bears = bears;
      place = place;
      before = omega arith;
      passed = omega (arith, e, f);
    }
