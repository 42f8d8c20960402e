-- The text of a model is exactly its lines.
use Rattle.std.proofs.Common.{◌≡◌, ℕ, List, [], ◌∷◌, ◌++◌, map, flat_map, codes, refl, ap, ◌∙◌}
use Rattle.std.specs.List.{enumerate_from}
use Rattle.std.proofs.lemmas.List.{map-append}
use Rattle.csv.specs.Reading.{default_config, records, strip_bom}
use Rattle.csv.specs.Writing.{read_back}
use Rattle.rb_num.specs.Interval.{Interval}
use Rattle.rb_urdf.specs.declared.robot.UrdfKind.TheVariants.{Fixed, Revolute, Prismatic, Continuous, Planar, Floating}
use Rattle.rb_urdf.specs.Joints.{kind_named}
use Rattle.rb_tree.specs.declared.robot.Body.{Body}
use Rattle.rb_tree.specs.declared.groups.BodyGroup.{BodyGroup}
use Rattle.rb_tree.specs.Robot.{Tree}
use Rattle.rb_model.specs.Model.{joint_fields, link_fields, body_lines, group_fields, position_fields, model_fields, model_text}
use Rattle.rb_model.specs.Laws.{ModelReadsBack, KindReadsBack}
use Rattle.rb_model.proofs.ReadingBack.{text_read}

-- no line is without fields
bodies_kept : (numbered : List (ℕ × Body)) → map read_back (flat_map body_lines numbered) ≡ flat_map body_lines numbered
unfolding joint_fields link_fields
bodies_kept [] = refl
bodies_kept (first ∷ rest) = ap (λ lines. joint_fields first.0 first.1 ∷ link_fields first.0 first.1 ∷ lines) (bodies_kept rest)

groups_kept : (groups : List BodyGroup) → map read_back (map group_fields groups) ≡ map group_fields groups
unfolding group_fields
groups_kept [] = refl
groups_kept (group ∷ groups) = ap (λ lines. group_fields group ∷ lines) (groups_kept groups)

last_kept : (q : List Interval) → read_back (position_fields q) ≡ position_fields q
unfolding position_fields
last_kept q = refl

lines_kept : (tree : Tree) (q : List Interval) → map read_back (model_fields tree q) ≡ model_fields tree q
unfolding model_fields
lines_kept tree q =
    let bodies = flat_map body_lines (enumerate_from 1 tree.bodies) in
    let groups = map group_fields tree.groups in
    ap (λ lines. (codes "robot" ∷ tree.name ∷ []) ∷ lines) (
    map-append read_back (bodies ++ groups) (position_fields q ∷ [])
    ∙ ap (λ lines. lines ++ read_back (position_fields q) ∷ []) (map-append read_back bodies groups)
    ∙ (λ k. (bodies_kept (enumerate_from 1 tree.bodies) k ++ groups_kept tree.groups k) ++ last_kept q k ∷ [])
    )

-- the first byte is of ASCII
no_mark : (tree : Tree) (q : List Interval) → strip_bom (model_text tree q) ≡ model_text tree q
unfolding model_text model_fields strip_bom
no_mark tree q = refl

pub model_reads_back : ModelReadsBack
unfolding model_text
model_reads_back tree q = ap (records default_config) (no_mark tree q) ∙ text_read (model_fields tree q) ∙ lines_kept tree q

pub kind_reads_back : KindReadsBack
unfolding kind_named
kind_reads_back Fixed = refl
kind_reads_back Revolute = refl
kind_reads_back Prismatic = refl
kind_reads_back Continuous = refl
kind_reads_back Planar = refl
kind_reads_back Floating = refl
