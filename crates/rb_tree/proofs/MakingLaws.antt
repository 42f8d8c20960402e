-- What is made of the links and the joints of a robot, body by body.
use Rattle.std.proofs.Common.{◌≡◌, ◌≢◌, ℕ, zero, suc, ◌+◌, ◌<◌, ◌≤◌, List, [], ◌∷◌, ◌++◌, length, take, get_or, Option, None, Some, ◌⊎◌, inl, inr, add-one, sym, ◌∙◌, ap, subst, refl, arith}
use Rattle.std.specs.List.{slice_get, sum_by, AllByRecursion, AllZip}
use Rattle.std.specs.Option.{option_map_or}
use Rattle.std.specs.Prelude.{Result, Ok, Err, IfOk, IfErr, IsErrAnd}
use Rattle.std.proofs.Math.Seq.{take-suc}
use Rattle.std.proofs.lemmas.Bool.{cases_order, cases_lt}
use Rattle.std.proofs.lemmas.Option.{get_or_from_slice_get, slice_get_within, same_Some}
use Rattle.std.proofs.lemmas.Slice.Zip.{AllZip-long}
use Rattle.rb_result.proofs.Results.{placed-ok}
use Rattle.rb_frac.specs.Spatial.{BodyInertia}
use Rattle.rb_num.specs.Interval.{Interval}
use Rattle.rb_spatial.specs.Vectors.{vector_of}
use Rattle.rb_trig.specs.Axis.{MakesUnit}
use Rattle.rb_flat.specs.Joint as Flat
use Rattle.rb_flat.specs.Choice.{LinkOrdered, JointOrdered}
use Rattle.rb_joint.specs.declared.any.AnyJoint.{AnyJoint}
use Rattle.rb_joint.specs.Any as Model
use Rattle.rb_urdf.specs.declared.robot.UrdfKind.{UrdfKind}
use Rattle.rb_urdf.specs.declared.robot.UrdfKind.TheVariants.{Fixed, Revolute, Prismatic, Continuous, Planar, Floating}
use Rattle.rb_urdf.specs.declared.robot.UrdfLink.{UrdfLink}
use Rattle.rb_urdf.specs.declared.robot.UrdfJoint.{UrdfJoint}
use Rattle.rb_urdf.specs.declared.robot.UrdfMimic.{UrdfMimic}
use Rattle.rb_urdf.specs.Robot.{Robot, IsRobot, HasMaster, FollowsWell}
use Rattle.rb_urdf.proofs.Zips.{beside_left, each-pair, each-right}
use Rattle.rb_body.specs.declared.raw.LinkRaw.{LinkRaw}
use Rattle.rb_body.specs.declared.raw.JointRaw.{JointRaw}
use Rattle.rb_body.specs.Raw as Raw
use Rattle.rb_body.specs.Raw.{HasAxis, link_brackets, joint_brackets}
use Rattle.rb_body.specs.Inertia.{inertia_by}
use Rattle.rb_body.specs.Joint.{joint_by, HasNumbers}
use Rattle.rb_body.proofs.Models.{joint_answer}
use Rattle.rb_tree.specs.declared.faults.TreeFault.{TreeFault}
use Rattle.rb_tree.specs.declared.order.Stem.{Stem}
use Rattle.rb_tree.specs.declared.robot.Body.{Body}
use Rattle.rb_tree.specs.declared.robot.Mimic.{Mimic}
use Rattle.rb_tree.specs.Faults.{no_memory}
use Rattle.rb_tree.specs.Names.{ShareName}
use Rattle.rb_tree.specs.Sizes.{columns_of, bearer_of, bearer_columns, stem_columns, HasOwnRootName, HaveOwnNames}
use Rattle.rb_tree.specs.Order.{no_stem, stem_of, IsOrder, IsAccepted}
use Rattle.rb_tree.specs.Columns.{full_columns, own_columns, unless_mimic, mimic_or, parent_at, body_at}
use Rattle.rb_tree.specs.Robot.{IsAxisKept, IsBodyKept, HasOwnJointName, FollowsMaster, AreBodies}
use Rattle.rb_tree.specs.Parts.{fault_at, raw_of, inertia_made, joint_made, IsMadeOf, IsRefusedAt}
use Rattle.rb_tree.specs.Build.{IsPair, IsFollowing, Follows, IsBody, AreBuilt, IsJointThere, IsStemThere, IsMimicOrdered, IsBodyOf}
use Rattle.rb_tree.specs.Refusals.{HasConstants, IsRefused, HasConstantFault}
use Rattle.rb_tree.proofs.Borne.{bearer_well}
use Rattle.rb_tree.proofs.Shapes.{body_there}
use Rattle.std.proofs.lemmas.List.Sums.{sum_by-cons}
use Rattle.rb_tree.proofs.ListLaws.{AllZip-more, AllZip-firsts, AllZip-sum, apart, same_item}
use Rattle.rb_tree.proofs.NameLaws.{share_same, share_turned, stems_share}

-- ---- the constants of a body
kind_columns : (kind : UrdfKind) → Flat.column_count (Raw.kind_of kind) ≡ columns_of kind
kind_columns Fixed = refl
kind_columns Revolute = refl
kind_columns Prismatic = refl
kind_columns Continuous = refl
kind_columns Planar = refl
kind_columns Floating = refl

-- the numbers that a joint is made of give the same joint
joint_again : (kind : UrdfKind) (xyz rpy axis : List Interval) (r : AnyJoint × JointRaw) → joint_by kind xyz rpy axis ≡ Ok r → HasNumbers kind xyz rpy axis r.1 →
    joint_by r.1.kind r.1.xyz r.1.rpy r.1.axis ≡ Ok r
unfolding joint_by
joint_again Fixed xyz rpy axis r e n =
    let same : joint_by r.1.kind r.1.xyz r.1.rpy r.1.axis ≡ joint_by Fixed xyz rpy axis = λ i. joint_by (n.kind i) (n.origin i) (n.angles i) r.1.axis in
    same ∙ e
joint_again Revolute xyz rpy axis r e n = (λ i. joint_by (n.kind i) (n.origin i) (n.angles i) (n.axis tt i)) ∙ e
joint_again Prismatic xyz rpy axis r e n = (λ i. joint_by (n.kind i) (n.origin i) (n.angles i) (n.axis tt i)) ∙ e
joint_again Continuous xyz rpy axis r e n = (λ i. joint_by (n.kind i) (n.origin i) (n.angles i) (n.axis tt i)) ∙ e
joint_again Planar xyz rpy axis r e n =
    let same : joint_by r.1.kind r.1.xyz r.1.rpy r.1.axis ≡ joint_by Planar xyz rpy axis = λ i. joint_by (n.kind i) (n.origin i) (n.angles i) r.1.axis in
    same ∙ e
joint_again Floating xyz rpy axis r e n =
    let same : joint_by r.1.kind r.1.xyz r.1.rpy r.1.axis ≡ joint_by Floating xyz rpy axis = λ i. joint_by (n.kind i) (n.origin i) (n.angles i) r.1.axis in
    same ∙ e

axis_kept : (kind : UrdfKind) (xyz rpy axis : List Interval) (raw : JointRaw) → HasNumbers kind xyz rpy axis raw → IsAxisKept raw
axis_kept kind xyz rpy axis raw n = record {
  unit = λ h.
      let has = subst HasAxis n.kind h in
      let Unit_long : List Interval → Type 0 = λ v. MakesUnit (vector_of v).x (vector_of v).y (vector_of v).z raw.factor in
      subst Unit_long (sym (n.axis has)) (n.unit has);
  zero = λ none. n.zero (λ has. none (subst HasAxis (sym n.kind) has));
}

model_is : (joint : UrdfJoint) (r : AnyJoint × JointRaw) → joint_made joint ≡ Ok r → joint_by joint.kind joint.xyz joint.rpy joint.axis ≡ Ok r
unfolding joint_made
model_is joint r made = placed-ok fault_at joint.place _ r made

inertia_is : (link : UrdfLink) (raw : LinkRaw) (inertia : BodyInertia Interval) → raw ≡ raw_of link → inertia_made link ≡ Ok inertia → inertia_by (link_brackets raw) ≡ Ok inertia
unfolding inertia_made
inertia_is link raw inertia e made = ap (λ (l : LinkRaw). inertia_by (link_brackets l)) e ∙ placed-ok fault_at link.place _ inertia made

pub constants_kept : (link : UrdfLink) (joint : UrdfJoint) (body : Body) → body.link_raw ≡ raw_of link → inertia_made link ≡ Ok body.inertia →
    joint_made joint ≡ Ok (body.joint, body.joint_raw) → HasNumbers joint.kind joint.xyz joint.rpy joint.axis body.joint_raw → LinkOrdered (link_brackets body.link_raw) →
    JointOrdered (joint_brackets body.joint_raw) → IsBodyKept body
constants_kept link joint body raw inertia model n l j = record {
  inertia = inertia_is link body.link_raw body.inertia raw inertia;
  joint = joint_again joint.kind joint.xyz joint.rpy joint.axis (body.joint, body.joint_raw) (model_is joint (body.joint, body.joint_raw) model) n;
  axis = axis_kept joint.kind joint.xyz joint.rpy joint.axis body.joint_raw n;
  link_ordered = l;
  joint_ordered = j;
}

-- a model is of the joint's kind
pub model_kind : (joint : UrdfJoint) (model : AnyJoint) (raw : JointRaw) → joint_made joint ≡ Ok (model, raw) → HasNumbers joint.kind joint.xyz joint.rpy joint.axis raw →
    Model.kind_of model ≡ Raw.kind_of joint.kind
model_kind joint model raw made n =
    let encloses = joint_answer joint.kind joint.xyz joint.rpy joint.axis (model, raw) (model_is joint (model, raw) made) in
    encloses.kind ∙ ap Raw.kind_of n.kind

-- ---- places in the order
pub stem_found : (stems : List Stem) (k : ℕ) (stem : Stem) → slice_get stems k ≡ Some stem → stem_of stems (suc k) ≡ stem
stem_found stems k stem h = get_or_from_slice_get stems k stem no_stem h

joint_named : (joints : List UrdfJoint) (o : Option ℕ) (number : ℕ) (joint : UrdfJoint) → o ≡ Some number → slice_get joints number ≡ Some joint → IsJointThere joints o
joint_named joints None number joint e h = cc
joint_named joints (Some n) number joint e h = let s : n ≡ number = cc in omega (arith, s, slice_get_within joints number joint h)

joint_none : (joints : List UrdfJoint) (o : Option ℕ) → o ≡ None → IsJointThere joints o
joint_none joints None e = tt
joint_none joints (Some n) e = cc

pub stem_there : (robot : Robot) (stems : List Stem) (k : ℕ) (stem : Stem) → IsOrder robot stems → slice_get stems k ≡ Some stem → IsStemThere robot stem
stem_there robot stems zero stem o h =
    let e = stem_found stems 0 stem h in
    record {
      link = omega (arith, o.there 1 (omega arith) o.some, ap (λ (s : Stem). s.link) e);
      joint = joint_none robot.joints stem.joint (ap (λ (s : Stem). s.joint) (sym e) ∙ o.root.no_joint);
    }
stem_there robot stems (suc k) stem o h =
    let e = stem_found stems (suc k) stem h in
    let within = slice_get_within stems (suc k) stem h in
    let b = o.borne (suc (suc k)) (omega arith) (omega arith) in
    record {
      link = omega (arith, o.there (suc (suc k)) (omega arith) (omega arith), ap (λ (s : Stem). s.link) e);
      joint = joint_named robot.joints stem.joint b.number b.joint (ap (λ (s : Stem). s.joint) (sym e) ∙ b.named) b.is;
    }

-- the parent of the body at place k, whose number is k + 1, has a smaller number
pub stem_low : (robot : Robot) (stems : List Stem) (k : ℕ) (stem : Stem) → IsOrder robot stems → slice_get stems k ≡ Some stem → stem.parent ≤ k
stem_low robot stems zero stem o h = omega (arith, ap (λ (s : Stem). s.parent) (stem_found stems 0 stem h), o.root.world)
stem_low robot stems (suc k) stem o h =
    let within = slice_get_within stems (suc k) stem h in
    let low = o.parent_before (suc (suc k)) (omega arith) (omega arith) in
    omega (arith, ap (λ (s : Stem). s.parent) (stem_found stems (suc k) stem h), low.1)

-- ---- robots
pub have_constants : (robot : Robot) (root : UrdfJoint) (order stems : List Stem) (bodies : List Body) → AllZip (IsBodyOf robot root order) stems bodies →
    AllByRecursion (HasConstants robot root order) stems
have_constants robot root order stems bodies e = AllZip-firsts (IsBodyOf robot root order) (HasConstants robot root order) (λ stem body b. (body, b.is)) stems bodies e

low_parent : (o : Option Body) (i : ℕ) → 1 ≤ i → ((b : Body) → o ≡ Some b → b.parent < i) → option_map_or (λ (b : Body). b.parent) o 0 < i
low_parent None i from h = from
low_parent (Some b) i from h = h b refl

full_is : (robot : Robot) (root : UrdfJoint) (order : List Stem) (stem : Stem) (body : Body) → IsBodyOf robot root order stem body → full_columns body ≡ stem_columns root robot.joints stem
full_is robot root order stem body b = ap Flat.column_count b.kind ∙ (kind_columns b.is.joint.kind ∙ sym (ap bearer_columns b.is.pair.joint_is))

unless_few : (m : Option Mimic) (count : ℕ) → unless_mimic m count ≤ count
unless_few None count = omega arith
unless_few (Some mimic) count = omega arith

own_few : (bodies : List Body) → sum_by own_columns bodies ≤ sum_by full_columns bodies
own_few [] = omega arith
own_few (body ∷ rest) = omega (arith, sum_by-cons own_columns body rest, sum_by-cons full_columns body rest, unless_few body.mimic (full_columns body), own_few rest)

-- ---- joints that follow others
leads_none : (order : List Stem) (followed : Option UrdfMimic) (mimic : Option Mimic) → Follows order followed mimic → followed ≡ None → mimic ≡ None
leads_none order None None f e = refl
leads_none order None (Some m) f e = absurd f
leads_none order (Some x) m f e = absurd cc

none_leads : (order : List Stem) (followed : Option UrdfMimic) (mimic : Option Mimic) → Follows order followed mimic → mimic ≡ None → followed ≡ None
none_leads order None m f e = refl
none_leads order (Some x) None f e = absurd f
none_leads order (Some x) (Some m) f e = absurd cc

-- what a body follows, its joint follows
record Following (order : List Stem) (followed : Option UrdfMimic) (mimic : Mimic) : Type 0 where
  pub other : UrdfMimic
  pub is : followed ≡ Some other
  pub by : IsFollowing order other mimic

following : (order : List Stem) (followed : Option UrdfMimic) (o : Option Mimic) (mimic : Mimic) → Follows order followed o → o ≡ Some mimic → Following order followed mimic
following order None None mimic f e = absurd cc
following order None (Some m) mimic f e = absurd f
following order (Some x) None mimic f e = absurd f
following order (Some x) (Some m) mimic f e = let same : m ≡ mimic = cc in record { other = x; is = refl; by = subst (IsFollowing order x) same f }

mimic_ordered : (o : Option Mimic) (mimic : Mimic) → IsMimicOrdered o → o ≡ Some mimic → IsMimicOrdered (Some mimic)
mimic_ordered o mimic h e = subst IsMimicOrdered e h

well_by : (joints : List UrdfJoint) (kind : UrdfKind) (o : Option UrdfMimic) (mimic : UrdfMimic) → FollowsWell joints kind o → o ≡ Some mimic → FollowsWell joints kind (Some mimic)
well_by joints kind o mimic h e = subst (FollowsWell joints kind) e h

one_entry : (kind : UrdfKind) → (kind ≡ Revolute) ⊎ (kind ≡ Prismatic) → Flat.entry_count (Raw.kind_of kind) ≡ 1
one_entry kind (inl e) = ap (λ (k : UrdfKind). Flat.entry_count (Raw.kind_of k)) e
one_entry kind (inr e) = ap (λ (k : UrdfKind). Flat.entry_count (Raw.kind_of k)) e

-- the number of a body that leads is its own, and that of another its master's
leader_by : (P : ℕ → Type 0) (m : Option Mimic) (i : ℕ) → P i → ((mimic : Mimic) → m ≡ Some mimic → P mimic.master) → P (mimic_or m i)
leader_by P None i own f = own
leader_by P (Some mimic) i own f = f mimic refl

leader_of : (P : ℕ → Type 0) (o : Option Body) (i : ℕ) → P i → ((b : Body) (mimic : Mimic) → o ≡ Some b → b.mimic ≡ Some mimic → P mimic.master) →
    P (option_map_or (λ (b : Body). mimic_or b.mimic i) o i)
leader_of P None i own f = own
leader_of P (Some b) i own f = leader_by P b.mimic i own (λ mimic e. f b mimic refl e)

moving : (kind : UrdfKind) → Raw.kind_of kind ≢ Flat.Fixed → 0 < columns_of kind
moving Fixed h = absurd (h refl)
moving Revolute h = omega arith
moving Prismatic h = omega arith
moving Continuous h = omega arith
moving Planar h = omega arith
moving Floating h = omega arith

module _ (robot : Robot) (root : UrdfJoint) (stems : List Stem) (bodies : List Body) (o : IsOrder robot stems) (e : AllZip (IsBodyOf robot root stems) stems bodies) where
  parent_is_low : (i : ℕ) → 1 ≤ i → parent_at bodies i < i
  parent_is_low zero from = absurd (omega arith)
  parent_is_low (suc k) from =
      low_parent (slice_get bodies k) (suc k) from (λ b h.
      let p = beside_left (IsBodyOf robot root stems) stems bodies e k b h in
      omega (arith, p.2.is.parent, stem_low robot stems k p.0 o p.1))

  -- ---- names
  stem_beside : (i : ℕ) (b : Body) → body_at bodies i ≡ Some b → (stem : Stem) × (0 < i) × (i ≤ length stems) × (stem_of stems i ≡ stem) × IsBodyOf robot root stems stem b
  stem_beside zero b h = absurd cc
  stem_beside (suc k) b h =
      let p = beside_left (IsBodyOf robot root stems) stems bodies e k b h in
      let within = slice_get_within stems k p.0 p.1 in
      (p.0, omega arith, omega (arith, within), stem_found stems k p.0 p.1, p.2)

  links_apart : (i j : ℕ) → i ≢ j → 0 < i → i ≤ length stems → 0 < j → j ≤ length stems → (stem_of stems i).link ≢ (stem_of stems j).link
  links_apart i j other from_i to_i from_j to_j same =
      elim (cases_order i j) [
        | inl e ↦ other e
        | inr apart ↦ elim apart [
          | inl less ↦ o.once i j from_i less to_j same
          | inr more ↦ o.once j i from_j more to_i (sym same)
        ]
      ]

  link_names : IsRobot robot.links robot.joints → (i j : ℕ) (a b : Body) → i ≢ j → body_at bodies i ≡ Some a → body_at bodies j ≡ Some b → a.link_name ≢ b.link_name
  link_names file i j a b other p q same =
      let s = stem_beside i a p in
      let t = stem_beside j b q in
      let links_differ : s.0.link ≢ t.0.link = λ h. links_apart i j other s.1 s.2 t.1 t.2 (ap (λ (x : Stem). x.link) s.3 ∙ (h ∙ sym (ap (λ (x : Stem). x.link) t.3))) in
      apart (λ (l : UrdfLink). l.name) robot.links s.0.link t.0.link s.4.is.link t.4.is.link file.link_names.differ links_differ s.4.is.pair.link_is t.4.is.pair.link_is
      (sym s.4.is.made.link_name ∙ (same ∙ t.4.is.made.link_name))

  -- the joint of the root bears body 1
  root_bears : (b : Body) (h : body_at bodies 1 ≡ Some b) → (stem_beside 1 b h).4.is.joint ≡ root
  root_bears b h =
      let s = stem_beside 1 b h in
      let unborne : s.0.joint ≡ None = ap (λ (x : Stem). x.joint) (sym s.3) ∙ o.root.no_joint in
      sym (same_Some root s.4.is.joint (sym (ap (bearer_of root robot.joints) unborne) ∙ s.4.is.pair.joint_is))

  -- a later body, or the root where its joint has columns
  later_or_root : (i : ℕ) (b : Body) → body_at bodies i ≡ Some b → HasOwnJointName i b → (1 < i) ⊎ ((0 < columns_of root.kind) × (b.joint_name ≡ root.name))
  later_or_root i b h (inl later) = inl later
  later_or_root i b h (inr moves) =
      elim (cases_order i 1) [
        | inl first ↦
            let at_root : body_at bodies 1 ≡ Some b = ap (body_at bodies) (sym first) ∙ h in
            let s = stem_beside 1 b at_root in
            let is = root_bears b at_root in
            inr (
              moving root.kind (λ fixed. moves (s.4.kind ∙ (ap (λ (j : UrdfJoint). Raw.kind_of j.kind) is ∙ fixed))),
              s.4.is.made.joint_name ∙ ap (λ (j : UrdfJoint). j.name) is,
            )
        | inr apart ↦ elim apart [ inl less ↦ absurd (let s = stem_beside i b h in omega (arith, s.1)) | inr more ↦ inl more ]
      ]

  -- the joint that bears a later body
  bearer_by : (i : ℕ) (b : Body) → 1 < i → body_at bodies i ≡ Some b → (number : ℕ) × (joint : UrdfJoint) × (slice_get robot.joints number ≡ Some joint) × (joint.child ≡ (stem_of stems i).link) × (b.joint_name ≡ joint.name)
  bearer_by i b from h =
      let s = stem_beside i b h in
      let borne = o.borne i from s.2 in
      let named : s.0.joint ≡ Some borne.number = ap (λ (x : Stem). x.joint) (sym s.3) ∙ borne.named in
      let is : slice_get robot.joints borne.number ≡ Some s.4.is.joint = sym (ap (bearer_of root robot.joints) named) ∙ s.4.is.pair.joint_is in
      let same : borne.joint ≡ s.4.is.joint = same_item robot.joints borne.number borne.number borne.joint s.4.is.joint refl borne.is is in
      (borne.number, borne.joint, borne.is, borne.child, s.4.is.made.joint_name ∙ ap (λ (j : UrdfJoint). j.name) (sym same))

  later_names : IsRobot robot.links robot.joints → (i j : ℕ) (a b : Body) → i ≢ j → 1 < i → 1 < j → body_at bodies i ≡ Some a → body_at bodies j ≡ Some b → a.joint_name ≢ b.joint_name
  later_names file i j a b other later_i later_j p q same =
      let s = stem_beside i a p in
      let t = stem_beside j b q in
      let x = bearer_by i a later_i p in
      let y = bearer_by j b later_j q in
      let numbers_differ : x.0 ≢ y.0 = λ h.
      let joints_same = same_item robot.joints x.0 y.0 x.1 y.1 h x.2 y.2 in
      links_apart i j other s.1 s.2 t.1 t.2 (sym x.3 ∙ (ap (λ (z : UrdfJoint). z.child) joints_same ∙ y.3)) in
      apart (λ (z : UrdfJoint). z.name) robot.joints x.0 y.0 x.1 y.1 file.joint_names.differ numbers_differ x.2 y.2 (sym x.4 ∙ (same ∙ y.4))

  -- a later body has not the name of a root's joint that has columns
  root_name_apart : HasOwnRootName root robot.joints → (i : ℕ) (b : Body) → 1 < i → body_at bodies i ≡ Some b → 0 < columns_of root.kind → b.joint_name ≢ root.name
  root_name_apart own i b later h moves same =
      let x = bearer_by i b later h in
      own moves x.0 x.1 (slice_get_within robot.joints x.0 x.1 x.2) (ap (λ (j : UrdfJoint). j.name) (get_or_from_slice_get robot.joints x.0 x.1 x.1 x.2) ∙ (sym x.4 ∙ same))

  both_root : (i j : ℕ) (a b : Body) → i ≢ j → body_at bodies i ≡ Some a → body_at bodies j ≡ Some b → (1 < i → ⊥) → (1 < j → ⊥) → ⊥
  both_root i j a b other p q low_i low_j =
      let s = stem_beside i a p in
      let t = stem_beside j b q in
      other (omega (arith, s.1, t.1))

  joint_names : IsRobot robot.links robot.joints → HasOwnRootName root robot.joints → (i j : ℕ) (a b : Body) → i ≢ j → body_at bodies i ≡ Some a → body_at bodies j ≡ Some b →
      HasOwnJointName i a → HasOwnJointName j b → a.joint_name ≢ b.joint_name
  joint_names file own i j a b other p q own_i own_j same =
      elim (cases_lt 1 i) [
        | inl later_i ↦ elim (cases_lt 1 j) [
          | inl later_j ↦ later_names file i j a b other later_i later_j p q same
          | inr low_j ↦ elim (later_or_root j b q own_j) [
            | inl later_j ↦ later_names file i j a b other later_i later_j p q same
            | inr r ↦ root_name_apart own i a later_i p r.0 (same ∙ r.1)
          ]
        ]
        | inr low_i ↦ elim (cases_lt 1 j) [
          | inl later_j ↦ elim (later_or_root i a p own_i) [
            | inl later_i ↦ later_names file i j a b other later_i later_j p q same
            | inr r ↦ root_name_apart own j b later_j q r.0 (sym same ∙ r.1)
          ]
          | inr low_j ↦ both_root i j a b other p q (λ h. omega arith) (λ h. omega arith)
        ]
      ]

  -- ---- names of entries and columns
  shared_by : (i j : ℕ) (a b : Body) → i < j → body_at bodies i ≡ Some a → body_at bodies j ≡ Some b → a.mimic ≡ None → b.mimic ≡ None → HaveOwnNames root robot.joints stems →
      ShareName (Model.kind_of a.joint) a.joint_name (Model.kind_of b.joint) b.joint_name → ⊥
  shared_by zero j a b less p q leads_a leads_b own h = absurd cc
  shared_by (suc k) zero a b less p q leads_a leads_b own h = absurd cc
  shared_by (suc k) (suc l) a b less p q leads_a leads_b own h =
      let s = stem_beside (suc k) a p in
      let t = stem_beside (suc l) b q in
      let x : bearer_of root robot.joints (stem_of stems (suc k)).joint ≡ Some s.4.is.joint = ap (λ (r : Stem). bearer_of root robot.joints r.joint) s.3 ∙ s.4.is.pair.joint_is in
      let y : bearer_of root robot.joints (stem_of stems (suc l)).joint ≡ Some t.4.is.joint = ap (λ (r : Stem). bearer_of root robot.joints r.joint) t.3 ∙ t.4.is.pair.joint_is in
      own k l no_stem (omega arith) (omega (arith, t.2)) (stems_share root robot.joints (stem_of stems (suc k)) (stem_of stems (suc l)) s.4.is.joint t.4.is.joint x y
      (record {
        first_leads = none_leads stems s.4.is.joint.mimic a.mimic s.4.is.follows leads_a;
        second_leads = none_leads stems t.4.is.joint.mimic b.mimic t.4.is.follows leads_b;
        share = share_same _ _ _ _ _ _ _ _ s.4.kind s.4.is.made.joint_name t.4.kind t.4.is.made.joint_name h;
      }))

  own_names : HaveOwnNames root robot.joints stems → (i j : ℕ) (a b : Body) → i ≢ j → body_at bodies i ≡ Some a → body_at bodies j ≡ Some b → a.mimic ≡ None → b.mimic ≡ None →
      ShareName (Model.kind_of a.joint) a.joint_name (Model.kind_of b.joint) b.joint_name → ⊥
  own_names own i j a b other p q leads_a leads_b h =
      elim (cases_order i j) [
        | inl same ↦ other same
        | inr apart ↦ elim apart [
          | inl less ↦ shared_by i j a b less p q leads_a leads_b own h
          | inr more ↦ shared_by j i b a more q p leads_b leads_a own (share_turned _ _ _ _ h)
        ]
      ]

  -- ---- masters
  follows_at : (i : ℕ) (body : Body) (mimic : Mimic) (p : body_at bodies i ≡ Some body) → body.mimic ≡ Some mimic → Following stems (stem_beside i body p).4.is.joint.mimic mimic
  follows_at i body mimic p m = let s = stem_beside i body p in following stems s.4.is.joint.mimic body.mimic mimic s.4.is.follows m

  -- the body with the joint that is followed
  master_is : (i number : ℕ) (body : Body) (p : body_at bodies i ≡ Some body) → (stem_of stems i).joint ≡ Some number → (master : HasMaster robot.joints number) →
      (stem_beside i body p).4.is.joint ≡ master.joint
  master_is i number body p bears master =
      let s = stem_beside i body p in
      let named : s.0.joint ≡ Some number = ap (λ (x : Stem). x.joint) (sym s.3) ∙ bears in
      let is : slice_get robot.joints number ≡ Some s.4.is.joint = sym (ap (bearer_of root robot.joints) named) ∙ s.4.is.pair.joint_is in
      same_item robot.joints number number s.4.is.joint master.joint refl is master.is

  follows_master : IsRobot robot.links robot.joints → root.mimic ≡ None → (i : ℕ) (body : Body) (mimic : Mimic) → body_at bodies i ≡ Some body → body.mimic ≡ Some mimic →
      FollowsMaster bodies body mimic
  follows_master file leads i body mimic p m =
      let s = stem_beside i body p in
      let f = follows_at i body mimic p m in
      let well = well_by robot.joints s.4.is.joint.kind s.4.is.joint.mimic f.other (bearer_well robot root file leads s.0.joint s.4.is.joint s.4.is.pair.joint_is) f.is in
      let n = AllZip-long (IsBodyOf robot root stems) stems bodies e in
      let master = body_there bodies mimic.master f.by.from (omega (arith, n, f.by.to)) in
      let t = stem_beside mimic.master master.0 master.1 in
      let is = master_is mimic.master f.other.master master.0 master.1 f.by.bears well.1 in
      record {
        master = master.0;
        is = master.1;
        leads = leads_none stems t.4.is.joint.mimic master.0.mimic t.4.is.follows (ap (λ (j : UrdfJoint). j.mimic) is ∙ well.1.master.leads);
        entry = ap Flat.entry_count s.4.kind ∙ one_entry s.4.is.joint.kind well.0;
        master_entry = ap Flat.entry_count t.4.kind ∙ (ap (λ (j : UrdfJoint). Flat.entry_count (Raw.kind_of j.kind)) is ∙ one_entry well.1.joint.kind well.1.master.moves);
        ordered = mimic_ordered body.mimic mimic s.4.ordered m;
      }

  pub are_bodies : IsRobot robot.links robot.joints → root.mimic ≡ None → IsAccepted robot root stems → AreBodies bodies
  are_bodies file leads accepted =
      let n = AllZip-long (IsBodyOf robot root stems) stems bodies e in
      let full = AllZip-sum (IsBodyOf robot root stems) (stem_columns root robot.joints) full_columns (full_is robot root stems) stems bodies e in
      let own = own_few bodies in
      record {
        some = omega (arith, n, o.some);
        few = omega (arith, n, o.count, accepted.links);
        few_columns = omega (arith, own, full, accepted.columns);
        few_full = omega (arith, full, accepted.columns);
        columns_within = own;
        parents = parent_is_low;
        leads_from = λ i from. leader_of (λ k. 1 ≤ k) (body_at bodies i) i from (λ b mimic p m. (follows_at i b mimic p m).by.from);
        leads_to = λ i to. leader_of (λ k. k ≤ length bodies) (body_at bodies i) i to (λ b mimic p m. omega (arith, n, (follows_at i b mimic p m).by.to));
        follows = follows_master file leads;
        links = λ i a p j b other q same. link_names file i j a b (λ e. other (sym e)) p q (sym same);
        joints = λ i a p own_i j b other q own_j same. joint_names file accepted.root_name i j a b (λ e. other (sym e)) p q own_i own_j (sym same);
        names = own_names accepted.names;
        kept = each-right (IsBodyOf robot root stems) IsBodyKept (λ stem body b. b.kept) stems bodies e;
      }

pub are_built : (robot : Robot) (root : UrdfJoint) (stems : List Stem) (bodies : List Body) → IsOrder robot stems → IsAccepted robot root stems →
    AllZip (IsBodyOf robot root stems) stems bodies → AreBuilt robot root bodies
are_built robot root stems bodies o accepted e = record {
  order = stems;
  ordered = o;
  accepted = accepted;
  each = each-pair (IsBodyOf robot root stems) (IsBody robot root stems) (λ stem body b. b.is) stems bodies e;
}

-- a body made of its link and its joint
module _ (robot : Robot) (root : UrdfJoint) (order : List Stem) (stem : Stem) (link : UrdfLink) (joint : UrdfJoint) (mimic : Option Mimic) (pair : IsPair robot root stem link joint) where
  pub body_made : (r : Result Body TreeFault) → Follows order joint.mimic mimic → IsMimicOrdered mimic → IfOk r (λ body. body.parent ≡ stem.parent) → IfOk r (λ body. body.mimic ≡ mimic) →
      IfOk r (IsMadeOf link joint) → IfOk r IsBodyKept → IfOk r (λ body. Model.kind_of body.joint ≡ Raw.kind_of joint.kind) → IfOk r (IsBodyOf robot root order stem)
  body_made (Ok body) f h p e m k n = record {
    is = record { link = link; joint = joint; pair = pair; parent = p; made = m; follows = subst (Follows order joint.mimic) (sym e) f };
    kept = k;
    kind = n;
    ordered = subst IsMimicOrdered (sym e) h;
  }
  body_made (Err fault) f h p e m k n = tt

  pub refused_by : (r : Result Body TreeFault) → IfErr r (λ fault. (fault ≡ no_memory) ⊎ IsRefusedAt link joint fault) → IfErr r (λ fault. (fault ≡ no_memory) ⊎ IsRefused robot root stem fault)
  refused_by (Ok body) h = tt
  refused_by (Err fault) h = elim h [ inl m ↦ inl m | inr r ↦ inr (record { link = link; joint = joint; pair = pair; refused = r }) ]

-- where the bodies before a place are made and that at the place is refused
pub refused_there : (robot : Robot) (root : UrdfJoint) (order : List Stem) (k : ℕ) (stem : Stem) (bodies : List Body) (fault : TreeFault) → IsOrder robot order →
    slice_get order k ≡ Some stem → AllZip (IsBodyOf robot root order) (take k order) bodies → (fault ≡ no_memory) ⊎ IsRefused robot root stem fault →
    (fault ≡ no_memory) ⊎ HasConstantFault robot root fault
refused_there robot root order k stem bodies fault o h e (inl m) = inl m
refused_there robot root order k stem bodies fault o h e (inr r) =
    inr (record { order = order; ordered = o; number = k; stem = stem; is = h; before = have_constants robot root order (take k order) bodies e; refused = r })

pub one_more : (robot : Robot) (root : UrdfJoint) (order : List Stem) (k : ℕ) (bodies : List Body) (body : Body) (d : Stem) → k < length order →
    AllZip (IsBodyOf robot root order) (take k order) bodies → IsBodyOf robot root order (get_or order k d) body →
    AllZip (IsBodyOf robot root order) (take (k + 1) order) (bodies ++ body ∷ [])
one_more robot root order k bodies body d h e b = rw (add-one, take-suc order k d h) (AllZip-more (IsBodyOf robot root order) (take k order) bodies (get_or order k d) body e b)

-- a refusal that is handed on
pub handed_on : {A E : Type 0} (P : E → Type 0) (r : Result A E) (x : E) → IsErrAnd r (λ e. e ≡ x) → P x → IfErr r P
handed_on P (Ok a) x h p = tt
handed_on {E = E} P (Err e) x h p = let Q : E → Type 0 = P in subst Q (sym h) p
