-- A robot has at most one order, and none with a fault of its links and joints.
use Rattle.std.proofs.Common.{◌≡◌, ◌<◌, ◌≤◌, ◌+◌, ◌⊎◌, ℕ, List, Some, None, length, get_or, sym, ◌∙◌, ap, subst, arith, inl, inr}
use Rattle.std.proofs.lemmas.Option.{slice_get_within, get_or_from_slice_get}
use Rattle.std.proofs.lemmas.List.Sums.{sum_by-take-le}
use Rattle.std.specs.List.{All, sum_by}
use Rattle.std.proofs.Math.Nat.{eq-zero-or-pos}
use Rattle.std.proofs.lemmas.Bool.{cases_order}
use Rattle.std.proofs.lemmas.List.{ext_get_or}
use Rattle.std.proofs.lemmas.List.Elements.{All-from_recursion}
use Rattle.rb_urdf.specs.declared.robot.UrdfJoint.{UrdfJoint}
use Rattle.rb_urdf.specs.Robot.{Robot, IsRobot, IsJointKept}
use Rattle.rb_tree.specs.declared.sizes.TheConstants.{MAX_LINKS, MAX_COLUMNS}
use Rattle.rb_tree.specs.declared.order.Stem.{Stem}
use Rattle.rb_tree.specs.Order.{stem_of, no_stem, Reaches, IsOrder, HasCycle, HasNameTwice, HasTooManyColumns}
use Rattle.rb_tree.specs.Sizes.{stem_columns, HasOwnRootName, IsNamedAsRoot, StemsShare, HaveOwnNames, SharesName}
use Rattle.rb_tree.specs.Roots.{IsChild, HaveOneParent, HasTwoParents, HasNoRoot, HasTwoRoots, HasRootBelow}
use Rattle.rb_tree.specs.Grow.{stem_at, parent_link, child_link, link_of, parent_of, joint_of, HasLink, IsPart, IsPlaced, IsGrown}
use Rattle.rb_tree.specs.Faults.{IsLinkPlace}
use Rattle.rb_tree.proofs.Stems.{read_same, joint_at, down_read, down_below}
use Rattle.rb_tree.proofs.Ways.{contains_at}
use Rattle.rb_tree.proofs.Ordered.{placed_reached}
use Rattle.rb_tree.proofs.FromOrder.{all_placed, grown_order}
use Rattle.rb_tree.proofs.ListLaws.{pair_in}
use Rattle.rb_tree.proofs.Unique.{Agree, agree}

pub children_of : (robot : Robot) → IsRobot robot.links robot.joints → All (λ joint. joint.child < length robot.links) robot.joints
children_of robot kept =
    let all : All (IsJointKept robot.links robot.joints) robot.joints = All-from_recursion (IsJointKept robot.links robot.joints) robot.joints kept.fits in
    λ k d within. (all k d within).child

down_at : (joints : List UrdfJoint) (j : ℕ) (d : UrdfJoint) → j < length joints → child_link joints j ≡ (get_or joints j d).child
down_at joints j d within = down_read joints j (get_or joints j d) within (read_same joints j d (get_or joints j d) within)

-- joints with one child are one
one_joint : (joints : List UrdfJoint) → HaveOneParent joints → (i j : ℕ) → i < length joints → j < length joints → child_link joints i ≡ child_link joints j → i ≡ j
one_joint joints one i j iq jq same =
    let d = (joint_at joints i iq).joint in
    let e : (get_or joints i d).child ≡ (get_or joints j d).child = sym (down_at joints i d iq) ∙ same ∙ down_at joints j d jq in
    elim (cases_order i j) [
      | inl is ↦ is
      | inr o ↦ elim o [
        | inl lt ↦ absurd (one i j d lt jq e)
        | inr gt ↦ absurd (one j i d gt iq (sym e))
      ]
    ]

-- the link of a body is that of the root, or a child
child_or_root : (robot : Robot) (root : ℕ) (stems : List Stem) → IsGrown robot.joints (length robot.links) root stems → (link : ℕ) → HasLink stems link →
    (link ≡ root) ⊎ IsChild robot.joints link
unfolding link_of
child_or_root robot root stems grown link h =
    elim (eq-zero-or-pos h.number) [
      | inl e ↦ inl (sym h.is ∙ ap (λ i. (stem_at stems i).link) e ∙ ap (λ s. s.link) grown.root_is)
      | inr pos ↦
          let j = joint_at robot.joints (joint_of stems h.number) (grown.part.bearer h.number pos h.within) in
          let ends : j.joint.child ≡ link = sym j.down_is ∙ grown.part.child h.number pos h.within ∙ h.is in
          let has = contains_at robot.joints (joint_of stems h.number) j in
          inr (has.0, j.joint, has.1, has.2, ends)
    ]

childless_root : (robot : Robot) (root : ℕ) (stems : List Stem) → IsGrown robot.joints (length robot.links) root stems → (link : ℕ) → HasLink stems link →
    (IsChild robot.joints link → ⊥) → link ≡ root
childless_root robot root stems grown link h no_child =
    elim (child_or_root robot root stems grown link h) [ inl e ↦ e | inr child ↦ absurd (no_child child) ]

same_stem : (s t : Stem) → s.link ≡ t.link → s.joint ≡ t.joint → s.parent ≡ t.parent → s ≡ t
same_stem s t l j p =
    ap (λ x. let r : Stem = record { link = x; joint = s.joint; parent = s.parent } in r) l
    ∙ ap (λ x. let r : Stem = record { link = t.link; joint = x; parent = s.parent } in r) j
    ∙ ap (λ x. let r : Stem = record { link = t.link; joint = t.joint; parent = x } in r) p

stems_agree : (robot : Robot) (ra rb : ℕ) (a b : List Stem) → IsGrown robot.joints (length robot.links) ra a → IsGrown robot.joints (length robot.links) rb b → ra ≡ rb →
    (k : ℕ) → k < length a → k < length b → Agree (link_of a) (parent_of a) (joint_of a) (link_of b) (parent_of b) (joint_of b) k → stem_at a k ≡ stem_at b k
unfolding link_of
stems_agree robot ra rb a b ga gb same k ka kb h =
    elim (eq-zero-or-pos k) [
      | inl e ↦ ap (stem_at a) e ∙ ga.root_is ∙ ap (λ r. let s : Stem = record { link = r; joint = None; parent = 0 } in s) same ∙ sym gb.root_is ∙ ap (stem_at b) (sym e)
      | inr pos ↦ same_stem (stem_at a k) (stem_at b k) h.link
          (ga.named k pos ka ∙ ap Some (h.bearer pos) ∙ sym (gb.named k pos kb))
          (ga.numbered.later k pos ka ∙ ap (λ n. n + 1) (h.parent pos) ∙ sym (gb.numbered.later k pos kb))
    ]

pub one_order : (robot : Robot) (a b : List Stem) → IsRobot robot.links robot.joints → IsOrder robot a → IsOrder robot b → a ≡ b
unfolding link_of
one_order robot a b kept oa ob =
    let children = children_of robot kept in
    let joints = robot.joints in
    let n = length robot.links in
    let ga = grown_order robot a children oa in
    let gb = grown_order robot b children ob in
    let all = all_placed robot a children oa in
    let all' = all_placed robot b children ob in
    let root_a = (stem_of a 1).link in
    let some_a = oa.some in
    let root_there : root_a < n = oa.there 1 (omega arith) (omega arith) in
    let same : root_a ≡ (stem_of b 1).link = childless_root robot (stem_of b 1).link b gb root_a (all' root_a root_there) oa.root.no_child in
    let q = length joints in
    let PA : ℕ → Type 0 = λ m. IsPart q (parent_link joints) (child_link joints) m (link_of a) (parent_of a) (joint_of a) in
    let PB : ℕ → Type 0 = λ m. IsPart q (parent_link joints) (child_link joints) m (link_of b) (parent_of b) (joint_of b) in
    let LA : ℕ → Type 0 = λ m. (l : ℕ) → l < n → IsPlaced m (link_of a) l in
    let LB : ℕ → Type 0 = λ m. (l : ℕ) → l < n → IsPlaced m (link_of b) l in
    let count_a = oa.count in
    let count_b = ob.count in
    let agrees = agree q n (parent_link joints) (child_link joints) (λ j h. down_below joints n j children h) (one_joint joints oa.one_parent)
    (link_of a) (parent_of a) (joint_of a) (link_of b) (parent_of b) (joint_of b) (subst PA count_a ga.part) (subst PB count_b gb.part)
    (subst LA count_a all) (subst LB count_b all') same in
    ext_get_or no_stem a b (count_a ∙ sym count_b) (λ k ka.
    stems_agree robot root_a (stem_of b 1).link a b ga gb same k ka (omega arith) (agrees n (omega arith) k (omega arith)))

pub no_too_many_links : (robot : Robot) (at : ℕ) → length robot.links ≤ MAX_LINKS → IsLinkPlace robot.links MAX_LINKS at → ⊥
no_too_many_links robot at few h = let within = slice_get_within robot.links MAX_LINKS h.link h.is in omega arith

pub no_two_parents : (robot : Robot) (at : ℕ) → HaveOneParent robot.joints → HasTwoParents robot.joints at → ⊥
no_two_parents robot at one h = pair_in (λ (a b : UrdfJoint). a.child ≡ b.child) robot.joints h.number h.joint h.is h.twice one

pub no_root_name : (root : UrdfJoint) (joints : List UrdfJoint) (at : ℕ) → HasOwnRootName root joints → IsNamedAsRoot root joints at → ⊥
no_root_name root joints at own h =
    let differs = own h.moves h.number h.joint (slice_get_within joints h.number h.joint h.is) in
    differs (ap (λ (j : UrdfJoint). j.name) (get_or_from_slice_get joints h.number h.joint h.joint h.is) ∙ h.name)

pub no_shared_name : (root : UrdfJoint) (joints : List UrdfJoint) (stems : List Stem) (at : ℕ) → HaveOwnNames root joints stems → SharesName root joints stems at → ⊥
no_shared_name root joints stems at own h = pair_in (StemsShare root joints) stems h.number h.stem h.stem_is h.shares own

-- a robot with an order has no fault of the root
module _ (robot : Robot) (stems : List Stem) (kept : IsRobot robot.links robot.joints) (order : IsOrder robot stems) where
  grown : IsGrown robot.joints (length robot.links) (stem_of stems 1).link stems
  grown = grown_order robot stems (children_of robot kept) order

  placed : (link : ℕ) → link < length robot.links → HasLink stems link
  placed = all_placed robot stems (children_of robot kept) order

  root_there : (stem_of stems 1).link < length robot.links
  root_there = let some = order.some in order.there 1 (omega arith) (omega arith)

  pub no_no_root : HasNoRoot robot → ⊥
  no_no_root all = order.root.no_child (all (stem_of stems 1).link root_there)

  is_root : (link : ℕ) → link < length robot.links → (IsChild robot.joints link → ⊥) → link ≡ (stem_of stems 1).link
  is_root link within no_child = childless_root robot (stem_of stems 1).link stems grown link (placed link within) no_child

  -- the root's link, and no other, is no child
  pub only_root : HasRootBelow robot.joints (length robot.links) (stem_of stems 1).link
  only_root = record {
    within = root_there;
    no_child = order.root.no_child;
    only = λ link within other. elim (child_or_root robot (stem_of stems 1).link stems grown link (placed link within)) [
      | inl e ↦ absurd (other e)
      | inr child ↦ child
    ];
  }

  pub no_two_roots : (at : ℕ) → HasTwoRoots robot at → ⊥
  no_two_roots at h =
      let within = slice_get_within robot.links h.number h.is.link h.is.is in
      let less = h.second.within in
      let a = is_root h.number within h.no_child in
      let b = is_root h.first (omega arith) h.second.no_child in
      omega arith

  pub no_cycle : (at : ℕ) → HasCycle robot at → ⊥
  no_cycle at h =
      let within = slice_get_within robot.links h.number h.is.link h.is.is in
      let From : ℕ → Type 0 = λ r. Reaches robot.joints r h.number in
      let e : h.root ≡ (stem_of stems 1).link = is_root h.root h.only.within h.only.no_child in
      h.apart (subst From (sym e) (placed_reached robot.joints (length robot.links) (stem_of stems 1).link stems grown h.number (placed h.number within)))

  pub same_order : (others : List Stem) → IsOrder robot others → others ≡ stems
  same_order others other = one_order robot others stems kept other order

  module _ (root : UrdfJoint) where
    pub no_name_twice : (at : ℕ) → HaveOwnNames root robot.joints stems → HasNameTwice robot root at → ⊥
    no_name_twice at own h =
        let P : List Stem → Type 0 = λ xs. HaveOwnNames root robot.joints xs in
        no_shared_name root robot.joints h.stems at (subst P (sym (same_order h.stems h.order)) own) h.shares

    pub no_too_many_columns : (at : ℕ) → sum_by (stem_columns root robot.joints) stems ≤ MAX_COLUMNS → HasTooManyColumns robot root at → ⊥
    no_too_many_columns at few h =
        let total : sum_by (stem_columns root robot.joints) h.stems ≡ sum_by (stem_columns root robot.joints) stems = ap (sum_by (stem_columns root robot.joints)) (same_order h.stems h.order) in
        let passed = h.pass.passed in
        omega (arith, total, sum_by-take-le (stem_columns root robot.joints) h.stems (h.pass.number + 1))
