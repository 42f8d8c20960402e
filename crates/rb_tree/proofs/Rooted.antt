-- The links that are no child, and the first joint whose child has two parents.
use Rattle.std.proofs.Common.{◌≡◌, ◌<◌, ◌≤◌, ◌+◌, ℕ, List, Some, length, take, get_or, sym, ◌∙◌, ap, subst, refl, arith, inl, inr}
use Rattle.std.specs.Prelude.{slice_get}
use Rattle.std.proofs.lemmas.Bool.{cases_order}
use Rattle.std.proofs.lemmas.Option.{slice_get_read}
use Rattle.rb_urdf.specs.declared.robot.UrdfJoint.{UrdfJoint}
use Rattle.rb_urdf.specs.declared.robot.UrdfLink.{UrdfLink}
use Rattle.rb_urdf.specs.Robot.{Robot}
use Rattle.rb_tree.specs.declared.faults.TreeFault.{TreeFault}
use Rattle.rb_tree.specs.declared.faults.TreeKind.TheVariants.{NoRoot, TwoRoots}
use Rattle.rb_tree.specs.declared.faults.WhichFile.TheVariants.{Urdf}
use Rattle.rb_tree.specs.Roots.{IsChild, HaveOneParent, IsRootFrom, HasRootBelow, HasRootFault}
use Rattle.rb_tree.proofs.ListLaws.{pairs_more}

pub parents_more : (joints : List UrdfJoint) (n : ℕ) (joint : UrdfJoint) → n < length joints → joint ≡ get_or joints n joint →
    HaveOneParent (take n joints) → (IsChild (take n joints) joint.child → ⊥) → HaveOneParent (take (n + 1) joints)
parents_more joints n joint within is one first = pairs_more (λ (a b : UrdfJoint). a.child ≡ b.child) joints n joint within is one first

-- the first link that is no child, and no other below n
pub root_below : (joints : List UrdfJoint) (links root n : ℕ) → IsRootFrom joints 0 links root → root < n →
    ((link : ℕ) → root + 1 ≤ link → link < n → IsChild joints link) → HasRootBelow joints n root
root_below joints links root n first within rest = record {
  within = within;
  no_child = first.no_child;
  only = λ link high other. elim (cases_order link root) [
    | inl e ↦ absurd (other e)
    | inr o ↦ elim o [
      | inl lt ↦ first.before link (omega arith) lt
      | inr gt ↦ rest link (omega arith) high
    ]
  ];
}

module _ (robot : Robot) (links : List UrdfLink) (joints : List UrdfJoint) (el : links ≡ robot.links) (ej : joints ≡ robot.joints) where
  pub no_root : (fault : TreeFault) (place : ℕ) → fault ≡ record { kind = NoRoot; file = Urdf; at = place } → place ≡ robot.place →
      ((link : ℕ) → 0 ≤ link → link < length links → IsChild joints link) → HasRootFault robot fault
  no_root fault place is place_is all =
      let child : (link : ℕ) → link < length robot.links → IsChild robot.joints link =
      λ link h. let P : List UrdfJoint → Type 0 = λ xs. IsChild xs link in
      subst P ej (all link (omega arith) (omega (arith, ap (length {A = UrdfLink}) el))) in
      inl (ap (λ f. f.file) is, ap (λ f. f.kind) is, (child, ap (λ f. f.at) is ∙ place_is))

  pub one_root : (root : ℕ) → IsRootFrom joints 0 (length links) root → ((link : ℕ) → root + 1 ≤ link → link < length links → IsChild joints link) →
      HasRootBelow robot.joints (length robot.links) root
  one_root root first rest =
      let P : List UrdfJoint → Type 0 = λ xs. HasRootBelow xs (length robot.links) root in
      let Q : List UrdfLink → Type 0 = λ xs. HasRootBelow joints (length xs) root in
      subst P ej (subst Q el (root_below joints (length links) root (length links) first first.within rest))

  pub two_roots : (root second : ℕ) (fault : TreeFault) (link : UrdfLink) → IsRootFrom joints 0 (length links) root →
      IsRootFrom joints (root + 1) (length links) second → link ≡ get_or links second link →
      fault ≡ record { kind = TwoRoots; file = Urdf; at = link.place } → HasRootFault robot fault
  two_roots root second fault link first next is says =
      let P : List UrdfJoint → Type 0 = λ xs. HasRootBelow xs second root in
      let C : List UrdfJoint → Type 0 = λ xs. IsChild xs second → ⊥ in
      let there : slice_get robot.links second ≡ Some link =
      ap (λ xs. slice_get xs second) (sym el) ∙ slice_get_read links (length links) second link refl next.within is in
      inr (
        ap (λ f. f.file) says,
        ap (λ f. f.kind) says,
        record {
          number = second;
          is = record { link = link; is = there; place = ap (λ f. f.at) says };
          no_child = subst C ej next.no_child;
          first = root;
          second = subst P ej (root_below joints (length links) root second first (let b = next.behind in omega arith) next.before);
        },
      )
