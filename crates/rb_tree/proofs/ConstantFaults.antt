-- The first body whose constants are refused, and robots without one.
use Rattle.std.proofs.Common.{◌≡◌, ℕ, zero, suc, ◌<◌, List, [], ◌∷◌, take, Some, false, true, inl, inr, sym, ◌∙◌, subst, refl, arith}
use Rattle.std.specs.Prelude.{Result, Ok, Err, IsOk}
use Rattle.std.specs.List.{slice_get, AllByRecursion, AllZip}
use Rattle.std.proofs.lemmas.Bool.{cases_order}
use Rattle.std.proofs.lemmas.Option.{same_Some}
use Rattle.rb_urdf.specs.declared.robot.UrdfJoint.{UrdfJoint}
use Rattle.rb_urdf.specs.declared.robot.UrdfLink.{UrdfLink}
use Rattle.rb_urdf.specs.Robot.{Robot, IsRobot}
use Rattle.rb_urdf.proofs.Zips.{beside}
use Rattle.rb_result.proofs.Results.{same_err}
use Rattle.rb_tree.specs.declared.faults.TreeFault.{TreeFault}
use Rattle.rb_tree.specs.declared.order.Stem.{Stem}
use Rattle.rb_tree.specs.declared.robot.Body.{Body}
use Rattle.rb_tree.specs.Parts.{IsMadeOf, IsRefusedAt, joint_made}
use Rattle.rb_tree.specs.Build.{IsBody, AreBuilt}
use Rattle.rb_tree.specs.Refusals.{IsRefused, HasConstants, HasConstantFault}
use Rattle.rb_tree.proofs.ListLaws.{All-at, same_item}
use Rattle.rb_tree.proofs.OneOrder.{one_order}

-- ---- what has constants is not refused
not_refused : (link : UrdfLink) (joint : UrdfJoint) (body : Body) (fault : TreeFault) → IsMadeOf link joint body → IsRefusedAt link joint fault → ⊥
not_refused link joint body fault made (inl refused) = let e = made.model in cc
not_refused link joint body fault made (inr refused) = let e = made.inertia in let h = refused.1 in cc

error_not_ok : {A : Type 0} (r : Result A TreeFault) (x : TreeFault) → r ≡ Err x → IsOk r → ⊥
error_not_ok (Ok a) x e h = cc
error_not_ok (Err y) x e h = let f : false ≡ true = h in cc

refused_once : (link : UrdfLink) (joint : UrdfJoint) (x y : TreeFault) → IsRefusedAt link joint x → IsRefusedAt link joint y → x ≡ y
refused_once link joint x y (inl p) (inl q) = same_err x y (sym p ∙ q)
refused_once link joint x y (inl p) (inr q) = absurd (error_not_ok (joint_made joint) x p q.0)
refused_once link joint x y (inr p) (inl q) = absurd (error_not_ok (joint_made joint) y q p.0)
refused_once link joint x y (inr p) (inr q) = same_err x y (sym p.1 ∙ q.1)

slice_get-take : {A : Type 0} (n : ℕ) (xs : List A) (k : ℕ) → k < n → slice_get (take n xs) k ≡ slice_get xs k
slice_get-take zero xs k h = absurd (omega arith)
slice_get-take (suc n) [] k h = refl
slice_get-take (suc n) (x ∷ xs) zero h = refl
slice_get-take (suc n) (x ∷ xs) (suc k) h = slice_get-take n xs k (omega arith)

module _ (robot : Robot) (root : UrdfJoint) where
  made_not_refused : (order : List Stem) (stem : Stem) (body : Body) (fault : TreeFault) → IsBody robot root order stem body → IsRefused robot root stem fault → ⊥
  made_not_refused order stem body fault b r =
      let l = same_item robot.links stem.link stem.link b.link r.link refl b.pair.link_is r.pair.link_is in
      let j = same_Some b.joint r.joint (sym b.pair.joint_is ∙ r.pair.joint_is) in
      let L : UrdfLink → Type 0 = λ link. IsMadeOf link b.joint body in
      let J : UrdfJoint → Type 0 = λ joint. IsMadeOf r.link joint body in
      not_refused r.link r.joint body fault (subst J j (subst L l b.made)) r.refused

  -- a fault at a body before one with a fault
  earlier : (order : List Stem) (i j : ℕ) (stem : Stem) (fault : TreeFault) → i < j → slice_get order i ≡ Some stem → IsRefused robot root stem fault →
      AllByRecursion (HasConstants robot root order) (take j order) → ⊥
  earlier order i j stem fault h is r before =
      let made = All-at (HasConstants robot root order) (take j order) i stem before (slice_get-take j order i h ∙ is) in
      made_not_refused order stem made.0 fault made.1 r

  same_stem : (stem : Stem) (x y : TreeFault) → IsRefused robot root stem x → IsRefused robot root stem y → x ≡ y
  same_stem stem x y p q =
      let l = same_item robot.links stem.link stem.link q.link p.link refl q.pair.link_is p.pair.link_is in
      let j = same_Some q.joint p.joint (sym q.pair.joint_is ∙ p.pair.joint_is) in
      let L : UrdfLink → Type 0 = λ link. IsRefusedAt link q.joint y in
      let J : UrdfJoint → Type 0 = λ joint. IsRefusedAt p.link joint y in
      refused_once p.link p.joint x y p.refused (subst J j (subst L l q.refused))

  one_of_order : (order : List Stem) (i j : ℕ) (a b : Stem) (x y : TreeFault) → slice_get order i ≡ Some a → slice_get order j ≡ Some b → IsRefused robot root a x → IsRefused robot root b y →
      AllByRecursion (HasConstants robot root order) (take i order) → AllByRecursion (HasConstants robot root order) (take j order) → x ≡ y
  one_of_order order i j a b x y is_a is_b p q before_a before_b =
      elim (cases_order i j) [
        | inl same ↦
            let e = same_item order j i b a (sym same) is_b is_a in
            let R : Stem → Type 0 = λ stem. IsRefused robot root stem y in
            same_stem a x y p (subst R e q)
        | inr apart ↦
            elim apart [
              | inl less ↦ absurd (earlier order i j a x less is_a p before_b)
              | inr more ↦ absurd (earlier order j i b y more is_b q before_a)
            ]
      ]

  module _ (kept : IsRobot robot.links robot.joints) where
    pub one_constant_fault : (x y : TreeFault) → HasConstantFault robot root x → HasConstantFault robot root y → x ≡ y
    one_constant_fault x y p q =
        let o = one_order robot q.order p.order kept q.ordered p.ordered in
        let S : List Stem → Type 0 = λ order. slice_get order q.number ≡ Some q.stem in
        let B : List Stem → Type 0 = λ order. AllByRecursion (HasConstants robot root order) (take q.number order) in
        one_of_order p.order p.number q.number p.stem q.stem x y p.is (subst S o q.is) p.refused q.refused p.before (subst B o q.before)

    -- where the bodies are built none is refused
    pub built_not_refused : (bodies : List Body) (fault : TreeFault) → AreBuilt robot root bodies → HasConstantFault robot root fault → ⊥
    built_not_refused bodies fault built f =
        let o = one_order robot built.order f.order kept built.ordered f.ordered in
        let E : List Stem → Type 0 = λ order. AllZip (IsBody robot root order) order bodies in
        let m = beside (IsBody robot root f.order) f.order bodies (subst E o built.each) f.number f.stem f.is in
        made_not_refused f.order f.stem m.0 fault m.2 f.refused
