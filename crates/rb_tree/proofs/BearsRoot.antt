-- The virtual joint that bears the root of an order.
use Rattle.std.proofs.Common.{◌≡◌, ◌≢◌, ◌==◌, ◌||◌, ℕ, zero, suc, ◌+◌, ◌<◌, Bool, true, false, List, [], ◌∷◌, length, get_or, Some, refl, sym, ◌∙◌, ap, subst, arith}
use Rattle.std.specs.Prelude.{bytes_eq, find, slice_get}
use Rattle.std.specs.List.{list_any}
use Rattle.std.proofs.lemmas.Bool.{eqb-true, eq-eqb}
use Rattle.std.proofs.lemmas.Option.{slice_get_read}
use Rattle.std.proofs.lemmas.List.Folds.{list_any-from_Any, Any-from_list_any}
use Rattle.rb_urdf.specs.declared.robot.UrdfJoint.{UrdfJoint}
use Rattle.rb_urdf.specs.declared.robot.UrdfLink.{UrdfLink}
use Rattle.rb_urdf.specs.Robot.{Robot, IsRobot}
use Rattle.rb_srdf.specs.declared.srdf.Virtual.{Virtual}
use Rattle.rb_tree.specs.declared.order.Stem.{Stem}
use Rattle.rb_tree.specs.Roots.{IsChild}
use Rattle.rb_tree.specs.Order.{stem_of, IsOrder}
use Rattle.rb_tree.specs.Parts.{roots_from, bears_root}
use Rattle.rb_tree.proofs.OneOrder.{only_root}

-- ---- the links that are no child
module _ (joints : List UrdfJoint) where
  child_found : (number : ℕ) → IsChild joints number → list_any (λ (joint : UrdfJoint). joint.child == number) joints ≡ true
  child_found number (k, joint, within, is, child) =
      list_any-from_Any (λ (joint : UrdfJoint). joint.child == number) joints (k, joint, within, is, eq-eqb joint.child number child)

  child_missed : (number : ℕ) → (IsChild joints number → ⊥) → list_any (λ (joint : UrdfJoint). joint.child == number) joints ≡ false
  child_missed number none = by (list_any (λ (joint : UrdfJoint). joint.child == number) joints) refl
    where
      by : (b : Bool) → list_any (λ (joint : UrdfJoint). joint.child == number) joints ≡ b → b ≡ false
      by false e = refl
      by true e =
          let found = Any-from_list_any (λ (joint : UrdfJoint). joint.child == number) joints e in
          absurd (none (found.0, found.1, found.2, found.3, eqb-true found.1.child number found.4))

  moved : (a b : ℕ) → a ≡ b → IsChild joints a → IsChild joints b
  moved a b e child = let P : ℕ → Type 0 = λ n. IsChild joints n in subst P e child

  -- where each link from a number on is a child there is no root
  no_roots : (links : List UrdfLink) (number : ℕ) → ((k : ℕ) → k < length links → IsChild joints (number + k)) → roots_from joints number links ≡ []
  unfolding roots_from
  no_roots [] number all = refl
  no_roots (link ∷ links) number all =
      rw (child_found number (moved (number + 0) number (omega arith) (all 0 (omega arith))))
      (no_roots links (number + 1) (λ k h. moved (number + suc k) (number + 1 + k) (omega arith) (all (suc k) (omega arith))))

  -- where one is none there is its name
  one_root : (links : List UrdfLink) (number k : ℕ) (link : UrdfLink) → slice_get links k ≡ Some link → (IsChild joints (number + k) → ⊥) →
      ((j : ℕ) → j < length links → j ≢ k → IsChild joints (number + j)) → roots_from joints number links ≡ link.name ∷ []
  unfolding roots_from
  one_root [] number k link is none others = absurd cc
  one_root (first ∷ links) number zero link is none others =
      let same : first ≡ link = cc in
      rw (
        child_missed number (λ child. none (moved number (number + 0) (omega arith) child)),
        no_roots links (number + 1) (λ k h. moved (number + suc k) (number + 1 + k) (omega arith) (others (suc k) (omega arith) (λ e. omega arith))),
      )
      (ap (λ (l : UrdfLink). l.name ∷ []) same)
  one_root (first ∷ links) number (suc k) link is none others =
      rw (child_found number (moved (number + 0) number (omega arith) (others 0 (omega arith) (λ e. omega arith))))
      (one_root links (number + 1) k link is (λ child. none (moved (number + 1 + k) (number + suc k) (omega arith) child))
      (λ j h other. moved (number + suc j) (number + 1 + j) (omega arith) (others (suc j) (omega arith) (λ e. other (omega arith)))))

or_false : (b : Bool) → (b || false) ≡ b
or_false true = refl
or_false false = refl

bears_one : (robot : Robot) (name : List ℕ) → roots_from robot.joints 0 robot.links ≡ name ∷ [] → (virtual : Virtual) → bytes_eq virtual.child name ≡ bears_root robot virtual
unfolding bears_root
bears_one robot name roots virtual = sym (or_false (bytes_eq virtual.child name)) ∙ ap (list_any (bytes_eq virtual.child)) (sym roots)

-- the first virtual joint whose child is the root of the order bears a root
pub finds_root : (robot : Robot) (order : List Stem) (links : List UrdfLink) (link : UrdfLink) (at : ℕ) (virtuals : List Virtual) → IsRobot robot.links robot.joints → IsOrder robot order →
    links ≡ robot.links → at ≡ (stem_of order 1).link → link ≡ get_or links at link → find (λ virtual. bytes_eq virtual.child link.name) virtuals ≡ find (bears_root robot) virtuals
finds_root robot order links link at virtuals kept ordered el root is =
    let only = only_root robot order kept ordered in
    let low : at < length links = omega (arith, root, only.within, ap (length {A = UrdfLink}) el) in
    let there : slice_get robot.links at ≡ Some link = ap (λ (ls : List UrdfLink). slice_get ls at) (sym el) ∙ slice_get_read links (length links) at link refl low is in
    let none : IsChild robot.joints (0 + at) → ⊥ = λ child. only.no_child (moved robot.joints (0 + at) (stem_of order 1).link (omega (arith, root)) child) in
    let others : (j : ℕ) → j < length robot.links → j ≢ at → IsChild robot.joints (0 + j) =
    λ j h other. moved robot.joints j (0 + j) (omega arith) (only.only j h (λ e. other (omega (arith, e, root)))) in
    let roots = one_root robot.joints robot.links 0 at link there none others in
    ap (λ p. find p virtuals) (λ i virtual. bears_one robot link.name roots virtual i)
