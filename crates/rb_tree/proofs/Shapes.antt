-- What each robot keeps of a body by its number, and that its joints may follow those that they follow.
use Rattle.std.proofs.Common.{◌≡◌, ◌≤◌, ℕ, zero, suc, List, length, Option, None, Some, IfSome, subst, sym, ◌∙◌, ap, refl, arith}
use Rattle.std.specs.List.{AllByRecursion}
use Rattle.std.specs.Option.{option_map_or}
use Rattle.std.proofs.lemmas.Option.{slice_get_within}
use Rattle.rb_flat.specs.Joint as Kinds
use Rattle.rb_flat.specs.Joint.{Kind, entry_count}
use Rattle.rb_joint.specs.Any.{kind_of}
use Rattle.rb_body.specs.Raw.{link_brackets}
use Rattle.rb_body.specs.Inertia.{EnclosesInertia}
use Rattle.rb_body.specs.Joint.{EnclosesJoint}
use Rattle.rb_body.proofs.Links.{inertia_answer}
use Rattle.rb_body.proofs.Models.{joint_answer}
use Rattle.rb_tree.specs.declared.robot.Body.{Body}
use Rattle.rb_tree.specs.declared.robot.Mimic.{Mimic}
use Rattle.rb_tree.specs.Columns.{body_at}
use Rattle.rb_tree.specs.Robot.{IsBodyKept, FollowsMaster, AreBodies, IsOnlyLink, HasOwnJointName, IsOnlyJoint}
use Rattle.rb_tree.specs.Shape.{kind_at, master_of, master_at}
use Rattle.rb_tree.specs.Laws.{MimicsFitShape}
use Rattle.rb_tree.proofs.ListLaws.{item_there, All-at}

-- ---- bodies by their number
pub body_there : (bodies : List Body) (i : ℕ) → 1 ≤ i → i ≤ length bodies → (body : Body) × (body_at bodies i ≡ Some body)
body_there bodies zero low high = absurd (omega arith)
body_there bodies (suc k) low high = item_there bodies k (omega arith)

pub kept_at : (bodies : List Body) (i : ℕ) (body : Body) → AllByRecursion IsBodyKept bodies → body_at bodies i ≡ Some body → IsBodyKept body
kept_at bodies zero body all is = absurd cc
kept_at bodies (suc k) body all is = All-at IsBodyKept bodies k body all is

module _ (bodies : List Body) (kept : AreBodies bodies) (i : ℕ) (body : Body) (is : body_at bodies i ≡ Some body) where
  pub only_link : (name : List ℕ) → body.link_name ≡ name → IsOnlyLink bodies i name
  only_link name e = let P : List ℕ → Type 0 = IsOnlyLink bodies i in subst P e (kept.links i body is)

  pub only_joint : (name : List ℕ) → body.joint_name ≡ name → HasOwnJointName i body → IsOnlyJoint bodies i name
  only_joint name e own = let P : List ℕ → Type 0 = IsOnlyJoint bodies i in subst P e (kept.joints i body is own)

  pub follows : (mimic : Option Mimic) → body.mimic ≡ mimic → IfSome mimic (FollowsMaster bodies body)
  follows None e = tt
  follows (Some mimic) e = kept.follows i body mimic is e

-- what the constants of a body enclose
pub encloses_inertia : (body : Body) → IsBodyKept body → EnclosesInertia (link_brackets body.link_raw) body.inertia
encloses_inertia body kept = inertia_answer (link_brackets body.link_raw) body.inertia kept.inertia

pub encloses_joint : (body : Body) → IsBodyKept body → EnclosesJoint body.joint body.joint_raw
encloses_joint body kept =
    let raw = body.joint_raw in
    joint_answer raw.kind raw.xyz raw.rpy raw.axis (body.joint, raw) kept.joint

-- ---- shapes
-- a body that follows another
pub record Follower (o : Option Body) (master : ℕ) : Type 0 where
  pub body : Body
  pub mimic : Mimic
  pub is : o ≡ Some body
  pub mimic_is : body.mimic ≡ Some mimic
  pub master_is : mimic.master ≡ master

follower_by : (body : Body) (m : Option Mimic) (master : ℕ) → body.mimic ≡ m → master_of m ≡ Some master → Follower (Some body) master
follower_by body None master e h = absurd cc
follower_by body (Some mimic) master e h = record { body = body; mimic = mimic; is = refl; mimic_is = e; master_is = cc }

pub follower : (o : Option Body) (master : ℕ) → option_map_or (λ (b : Body). master_of b.mimic) o None ≡ Some master → Follower o master
follower None master h = absurd cc
follower (Some body) master h = follower_by body body.mimic master refl h

-- the entries and the master of a body that is there
entries_of : (bodies : List Body) (i : ℕ) (body : Body) → body_at bodies i ≡ Some body → entry_count (kind_of body.joint) ≡ 1 → entry_count (kind_at bodies i) ≡ 1
entries_of bodies i body is e = ap (λ (o : Option Body). entry_count (option_map_or (λ (b : Body). kind_of b.joint) o Kinds.Fixed)) is ∙ e

leads_at : (bodies : List Body) (i : ℕ) (body : Body) → body_at bodies i ≡ Some body → body.mimic ≡ None → master_at bodies i ≡ None
leads_at bodies i body is e = ap (λ (o : Option Body). option_map_or (λ (b : Body). master_of b.mimic) o None) is ∙ ap master_of e

there : (bodies : List Body) (i : ℕ) (body : Body) → body_at bodies i ≡ Some body → (1 ≤ i) × (i ≤ length bodies)
there bodies zero body is = absurd cc
there bodies (suc k) body is = let within = slice_get_within bodies k body is in (omega arith, omega arith)

pub mimics_fit : MimicsFitShape
mimics_fit tree kept i master has h =
    let f = follower (body_at tree.bodies i) master h in
    let m = kept.follows i f.body f.mimic f.is f.mimic_is in
    let is : body_at tree.bodies master ≡ Some m.master = ap (body_at tree.bodies) (sym f.master_is) ∙ m.is in
    let within = there tree.bodies master m.master is in
    record {
      there = record { from = within.0; to = within.1 };
      entry = entries_of tree.bodies i f.body f.is m.entry;
      master_entry = entries_of tree.bodies master m.master is m.master_entry;
      leads = leads_at tree.bodies master m.master is m.leads;
    }
