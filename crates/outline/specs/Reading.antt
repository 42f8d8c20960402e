-- The robot that a file's bytes hold, or why they hold none.
use Rattle.std.specs.Prelude.{◌≡◌, ℕ, List, None, Result, Ok, Err}
use Rattle.rb_result.specs.Steps.{◌>>=◌, told_as}
use Rattle.rb_io.specs.declared.calls.FileFault.TheVariants as File
use Rattle.rb_tags.specs.Tags.{tags_of}
use Rattle.rb_tags.specs.Faults as Tags
use Rattle.rb_urdf.specs.Robot.{Robot}
use Rattle.rb_urdf.specs.Urdf.{urdf_of}
use Rattle.rb_urdf.specs.Faults as Urdf
use Rattle.rb_tree.specs.Build as Build
use Rattle.rb_tree.specs.Faults as Tree
use Rattle.rb_tree.specs.Refusals as Refusals
use Rattle.rb_tree.specs.Robot.{Tree}
use Rattle.rb_tree.specs.declared.faults.TreeFault.{TreeFault}
use Rattle.outline.specs.declared.faults.Fault.{Fault}
use Rattle.outline.specs.declared.faults.Fault.TheVariants as Is

-- want of memory, as each crate tells it
abbrev pub IsMemory : Fault → Type 0
IsMemory (Is.File why) = why ≡ File.Memory
IsMemory (Is.Tags why) = why ≡ Tags.no_memory
IsMemory (Is.Urdf why) = why ≡ Urdf.no_memory
IsMemory (Is.Tree why) = why ≡ Tree.no_memory
IsMemory Is.Memory = Unit {0}
IsMemory fault = ⊥

-- the links and joints, or the first fault on the way to them
abbrev pub urdf_in : List ℕ → Result Robot Fault
urdf_in bytes = told_as Is.Tags (tags_of bytes) >>= λ tags. told_as Is.Urdf (urdf_of tags)

-- a robot of this file alone, with a root that does not move
abbrev pub source : Robot → Build.Source
source urdf = record { urdf = urdf; srdf = None; root = None }

-- this tree is the robot
pub record IsRobotOf (bytes : List ℕ) (tree : Tree) : Type 0 where
  pub urdf : Robot
  pub read : urdf_in bytes ≡ Ok urdf
  pub built : Build.IsBuilt (source urdf) tree

-- the links and joints are no tree
pub record IsNoTree (bytes : List ℕ) (why : TreeFault) : Type 0 where
  pub urdf : Robot
  pub read : urdf_in bytes ≡ Ok urdf
  pub fault : Refusals.HasFault (source urdf) why

-- the bytes hold no robot for this fault
abbrev pub HasFault : List ℕ → Fault → Type 0
HasFault bytes (Is.Tags why) = urdf_in bytes ≡ Err (Is.Tags why)
HasFault bytes (Is.Urdf why) = urdf_in bytes ≡ Err (Is.Urdf why)
HasFault bytes (Is.Tree why) = IsNoTree bytes why
HasFault bytes fault = ⊥
