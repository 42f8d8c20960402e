-- Why a robot's files are refused, and its constraints.
use Rattle.std.proofs.Common.{◌≡◌, ◌<◌, ◌≤◌, ℕ, true, false, List, length, Option, Some, option_map, Result, Ok, Err, refl, sym, ◌⊎◌, inl, inr, ltb, arith, subst}
use Rattle.std.proofs.lemmas.Bool.Decides.{nat_tests}
use Rattle.rb_result.specs.Steps.{told_as}
use Rattle.rb_io.specs.declared.calls.FileFault.{FileFault}
use Rattle.rb_io.specs.declared.calls.FileFault.TheVariants as reading
use Rattle.rb_tags.specs.declared.root.RootKind.{RootKind}
use Rattle.rb_tags.specs.declared.tag.Tag.{Tag}
use Rattle.rb_tags.specs.declared.read.TagFault.{TagFault}
use Rattle.rb_tags.specs.declared.read.TagKind.{TagKind}
use Rattle.rb_tags.specs.declared.read.TagKind.TheVariants as tags_kind
use Rattle.rb_tags.specs.Tags as Tags
use Rattle.rb_tags.specs.Tags.{tags_of}
use Rattle.rb_urdf.specs.declared.faults.UrdfFault.{UrdfFault}
use Rattle.rb_urdf.specs.declared.faults.UrdfFaultKind.{UrdfFaultKind}
use Rattle.rb_urdf.specs.declared.faults.UrdfFaultKind.TheVariants as urdf_kind
use Rattle.rb_urdf.specs.Faults as Urdf
use Rattle.rb_urdf.specs.Robot.{Robot}
use Rattle.rb_urdf.specs.Urdf.{urdf_of}
use Rattle.rb_srdf.specs.declared.faults.SrdfFault.{SrdfFault}
use Rattle.rb_srdf.specs.declared.faults.SrdfFaultKind.{SrdfFaultKind}
use Rattle.rb_srdf.specs.declared.faults.SrdfFaultKind.TheVariants as srdf_kind
use Rattle.rb_srdf.specs.Faults as Srdf
use Rattle.rb_srdf.specs.Srdf.{Semantics}
use Rattle.rb_srdf.specs.Read as Read
use Rattle.rb_tree.specs.declared.faults.TreeFault.{TreeFault}
use Rattle.rb_tree.specs.declared.faults.TreeKind.{TreeKind}
use Rattle.rb_tree.specs.declared.faults.TreeKind.TheVariants as tree_kind
use Rattle.rb_tree.specs.declared.faults.WhichFile.{WhichFile}
use Rattle.rb_tree.specs.declared.faults.WhichFile.TheVariants as file
use Rattle.rb_tree.specs.Build.{Source}
use Rattle.rb_tree.specs.Refusals.{HasFault}
use Rattle.rb_tree.specs.Faults as Tree
use Rattle.rb_tree.specs.Robot.{Tree}
use Rattle.rb_constraint.specs.declared.constraints.Constraint.{Constraint}
use Rattle.rb_constraint.specs.Constraints.{AreConstraints}
use Rattle.rb_constraint.specs.File.{IsFile}
use Rattle.rbd.specs.declared.stop.ConstraintsFault.{ConstraintsFault}
use Rattle.rbd.specs.declared.stop.ConstraintsFault.TheVariants as wrong
use Rattle.rbd.specs.declared.stop.RobotFault.{RobotFault}
use Rattle.rbd.specs.declared.stop.RobotFault.TheVariants as why
use Rattle.rbd.specs.declared.stop.Refusal.{Refusal}
use Rattle.rbd.specs.declared.stop.Refusal.TheVariants as refusal
use Rattle.rbd.specs.declared.stop.ReadStop.{ReadStop}
use Rattle.rbd.specs.declared.stop.ReadStop.TheVariants as read
use Rattle.rbd.specs.Plan.{most_file, Files, files, tags_in, urdf_in, IsSemanticsIn, HasNoSemantics, IsRefusedBy, IsSource, IsUnfit, IsRefused, IsConstraintsFile, HasNoConstraints}
use Rattle.rbd.specs.Stops as stops
use Rattle.rbd.specs.Stops.{IfRefused, IfFault, file_stop, refusal_of_tags, refusal_of_urdf, refusal_of_srdf, refusal_of_tree, stop_of_refusal}

-- ---- the tags of a file
tags_short : (file : WhichFile) (bytes : List ℕ) → length bytes ≤ most_file → tags_in file bytes ≡ told_as (why.Tags file) (tags_of bytes)
unfolding tags_in
tags_short file bytes short =
    let within : ltb most_file (length bytes) ≡ false = grind (arith, nat_tests) in
    rw within refl

tags_long : (file : WhichFile) (bytes : List ℕ) → most_file < length bytes → tags_in file bytes ≡ Err (why.TooLong file)
unfolding tags_in
tags_long file bytes more =
    let past : ltb most_file (length bytes) ≡ true = grind (arith, nat_tests) in
    rw past refl

pub tags_read : (file : WhichFile) (bytes : List ℕ) (tags : List Tag) → length bytes ≤ most_file → tags_of bytes ≡ Ok tags → tags_in file bytes ≡ Ok tags
tags_read file bytes tags short is = rw (tags_short file bytes short, is) refl

of_tags_kind : (kind : TagKind) (P : RobotFault → Type 0) (fault : RobotFault) → P fault → IfRefused P (stops.tags_kind kind fault)
of_tags_kind tags_kind.Memory P fault is = tt
of_tags_kind kind P fault is = is

-- tags are refused, or no memory was found for them
pub tags_refused : (file : WhichFile) (bytes : List ℕ) (fault : TagFault) → length bytes ≤ most_file → (fault ≡ Tags.no_memory) ⊎ (tags_of bytes ≡ Err fault)
    → IfRefused (λ found. tags_in file bytes ≡ Err found) (refusal_of_tags file fault)
tags_refused file bytes fault short (inl is) = rw is tt
tags_refused file bytes fault short (inr is) =
    of_tags_kind fault.kind (λ found. tags_in file bytes ≡ Err found) (why.Tags file fault) (rw (tags_short file bytes short, is) refl)

-- a file is not read whole
pub file_refused : (file : WhichFile) (bytes : List ℕ) (fault : FileFault) (stop : ReadStop RobotFault) → stop ≡ file_stop fault (why.TooLong file) → (fault ≡ reading.TooLong → most_file < length bytes)
    → IfFault (λ found. tags_in file bytes ≡ Err found) stop
file_refused file bytes reading.TooLong stop is long = rw is (tags_long file bytes (long refl))
file_refused file bytes reading.Failed stop is long = rw is tt
file_refused file bytes reading.Memory stop is long = rw is tt

-- where it holds too much
pub long_stop : (file which : WhichFile) (fault : FileFault) (stop : ReadStop RobotFault) → stop ≡ file_stop fault (why.TooLong file) → stop ≡ read.Fault (why.TooLong which) → fault ≡ reading.TooLong
long_stop file which reading.TooLong stop is same = refl
long_stop file which reading.Failed stop is same = absurd cc
long_stop file which reading.Memory stop is same = absurd cc

-- what was refused in a file, as a stop
pub refused_so : (P : RobotFault → Type 0) (refused : Refusal RobotFault) → IfRefused P refused → IfFault P (stop_of_refusal refused)
refused_so P (refusal.Fault fault) is = is
refused_so P refusal.Memory is = tt

-- what holds of a fault that ended the reading
fault_of : (P : RobotFault → Type 0) (refused : Refusal RobotFault) (fault : RobotFault) → IfRefused P refused → stop_of_refusal refused ≡ read.Fault fault → P fault
fault_of P (refusal.Fault found) fault is same = let e : found ≡ fault = cc in subst P e is
fault_of P refusal.Memory fault is same = absurd cc

of_told : (file which : WhichFile) (tags : Result (List Tag) TagFault) → told_as (why.Tags file) tags ≡ Err (why.TooLong which) → ⊥
of_told file which (Ok tags) is = absurd cc
of_told file which (Err e) is = let same : why.Tags file e ≡ why.TooLong which = cc in absurd cc

-- a file that is not too long is not refused for its size
not_long : (file which : WhichFile) (bytes : List ℕ) → length bytes ≤ most_file → tags_in file bytes ≡ Err (why.TooLong which) → ⊥
not_long file which bytes short is = of_told file which (tags_of bytes) (rw (tags_short file bytes short) at is)

pub never_long : (file which : WhichFile) (bytes : List ℕ) (refused : Refusal RobotFault) → length bytes ≤ most_file → IfRefused (λ found. tags_in file bytes ≡ Err found) refused
    → stop_of_refusal refused ≡ read.Fault (why.TooLong which) → ⊥
never_long file which bytes refused short is same = not_long file which bytes short (fault_of (λ found. tags_in file bytes ≡ Err found) refused (why.TooLong which) is same)

-- ---- links and joints
of_urdf_kind : (kind : UrdfFaultKind) (P : RobotFault → Type 0) (fault : RobotFault) → P fault → IfRefused P (stops.urdf_kind kind fault)
of_urdf_kind urdf_kind.Memory P fault is = tt
of_urdf_kind kind P fault is = is

-- the tags of a robot's own file are refused, or no memory was found for them
pub profile_refused : (tags : List Tag) (fault : UrdfFault) → (fault ≡ Urdf.no_memory) ⊎ (urdf_of tags ≡ Err fault) → IfRefused (λ found. told_as why.Urdf (urdf_of tags) ≡ Err found) (refusal_of_urdf fault)
profile_refused tags fault (inl is) = rw is tt
profile_refused tags fault (inr is) = of_urdf_kind fault.kind (λ found. told_as why.Urdf (urdf_of tags) ≡ Err found) (why.Urdf fault) (rw is refl)

-- links and joints are read where tags are, and these tell them
pub urdf_read : (bytes : List ℕ) (tags : List Tag) (urdf : Robot) → tags_in file.Urdf bytes ≡ Ok tags → urdf_of tags ≡ Ok urdf → urdf_in bytes ≡ Ok urdf
unfolding urdf_in
urdf_read bytes tags urdf read is = rw (read, is) refl

no_urdf : (bytes : List ℕ) (fault : RobotFault) → tags_in file.Urdf bytes ≡ Err fault → urdf_in bytes ≡ Err fault
unfolding urdf_in
no_urdf bytes fault is = rw is refl

-- they are not, where tags are not
pub urdf_stopped : (bytes : List ℕ) (stop : ReadStop RobotFault) → IfFault (λ fault. tags_in file.Urdf bytes ≡ Err fault) stop → IfFault (λ fault. urdf_in bytes ≡ Err fault) stop
urdf_stopped bytes (read.Fault fault) is = no_urdf bytes fault is
urdf_stopped bytes read.Input is = tt
urdf_stopped bytes read.Memory is = tt

no_profile : (bytes : List ℕ) (tags : List Tag) (fault : RobotFault) → tags_in file.Urdf bytes ≡ Ok tags → told_as why.Urdf (urdf_of tags) ≡ Err fault → urdf_in bytes ≡ Err fault
unfolding urdf_in
no_profile bytes tags fault read is = rw read is

-- nor where the tags tell none
pub urdf_refused : (bytes : List ℕ) (tags : List Tag) (refused : Refusal RobotFault) → tags_in file.Urdf bytes ≡ Ok tags → IfRefused (λ fault. told_as why.Urdf (urdf_of tags) ≡ Err fault) refused
    → IfFault (λ fault. urdf_in bytes ≡ Err fault) (stop_of_refusal refused)
urdf_refused bytes tags (refusal.Fault fault) read is = no_profile bytes tags fault read is
urdf_refused bytes tags refusal.Memory read is = tt

of_profile : (which : WhichFile) (read : Result Robot UrdfFault) → told_as why.Urdf read ≡ Err (why.TooLong which) → ⊥
of_profile which (Ok urdf) is = absurd cc
of_profile which (Err e) is = let same : why.Urdf e ≡ why.TooLong which = cc in absurd cc

pub profile_not_long : (which : WhichFile) (tags : List Tag) (refused : Refusal RobotFault) → IfRefused (λ fault. told_as why.Urdf (urdf_of tags) ≡ Err fault) refused
    → stop_of_refusal refused ≡ read.Fault (why.TooLong which) → ⊥
profile_not_long which tags refused is same =
    of_profile which (urdf_of tags) (fault_of (λ fault. told_as why.Urdf (urdf_of tags) ≡ Err fault) refused (why.TooLong which) is same)

-- ---- groups, states and virtual joints
of_srdf_kind : (kind : SrdfFaultKind) (P : RobotFault → Type 0) (fault : RobotFault) → P fault → IfRefused P (stops.srdf_kind kind fault)
of_srdf_kind srdf_kind.Memory P fault is = tt
of_srdf_kind kind P fault is = is

-- the tags of the other file are refused, or no memory was found for them
pub semantics_refused : (tags : List Tag) (fault : SrdfFault) → (fault ≡ Srdf.no_memory) ⊎ Read.IsRefused tags fault → IfRefused (IsRefusedBy tags) (refusal_of_srdf fault)
semantics_refused tags fault (inl is) = rw is tt
semantics_refused tags fault (inr is) = of_srdf_kind fault.kind (IsRefusedBy tags) (why.Srdf fault) is

pub srdf_stopped : (bytes : List ℕ) (stop : ReadStop RobotFault) → IfFault (λ fault. tags_in file.Srdf bytes ≡ Err fault) stop → IfFault (HasNoSemantics (Some bytes)) stop
srdf_stopped bytes (read.Fault fault) is = inl is
srdf_stopped bytes read.Input is = tt
srdf_stopped bytes read.Memory is = tt

pub srdf_refused : (bytes : List ℕ) (tags : List Tag) (refused : Refusal RobotFault) → tags_in file.Srdf bytes ≡ Ok tags → IfRefused (IsRefusedBy tags) refused
    → IfFault (HasNoSemantics (Some bytes)) (stop_of_refusal refused)
srdf_refused bytes tags (refusal.Fault fault) read is = inr (record { tags = tags; tags_are = read; refused = is })
srdf_refused bytes tags refusal.Memory read is = tt

pub semantics_not_long : (which : WhichFile) (tags : List Tag) (refused : Refusal RobotFault) → IfRefused (IsRefusedBy tags) refused → stop_of_refusal refused ≡ read.Fault (why.TooLong which) → ⊥
semantics_not_long which tags refused is same = fault_of (IsRefusedBy tags) refused (why.TooLong which) is same

-- ---- the robot
of_tree_kind : (kind : TreeKind) (P : RobotFault → Type 0) (fault : RobotFault) → P fault → IfRefused P (stops.tree_kind kind fault)
of_tree_kind tree_kind.Memory P fault is = tt
of_tree_kind kind P fault is = is

-- a fault of the tree, or no memory was found for it
pub tree_refused : (source : Source) (fault : TreeFault) → (fault ≡ Tree.no_memory) ⊎ HasFault source fault → IfRefused (IsUnfit source) (refusal_of_tree fault)
tree_refused source fault (inl is) = rw is tt
tree_refused source fault (inr has) = of_tree_kind fault.kind (IsUnfit source) (why.Tree fault) has

-- ---- all files
-- what both files tell, where the second was read from inputs that hold the same
pub source_is : (root : Option RootKind) (held before : List ℕ → List ℕ) (file : List ℕ) (other : Option (List ℕ)) (urdf : Robot) (read copied : Option Semantics) → before ≡ held → copied ≡ read
    → urdf_in (held file) ≡ Ok urdf → IsSemanticsIn (option_map (λ name. before name) other) read → IsSource root (files held file other) (record { urdf = urdf; srdf = copied; root = root })
source_is root held before file other urdf read copied same copy is semantics = record {
  urdf = is;
  srdf = subst (λ (s : Option Semantics). IsSemanticsIn (option_map held other) s) (sym copy) (subst (λ (h : List ℕ → List ℕ). IsSemanticsIn (option_map (λ name. h name) other) read) same semantics);
  root_is = refl;
}

module _ (root : Option RootKind) (files : Files) where
  pub robot_stopped : (stop : ReadStop RobotFault) → IfFault (λ fault. urdf_in files.urdf ≡ Err fault) stop → IfFault (IsRefused root files) stop
  robot_stopped (read.Fault fault) is = inl is
  robot_stopped read.Input is = tt
  robot_stopped read.Memory is = tt

  pub robot_without : (urdf : Robot) (stop : ReadStop RobotFault) → urdf_in files.urdf ≡ Ok urdf → IfFault (HasNoSemantics files.srdf) stop → IfFault (IsRefused root files) stop
  robot_without urdf (read.Fault fault) read is = inr (inl (record { urdf = urdf; read = read; refused = is }))
  robot_without urdf read.Input read is = tt
  robot_without urdf read.Memory read is = tt

  pub robot_unfit : (source : Source) (refused : Refusal RobotFault) → IsSource root files source → IfRefused (IsUnfit source) refused → IfFault (IsRefused root files) (stop_of_refusal refused)
  robot_unfit source (refusal.Fault fault) read is = inr (inr (record { source = source; read = read; unfit = is }))
  robot_unfit source refusal.Memory read is = tt

pub unfit_not_long : (which : WhichFile) (source : Source) (refused : Refusal RobotFault) → IfRefused (IsUnfit source) refused → stop_of_refusal refused ≡ read.Fault (why.TooLong which) → ⊥
unfit_not_long which source refused is same = fault_of (IsUnfit source) refused (why.TooLong which) is same

-- ---- the constraints
-- a file of constraints that is not read
pub constraints_unread : (tree : Tree) (bytes : List ℕ) (fault : FileFault) (stop : ReadStop ConstraintsFault) → stop ≡ file_stop fault wrong.TooLong → (fault ≡ reading.TooLong → most_file < length bytes)
    → IfFault (HasNoConstraints tree (Some bytes)) stop
constraints_unread tree bytes reading.TooLong stop is long = rw is (long refl)
constraints_unread tree bytes reading.Failed stop is long = rw is tt
constraints_unread tree bytes reading.Memory stop is long = rw is tt

-- one that is read
pub constraints_read : (tree : Tree) (bytes held : List ℕ) (list : List Constraint) → bytes ≡ held → length bytes ≤ most_file → IsFile tree bytes list → AreConstraints list → IsConstraintsFile tree held list
constraints_read tree bytes held list same short is kept = subst (λ (b : List ℕ). IsConstraintsFile tree b list) same (record { short = short; is = is; kept = kept })
