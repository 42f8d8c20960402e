use Rattle.std.proofs.Common.{◌≡◌, ◌⊎◌, ◌∙◌, Some, inr}
use Rattle.std.proofs.lemmas.Result.{IfErr-weaker}
use Rattle.rb_tree.specs.declared.faults.TreeKind.TheVariants.{UnknownName}
use Rattle.rb_tree.specs.declared.faults.WhichFile.TheVariants.{Srdf}
use Rattle.rb_tree.specs.Faults.{IsIn, no_memory}
use Rattle.rb_tree.specs.Refusals.{BearsNoLink, IsFirstSemanticsFault}
use Rattle.rb_tree.proofs.SemanticsSteps.{differ_of_slice, few_names, bears_none_of_slices, virtual_child_first}
use Rattle.rb_tree.proofs.semantics.check_virtuals.Goals as goal

pub names_of-requires : goal.names_of-requires
names_of-requires c = differ_of_slice c.args.urdf.now c.as_slice.result.now (c.as_slice.ensures ∙ c.links.ensures) c.keeps.ensures

pub check_children-requires : goal.check_children-requires
check_children-requires c = few_names c.args.urdf.now c.as_slice.result.now c.in_ok-names.names (c.as_slice.ensures ∙ c.links.ensures) c.keeps.ensures c.in_ok-names.ensures

pub returns-clause-err : goal.returns-clause-err
returns-clause-err c =
    IfErr-weaker c.check_children.result (λ fault. IsIn Srdf UnknownName fault (BearsNoLink c.in_ok-names.names c.as_slice-2.result.now fault.at))
    (λ fault. (fault ≡ no_memory) ⊎ IsFirstSemanticsFault c.args.urdf.now (Some c.args.srdf.now) fault)
    (λ fault h. inr (virtual_child_first c.args.urdf.now c.args.srdf.now fault c.requires (
      h.0,
      h.1,
      bears_none_of_slices c.args.urdf.now c.args.srdf.now c.as_slice.result.now
          c.in_ok-names.names c.as_slice-2.result.now fault.at (c.as_slice.ensures ∙ c.links.ensures) c.in_ok-names.ensures (c.as_slice-2.ensures ∙ c.virtuals.ensures.same) h.2,
    )))
    c.check_children.ensures.err
