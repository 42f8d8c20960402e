use Rattle.std.proofs.Common.{◌↔◌, IsTrue, inl}
use Rattle.rb_body.specs.Raw.{kind_of}
use Rattle.rb_tree.specs.Names.{entry_names, column_names, HaveCommon}
use Rattle.rb_tree.proofs.NameLaws.{common_is, second_alone}
use Rattle.rb_tree.proofs.names.share_name.Goals as goal

pub returns-then-have_common : goal.returns-then-have_common
returns-then-have_common c =
    let entries : IsTrue c.have_common.result ↔ HaveCommon (entry_names (kind_of c.args.a.now.kind) c.args.a.now.name) (entry_names (kind_of c.args.b.now.kind) c.args.b.now.name) =
    rw (← c.as_str-name.ensures.same, ← c.as_str-other.ensures.same) (common_is c.as_str-name.result.now c.entry_suffixes.result.now c.as_str-other.result.now c.entry_suffixes-2.result.now _ _ c.have_common.result c.entry_suffixes.ensures c.entry_suffixes-2.ensures c.have_common.ensures) in
    (λ t. inl (entries.0 t), λ h. c.if-have_common.true)

pub returns-else-have_common : goal.returns-else-have_common
returns-else-have_common c =
    let entries : IsTrue c.have_common.result ↔ HaveCommon (entry_names (kind_of c.args.a.now.kind) c.args.a.now.name) (entry_names (kind_of c.args.b.now.kind) c.args.b.now.name) =
    rw (← c.as_str-name.ensures.same, ← c.as_str-other.ensures.same) (common_is c.as_str-name.result.now c.entry_suffixes.result.now c.as_str-other.result.now c.entry_suffixes-2.result.now _ _ c.have_common.result c.entry_suffixes.ensures c.entry_suffixes-2.ensures c.have_common.ensures) in
    let columns : IsTrue c.have_common-else-have_common.result ↔ HaveCommon (column_names (kind_of c.args.a.now.kind) c.args.a.now.name) (column_names (kind_of c.args.b.now.kind) c.args.b.now.name) =
    rw (← c.as_str-name.ensures.same, ← c.as_str-other.ensures.same) (common_is c.as_str-name.result.now c.column_suffixes.result.now c.as_str-other.result.now c.column_suffixes-else-have_common.result.now _ _ c.have_common-else-have_common.result c.column_suffixes.ensures c.column_suffixes-else-have_common.ensures c.have_common-else-have_common.ensures) in
    second_alone c.have_common.result c.have_common-else-have_common.result _ _ entries columns c.if-have_common.false
