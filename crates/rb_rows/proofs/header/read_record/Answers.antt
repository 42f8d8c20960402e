use Rattle.std.proofs.Common.{◌∙◌, ap, sym, subst, map, string_bytes}
use Rattle.csv.specs.Records.{fields_of}
use Rattle.rb_tags.specs.Names.{AreDifferent}
use Rattle.rb_rows.proofs.Differ.{columns_are_different}
use Rattle.rb_rows.proofs.Targets.{header_places}
use Rattle.rb_rows.proofs.header.read_record.Goals as goal

pub names_of-requires : goal.names_of-requires
names_of-requires c =
    subst AreDifferent (sym (ap (map string_bytes) c.as_slice.ensures.value ∙ c.in_ok-texts.ensures.names)) (columns_are_different c.args.robot.now c.column_texts.ensures.kept)

pub returns-clause-places : goal.returns-clause-places
returns-clause-places c row fits = header_places c.args.robot.now row (fields_of c.args.fields.now) c.in_ok-targets.targets.items c.column_texts.ensures.kept fits c.in_ok-targets.ensures.ok
