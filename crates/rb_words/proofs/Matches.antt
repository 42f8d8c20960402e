-- What the matches of `clap` hold of an option, by their rows.
use Rattle.std.proofs.Common.{◌≡◌}
use Rattle.clap.specs.Matches.{first_value}
use Rattle.clap.specs.Walk.{Text, first_of, rows_of}
use Rattle.clap.specs.declared.parser.matches.Found.{Found}
use Rattle.clap.proofs.WalkLemmas.{first_value-rows}

pub text_by_rows : (found : Found) (id : Text) → first_value found id ≡ first_of id (rows_of found)
text_by_rows found id = first_value-rows found id
