use Rattle.std.proofs.Common.{◌≡◌, ◌≤◌, ◌+◌, [], length}
use Rattle.std.specs.Prelude.{codes}
use Rattle.rb_tags.specs.Elements.{elements}
use Rattle.rb_urdf.specs.Links.{links_after}
use Rattle.rb_urdf.proofs.link.read_links.Given as goal
use Rattle.rb_urdf.specs.Robot.{names_of_links}

-- what is left gives the links that are missing
abbrev pub invariant-loop-rest : goal.invariant-loop-rest
invariant-loop-rest l = record {
  links : links_after [] (elements (codes "link") 1 l.fn.tags) ≡ links_after l.links.items (elements (codes "link") 1 l.rest);
  names : l.names ≡ names_of_links l.links.items;
  few : length l.links.items + length l.rest ≤ length l.fn.tags;
}

abbrev pub decreases-loop-rest : goal.decreases-loop-rest
decreases-loop-rest l = length l.rest
