use Rattle.std.proofs.Common.{◌≡◌, ap, subst}
use Rattle.rb_work.specs.Path.{IsOn}
use Rattle.rb_work.proofs.PathLaws.{on_self}
use Rattle.rb_work.proofs.work.Work.pivot_place.Goals as goal

pub packed_place-requires-clause-pair : goal.packed_place-requires-clause-pair
packed_place-requires-clause-pair c =
    let e : c.self.inside.up.items ≡ c.args.self.now.up = ap (λ v. v.up) c.self.view_is in
    subst (λ up. IsOn up c.args.c c.args.c) e (on_self _ c.self.invariant.sized.extent.ascends _ c.requires.from)
