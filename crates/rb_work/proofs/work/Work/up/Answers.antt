use Rattle.std.proofs.Common.{◌≡◌, ◌<◌, ◌≤◌, ap, length, arith}
use Rattle.rb_work.specs.Path.{above}
use Rattle.rb_work.proofs.PathLaws.{above_listed}
use Rattle.rb_work.proofs.work.Work.up.Goals as goal

pub returns-clause-less : goal.returns-clause-less
returns-clause-less c =
    let e : length c.self.inside.up.items ≡ length c.args.self.now.up = ap (λ v. length v.up) c.self.view_is in
    let to : c.args.c ≤ length c.self.inside.up.items = omega (arith, c.requires.to) in
    let h : above c.self.inside.up.items c.args.c < c.args.c = c.self.invariant.sized.extent.ascends _ c.requires.from to in
    let k : c.index.result.now ≡ above c.self.inside.up.items c.args.c = above_listed _ _ _ c.requires.from to c.index.ensures in
    omega arith
