use Rattle.std.proofs.Common.{◌≡◌, sym, ap, subst, length, rules, ◌<◌, ◌-◌}
use Rattle.rb_work.specs.Path.{IsOn, packed_length}
use Rattle.rb_work.proofs.PathLaws.{TellsPlace, depth_listed, tells_place}
use Rattle.rb_work.proofs.work.Work.packed_place.Goals as goal

pub index-requires-2 : goal.index-requires-2
index-requires-2 c =
    let w = c.self.invariant in
    let e : c.self.inside.up.items ≡ c.args.self.now.up = ap (λ v. v.up) c.self.view_is in
    let h : c.args.d < length c.self.inside.depths.items =
    depth_listed _ _ _ w.sized.extent.ascends w.depths w.ends _ _ (rw e c.requires.column) (subst (λ up. IsOn up c.args.c c.args.d) (sym e) c.requires.pair) in
    search rules

pub overflow_sub-result : goal.overflow_sub-result
overflow_sub-result c =
    let w = c.self.invariant in
    let e : c.self.inside.up.items ≡ c.args.self.now.up = ap (λ v. v.up) c.self.view_is in
    (tells_place _ _ _ w.sized.extent.ascends w.depths w.ends _ _ (rw e c.requires.column) (subst (λ up. IsOn up c.args.c c.args.d) (sym e) c.requires.pair) _ _ c.index.ensures c.index-2.ensures).below

pub returns-clause-value : goal.returns-clause-value
returns-clause-value c =
    let w = c.self.invariant in
    let e : c.self.inside.up.items ≡ c.args.self.now.up = ap (λ v. v.up) c.self.view_is in
    let t : TellsPlace c.self.inside.up.items c.args.c c.args.d c.index.result.now c.index-2.result.now =
    tells_place _ _ _ w.sized.extent.ascends w.depths w.ends _ _ (rw e c.requires.column) (subst (λ up. IsOn up c.args.c c.args.d) (sym e) c.requires.pair) _ _ c.index.ensures c.index-2.ensures in
    rw (← e) t.place

pub returns-clause-within : goal.returns-clause-within
returns-clause-within c =
    let w = c.self.invariant in
    let e : c.self.inside.up.items ≡ c.args.self.now.up = ap (λ v. v.up) c.self.view_is in
    let t : TellsPlace c.self.inside.up.items c.args.c c.args.d c.index.result.now c.index-2.result.now =
    tells_place _ _ _ w.sized.extent.ascends w.depths w.ends _ _ (rw e c.requires.column) (subst (λ up. IsOn up c.args.c c.args.d) (sym e) c.requires.pair) _ _ c.index.ensures c.index-2.ensures in
    let within : c.index.result.now - c.index-2.result.now < packed_length c.self.inside.up.items = t.within in
    let p : length c.self.inside.by_column.packed.items ≡ length c.args.self.now.packed = ap (λ v. length v.packed) c.self.view_is in
    rw (← p, w.sized.packed) within
