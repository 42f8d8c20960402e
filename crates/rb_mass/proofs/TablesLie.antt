-- The mass table lies in what a pass adds up, and is zero for columns of bodies that are apart.
use Rattle.std.proofs.Common.{◌≡◌, ℕ, None, Ok}
use Rattle.rb_frac.specs.Frac.{Frac, Same, fracs}
use Rattle.rb_frac.proofs.Reduce.{same_sym, same_trans}
use Rattle.rb_num.specs.Interval.{Interval}
use Rattle.rb_num.specs.Fraction.{LiesIn}
use Rattle.rb_num.proofs.Same.{lies_in_same}
use Rattle.rb_flat.specs.Shape.{Shape, HasBody, HasColumn, ParentsComeFirst, MimicsFit, ColumnsFit}
use Rattle.rb_flat.specs.Mechanism.{Mechanism}
use Rattle.rb_flat.specs.Dynamics.{Unknowns, IsMassTable}
use Rattle.rb_flat.proofs.Superposed.{unit_of, unit_of_solves}
use Rattle.rb_composite.specs.Composite.{AreApart, IsCompositeTable, gathered, gathered_once}
use Rattle.rb_composite.proofs.Exists.{composite_table}
use Rattle.rb_composite.proofs.Gathered.{composite_is_mass_table}
use Rattle.rb_composite.proofs.Once.{each_pair_once}
use Rattle.rb_composite.proofs.Apart.{apart_is_zero}
use Rattle.rb_mass.proofs.Pass.{Given, Found, IsWithin, IsPass, entry_of}
use Rattle.rb_mass.proofs.SumsLie.{entries_lie}

module _ (shape : Shape) (m : Mechanism Frac) (parents : ParentsComeFirst shape) (mimics : MimicsFit shape) (fit : ColumnsFit shape) where
  -- there is one mass table, but for how its numbers are written
  pub one_mass_table : (s t : ℕ → ℕ → Frac) → IsMassTable shape m s → IsMassTable shape m t → (c d : ℕ) → HasColumn shape c → HasColumn shape d → Same (s c d) (t c d)
  one_mass_table s t hs ht c d hc hd =
      let unit : Unknowns Frac = unit_of shape m parents fit d in
      let solves = unit_of_solves shape m parents fit d in
      same_trans (s c d) (unit.torque c) (t c d) (hs.entry c d unit hc hd solves) (same_sym (t c d) (unit.torque c) (ht.entry c d unit hc hd solves))

  composite : ℕ → ℕ → Frac
  composite = (composite_table shape m parents).0

  is_composite : IsCompositeTable shape m composite
  unfolding composite
  is_composite = (composite_table shape m parents).1

  module _ (table : ℕ → ℕ → Frac) (is : IsMassTable shape m table) (c d : ℕ) (hc : HasColumn shape c) (hd : HasColumn shape d) where
    same_composite : Same (composite c d) (table c d)
    same_composite = one_mass_table composite table (composite_is_mass_table shape m composite parents mimics fit is_composite) is c d hc hd

    pub apart_nothing : ((i : ℕ) → HasBody shape i → shape.mimic i ≡ None) → AreApart shape (shape.owner c) (shape.owner d) → Same (table c d) fracs.nul
    apart_nothing lead apart =
        same_trans (table c d) (composite c d) fracs.nul (same_sym (composite c d) (table c d) same_composite)
        (apart_is_zero shape m composite fit lead is_composite c d hc hd apart)

    module _ (g : Given) (w : Found) (within : IsWithin shape m g) (pass : IsPass shape g w) (v : Interval) (found : entry_of shape g w c d ≡ Ok v) where
      pub table_lies : LiesIn (table c d) v
      table_lies =
          let once = gathered_once shape m is_composite.pair c d in
          let all = gathered shape m is_composite.pair c d in
          lies_in_same once (table c d) v
          (same_trans once all (table c d) (each_pair_once shape m is_composite.inertia is_composite.pair parents is_composite.pairs c d)
          (same_trans all (composite c d) (table c d) (same_sym (composite c d) all (is_composite.entry c d hc hd)) same_composite))
          (entries_lie shape m g w parents fit within pass is_composite.inertia is_composite.composites is_composite.pair is_composite.pairs c d v found)
