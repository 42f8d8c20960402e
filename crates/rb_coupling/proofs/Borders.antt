-- Where no pivot contains zero, the bordered equations have one solution, within what is found.
use Rattle.rb_elimination.specs.Laws.{ArePivots}
use Rattle.rb_factor.proofs.Relations.{fractions_lie, nonzero}
use Rattle.rb_bordered.proofs.Exists.{bordered_exists}
use Rattle.rb_bordered.proofs.Solves.{bordered_solves}
use Rattle.rb_coupling.specs.Laws.{BorderedEncloses}
use Rattle.rb_coupling.proofs.Meeting.{row_factors_met, forces_found_met, found_with_met}
use Rattle.rb_coupling.proofs.Enclosing.{rows_lie}

pub bordered_encloses : BorderedEncloses
unfolding rows_lie fractions_lie
bordered_encloses n up R Ls Ds Js mus Ys ls Cs ks gs ws lams xs regular divisors h row_divisors f x m L D J mu k g has within =
    let b = bordered_exists n up R L D J mu k g regular in
    let met = row_factors_met rows_lie R n up regular L D Ls Ds within.factors within.diagonal J mu b.Y b.l b.C Js mus Ys ls Cs b.factors h within.rows within.compliances in
    let forces = forces_found_met rows_lie R n up regular L D Ls Ds within.factors within.diagonal b.Y b.l b.C k g b.w b.lam Ys ls Cs ks gs ws lams b.forces f met within.torques within.accelerations in
    let pivots : ArePivots n D = λ c i. nonzero (D c) (Ds c) (within.diagonal c i) (divisors c i) in
    let row_pivots : ArePivots R b.C = λ r i. nonzero (b.C r) (Cs r) (met.pivots r i) (row_divisors r i) in
    record {
      x = b.x;
      lam = b.lam;
      one = bordered_solves n up R m L D J mu b.Y b.l b.C k g b.w b.lam b.x regular has pivots b.factors row_pivots b.forces b.found;
      columns = found_with_met rows_lie R n up regular L D Ls Ds within.factors within.diagonal b.Y b.w b.lam b.x Ys ws lams xs b.found x met.rows forces.0 forces.1;
      rows = forces.1;
    }
