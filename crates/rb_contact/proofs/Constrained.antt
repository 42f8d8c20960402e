-- The rows of a list of compliances are those of the constraints.
use Rattle.std.proofs.Common.{◌≡◌, ℕ, zero, suc, ◌-◌, ◌≤◌, List, Ok, Err, sym, ap, ◌∙◌, subst, arith}
use Rattle.std.specs.Prelude.{slice_index_or}
use Rattle.rb_num.specs.Interval.{Interval, zero_interval}
use Rattle.rb_num.specs.Refusing.{iv_add}
use Rattle.rb_num.specs.declared.interval.NumFault.TheVariants as N
use Rattle.rb_flat.specs.Contact.{Constraints, HasRow}
use Rattle.rb_work.specs.declared.names.RowFault.{RowFault}
use Rattle.rb_work.specs.Path.{above}
use Rattle.rb_work.specs.View.{View, columns_of, Y_at, Z_at}
use Rattle.rb_bordered.specs.Steps.{IsRow}
use Rattle.rb_bordered.specs.Coupling.{AreCoupled}
use Rattle.rb_coupling.specs.Steps.{interval_row_steps, of_row}
use Rattle.rb_coupling.specs.Couple.{HoldsCoupling, IsEntry, IsEntryRefused, IsCoupleRefused}
use Rattle.rb_contact.specs.Contact.{compliances}

pub compliances_are : (k : Constraints Interval) (mus : List Interval) → ((r : ℕ) → HasRow k r → slice_index_or mus (r - 1) zero_interval ≡ compliances k r)
    → (r : ℕ) → IsRow k.rows r → of_row mus r ≡ compliances k r
compliances_are k mus each zero there = absurd (omega (arith, there.from))
compliances_are k mus each (suc r) there =
    let place : suc r - 1 ≡ r = omega arith in
    ap (λ (j : ℕ). slice_index_or mus j zero_interval) (sym place) ∙ each (suc r) (record { from = there.from; to = there.to })

module _ (n : ℕ) (up : ℕ → ℕ) (R : ℕ) (mu nu : ℕ → Interval) (same : (r : ℕ) → IsRow R r → mu r ≡ nu r) where
  coupled_from : (Y Z : ℕ → ℕ → Interval) (alone : ℕ → Interval) (G : ℕ → ℕ → Interval) → AreCoupled interval_row_steps n up R Y Z mu alone G
      → AreCoupled interval_row_steps n up R Y Z nu alone G
  coupled_from Y Z alone G h = record {
    pairs = h.pairs;
    own = h.own;
    compliant = λ r there. subst (λ (v : Interval). iv_add (alone r) v ≡ Ok (G r r)) (same r there) (h.compliant r there);
  }

  entry_from : (Y Z : ℕ → ℕ → Interval) (q r : ℕ) (v : Interval) → IsRow R r → IsEntry n Y Z mu q r v → IsEntry n Y Z nu q r v
  entry_from Y Z q r v there (IsEntry.of_two l e) = IsEntry.of_two l e
  entry_from Y Z q r v there (IsEntry.of_one alone e s a) = IsEntry.of_one alone e s (subst (λ (m : Interval). iv_add alone m ≡ Ok v) (same r there) a)

  entry_refused_from : (Y Z : ℕ → ℕ → Interval) (q r : ℕ) → IsRow R r → IsEntryRefused n Y Z mu q r → IsEntryRefused n Y Z nu q r
  entry_refused_from Y Z q r there (IsEntryRefused.in_sum e) = IsEntryRefused.in_sum e
  entry_refused_from Y Z q r there (IsEntryRefused.in_compliance alone e s a) =
      IsEntryRefused.in_compliance alone e s (subst (λ (m : Interval). iv_add alone m ≡ Err N.Size) (same r there) a)

  earlier : (p t : ℕ) → IsRow R p → IsRow p t → IsRow R t
  earlier p t ip it = let high : t ≤ R = omega (arith, ip.to, it.to) in record { from = it.from; to = high }

  -- the same compliances of the rows are refused alike
  pub couple_refused_from : (L : ℕ → ℕ → Interval) (D : ℕ → Interval) (J : ℕ → ℕ → Interval) (e : RowFault) → IsCoupleRefused n up R L D J mu e
      → IsCoupleRefused n up R L D J nu e
  couple_refused_from L D J e (IsCoupleRefused.by_row k left Y Z l h r) = IsCoupleRefused.by_row k left Y Z l h r
  couple_refused_from L D J e (IsCoupleRefused.by_entry left Y Z q r h iq ir until refused named) =
      IsCoupleRefused.by_entry left Y Z q r h iq ir (λ p t ip it b. let x = until p t ip it b in (x.0, entry_from Y Z p t x.0 (earlier p t ip it) x.1))
      (entry_refused_from Y Z q r (earlier q r iq ir) refused) named
  couple_refused_from L D J e (IsCoupleRefused.by_elimination left Y Z alone G k table l C h coupled low until refused) =
      IsCoupleRefused.by_elimination left Y Z alone G k table l C h (coupled_from Y Z alone G coupled) low until refused

-- a work holds the coupling of the rows that it holds, also with the same compliances
pub coupling_from : (R : ℕ) (b : View) (Y Z pairs : List Interval) (mu nu : ℕ → Interval) → ((r : ℕ) → IsRow R r → mu r ≡ nu r)
    → HoldsCoupling R b (record b { Y = Y; Z = Z; pairs = pairs }) mu → HoldsCoupling R (record b { Y = Y; Z = Z; pairs = pairs }) (record b { Y = Y; Z = Z; pairs = pairs }) nu
coupling_from R b Y Z pairs mu nu same h =
    let c : View = record b { Y = Y; Z = Z; pairs = pairs } in
    record {
      left = h.left;
      alone = h.alone;
      G = h.G;
      table = h.table;
      reduced = h.reduced;
      coupled = coupled_from (columns_of c) (above c.up) R mu nu same (Y_at c) (Z_at c) h.alone h.G h.coupled;
      eliminated = h.eliminated;
      divisors = h.divisors;
    }
